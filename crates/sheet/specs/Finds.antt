-- What each function of a round adds, as rows q and their concepts k.
use Rattle.std.specs.Prelude.{◌≡◌, ◌↔◌, ◌⊎◌, List, ℕ, ◌+◌, ◌*◌, ◌<◌, length}
use Rattle.kinds.specs.Kinds.{most_states, base}
use Rattle.laws.specs.Loops.{Witness}
use Rattle.sets.specs.Bits.{Has}
use Rattle.sets.specs.Relations.{Relates, pair, At, states_at, concepts_at, relation_at}
use Rattle.sets.specs.declared.concepts.ConceptSet.{ConceptSet}
use Rattle.sets.specs.declared.states.StateSet.{StateSet}
use Rattle.rules.specs.declared.rows.Edge.{Edge}
use Rattle.rules.specs.declared.rows.Rows.{Rows}
use Rattle.rules.specs.Rows.{most_edges, Lists, edge, May, Gets}
use Rattle.sheet.specs.declared.marks.Marks.{Marks}
use Rattle.sheet.specs.Pairs.{By, ByState, ByPair, PutTo, RowAt, Blank}

-- ---- rows as they are

-- the rows of s, of pairs that may have a mark; of every state
abbrev pub RowsFrom : Marks → ℕ → ℕ → ℕ → Type 0
RowsFrom marks s = ByPair marks.pairs s (RowAt marks.rows s)

abbrev pub AllRows : Marks → ℕ → ℕ → Type 0
AllRows marks = ByState (RowsFrom marks)

-- all rows of every state, whatever marks they have
abbrev pub EachRow : List ConceptSet → ℕ → ℕ → Type 0
EachRow rows = ByState (λ s. ByState (RowAt rows s))

-- ---- where two marks meet

-- what a row and row j have both, put into row i
pub record Join (rows : List ConceptSet) (row i j q k : ℕ) : Type 0 where
  pub there : q ≡ i
  pub has : Has row k
  pub goes : At rows j k

-- a row of (s, u), by the marks of the sheet from u to t; each row of the delta from s
abbrev pub Left : Marks → ℕ → ℕ → ℕ → ℕ → ℕ → Type 0
Left sheet row s u = ByPair sheet.pairs u (λ t. Join sheet.rows row (pair s t) (pair u t))

abbrev pub Lefts : Marks → Marks → ℕ → ℕ → ℕ → Type 0
Lefts delta sheet s =
    ByPair delta.pairs s (λ u. Left sheet (concepts_at delta.rows (pair s u)) s u)

-- the marks of the sheet from r to s, by the rows of the delta from s; those of each r
abbrev pub Right : Marks → Marks → ℕ → ℕ → ℕ → ℕ → Type 0
Right delta sheet s r = ByPair delta.pairs s
    (λ u. Join delta.rows (concepts_at sheet.rows (pair r s)) (pair r u) (pair s u))

abbrev pub Rights : Marks → Marks → ℕ → ℕ → ℕ → Type 0
Rights delta sheet s = ByState (Right delta sheet s)

abbrev pub JoinedFrom : Marks → Marks → ℕ → ℕ → ℕ → Type 0
JoinedFrom delta sheet s q k = Lefts delta sheet s q k ⊎ Rights delta sheet s q k

abbrev pub Joins : Marks → Marks → ℕ → ℕ → Type 0
Joins delta sheet = ByState (JoinedFrom delta sheet)

-- ---- down to a child, and back up

-- the set has the concepts of a state's rows; of all rows
pub record HasFrom (rows : List ConceptSet) (D : ℕ → Type 0) (s all : ℕ) : Type 0 where
  pub has : (t : ℕ) → D t → (k : ℕ) → At rows (pair s t) k → Has all k

pub record HasAll (marks : Marks) (D : ℕ → Type 0) (all : ℕ) : Type 0 where
  pub has : (s : ℕ) → D s → HasFrom marks.rows (Has (states_at marks.pairs s)) s all

-- new leads nowhere but where old does by the relations without P
pub record Forgets (P : ℕ → Type 0) (old new : List (List StateSet)) : Type 0 where
  pub long : length new ≡ length old
  pub at : (R s t : ℕ) → Relates (relation_at new R) s t
      → Relates (relation_at old R) s t × (P R → ⊥)

-- from s to t by the role numbered i; by each role of D
pub record PutLoop (s t i R a b : ℕ) : Type 0 where
  pub low : i < most_edges
  pub of : R ≡ i
  pub from : a ≡ s
  pub to : b ≡ t

abbrev pub PutLoops : (ℕ → Type 0) → ℕ → ℕ → ℕ → ℕ → ℕ → Type 0
PutLoops D s t R a b = Witness D (λ i. PutLoop s t i R a b)

-- from s to t by each role R with a mark there at "has a neighbour by R"
pub record RowLoop (rows : List ConceptSet) (s t R a b : ℕ) : Type 0 where
  pub low : R < most_edges
  pub from : a ≡ s
  pub to : b ≡ t
  pub marked : At rows (pair s t) (base + R)

abbrev pub LoopsFrom : Marks → ℕ → ℕ → ℕ → ℕ → Type 0
LoopsFrom marks s R a b =
    Witness (Has (states_at marks.pairs s)) (λ t. RowLoop marks.rows s t R a b)

abbrev pub AllLoops : Marks → ℕ → ℕ → ℕ → Type 0
AllLoops marks R a b = Witness (λ s. s < most_states) (λ s. LoopsFrom marks s R a b)

-- for each role of a set the relation of all marks at "has a neighbour by" that role
pub record AreLoops (marks : Marks) (roles : ℕ) (loops : List (List StateSet)) : Type 0 where
  pub at : (R a b : ℕ) → Has roles R → Relates (relation_at loops R) a b ↔ AllLoops marks R a b

-- down an edge from s to x, along a relation to y, and back up to t
pub record Trip (loops : List StateSet) (edge : Edge) (s t : ℕ) : Type 0 where
  pub x : ℕ
  pub y : ℕ
  pub down : Relates edge.down s x
  pub along : Relates loops x y
  pub up : Relates edge.up y t

-- the parents of an edge, put into the row of s and t
abbrev pub PutParents : Edge → ℕ → ℕ → ℕ → ℕ → Type 0
PutParents edge = PutTo edge.parents.0

abbrev pub TripsFrom : List StateSet → Edge → ℕ → ℕ → ℕ → Type 0
TripsFrom loops edge s = By (Trip loops edge s) (PutParents edge s)

-- the rows have all that the trips of an edge put
pub record HasTrips (loops : List StateSet) (edge : Edge) (rows : List ConceptSet) : Type 0 where
  pub has : (q k : ℕ) → ByState (TripsFrom loops edge) q k → At rows q k

-- a relation leads nowhere but where the other one does
pub record IsPart (small great : List StateSet) : Type 0 where
  pub leads : (s t : ℕ) → Relates small s t → Relates great s t

-- after the trips of the last edge along its loops, those of an edge along others put nothing more
pub record AddsNothing (last_loops : List StateSet) (last : Edge) (loops : List StateSet)
    (edge : Edge) : Type 0 where
  pub parents : edge.parents.0 ≡ last.parents.0
  pub down : IsPart edge.down last.down
  pub up : IsPart edge.up last.up
  pub along : IsPart loops last_loops

-- the parents of the edges to a child that is known by "has a neighbour by" a role, put after trips
abbrev pub ThroughEdges : List (List StateSet) → Rows → ℕ → ℕ → ℕ → Type 0
ThroughEdges loops rows R =
    By (Lists rows.edges_to R) (λ e. ByState (TripsFrom (relation_at loops R) (edge rows e)))

-- down an edge from s to x, along a mark at the child to y, and back up to t
pub record ThroughChild (delta : List ConceptSet) (edge : Edge) (R q k : ℕ) : Type 0 where
  pub s : ℕ
  pub x : ℕ
  pub y : ℕ
  pub t : ℕ
  pub s_low : s < most_states
  pub x_low : x < most_states
  pub y_low : y < most_states
  pub role_low : R < most_edges
  pub down : Relates edge.down s x
  pub along : At delta (pair x y) (base + R)
  pub up : Relates edge.up y t
  pub parents : PutParents edge s t q k

abbrev pub ThroughChildren : List ConceptSet → Rows → ℕ → ℕ → Type 0
ThroughChildren delta rows q k =
    (R : ℕ) × By (Lists rows.edges_to R) (λ e. ThroughChild delta (edge rows e) R) q k

-- ---- what is new

-- a candidate that is not in the sheet, and may be marked
pub record NewAt (rows : Rows) (sheet candidates : List ConceptSet) (s t k : ℕ) : Type 0 where
  pub candidate : At candidates (pair s t) k
  pub absent : At sheet (pair s t) k → ⊥
  pub may : May rows s t k

pub record PutNew (rows : Rows) (sheet candidates : List ConceptSet) (s t q k : ℕ) : Type 0 where
  pub there : q ≡ pair s t
  pub new : NewAt rows sheet candidates s t k

abbrev pub NewFrom : Rows → List ConceptSet → Marks → ℕ → ℕ → ℕ → Type 0
NewFrom rows sheet candidates s =
    ByPair candidates.pairs s (PutNew rows sheet candidates.rows s)

-- rows that have exactly what is new
pub record AreNew (rows : Rows) (sheet candidates new : List ConceptSet) : Type 0 where
  pub long : length new ≡ most_states * most_states
  pub at : (s t k : ℕ) → s < most_states → t < most_states → At new (pair s t) k
      ↔ NewAt rows sheet candidates s t k

-- ---- a round

-- one round, from a sheet and its delta to more and the next delta
pub record IsTurn (rows : Rows) (sheet : List ConceptSet) (delta more : Marks)
    (next : List ConceptSet) : Type 0 where
  pub blank : List ConceptSet
  pub one : List ConceptSet
  pub two : List ConceptSet
  pub puts : Gets (AllRows delta) sheet more.rows
  pub none : Blank blank
  pub joins : Gets (Joins delta more) blank one
  pub through : Gets (ThroughChildren delta.rows rows) one two
  pub new : AreNew rows more.rows two next

-- from a state to itself, each concept that may be marked there
pub record Own (rows : Rows) (s q k : ℕ) : Type 0 where
  pub there : q ≡ pair s s
  pub may : May rows s s k

-- round 0, and what round 1 adds to it: tests, and what uses a mark of round 0
pub record FirstTurn (rows : Rows) (sheet : Marks) (next : List ConceptSet) : Type 0 where
  pub empty : List ConceptSet
  pub first : Marks
  pub blank : List ConceptSet
  pub zero : List ConceptSet
  pub one : List ConceptSet
  pub two : List ConceptSet
  pub bare : Blank empty
  pub own : Gets (ByState (Own rows)) empty sheet.rows
  pub same : first.rows ≡ sheet.rows
  pub none : Blank blank
  pub tests : Gets (EachRow rows.tests) blank zero
  pub joins : Gets (Joins first sheet) zero one
  pub through : Gets (ThroughChildren first.rows rows) one two
  pub new : AreNew rows sheet.rows two next
