-- The facts of a collection one after another: the marks so far, and those of what is left, are made by the tests of single facts.
use Rattle.std.specs.Prelude.{◌≡◌, refl, Bool, ℕ, suc, ◌+◌, ◌<◌, ◌≤◌, ◌/◌, Option, None, Some, List, [], ◌∷◌, ◌++◌, length, take, drop, set, get_or}
use Rattle.std.specs.List.{Contains}
use Rattle.std.proofs.Common.{sym, ap, ◌∙◌, ⊎_elim, arith, append_assoc, append-nil, length-set}
use Rattle.std.proofs.Math.Seq.{drop-cons}
use Rattle.std.proofs.Math.ListN.{drop_of_length-le}
use Rattle.std.proofs.lemmas.List.{take_more_set, take_all}
use Rattle.std.proofs.lemmas.Option.{slice_get_within, get_or_from_slice_get}
use mathlib.Core.List.Memᴰ
use Rattle.kinds.specs.declared.ConceptName.{ConceptName}
use Rattle.kinds.specs.declared.RoleName.{RoleName}
use Rattle.kinds.specs.declared.Individual.{Individual}
use Rattle.kinds.specs.declared.Counts.{Counts}
use Rattle.kinds.specs.Kinds.{CountsFit}
use Rattle.laws.specs.Member.{◌∈◌}
use Rattle.laws.specs.Numbers.{numbered-out}
use Rattle.meaning.specs.Collection.{Collection, WellFormed, Each, ConceptFactDeclared, RoleFactDeclared}
use Rattle.meaning.specs.Lent.{Tables, collection, records, role_fact_width, role_fact}
use Rattle.salvage.specs.declared.Typed.{Typed}
use Rattle.salvage.specs.declared.Typed.TheVariants.{ConceptFact, RoleFact, Other}
use Rattle.salvage.specs.Salvages.{◌◂◌}
use Rattle.salvage.specs.Facts.{Fact, of, between, FactDeclared, entries_by, entries_of, IsSalvage}
use Rattle.salvage.specs.Tests.{Tested, none, other, good, bad}
use Rattle.salvage.proofs.SalvageLaws.{longer}
use Rattle.salvage.proofs.EntryLaws.{collection_declared}
use Rattle.salvage.proofs.TestLaws.{tests_salvage}
use Rattle.tables.specs.declared.records.ConceptFact as fact
use Rattle.tables.specs.declared.records.RoleFact as joined
use Rattle.sift.specs.declared.entries.TypedFact.{TypedFact}
use Rattle.sift.specs.declared.entries.TypedFact.TheVariants as typed
use Rattle.sift.specs.declared.entries.FactsLeft.{FactsLeft}
use Rattle.sift.specs.declared.excluded.Excluded.{Excluded}
use Rattle.sift.specs.declared.steps.HeldRows.{HeldRows}
use Rattle.sift.specs.Excludes.{Excludes}
use Rattle.sift.specs.Pairs.{pair_number, ArePairs}
use Rattle.sift.specs.Entries.{entry_of, concepts_left, roles_left, GivesEntry}
use Rattle.sift.specs.Steps.{dropped, kept, ConceptStepped, JoinedStepped, RoleStepped, EntryStepped, EntryHasRows}
use Rattle.sift.proofs.Holding.{Holds, HasPlace, name_means, role_means, concept_kept, role_kept}

-- an entry is declared, and the pair of a role fact has a place
abbrev pub IsReady : Counts → List ℕ → Option Fact → Type 0
IsReady c pairs None = Unit {0}
IsReady c pairs (Some (of A a)) = ConceptFactDeclared c (A, a)
IsReady c pairs (Some (between r a b)) = RoleFactDeclared c (r, a, b) × Contains pairs (pair_number a.0 b.0)

-- so its numbers have rows
pub ready_rows : (c : Counts) (pairs : List ℕ) → CountsFit c → (e : Option TypedFact) → IsReady c pairs (entry_of e) → EntryHasRows pairs e
ready_rows c pairs fit None h = tt
ready_rows c pairs fit (Some (typed.Concept f)) h =
    record { name = omega (arith, fit.names, h.0); individual = omega (arith, fit.individuals, h.1) }
ready_rows c pairs fit (Some (typed.Role f)) h = record {
  rows = record {
    role = omega (arith, fit.roles, h.0.0);
    first = omega (arith, fit.individuals, h.0.1);
    second = omega (arith, fit.individuals, h.0.2);
  };
  has = h.1;
}

-- what holds of each fact of two tables holds of the entries that an order makes of them
module _ (c : Counts) (pairs : List ℕ) where
  made_ready : (order : List Typed) (cs : List (ConceptName × Individual)) (rs : List (RoleName × Individual × Individual))
      → Each cs (λ f. IsReady c pairs (Some (of f.0 f.1))) → Each rs (λ f. IsReady c pairs (Some (between f.0 f.1 f.2)))
      → Each (entries_by order cs rs) (IsReady c pairs)
  made_ready [] cs rs g h x m = absurd (Memᴰ.not-nil m)
  made_ready (ConceptFact ∷ o) [] rs g h x m = ⊎_elim (λ e. rw e tt) (λ k. made_ready o [] rs g h x k) (Memᴰ.cases_cons m)
  made_ready (ConceptFact ∷ o) (f ∷ cs) rs g h x m =
      ⊎_elim (λ e. rw e (g f (Memᴰ.head refl))) (λ k. made_ready o cs rs (λ y i. g y (Memᴰ.tail i)) h x k) (Memᴰ.cases_cons m)
  made_ready (RoleFact ∷ o) cs [] g h x m = ⊎_elim (λ e. rw e tt) (λ k. made_ready o cs [] g h x k) (Memᴰ.cases_cons m)
  made_ready (RoleFact ∷ o) cs (f ∷ rs) g h x m =
      ⊎_elim (λ e. rw e (h f (Memᴰ.head refl))) (λ k. made_ready o cs rs g (λ y i. h y (Memᴰ.tail i)) x k) (Memᴰ.cases_cons m)
  made_ready (Other ∷ o) cs rs g h x m = ⊎_elim (λ e. rw e tt) (λ k. made_ready o cs rs g h x k) (Memᴰ.cases_cons m)

pub collection_ready : (c : Counts) (t : Tables) (pairs : List ℕ) → WellFormed (collection c t) → ArePairs t.role-facts pairs
    → (order : List Typed)
    → Each (entries_of (collection c t) order) (IsReady c pairs)
unfolding records
collection_ready c t pairs ok p order =
    made_ready c pairs order (collection c t).concept-facts (collection c t).role-facts (λ f m. ok.numbers.concept-facts f m)
    (λ f m. (ok.numbers.role-facts f m, paired f m))
  where
    paired : (f : RoleName × Individual × Individual) → f ∈ records role_fact_width role_fact t.role-facts
        → Contains pairs (pair_number f.1.0 f.2.0)
    paired f m =
        let w = numbered-out (role_fact t.role-facts) (length t.role-facts / role_fact_width) m in
        rw w.2 (p.has w.0 w.1)

module _ (𝓒 : Collection) (pairs : List ℕ) where
  -- a step from the facts kept before: those kept behind it, and how marks of what is left go on
  pub record Onward (before : List Fact) (e : Option Fact) (b : Bool) (held : HeldRows) : Type 0 where
    pub after : List Fact
    pub declared : Each after (FactDeclared 𝓒.counts)
    pub holds : Holds 𝓒 pairs after held
    pub goes : (rest : List (Option Fact)) (marks : List Bool) → Tested 𝓒 after rest marks → Tested 𝓒 before (e ∷ rest) (b ∷ marks)

  module _ (ok : WellFormed 𝓒) (x : Excluded) (tables : Excludes 𝓒 x) (ps : (facts : List ℕ) × ArePairs facts pairs)
      (before : List Fact) (declared : Each before (FactDeclared 𝓒.counts)) (old : HeldRows) (h : Holds 𝓒 pairs before old) where
    more_declared : (y : Fact) → FactDeclared 𝓒.counts y → Each (before ◂ y) (FactDeclared 𝓒.counts)
    more_declared y d z m = ⊎_elim (λ k. declared z k) (λ e. rw e d) (longer m)

    concept_onward : (f : fact.ConceptFact) (b : Bool) (new : HeldRows) → ConceptFactDeclared 𝓒.counts (f.name, f.individual)
        → ConceptStepped x old f b new → Onward before (Some (of f.name f.individual)) b new
    concept_onward f b new d (dropped c) = record {
      after = before;
      declared = declared;
      holds = h;
      goes = λ rest marks t. bad ((name_means 𝓒 ok before declared x tables pairs old h f d.0).0 c) t;
    }
    concept_onward f b new d (kept n u) = record {
      after = before ◂ of f.name f.individual;
      declared = more_declared (of f.name f.individual) d;
      holds = concept_kept 𝓒 pairs before old new h f (omega (arith, ok.counts.names, d.0)) u;
      goes = λ rest marks t. good (λ c. n ((name_means 𝓒 ok before declared x tables pairs old h f d.0).1 c)) t;
    }

    module _ (f : joined.RoleFact) (d : RoleFactDeclared 𝓒.counts (f.role, f.first, f.second)) (p : ℕ) (place : HasPlace pairs p f) where
      role_onward : (b : Bool) (new : HeldRows) → RoleStepped x old f p b new → Onward before (Some (between f.role f.first f.second)) b new
      role_onward b new (dropped c) = record {
        after = before;
        declared = declared;
        holds = h;
        goes = λ rest marks t. bad ((role_means 𝓒 ok before declared x tables pairs old h f p d.0 place).0 c) t;
      }
      role_onward b new (kept n u) = record {
        after = before ◂ between f.role f.first f.second;
        declared = more_declared (between f.role f.first f.second) d;
        holds = role_kept 𝓒 pairs before old new h ps.1.rises f p place u;
        goes = λ rest marks t. good (λ c. n ((role_means 𝓒 ok before declared x tables pairs old h f p d.0 place).1 c)) t;
      }

    place_is : (f : joined.RoleFact) → RoleFactDeclared 𝓒.counts (f.role, f.first, f.second) → (b : Bool) (new : HeldRows)
        → (s : JoinedStepped x pairs old f b new) → HasPlace pairs s.place f
    place_is f d b new s = record {
      inside = slice_get_within pairs s.place (pair_number f.first.0 f.second.0) s.found;
      number = get_or_from_slice_get pairs s.place (pair_number f.first.0 f.second.0) 0 s.found;
      first = omega (arith, ok.counts.individuals, d.1);
      second = omega (arith, ok.counts.individuals, d.2);
    }

    pub onward : (e : Option TypedFact) (b : Bool) (new : HeldRows) → IsReady 𝓒.counts pairs (entry_of e) → EntryStepped x pairs old e b new
        → Onward before (entry_of e) b new
    onward None b new d s = record {
      after = before;
      declared = declared;
      holds = rw s.1 h;
      goes = λ rest marks t. rw s.0 (other t);
    }
    onward (Some (typed.Concept f)) b new d s = concept_onward f b new d s
    onward (Some (typed.Role f)) b new d s = role_onward f d.0 s.place (place_is f d.0 b new s) b new s.stepped

  -- ---- the loop over an order

  abbrev pub left : List Typed → ℕ → FactsLeft → List (Option Fact)
  left order k facts = entries_by (drop k order) (concepts_left facts) (roles_left facts)

  pub record Sifting (order : List Typed) (marks : List Bool) (k : ℕ) (facts : FactsLeft) (held : HeldRows) : Type 0 where
    pub long : length order ≡ length marks
    pub before : List Fact
    pub declared : Each before (FactDeclared 𝓒.counts)
    pub holds : Holds 𝓒 pairs before held
    pub ready : Each (left order k facts) (IsReady 𝓒.counts pairs)
    pub goes : (rest : List Bool) → Tested 𝓒 before (left order k facts) rest → Tested 𝓒 [] (entries_of 𝓒 order) (take k marks ++ rest)

  module _ (order : List Typed) (marks : List Bool) (k : ℕ) (facts new : FactsLeft) (held : HeldRows) (i : Sifting order marks k facts held)
      (inside : k < length order) (d : Typed) (e : Option TypedFact) (g : GivesEntry (get_or order k d) facts e new) where
    split : left order k facts ≡ entry_of e ∷ left order (k + 1) new
    split =
        let a = drop-cons order k d inside in
        let f : suc k ≡ k + 1 = omega arith in
        ap (λ (o : List Typed). entries_by o (concepts_left facts) (roles_left facts)) (rw f at a) ∙ g.goes (drop (k + 1) order)

    pub next_ready : IsReady 𝓒.counts pairs (entry_of e)
    next_ready = i.ready (entry_of e) (rw split (Memᴰ.head refl))

    pub sifting_more : WellFormed 𝓒 → (x : Excluded) → Excludes 𝓒 x → (facts : List ℕ) → ArePairs facts pairs → (b : Bool) (next : HeldRows)
        → EntryStepped x pairs held e b next → Sifting order (set marks k b) (k + 1) new next
    sifting_more ok x tables roles ps b next s =
        let o = onward ok x tables (roles, ps) i.before i.declared held i.holds e b next next_ready s in
        record {
          long = i.long ∙ sym (length-set marks k b);
          before = o.after;
          declared = o.declared;
          holds = o.holds;
          ready = λ y m. i.ready y (rw split (Memᴰ.tail m));
          goes = λ rest u.
              rw (take_more_set marks k b (omega (arith, i.long)), append_assoc (take k marks) (b ∷ []) rest)
              (i.goes (b ∷ rest) (rw split (o.goes (left order (k + 1) new) rest u)));
        }

  pub sifted : WellFormed 𝓒 → (order : List Typed) (marks : List Bool) (k : ℕ) (facts : FactsLeft) (held : HeldRows)
      → Sifting order marks k facts held → length order ≤ k → IsSalvage 𝓒 (entries_of 𝓒 order) marks
  sifted ok order marks k facts held i end =
      let e = drop_of_length-le order end in
      let t = i.goes [] (rw e none) in
      (tests_salvage 𝓒 ok (entries_of 𝓒 order) marks (collection_declared 𝓒 ok order)).0
      (rw (append-nil (take k marks), take_all k marks (omega (arith, i.long))) at t)
