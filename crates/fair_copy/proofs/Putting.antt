-- The lines of a table's records, put one after the other.
use Rattle.std.specs.Prelude.{◌≡◌, refl, ℕ, zero, suc, ◌+◌, ◌-◌, ◌<◌, ◌≤◌, ◌/◌, List, [], ◌∷◌, ◌++◌, map, length, Result, Ok, Err, IsErrAnd, IfErr}
use Rattle.std.proofs.Common.{Bor, sym, ap, ◌∙◌, arith, append-nil, take, drop, get_or}
use Rattle.std.specs.List.{flat_map}
use Rattle.std.proofs.lemmas.List.{map-append, take_more, take-append-drop}
use Rattle.std.proofs.lemmas.Grind.{flat_map-append}
use Rattle.laws.specs.Numbers.{upto, numbered}
use Rattle.meaning.specs.Lent.{records}
use Rattle.frames.specs.Text.{text}
use Rattle.frames.specs.Written.{frame_bytes}
use Rattle.frames.specs.declared.Frame.{Frame}
use Rattle.fair_copy.specs.Copy.{frames_text}

-- an error that is passed on as it came
pub passed_on : {A E : Type 0} (r : Result A E) (e : E) (Q : E → Type 0) → IsErrAnd r (λ d. d ≡ e) → Q e → IfErr r Q
passed_on (Ok x) e Q h q = tt
passed_on (Err d) e Q h q = rw h q

-- the text of some frames and of others after them
pub text-append : (fs gs : List Frame) → frames_text (fs ++ gs) ≡ frames_text fs ++ frames_text gs
unfolding frames_text
text-append fs gs = flat_map-append (λ f. text (frame_bytes f)) fs gs

pub text_one : (f : Frame) → text (frame_bytes f) ≡ frames_text (f ∷ [])
unfolding frames_text
text_one f = sym (append-nil (text (frame_bytes f)))

-- nothing has an empty text
pub text_none : frames_text [] ≡ []
unfolding frames_text
text_none = refl

upto-parts : (k m i : ℕ) → upto (k + m) i ≡ upto k i ++ upto m (i + k)
unfolding upto
upto-parts zero m i = let e : i + 0 ≡ i = omega arith in let z : 0 + m ≡ m = omega arith in rw (e, z) refl
upto-parts (suc k) m i =
    let e : suc i + k ≡ i + suc k = omega arith in
    let n : suc k + m ≡ suc (k + m) = omega arith in
    ap (λ j. upto j i) n ∙ ap (λ l. i ∷ l) (upto-parts k m (suc i)) ∙ ap (λ j. upto (suc k) i ++ upto m j) e

module _ {A : Type 0} (width : ℕ) (read : List ℕ → ℕ → A) (frame : A → Frame) (t : List ℕ) where
  -- the frames of the first k records, and of those from k on
  abbrev pub firsts : ℕ → List Frame
  firsts k = map frame (numbered (read t) k)

  abbrev pub lasts : ℕ → ℕ → List Frame
  lasts m k = map frame (map (read t) (upto m k))

  parts : (k m : ℕ) → firsts (k + m) ≡ firsts k ++ lasts m k
  unfolding numbered
  parts k m =
      let z : 0 + k ≡ k = omega arith in
      ap (λ l. map frame (map (read t) l)) (rw z at (upto-parts k m 0))
      ∙ ap (map frame) (map-append (read t) (upto k 0) (upto m k))
      ∙ map-append frame (map (read t) (upto k 0)) (map (read t) (upto m k))

  pub first-text : (k : ℕ) → frames_text (firsts (k + 1)) ≡ frames_text (firsts k) ++ frames_text (frame (read t k) ∷ [])
  unfolding upto
  first-text k = ap frames_text (parts k 1) ∙ text-append (firsts k) (lasts 1 k)

  -- all of them begin with the first
  pub all-text : (k : ℕ) → k < length t / width
      → frames_text (map frame (records width read t)) ≡ frames_text (firsts (k + 1))
      ++ frames_text (lasts (length t / width - (k + 1)) (k + 1))
  unfolding records
  all-text k h =
      let m = length t / width - (k + 1) in
      let e : length t / width ≡ k + 1 + m = omega arith in
      ap (λ n. frames_text (firsts n)) e ∙ ap frames_text (parts (k + 1) m) ∙ text-append (firsts (k + 1)) (lasts m (k + 1))

  pub none-text : frames_text (firsts 0) ≡ []
  unfolding numbered upto frames_text
  none-text = refl

  pub whole-text : (k : ℕ) → length t / width ≤ k → k ≤ length t / width
      → frames_text (map frame (records width read t)) ≡ frames_text (firsts k)
  unfolding records
  whole-text k h i = let e : length t / width ≡ k = omega arith in ap (λ n. frames_text (firsts n)) e

-- the lines of the records before the next one are put
pub record ArePut {S A : Type 0} (takes : S → List ℕ → S → Type 0) (width : ℕ) (read : List ℕ → ℕ → A) (frame : A
    → Frame) (old new : S) (numbers table : Bor (List ℕ)) (next : ℕ) : Type 0 where
  pub same : table ≡ numbers
  pub within : next ≤ length numbers.now / width
  pub put : takes old (frames_text (firsts width read frame numbers.now next)) new

module _ {S A E : Type 0} (takes : S → List ℕ → S → Type 0) (fails : S → List ℕ → E → S → Type 0) (width : ℕ) (read : List ℕ → ℕ
    → A) (frame : A → Frame) (old : S) (numbers : Bor (List ℕ)) where
  pub none_put : (table : Bor (List ℕ)) (next : ℕ) → takes old [] old → table ≡ numbers → next ≡ 0
      → ArePut takes width read frame old old numbers table next
  none_put table next t e z = record {
    same = e;
    within = omega (arith, z);
    put = rw (z, none-text width read frame numbers.now) t;
  }

  module _ (mid : S) (table : Bor (List ℕ)) (next : ℕ) (p : ArePut takes width read frame old mid numbers table next) (one : A)
      (is : one ≡ read table.now next) where
    one-is : frames_text (frame one ∷ []) ≡ frames_text (frame (read numbers.now next) ∷ [])
    one-is = ap (λ x. frames_text (frame x ∷ [])) (is ∙ ap (λ (b : Bor (List ℕ)). read b.now next) p.same)

    -- one more is put
    pub more_put : (new : S) (table' : Bor (List ℕ)) (after : ℕ) → next < length table.now / width → after ≡ next + 1 → table' ≡ table
        → takes mid (frames_text (frame one ∷ [])) new
        → ((x y : List ℕ) → takes old x mid → takes mid y new → takes old (x ++ y) new)
        → ArePut takes width read frame old new numbers table' after
    more_put new table' after h e s t join =
        let b = ap (λ (b : Bor (List ℕ)). length b.now / width) p.same in
        let j = join _ _ p.put (rw one-is at t) in
        record {
          same = s ∙ p.same;
          within = omega (arith, h, e, b);
          put = rw e (rw (← first-text width read frame numbers.now next) at j);
        }

    -- it fails at one more
    pub failed_put : (e : E) (new : S) → next < length table.now / width → fails mid (frames_text (frame one ∷ [])) e new
        → ((x y : List ℕ) → takes old x mid → fails mid y e new → fails old (x ++ y) e new)
        → ((x y : List ℕ) → fails old x e new → fails old (x ++ y) e new)
        → fails old (frames_text (map frame (records width read numbers.now))) e new
    failed_put e new h f after before =
        let b = ap (λ (b : Bor (List ℕ)). length b.now / width) p.same in
        let a = after _ _ p.put (rw one-is at f) in
        let z = before _ (frames_text (lasts width read frame numbers.now (length numbers.now / width - (next + 1)) (next + 1))) (rw
        (← first-text width read frame numbers.now next) at a) in
        rw (all-text width read frame numbers.now next (omega (arith, h, b))) z

  -- all are put
  pub whole_put : (new : S) (table : Bor (List ℕ)) (next : ℕ) → ArePut takes width read frame old new numbers table next
      → length table.now / width ≤ next
      → takes old (frames_text (map frame (records width read numbers.now))) new
  whole_put new table next p h =
      let b = ap (λ (b : Bor (List ℕ)). length b.now / width) p.same in
      rw (whole-text width read frame numbers.now next (omega (arith, h, b)) p.within) p.put

-- ---- part after part
module _ {P : Type 0} (f : P → List Frame) (ps : List P) where
  abbrev before : ℕ → List Frame
  before i = flat_map f (take i ps)

  pub part-more : (i : ℕ) (d : P) → i < length ps → frames_text (before (i + 1)) ≡ frames_text (before i)
      ++ frames_text (f (get_or ps i d))
  part-more i d h =
      ap (λ l. frames_text (flat_map f l)) (take_more ps i d h)
      ∙ ap frames_text (flat_map-append f (take i ps) (get_or ps i d ∷ []))
      ∙ text-append (before i) (f (get_or ps i d) ++ [])
      ∙ ap (λ l. frames_text (before i) ++ frames_text l) (append-nil (f (get_or ps i d)))

  pub part-whole : (i : ℕ) → frames_text (flat_map f ps) ≡ frames_text (before i) ++ frames_text (flat_map f (drop i ps))
  part-whole i =
      ap (λ l. frames_text (flat_map f l)) (sym (take-append-drop i ps))
      ∙ ap frames_text (flat_map-append f (take i ps) (drop i ps))
      ∙ text-append (before i) (flat_map f (drop i ps))
