-- What was put for the rounds that were told, and where that failed.
use Rattle.std.specs.Prelude.{ℕ, suc, ◌+◌, ◌≡◌, refl, List, [], ◌∷◌, ◌++◌, length}
use Rattle.std.proofs.Common.{sym, ap, ◌∙◌, subst, append_assoc, append-nil, arith}
use Rattle.sheet.specs.declared.round_marks.RoundMarks.{RoundMarks}
use Rattle.sheet.specs.Told.{Told, Failed, none, next}

-- the texts for the marks of some rounds in a row, of which the first is round n, one after another
module _ (line : ℕ → RoundMarks → List ℕ) where
  abbrev pub texts : ℕ → List RoundMarks → List ℕ
  texts n [] = []
  texts n (marks ∷ rounds) = line n marks ++ texts (suc n) rounds

  texts-append : (n : ℕ) (x y : List RoundMarks) → texts n (x ++ y) ≡ texts n x ++ texts (n + length x) y
  texts-append n [] y = ap (λ i. texts i y) (omega arith)
  texts-append n (marks ∷ x) y =
      let later : suc n + length x ≡ n + suc (length x) = omega arith in
      ap (λ (l : List ℕ). line n marks ++ l) (texts-append (suc n) x y ∙ ap (λ i. texts (suc n) x ++ texts i y) later)
      ∙ sym (append_assoc (line n marks) (texts (suc n) x) _)

  -- those of one round more
  texts-last : (rounds : List RoundMarks) (marks : RoundMarks) → texts 0 (rounds ++ marks ∷ []) ≡ texts 0 rounds ++ line (length rounds) marks
  texts-last rounds marks =
      let z : 0 + length rounds ≡ length rounds = omega arith in
      texts-append 0 rounds (marks ∷ []) ∙ ap (λ n. texts 0 rounds ++ texts n (marks ∷ [])) z
      ∙ ap (λ (l : List ℕ). texts 0 rounds ++ l) (append-nil (line (length rounds) marks))

-- a listener that puts a text for the marks of each round to one thing, which keeps its name, and keeps what these texts go by
module _ {L S E K : Type 0} (name : L → ℕ) (kept : L → K) (to : L → S) (line : K → ℕ → RoundMarks → List ℕ)
    (takes : S → List ℕ → S → Type 0) (fails : S → List ℕ → E → S → Type 0) where
  abbrev pub Hears : L → ℕ → RoundMarks → L → Type 0
  Hears old round marks new = (name new ≡ name old) × (kept new ≡ kept old) × takes (to old) (line (kept old) round marks) (to new)

  abbrev pub Fails : L → ℕ → RoundMarks → E → L → Type 0
  Fails old round marks e new = (name new ≡ name old) × (kept new ≡ kept old) × fails (to old) (line (kept old) round marks) e (to new)

  module _ (nothing : (a : S) → takes a [] a) (more : (a b c : S) (x y : List ℕ) → takes a x b → takes b y c → takes a (x ++ y) c)
      (from : L) where
    abbrev text : List RoundMarks → List ℕ
    text rounds = texts (line (kept from)) 0 rounds

    -- THEOREM: the texts of the rounds told were put
    pub rounds-put : {rounds : List RoundMarks} {l : L} → Told Hears from rounds l
        → (name l ≡ name from) × (kept l ≡ kept from) × takes (to from) (text rounds) (to l)
    rounds-put none = (refl, refl, nothing (to from))
    rounds-put (next {rounds = rounds} {to = l} {marks = marks} t (same, keeps, took)) =
        let (name-is, kept-is, put) = rounds-put t in
        let here = rw kept-is at took in (
          same ∙ name-is,
          keeps ∙ kept-is,
          subst (λ (out : List ℕ). takes (to from) out (to l)) (sym (texts-last (line (kept from)) rounds marks)) (more _ _ _ _ _ put here),
        )

    module _ (after : (a b c : S) (x y : List ℕ) (e : E) → takes a x b → fails b y e c → fails a (x ++ y) e c)
        (before : (a b : S) (x y : List ℕ) (e : E) → fails a x e b → fails a (x ++ y) e b) where
      -- THEOREM: where it failed it failed at the texts of all of them
      pub rounds-failed : (rounds rest : List RoundMarks) (e : E) (l : L) → Failed Hears Fails from rounds e l
          → (name l ≡ name from) × fails (to from) (text (rounds ++ rest)) e (to l)
      rounds-failed rounds rest e l f =
          let (name-is, kept-is, put) = rounds-put f.told in
          let failed = rw kept-is at f.failed.2 in
          let here : fails (to from) (text (f.before ++ f.last ∷ [])) e (to l) =
          subst (λ (out : List ℕ). fails (to from) out e (to l)) (sym (texts-last (line (kept from)) f.before f.last))
          (after _ _ _ _ _ _ put failed) in
          let all : fails (to from) (text rounds) e (to l) =
          subst (λ (r : List RoundMarks). fails (to from) (text r) e (to l)) (sym f.all) here in (
            f.failed.0 ∙ name-is,
            subst (λ (out : List ℕ). fails (to from) out e (to l)) (sym (texts-append (line (kept from)) 0 rounds rest))
                (before _ _ _ _ _ all),
          )
