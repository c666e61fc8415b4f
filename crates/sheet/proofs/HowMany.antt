-- Whether a round adds any mark.
use Rattle.std.specs.Prelude.{◌≡◌, refl, ◌↔◌, IsTrue, ℕ, suc, List, [], ◌∷◌, length, nat_eq}
use Rattle.std.proofs.Common.{sym, ◌∙◌, ⊎_elim, arith, rules}
use mathlib.Core.List.Memᴰ
use Rattle.laws.specs.Member.{◌∈◌}
use Rattle.kinds.specs.Kinds.{most_states}
use Rattle.theory.specs.Sheet.{Mark, Unchanged}
use Rattle.theory.specs.Marks.{Added}
use Rattle.theory.proofs.SheetLaws.{mark-markable}
use Rattle.sets.specs.declared.concepts.ConceptSet.{ConceptSet}
use Rattle.rules.specs.declared.rows.Rows.{Rows}
use Rattle.rules.specs.Rows.{kind_of}
use Rattle.rules.proofs.Able.{low_of}
use Rattle.sheet.specs.Pairs.{total}
use Rattle.sheet.specs.Sheets.{Holds}
use Rattle.sheet.specs.Listed.{marks_in}
use Rattle.sheet.proofs.ListedLaws.{marks_has, marks_are, marks_many}
use Rattle.sheet.proofs.Theory.{split, known}

module _ {A : Type 0} where
  some_member : (l : List A) (x : A) → x ∈ l → length l ≡ 0 → ⊥
  some_member [] x m e = Memᴰ.not-nil m
  some_member (y ∷ l) x m e = omega arith

  no_member : (l : List A) → ((x : A) → x ∈ l → ⊥) → length l ≡ 0
  no_member [] h = refl
  no_member (x ∷ l) h = absurd (h x (Memᴰ.head refl))

-- nothing is added exactly when one more round leaves the sheet as it is
module _ (rows : Rows) (n : ℕ) (next : List ConceptSet) (h : Holds (Added (kind_of rows) n) next) where
  module _ (sheet : List ConceptSet) (hs : Holds (Mark (kind_of rows) n) sheet) where
    none_unchanged : total next most_states ≡ 0 → Unchanged (kind_of rows) n
    none_unchanged e s t B m = ⊎_elim (λ p. p) (λ a. absurd (no a)) (split (kind_of rows) n (known rows n sheet hs) s t B m)
      where
        no : Added (kind_of rows) n s t B → ⊥
        no a =
            let l = low_of rows s t B (mark-markable (kind_of rows) (suc n) s t B m) in
            some_member (marks_in next) (s, t, B) (marks_has next s t B l.from l.to l.of ((h.at s t B l.from l.to l.of).1 a))
            (sym (marks_many next) ∙ e)

    unchanged_none : Unchanged (kind_of rows) n → total next most_states ≡ 0
    unchanged_none still = marks_many next ∙ no_member (marks_in next) none
      where
        none : (x : ℕ × ℕ × ℕ) → x ∈ marks_in next → ⊥
        none (s, t, B) m =
            let l = marks_are next s t B m in
            let a = (h.at s t B l.from l.to l.of).0 l.stands in
            a.before (still s t B a.then)

    pub closed_is : (adds : ℕ) → adds ≡ total next most_states → IsTrue (nat_eq adds 0) ↔ Unchanged (kind_of rows) n
    closed_is adds e = (
      λ t. none_unchanged (let q : adds ≡ 0 = search (rules, t) in sym e ∙ q),
      λ still. let q = e ∙ unchanged_none still in rw q (search rules),
    )
