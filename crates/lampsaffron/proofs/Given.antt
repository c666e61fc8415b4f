-- What a call gives is fixed by what is passed.
use Rattle.std.specs.Prelude.{◌≡◌, List, ℕ}
use Rattle.std.proofs.Common.{ap, sym, ◌∙◌, ext_get_or, arith}
use Rattle.std.proofs.lemmas.Option.{get_or_from_slice_get}
use Rattle.kinds.specs.Answer.{answer_number, answer_count}
use Rattle.meaning.specs.Lent.{Call}
use Rattle.meaning.proofs.OutcomeLaws.{outcome-unique}
use Rattle.index.specs.Preparation.{Preparation}
use Rattle.index.proofs.Unique.{in-turn-once}
use Rattle.lampsaffron.specs.Boundary.{pair_count, pair_at, Gives, Tells}
use Rattle.lampsaffron.specs.Row.{TellsRow}

-- THEOREM: number, count and both areas are fixed by the call
pub gives-once : (c : Call) (m n j k : ℕ) (x y u v : List ℕ) → Gives c m j x y → Gives c n k u v → (m ≡ n) × (j ≡ k) × (x ≡ u) × (y ≡ v)
gives-once c m n j k x y u v a b =
    let e = outcome-unique c a.outcome b.outcome in
    (a.number_is ∙ ap answer_number e.0 ∙ sym b.number_is, a.count_is ∙ ap answer_count e.0 ∙ sym b.count_is, e.1, e.2)

-- THEOREM: each number and count of a row, and both areas, are fixed by the call
pub row-once : (p : Preparation) (t area spare numbers numbers' counts counts' x y u v : List ℕ)
    → TellsRow p t area spare numbers counts x y
    → TellsRow p t area spare numbers' counts' u v → (numbers ≡ numbers') × (counts ≡ counts') × (x ≡ u) × (y ≡ v)
row-once p t area spare numbers numbers' counts counts' x y u v a b =
    let f = a.fits in
    let g = b.fits in
    let w = in-turn-once p (pair_at t) (Tells numbers counts) (Tells numbers' counts') area spare (pair_count t) a.in_turn b.in_turn in (
      ext_get_or 0 numbers numbers' (f.number_each ∙ sym g.number_each) (λ k h.
          let s = w.2 k (omega (arith, h, f.number_each)) in
          get_or_from_slice_get numbers k _ 0 s.one.number ∙ sym (get_or_from_slice_get numbers' k _ 0 s.other.number)),
      ext_get_or 0 counts counts' (f.count_each ∙ sym g.count_each) (λ k h.
          let s = w.2 k (omega (arith, h, f.count_each)) in
          get_or_from_slice_get counts k _ 0 s.one.count ∙ sym (get_or_from_slice_get counts' k _ 0 s.other.count)),
      w.0,
      w.1,
    )
