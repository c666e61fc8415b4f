-- Moving a stored area, and moving it back, have one outcome each, and each takes back the other.
use Rattle.std.specs.Prelude.{refl, List, ℕ, Ok, Err, IsOk}
use Rattle.std.proofs.Common.{sym, ◌∙◌}
use Rattle.meaning.specs.Former.{IsMoved}
use Rattle.meaning.proofs.FormerLaws.{moved-once, back-once, moved-exactly, former-there, moved-after-rounds, back-after-rounds}
use Rattle.sheet.specs.declared.former.Unmoved.TheVariants.{BadLength, StateAbove15}
use Rattle.sheet.specs.Former.{Verdict, MovesFrom, MovesBack, OneMoved, OneMovedBack, ThereAndBack, BackAndThere, SheetMoved, SheetMovedBack}

-- where it is moved, it is so
from-ok : (stored old new : List ℕ) (r : Verdict) → MovesFrom stored old r new → IsOk r → IsMoved stored new
from-ok stored old new (Ok done) v e = v.moved
from-ok stored old new (Err wrong) v e = absurd cc

back-ok : (area old new : List ℕ) (r : Verdict) → MovesBack area old r new → IsOk r → IsMoved new area
back-ok area old new (Ok done) v e = v.moved
back-ok area old new (Err wrong) v e = absurd cc

-- THEOREM: one outcome
pub one-moved : OneMoved
one-moved stored old (Ok done) (Ok same) x y a b = (refl, moved-once stored x y a.moved b.moved)
one-moved stored old (Ok done) (Err wrong) x y a b = let e = b.ok.1 (a.ok.0 refl) in absurd cc
one-moved stored old (Err wrong) (Ok done) x y a b = let e = a.ok.1 (b.ok.0 refl) in absurd cc
one-moved stored old (Err BadLength) (Err BadLength) x y a b = (refl, a.unwritten ∙ sym b.unwritten)
one-moved stored old (Err StateAbove15) (Err wrong) x y a b = let e = a.bad_length.1 (λ long. let o = a.ok.1 long in absurd cc) in absurd cc
one-moved stored old (Err BadLength) (Err StateAbove15) x y a b = let e = b.bad_length.1 (λ long. let o = b.ok.1 long in absurd cc) in absurd cc

pub one-moved-back : OneMovedBack
one-moved-back area old (Ok done) (Ok same) x y a b = (refl, back-once x y area a.moved b.moved)
one-moved-back area old (Ok done) (Err wrong) x y a b = let e = b.ok.1 (a.ok.0 refl) in absurd cc
one-moved-back area old (Err wrong) (Ok done) x y a b = let e = a.ok.1 (b.ok.0 refl) in absurd cc
one-moved-back area old (Err BadLength) (Err BadLength) x y a b = (refl, a.unwritten ∙ sym b.unwritten)
one-moved-back area old (Err StateAbove15) (Err StateAbove15) x y a b = (refl, a.unwritten ∙ sym b.unwritten)
one-moved-back area old (Err StateAbove15) (Err BadLength) x y a b = absurd (b.bad_length.0 refl (a.above.0 refl).long)
one-moved-back area old (Err BadLength) (Err StateAbove15) x y a b = absurd (a.bad_length.0 refl (b.above.0 refl).long)

-- THEOREM: moved and moved back it is as it was
pub there-and-back : ThereAndBack
there-and-back stored old area r v o other back q w long =
    let m = from-ok stored old area r v o in
    let none = (moved-exactly area (record { long = m.holds.long; bytes = m.holds.bytes })).0 (stored, m) in
    let k = w.ok.1 (record { long = record { stored-long = long; area-long = m.holds.long }; below = none }) in
    (k, back-once back stored area (back-ok area other back q w k) m)

pub back-and-there : BackAndThere
back-and-there area old stored r v o other again q w long =
    let m = back-ok area old stored r v o in
    let k = w.ok.1 (record { stored-long = m.whole.long; area-long = long }) in
    (k, moved-once stored again area (from-ok stored other again q w k) m)

-- THEOREM: a collection's sheet is moved, and moved back
pub sheet-moved : SheetMoved
sheet-moved 𝓒 ok few n stored old area r lays v long =
    let k = v.ok.1 (record { stored-long = lays.long; area-long = long }) in
    (k, (moved-after-rounds 𝓒 ok few n stored area lays).0 (from-ok stored old area r v k))

pub sheet-moved-back : SheetMovedBack
sheet-moved-back 𝓒 ok few n area old stored r lays v long =
    let w = former-there 𝓒 ok few n in
    let m = (back-after-rounds 𝓒 ok few n w.0 area lays).1 w.1 in
    let none = (moved-exactly area (record { long = lays.long; bytes = lays.bytes })).0 (w.0, m) in
    let k = v.ok.1 (record { long = record { stored-long = long; area-long = lays.long }; below = none }) in
    (k, (back-after-rounds 𝓒 ok few n stored area lays).0 (back-ok area old stored r v k))
