-- The vectors of a line's front, lane by lane.
use Rattle.std.specs.Prelude.{ℕ, zero, suc, ◌+◌, ◌-◌, ◌*◌, ◌%◌, ◌^◌, ◌<◌, ◌≡◌, true, cond, ltb, eqb, List, [], ◌∷◌, length, map, replicate, take, slice_index, bit_or}
use Rattle.std.proofs.Common.{refl, sym, ap, ◌∙◌, subst, arith, get_or, eqb-true, w8, Fits}
use Rattle.std.proofs.lemmas.Bool.{agree_below, agree_below_at}
use Rattle.std.proofs.lemmas.List.{get_or-take}
use lib.Lanes.{zip2, sel_l, top, Each1}
use Rattle.frames.specs.Pairs.{HasLanes, worth, byte_by}

-- what the operations do in one lane
abbrev sum : ℕ → ℕ → ℕ
sum a b = (a + b) % 2 ^ 8

abbrev times : ℕ → ℕ → ℕ
times a b = (a * b) % 2 ^ 8

abbrev less : ℕ → ℕ → ℕ
less a b = (a + (2 ^ 8 - b)) % 2 ^ 8

abbrev below : ℕ → ℕ → ℕ
below a b = cond (ltb a b) 255 0

abbrev left : ℕ → ℕ
left a = 255 - a

-- what two vectors have in common
common-long : (hs ls : List ℕ) → length hs ≡ length ls → length (zip2 bit_or hs ls) ≡ length hs
common-long [] ls e = refl
common-long (h ∷ hs) [] e = absurd (omega arith)
common-long (h ∷ hs) (l ∷ ls) e = ap suc (common-long hs ls (omega arith))

common-at : (hs ls : List ℕ) (k : ℕ) → k < length hs → length hs ≡ length ls
    → get_or (zip2 bit_or hs ls) k 0 ≡ bit_or (get_or hs k 0) (get_or ls k 0)
common-at [] ls k h e = absurd (omega arith)
common-at (h ∷ hs) [] k i e = absurd (omega arith)
common-at (h ∷ hs) (l ∷ ls) zero i e = refl
common-at (h ∷ hs) (l ∷ ls) (suc k) i e = common-at hs ls k (omega arith) (omega arith)

-- the bytes that they make
abbrev made : ℕ → List ℕ → List ℕ → List ℕ
made n hs ls = zip2 sum (zip2 times hs (replicate n 16)) ls

made-long : (hs ls : List ℕ) → length hs ≡ length ls → length (made (length hs) hs ls) ≡ length hs
made-long [] ls e = refl
made-long (h ∷ hs) [] e = absurd (omega arith)
made-long (h ∷ hs) (l ∷ ls) e = ap suc (made-long hs ls (omega arith))

made-at : (hs ls : List ℕ) (k : ℕ) → k < length hs → length hs ≡ length ls
    → get_or (made (length hs) hs ls) k 0 ≡ byte_by (get_or hs k 0) (get_or ls k 0)
made-at [] ls k h e = absurd (omega arith)
made-at (h ∷ hs) [] k i e = absurd (omega arith)
made-at (h ∷ hs) (l ∷ ls) zero i e = omega arith
made-at (h ∷ hs) (l ∷ ls) (suc k) i e = made-at hs ls k (omega arith) (omega arith)

module _ (hs ls : List ℕ) (p : length hs ≡ 8) (q : length ls ≡ 8) where
  same : length hs ≡ length ls
  same = p ∙ sym q

  pub common_lanes : HasLanes 8 (zip2 bit_or hs ls) (λ k. bit_or (slice_index hs k) (slice_index ls k))
  common_lanes = record { long = common-long hs ls same ∙ p; lanes = λ k h. common-at hs ls k (omega (arith, h, p)) same }

  pub made_lanes : HasLanes 8 (made 8 hs ls) (λ k. byte_by (slice_index hs k) (slice_index ls k))
  made_lanes = subst (λ n. HasLanes 8 (made n hs ls) (λ k. byte_by (slice_index hs k) (slice_index ls k))) p
      (record { long = made-long hs ls same ∙ p; lanes = λ k h. made-at hs ls k (omega (arith, h, p)) same })

-- what the characters are worth
abbrev decimals : ℕ → List ℕ → List ℕ
decimals n xs = zip2 less xs (replicate n 48)

abbrev capped : ℕ → List ℕ → List ℕ
capped n ys = sel_l (map (top 7) (zip2 below (replicate n 10) (map left ys))) (replicate n 10) (map left ys)

abbrev letters : ℕ → List ℕ → List ℕ
letters n xs = zip2 sum (zip2 less xs (replicate n 65)) (capped n (zip2 less xs (replicate n 65)))

abbrev worths : ℕ → List ℕ → List ℕ
worths n xs = sel_l (map (top 7) (zip2 below (decimals n xs) (replicate n 10))) (decimals n xs) (letters n xs)

abbrev one : ℕ → ℕ
one x = cond (top 7 (below (less x 48) 10)) (less x 48) (sum (less x 65) (cond (top 7 (below 10 (left (less x 65)))) 10 (left (less x 65))))

all_agree : agree_below (λ x. eqb (one x) (worth x)) (λ _. true) 256 ≡ true
unfolding worth
all_agree = refl

one_worth : (x : ℕ) → x < 256 → one x ≡ worth x
one_worth x h = eqb-true _ _ (agree_below_at (λ x. eqb (one x) (worth x)) (λ _. true) 256 x all_agree h)

worths-long : (xs : List ℕ) → length (worths (length xs) xs) ≡ length xs
worths-long [] = refl
worths-long (x ∷ xs) = ap suc (worths-long xs)

worths-at : (xs : List ℕ) (k : ℕ) → k < length xs → Each1 (Fits w8) xs → get_or (worths (length xs) xs) k 0 ≡ worth (get_or xs k 0)
worths-at [] k h f = absurd (omega arith)
worths-at (x ∷ xs) zero h f = one_worth x f.0.fits
worths-at (x ∷ xs) (suc k) h f = worths-at xs k (omega arith) f.1

pub worth_lanes : (xs held : List ℕ) → length xs ≡ 16 → Each1 (Fits w8) xs → xs ≡ take 16 held
    → HasLanes 16 (worths 16 xs) (λ k. worth (slice_index held k))
worth_lanes xs held p f e = record {
  long = subst (λ n. length (worths n xs) ≡ n) p (worths-long xs);
  lanes = λ k h.
      subst (λ n. get_or (worths n xs) k 0 ≡ worth (get_or xs k 0)) p (worths-at xs k (omega (arith, h, p)) f)
      ∙ ap (λ l. worth (get_or l k 0)) e ∙ ap worth (get_or-take 16 held k 0 h);
}
