-- A line's text, two characters at a time, in an array.
use Rattle.std.proofs.Common.{ℕ, ◌≡◌, ◌+◌, ◌*◌, ◌/◌, ◌%◌, ◌<◌, List, [], ◌∷◌, ◌++◌, length, take, get_or, sym, ap, ◌∙◌, refl}
use Rattle.std.proofs.Common.{arith, append_assoc}
use Rattle.std.proofs.Math.ListN.{set, length-set}
use Rattle.std.proofs.lemmas.List.{take_all, take_more, take_more_set, flat_map_more}
use Rattle.std.specs.List.{flat_map}
use Rattle.frames.specs.Text.{character, characters, text}

take_two : (s : List ℕ) (i x y : ℕ) → i + 1 < length s → take (i + 1 + 1) (set (set s i x) (i + 1) y) ≡ take i s ++ (x ∷ y ∷ [])
take_two s i x y h =
    take_more_set (set s i x) (i + 1) y (omega (arith, length-set s i x))
    ∙ ap (λ (l : List ℕ). l ++ y ∷ []) (take_more_set s i x (omega arith))
    ∙ append_assoc (take i s) (x ∷ []) (y ∷ [])

pub spelled_more : (s bs : List ℕ) (i x y : ℕ) → i < length bs → 2 * i + 1 < length s → x ≡ character (get_or bs i 0 / 16)
    → y ≡ character (get_or bs i 0 % 16)
    → take (2 * i) s ≡ flat_map characters (take i bs)
    → take (2 * (i + 1)) (set (set s (2 * i) x) (2 * i + 1) y) ≡ flat_map characters (take (i + 1) bs)
spelled_more s bs i x y inside fits ex ey so =
    let two : 2 * (i + 1) ≡ 2 * i + 1 + 1 = omega arith in
    let last : (x ∷ y ∷ []) ≡ characters (get_or bs i 0) = rw (ex, ey) refl in
    ap (λ j. take j (set (set s (2 * i) x) (2 * i + 1) y)) two
    ∙ take_two s (2 * i) x y fits
    ∙ ap (λ (l : List ℕ). l ++ (x ∷ y ∷ [])) so
    ∙ ap (λ (l : List ℕ). flat_map characters (take i bs) ++ l) last
    ∙ flat_map_more characters [] (take i bs) (get_or bs i 0)
    ∙ ap (flat_map characters) (sym (take_more bs i 0 inside))

pub spelled_all : (s bs : List ℕ) (i j : ℕ) → j ≡ 2 * i → i ≡ length bs → length s ≡ j + 1
    → take (2 * i) s ≡ flat_map characters (take i bs)
    → set s j 0x0A ≡ text bs
unfolding text
spelled_all s bs i j ej all long so =
    let whole : take i bs ≡ bs = take_all i bs (omega arith) in
    let full : take (j + 1) (set s j 0x0A) ≡ set s j 0x0A = take_all (j + 1) (set s j 0x0A) (omega (arith, length-set s j 0x0A)) in
    sym full ∙ take_more_set s j 0x0A (omega arith) ∙ ap (λ k. take k s ++ 0x0A ∷ []) ej
    ∙ ap (λ (l : List ℕ). l ++ 0x0A ∷ []) (so ∙ ap (flat_map characters) whole)
