-- A reader that takes a byte more.
use Rattle.std.specs.Prelude.{ℕ, ◌≡◌, ◌+◌, ◌-◌, ◌*◌, ◌<◌, ◌≤◌, ◌↔◌, List, [], ◌∷◌, ◌++◌, slice_index}
use Rattle.std.specs.Int.RustNames.{bit_or}
use Rattle.std.proofs.Common.{refl, sym, ap, ◌∙◌, arith}
use Rattle.std.proofs.Math.Decide.{ℕ_discrete, dec_lt}
use Rattle.std.proofs.lemmas.Nat.{or_lt, le_or_l, le_or_r}
use Rattle.frames.specs.Digits.{digit_of, bytes}
use Rattle.frames.specs.Frames.{marks_of}
use Rattle.frames.specs.Pairs.{worth, byte_read, common_read, Digits}
use Rattle.frames.specs.Reader.{Gathered, Advanced, ReadsWhole}
use Rattle.frames.specs.declared.reader.Reader.{Reader}
use Rattle.frames.proofs.Worth.{worth_small}
use Rattle.frames.proofs.Lengths.{marks_more}

-- what three numbers have in common is below 16 exactly where each is
in_common : (w a b : ℕ) → (bit_or w (bit_or a b) < 16) ↔ ((w < 16) × (a < 16) × (b < 16))
in_common w a b = (
  λ h. (
    omega (arith, le_or_l w (bit_or a b)),
    omega (arith, le_or_r w (bit_or a b), le_or_l a b),
    omega (arith, le_or_r w (bit_or a b), le_or_r a b),
  ),
  λ h. or_lt 4 w (bit_or a b) h.0 (or_lt 4 a b h.1 h.2),
)

module _ (line : List ℕ) (n : ℕ) where
  abbrev high : ℕ
  high = worth (slice_index line (2 * n))

  abbrev low : ℕ
  low = worth (slice_index line (2 * n + 1))

  digits-more : Digits line (2 * n) → high < 16 → low < 16 → Digits line (2 * (n + 1))
  digits-more d h l j inside = by (dec_lt j (2 * n)) (ℕ_discrete j (2 * n))
    where
      by : Dec (j < 2 * n) → Dec (j ≡ 2 * n) → digit_of (slice_index line j) < 16
      by (yes before) any = d j before
      by (no past) (yes first) = rw first ((worth_small _).0 h)
      by (no past) (no other) = let e : j ≡ 2 * n + 1 = omega (arith, past, other) in rw e ((worth_small _).0 l)

  gathered-more : (w : ℕ) → (w < 16) ↔ Digits line (2 * n)
      → (bit_or w (bit_or high low) < 16) ↔ Digits line (2 * (n + 1))
  gathered-more w g =
      let c = in_common w high low in (
        λ h. let p = c.0 h in digits-more (g.0 p.0) p.1 p.2,
        λ d. c.1 (
          g.1 (λ j h. d j (omega arith)),
          (worth_small _).1 (d (2 * n) (omega arith)),
          (worth_small _).1 (d (2 * n + 1) (omega arith)),
        ),
      )

pub advanced : (r : Reader) → Gathered r
    → Advanced r (record r { at = r.at + 1; wrong = bit_or r.wrong (common_read r.line.now r.at) })
advanced r g = record { line = refl; at = refl; gathered = record { digits = gathered-more r.line.now r.at r.wrong g.digits } }

-- the marks so far are those of the bytes so far
pub record MarksSoFar (first r : Reader) (marks : List ℕ) : Type 0 where
  pub line : r.line ≡ first.line
  pub behind : 0 < r.at
  pub inside : r.at ≤ bytes first.line.now
  pub gathered : Gathered r
  pub are : marks ≡ marks_of (byte_read first.line.now) (r.at - 1)

pub marks_next : {first r new : Reader} {marks more : List ℕ} {mark : ℕ} → MarksSoFar first r marks → r.at < bytes r.line.now
    → Advanced r new → mark ≡ byte_read r.line.now r.at → more ≡ marks ++ mark ∷ [] → MarksSoFar first new more
marks_next {first} {r} {new} {marks} {more} {mark} so inside next value pushed =
    let same : r.line.now ≡ first.line.now = ap (λ l. l.now) so.line in
    let here : r.at - 1 + 1 ≡ r.at = omega (arith, so.behind) in
    let long : r.at < bytes first.line.now = rw same at inside in
    record {
      line = next.line ∙ so.line;
      behind = omega (arith, next.at);
      inside = omega (arith, next.at, long);
      gathered = next.gathered;
      are =
          let now : new.at - 1 ≡ r.at = omega (arith, next.at) in
          rw (now, pushed, so.are, value, same) (sym (rw here at (marks_more (byte_read first.line.now) (r.at - 1))));
    }

-- the characters of a line that was read whole are digits, where what was gathered says so
pub whole_digits : {old new : Reader} → ReadsWhole old new → new.wrong < 16 → Digits old.line.now (2 * bytes old.line.now)
whole_digits {old} {new} w sound =
    let same : new.line.now ≡ old.line.now = ap (λ l. l.now) w.line in
    rw (same, w.at) at (w.gathered.digits.0 sound)
