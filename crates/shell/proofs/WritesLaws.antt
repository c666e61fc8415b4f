-- An input writes one text; its first 3,239,020 bytes decide it; two outcomes of a call are one.
use Rattle.std.specs.Prelude.{ℕ, ◌+◌, ◌≡◌, refl, List, ◌++◌, length, take, drop}
use Rattle.std.proofs.Math.Path.{ap₂}
use Rattle.std.proofs.Common.{sym, ap, ◌∙◌, subst, take-append-drop, length-take, arith}
use Rattle.streams.specs.Lines.{lines}
use Rattle.frames.specs.declared.Frame.{Frame}
use Rattle.reading.specs.Refusal.{refusal_number}
use Rattle.reading.specs.Reading.{Verdict, faulty, sound}
use Rattle.reading.proofs.Bounds.{within-lines}
use Rattle.intake.specs.Verdicts.{Verdicts}
use Rattle.intake.proofs.VerdictLaws.{verdict-once, verdict-taken, start-decides}
use Rattle.shell.specs.Faults.{fault_line}
use Rattle.shell.specs.Laws.{FaultsNear, FaultWritten, SaidWritten, StartWrites, WritesOnce, WrittenOnce, ServedOnce}
use Rattle.shell.specs.Writes.{Saying, WritesBy, WritesOf, fault, said}

module _ (Reads : List (List ℕ) → Verdict → Type 0) (Says : Saying) (input : List ℕ) where
  -- the text of a verdict
  abbrev TextIs : Verdict → List ℕ → Type 0
  TextIs (faulty before r) x = x ≡ fault_line (length before + 1) (refusal_number r)
  TextIs (sound fs) x = Says fs x

  -- what is read, with its text
  record Found (x : List ℕ) : Type 0 where
    verdict : Verdict
    reading : Reads (lines input) verdict
    text-is : TextIs verdict x

  found : {x : List ℕ} → WritesBy Reads Says input x → Found x
  found (fault before r h) = record { verdict = faulty before r; reading = h; text-is = refl }
  found (said fs out h s) = record { verdict = sound fs; reading = h; text-is = s }

  written : {x : List ℕ} (v : Verdict) → Reads (lines input) v → TextIs v x → WritesBy Reads Says input x
  written (faulty before r) h e = subst (λ (l : List ℕ). WritesBy Reads Says input l) (sym e) (fault before r h)
  written (sound fs) h s = said fs _ h s

  module _ (once : (v w : Verdict) → Reads (lines input) v → Reads (lines input) w → v ≡ w) where
    -- THEOREM: where lines are read in one way, the text of what they are found to be is written, and no other
    pub text-of : {x : List ℕ} (v : Verdict) → Reads (lines input) v → WritesBy Reads Says input x → TextIs v x
    text-of {x} v h w = let f = found w in subst (λ (v : Verdict). TextIs v x) (once f.verdict v f.reading h) f.text-is

    -- THEOREM: so, where one text is said of the frames that are read, one text is written
    pub by-once : ((fs : List Frame) → Reads (lines input) (sound fs) → (x y : List ℕ) → Says fs x → Says fs y → x ≡ y)
        → {x y : List ℕ} → WritesBy Reads Says input x → WritesBy Reads Says input y → x ≡ y
    by-once one {x} {y} a b = let f = found a in by f.verdict f.reading f.text-is (text-of f.verdict f.reading b)
      where
        by : (v : Verdict) → Reads (lines input) v → TextIs v x → TextIs v y → x ≡ y
        by (faulty before r) h a b = a ∙ sym b
        by (sound fs) h a b = one fs h x y a b

module _ (Says : Saying) where
  found-once : (input : List ℕ) (v w : Verdict) → Verdicts (lines input) v → Verdicts (lines input) w → v ≡ w
  found-once input = verdict-once (lines input)

  -- THEOREM: a faulty input writes the line of its fault
  pub fault-written : FaultWritten Says
  fault-written input before r h text = (
    λ w. text-of Verdicts Says input (found-once input) (faulty before r) h w,
    λ e. written Verdicts Says input (faulty before r) h e,
  )

  -- THEOREM: and a sound one what is said of its frames
  pub said-written : SaidWritten Says
  said-written input fs h text =
      (λ w. text-of Verdicts Says input (found-once input) (sound fs) h w, λ s. written Verdicts Says input (sound fs) h s)

  -- THEOREM: any input writes what its first 3,239,020 bytes write, and they write what it writes
  pub start-writes : StartWrites Says
  start-writes input n h text = (whole, start)
    where
      whole : {x : List ℕ} → WritesOf Says (take n input) x → WritesOf Says input x
      whole (fault before r k) = fault before r ((start-decides input n h (faulty before r)).0 k)
      whole (said fs x k s) = said fs x ((start-decides input n h (sound fs)).0 k) s

      start : {x : List ℕ} → WritesOf Says input x → WritesOf Says (take n input) x
      start (fault before r k) = fault before r ((start-decides input n h (faulty before r)).1 k)
      start (said fs x k s) = said fs x ((start-decides input n h (sound fs)).1 k) s

  -- THEOREM: where one text is said of each file an input writes one text
  pub writes-once : WritesOnce Says
  writes-once one input x y =
      by-once Verdicts Says input (found-once input) (λ fs h. one fs (verdict-taken (lines input) (sound fs) h))

  -- THEOREM: two outcomes of writing in memory are equal: how much is told, and every byte of the text
  pub written-once : WrittenOnce Says
  written-once one input old x y n m a b =
      let e = writes-once one input (take n x) (take m y) a.written b.written in
      let d : n ≡ m =
      omega (arith, a.within, b.within, ap (λ (l : List ℕ). length l) e, length-take n x, length-take m y) in
      let t : drop n x ≡ drop m y = a.rest ∙ ap (λ i. drop i old) d ∙ sym b.rest in
      (d, sym (take-append-drop n x) ∙ ap₂ (λ (l i : List ℕ). l ++ i) e t ∙ take-append-drop m y)

  -- THEOREM: a sink whose bytes are known holds one thing afterwards
  pub served-once : ServedOnce Says
  served-once one input old x y a b = a.so ∙ ap (λ (text : List ℕ). old ++ text) (writes-once one input a.text b.text a.is b.is) ∙ sym b.so

-- THEOREM: the first faulty line of any input has a number of at most 138,788
pub faults-near : FaultsNear
faults-near input before r h = omega (arith, within-lines before (verdict-taken (lines input) (faulty before r) h))
