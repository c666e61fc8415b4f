-- What an input wrote while there were at most 16 states, beside what it writes today.
use Rattle.std.specs.Prelude.{ℕ, ◌+◌, ◌≡◌, ◌⊎◌, ◌↔◌, List, [], ◌++◌, length}
use Rattle.std.proofs.Common.{refl, inl, inr, sym, ap, ◌∙◌, subst}
use Rattle.frames.specs.declared.Frame.{Frame}
use Rattle.streams.specs.Lines.{lines}
use Rattle.reading.specs.declared.Refusal.{Refusal}
use Rattle.reading.specs.declared.Refusal.TheVariants.{BadCount, BadTable, BadLine, BadFrame}
use Rattle.reading.specs.Refusal.{refusal_number}
use Rattle.reading.specs.Tables.{asks, entries, declared_by}
use Rattle.reading.specs.Reading.{Verdict, faulty, sound, Reading}
use Rattle.reading.specs.Former.{FormerReading, FormerLimits, IsFormerFault}
use Rattle.reading.proofs.FormerLaws.{former-once, former-sound, former-else, former-found}
use Rattle.reading.specs.File.{asked}
use Rattle.shell.specs.Faults.{fault_line}
use Rattle.intake.specs.Verdicts.{Verdicts, by-line, by-list, accepted, no-list}
use Rattle.intake.proofs.VerdictLaws.{verdict-once}
use Rattle.shell.specs.Writes.{IsSound, fault, said}
use Rattle.shell.proofs.WritesLaws.{by-once}
use Rattle.file.specs.Rounds.{round_lines}
use Rattle.file.specs.Writes.{Answered, frames_width, RepliesTo, Writes}
use Rattle.file.specs.Former.{FormerWrites, WasSound, TellsFormerFault}
use Rattle.file.proofs.Widths.{width-few}
use Rattle.file.proofs.WritesLaws.{replies-once}
use Rattle.file.proofs.Decided.{plain-reports}

-- THEOREM: an input wrote one text
pub former-writes-once : {input x y : List ℕ} → FormerWrites input x → FormerWrites input y → x ≡ y
former-writes-once {input} =
    by-once (FormerReading []) (RepliesTo (λ fs. 2)) input (λ v w a b. former-once a b) (λ fs h x y. replies-once)

-- what is written of some frames stays where their counts are as wide
as-wide : {v w : List Frame → ℕ} {fs : List Frame} {x : List ℕ} → v fs ≡ w fs → RepliesTo v fs x → RepliesTo w fs x
as-wide {fs = fs} e r = record {
  question = r.question;
  is = r.is;
  counts = r.counts;
  told = r.told;
  out = r.out;
  answered = subst (λ (n : ℕ). Answered n (asked fs r.question) (entries asks fs) r.out) e r.answered;
  whole = r.whole ∙ ap (λ (n : ℕ). round_lines n 0 r.counts ++ r.out) e;
}

module _ (input : List ℕ) (fs : List Frame) (s : WasSound input fs) where
  still : Reading [] (lines input) (sound fs) × FormerLimits (lines input) fs
  still = (former-sound (lines input) fs).0 s

  narrow : frames_width fs ≡ 2
  narrow = width-few (declared_by fs) still.1.states

  -- it has no list
  still-sound : IsSound input fs
  still-sound = accepted fs still.0 (no-list still.1.no_list)

  as-it-did : {text : List ℕ} → Writes input text → FormerWrites input text
  as-it-did (fault before r h) = let e = verdict-once (lines input) (faulty before r) (sound fs) h still-sound in absurd cc
  as-it-did (said gs x h r) =
      let e = verdict-once (lines input) (sound gs) (sound fs) h still-sound in
      let d : gs ≡ fs = cc in
      said fs x s (as-wide narrow ((plain-reports still.1.no_choice).0 (rw d at r)))

  as-it-does : {text : List ℕ} → FormerWrites input text → Writes input text
  as-it-does (fault before r h) = let e = former-once h s in absurd cc
  as-it-does (said gs x h r) =
      let e = former-once h s in
      let d : gs ≡ fs = cc in
      said fs x still-sound ((plain-reports still.1.no_choice).1 (as-wide (sym narrow) (rw d at r)))

  -- THEOREM: an input that was read whole writes what it wrote
  pub writes-as-it-did : (text : List ℕ) → Writes input text ↔ FormerWrites input text
  writes-as-it-did text = (as-it-did, as-it-does)

-- a fault with 4, 5, 9 or 10 was told
its-line : (before : List Frame) (r : Refusal) → IsFormerFault (faulty before r) → TellsFormerFault (fault_line (length before + 1) (refusal_number r))
its-line before BadCount h = record { line = length before + 1; number = 4; told = refl; one = inl refl }
its-line before BadTable h = record { line = length before + 1; number = 5; told = refl; one = inr (inl refl) }
its-line before BadLine h = record { line = length before + 1; number = 9; told = refl; one = inr (inr (inl refl)) }
its-line before BadFrame h = record { line = length before + 1; number = 10; told = refl; one = inr (inr (inr refl)) }
its-line before r h = absurd h

-- THEOREM: what any input wrote it writes, or it was the line of such a fault
pub wrote-as-it-does : {input text : List ℕ} → FormerWrites input text → Writes input text ⊎ TellsFormerFault text
wrote-as-it-does (said fs x h r) = inl (as-it-does _ fs h (said fs x h r))
wrote-as-it-does {input} (fault before r h) = by (former-else h)
  where
    by : Reading [] (lines input) (faulty before r) ⊎ IsFormerFault (faulty before r)
        → Writes input (fault_line (length before + 1) (refusal_number r)) ⊎ TellsFormerFault (fault_line (length before + 1) (refusal_number r))
    by (inl same) = inl (fault before r (by-line before r same))
    by (inr x) = inr (its-line before r x)

-- THEOREM: and an input that writes anything wrote some text
pub former-writes-some : {input text : List ℕ} → Writes input text → (out : List ℕ) × FormerWrites input out
former-writes-some {input} {text} w = by (was w)
  where
    found : {v : Verdict} → Verdicts (lines input) v → (v : Verdict) × FormerReading [] (lines input) v
    found (by-line before r h) = former-found h
    found (by-list fs k h d) = former-found h
    found (accepted fs h a) = former-found h

    was : {x : List ℕ} → Writes input x → (v : Verdict) × FormerReading [] (lines input) v
    was (fault before r h) = found h
    was (said fs x h r) = found h

    by : (v : Verdict) × FormerReading [] (lines input) v → (out : List ℕ) × FormerWrites input out
    by (faulty before r, h) = (_, fault before r h)
    by (sound fs, h) = (text, as-it-did input fs h w)
