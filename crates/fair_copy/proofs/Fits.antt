-- What is read fits its line, and so does all that stands in its copy.
use Rattle.std.specs.Prelude.{◌≡◌, ◌≢◌, refl, ◌⊎◌, All, ℕ, ◌*◌, ◌^◌, ◌<◌, Ok}
use Rattle.std.proofs.Common.{inl, inr, arith}
use Rattle.std.proofs.lemmas.List.Elements.{All-nil, All-cons}
use mathlib.Core.List.Memᴰ
use mathlib.Core.List.{List, [], ◌∷◌, ◌++◌}
use Rattle.laws.specs.Member.{◌∈◌}
use Rattle.kinds.specs.declared.Counts.{Counts}
use Rattle.kinds.specs.declared.State.{State}
use Rattle.kinds.specs.Kinds.{CountsFit, StateDeclared}
use Rattle.meaning.specs.Collection.{role, test, Step, step, StepDeclared}
use Rattle.expression.specs.Listed.{Listed}
use Rattle.frames.specs.Written.{Field, byte, FitsLine, frame_bytes}
use Rattle.frames.specs.declared.Frame.{Frame}
use Rattle.frames.specs.declared.Frame.TheVariants.{Final}
use Rattle.reading.specs.Tables.{declared_by}
use Rattle.reading.specs.File.{IsQuestionOf}
use Rattle.reading.specs.Reading.{Finds, taken, Verdict, sound, frames_of, Reading, empty, whole, stopped, onward, none}
use Rattle.reading.proofs.Turns.{fitting}
use Rattle.reading.proofs.Accepted.{declared, reading-taken}
use Rattle.shell.specs.Writes.{IsSound}
use Rattle.file.proofs.Sound.{sound-read}
use Rattle.fair_copy.specs.Copy.{step_frame, StandsIn, typed, by_step, by_final}
use Rattle.frames.proofs.WrittenBack.{read-fits}
use Rattle.fair_copy.proofs.Stands.{AreWhole}

abbrev pub AllFit : List Frame → Type 0
AllFit fs = (f : Frame) → f ∈ fs → FitsLine f

found-fits : {before : List Frame} {line : List ℕ} {f : Frame} → Finds before line (Ok f) → FitsLine f
found-fits {line = line} (taken f o j) = read-fits line f o

-- THEOREM: whatever a file is found to be, each frame that was read of it fits a line
reading-fits : {before : List Frame} {ls : List (List ℕ)} {v : Verdict} → Reading before ls v → AllFit before → AllFit (frames_of v)
reading-fits empty h = h
reading-fits (whole f fs) h = h
reading-fits (stopped before l ls r d) h = h
reading-fits (onward before l ls f v d rest) h = reading-fits rest more
  where
    side : (g : Frame) → (g ∈ before) ⊎ (g ∈ (f ∷ [])) → FitsLine g
    side g (inl m) = h g m
    side g (inr m) = rw (Memᴰ.eq_of_singleton m) (found-fits d)

    more : AllFit (before ++ f ∷ [])
    more g m = side g (Memᴰ.append_cases before m)

-- a file that is read whole has a line
not-none : {before : List Frame} {ls : List (List ℕ)} {fs : List Frame} {v : Verdict} → Reading before ls v → v ≡ sound fs → fs ≢ []
not-none empty e n = cc
not-none (whole f fs) e n = cc
not-none (stopped before l ls r d) e n = cc
not-none (onward before l ls f v d rest) e n = not-none rest e n

-- THEOREM: the frames of a sound input are whole
pub are-whole : (input : List ℕ) (fs : List Frame) (q : Listed) → IsSound input fs → IsQuestionOf fs q → AreWhole fs q
are-whole input fs q h is =
    let r = sound-read h in
    record {
      are = record { taken = reading-taken r none; begun = not-none r refl; asks = is };
      lined = reading-fits r (λ f m. absurd (Memᴰ.not-nil m));
    }

-- a number goes into its field
abbrev InField : Field → Type 0
InField x = x.number < 2 ^ (8 * x.width)

in-bytes : (x y z : ℕ) → x < 2 ^ 8 → y < 2 ^ 8 → z < 2 ^ 8 → All InField (byte x ∷ byte y ∷ byte z ∷ [])
in-bytes x y z h k l =
    All-cons InField (byte x) (byte y ∷ byte z ∷ []) h
    (All-cons InField (byte y) (byte z ∷ []) k (All-cons InField (byte z) [] l (All-nil InField)))

module _ (c : Counts) (k : CountsFit c) where
  step-fits : (s : Step) → StepDeclared c s → FitsLine (step_frame s)
  unfolding frame_bytes
  step-fits (step u (role S) v) d = record {
    numbers = in-bytes u.0 S.0 v.0 (omega (arith, k.states, d.0)) (omega (arith, k.roles, d.1)) (omega (arith, k.states, d.2));
    concepts = tt;
    short = omega arith;
  }
  step-fits (step u (test A) v) d = record {
    numbers = in-bytes u.0 A.0 v.0 (omega (arith, k.states, d.0)) (omega (arith, k.names, d.1)) (omega (arith, k.states, d.2));
    concepts = tt;
    short = omega arith;
  }

  final-fits : (s : State) → StateDeclared c s → FitsLine (Final s)
  unfolding frame_bytes
  final-fits s d = record {
    numbers = All-cons InField (byte s.0) [] (omega (arith, k.states, d)) (All-nil InField);
    concepts = tt;
    short = omega arith;
  }

module _ (fs : List Frame) (q : Listed) (w : AreWhole fs q) where
  -- THEOREM: and so do the steps and final states of its question
  pub stands-fits : {f : Frame} → StandsIn fs q f → FitsLine f
  stands-fits (typed f m c) = w.lined f m
  stands-fits (by_step s m) =
      step-fits (declared_by fs) (fitting fs w.are.taken w.are.begun) s ((declared w.are.taken q w.are.asks 0).steps s m)
  stands-fits (by_final s m) =
      final-fits (declared_by fs) (fitting fs w.are.taken w.are.begun) s ((declared w.are.taken q w.are.asks 0).finals s m)
