-- The fair copy of a collection (docs/RULES.md, sections 11 and 13): its frames in one order, each
-- once.
use Rattle.std.specs.Prelude.{ℕ, ◌↔◌, ◌≡◌, ⊤, List}
use Rattle.std.specs.List.{flat_map}
use Rattle.std.specs.List.Sorted.{IsStrictlySortedBy}
use Rattle.std.specs.Ordering.{nat_cmp}
use Rattle.std.specs.declared.cmp.Ordering.{Ordering}
use Rattle.std.specs.Cmp.Lexicographic.{slice_cmp}
use Rattle.laws.specs.Member.{◌∈◌}
use Rattle.kinds.specs.declared.State.{State}
use Rattle.meaning.specs.Collection.{role, test, Step, step}
use Rattle.expression.specs.Listed.{Listed, steps_of, finals_of}
use Rattle.frames.specs.Text.{text}
use Rattle.frames.specs.Written.{numbers_of, frame_bytes}
use Rattle.frames.specs.declared.Frame.{Frame}
use Rattle.frames.specs.declared.Frame.TheVariants.{RoleStep, TestStep, Final, Ask, AskFrom, Expression, Salvage, ListedMark}
use Rattle.reading.specs.File.{IsQuestionOf}
use Rattle.shell.specs.Writes.{IsSound, WritesOf}

-- Every frame of a file is copied unchanged, with two exceptions: the copy has no asks and no list and
-- chooses no salvage, and in place of an expression it has the steps and the final states of the
-- question that the expression asks. So it has every fact, whether salvage drops it or not.
abbrev pub IsCopied : Frame → Type 0
IsCopied (Ask a b) = ⊥
IsCopied (AskFrom a) = ⊥
IsCopied (Expression row) = ⊥
IsCopied Salvage = ⊥
IsCopied (ListedMark n s t B) = ⊥
IsCopied other = ⊤

-- the frame of a step
abbrev pub step_frame : Step → Frame
step_frame (step s (role S) t) = RoleStep s S t
step_frame (step s (test A) t) = TestStep s A t

-- what stands in the copy of some frames that ask a question
pub data StandsIn (fs : List Frame) (q : Listed) : Frame → Type 0 where
  typed : (f : Frame) → f ∈ fs → IsCopied f → StandsIn fs q f
  by_step : (s : Step) → s ∈ steps_of q → StandsIn fs q (step_frame s)
  by_final : (s : State) → s ∈ finals_of q → StandsIn fs q (Final s)

-- frames go by the number of their kind, and those of one kind by their fields, the first that
-- differs
abbrev pub frame_order : Frame → Frame → Ordering
frame_order f g = slice_cmp nat_cmp (numbers_of f) (numbers_of g)

-- the copy has these frames and no other, in this order, each once
pub record IsCopyOf (fs : List Frame) (q : Listed) (copy : List Frame) : Type 0 where
  pub rises : IsStrictlySortedBy frame_order copy
  pub same : (f : Frame) → (f ∈ copy) ↔ StandsIn fs q f

-- the text of some frames, a line each
unfoldable pub frames_text : List Frame → List ℕ
frames_text fs = flat_map (λ f. text (frame_bytes f)) fs

-- an input is read whole, as these frames, and they ask this question
pub record IsReadAs (input : List ℕ) (fs : List Frame) (q : Listed) : Type 0 where
  pub sound : IsSound input fs
  pub question : IsQuestionOf fs q

-- what is written of a file that is read whole, as these frames
pub record Copies (fs : List Frame) (out : List ℕ) : Type 0 where
  pub question : Listed
  pub is : IsQuestionOf fs question
  pub copy : List Frame
  pub fair : IsCopyOf fs question copy
  pub written : out ≡ frames_text copy

-- what is written of an input: the line of its first fault, or its fair copy
abbrev pub WritesCopy : List ℕ → List ℕ → Type 0
WritesCopy = WritesOf Copies
