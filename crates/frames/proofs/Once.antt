-- THEOREM: a line has one frame, or one refusal.
use Rattle.std.specs.Prelude.{ℕ, ◌≡◌, List, Option, None, Some, Result, IsSomeAnd}
use Rattle.std.proofs.Common.{sym, ◌∙◌}
use Rattle.laws.specs.First.{first-once}
use Rattle.frames.specs.Digits.{byte_of}
use Rattle.frames.specs.Kinds.{kind_of}
use Rattle.frames.specs.declared.Frame.{Frame}
use Rattle.frames.specs.declared.Misread.{Misread}
use Rattle.frames.specs.Frames.{FrameOf}

one_value : {A B : Type 0} (f : A → B) (o : Option A) (r q : B) → IsSomeAnd o (λ x. r ≡ f x) → IsSomeAnd o (λ x. q ≡ f x) → r ≡ q
one_value f None r q h k = absurd h
one_value f (Some x) r q h k = h ∙ sym k

pub frame-once : (l : List ℕ) (r q : Result Frame Misread) → FrameOf l r → FrameOf l q → r ≡ q
frame-once l = first-once (first-once (one_value _ (kind_of (byte_of l 0))))
