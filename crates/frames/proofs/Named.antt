-- The byte of each kind names it, and no other byte does.
use Rattle.std.specs.Prelude.{ℕ, ◌<◌, ◌≡◌, ◌==◌, Bool, true, Some}
use Rattle.std.specs.Option.{option_map_or}
use Rattle.std.proofs.Common.{refl, eqb-true}
use Rattle.std.proofs.lemmas.Bool.{agree_below, agree_below_at}
use Rattle.frames.specs.Kinds.{kind_of}
use Rattle.frames.specs.Written.{kind_byte}
use Rattle.frames.specs.declared.kind.Kind.{Kind}
use Rattle.frames.specs.declared.kind.Kind.TheVariants.{Declared}

pub kind-named : (kind : Kind) → kind_of (kind_byte kind) ≡ Some kind
unfolding kind_of
kind-named Declared = refl
kind-named other = refl

-- the byte, where it names a kind, is that kind's
abbrev names_its_own : ℕ → Bool
names_its_own b = option_map_or (λ kind. kind_byte kind == b) (kind_of b) true

all_own : agree_below names_its_own (λ _. true) 256 ≡ true
unfolding kind_of
all_own = refl

pub byte-named : (b : ℕ) (kind : Kind) → b < 256 → kind_of b ≡ Some kind → kind_byte kind ≡ b
byte-named b kind small named = eqb-true _ _ (rw named at (agree_below_at names_its_own (λ _. true) 256 b all_own small))
