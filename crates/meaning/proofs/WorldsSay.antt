-- What an outcome says of the worlds: its answer, taken apart.
use Rattle.std.specs.Prelude.{List, ℕ}
use Rattle.kinds.specs.declared.Answer.TheVariants.{No, Yes, Contradiction, AllowanceSpent}
use Rattle.meaning.specs.Lent.{Call, collection_of, Sound}
use Rattle.meaning.specs.Worlds.{IsWorld, model_world}
use Rattle.meaning.specs.Outcome.{Outcome, contradiction, spent, says-yes, says-no, Breaks, Reached}
use Rattle.meaning.proofs.Forced.{model-keeps, model-respects}
use Rattle.meaning.proofs.OutcomeExists.{sound-well-formed}

module _ (c : Call) where
  -- the canonical model of a sound call that breaks nothing is a world
  world : Sound c → (Breaks c → ⊥) → IsWorld (collection_of c) (model_world (collection_of c))
  world s sane = record { keeps = model-keeps (collection_of c) (sound-well-formed c s).numbers; respects = model-respects (collection_of c) sane }

  pub breaks : {x y : List ℕ} → Outcome c Contradiction x y → Breaks c
  breaks (contradiction s h) = h

  pub reached : {n : ℕ} {x y : List ℕ} → Outcome c (Yes n) x y → Reached c
  reached (says-yes s sane need h lays r) = r

  pub missed : {n : ℕ} {x y : List ℕ} → Outcome c (No n) x y → Reached c → ⊥
  missed (says-no s sane need h lays m) = m

  pub yes-world : {n : ℕ} {x y : List ℕ} → Outcome c (Yes n) x y → IsWorld (collection_of c) (model_world (collection_of c))
  yes-world (says-yes s sane need h lays r) = world s sane

  pub no-world : {n : ℕ} {x y : List ℕ} → Outcome c (No n) x y → IsWorld (collection_of c) (model_world (collection_of c))
  no-world (says-no s sane need h lays m) = world s sane

  pub spent-world : {n : ℕ} {x y : List ℕ} → Outcome c (AllowanceSpent n) x y → IsWorld (collection_of c) (model_world (collection_of c))
  spent-world (spent s sane need h lays) = world s sane
