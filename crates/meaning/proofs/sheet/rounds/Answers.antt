-- The rounds: by the constructors of a round, and those of RoundLaws.
use Rattle.theory.specs.Sheet.{tested, joined}
use Rattle.meaning.specs.Lite.{lite}
use Rattle.theory.proofs.SheetLaws.{marks_stay}
use Rattle.meaning.proofs.RoundLaws.{valid-in, marked-valid, hangs}
use Rattle.meaning.proofs.RoundFrom.{adds}
use Rattle.meaning.proofs.Demands.{mark-means}
use Rattle.meaning.proofs.sheet.rounds.Goals as goal

pub returns : goal.returns
returns c = record {
  valid = marked-valid;
  zero = λ 𝓒 s t B v. (λ m. m.1, λ e. (valid-in 𝓒 v, e));
  keeps = λ 𝓒. marks_stay (lite 𝓒);
  tests = λ 𝓒 n s t B v h. (valid-in 𝓒 v, tested h);
  meets = λ 𝓒 n s u B v h. (valid-in 𝓒 v, joined h.1 h.2);
  hangs = hangs;
  adds = adds;
  means = mark-means;
}
