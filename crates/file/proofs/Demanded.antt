-- What is demanded, of the lines that are written: it holds of the library's outcomes, and each line shows one.
use Rattle.std.specs.Prelude.{ℕ, ◌≡◌, ◌↔◌, List, Some}
use Rattle.std.proofs.Math.Path.{ap₂}
use Rattle.std.proofs.Common.{refl, sym, ap, ◌∙◌, subst, arith}
use Rattle.kinds.specs.Kinds.{individual}
use Rattle.kinds.specs.declared.Ask.{Ask}
use Rattle.meaning.specs.Lent.{Call, collection_of}
use Rattle.meaning.specs.Outcome.{Outcome}
use Rattle.meaning.specs.Demands.{Spelled}
use Rattle.meaning.proofs.Demands.{most-enough, says-what-the-model-says, grows, returns}
use Rattle.meaning.proofs.OutcomeLaws.{outcome-unique}
use Rattle.kinds.specs.declared.Ask.TheVariants.{Pair, From}
use Rattle.expression.specs.Tree.{Tree}
use Rattle.expression.specs.Grammar.{IsExpression}
use Rattle.expression.specs.Listed.{Listed, AsksBy}
use Rattle.expression.specs.Answer.{IsAutomatonOf}
use Rattle.expression.proofs.Clauses.{it-asks}
use Rattle.frames.specs.declared.Frame.{Frame}
use Rattle.reading.specs.Tables.{expression_given}
use Rattle.reading.specs.File.{asked}
use Rattle.reading.proofs.Questions.{row-taken}
use Rattle.file.proofs.Decided.{asking-taken, asking-sound}
use Rattle.file.specs.Text.{count_width, answer_line}
use Rattle.file.specs.Writes.{IsAsking, frames_width}
use Rattle.file.specs.Demands.{LinesSayAsModel, LinesSayOfExpression, SameAsk, SpellsWordOf, LinesGrow, LinesReturn, RoundsSuffice}
use Rattle.file.proofs.Told.{line-answers, number-of, names-of}
use Rattle.file.specs.Told.{Names}

-- THEOREM: with enough rounds each line is as the canonical model says
pub lines-say-as-model : LinesSayAsModel
lines-say-as-model input text w fs q s k h enough =
    let a = line-answers w fs q s k h in
    let m = says-what-the-model-says (asked fs q k) (asking-sound s k h) enough a.outcome.2 in
    let n = number-of a in
    record { contradiction = rw n m.contradiction; yes = rw n m.yes; no = rw n m.no }

-- a question typed as an expression asks for the expression's words
module _ (input : List ℕ) (fs : List Frame) (q : Listed) (s : IsAsking input fs q) (row : List ℕ)
    (given : expression_given fs ≡ Some row) where
  automaton-is : IsAutomatonOf row q
  automaton-is = let x = s.question.expressed in rw given at x

  asks-by : (k : ℕ) → AsksBy (collection_of (asked fs q k)) q
  asks-by k =
      let r = row-taken fs (asking-taken s) row given in
      record { start = r.shaped.3; steps = refl; finals = refl }

  spells-it : (e : Tree) (m : ℕ) → IsExpression row e m → (k : ℕ) → Spelled (asked fs q k) ↔ SpellsWordOf e (asked fs q k)
  spells-it e m x k = it-asks q automaton-is e m x (collection_of (asked fs q k)) (asks-by k) (asked fs q k).ask

-- THEOREM: and yes exactly when a path in it spells a word of the expression that is typed
pub lines-say-of-expression : LinesSayOfExpression
lines-say-of-expression input text w fs q s row e m given x k h enough =
    let a = lines-say-as-model input text w fs q s k h enough in
    let o = spells-it input fs q s row given e m x k in
    record {
      contradiction = a.contradiction;
      yes = λ sane. let y = a.yes sane in (λ n. o.0 (y.0 n), λ p. y.1 (o.1 p));
      no = λ sane. let y = a.no sane in (λ n p. y.0 n (o.1 p), λ n. y.1 (λ p. n (o.0 p)));
    }

same-ask : (line other : List ℕ) (ask ask' : Ask) → Names ask line → Names ask' other → SameAsk line other → ask ≡ ask'
same-ask line other (Pair a b) (Pair x y) n m s =
    ap₂ (λ (i j : ℕ). Pair (individual i) (individual j)) (sym n.1 ∙ s.first ∙ m.1) (sym n.2 ∙ s.second n.0 ∙ m.2)
same-ask line other (From a) (From x) n m s = ap (λ (i : ℕ). From (individual i)) (sym n.1 ∙ s.first ∙ m.1)
same-ask line other (Pair a b) (From x) n m s = absurd (omega (arith, n.0, m.0, s.kind))
same-ask line other (From a) (Pair x y) n m s = absurd (omega (arith, n.0, m.0, s.kind))

-- THEOREM: growth, of whatever two inputs ask
pub lines-grow : LinesGrow
lines-grow input other text out w v fs gs q r s t j k h i g p =
    let a = line-answers w fs q s j h in
    let b = line-answers v gs r t k i in
    let sound = asking-sound s j h in
    let sound' = asking-sound t k i in
    let same = same-ask _ _ _ _ (names-of a sound) (names-of b sound') p in
    let z = grows (asked fs q j) (asked gs r k) g.larger same sound sound' g.enough g.enough' a.outcome.2 b.outcome.2 in
    let n = number-of a in
    let m = number-of b in
    record { yes-kept = rw (n, m) z.yes-kept; contradiction-kept = rw (n, m) z.contradiction-kept; no-before = rw (n, m) z.no-before }

-- THEOREM: an answer given at one allowance returns at every larger one, in the same line
pub lines-return : LinesReturn
lines-return input other text out w v fs gs q r s t j k h i m n =
    let a = line-answers w fs q s j h in
    let b = line-answers v gs r t k i in
    let o = returns (asked fs q j) (asked gs r k).allowance m.more a.outcome.2 (omega (arith, n, number-of a)) in
    let o' = subst (λ (c : Call). Outcome c a.answer (a.outcome.0) (a.outcome.1)) m.same o in
    let u = (outcome-unique (asked gs r k) b.outcome.2 o').0 in
    let same : (asked gs r k).ask ≡ (asked fs q j).ask = ap (λ (c : Call). c.ask) (sym m.same) in
    let wide : frames_width gs ≡ frames_width fs = ap (λ (c : Call). count_width c.counts) (sym m.same) in
    b.written ∙ ap (answer_line (frames_width gs) (asked gs r k).ask) u ∙ ap₂ (λ (n : ℕ) (ask : Ask). answer_line n ask a.answer) wide same
    ∙ sym a.written

-- THEOREM: concepts × states × (states − 1) rounds always suffice
pub rounds-enough : RoundsSuffice
rounds-enough input fs q s k some h = most-enough (asked fs q k) (asking-sound s k some) h
