-- What is demanded (docs/RULES.md, section 9), of the lines that are written.
use Rattle.std.specs.Prelude.{ℕ, ◌<◌, ◌≤◌, ◌≡◌, List, Some}
use Rattle.meaning.specs.Lent.{Call, collection_of}
use Rattle.meaning.specs.Demands.{most_rounds, Larger, Enough, Spelled, NumberSays, NumberGrown, allowed}
use Rattle.expression.specs.Tree.{Tree}
use Rattle.expression.specs.Grammar.{IsExpression}
use Rattle.expression.specs.Listed.{Listed}
use Rattle.expression.specs.Answer.{SpellsExpression}
use Rattle.frames.specs.Digits.{byte_of}
use Rattle.frames.specs.declared.Frame.{Frame}
use Rattle.reading.specs.Tables.{asks, entries, expression_given}
use Rattle.reading.specs.File.{asked}
use Rattle.file.specs.Writes.{IsAsking, Writes}
use Rattle.file.specs.Told.{line_at, number_on}

-- the number on a line answers the call as the model says, where the path is there that is asked for
abbrev pub IsAsModelSays : Call → Type 0 → List ℕ → Type 0
IsAsModelSays call Path line = NumberSays call Path (number_on line)

-- with enough rounds each line is as the canonical model says: yes exactly when a path in it, as it
-- is asked for, spells a word of the question
abbrev pub LinesSayAsModel : Type 0
LinesSayAsModel = (input text : List ℕ) → Writes input text
    → (fs : List Frame) (q : Listed) → IsAsking input fs q
    → (k : ℕ) → k < entries asks fs → Enough (asked fs q k)
    → IsAsModelSays (asked fs q k) (Spelled (asked fs q k)) (line_at (entries asks fs) text k)

-- a path in the canonical model, as it is asked for, spells a word of the expression
abbrev pub SpellsWordOf : Tree → Call → Type 0
SpellsWordOf e call = SpellsExpression (collection_of call) e call.ask

-- and where the question is typed as an expression: yes exactly when such a path spells a word of
-- that expression
abbrev pub LinesSayOfExpression : Type 0
LinesSayOfExpression = (input text : List ℕ) → Writes input text
    → (fs : List Frame) (q : Listed) → IsAsking input fs q
    → (row : List ℕ) (e : Tree) (m : ℕ) → expression_given fs ≡ Some row → IsExpression row e m
    → (k : ℕ) → k < entries asks fs → Enough (asked fs q k)
    → IsAsModelSays (asked fs q k) (SpellsWordOf e (asked fs q k))
    (line_at (entries asks fs) text k)

-- two lines are of one ask: byte 1, and of a pair byte 2
pub record SameAsk (line other : List ℕ) : Type 0 where
  pub kind : byte_of line 0 ≡ byte_of other 0
  pub first : byte_of line 1 ≡ byte_of other 1
  pub second : byte_of line 0 ≡ 0x8B → byte_of line 2 ≡ byte_of other 2

-- and the number on the second grows from that on the first
abbrev pub IsGrownLine : List ℕ → List ℕ → Type 0
IsGrownLine line other = NumberGrown (number_on line) (number_on other)

-- a second file's call holds at least the records of the first's, with a shared start state, and
-- each allows enough rounds
pub record GrowsInto (call other : Call) : Type 0 where
  pub larger : Larger (collection_of call) (collection_of other)
  pub enough : Enough call
  pub enough' : Enough other

-- growth, of whatever both ask
abbrev pub LinesGrow : Type 0
LinesGrow = (input other text out : List ℕ) → Writes input text → Writes other out
    → (fs gs : List Frame) (q r : Listed) → IsAsking input fs q → IsAsking other gs r
    → (j k : ℕ) → j < entries asks fs → k < entries asks gs
    → GrowsInto (asked fs q j) (asked gs r k)
    → SameAsk (line_at (entries asks fs) text j) (line_at (entries asks gs) out k)
    → IsGrownLine (line_at (entries asks fs) text j) (line_at (entries asks gs) out k)

-- a second file's call is the same, but allows no fewer rounds
pub record AllowsMore (call other : Call) : Type 0 where
  pub same : allowed call other.allowance ≡ other
  pub more : call.allowance ≤ other.allowance

-- an answer given at one allowance, 0, 1 or 2, returns in the same line, with its count
abbrev pub LinesReturn : Type 0
LinesReturn = (input other text out : List ℕ) → Writes input text → Writes other out
    → (fs gs : List Frame) (q r : Listed) → IsAsking input fs q → IsAsking other gs r
    → (j k : ℕ) → j < entries asks fs → k < entries asks gs
    → AllowsMore (asked fs q j) (asked gs r k)
    → number_on (line_at (entries asks fs) text j) ≤ 2
    → line_at (entries asks gs) out k ≡ line_at (entries asks fs) text j

-- concepts × states × (states − 1) rounds always suffice
abbrev pub RoundsSuffice : Type 0
RoundsSuffice = (input : List ℕ) (fs : List Frame) (q : Listed) → IsAsking input fs q
    → (k : ℕ) → k < entries asks fs
    → most_rounds (asked fs q k).counts ≤ (asked fs q k).allowance → Enough (asked fs q k)
