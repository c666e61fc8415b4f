-- A line that fails a test is refused with its number, in their order, and one that passes both is the frame of its bytes.
use Rattle.std.proofs.Common.{◌≡◌, None, Some, ap, ◌∙◌, arith}
use Rattle.laws.specs.First.{fails, holds}
use Rattle.frames.specs.Digits.{byte_of, LineOk}
use Rattle.frames.specs.Kinds.{kind_of}
use Rattle.frames.proofs.Bytes.{sound_bytes}
use Rattle.frames.proofs.FrontLaws.{frame_read}
use Rattle.frames.proofs.read.Goals as goal

pub returns-then-not-is_sound : goal.returns-then-not-is_sound
returns-then-not-is_sound c = fails (λ ok. grind arith)

pub returns-in_default : goal.returns-in_default
returns-in_default c =
    let ok : LineOk c.args.line.now = grind arith in
    let line = ap (λ l. l.now) c.opened-reader.ensures.line in
    let first = rw (line, c.opened-reader.ensures.opened.at, sound_bytes c.args.line.now ok) at c.byte.ensures.value in
    let none : kind_of (byte_of c.args.line.now 0) ≡ None = grind (arith, first) in
    holds ok (fails (λ named. rw none at named))

pub returns-then-not-has_length : goal.returns-then-not-has_length
returns-then-not-has_length c =
    let ok : LineOk c.args.line.now = grind arith in
    let line = ap (λ l. l.now) c.opened-reader.ensures.line in
    let first = rw (line, c.opened-reader.ensures.opened.at, sound_bytes c.args.line.now ok) at c.byte.ensures.value in
    let named : kind_of (byte_of c.args.line.now 0) ≡ Some c.in-Some.kind = grind (arith, first) in
    holds ok (fails (λ long. grind (arith, rw named at long)))

pub returns : goal.returns
returns c =
    let ok : LineOk c.args.line.now = grind arith in
    let line = ap (λ l. l.now) c.opened-reader.ensures.line in
    let first = rw (line, c.opened-reader.ensures.opened.at) at c.byte.ensures.value in
    let behind = ap (λ l. l.now) (c.byte.ensures.next.line ∙ c.opened-reader.ensures.line) in
    rw (rw behind at c.frame_of.ensures.frame) (frame_read c.args.line.now c.in-Some.kind ok (grind (arith, first)) (grind arith))
