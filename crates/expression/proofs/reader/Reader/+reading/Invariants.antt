use Rattle.std.proofs.Common.{◌+◌, ◌≡◌, ◌*◌, ◌-◌, length}
use Rattle.expression.proofs.LoopLaws.{ItemsSoFar, SequencesSoFar}
use Rattle.expression.proofs.reader.Reader.+reading.Given as goal

-- the depth falls from an atom to what stands in its brackets
abbrev pub decreases-atom : goal.decreases-atom
decreases-atom l = 4 * l.depth

abbrev pub decreases-expression : goal.decreases-expression
decreases-expression l = 4 * l.depth + 3

abbrev pub decreases-item : goal.decreases-item
decreases-item l = 4 * l.depth + 1

abbrev pub decreases-sequence : goal.decreases-sequence
decreases-sequence l = 4 * l.depth + 2

abbrev pub invariant-expression-sequences : goal.invariant-expression-sequences
invariant-expression-sequences l = record {
  marks : l.self.marks ≡ l.fn.self.marks;
  so_far : SequencesSoFar l.depth l.fn.self.marks.now l.fn.self.at l.fn.self.count l.fn.self.rows l.fn.self.letters l.self.at l.self.count l.part l.self.rows l.self.letters;
}

abbrev pub decreases-expression-sequences : goal.decreases-expression-sequences
decreases-expression-sequences l = length l.self.marks.now - l.self.count

abbrev pub invariant-sequence-items : goal.invariant-sequence-items
invariant-sequence-items l = record {
  marks : l.self.marks ≡ l.fn.self.marks;
  so_far : ItemsSoFar l.depth l.fn.self.marks.now l.fn.self.at l.fn.self.count l.fn.self.rows l.fn.self.letters l.self.at l.self.count l.part l.self.rows l.self.letters;
}

abbrev pub decreases-sequence-items : goal.decreases-sequence-items
decreases-sequence-items l = length l.self.marks.now - l.self.count
