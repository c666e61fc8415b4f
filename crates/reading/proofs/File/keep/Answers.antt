-- A frame of another kind than an expression passes the tests of one.
use Rattle.reading.proofs.Rows.{passes}
use Rattle.reading.proofs.File.keep.Goals.{in-Declared, in-ConceptRule, in-ConceptExclusion, in-RoleRule, in-RoleExclusion, in-ConceptFact, in-RoleFact, in-RoleStep, in-TestStep, in-Final, in-Ask, in-AskFrom, in-Allowance, in-Salvage, in-ListedMark, in-Expression+in_ok-express-in-Expression}
use Rattle.reading.proofs.File.keep.Goals as goal

pub returns-clause-judged : goal.returns-clause-judged
returns-clause-judged c few =
    elim c.match-frame.branch [
      | in-Declared w ↦ rw w.in-Declared.is passes
      | in-ConceptRule w ↦ rw w.in-ConceptRule.is passes
      | in-ConceptExclusion w ↦ rw w.in-ConceptExclusion.is passes
      | in-RoleRule w ↦ rw w.in-RoleRule.is passes
      | in-RoleExclusion w ↦ rw w.in-RoleExclusion.is passes
      | in-ConceptFact w ↦ rw w.in-ConceptFact.is passes
      | in-RoleFact w ↦ rw w.in-RoleFact.is passes
      | in-RoleStep w ↦ rw w.in-RoleStep.is passes
      | in-TestStep w ↦ rw w.in-TestStep.is passes
      | in-Final w ↦ rw w.in-Final.is passes
      | in-Ask w ↦ rw w.in-Ask.is passes
      | in-AskFrom w ↦ rw w.in-AskFrom.is passes
      | in-Allowance w ↦ rw w.in-Allowance.is passes
      | in-Salvage w ↦ rw w.in-Salvage.is passes
      | in-ListedMark w ↦ rw w.in-ListedMark.is passes
      | in-Expression+in_ok-express-in-Expression w ↦ rw w.in-Expression.is w.in_ok-express-in-Expression.ensures.taken
    ]
