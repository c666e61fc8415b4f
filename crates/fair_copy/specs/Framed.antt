-- The frames of what is held of a file: of each table's records, in their order.
use Rattle.std.specs.Prelude.{ℕ, List, [], ◌∷◌, Option, None, Some, map}
use Rattle.std.specs.List.{flat_map}
use Rattle.meaning.specs.Lent.{records, rule_width, concept_fact_width, role_fact_width, step_width, final_width, final_at}
use Rattle.tables.specs.Records.{read_concept_pair, read_role_pair, read_concept_fact, read_role_fact, read_step}
use Rattle.tables.specs.declared.records.Step.{Step}
use Rattle.tables.specs.declared.records.Letter.{Letter}
use Rattle.tables.specs.declared.records.Letter.TheVariants.{Role, Test}
use Rattle.kinds.specs.declared.State.{State}
use Rattle.frames.specs.declared.Frame.{Frame}
use Rattle.frames.specs.declared.Frame.TheVariants.{Declared, ConceptRule, ConceptExclusion, RoleRule, RoleExclusion, ConceptFact, RoleFact, RoleStep, TestStep, Final, Allowance}
use Rattle.reading.specs.declared.File.{File}
use Rattle.fair_copy.specs.declared.report.Part.{Part}
use Rattle.fair_copy.specs.declared.report.Part.TheVariants as part
use Rattle.fair_copy.specs.declared.report.TheConstants.{PARTS}

-- the frame of a step that is read of a table
abbrev pub step_of : State → Letter → State → Frame
step_of s (Role S) t = RoleStep s S t
step_of s (Test A) t = TestStep s A t

abbrev pub read_step_frame : Step → Frame
read_step_frame x = step_of x.from x.letter x.to

-- the frames of each table
module _ (t : List ℕ) where
  abbrev concept_rule_frames : List Frame
  concept_rule_frames =
      map (λ r. ConceptRule r.left r.right) (records rule_width read_concept_pair t)

  abbrev concept_exclusion_frames : List Frame
  concept_exclusion_frames =
      map (λ r. ConceptExclusion r.left r.right) (records rule_width read_concept_pair t)

  abbrev role_rule_frames : List Frame
  role_rule_frames = map (λ r. RoleRule r.left r.right) (records rule_width read_role_pair t)

  abbrev role_exclusion_frames : List Frame
  role_exclusion_frames =
      map (λ r. RoleExclusion r.left r.right) (records rule_width read_role_pair t)

  abbrev concept_fact_frames : List Frame
  concept_fact_frames =
      map (λ f. ConceptFact f.name f.individual f.deed)
      (records concept_fact_width read_concept_fact t)

  abbrev role_fact_frames : List Frame
  role_fact_frames =
      map (λ f. RoleFact f.role f.first f.second f.deed) (records role_fact_width read_role_fact t)

  abbrev step_frames : List Frame
  step_frames = map read_step_frame (records step_width read_step t)

  abbrev final_frames : List Frame
  final_frames = map Final (records final_width final_at t)

-- the frame of an allowance, where one is given
abbrev pub allowance_frames : Option ℕ → List Frame
allowance_frames None = []
allowance_frames (Some n) = Allowance n ∷ []

-- the frames of each part of what is held
abbrev pub part_frames : File → Part → List Frame
part_frames file part.Declared = Declared file.counts ∷ []
part_frames file part.ConceptRules = concept_rule_frames file.concept_rules
part_frames file part.ConceptExclusions = concept_exclusion_frames file.concept_exclusions
part_frames file part.RoleRules = role_rule_frames file.role_rules
part_frames file part.RoleExclusions = role_exclusion_frames file.role_exclusions
part_frames file part.ConceptFacts = concept_fact_frames file.concept_facts
part_frames file part.RoleFacts = role_fact_frames file.role_facts
part_frames file part.Steps = step_frames file.steps
part_frames file part.Finals = final_frames file.finals
part_frames file part.Allowance = allowance_frames file.allowance

-- and of all of it, but asks and an expression
abbrev pub typed_out : File → List Frame
typed_out file = flat_map (part_frames file) PARTS
