-- What a frame is judged by what is held is what it is judged after the frames.
use Rattle.std.specs.Prelude.{IsSome, ◌<◌, ◌≡◌, ◌≢◌, ◌↔◌, List, [], ◌∷◌, Result, Ok, Err, length}
use Rattle.std.proofs.Common.{refl, arith}
use Rattle.laws.specs.First as tests
use Rattle.laws.specs.First.{fails, holds, first-onward, first-passed}
use Rattle.frames.specs.declared.Frame.{Frame}
use Rattle.frames.specs.declared.Frame.TheVariants.{Declared, ConceptRule, ConceptExclusion, RoleRule, RoleExclusion, ConceptFact, RoleFact, RoleStep, TestStep, Final, Ask, AskFrom, Allowance, Expression, Salvage, ListedMark}
use Rattle.reading.specs.declared.File.{File}
use Rattle.reading.specs.declared.Refusal.{Refusal}
use Rattle.reading.specs.Tables.{Kind, concept_rules, concept_exclusions, role_rules, role_exclusions, concept_facts, role_facts, steps, finals, asks, listed, record_in, most, entries, table}
use Rattle.reading.specs.File.{file_of, HoldsOpen, IsInPlace, HasShelfRoom, RoomIn}
use Rattle.reading.specs.Judged.{IsOpen, InPlace, HasRoom, Judged}
use Rattle.reading.specs.Turns.{FrameJudged, ExpressionJudged, Passes}
use Rattle.reading.proofs.ListLaws.{none-counted}
use Rattle.reading.proofs.TableLaws.{table-length}

pub begun : (fs : List Frame) → (0 < length fs) ↔ (fs ≢ [])
begun [] = (λ h. absurd (omega arith), λ n. absurd (n refl))
begun (f ∷ fs) = (λ h e. cc, λ n. omega arith)

none : (fs : List Frame) → (length fs ≡ 0) ↔ (fs ≡ [])
none [] = (λ h. refl, λ h. refl)
none (f ∷ fs) = (λ h. absurd (omega arith), λ e. absurd cc)

module _ (before : List Frame) where
  same_open : HoldsOpen (file_of before) ↔ IsOpen before
  same_open = (
    λ h. record { begun = (begun before).0 h.begun; no_list = (none-counted before).0 h.no_list },
    λ h. record { begun = (begun before).1 h.begun; no_list = (none-counted before).1 h.no_list },
  )

  pub in_place : (f : Frame) → IsInPlace (file_of before) f ↔ InPlace before f
  in_place (Declared c) = none before
  in_place (Allowance n) = (λ h. (same_open.0 h.0, h.1), λ h. (same_open.1 h.0, h.1))
  in_place (RoleStep s R t) = (λ h. (same_open.0 h.0, h.1), λ h. (same_open.1 h.0, h.1))
  in_place (TestStep s A t) = (λ h. (same_open.0 h.0, h.1), λ h. (same_open.1 h.0, h.1))
  in_place (Final s) = (λ h. (same_open.0 h.0, h.1), λ h. (same_open.1 h.0, h.1))
  in_place (Expression row) = (λ h. (same_open.0 h.0, h.1, h.2, h.3), λ h. (same_open.1 h.0, h.1, h.2, h.3))
  in_place Salvage = (λ h. (same_open.0 h.0, h.1), λ h. (same_open.1 h.0, h.1))
  in_place (ListedMark n s t B) = begun before
  in_place f = same_open

  -- room for one more record
  abbrev Room : Kind → Type 0
  Room kind = entries kind before < most kind

  room-in : (kind : Kind) → RoomIn kind (table kind before) ↔ Room kind
  room-in concept_rules = (λ h. omega (arith, table-length concept_rules before), λ h. omega (arith, table-length concept_rules before))
  room-in concept_exclusions =
      (λ h. omega (arith, table-length concept_exclusions before), λ h. omega (arith, table-length concept_exclusions before))
  room-in role_rules = (λ h. omega (arith, table-length role_rules before), λ h. omega (arith, table-length role_rules before))
  room-in role_exclusions =
      (λ h. omega (arith, table-length role_exclusions before), λ h. omega (arith, table-length role_exclusions before))
  room-in concept_facts = (λ h. omega (arith, table-length concept_facts before), λ h. omega (arith, table-length concept_facts before))
  room-in role_facts = (λ h. omega (arith, table-length role_facts before), λ h. omega (arith, table-length role_facts before))
  room-in steps = (λ h. omega (arith, table-length steps before), λ h. omega (arith, table-length steps before))
  room-in finals = (λ h. omega (arith, table-length finals before), λ h. omega (arith, table-length finals before))
  room-in asks = (λ h. omega (arith, table-length asks before), λ h. omega (arith, table-length asks before))
  room-in listed = (λ h. omega (arith, table-length listed before), λ h. omega (arith, table-length listed before))

  room-to : (kind : Kind) (f : Frame) → HasShelfRoom (file_of before) f → IsSome (record_in kind f) → Room kind
  room-to concept_rules (ConceptRule C D) h e = (room-in concept_rules).0 h
  room-to concept_exclusions (ConceptExclusion C D) h e = (room-in concept_exclusions).0 h
  room-to role_rules (RoleRule R S) h e = (room-in role_rules).0 h
  room-to role_exclusions (RoleExclusion R S) h e = (room-in role_exclusions).0 h
  room-to concept_facts (ConceptFact A a n) h e = (room-in concept_facts).0 h
  room-to role_facts (RoleFact r a b n) h e = (room-in role_facts).0 h
  room-to steps (RoleStep s R t) h e = (room-in steps).0 h
  room-to steps (TestStep s A t) h e = (room-in steps).0 h
  room-to finals (Final s) h e = (room-in finals).0 h
  room-to asks (Ask a b) h e = (room-in asks).0 h
  room-to asks (AskFrom a) h e = (room-in asks).0 h
  room-to listed (ListedMark n s t B) h e = h
  room-to kind f h e = absurd cc

  room-from : (f : Frame) → HasRoom before f → HasShelfRoom (file_of before) f
  room-from (ConceptRule C D) h = (room-in concept_rules).1 (h concept_rules refl)
  room-from (ConceptExclusion C D) h = (room-in concept_exclusions).1 (h concept_exclusions refl)
  room-from (RoleRule R S) h = (room-in role_rules).1 (h role_rules refl)
  room-from (RoleExclusion R S) h = (room-in role_exclusions).1 (h role_exclusions refl)
  room-from (ConceptFact A a n) h = (room-in concept_facts).1 (h concept_facts refl)
  room-from (RoleFact r a b n) h = (room-in role_facts).1 (h role_facts refl)
  room-from (RoleStep s R t) h = (room-in steps).1 (h steps refl)
  room-from (TestStep s A t) h = (room-in steps).1 (h steps refl)
  room-from (Final s) h = (room-in finals).1 (h finals refl)
  room-from (Ask a b) h = (room-in asks).1 (h asks refl)
  room-from (AskFrom a) h = (room-in asks).1 (h asks refl)
  room-from (ListedMark n s t B) h = h listed refl
  room-from f h = tt

  pub room : (f : Frame) → HasShelfRoom (file_of before) f ↔ HasRoom before f
  room f = (λ h kind. room-to kind f h, room-from f)

-- a row of conditions of which one is put in other words
pub first-same : {A : Type 0} {P Q : Type 0} {answer : A} {Rest Other : A → Type 0} {r : A} → P ↔ Q → (Rest r → Other r)
    → tests.First P answer Rest r → tests.First Q answer Other r
first-same w go (fails n) = fails (λ q. n (w.1 q))
first-same w go (holds p h) = holds (w.0 p) (go h)

module _ (file : File) (f : Frame) where
  -- a frame that a first test refuses
  pub judged_refused : {q : Refusal} → FrameJudged file f (Err q) → (before : List Frame) → file ≡ file_of before → Judged before f (Err q)
  judged_refused {q} h before e =
      let t : FrameJudged (file_of before) f (Err q) = rw e at h in
      first-same (in_place before f)
      (first-onward (λ c. first-same (room before f)
      (first-onward (λ n. first-onward (λ a e. absurd cc))))) t

  -- a frame that the first tests do not refuse passes them all, and the other way
  pub first : FrameJudged file f (Ok tt) → Passes file f
  first h =
      let a = first-passed h (λ e. cc) in
      let b = first-passed a.1 (λ e. cc) in
      let c = first-passed b.1 (λ e. cc) in
      let d = first-passed c.1 (λ e. cc) in
      let g = first-passed d.1 (λ e. cc) in
      record { in_place = a.0; counts = b.0; room = c.0; numbers = d.0; ask = g.0 }

  pub passed_first : Passes file f → FrameJudged file f (Ok tt)
  passed_first p = holds p.in_place (holds p.counts (holds p.room (holds p.numbers (holds p.ask refl))))

  -- and one that has passed them, by its last
  pub judged_last : {q : Result (Unit {0}) Refusal} → FrameJudged file f (Ok tt) → ExpressionJudged file.counts f q → (before : List Frame)
      → file ≡ file_of before → Judged before f q
  judged_last h x before e =
      let p = first h in
      holds ((in_place before f).0 (rw e at p.in_place))
      (holds p.counts (holds ((room before f).0 (rw e at p.room))
      (holds (rw e at p.numbers) (holds (rw e at p.ask) (rw e at x)))))
