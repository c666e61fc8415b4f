-- A frame that passes its tests leaves less room.
use Rattle.std.specs.Prelude.{ℕ, zero, suc, Bool, true, false, ◌+◌, ◌-◌, ◌^◌, ◌<◌, ◌≡◌, List, [], ◌∷◌, ◌++◌, Option, None, Some, Ok, OnOk, Result, length, min}
use Rattle.std.proofs.Common.{refl, arith, length-append}
use Rattle.kinds.specs.Kinds.{number_of}
use Rattle.frames.specs.declared.Frame.{Frame}
use Rattle.frames.specs.declared.Frame.TheVariants.{Declared, ConceptRule, ConceptExclusion, RoleRule, RoleExclusion, ConceptFact, RoleFact, RoleStep, TestStep, Final, Ask, AskFrom, Allowance, Expression, Salvage, ListedMark}
use Rattle.reading.specs.declared.File.{File}
use Rattle.reading.specs.declared.Refusal.{Refusal}
use Rattle.reading.specs.File.{file_with, RoomIn}
use Rattle.reading.specs.Room.{table_room, list_room, once_room, choice_room, first_room, room_left}
use Rattle.reading.specs.Tables.{Kind, concept_rules, concept_exclusions, role_rules, role_exclusions, concept_facts, role_facts, steps, finals, asks, width, most_listed}
use Rattle.reading.specs.Turns.{FrameJudged, Passes}
use Rattle.reading.proofs.Judging.{first}

table_less : (kind : Kind) (numbers more : List ℕ) → 0 < length more → length more ≡ width kind → RoomIn kind numbers
    → table_room kind (numbers ++ more) < table_room kind numbers
unfolding table_room
table_less kind numbers more some wide room = omega (arith, length-append numbers more)

list_less : (n : ℕ) → n < most_listed → list_room (n + 1) < list_room n
unfolding list_room
list_less n room = omega arith

once_less : {A : Type 0} (o : Option A) (x : A) → o ≡ None → once_room (Some x) < once_room o
unfolding once_room
once_less o x e = rw e (omega arith)

choice_less : (b : Bool) → b ≡ false → choice_room true < choice_room b
unfolding choice_room
choice_less b e = rw e (omega arith)

-- behind any line no line is the first
first-none : (n : ℕ) → 0 < n → first_room n ≡ 0
unfolding first_room
first-none zero h = absurd (omega arith)
first-none (suc n) h = refl

counted-first : (n : ℕ) → first_room (min (n + 1) (2 ^ 64 - 1)) ≡ 0
counted-first n = first-none (min (n + 1) (2 ^ 64 - 1)) (omega arith)

first-one : (n : ℕ) → n ≡ 0 → first_room n ≡ 1
unfolding first_room
first-one n e = rw e refl

pub room_less : (file : File) (f : Frame) → Passes file f → room_left (file_with f file) < room_left file
room_less file (Declared c) p = omega (arith, counted-first file.lines, first-one file.lines p.in_place)
room_less file (ConceptRule C D) p =
    let less = table_less concept_rules file.concept_rules (number_of C ∷ number_of D ∷ []) (omega arith) refl p.room in omega (arith, counted-first file.lines, less)
room_less file (ConceptExclusion C D) p =
    let less = table_less concept_exclusions file.concept_exclusions (number_of C ∷ number_of D ∷ []) (omega arith) refl p.room in omega (arith, counted-first file.lines, less)
room_less file (RoleRule R S) p =
    let less = table_less role_rules file.role_rules (R.0 ∷ S.0 ∷ []) (omega arith) refl p.room in omega (arith, counted-first file.lines, less)
room_less file (RoleExclusion R S) p =
    let less = table_less role_exclusions file.role_exclusions (R.0 ∷ S.0 ∷ []) (omega arith) refl p.room in omega (arith, counted-first file.lines, less)
room_less file (ConceptFact A a n) p =
    let less = table_less concept_facts file.concept_facts (A.0 ∷ a.0 ∷ n.0 ∷ []) (omega arith) refl p.room in omega (arith, counted-first file.lines, less)
room_less file (RoleFact r a b n) p =
    let less = table_less role_facts file.role_facts (r.0 ∷ a.0 ∷ b.0 ∷ n.0 ∷ []) (omega arith) refl p.room in omega (arith, counted-first file.lines, less)
room_less file (RoleStep s R t) p =
    let less = table_less steps file.steps (0 ∷ s.0 ∷ R.0 ∷ t.0 ∷ []) (omega arith) refl p.room in omega (arith, counted-first file.lines, less)
room_less file (TestStep s A t) p =
    let less = table_less steps file.steps (1 ∷ s.0 ∷ A.0 ∷ t.0 ∷ []) (omega arith) refl p.room in omega (arith, counted-first file.lines, less)
room_less file (Final s) p =
    let less = table_less finals file.finals (s.0 ∷ []) (omega arith) refl p.room in omega (arith, counted-first file.lines, less)
room_less file (Ask a b) p =
    let less = table_less asks file.asks (0 ∷ a.0 ∷ b.0 ∷ []) (omega arith) refl p.room in omega (arith, counted-first file.lines, less)
room_less file (AskFrom a) p =
    let less = table_less asks file.asks (1 ∷ a.0 ∷ 0 ∷ []) (omega arith) refl p.room in omega (arith, counted-first file.lines, less)
room_less file (Allowance n) p = omega (arith, counted-first file.lines, once_less file.allowance n p.in_place.1)
room_less file (Expression row) p = omega (arith, counted-first file.lines, once_less file.expression row p.in_place.1)
room_less file Salvage p = omega (arith, counted-first file.lines, choice_less file.salvages p.in_place.1)
room_less file (ListedMark n s t B) p = omega (arith, counted-first file.lines, list_less file.listed p.room)

pub room_kept : (file new : File) (f : Frame) (r : Result (Unit {0}) Refusal) → FrameJudged file f (Ok tt)
    → OnOk r (new ≡ file_with f file) → OnOk r (room_left new < room_left file)
room_kept file new f (Ok u) j e = rw e (room_less file f (first file f j))
room_kept file new f r j e = tt
