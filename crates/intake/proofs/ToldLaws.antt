-- What a list was held against where the rounds were told: the lines of all their entries, in their order.
use Rattle.std.specs.Prelude.{ℕ, suc, ◌+◌, ◌≡◌, refl, List, [], ◌∷◌, ◌++◌, map, length, Result, Ok, Err, IfErr, IsErrAnd}
use Rattle.std.specs.declared.io.Error.{Error}
use Rattle.std.proofs.Common.{sym, ap, ◌∙◌, subst, arith, append_assoc, append-nil}
use Rattle.std.proofs.Math.Path.{ap₂}
use Rattle.std.proofs.lemmas.List.{map-append}
use Rattle.streams.specs.Input.{Input}
use Rattle.kinds.specs.declared.State.{State}
use Rattle.kinds.specs.declared.Concept.{Concept}
use Rattle.intake.specs.Next.{TakesAll, StopsAmong}
use Rattle.intake.specs.Entries.{entry_line, round_lines}
use Rattle.intake.specs.Stops.{StopsBy}
use Rattle.intake.specs.declared.comparison.Stop.{Stop}
use Rattle.intake.specs.declared.comparison.Stop.TheVariants.{Departs, Unread}
use Rattle.theory.specs.Listing.{entries_from}
use Rattle.meaning.specs.Collection.{Collection}
use Rattle.meaning.specs.Listing.{numbered_lite}
use Rattle.sheet.specs.declared.round_marks.RoundMarks.{RoundMarks}
use Rattle.sheet.specs.Told.{Told, Failed, none, next}
use Rattle.intake.proofs.NextLaws.{takes_none, takes-both, stops-after, stops-before}

-- the lines of the entries of some rounds in a row, of which the first is round n
abbrev pub lines_from : ℕ → List RoundMarks → List (List ℕ)
lines_from n [] = []
lines_from n (marks ∷ rounds) = round_lines n marks ++ lines_from (suc n) rounds

lines-append : (n : ℕ) (rounds more : List RoundMarks) → lines_from n (rounds ++ more) ≡ lines_from n rounds ++ lines_from (n + length rounds) more
lines-append n [] more = let e : n ≡ n + 0 = omega arith in ap (λ m. lines_from m more) e
lines-append n (marks ∷ rounds) more =
    let e : suc n + length rounds ≡ n + suc (length rounds) = omega arith in
    ap (λ (ls : List (List ℕ)). round_lines n marks ++ ls)
    (lines-append (suc n) rounds more ∙ ap (λ m. lines_from (suc n) rounds ++ lines_from m more) e)
    ∙ sym (append_assoc (round_lines n marks) (lines_from (suc n) rounds) (lines_from (n + suc (length rounds)) more))

lines-last : (rounds : List RoundMarks) (marks : RoundMarks) → lines_from 0 (rounds ++ marks ∷ []) ≡ lines_from 0 rounds ++ round_lines (length rounds) marks
lines-last rounds marks =
    let e : 0 + length rounds ≡ length rounds = omega arith in
    lines-append 0 rounds (marks ∷ [])
    ∙ ap (λ (ls : List (List ℕ)). lines_from 0 rounds ++ ls)
    (append-nil (round_lines (0 + length rounds) marks) ∙ ap (λ n. round_lines n marks) e)

-- they are those of the entries that the rounds make
module _ (𝓒 : Collection) where
  round-entries : (n : ℕ) (marks : RoundMarks) → map entry_line (map (λ x. (n, x.0, x.1, x.2)) marks) ≡ round_lines n marks
  round-entries n [] = refl
  round-entries n (x ∷ marks) = ap (λ (ls : List (List ℕ)). entry_line (n, x.0, x.1, x.2) ∷ ls) (round-entries n marks)

  pub entries-lines : (n : ℕ) (rounds : List RoundMarks) → map entry_line (entries_from (numbered_lite 𝓒) n rounds) ≡ lines_from n rounds
  entries-lines n [] = refl
  entries-lines n (marks ∷ rounds) =
      map-append entry_line (map (λ x. (n, x.0, x.1, x.2)) marks) (entries_from (numbered_lite 𝓒) (suc n) rounds)
      ∙ ap₂ (λ (l m : List (List ℕ)). l ++ m) (round-entries n marks) (entries-lines (suc n) rounds)

-- a listener that takes the lines of each round from one input, which keeps its name, and counts them
module _ {L : Type 0} (name : L → ℕ) (input : L → Input) (count : L → ℕ) where
  abbrev pub Hears : L → ℕ → RoundMarks → L → Type 0
  Hears old round marks new =
      (name new ≡ name old) × TakesAll (input old) (input new) (count old) (count new) (round_lines round marks)

  abbrev pub Fails : (Error → Type 0) → L → ℕ → RoundMarks → Stop → L → Type 0
  Fails fails old round marks stop new =
      (name new ≡ name old) × StopsBy fails (input old) (input new) (count old) (count new) (round_lines round marks) stop

  module _ (from : L) where
    -- THEOREM: where all rounds were told their lines were taken
    pub told-all : {rounds : List RoundMarks} {l : L} → Told Hears from rounds l
        → (name l ≡ name from) × TakesAll (input from) (input l) (count from) (count l) (lines_from 0 rounds)
    told-all none = (refl, takes_none (input from) (count from))
    told-all (next {rounds = rounds} {to = l} {marks = marks} t (same, took)) =
        let (named, all) = told-all t in (
          same ∙ named,
          subst (TakesAll (input from) (input l) (count from) (count l)) (sym (lines-last rounds marks)) (takes-both all took),
        )

    -- THEOREM: where it failed it stopped among the lines of all rounds, or the source failed
    pub told-some : (fails : Error → Type 0) (rounds rest : List RoundMarks) (stop : Stop) (l : L) → Failed Hears (Fails fails) from rounds stop l
        → (name l ≡ name from) × StopsBy fails (input from) (input l) (count from) (count l) (lines_from 0 (rounds ++ rest)) stop
    told-some fails rounds rest stop l f = (f.failed.0 ∙ (told-all f.told).0, by stop f.failed.1)
      where
        by : (stop : Stop) → StopsBy fails (input f.at) (input l) (count f.at) (count l) (round_lines (length f.before) f.last) stop
            → StopsBy fails (input from) (input l) (count from) (count l) (lines_from 0 (rounds ++ rest)) stop
        by (Unread e) h = h
        by Departs h =
            subst (StopsAmong (input from) (input l) (count from) (count l))
            (sym (lines-append 0 rounds rest ∙ ap (λ (ls : List (List ℕ)). ls ++ lines_from (0 + length rounds) rest) (ap (lines_from 0) f.all ∙ lines-last f.before f.last)))
            (stops-before (lines_from (0 + length rounds) rest) (stops-after (told-all f.told).1 h))

-- of the marks of a round those so far, whose lines are taken
pub record MarksSoFar (round : ℕ) (marks left : RoundMarks) (old new : Input) (i j : ℕ) : Type 0 where
  pub done : RoundMarks
  pub parts : marks ≡ done ++ left
  pub took : TakesAll old new i j (round_lines round done)

round-both : (round : ℕ) (xs ys : RoundMarks) → round_lines round (xs ++ ys) ≡ round_lines round xs ++ round_lines round ys
round-both round xs ys = map-append (λ (x : State × State × Concept). entry_line (round, x.0, x.1, x.2)) xs ys

module _ {round : ℕ} {marks left next : RoundMarks} {old mid : Input} {i j : ℕ} {x : State × State × Concept}
    (s : MarksSoFar round marks left old mid i j) (e : left ≡ x ∷ next) (new : Input) (k : ℕ) where
  pub one_so_far : TakesAll mid new j k (entry_line (round, x.0, x.1, x.2) ∷ []) → MarksSoFar round marks next old new i k
  one_so_far t = record {
    done = s.done ++ x ∷ [];
    parts = s.parts ∙ ap (λ (l : RoundMarks). s.done ++ l) e ∙ sym (append_assoc s.done (x ∷ []) next);
    took = subst (TakesAll old new i k) (sym (round-both round s.done (x ∷ []))) (takes-both s.took t);
  }

  -- it stops at the next
  pub stops_there : (fails : Error → Type 0) (stop : Stop) → StopsBy fails mid new j k (entry_line (round, x.0, x.1, x.2) ∷ []) stop
      → StopsBy fails old new i k (round_lines round marks) stop
  stops_there fails (Unread d) h = h
  stops_there fails Departs h =
      let all : round_lines round marks ≡ (round_lines round s.done ++ entry_line (round, x.0, x.1, x.2) ∷ []) ++ round_lines round next =
      ap (round_lines round) (s.parts ∙ ap (λ (l : RoundMarks). s.done ++ l) e) ∙ round-both round s.done (x ∷ next)
      ∙ sym (append_assoc (round_lines round s.done) (entry_line (round, x.0, x.1, x.2) ∷ []) (round_lines round next)) in
      subst (StopsAmong old new i k) (sym all) (stops-before (round_lines round next) (stops-after s.took h))

-- an error that is passed on as it came
pub passed_on : {A E : Type 0} (r : Result A E) (e : E) (Q : E → Type 0) → IsErrAnd r (λ d. d ≡ e) → Q e → IfErr r Q
passed_on (Ok x) e Q h q = tt
passed_on (Err d) e Q h q = rw h q
