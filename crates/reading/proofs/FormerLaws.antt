-- What a file was found to be while there were at most 16 states, beside what it is found to be today.
use Rattle.std.specs.Prelude.{ℕ, false, ◌<◌, ◌≤◌, ◌≡◌, ◌≢◌, ◌↔◌, ◌+◌, ◌⊎◌, All, IsSome, List, [], ◌∷◌, ◌++◌, Result, Ok, Err, length}
use Rattle.std.proofs.Common.{refl, ap, ◌∙◌, arith, inl, inr, append_assoc}
use Rattle.std.proofs.lemmas.List.Elements.{All-nil, All-cons, All-head, All-tail}
use Rattle.std.proofs.Math.Decide.{ℕ_discrete, dec_le, dec_lt}
use Rattle.kinds.specs.declared.Counts.{Counts}
use Rattle.laws.specs.First.{fails, holds}
use Rattle.frames.specs.Digits.{bytes}
use Rattle.frames.specs.Frames.{FrameOf}
use Rattle.frames.specs.declared.Frame.{Frame}
use Rattle.frames.specs.declared.Frame.TheVariants.{Declared, RoleStep, TestStep, Final, Allowance, Salvage, ListedMark}
use Rattle.frames.specs.declared.Misread.{Misread}
use Rattle.frames.proofs.Once.{frame-once}
use Rattle.reading.specs.declared.Refusal.{Refusal}
use Rattle.reading.specs.Tables.{Kind, steps, finals, entries, entry_in, list_in, declared_by, is_salvage, salvages}
use Rattle.reading.specs.Tables as table
use Rattle.reading.specs.Judged.{InPlace, Judged}
use Rattle.reading.specs.Reading.{Finds, unread, refused, taken, Verdict, faulty, sound, Reading, empty, whole, stopped, onward}
use Rattle.meaning.specs.Former.{former_states}
use Rattle.reading.specs.Former.{former_line, former_allowance, former_steps, former_finals, WasFull, FrameWasRefused, wide, unknown, unknown_choice, many, full, WasRefused, long, framed, FormerFinds, was_refused, as_today, FormerReading, IsFormerFault, FormerLine, FormerLimits}
use Rattle.reading.proofs.Once.{finds-once, once-by}
use Rattle.reading.proofs.Passed.{passed}
use Rattle.reading.proofs.Bounds.{chosen-same, choice-stands}
use Rattle.reading.proofs.Kept.{declared-later}
use Rattle.reading.proofs.ListLaws.{list-none, list-same, entry-listed, sound-extends}
use Rattle.reading.proofs.TableLaws.{added, entries-more, entries-cons, entries-append}

-- of two numbers, one at most as large as the other, smaller, or the same, unless it is not
at_most : {n m : ℕ} → ¬ (n < m) → m ≤ n
at_most {n} {m} h = by (dec_lt n m)
  where
    by : Dec (n < m) → m ≤ n
    by (yes x) = absurd (h x)
    by (no x) = omega (arith, x)

below : {n m : ℕ} → ¬ (n ≤ m) → m < n
below {n} {m} h = by (dec_le n m)
  where
    by : Dec (n ≤ m) → m < n
    by (yes x) = absurd (h x)
    by (no x) = omega (arith, x)

same-number : {n m : ℕ} → ¬ (n ≢ m) → n ≡ m
same-number {n} {m} h = by (ℕ_discrete n m)
  where
    by : Dec (n ≡ m) → n ≡ m
    by (yes x) = x
    by (no x) = absurd (h x)

same-frame : (line : List ℕ) (f g : Frame) → FrameOf line (Ok f) → FrameOf line (Ok g) → f ≡ g
same-frame line f g h k = let e = frame-once line (Ok f) (Ok g) h k in cc

module _ {before : List Frame} {line : List ℕ} where
  frame-once-refused : {f : Frame} {r q : Refusal} → FrameWasRefused before line f r → FrameWasRefused before line f q → r ≡ q
  frame-once-refused (wide n h) (wide m k) = refl
  frame-once-refused (unknown n s t B) (unknown m u v C) = refl
  frame-once-refused (unknown n s t B) (full g q k) = absurd k
  frame-once-refused (full f p h) (unknown n s t B) = absurd h
  frame-once-refused unknown_choice unknown_choice = refl
  frame-once-refused unknown_choice (full g q k) = absurd k
  frame-once-refused (full f p h) unknown_choice = absurd h
  frame-once-refused (many c p h) (many d q k) = refl
  frame-once-refused (full f p h) (full g q k) = refl
  frame-once-refused (wide n h) (full g q k) = absurd k
  frame-once-refused (many c p h) (full g q k) = absurd k
  frame-once-refused (full f p h) (wide m k) = absurd h
  frame-once-refused (full f p h) (many d q k) = absurd h

  once-refused : {r q : Refusal} → WasRefused before line r → WasRefused before line q → r ≡ q
  once-refused (long h) (long k) = refl
  once-refused (long h) (framed g q k i x) = absurd (omega (arith, h, k))
  once-refused (framed g q k i x) (long h) = absurd (omega (arith, h, k))
  once-refused (framed f r h i x) (framed g q k j y) = frame-once-refused x (rw (same-frame line g f j i) at y)

-- THEOREM: a line was found to be one thing
pub former-finds-once : {before : List Frame} {line : List ℕ} {r q : Result Frame Refusal} → FormerFinds before line r → FormerFinds before line q
    → r ≡ q
former-finds-once (was_refused r h) (was_refused q k) = ap Err (once-refused h k)
former-finds-once (was_refused r h) (as_today q n k) = absurd (n r h)
former-finds-once (as_today r n h) (was_refused q k) = absurd (n q k)
former-finds-once (as_today r n h) (as_today q m k) = finds-once h k

-- THEOREM: and so was a file
pub former-once : {before : List Frame} {ls : List (List ℕ)} {v w : Verdict} → FormerReading before ls v → FormerReading before ls w → v ≡ w
former-once = once-by FormerFinds (λ before line r q a b. former-finds-once a b)

-- a line that was taken is taken
still-taken : {before : List Frame} {line : List ℕ} {f : Frame} → FormerFinds before line (Ok f) → Finds before line (Ok f)
still-taken (as_today r n h) = h

-- a line was refused with one of four numbers
its-fault : {before : List Frame} {line : List ℕ} {r : Refusal} → WasRefused before line r → IsFormerFault (faulty before r)
its-fault (long h) = tt
its-fault (framed f r h i (wide n k)) = tt
its-fault (framed f r h i (unknown n s t B)) = tt
its-fault (framed f r h i unknown_choice) = tt
its-fault (framed f r h i (many c p k)) = tt
its-fault (framed f r h i (full g p k)) = tt

-- THEOREM: a file is what it was, or was refused with one of those numbers
pub former-else : {before : List Frame} {ls : List (List ℕ)} {v : Verdict} → FormerReading before ls v → Reading before ls v ⊎ IsFormerFault v
former-else empty = inl empty
former-else (whole f fs) = inl (whole f fs)
former-else (stopped before line ls r (was_refused q h)) = inr (its-fault h)
former-else (stopped before line ls r (as_today q n h)) = inl (stopped before line ls r h)
former-else (onward before line ls f v h rest) = by (former-else rest)
  where
    by : Reading (before ++ f ∷ []) ls v ⊎ IsFormerFault v → Reading before (line ∷ ls) v ⊎ IsFormerFault v
    by (inl r) = inl (onward before line ls f v (still-taken h) r)
    by (inr x) = inr x

-- whether a line was refused, and with which number
abbrev Was : (Refusal → Type 0) → Type 0
Was Refused = ((q : Refusal) × Refused q) ⊎ ((q : Refusal) → ¬ Refused q)

module _ (before : List Frame) (line : List ℕ) where
  in-place : (f : Frame) (r : Result (Unit {0}) Refusal) → Judged before f r → Dec (InPlace before f)
  in-place f r (fails n) = no n
  in-place f r (holds p rest) = yes p

  if-full : (f : Frame) → ((q : Refusal) → FrameWasRefused before line f q → InPlace before f × WasFull before f) → Dec (InPlace before f) → Dec (WasFull before f)
      → Was (FrameWasRefused before line f)
  if-full f only (yes p) (yes h) = inl (_, full f p h)
  if-full f only (no p) d = inr (λ q x. p (only q x).0)
  if-full f only (yes p) (no h) = inr (λ q x. h (only q x).1)

  frame-was : (f : Frame) → Dec (InPlace before f) → Was (FrameWasRefused before line f)
  frame-was (Allowance n) p = by (ℕ_discrete (bytes line) former_allowance)
    where
      by : Dec (bytes line ≡ former_allowance) → Was (FrameWasRefused before line (Allowance n))
      by (yes e) = inr none
        where
          none : (q : Refusal) → ¬ FrameWasRefused before line (Allowance n) q
          none q (wide m h) = h e
          none q (full f i h) = h
      by (no e) = inl (_, wide n e)
  frame-was (Declared c) p = by p (dec_lt former_states c.states)
    where
      only : (q : Refusal) → FrameWasRefused before line (Declared c) q → InPlace before (Declared c) × (former_states < c.states)
      only q (many d i h) = (i, h)
      only q (full f i h) = absurd h

      by : Dec (InPlace before (Declared c)) → Dec (former_states < c.states) → Was (FrameWasRefused before line (Declared c))
      by (yes i) (yes h) = inl (_, many c i h)
      by (no i) d = inr (λ q x. i (only q x).0)
      by (yes i) (no h) = inr (λ q x. h (only q x).1)
  frame-was (RoleStep s R t) p = if-full (RoleStep s R t) only p (dec_le former_steps (entries steps before))
    where
      only : (q : Refusal) → FrameWasRefused before line (RoleStep s R t) q → InPlace before (RoleStep s R t) × WasFull before (RoleStep s R t)
      only q (full f i h) = (i, h)
  frame-was (TestStep s A t) p = if-full (TestStep s A t) only p (dec_le former_steps (entries steps before))
    where
      only : (q : Refusal) → FrameWasRefused before line (TestStep s A t) q → InPlace before (TestStep s A t) × WasFull before (TestStep s A t)
      only q (full f i h) = (i, h)
  frame-was (Final s) p = if-full (Final s) only p (dec_le former_finals (entries finals before))
    where
      only : (q : Refusal) → FrameWasRefused before line (Final s) q → InPlace before (Final s) × WasFull before (Final s)
      only q (full f i h) = (i, h)
  frame-was (ListedMark n s t B) p = inl (_, unknown n s t B)
  frame-was Salvage p = inl (_, unknown_choice)
  frame-was f p = inr none
    where
      none : (q : Refusal) → ¬ FrameWasRefused before line f q
      none q (full g i h) = h

  was-framed : (f : Frame) → length line ≤ former_line → FrameOf line (Ok f) → Was (FrameWasRefused before line f) → Was (WasRefused before line)
  was-framed f short o (inl x) = inl (x.0, framed f x.0 short o x.1)
  was-framed f short o (inr n) = inr none
    where
      none : (q : Refusal) → ¬ WasRefused before line q
      none q (long h) = omega (arith, h, short)
      none q (framed g r h i x) = n r (rw (same-frame line g f i o) at x)

  was-unread : (m : Misread) → length line ≤ former_line → FrameOf line (Err m) → (q : Refusal) → ¬ WasRefused before line q
  was-unread m short o q (long h) = omega (arith, h, short)
  was-unread m short o q (framed g r h i x) = let e = frame-once line (Err m) (Ok g) o i in absurd cc

  was : {r : Result Frame Refusal} → Finds before line r → Was (WasRefused before line)
  was {r} found = by (dec_lt former_line (length line)) found
    where
      by : Dec (former_line < length line) → {r : Result Frame Refusal} → Finds before line r → Was (WasRefused before line)
      by (yes h) found = inl (_, long h)
      by (no h) (unread m o) = inr (was-unread m (omega (arith, h)) o)
      by (no h) (refused f r o j) = was-framed f (omega (arith, h)) o (frame-was f (in-place f (Err r) j))
      by (no h) (taken f o j) = was-framed f (omega (arith, h)) o (frame-was f (in-place f (Ok tt) j))

-- THEOREM: a file that is found to be anything was found to be something
pub former-found : {before : List Frame} {ls : List (List ℕ)} {v : Verdict} → Reading before ls v → (w : Verdict) × FormerReading before ls w
former-found empty = (_, empty)
former-found (whole f fs) = (_, whole f fs)
former-found (stopped before line ls r h) = by (was before line h)
  where
    by : Was (WasRefused before line) → (w : Verdict) × FormerReading before (line ∷ ls) w
    by (inl x) = (_, stopped before line ls x.0 (was_refused x.0 x.1))
    by (inr n) = (_, stopped before line ls r (as_today (Err r) n h))
former-found (onward before line ls f v h rest) = by (was before line h) (former-found rest)
  where
    by : Was (WasRefused before line) → (w : Verdict) × FormerReading (before ++ f ∷ []) ls w → (w : Verdict) × FormerReading before (line ∷ ls) w
    by (inl x) later = (_, stopped before line ls x.0 (was_refused x.0 x.1))
    by (inr n) later = (later.0, onward before line ls f later.0 (as_today (Ok f) n h) later.1)

-- what some frames have at most
record Few (fs : List Frame) : Type 0 where
  states : (declared_by fs).states ≤ former_states
  steps : entries table.steps fs ≤ former_steps
  finals : entries table.finals fs ≤ former_finals
  no_list : list_in fs ≡ []
  no_choice : salvages fs ≡ false

none_few : Few []
unfolding entries
none_few = record { states = omega arith; steps = omega arith; finals = omega arith; no_list = list-none; no_choice = refl }

-- a frame that was not refused leaves them few
module _ (before : List Frame) (line : List ℕ) where
  states-more : (f : Frame) → (declared_by before).states ≤ former_states → (declared_by (f ∷ [])).states ≤ former_states
      → (declared_by (before ++ f ∷ [])).states ≤ former_states
  states-more f h k = by before h
    where
      by : (before : List Frame) → (declared_by before).states ≤ former_states → (declared_by (before ++ f ∷ [])).states ≤ former_states
      by [] h = k
      by (g ∷ gs) h = rw (declared-later (g ∷ gs) f (λ e. cc)) h

  few-more : (f : Frame) → InPlace before f → ((q : Refusal) → ¬ FrameWasRefused before line f q) → Few before → Few (before ++ f ∷ [])
  few-more (Declared c) p n few = record {
    states = states-more (Declared c) few.states (at_most (λ h. n _ (many c p h)));
    steps = omega (arith, entries-more table.steps before (Declared c), few.steps);
    finals = omega (arith, entries-more table.finals before (Declared c), few.finals);
    no_list = list-same before (Declared c) refl ∙ few.no_list;
    no_choice = chosen-same before (Declared c) refl ∙ few.no_choice;
  }
  few-more (RoleStep s R t) p n few = record {
    states = states-more (RoleStep s R t) few.states (omega arith);
    steps =
        let room : entries table.steps before < former_steps = below (λ h. n _ (full (RoleStep s R t) p (omega (arith, h)))) in
        omega (arith, entries-more table.steps before (RoleStep s R t), room);
    finals = omega (arith, entries-more table.finals before (RoleStep s R t), few.finals);
    no_list = list-same before (RoleStep s R t) refl ∙ few.no_list;
    no_choice = chosen-same before (RoleStep s R t) refl ∙ few.no_choice;
  }
  few-more (TestStep s A t) p n few = record {
    states = states-more (TestStep s A t) few.states (omega arith);
    steps =
        let room : entries table.steps before < former_steps = below (λ h. n _ (full (TestStep s A t) p (omega (arith, h)))) in
        omega (arith, entries-more table.steps before (TestStep s A t), room);
    finals = omega (arith, entries-more table.finals before (TestStep s A t), few.finals);
    no_list = list-same before (TestStep s A t) refl ∙ few.no_list;
    no_choice = chosen-same before (TestStep s A t) refl ∙ few.no_choice;
  }
  few-more (Final s) p n few = record {
    states = states-more (Final s) few.states (omega arith);
    steps = omega (arith, entries-more table.steps before (Final s), few.steps);
    finals =
        let room : entries table.finals before < former_finals = below (λ h. n _ (full (Final s) p (omega (arith, h)))) in
        omega (arith, entries-more table.finals before (Final s), room);
    no_list = list-same before (Final s) refl ∙ few.no_list;
    no_choice = chosen-same before (Final s) refl ∙ few.no_choice;
  }
  few-more Salvage p n few = absurd (n _ unknown_choice)
  few-more (ListedMark k s t B) p n few = absurd (n _ (unknown k s t B))
  few-more f p n few = record {
    states = states-more f few.states (omega arith);
    steps = omega (arith, entries-more table.steps before f, few.steps);
    finals = omega (arith, entries-more table.finals before f, few.finals);
    no_list = list-same before f refl ∙ few.no_list;
    no_choice = chosen-same before f refl ∙ few.no_choice;
  }

  -- of a line that was taken
  fit : {f : Frame} → FormerFinds before line (Ok f) → FormerLine line
  fit (as_today r n h) = record {
    short = short;
    allowance = λ m o. same-number (λ e. n _ (framed (Allowance m) _ short o (wide m e)));
  }
    where
      short : length line ≤ former_line
      short = at_most (λ l. n _ (long l))

  taken-few : {f : Frame} → FormerFinds before line (Ok f) → Few before → Few (before ++ f ∷ [])
  taken-few (as_today r n (taken f o j)) few =
      few-more f (passed before f j).in_place (λ q x. n q (framed f q (at_most (λ l. n _ (long l))) o x)) few

was-within : {before : List Frame} {ls : List (List ℕ)} {fs : List Frame} → FormerReading before ls (sound fs) → Few before → FormerLimits ls fs
was-within (whole f fs) few =
    record { lines = All-nil FormerLine; states = few.states; steps = few.steps; finals = few.finals; no_list = few.no_list; no_choice = few.no_choice }
was-within (onward before line ls f v h rest) few =
    let later = was-within rest (taken-few before line h few) in
    record {
      lines = All-cons FormerLine line ls (fit before line h) later.lines;
      states = later.states;
      steps = later.steps;
      finals = later.finals;
      no_list = later.no_list;
      no_choice = later.no_choice;
    }

still-sound : {before : List Frame} {ls : List (List ℕ)} {fs : List Frame} → FormerReading before ls (sound fs) → Reading before ls (sound fs)
still-sound (whole f fs) = whole f fs
still-sound (onward before line ls f v h rest) = onward before line ls f v (still-taken h) (still-sound rest)

-- where they are few to the end, no frame of them was refused
module _ (before : List Frame) (line : List ℕ) (fit : FormerLine line) (rest : List Frame) where
  not-first : (c : Counts) → before ≡ [] → (declared_by (before ++ Declared c ∷ rest)).states ≤ former_states → ¬ (former_states < c.states)
  not-first c p few h = let own : c.states ≤ former_states = rw p at few in omega (arith, own, h)

  one-more : (kind : Kind) (f : Frame) → entries kind (before ++ f ∷ rest) ≡ entries kind before + (added kind f + entries kind rest)
  one-more kind f = entries-append kind before (f ∷ rest) ∙ ap (λ n. entries kind before + n) (entries-cons kind f rest)

  not-listed : (f : Frame) → IsSome (entry_in f) → list_in (before ++ f ∷ rest) ≡ [] → ⊥
  not-listed f some e = entry-listed before f rest some e

  not-full : (f : Frame) → Few (before ++ f ∷ rest) → ¬ WasFull before f
  not-full (RoleStep s R t) few h = omega (arith, one-more table.steps (RoleStep s R t), few.steps, h)
  not-full (TestStep s A t) few h = omega (arith, one-more table.steps (TestStep s A t), few.steps, h)
  not-full (Final s) few h = omega (arith, one-more table.finals (Final s), few.finals, h)
  not-full f few h = h

  frame-kept : (f : Frame) → FrameOf line (Ok f) → Few (before ++ f ∷ rest) → (q : Refusal) → ¬ FrameWasRefused before line f q
  frame-kept (Allowance n) o few q (wide m h) = h (fit.allowance n o)
  frame-kept (Declared c) o few q (many d p h) = not-first c p few.states h
  frame-kept (ListedMark n s t B) o few q (unknown m u v C) = not-listed (ListedMark n s t B) refl few.no_list
  frame-kept Salvage o few q unknown_choice = choice-stands before rest few.no_choice
  frame-kept f o few q (full g p h) = not-full f few h

  line-kept : (f : Frame) → FrameOf line (Ok f) → Few (before ++ f ∷ rest) → (q : Refusal) → ¬ WasRefused before line q
  line-kept f o few q (long h) = omega (arith, h, fit.short)
  line-kept f o few q (framed g r short k x) = frame-kept f o few r (rw (same-frame line g f k o) at x)

was-sound : {before : List Frame} {ls : List (List ℕ)} {fs : List Frame} → Reading before ls (sound fs) → All FormerLine ls → Few fs
    → FormerReading before ls (sound fs)
was-sound (whole f fs) fits few = whole f fs
was-sound (onward before line ls f (sound fs) (taken g o j) rest) fits few =
    let later = sound-extends rest in
    let e = later.are ∙ append_assoc before (f ∷ []) later.rest in
    let none = line-kept before line (All-head FormerLine line ls fits) later.rest f o (rw e at few) in
    onward before line ls f (sound fs) (as_today (Ok f) none (taken f o j)) (was-sound rest (All-tail FormerLine line ls fits) few)

-- THEOREM: a file was sound exactly where it is sound, with the same frames, and has no more than it might have
pub former-sound : (ls : List (List ℕ)) (fs : List Frame) → FormerReading [] ls (sound fs) ↔ (Reading [] ls (sound fs) × FormerLimits ls fs)
former-sound ls fs = (
  λ r. (still-sound r, was-within r none_few),
  λ h. was-sound h.0 h.1.lines (record { states = h.1.states; steps = h.1.steps; finals = h.1.finals; no_list = h.1.no_list; no_choice = h.1.no_choice }),
)
