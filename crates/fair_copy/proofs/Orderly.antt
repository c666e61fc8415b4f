-- Frames in any order behind line 1, each declared and none an expression, a choice of salvage or an entry of a list, are taken one
-- after the other where tables have room for them and one allowance is given at most; and then their lines are read as them.
use Rattle.std.specs.Prelude.{◌≡◌, ◌≢◌, refl, ℕ, ◌+◌, ◌≤◌, false, None, IsSome, Ok, map}
use Rattle.std.proofs.Common.{sym, ap, ◌∙◌, subst, append_assoc, append-nil, arith}
use mathlib.Core.List.Memᴰ
use mathlib.Core.List.{List, [], ◌∷◌, ◌++◌}
use Rattle.laws.specs.Member.{◌∈◌}
use Rattle.laws.specs.First.{holds}
use Rattle.kinds.specs.declared.Counts.{Counts}
use Rattle.kinds.specs.Kinds.{CountsFit}
use Rattle.streams.specs.Lines.{lines}
use Rattle.frames.specs.Written.{line_of}
use Rattle.frames.specs.declared.Frame.{Frame}
use Rattle.frames.specs.declared.Frame.TheVariants.{Declared, RoleStep, TestStep, Final, Allowance, Expression, Salvage, ListedMark}
use Rattle.reading.specs.Tables.{Kind, asks, listed, record_in, most, entries, list_in, declared_by, allowance_given, expression_given, salvages}
use Rattle.reading.specs.Judged.{IsOpen, HasRoom, NumbersOk, AskOk, Judged}
use Rattle.reading.specs.Reading.{Finds, taken, Verdict, sound, Reading, whole, onward, Taken, none, more}
use Rattle.reading.proofs.TableLaws.{added, entries-append, entries-cons}
use Rattle.reading.proofs.Passed.{Passed}
use Rattle.fair_copy.specs.Copy.{frames_text}
use Rattle.frames.proofs.ReadBack.{line-is_read}
use Rattle.frames.proofs.Ends.{line-ends}
use Rattle.fair_copy.proofs.Fits.{AllFit}

-- a frame of a later line, declared, and no expression, no choice of salvage and no entry of a list
abbrev pub IsFine : Counts → Frame → Type 0
IsFine c (Declared d) = ⊥
IsFine c (Expression row) = ⊥
IsFine c Salvage = ⊥
IsFine c (ListedMark n s t B) = ⊥
IsFine c f = NumbersOk c f × AskOk c f

pub record IsOrderly (c : Counts) (fs : List Frame) : Type 0 where
  pub counts : CountsFit c
  pub fine : (f : Frame) → f ∈ fs → IsFine c f
  pub allowed : (before rest : List Frame) (n : ℕ) → fs ≡ before ++ Allowance n ∷ rest → allowance_given before ≡ None
  pub few : (kind : Kind) → entries kind fs ≤ most kind

judged : (before : List Frame) (f : Frame) → Passed before f → Judged before f (Ok tt)
judged before f p =
    holds p.in_place (holds p.counts (holds p.room (holds p.numbers
    (holds p.ask (holds p.shallow (holds p.expressed (holds p.shaped refl)))))))

pub no-expression : (c : Counts) (fs : List Frame) → ((f : Frame) → f ∈ fs → IsFine c f) → expression_given fs ≡ None
no-expression c [] h = refl
no-expression c (Expression row ∷ fs) h = absurd (h (Expression row) (Memᴰ.head refl))
no-expression c (f ∷ fs) h = no-expression c fs (λ g m. h g (Memᴰ.tail m))

pub none-listed : (c : Counts) (fs : List Frame) → ((f : Frame) → f ∈ fs → IsFine c f) → list_in fs ≡ []
unfolding list_in
none-listed c [] h = refl
none-listed c (ListedMark n s t B ∷ fs) h = absurd (h (ListedMark n s t B) (Memᴰ.head refl))
none-listed c (f ∷ fs) h = none-listed c fs (λ g m. h g (Memᴰ.tail m))

pub no-salvage : (c : Counts) (fs : List Frame) → ((f : Frame) → f ∈ fs → IsFine c f) → salvages fs ≡ false
no-salvage c [] h = refl
no-salvage c (Salvage ∷ fs) h = absurd (h Salvage (Memᴰ.head refl))
no-salvage c (f ∷ fs) h = no-salvage c fs (λ g m. h g (Memᴰ.tail m))

none-listed-yet : (c : Counts) (before : List Frame) → ((f : Frame) → f ∈ before → IsFine c f) → list_in (Declared c ∷ before) ≡ []
unfolding list_in
none-listed-yet c before h = none-listed c before h

-- line 1 adds no record
declared-adds : (kind : Kind) (c : Counts) → added kind (Declared c) ≡ 0
declared-adds asks c = refl
declared-adds listed c = refl
declared-adds kind c = refl

no-record : (kind : Kind) (c : Counts) → IsSome (record_in kind (Declared c)) → ⊥
no-record asks c h = cc
no-record listed c h = cc
no-record kind c h = cc

module _ (c : Counts) where
  passed_by : (before : List Frame) (f : Frame) → IsOpen before → declared_by before ≡ c → IsFine c f
      → ((n : ℕ) → f ≡ Allowance n → allowance_given before ≡ None) → expression_given before ≡ None → HasRoom before f → Passed before f
  passed_by before (Declared d) n e h a x room = absurd h
  passed_by before (Expression row) n e h a x room = absurd h
  passed_by before Salvage n e h a x room = absurd h
  passed_by before (ListedMark m s t B) n e h a x room = absurd h
  passed_by before (Allowance k) n e h a x room = record {
    in_place = (n, a k refl);
    counts = tt;
    room = room;
    numbers = tt;
    ask = tt;
    shallow = tt;
    expressed = tt;
    shaped = tt;
  }
  passed_by before (RoleStep s R t) n e h a x room = record {
    in_place = (n, x);
    counts = tt;
    room = room;
    numbers = rw e h.0;
    ask = tt;
    shallow = tt;
    expressed = tt;
    shaped = tt;
  }
  passed_by before (TestStep s A t) n e h a x room = record {
    in_place = (n, x);
    counts = tt;
    room = room;
    numbers = rw e h.0;
    ask = tt;
    shallow = tt;
    expressed = tt;
    shaped = tt;
  }
  passed_by before (Final s) n e h a x room = record {
    in_place = (n, x);
    counts = tt;
    room = room;
    numbers = rw e h.0;
    ask = tt;
    shallow = tt;
    expressed = tt;
    shaped = tt;
  }
  passed_by before f n e h a x room = record {
    in_place = n;
    counts = tt;
    room = room;
    numbers = subst (λ (d : Counts). NumbersOk d f) (sym e) h.0;
    ask = subst (λ (d : Counts). AskOk d f) (sym e) h.1;
    shallow = tt;
    expressed = tt;
    shaped = tt;
  }

  module _ (fs : List Frame) (o : IsOrderly c fs) where
    -- one frame more is taken
    next-passed : (before rest : List Frame) (f : Frame) → fs ≡ before ++ f ∷ rest → Passed (Declared c ∷ before) f
    next-passed before rest f e =
        passed_by (Declared c ∷ before) f is-open refl (fine f (Memᴰ.append_right before (Memᴰ.head refl)))
        (λ n d. o.allowed before rest n (subst (λ g. fs ≡ before ++ g ∷ rest) d e))
        (no-expression c before (λ g m. fine g (Memᴰ.append_left (f ∷ rest) m))) room
      where
        fine : (g : Frame) → g ∈ (before ++ f ∷ rest) → IsFine c g
        fine g m = o.fine g (rw e m)

        is-open : IsOpen (Declared c ∷ before)
        is-open = record { begun = λ d. cc; no_list = none-listed-yet c before (λ g m. fine g (Memᴰ.append_left (f ∷ rest) m)) }

        room : HasRoom (Declared c ∷ before) f
        room kind some =
            let one : added kind f ≡ 1 = rw some refl in
            let all : entries kind fs ≡ entries kind before + entries kind (f ∷ rest) =
            ap (entries kind) e ∙ entries-append kind before (f ∷ rest) in
            omega (
              arith,
              o.few kind,
              entries-cons kind f rest,
              entries-cons kind (Declared c) before,
              declared-adds kind c,
            )

    taken-on : (rest before : List Frame) → fs ≡ before ++ rest → Taken (Declared c ∷ before) → Taken (Declared c ∷ fs)
    taken-on [] before e t = rw (e, append-nil before) t
    taken-on (f ∷ rest) before e t =
        taken-on rest (before ++ f ∷ []) (e ∙ sym (append_assoc before (f ∷ []) rest))
        (more (Declared c ∷ before) f t (judged (Declared c ∷ before) f (next-passed before rest f e)))

    first-passed : Passed [] (Declared c)
    first-passed = record {
      in_place = refl;
      counts = o.counts;
      room = λ kind some. absurd (no-record kind c some);
      numbers = tt;
      ask = tt;
      shallow = tt;
      expressed = tt;
      shaped = tt;
    }

    -- THEOREM: such frames are taken one after the other
    pub orderly-taken : Taken (Declared c ∷ fs)
    orderly-taken = taken-on fs [] refl (more [] (Declared c) none (judged [] (Declared c) first-passed))

-- the lines of one frame more
lines-more : (before : List Frame) (f : Frame) (ls : List (List ℕ))
    → map line_of (before ++ f ∷ []) ++ ls ≡ map line_of before ++ line_of f ∷ ls
lines-more [] f ls = refl
lines-more (g ∷ before) f ls = ap (λ ms. line_of g ∷ ms) (lines-more before f ls)

read-on : {fs : List Frame} → Taken fs → AllFit fs → (ls : List (List ℕ)) (v : Verdict) → Reading fs ls v
    → Reading [] (map line_of fs ++ ls) v
read-on none h ls v r = r
read-on (more before f t j) h ls v r =
    let one : Finds before (line_of f) (Ok f) = taken f (line-is_read f (h f (Memᴰ.append_right before (Memᴰ.head refl)))) j in
    let first : AllFit before = λ g m. h g (Memᴰ.append_left (f ∷ []) m) in
    subst (λ ms. Reading [] ms v) (sym (lines-more before f ls))
    (read-on t first (line_of f ∷ ls) v (onward before (line_of f) ls f v one r))

-- the lines of a text are those of its frames
pub lines-text : (fs : List Frame) → lines (frames_text fs) ≡ map line_of fs
unfolding frames_text lines
lines-text [] = refl
lines-text (f ∷ fs) = line-ends f (frames_text fs) ∙ ap (λ ls. line_of f ∷ ls) (lines-text fs)

-- THEOREM: the text of frames that were taken, each of which fits a line, is read as them
pub text-read : (fs : List Frame) → Taken fs → fs ≢ [] → AllFit fs → Reading [] (lines (frames_text fs)) (sound fs)
text-read [] t n h = absurd (n refl)
text-read (f ∷ fs) t n h =
    subst (λ ls. Reading [] ls (sound (f ∷ fs))) (append-nil (map line_of (f ∷ fs)) ∙ sym (lines-text (f ∷ fs)))
    (read-on t h [] (sound (f ∷ fs)) (whole f fs))
