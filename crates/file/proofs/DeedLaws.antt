-- Two inputs whose lines differ only in the deed numbers of their facts write the same text.
use Rattle.std.specs.Prelude.{ℕ, zero, suc, ◌+◌, ◌≡◌, refl, ◌↔◌, Option, List, [], ◌++◌, length, take}
use Rattle.std.specs.List.{cons_option}
use Rattle.std.proofs.Common.{sym, ap, ap₂, ◌∙◌, subst, inl, inr, ⊎_elim, length-take, arith}
use Rattle.meaning.specs.Lent.{Call}
use Rattle.meaning.specs.Deeds.{lent_with}
use Rattle.meaning.proofs.DeedLaws.{one-collection, deeds-decide-nothing}
use Rattle.expression.specs.Listed.{Listed}
use Rattle.frames.specs.declared.Frame.{Frame}
use Rattle.streams.specs.Lines.{lines}
use Rattle.reading.specs.declared.Refusal.{Refusal}
use Rattle.reading.specs.declared.Refusal.TheVariants.{NotTheSheet}
use Rattle.reading.specs.Refusal.{refusal_number}
use Rattle.reading.specs.Tables.{asks, entries, Entry, entry_in, list_in}
use Rattle.reading.specs.File.{tables_of, asked}
use Rattle.reading.specs.Reading.{Verdict, faulty, sound, Reading}
use Rattle.reading.specs.Deeds.{SameButDeed, same, concept, role, SameLine, same-line, same-facts, InStep, ended, next}
use Rattle.reading.specs.Deeds.{SameVerdict, both-faulty, both-sound}
use Rattle.reading.proofs.SalvageLaws.{decides-without_deeds}
use Rattle.reading.proofs.DeedLaws.{Alike, alike-length, entries-same, table-same, declared-same, allowance-same, choice-same}
use Rattle.reading.proofs.DeedLaws.{question-same, tables-alike, reads-without-deeds}
use Rattle.shell.specs.Faults.{fault_line}
use Rattle.shell.specs.Writes.{fault, said}
use Rattle.file.specs.Text.{count_width}
use Rattle.file.proofs.Sound.{sound-read, sound-accepted}
use Rattle.file.specs.Rounds.{round_lines}
use Rattle.meaning.specs.Collection.{Collection}
use Rattle.intake.specs.Verdicts.{collection_read, IsListing, Accepted, no-list, contradiction, listing, Departs, before_list, Verdicts, by-line, by-list, accepted}
use Rattle.file.specs.Writes.{Answers, Answered, frames_width, FileRounds, RepliesTo, Reports, Writes}
use Rattle.file.proofs.Decided.{reports-of}

-- it works both ways
frame_turned : {f g : Frame} → SameButDeed f g → SameButDeed g f
frame_turned (same f) = same f
frame_turned (concept A a n m) = concept A a m n
frame_turned (role r a b n m) = role r a b m n

line-turned : {l m : List ℕ} → SameLine l m → SameLine m l
line-turned (same-line l) = same-line l
line-turned (same-facts x y d) = same-facts y x (frame_turned d)

lines-turned : {ls ms : List (List ℕ)} → InStep SameLine ls ms → InStep SameLine ms ls
lines-turned ended = ended
lines-turned (next a s) = next (line-turned a) (lines-turned s)

module _ {fs gs : List Frame} (s : Alike fs gs) (q : Listed) where
  -- ask k is the same call but for deed numbers
  asked-same : (k : ℕ) → lent_with (asked fs q k) (tables_of gs q) ≡ asked gs q k
  asked-same k = rw (declared-same s, allowance-same s, table-same asks tt s) refl

  answer-same : (width k : ℕ) (x : List ℕ) → Answers width (asked fs q k) x → Answers width (asked gs q k) x
  answer-same width k x a =
      let o = (deeds-decide-nothing (asked fs q k) (tables_of gs q) (tables-alike s q) a.answer a.outcome.0 a.outcome.1).0 a.outcome.2 in
      subst (λ (c : Call). Answers width c x) (asked-same k)
      (record { answer = a.answer; outcome = (a.outcome.0, a.outcome.1, o); written = a.written })

  answered-same : (width n : ℕ) (out : List ℕ) → Answered width (asked fs q) n out → Answered width (asked gs q) n out
  unfolding Answered
  answered-same width zero out e = e
  answered-same width (suc n) out (x, y, a, b, e) = (x, y, answered-same width n x a, answer-same width n y b, e)

  -- and their counts are as wide
  width-same : frames_width fs ≡ frames_width gs
  width-same = ap count_width (declared-same s)

  -- what they mean is the same collection
  read-same : collection_read fs q ≡ collection_read gs q
  read-same = rw (declared-same s) (one-collection _ _ _ (tables-alike s q))

  rounds-same : (counts : List ℕ) → FileRounds fs q counts → FileRounds gs q counts
  rounds-same counts t = rw (read-same, allowance-same s, declared-same s, entries-same asks s) at t

-- and what is written of them
replies-same : {fs gs : List Frame} → Alike fs gs → {x : List ℕ} → RepliesTo frames_width fs x → RepliesTo frames_width gs x
replies-same {fs} s r =
    let q = r.question in
    let e = width-same s q in
    record {
      question = q;
      is = question-same s q r.is;
      counts = r.counts;
      told = rounds-same s q r.counts r.told;
      out = r.out;
      answered = rw (entries-same asks s, e) at (answered-same s q (frames_width fs) (entries asks fs) r.out r.answered);
      whole = r.whole ∙ ap (λ (n : ℕ). round_lines n 0 r.counts ++ r.out) e;
    }

reports-same : {fs gs : List Frame} → Alike fs gs → {x : List ℕ} → Reports frames_width fs x → Reports frames_width gs x
reports-same {fs} {gs} s {x} r =
    let q = r.replies.question in
    let d = decides-without_deeds fs gs s q r.dropped r.over r.decided in
    subst (λ (l : List ℕ). Reports frames_width gs l) (sym r.whole)
    (reports-of d.2 (question-same d.1 q r.replies.is) (replies-same d.1 r.replies))

-- their lists are the same
entry-same : {f g : Frame} → SameButDeed f g → entry_in f ≡ entry_in g
entry-same (same f) = refl
entry-same (concept A a n m) = refl
entry-same (role r a b n m) = refl

list-same : {fs gs : List Frame} → Alike fs gs → list_in fs ≡ list_in gs
unfolding list_in
list-same ended = refl
list-same (next {xs = fs} d s) = ap₂ (λ (o : Option Entry) (l : List Entry). cons_option o l) (entry-same d) (list-same s)

module _ {fs gs : List Frame} (s : Alike fs gs) where
  accepted-same : Accepted fs → Accepted gs
  accepted-same (no-list e) = no-list (sym (list-same s) ∙ e)
  accepted-same (contradiction q is p c) =
      contradiction q (question-same s q is) (sym (choice-same s) ∙ p) (rw (read-same s q) at c)
  accepted-same (listing q is l) =
      listing q (question-same s q is)
      (subst (IsListing (collection_read gs q)) (list-same s) (subst (λ (c : Collection). IsListing c (list_in fs)) (read-same s q) l))

  departs-same : (k : ℕ) → Departs fs k → Departs gs k
  departs-same k d =
      let q = d.question in
      record {
        given = λ e. d.given (list-same s ∙ e);
        question = q;
        is = question-same s q d.is;
        sane = ⊎_elim (λ p. inl (sym (choice-same s) ∙ p)) (λ n. inr (λ c. n (rw (← read-same s q) at c))) d.sane;
        listing = d.listing;
        lists = subst (λ (c : Collection). IsListing c d.listing) (read-same s q) d.lists;
        at = rw (list-same s) at d.at;
      }

  start-long : (k : ℕ) → length (take (before_list gs + k) gs) ≡ length (take (before_list fs + k) fs)
  start-long k =
      let n = ap (λ (l : List Entry). length l) (list-same s) in
      omega (arith, n, alike-length s, length-take (before_list gs + k) gs, length-take (before_list fs + k) fs)

-- the text of the one is that of the other
module _ (input other : List ℕ) (s : InStep SameLine (lines input) (lines other)) where
  line-fault : {v w : Verdict} → SameVerdict v w → Reading [] (lines other) w → (before : List Frame) (r : Refusal) → v ≡ faulty before r
      → Writes other (fault_line (length before + 1) (refusal_number r))
  line-fault (both-faulty {fs = fs} {gs = gs} p d) h before r e =
      let i : fs ≡ before = cc in
      let j : p ≡ r = cc in
      subst (λ (l : List ℕ). Writes other l) (rw (← i, ← j, alike-length d) refl) (fault gs p (by-line gs p h))
  line-fault (both-sound d) h before r e = absurd cc

  sound-same : {v w : Verdict} → SameVerdict v w → Reading [] (lines other) w → (fs : List Frame) → v ≡ sound fs
      → (gs : List Frame) × Alike fs gs × Reading [] (lines other) (sound gs)
  sound-same (both-sound {fs = fs} {gs = gs} d) h ks e =
      let i : fs ≡ ks = cc in
      (gs, rw i at d, h)
  sound-same (both-faulty p d) h ks e = absurd cc

  fault-same : {v : Verdict} → Verdicts (lines input) v → (before : List Frame) (r : Refusal) → v ≡ faulty before r
      → Writes other (fault_line (length before + 1) (refusal_number r))
  fault-same (by-line fs p h) before r e =
      let w = reads-without-deeds (lines input) (lines other) s (faulty fs p) h in
      line-fault w.1 w.2 before r e
  fault-same (by-list fs k h d) before r e =
      let w = reads-without-deeds (lines input) (lines other) s (sound fs) h in
      let v = sound-same w.1 w.2 fs refl in
      let i : take (before_list fs + k) fs ≡ before = cc in
      let j : NotTheSheet ≡ r = cc in
      subst (λ (l : List ℕ). Writes other l) (rw (← i, ← j, start-long v.1 k) refl)
      (fault _ NotTheSheet (by-list v.0 k v.2 (departs-same v.1 k d)))
  fault-same (accepted fs h a) before r e = absurd cc

  writes-same : {x : List ℕ} → Writes input x → Writes other x
  writes-same (fault before r h) = fault-same h before r refl
  writes-same (said fs x h r) =
      let w = reads-without-deeds (lines input) (lines other) s (sound fs) (sound-read h) in
      let v = sound-same w.1 w.2 fs refl in
      said v.0 x (accepted v.0 v.2 (accepted-same v.1 (sound-accepted h))) (reports-same v.1 r)

-- THEOREM: what is written does not depend on deed numbers
pub writes-without-deeds : (input other : List ℕ) → InStep SameLine (lines input) (lines other) → (text : List ℕ)
    → Writes input text ↔ Writes other text
writes-without-deeds input other s text = (writes-same input other s, writes-same other input (lines-turned s))
