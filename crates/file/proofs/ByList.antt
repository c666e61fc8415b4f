-- What an accepted list says of the lines that are written.
use Rattle.std.specs.Prelude.{ℕ, suc, ◌+◌, ◌≡◌, refl, ◌↔◌, List, min, slice_index}
use Rattle.std.proofs.Common.{ap, ◌∙◌, subst, arith}
use Rattle.laws.specs.Numbers.{numbered, get_d_numbered}
use Rattle.meaning.specs.Lent.{Sound}
use Rattle.meaning.specs.Lite.{lite}
use Rattle.meaning.specs.Listing.{numbered_lite, IsYesBy}
use Rattle.meaning.specs.Demands.{Spelled}
use Rattle.meaning.specs.Model.{Contradiction}
use Rattle.meaning.proofs.AskLaws.{ask↔word}
use Rattle.meaning.proofs.ListingLaws.{lite-last, ask↔list}
use Rattle.meaning.proofs.OutcomeExists.{sound-well-formed}
use Rattle.theory.proofs.ListingLaws.{counts-listed}
use Rattle.theory.proofs.MarksLaws.{round-counts-once}
use Rattle.reading.specs.Tables.{list_in, rounds_allowed}
use Rattle.reading.specs.File.{asked}
use Rattle.intake.specs.Verdicts.{collection_read}
use Rattle.file.specs.Writes.{frames_width}
use Rattle.file.specs.Told.{round_at, IsRoundLine}
use Rattle.file.specs.ByList.{LinesSayByList, entries_in, rounds_listed, RoundsToldByList}
use Rattle.file.proofs.Demanded.{lines-say-as-model}
use Rattle.file.proofs.Decided.{asking-sound, asking-listing}
use Rattle.file.proofs.Told.{rounds-are-told}

-- THEOREM: with enough rounds each line is yes exactly where a walk by the list leads to what is asked for
pub lines-say-by-list : LinesSayByList
lines-say-by-list input text w fs q s given k h enough =
    let call = asked fs q k in
    let 𝓒 = collection_read fs q in
    let sound : Sound call = asking-sound s k h in
    let m = lines-say-as-model input text w fs q s k h enough in
    let by : (Contradiction 𝓒 → ⊥) → Spelled call ↔ IsYesBy 𝓒 (list_in fs) call.ask =
    λ sane.
    let a = ask↔word 𝓒 call.ask in
    let b = ask↔list 𝓒 (sound-well-formed call sound) (list_in fs) (asking-listing s given sane)
    call.ask sound.ask in
    (λ p. b.0 (a.1 p), λ p. a.0 (b.1 p)) in
    record {
      contradiction = m.contradiction;
      yes = λ sane. let y = m.yes sane in let o = by sane in (λ n. o.0 (y.0 n), λ p. y.1 (o.1 p));
      no = λ sane. let y = m.no sane in let o = by sane in (λ n p. y.0 n (o.1 p), λ n. y.1 (λ p. n (o.0 p)));
    }

-- THEOREM: and the rounds that are told of are those of the list
pub rounds-told-by-list : RoundsToldByList
rounds-told-by-list input text w fs q s given some sane =
    let 𝓒 = collection_read fs q in
    let ok = sound-well-formed (asked fs q 0) (asking-sound s 0 some) in
    let l = asking-listing s given sane in
    let t = rounds-are-told w fs q s some sane (rounds_listed fs q) ((lite-last 𝓒 ok (list_in fs) l (rounds_listed fs q)).1 refl) in
    let n = min (rounds_listed fs q) (rounds_allowed fs) in
    let same =
    round-counts-once (lite 𝓒) n t.counts (numbered (λ k. entries_in (list_in fs) (suc k)) n) t.added
    (counts-listed (numbered_lite 𝓒) (list_in fs) l n) in
    record {
      many = t.many;
      each = λ k h.
          let e : suc k ≡ k + 1 = omega arith in
          let c : slice_index t.counts k ≡ entries_in (list_in fs) (k + 1) =
          ap (λ (counts : List ℕ). slice_index counts k) same
          ∙ get_d_numbered (λ k. entries_in (list_in fs) (suc k)) n k 0 h ∙ ap (entries_in (list_in fs)) e in
          subst (λ (m : ℕ). IsRoundLine (frames_width fs) (k + 1) m (round_at text k)) c (t.each k h);
    }
