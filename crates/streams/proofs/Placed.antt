-- A piece copied into a text in memory.
use Rattle.std.proofs.Common.{ℕ, ◌≡◌, ◌+◌, ◌≤◌, List, ◌++◌, length, take, drop, sym, ap, ◌∙◌, append_assoc, length-append, arith}
use Rattle.std.proofs.lemmas.List.{take_at, drop_at, drop-drop, length-take-le, length-drop}
use borrow.Rule.Slice.PartMut.{put_mid, post_of}
use Rattle.streams.specs.Puts.{Puts}

pub placed : (old piece new : List ℕ) (at to k : ℕ) → to ≡ at + length piece → k ≡ length piece → to ≤ length old
    → new ≡ put_mid at k old piece
    → Puts old at piece new to
placed old piece new at to k e long fits is =
    let front = take at old ++ piece in
    let whole : new ≡ front ++ post_of at k old = is ∙ sym (append_assoc (take at old) piece (post_of at k old)) in
    let len : length front ≡ to =
    length-append (take at old) piece ∙ ap (λ n. n + length piece) (length-take-le at old (omega arith)) ∙ sym e in
    let past : at + k ≡ to = omega arith in
    record {
      room = omega (arith, ap (λ (l : List ℕ). length l) whole, length-append front (post_of at k old), len, length-drop k (drop at old), length-drop at old);
      long = e;
      front = ap (take to) whole ∙ take_at front (post_of at k old) _ len;
      rest = ap (drop to) whole ∙ drop_at front (post_of at k old) _ len ∙ drop-drop k at old ∙ ap (λ n. drop n old) past;
    }
