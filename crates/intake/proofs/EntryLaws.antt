-- The line of an entry against the bytes that are held.
use Rattle.std.specs.Prelude.{◌⊎◌}
use Rattle.std.specs.Str.{bytes_eq}
use Rattle.std.proofs.lemmas.Slice.Eq.{bytes_eq-Decides}
use Rattle.std.proofs.Common.{◌≡◌, ◌≢◌, true, false, ℕ, ◌+◌, ◌≤◌, ◌<◌, List, [], ◌∷◌, ◌++◌, length, min, take, drop, Option, Some, None, refl, sym, ap, ◌∙◌, arith, inl, inr, ⊎_elim, append_assoc, length-append}
use Rattle.std.specs.Io.KnownBytes.{IsAtEnd, Keeps, prepend_known}
use Rattle.streams.specs.declared.TheConstants.{BUFFER}
use Rattle.streams.specs.Lines.{lines, TakesLine}
use Rattle.streams.specs.Input.{Input, left_of, IsFilled}
use Rattle.frames.specs.Text.{text}
use Rattle.frames.specs.Written.{frame_bytes, line_of}
use Rattle.frames.proofs.Ends.{line-ends, length-line}
use Rattle.reading.specs.Tables.{Entry, frame_of}
use Rattle.intake.specs.Next.{BeginsOther}
use Rattle.intake.specs.Entries.{entry_line}
use Rattle.intake.proofs.NextLaws.{next_taken, next_other}

-- what is left stays, and then a line is taken
kept_taken : (a b c : Option (List ℕ)) (l : List ℕ) → Keeps a b → TakesLine b c l → TakesLine a c l
kept_taken None b c l k t = tt
kept_taken (Some x) None c l k t = absurd k
kept_taken (Some x) (Some y) None l k t = absurd t
kept_taken (Some x) (Some y) (Some z) l k t = ap lines (sym k) ∙ t

module _ (e : Entry) where
  -- it has 16 characters
  entry-long : length (entry_line e) ≡ 16
  unfolding frame_bytes
  entry-long = length-line (frame_of e)

  some : entry_line e ≢ []
  some i = let n = ap (λ (l : List ℕ). length l) i in omega (arith, entry-long)

  with-end : text (frame_bytes (frame_of e)) ≡ entry_line e ++ 0x0A ∷ []
  unfolding text line_of
  with-end = refl

  ends : (rest : List ℕ) → lines (entry_line e ++ 0x0A ∷ rest) ≡ entry_line e ∷ lines rest
  ends rest =
      sym (ap lines (ap (λ (l : List ℕ). l ++ rest) with-end ∙ append_assoc (entry_line e) (0x0A ∷ []) rest))
      ∙ line-ends (frame_of e) rest

module _ (e : Entry) {line held other : List ℕ} {count : ℕ} (is : line ≡ text (frame_bytes (frame_of e)))
    (same : other ≡ held) (many : count ≡ min (length line) (length other)) where
  -- so many of both are the same, as they are tested
  agrees : bytes_eq (take count other) (take count line) ≡ true → take count held ≡ take count line
  agrees t = rw same at ((bytes_eq-Decides (take count other) (take count line)).0 t)

  differs : bytes_eq (take count other) (take count line) ≡ false → take count held ≡ take count line → ⊥
  differs t e = let d = (bytes_eq-Decides (take count other) (take count line)).1 (rw same e) in cc

  module _ (b : Option (List ℕ)) (filled : IsFilled (min (length line) BUFFER) held b) where
    enough : (length line ≤ length held) ⊎ IsAtEnd b
    enough =
        ⊎_elim
        (λ h. inl (omega (arith, ap (λ (l : List ℕ). length l) (is ∙ with-end e), length-append (entry_line e) (0x0A ∷ []), entry-long e)))
        (λ h. inr h) filled

    -- what was left begins with the line of an entry, and loses it
    pub entry_taken : (a : Option (List ℕ)) (new : Input) → Keeps a (prepend_known held b) → new.held ≡ drop count held → new.behind ≡ b
        → bytes_eq (take count other) (take count line) ≡ true → length line ≤ count + 1
        → TakesLine a (left_of new) (entry_line e)
    entry_taken a new keeps d f t long =
        rw (d, f)
        (kept_taken a (prepend_known held b) _ (entry_line e) keeps
        (next_taken (entry_line e) line held count (is ∙ with-end e) (some e) (ends e) (rw same at many) b enough
        (agrees t, long)))

    -- or they begin with another
    pub entry-differs : bytes_eq (take count other) (take count line) ≡ false → BeginsOther (prepend_known held b) (entry_line e)
    entry-differs t =
        next_other (entry_line e) line held count (is ∙ with-end e) (some e) (ends e) (rw same at many) b enough
        (λ w. differs t w.0)

    pub entry-short : count + 1 < length line → BeginsOther (prepend_known held b) (entry_line e)
    entry-short short =
        next_other (entry_line e) line held count (is ∙ with-end e) (some e) (ends e) (rw same at many) b enough (λ w. omega (arith, w.1))
