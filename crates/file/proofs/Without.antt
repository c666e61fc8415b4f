-- What is written of a file that chooses salvage is what is written of the file without its dropped facts, and without the choice.
use Rattle.std.specs.Prelude.{ℕ, ◌≡◌, refl, false, None, Option, List, [], ◌∷◌, ◌++◌, length, unwrap_or}
use Rattle.std.proofs.Common.{sym, ap, ◌∙◌, subst}
use Rattle.frames.specs.declared.Frame.{Frame}
use Rattle.frames.specs.declared.Frame.TheVariants.{Declared, Allowance, Expression, Salvage}
use Rattle.reading.specs.File.{file_of}
use Rattle.reading.specs.Reading.{Taken}
use Rattle.reading.specs.Tables.{Kind, concept_rules, concept_exclusions, role_rules, role_exclusions, concept_facts, role_facts, steps, finals, asks, listed, record_in, entries, table, declared_by, allowance_given, expression_given, salvages, typed_lines}
use Rattle.reading.proofs.KeptFrames.{Begins, begins}
use Rattle.shell.proofs.WritesLaws.{said-written}
use Rattle.file.specs.Text.{dropped_text}
use Rattle.file.specs.Writes.{frames_width, RepliesTo, Reports, Writes}
use Rattle.file.specs.Salvage.{unchosen, WritesWithoutDropped}
use Rattle.file.proofs.Decided.{asking-taken, reports-of, plain-reports}
use Rattle.file.proofs.LeftOut.{with_lines, replies-kept}
use Rattle.file.proofs.WritesLaws.{writes-once}

no-record : (kind : Kind) → record_in kind Salvage ≡ None
no-record concept_rules = refl
no-record kind = refl

table-unchosen : (kind : Kind) (fs : List Frame) → table kind (unchosen fs) ≡ table kind fs
unfolding table
table-unchosen kind [] = refl
table-unchosen kind (Salvage ∷ fs) =
    table-unchosen kind fs ∙ ap (λ (o : Option (List ℕ)). unwrap_or o [] ++ table kind fs) (sym (no-record kind))
table-unchosen kind (f ∷ fs) = ap (λ (l : List ℕ). unwrap_or (record_in kind f) [] ++ l) (table-unchosen kind fs)

allowance-unchosen : (fs : List Frame) → allowance_given (unchosen fs) ≡ allowance_given fs
allowance-unchosen [] = refl
allowance-unchosen (Salvage ∷ fs) = allowance-unchosen fs
allowance-unchosen (Allowance n ∷ fs) = refl
allowance-unchosen (f ∷ fs) = allowance-unchosen fs

expression-unchosen : (fs : List Frame) → expression_given (unchosen fs) ≡ expression_given fs
expression-unchosen [] = refl
expression-unchosen (Salvage ∷ fs) = expression-unchosen fs
expression-unchosen (Expression row ∷ fs) = refl
expression-unchosen (f ∷ fs) = expression-unchosen fs

declared-unchosen : (fs : List Frame) → Begins fs → declared_by (unchosen fs) ≡ declared_by fs
declared-unchosen [] b = refl
declared-unchosen (Declared c ∷ fs) b = refl
declared-unchosen (f ∷ fs) b = absurd b

none-chosen : (fs : List Frame) → salvages (unchosen fs) ≡ false
none-chosen [] = refl
none-chosen (Salvage ∷ fs) = none-chosen fs
none-chosen (f ∷ fs) = none-chosen fs

module _ (fs : List Frame) (t : Taken fs) where
  held : file_of (unchosen fs)
      ≡ with_lines (file_of fs) (length (unchosen fs)) (entries listed (unchosen fs)) (salvages (unchosen fs)) (typed_lines (unchosen fs))
  held =
      rw (
        declared-unchosen fs (begins fs t),
        allowance-unchosen fs,
        expression-unchosen fs,
        table-unchosen concept_rules fs,
        table-unchosen concept_exclusions fs,
        table-unchosen role_rules fs,
        table-unchosen role_exclusions fs,
        table-unchosen concept_facts fs,
        table-unchosen role_facts fs,
        table-unchosen steps fs,
        table-unchosen finals fs,
        table-unchosen asks fs,
      ) refl

  replies-unchosen : (text : List ℕ) → RepliesTo frames_width (unchosen fs) text → RepliesTo frames_width fs text
  replies-unchosen text =
      replies-kept (unchosen fs) fs (length (unchosen fs)) (entries listed (unchosen fs)) (salvages (unchosen fs)) (typed_lines (unchosen fs)) held text

-- THEOREM: so it is written behind the lines of the dropped facts
pub writes-without-dropped : WritesWithoutDropped
writes-without-dropped input other text out fs q s sound w =
    let r = (said-written (Reports frames_width) other (unchosen fs) sound out).0 w in
    let replies = replies-unchosen fs (asking-taken s) out ((plain-reports (none-chosen fs)).0 r) in
    let all : Writes input (dropped_text s.dropped ++ out) =
    (said-written (Reports frames_width) input s.read s.sound (dropped_text s.dropped ++ out)).1 (reports-of s.decided s.question replies) in
    (λ v. writes-once v all, λ e. subst (λ (x : List ℕ). Writes input x) (sym e) all)
