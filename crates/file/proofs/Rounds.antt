-- The lines of rounds: how long they are; and the counts that are told are one row, of no more rounds than there may be.
use Rattle.std.specs.Prelude.{ℕ, suc, ◌*◌, ◌<◌, ◌≤◌, ◌≡◌, ◌⊎◌, refl, List, [], ◌∷◌, ◌++◌, length, map, min}
use Rattle.std.proofs.Common.{ap, subst, length-append, ⊎_elim, arith}
use Rattle.std.proofs.Math.Nat.{min-le_left}
use Rattle.laws.specs.Rounds.{least-once}
use Rattle.kinds.specs.declared.Counts.{Counts}
use Rattle.meaning.specs.Collection.{Collection, WellFormed}
use Rattle.meaning.specs.Model.{Contradiction}
use Rattle.theory.specs.Sheet.{Needed, Unchanged}
use Rattle.meaning.specs.Lite.{lite}
use Rattle.theory.specs.Listing.{counts_of}
use Rattle.theory.specs.Marks.{RoundCounts}
use Rattle.theory.proofs.MarksLaws.{round-counts-once}
use Rattle.meaning.specs.Demands.{most_rounds}
use Rattle.meaning.proofs.Demands.{most-rounds}
use Rattle.meaning.proofs.LiteMarks.{lite-most}
use Rattle.sheet.specs.declared.round_marks.RoundMarks.{RoundMarks}
use Rattle.file.specs.Text.{round_line}
use Rattle.file.specs.Rounds.{told_line, round_lines, RoundsTold, no-ask, contradiction, rounds}
use Rattle.file.specs.Told.{round_length}
use Rattle.file.proofs.Widths.{IsWidth, round-length}
use Rattle.file.proofs.Listening.{texts}

module _ (width : ℕ) where
  pub rounds-length : {c : Counts} → IsWidth c width → (before : ℕ) (counts : List ℕ)
      → length (round_lines width before counts) ≡ round_length width * length counts
  unfolding round_lines
  rounds-length w before [] = omega arith
  rounds-length w before (m ∷ counts) =
      omega (
        arith,
        length-append (round_line width (suc before) m) (round_lines width (suc before) counts),
        round-length w (suc before) m,
        rounds-length w (suc before) counts,
      )

  -- what tells of some rounds, one after another, is the lines of all but round 0
  texts-on : (before : ℕ) (made : List RoundMarks) → texts (λ n marks. told_line width n (length marks)) (suc before) made
      ≡ round_lines width before (map length made)
  unfolding round_lines
  texts-on before [] = refl
  texts-on before (marks ∷ made) = ap (λ (l : List ℕ). round_line width (suc before) (length marks) ++ l) (texts-on (suc before) made)

  pub texts-told : (made : List RoundMarks) → texts (λ n marks. told_line width n (length marks)) 0 made
      ≡ round_lines width 0 (counts_of made)
  unfolding round_lines
  texts-told [] = refl
  texts-told (marks ∷ made) = texts-on 0 made

module _ {𝓒 : Collection} {allowance asks : ℕ} where
  -- THEOREM: one row of counts is told
  pub told-once : {x y : List ℕ} → RoundsTold 𝓒 allowance asks x → RoundsTold 𝓒 allowance asks y → x ≡ y
  told-once (no-ask e) (no-ask d) = refl
  told-once (no-ask e) (contradiction h) = refl
  told-once (no-ask e) (rounds p sane need c) = absurd (omega (arith, e, p))
  told-once (contradiction h) (no-ask e) = refl
  told-once (contradiction h) (contradiction i) = refl
  told-once (contradiction h) (rounds p sane need c) = absurd (sane h)
  told-once (rounds p sane need c) (no-ask e) = absurd (omega (arith, e, p))
  told-once (rounds p sane need c) (contradiction h) = absurd (sane h)
  told-once (rounds {n = n} {counts = x} p sane need c) (rounds {n = m} {counts = y} q sane' need' d) =
      let e = least-once (Unchanged (lite 𝓒)) m n need' need in
      round-counts-once (lite 𝓒) (min n allowance) x y c (subst (λ k. RoundCounts (lite 𝓒) (min k allowance) y) e d)

  module _ {counts : List ℕ} (t : RoundsTold 𝓒 allowance asks counts) where
    -- THEOREM: none where nothing is asked, and in a contradiction
    pub none-told : (asks ≡ 0) ⊎ Contradiction 𝓒 → counts ≡ []
    none-told = ⊎_elim (λ e. told-once t (no-ask e)) (λ h. told-once t (contradiction h))

    -- THEOREM: else those of rounds 1 to the lesser of the rounds needed and the allowance
    pub rounds-told : 0 < asks → (Contradiction 𝓒 → ⊥) → (n : ℕ) → Needed (lite 𝓒) n → RoundCounts (lite 𝓒) (min n allowance) counts
    rounds-told some sane n need = by t
      where
        by : {x : List ℕ} → RoundsTold 𝓒 allowance asks x → RoundCounts (lite 𝓒) (min n allowance) x
        by (no-ask e) = absurd (omega (arith, e, some))
        by (contradiction h) = absurd (sane h)
        by (rounds {n = m} {counts = x} p sane' need' c) =
            subst (λ k. RoundCounts (lite 𝓒) (min k allowance) x) (least-once (Unchanged (lite 𝓒)) m n need' need) c

    -- THEOREM: and of no more than concepts × states × (states − 1)
    pub few-told : (0 < asks → WellFormed 𝓒) → length counts ≤ most_rounds 𝓒.counts
    few-told fine = by t
      where
        by : {x : List ℕ} → RoundsTold 𝓒 allowance asks x → length x ≤ most_rounds 𝓒.counts
        by (no-ask e) = omega arith
        by (contradiction h) = omega arith
        by (rounds {n = n} {counts = x} p sane need c) =
            lite-most 𝓒 (fine p) n need (min n allowance) (min-le_left n allowance) x c

    -- so of no more than there ever are
    pub few-most : (0 < asks → WellFormed 𝓒) → length counts ≤ 126976
    few-most fine = by t (few-told fine)
      where
        by : {x : List ℕ} → RoundsTold 𝓒 allowance asks x → length x ≤ most_rounds 𝓒.counts → length x ≤ 126976
        by (no-ask e) h = omega arith
        by (contradiction c) h = omega arith
        by (rounds p sane need c) h = omega (arith, h, most-rounds 𝓒.counts (fine p).counts)
