-- No copy is longer than line 1, an allowance and the most records of each table.
use Rattle.std.specs.Prelude.{◌≡◌, refl, ℕ, ◌+◌, ◌*◌, ◌≤◌, cond, count_by, length, List, [], ◌∷◌}
use Rattle.std.proofs.Common.{length-append, arith}
use Rattle.std.proofs.lemmas.List.Sums.{sum_by-cons}
use mathlib.Core.List.Memᴰ
use Rattle.laws.specs.Member.{◌∈◌}
use Rattle.frames.specs.Text.{text}
use Rattle.frames.specs.Written.{frame_bytes}
use Rattle.frames.specs.declared.Frame.{Frame}
use Rattle.frames.specs.declared.Frame.TheVariants.{Declared, ConceptRule, ConceptExclusion, RoleRule, RoleExclusion, ConceptFact, RoleFact, RoleStep, TestStep, Final, Ask, AskFrom, Allowance, Expression, Salvage, ListedMark}
use Rattle.reading.specs.Tables.{concept_rules, concept_exclusions, role_rules, role_exclusions, concept_facts, role_facts, steps, finals, entries, is_declared, is_allowance}
use Rattle.reading.specs.Laws.{Within}
use Rattle.reading.proofs.TableLaws.{added, entries-cons}
use Rattle.fair_copy.specs.Copy.{IsCopied, frames_text}
use Rattle.fair_copy.specs.Laws.{most_copy}

-- the characters of a copied frame's line, with its end, by its kind
abbrev long : Frame → ℕ
long f =
    13 * cond (is_declared f) 1 0 + 11 * cond (is_allowance f) 1 0
    + 7 * (added concept_rules f + added concept_exclusions f + added role_rules f + added role_exclusions f)
    + 11 * added concept_facts f + 13 * added role_facts f + 9 * added steps f + 5 * added finals f

line-long : (f : Frame) → IsCopied f → length (text (frame_bytes f)) ≡ long f
unfolding text frame_bytes
line-long (Declared c) h = refl
line-long (ConceptRule C D) h = refl
line-long (ConceptExclusion C D) h = refl
line-long (RoleRule R S) h = refl
line-long (RoleExclusion R S) h = refl
line-long (ConceptFact A a n) h = refl
line-long (RoleFact r a b n) h = refl
line-long (RoleStep s R t) h = refl
line-long (TestStep s A t) h = refl
line-long (Final s) h = refl
line-long (Ask a b) h = absurd h
line-long (AskFrom a) h = absurd h
line-long (Allowance n) h = refl
line-long (Expression row) h = absurd h
line-long Salvage h = absurd h
line-long (ListedMark n s t B) h = absurd h

-- of some frames
total : List Frame → ℕ
total fs =
    13 * count_by is_declared fs + 11 * count_by is_allowance fs
    + 7 * (entries concept_rules fs + entries concept_exclusions fs + entries role_rules fs + entries role_exclusions fs)
    + 11 * entries concept_facts fs + 13 * entries role_facts fs + 9 * entries steps fs + 5 * entries finals fs

total-cons : (f : Frame) (fs : List Frame) → total (f ∷ fs) ≡ long f + total fs
unfolding total
total-cons f fs =
    omega (
      arith,
      sum_by-cons (λ g. cond (is_declared g) 1 0) f fs,
      sum_by-cons (λ g. cond (is_allowance g) 1 0) f fs,
      entries-cons concept_rules f fs,
      entries-cons concept_exclusions f fs,
      entries-cons role_rules f fs,
      entries-cons role_exclusions f fs,
      entries-cons concept_facts f fs,
      entries-cons role_facts f fs,
      entries-cons steps f fs,
      entries-cons finals f fs,
    )

text-long : (fs : List Frame) → ((f : Frame) → f ∈ fs → IsCopied f) → length (frames_text fs) ≡ total fs
unfolding frames_text total entries
text-long [] h = refl
text-long (f ∷ fs) h =
    let first = line-long f (h f (Memᴰ.head refl)) in
    let on = text-long fs (λ g m. h g (Memᴰ.tail m)) in
    omega (arith, length-append (text (frame_bytes f)) (frames_text fs), total-cons f fs)

-- THEOREM: a text of copied frames within the most of each table is no longer than the longest copy
pub text-few : (fs : List Frame) → ((f : Frame) → f ∈ fs → IsCopied f) → Within fs → length (frames_text fs) ≤ most_copy
unfolding total
text-few fs h w =
    omega (
      arith,
      text-long fs h,
      w.declared,
      w.allowances,
      w.few concept_rules,
      w.few concept_exclusions,
      w.few role_rules,
      w.few role_exclusions,
      w.few concept_facts,
      w.few role_facts,
      w.few steps,
      w.few finals,
    )
