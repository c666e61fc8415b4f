-- What comes next of an input whose bytes are known is one thing, and so is what is left.
use Rattle.std.specs.Prelude.{IsSomeAnd, slice_get}
use Rattle.std.proofs.Common.{◌≡◌, ◌≤◌, ◌<◌, ℕ, List, [], ◌∷◌, ◌++◌, length, length-append, drop, Some, inl, inr, refl, sym, ap, ◌∙◌, subst, arith}
use Rattle.std.proofs.lemmas.List.{drop_at}
use Rattle.streams.specs.declared.TheConstants.{LINE}
use Rattle.streams.specs.declared.lines.Next.{Next}
use Rattle.streams.specs.declared.lines.Next.TheVariants.{Line, TooLong, End}
use Rattle.streams.specs.Lines.{lines, BeginsLonger}
use Rattle.streams.specs.Gives.{Gives, ConsumesLine, ConsumesNext}
use Rattle.streams.proofs.FirstLine.{lines_none}

same-first : (ls : List (List ℕ)) (a b : List ℕ) (r s : List (List ℕ)) → ls ≡ a ∷ r → ls ≡ b ∷ s → a ≡ b
same-first ls a b r s p q = cc

-- a line cannot be longer than what is given, and there is one
not_longer : (xs a : List ℕ) (r : List (List ℕ)) → lines xs ≡ a ∷ r → length a ≤ LINE → BeginsLonger (Some xs) LINE → ⊥
not_longer xs a r e h b =
    let long : LINE < length a = subst (λ (ls : List (List ℕ)). IsSomeAnd (slice_get ls 0) (λ line. LINE < length line)) e b in
    omega arith

not_none : (xs a : List ℕ) (r : List (List ℕ)) → lines xs ≡ a ∷ r → xs ≡ [] → ⊥
not_none xs a r e h = let n : [] ≡ a ∷ r = sym lines_none ∙ ap lines (sym h) ∙ e in cc

none_longer : (xs : List ℕ) → xs ≡ [] → BeginsLonger (Some xs) LINE → ⊥
none_longer xs h b =
    subst (λ (ls : List (List ℕ)). IsSomeAnd (slice_get ls 0) (λ line. LINE < length line)) (ap lines h ∙ lines_none) b

same-rest : (xs front ys zs : List ℕ) → xs ≡ front ++ ys → xs ≡ front ++ zs → ys ≡ zs
same-rest xs front ys zs p q = sym (drop_at front ys _ refl) ∙ ap (drop (length front)) (sym p ∙ q) ∙ drop_at front zs _ refl

rest-once : (xs line ys zs : List ℕ) → ConsumesLine (Some xs) (Some ys) line → ConsumesLine (Some xs) (Some zs) line → ys ≡ zs
rest-once xs line ys zs (inl p) (inl q) = same-rest xs (line ++ 0x0A ∷ []) ys zs p q
rest-once xs line ys zs (inl p) (inr (q, z)) =
    absurd (omega (
      arith,
      ap (λ (l : List ℕ). length l) p,
      ap (λ (l : List ℕ). length l) q,
      ap (λ (l : List ℕ). length l) z,
      length-append line zs,
      length-append (line ++ 0x0A ∷ []) ys,
      length-append line (0x0A ∷ []),
    ))
rest-once xs line ys zs (inr (p, y)) (inl q) =
    absurd (omega (
      arith,
      ap (λ (l : List ℕ). length l) p,
      ap (λ (l : List ℕ). length l) q,
      ap (λ (l : List ℕ). length l) y,
      length-append line ys,
      length-append (line ++ 0x0A ∷ []) zs,
      length-append line (0x0A ∷ []),
    ))
rest-once xs line ys zs (inr (p, y)) (inr (q, z)) = y ∙ sym z

module _ (xs ys zs : List ℕ) where
  -- THEOREM: two outcomes of asking for the next line are equal
  pub next-once : (n m : Next) → Gives (Some xs) (Some ys) n → ConsumesNext (Some xs) (Some ys) n → Gives (Some xs) (Some zs) m
      → ConsumesNext (Some xs) (Some zs) m
      → (n ≡ m) × (ys ≡ zs)
  next-once (Line a) (Line b) g c h d =
      let e = same-first (lines xs) a b _ _ g.0 h.0 in
      (ap Line e, rest-once xs b ys zs (subst (ConsumesLine (Some xs) (Some ys)) e c) d)
  next-once (Line a) TooLong g c h d = absurd (not_longer xs a _ g.0 g.1 h.1)
  next-once (Line a) End g c h d = absurd (not_none xs a _ g.0 h.1)
  next-once TooLong (Line b) g c h d = absurd (not_longer xs b _ h.0 h.1 g.1)
  next-once TooLong TooLong g c h d = (refl, g.0 ∙ sym h.0)
  next-once TooLong End g c h d = absurd (none_longer xs h.1 g.1)
  next-once End (Line b) g c h d = absurd (not_none xs b _ h.0 g.1)
  next-once End TooLong g c h d = absurd (none_longer xs g.1 h.1)
  next-once End End g c h d = (refl, g.0 ∙ sym h.0)
