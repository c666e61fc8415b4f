-- The lines of a round's marks, put one after the other.
use Rattle.std.specs.Prelude.{ℕ, ◌≡◌, refl, List, [], ◌∷◌, ◌++◌}
use Rattle.std.proofs.Common.{sym, ap, ◌∙◌, subst, append_assoc, append-nil}
use Rattle.std.proofs.lemmas.List.{map-append}
use Rattle.kinds.specs.declared.State.{State}
use Rattle.kinds.specs.declared.Concept.{Concept}
use Rattle.frames.specs.declared.Frame.TheVariants.{ListedMark}
use Rattle.fair_copy.specs.Copy.{frames_text}
use Rattle.fair_copy.proofs.Putting.{text-append, text_none}
use Rattle.listing.specs.Held.{round_frames}

-- a mark
abbrev Mark : Type 0
Mark = State × State × Concept

module _ (n : ℕ) where
  -- the lines of some marks, and of more
  marks-text : (x y : List Mark) → frames_text (round_frames n (x ++ y)) ≡ frames_text (round_frames n x) ++ frames_text (round_frames n y)
  marks-text x y = ap frames_text (map-append _ x y) ∙ text-append (round_frames n x) (round_frames n y)

  module _ {S E : Type 0} (takes : S → List ℕ → S → Type 0) (fails : S → List ℕ → E → S → Type 0) (old : S) (marks : List Mark) where
    -- the lines of the marks before those that are left are put
    pub record ArePut (new : S) (left : List Mark) : Type 0 where
      pub put : List Mark
      pub parts : marks ≡ put ++ left
      pub so : takes old (frames_text (round_frames n put)) new

    pub none_put : takes old [] old → ArePut old marks
    none_put t = record { put = []; parts = refl; so = subst (λ (x : List ℕ). takes old x old) (sym text_none) t }

    module _ (mid : S) (left : List Mark) (p : ArePut mid left) (s t : State) (B : Concept) (rest : List Mark)
        (next : left ≡ (s, t, B) ∷ rest)
        (new : S) where
      -- one more is put
      pub more_put : takes mid (frames_text (ListedMark n s t B ∷ [])) new
          → ((x y : List ℕ) → takes old x mid → takes mid y new → takes old (x ++ y) new) → ArePut new rest
      more_put h join = record {
        put = p.put ++ (s, t, B) ∷ [];
        parts = p.parts ∙ ap (λ (l : List Mark). p.put ++ l) next ∙ sym (append_assoc p.put ((s, t, B) ∷ []) rest);
        so = subst (λ (x : List ℕ). takes old x new) (sym (marks-text p.put ((s, t, B) ∷ []))) (join _ _ p.so h);
      }

      -- it fails at one more
      pub failed_put : (e : E) → fails mid (frames_text (ListedMark n s t B ∷ [])) e new
          → ((x y : List ℕ) → takes old x mid → fails mid y e new → fails old (x ++ y) e new)
          → ((x y : List ℕ) → fails old x e new → fails old (x ++ y) e new) → fails old (frames_text (round_frames n marks)) e new
      failed_put e h after before =
          let all = p.parts ∙ ap (λ (l : List Mark). p.put ++ l) next ∙ sym (append_assoc p.put ((s, t, B) ∷ []) rest) in
          subst (λ (x : List ℕ). fails old x e new)
          (ap (λ (x : List ℕ). x ++ frames_text (round_frames n rest)) (sym (marks-text p.put ((s, t, B) ∷ [])))
          ∙ sym (ap (λ (l : List Mark). frames_text (round_frames n l)) all ∙ marks-text (p.put ++ (s, t, B) ∷ []) rest))
          (before _ (frames_text (round_frames n rest)) (after _ _ p.so h))

    -- all are put
    pub whole_put : (new : S) (left : List Mark) → ArePut new left → left ≡ [] → takes old (frames_text (round_frames n marks)) new
    whole_put new left p e =
        subst (λ (l : List Mark). takes old (frames_text (round_frames n l)) new)
        (sym (p.parts ∙ ap (λ (l : List Mark). p.put ++ l) e ∙ append-nil p.put)) p.so
