-- Closing an array of row arrays of width n in loops over its rows: what each loop has done, and what it comes to.
use Rattle.std.specs.Prelude.{ℕ, ◌+◌, ◌<◌, ◌≤◌, ◌≡◌, refl, Bool, true, false, ◌||◌, ◌&&◌, List, [], length, get_or, set}
use Rattle.std.proofs.Common.{sym, ◌∙◌, inl, inr, arith, below_more}
use Rattle.std.proofs.Math.Decide.{ℕ_discrete}
use Rattle.sets.specs.Bits.{Has, role_width}
use Rattle.laws.specs.Fill.{Filling, one_more, all_done}
use Rattle.laws.specs.Fill as fill
use Rattle.laws.specs.Warshall.{Done, none_done, Stepped, step-done, Closes, closes}
use Rattle.laws.specs.Marks.{mark}
use Rattle.sets.specs.Rows.{Adds}
use Rattle.orders.specs.Marks.{Square, Diagonal, OrRow}
use Rattle.orders.specs.Sides.{Leads, OffDiagonal, OwnRows}
use Rattle.orders.proofs.MarkLaws.{square_set}
use Rattle.orders.proofs.SideLaws.{leads_diagonal, leads_step, idle}

-- the mark of both rows at a place
abbrev pub OrMark : List Bool → List Bool → ℕ → Bool → Type 0
OrMark a b j x = x ≡ (get_or a j false || get_or b j false)

pub or_row : (n : ℕ) (a b r : List Bool) (i : ℕ) → Filling (OrMark a b) false n a r i → n ≤ i → OrRow n a b r
or_row n a b r i f h = record { at = all_done (OrMark a b) false n a r i f h }

-- the row h of m, with the row of k where it marks k
pub record Through (n : ℕ) (m : List (List Bool)) (row : List Bool) (k h : ℕ) (x : List Bool) : Type 0 where
  pub at : (j : ℕ) → j < n → get_or x j false ≡ (mark m h j || (mark m h k && get_or row j false))

-- a loop over the rows: those below i have gone through k, those from i on are as they were, and the array is still square
pub record SteppingMatrix (n : ℕ) (m₀ : List (List Bool)) (row : List Bool) (k : ℕ) (m : List (List Bool)) (i : ℕ) : Type 0 where
  pub square : Square n m
  pub rows : Filling (Through n m₀ row k) [] n m₀ m i

module _ (n : ℕ) (m₀ : List (List Bool)) (row : List Bool) (k : ℕ) where
  pub stepping_start : Square n m₀ → SteppingMatrix n m₀ row k m₀ 0
  stepping_start s = record { square = s; rows = fill.none_done (Through n m₀ row k) [] n m₀ s.rows }

  module _ (m : List (List Bool)) (i : ℕ) (g : SteppingMatrix n m₀ row k m i) where
    or-false : (x : Bool) → (x || false) ≡ x
    or-false true = refl
    or-false false = refl

    -- a row that marks k is joined with the row of k
    pub joins : (x : List Bool) → i < n → length x ≡ n → mark m i k ≡ true → OrRow n (get_or m i []) row x
        → SteppingMatrix n m₀ row k (set m i x) (i + 1)
    joins x hi l t o =
        record {
          square = square_set n m i x g.square hi l;
          rows =
              one_more (Through n m₀ row k) [] n m₀ m i x g.rows hi (λ e. record {
                at = λ j hj. o.at j hj ∙ rw (← e) (by (mark m i k) j t);
              });
        }
      where
        by : (b : Bool) (j : ℕ) → b ≡ true → (mark m i j || get_or row j false) ≡ (mark m i j || (b && get_or row j false))
        by true j e = refl
        by false j e = cc

    -- one that does not goes through it unchanged
    pub stays : i < n → mark m i k ≡ false → SteppingMatrix n m₀ row k m (i + 1)
    stays hi off =
        record {
          square = g.square;
          rows = record {
            within = omega arith;
            long = g.rows.long;
            done = below_more (λ h. Through n m₀ row k h (get_or m h [])) i g.rows.done
                (let e = g.rows.rest i (omega arith) in record { at = λ j hj. rw (← e) (by (mark m i k) j off) });
            rest = λ h l. g.rows.rest h (omega arith);
          };
        }
      where
        by : (b : Bool) (j : ℕ) → b ≡ false → mark m i j ≡ (mark m i j || (b && get_or row j false))
        by true j e = cc
        by false j e = sym (or-false (mark m i j))

    -- after the last row
    pub stepped : n ≤ i → row ≡ get_or m₀ k [] → Stepped n (mark m₀) k (mark m)
    stepped h e = λ a b ha hb. rw (← e) ((all_done (Through n m₀ row k) [] n m₀ m i g.rows h a ha).at b hb)

-- the loop of `close`: m is closed through each pivot below k, is still square, and its marks off the diagonal lead from the left to the
-- right
pub record Closing (left right : ℕ) (m₀ m : List (List Bool)) (k : ℕ) : Type 0 where
  pub square : Square role_width m
  pub done : Done role_width (mark m₀) (mark m) k
  pub sides : Leads left right (OffDiagonal (mark m))

module _ (left right : ℕ) (m₀ m : List (List Bool)) where
  pub closing_start : Square role_width m → Adds role_width role_width (mark m₀) Diagonal (mark m)
      → Leads left right (OffDiagonal (mark m₀)) → Closing left right m₀ m 0
  closing_start s a l =
      record {
        square = s;
        done =
            none_done role_width (mark m₀) (mark m) (λ i j hi hj. (a.at i j hi hj).0) (λ i j hi hj p. (a.at i j hi hj).1 (inl p))
            (λ i hi. (a.at i i hi hi).1 (inr refl));
        sides = leads_diagonal left right (mark m₀) (mark m) l a;
      }

  module _ (k : ℕ) (c : Closing left right m₀ m k) where
    pub closing_more : (r : List (List Bool)) → k < role_width → Square role_width r → Stepped role_width (mark m) k (mark r)
        → Closing left right m₀ r (k + 1)
    closing_more r h s t =
        record {
          square = s;
          done = step-done role_width (mark m₀) (mark m) (mark r) k h c.done t;
          sides = leads_step left right (mark m) c.sides k (mark r) h t;
        }

    -- a role that is not on both sides
    pub closing_idle : k < role_width → (Has left k × Has right k → ⊥) → Closing left right m₀ m (k + 1)
    closing_idle h none = closing_more m h c.square (idle left right (mark m) c.sides k h none)

    pub closing_end : role_width ≤ k → k ≤ role_width → Closes role_width (mark m₀) (mark m)
    closing_end l h = closes role_width (mark m₀) (mark m) k l h c.done

    pub closing_own : OwnRows left (mark m)
    closing_own =
        record {
          at = λ i j hi hj none. (
            λ p. sym (by i j hi hj none p (ℕ_discrete i j)),
            λ e. rw e (c.done.same i hi),
          );
        }
      where
        by : (i j : ℕ) → i < role_width → j < role_width → (Has left i → ⊥) → mark m i j ≡ true → Dec (i ≡ j) → i ≡ j
        by i j hi hj none p (yes e) = e
        by i j hi hj none p (no ne) = absurd (none (c.sides.from i j hi hj (p, ne)))

-- where the loop begins and ends
pub ruleset closing = (closing_start, closing_end, closing_own)
