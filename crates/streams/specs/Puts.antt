-- Bytes put into a text in memory, behind those that stand at its front.
use Rattle.std.specs.Prelude.{◌≡◌, ◌+◌, ◌<◌, ℕ, List, [], ◌++◌, refl, length, take, drop}
use Rattle.std.proofs.Common.{sym, ap, ◌∙◌, append_assoc, append-nil, length-append, arith}
use Rattle.std.proofs.lemmas.List.{drop-drop}

-- behind the first `at` of a text's bytes stand some more, up to `to`, and the rest stays
pub record Puts (old : List ℕ) (at : ℕ) (bytes new : List ℕ) (to : ℕ) : Type 0 where
  pub room : length new ≡ length old
  pub long : to ≡ at + length bytes
  pub front : take to new ≡ take at old ++ bytes
  pub rest : drop to new ≡ drop to old

-- none; some, and then more
pub puts_none : (a : List ℕ) (at : ℕ) → Puts a at [] a at
puts_none a at = record { room = refl; long = omega arith; front = sym (append-nil (take at a)); rest = refl }

pub puts_more : (a b c x y : List ℕ) (i j k : ℕ) → Puts a i x b j → Puts b j y c k → Puts a i (x ++ y) c k
puts_more a b c x y i j k p q =
    let past : (l : List ℕ) → drop k l ≡ drop (length y) (drop j l) = λ l. ap (λ n. drop n l) q.long ∙ sym (drop-drop (length y) j l) in
    record {
      room = q.room ∙ p.room;
      long = omega (arith, p.long, q.long, length-append x y);
      front = q.front ∙ ap (λ (l : List ℕ). l ++ y) p.front ∙ append_assoc (take i a) x y;
      rest = q.rest ∙ past b ∙ ap (drop (length y)) p.rest ∙ sym (past a);
    }

-- what has no room has none with some before it, and none with more behind it
pub full_before : {a b : List ℕ} {i j : ℕ} (x y : List ℕ) → Puts a i x b j → length b < j + length y → length a < i + length (x ++ y)
full_before x y p h = omega (arith, p.room, p.long, length-append x y)

pub full_behind : (room i : ℕ) (x y : List ℕ) → room < i + length x → room < i + length (x ++ y)
full_behind room i x y h = omega (arith, length-append x y)
