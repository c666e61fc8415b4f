-- The first line of what is held and what comes after it.
use Rattle.std.proofs.Common.{◌≡◌, ℕ, zero, suc, ◌+◌, ◌<◌, ◌≤◌, ◌≢◌, ◌==◌, Bool, true, false, List, [], ◌∷◌, ◌++◌, length, take, drop, get_or, slice_get, Option, Some, None, refl, sym, ap, ◌∙◌, arith, inl, append-nil, append_assoc}
use Rattle.std.specs.Prelude.{IsSomeAnd, IfSome, position}
use Rattle.std.specs.List.{position_or_len}
use Rattle.std.proofs.Common.{add-one}
use Rattle.std.proofs.lemmas.List.{length-take, get_or-take, drop-drop, take_all, drop_all, drop_more, take-append-drop}
use Rattle.std.proofs.lemmas.List.Sums.{fails_before_first}
use Rattle.std.proofs.lemmas.Bool.Decides.{nat_tests}
use Rattle.std.proofs.lemmas.List.Quantifiers.{position-Some}
use Rattle.std.specs.Io.KnownBytes.{Keeps, IsAtEnd, prepend_known}
use Rattle.streams.specs.declared.TheConstants.{LINE}
use Rattle.streams.specs.Gives.{ConsumesLine}
use Rattle.streams.specs.Lines.{lines, longer, TakesLine, BeginsLonger}

-- no line ends before n
abbrev Plain : List ℕ → ℕ → Type 0
Plain xs n = (k : ℕ) → k < n → (get_or xs k 0 == 0x0A) ≡ false

plain_rest : (x : ℕ) (xs : List ℕ) (n : ℕ) → Plain (x ∷ xs) (suc n) → Plain xs n
plain_rest x xs n p = λ k h. p (suc k) (omega arith)

lines_end : (x : ℕ) (xs : List ℕ) → (x == 0x0A) ≡ true → lines (x ∷ xs) ≡ [] ∷ lines xs
unfolding lines
lines_end x xs e = rw e refl

lines_more : (x : ℕ) (xs : List ℕ) → (x == 0x0A) ≡ false → lines (x ∷ xs) ≡ longer x (lines xs)
unfolding lines
lines_more x xs e = rw e refl

pub lines_none : lines [] ≡ []
unfolding lines
lines_none = refl

first_line : (xs more : List ℕ) (n : ℕ) → n < length xs → (get_or xs n 0 == 0x0A) ≡ true → Plain xs n
    → lines (xs ++ more) ≡ take n xs ∷ lines (drop (suc n) xs ++ more)
first_line [] more n h e p = absurd (omega arith)
first_line (x ∷ xs) more zero h e p = lines_end x (xs ++ more) e
first_line (x ∷ xs) more (suc n) h e p =
    lines_more x (xs ++ more) (p 0 (omega arith)) ∙ ap (longer x) (first_line xs more n (omega arith) e (plain_rest x xs n p))

last_line : (x : ℕ) (xs : List ℕ) → Plain (x ∷ xs) (suc (length xs)) → lines (x ∷ xs) ≡ (x ∷ xs) ∷ []
last_line x [] p = lines_more x [] (p 0 (omega arith)) ∙ ap (longer x) lines_none
last_line x (y ∷ xs) p =
    lines_more x (y ∷ xs) (p 0 (omega arith)) ∙ ap (longer x) (last_line y xs (plain_rest x (y ∷ xs) _ p))

abbrev FirstLonger : List (List ℕ) → ℕ → Type 0
FirstLonger ls n = IsSomeAnd (slice_get ls 0) (λ line. n < length line)

longer_first : (x : ℕ) (ls : List (List ℕ)) → FirstLonger (longer x ls) 0
longer_first x [] = omega arith
longer_first x (l ∷ ls) = omega arith

longer_more : (x : ℕ) (ls : List (List ℕ)) (n : ℕ) → FirstLonger ls n → FirstLonger (longer x ls) (suc n)
longer_more x [] n h = absurd h
longer_more x (l ∷ ls) n h = omega arith

first_longer : (xs more : List ℕ) (n : ℕ) → n < length xs → Plain xs (suc n) → FirstLonger (lines (xs ++ more)) n
first_longer [] more n h p = absurd (omega arith)
first_longer (x ∷ xs) more zero h p = rw (lines_more x (xs ++ more) (p 0 (omega arith))) (longer_first x _)
first_longer (x ∷ xs) more (suc n) h p =
    rw (lines_more x (xs ++ more) (p 0 (omega arith))) (longer_more x _ n (first_longer xs more n (omega arith) (plain_rest x xs _ p)))

-- where the first line ends of what is held, if that is within reach
abbrev pub ends : ℕ → Bool
ends b = b == 0x0A

abbrev pub end_of : List ℕ → Option ℕ
end_of held = position ends (take (LINE + 1) held)

none_length : (xs : List ℕ) → position ends xs ≡ None → length xs ≤ position_or_len ends xs
none_length xs e = grind (arith, nat_tests)

plain_none : (held : List ℕ) (n : ℕ) → end_of held ≡ None → n ≤ LINE + 1 → n ≤ length held → Plain held n
plain_none held n e s w k h =
    let near : k < LINE + 1 = omega arith in
    let long = none_length (take (LINE + 1) held) e in
    rw (get_or-take (LINE + 1) held k 0 near) at (fails_before_first ends (take (LINE + 1) held) k 0 (omega (arith, length-take (LINE + 1) held)))

found_within : (held : List ℕ) (n : ℕ) → end_of held ≡ Some n → (n < LINE + 1) × (n < length held)
found_within held n e =
    let p = position-Some ends (take (LINE + 1) held) n 0 e in
    (omega (arith, p.0, length-take (LINE + 1) held), omega (arith, p.0, length-take (LINE + 1) held))

pub reach : (held : List ℕ) → IfSome (end_of held) (λ n. (n ≤ LINE) × (n < length held))
reach held = reach_at _ (λ n e. (omega (arith, found_within held n e), (found_within held n e).1))
  where
    reach_at : (o : Option ℕ) → ((n : ℕ) → o ≡ Some n → (n ≤ LINE) × (n < length held)) → IfSome o (λ n. (n ≤ LINE) × (n < length held))
    reach_at None f = tt
    reach_at (Some n) f = f n refl

found_line : (held more : List ℕ) (n : ℕ) → end_of held ≡ Some n → lines (held ++ more) ≡ take n held ∷ lines (drop 1 (drop n held) ++ more)
found_line held more n e =
    let p = position-Some ends (take (LINE + 1) held) n 0 e in
    let w = found_within held n e in
    let near : n < LINE + 1 = w.0 in
    let here : (get_or held n 0 == 0x0A) ≡ true = rw (get_or-take (LINE + 1) held n 0 near) at p.1 in
    let before : Plain held n = λ k h. let close : k < LINE + 1 = omega arith in rw (get_or-take (LINE + 1) held k 0 close) at (p.2 k h) in
    let next : drop (suc n) held ≡ drop 1 (drop n held) = sym (drop-drop 1 n held ∙ ap (λ j. drop j held) (add-one n)) in
    first_line held more n w.1 here before ∙ ap (λ (r : List ℕ). take n held ∷ lines (r ++ more)) next

last_whole : (held : List ℕ) → end_of held ≡ None → length held ≤ LINE → 0 < length held → lines held ≡ held ∷ []
last_whole [] e s o = absurd (omega arith)
last_whole (x ∷ xs) e s o = last_line x xs (plain_none (x ∷ xs) _ e (omega arith) (omega arith))

-- the same of what is held and of what comes after it, where that is known
pub TakesLine-found : (a b : Option (List ℕ)) (held : List ℕ) (n : ℕ) → end_of held ≡ Some n → Keeps a (prepend_known held b)
    → TakesLine a (prepend_known (drop 1 (drop n held)) b) (take n held)
TakesLine-found None b held n e k = tt
TakesLine-found (Some x) None held n e k = absurd k
TakesLine-found (Some x) (Some y) held n e k = ap lines (sym k) ∙ found_line held y n e

found_end : (held : List ℕ) (n : ℕ) → end_of held ≡ Some n → get_or held n 0 ≡ 0x0A
found_end held n e =
    let p = position-Some ends (take (LINE + 1) held) n 0 e in
    let w = found_within held n e in
    let near : n < LINE + 1 = w.0 in
    let here : (get_or held n 0 == 0x0A) ≡ true = rw (get_or-take (LINE + 1) held n 0 near) at p.1 in
    grind (arith, nat_tests)

found_parts : (held : List ℕ) (n : ℕ) → end_of held ≡ Some n → held ≡ (take n held ++ 0x0A ∷ []) ++ drop 1 (drop n held)
found_parts held n e =
    let w = found_within held n e in
    let here : drop n held ≡ 0x0A ∷ drop (n + 1) held =
    drop_more held n 0 w.1 ∙ ap (λ (b : ℕ). b ∷ drop (n + 1) held) (found_end held n e) in
    sym (take-append-drop n held) ∙ ap (λ (r : List ℕ). take n held ++ r) (here ∙ ap (λ (r : List ℕ). 0x0A ∷ r) (sym (ap (drop 1) here)))
    ∙ sym (append_assoc (take n held) (0x0A ∷ []) (drop 1 (drop n held)))

pub ConsumesLine-found : (a b : Option (List ℕ)) (held : List ℕ) (n : ℕ) → end_of held ≡ Some n → Keeps a (prepend_known held b)
    → ConsumesLine a (prepend_known (drop 1 (drop n held)) b) (take n held)
ConsumesLine-found None b held n e k = inl tt
ConsumesLine-found (Some x) None held n e k = absurd k
ConsumesLine-found (Some x) (Some y) held n e k =
    inl (sym k ∙ ap (λ (l : List ℕ). l ++ y) (found_parts held n e) ∙ append_assoc (take n held ++ 0x0A ∷ []) (drop 1 (drop n held)) y)

pub TakesLine-last : (a b : Option (List ℕ)) (held : List ℕ) (n : ℕ) → end_of held ≡ None → n ≡ length held → n ≤ LINE → n ≢ 0
    → IsAtEnd b → Keeps a (prepend_known held b) → TakesLine a (prepend_known (drop n held) b) (take n held)
TakesLine-last None b held n e l s o end k = tt
TakesLine-last (Some x) None held n e l s o end k = absurd k
TakesLine-last (Some x) (Some y) held n e l s o end k =
    let all : take n held ≡ held = take_all n held (omega arith) in
    let none : drop n held ≡ [] = drop_all n held (omega arith) in
    let whole : x ≡ held = sym k ∙ ap (λ l. held ++ l) end ∙ append-nil held in
    rw (whole, all, none, end, lines_none) (last_whole held e (omega arith) (omega arith))

pub BeginsLonger-none : (a b : Option (List ℕ)) (held : List ℕ) → end_of held ≡ None → LINE < length held → Keeps a (prepend_known held b)
    → BeginsLonger a LINE
BeginsLonger-none None b held e l k = tt
BeginsLonger-none (Some x) None held e l k = absurd k
BeginsLonger-none (Some x) (Some y) held e l k =
    rw (sym k) (first_longer held y LINE l (plain_none held (LINE + 1) e (omega arith) (omega arith)))
