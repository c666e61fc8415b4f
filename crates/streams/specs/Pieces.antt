-- Laws of what a sink has taken of bytes that come piece after piece, with some of them pending.
use Rattle.std.specs.Prelude.{◌≡◌, ℕ, List, [], ◌++◌, Option, refl}
use Rattle.std.proofs.Common.{sym, ap, ◌∙◌, subst, append_assoc, append-nil}
use Rattle.std.proofs.KnownBytes.{Appends-trans, Appends-nil}
use Rattle.streams.specs.Takes.{TakesBut, TakesStart}

-- all but the rest of some bytes is a start of them, and the other way
pub start_of : {a b : Option (List ℕ)} {bs rest : List ℕ} → TakesBut rest a b bs → TakesStart a b bs
start_of {rest = rest} t = record { start = t.start; rest = rest; parts = t.parts; appends = t.appends }

pub but_rest : {a b : Option (List ℕ)} {bs : List ℕ} (s : TakesStart a b bs) → TakesBut s.rest a b bs
but_rest s = record { start = s.start; parts = s.parts; appends = s.appends }

-- none of them
pub takes_none : (a : Option (List ℕ)) (bs : List ℕ) → TakesBut bs a a bs
takes_none a bs = record { start = []; parts = refl; appends = Appends-nil a }

-- a start of the first bytes is one of all
pub starts_before : (a b : Option (List ℕ)) (bs more : List ℕ) → TakesStart a b bs → TakesStart a b (bs ++ more)
starts_before a b bs more s = record {
  start = s.start;
  rest = s.rest ++ more;
  parts = ap (λ l. l ++ more) s.parts ∙ append_assoc s.start s.rest more;
  appends = s.appends;
}

-- more bytes put behind those that are pending
module _ (a b c : Option (List ℕ)) (bytes pending more : List ℕ) (t : TakesBut pending a b bytes) where
  all_more : (start rest : List ℕ) → pending ++ more ≡ start ++ rest → bytes ++ more ≡ (t.start ++ start) ++ rest
  all_more start rest e =
      ap (λ l. l ++ more) t.parts ∙ append_assoc t.start pending more ∙ ap (λ l. t.start ++ l) e ∙ sym (append_assoc t.start start rest)

  pub takes_more : (rest : List ℕ) → TakesBut rest b c (pending ++ more) → TakesBut rest a c (bytes ++ more)
  takes_more rest u = record {
    start = t.start ++ u.start;
    parts = all_more u.start rest u.parts;
    appends = Appends-trans a b c t.start u.start t.appends u.appends;
  }

  pub starts_more : TakesStart b c (pending ++ more) → TakesStart a c (bytes ++ more)
  starts_more s = start_of (takes_more s.rest (but_rest s))

-- of all that was pending and then came: nothing comes; more comes; more comes, and a start of it is
-- taken; more would have come
pub nothing_comes : (a : Option (List ℕ)) (p : List ℕ) → TakesBut p a a (p ++ [])
nothing_comes a p = subst (TakesBut p a a) (sym (append-nil p)) (takes_none a p)

module _ (a b c : Option (List ℕ)) (p q x y : List ℕ) (t : TakesBut q a b (p ++ x)) where
  pub more_comes : (r : List ℕ) → TakesBut r b c (q ++ y) → TakesBut r a c (p ++ (x ++ y))
  more_comes r u = subst (TakesBut r a c) (append_assoc p x y) (takes_more a b c (p ++ x) q y t r u)

  pub start_comes : TakesStart b c (q ++ y) → TakesStart a c (p ++ (x ++ y))
  start_comes u = subst (TakesStart a c) (append_assoc p x y) (starts_more a b c (p ++ x) q y t u)

pub more_would_come : (a b : Option (List ℕ)) (p x y : List ℕ) → TakesStart a b (p ++ x) → TakesStart a b (p ++ (x ++ y))
more_would_come a b p x y t = subst (TakesStart a b) (append_assoc p x y) (starts_before a b (p ++ x) y t)
