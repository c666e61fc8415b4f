-- Bytes that a sink takes part by part.
use Rattle.std.proofs.Common.{ℕ, ◌≡◌, ◌+◌, ◌-◌, List, [], ◌++◌, length, take, drop, Option, sym, ap, ◌∙◌, subst, append_assoc, append-nil}
use Rattle.std.proofs.lemmas.List.{take_rest, take-append-drop}
use Rattle.std.proofs.Math.Seq.{take-add}
use Rattle.std.proofs.KnownBytes.{Appends-trans, Appends-kept}
use Rattle.std.specs.Io.KnownBytes.{Appends, Keeps}
use Rattle.streams.specs.Takes.{TakesBut, TakesStart}
use Rattle.streams.specs.Pieces.{start_of, but_rest}

-- the first of them, and then the next n
pub appends_more : (a b c : Option (List ℕ)) (bs : List ℕ) (at n : ℕ) → Appends a b (take at bs)
    → Appends b c (take n (take (length bs - at) (drop at bs))) → Appends a c (take (at + n) bs)
appends_more a b c bs at n p q =
    let parts : take (at + n) bs ≡ take at bs ++ take n (take (length bs - at) (drop at bs)) =
    take-add at n bs ∙ ap (λ l. take at bs ++ take n l) (sym (take_rest bs at)) in
    subst (Appends a c) (sym parts) (Appends-trans a b c _ _ p q)

-- the first of them, and then no more
pub starts_with_taken : (a b c : Option (List ℕ)) (bs : List ℕ) (at : ℕ) → Appends a b (take at bs) → Keeps b c → TakesStart a c bs
starts_with_taken a b c bs at p k = record {
  start = take at bs;
  rest = drop at bs;
  parts = sym (take-append-drop at bs);
  appends = Appends-kept a b c (take at bs) p k;
}

-- all of some bytes, and then all but the rest of the next
pub takes_after : (a b c : Option (List ℕ)) (front bs rest : List ℕ) → Appends a b front → TakesBut rest b c bs
    → TakesBut rest a c (front ++ bs)
takes_after a b c front bs rest p t = record {
  start = front ++ t.start;
  parts = ap (λ l. front ++ l) t.parts ∙ sym (append_assoc front t.start rest);
  appends = Appends-trans a b c front t.start p t.appends;
}

-- all of some bytes, and all of the next
pub takes_both : (a b c : Option (List ℕ)) (front bs rest : List ℕ) → Appends a b front → Appends b c bs → rest ≡ []
    → TakesBut rest a c (front ++ bs)
takes_both a b c front bs rest p q none = record {
  start = front ++ bs;
  parts = sym (append-nil (front ++ bs)) ∙ ap (λ l. (front ++ bs) ++ l) (sym none);
  appends = Appends-trans a b c front bs p q;
}

-- all of some bytes, and then a start of the next
pub starts_after : (a b c : Option (List ℕ)) (front bs : List ℕ) → Appends a b front → TakesStart b c bs → TakesStart a c (front ++ bs)
starts_after a b c front bs p s = start_of (takes_after a b c front bs s.rest p (but_rest s))

-- those that are pending written too, all of them or a start
module _ (a b c : Option (List ℕ)) (bytes pending : List ℕ) (t : TakesBut pending a b bytes) where
  pub takes_ended : Appends b c pending → Appends a c bytes
  takes_ended p = subst (Appends a c) (sym t.parts) (Appends-trans a b c t.start pending t.appends p)

  pub starts_ended : TakesStart b c pending → TakesStart a c bytes
  starts_ended s = subst (TakesStart a c) (sym t.parts) (starts_after a b c t.start pending t.appends s)
