-- Lines that are taken are those of the entries that a listing begins with.
use Rattle.std.specs.Prelude.{ℕ, ◌+◌, ◌^◌, ◌<◌, ◌≡◌, refl, true, false, List, [], ◌∷◌, ◌++◌, Option, None, Some, map, length, take, slice_get}
use Rattle.std.proofs.Common.{sym, ap, ◌∙◌, arith, length-append}
use Rattle.std.proofs.lemmas.List.{take_all, take_at, length-map, take-map}
use Rattle.std.proofs.lemmas.Option.{slice_get-map}
use Rattle.std.specs.Option.{option_map}
use Rattle.streams.specs.Input.{Input}
use Rattle.reading.specs.Tables.{Entry}
use Rattle.intake.specs.Entries.{entry_line}
use Rattle.intake.specs.Next.{TakesAll, StopsAmong}
use Rattle.intake.specs.Compared.{IsComparedTo}

there : (ls : List (List ℕ)) (l : List ℕ) (rest : List (List ℕ)) → slice_get (ls ++ l ∷ rest) (length ls) ≡ Some l
there [] l rest = refl
there (k ∷ ls) l rest = there ls l rest

module _ (listing : List Entry) (few : length listing < 2 ^ 64) {old new : Input} {n : ℕ} where
  -- all of them
  pub compared-whole : TakesAll old new 0 n (map entry_line listing) → IsComparedTo listing old new (record { right = n; is_whole = true })
  compared-whole t =
      let m = length-map listing entry_line in
      let all : n ≡ 0 + length (map entry_line listing) = t.counted (omega (arith, m)) in
      let e : n ≡ length listing = omega (arith, all, m) in
      let same : take n listing ≡ listing = take_all n listing (omega arith) in
      record {
        few = omega arith;
        taken = rw same t.taken;
        whole = λ h. e;
        missed = tt;
      }

  -- or those before one that is missed
  pub compared-part : StopsAmong old new 0 n (map entry_line listing) → IsComparedTo listing old new (record { right = n; is_whole = false })
  compared-part s = by (slice_get listing n) refl
    where
      long : length listing ≡ length s.right + length (s.line ∷ s.rest)
      long = sym (length-map listing entry_line) ∙ ap (λ (ls : List (List ℕ)). length ls) s.parts ∙ length-append s.right (s.line ∷ s.rest)

      e : n ≡ length s.right
      e = let k : n ≡ 0 + length s.right = s.taken.counted (omega (arith, long)) in omega arith

      before : map entry_line (take n listing) ≡ s.right
      before = sym (take-map entry_line n listing) ∙ ap (take n) s.parts ∙ take_at s.right (s.line ∷ s.rest) n (sym e)

      got : option_map entry_line (slice_get listing n) ≡ Some s.line
      got =
          sym (slice_get-map entry_line listing n) ∙ ap (λ (ls : List (List ℕ)). slice_get ls n) s.parts
          ∙ ap (slice_get (s.right ++ s.line ∷ s.rest)) e ∙ there s.right s.line s.rest

      by : (o : Option Entry) → slice_get listing n ≡ o
          → IsComparedTo listing old new (record { right = n; is_whole = false })
      by None i = let d : None ≡ Some s.line = ap (option_map entry_line) (sym i) ∙ got in absurd cc
      by (Some x) i =
          let d : Some (entry_line x) ≡ Some s.line = ap (option_map entry_line) (sym i) ∙ got in
          let l : entry_line x ≡ s.line = cc in
          record {
            few = omega (arith, e, long);
            taken = rw before s.taken.taken;
            whole = λ h. absurd cc;
            missed = record { entry = x; is = i; other = rw l s.other };
          }
