-- A list cut short: what is held is then that of the frames up to there.
use Rattle.std.specs.Prelude.{ℕ, ◌+◌, ◌-◌, ◌≡◌, ◌≢◌, refl, List, [], ◌∷◌, ◌++◌, map, length, take}
use Rattle.std.proofs.Common.{sym, ap, ◌∙◌, subst, arith, length-append, length-take}
use Rattle.std.proofs.Math.Path.{ap₂}
use Rattle.std.proofs.Math.Seq.{take-append-add}
use Rattle.std.proofs.lemmas.List.{length-map, take_all, take-map}
use Rattle.frames.specs.declared.Frame.{Frame}
use Rattle.reading.specs.declared.File.{File}
use Rattle.reading.specs.File.{file_of}
use Rattle.reading.specs.Judged.{InPlace}
use Rattle.reading.specs.Laws.{EndsInList}
use Rattle.reading.specs.Reading.{Taken, none, more}
use Rattle.reading.specs.Tables.{Entry, frame_of, list_in, listed, entries}
use Rattle.reading.proofs.ListEnds.{list-last, entries-held}
use Rattle.reading.proofs.ListLaws.{list-counted}
use Rattle.reading.proofs.Passed.{passed}
use Rattle.intake.specs.Held.{CutsList}
use Rattle.intake.specs.Verdicts.{before_list}

-- line 1 is no entry
not-first : (fs : List Frame) → Taken fs → (e : Entry) (rest : List Frame) → fs ≡ frame_of e ∷ rest → ⊥
not-first fs none e rest i = cc
not-first fs (more [] f t j) e rest i =
    let d : f ≡ frame_of e = cc in
    let p : InPlace [] (frame_of e) = rw d at (passed [] f j).in_place in
    p refl
not-first fs (more (g ∷ before) f t j) e rest i =
    let d : g ≡ frame_of e = cc in
    not-first (g ∷ before) t e before (ap (λ (h : Frame). h ∷ before) d)

-- counts lowered by as many entries as are more than k
abbrev pub cut : ℕ → File → File
cut k old = record old { lines = old.lines - (old.listed - k); listed = old.listed - (old.listed - k) }

-- where nothing is held nothing is cut
nothing : (k : ℕ) → cut k (file_of []) ≡ file_of (take (before_list [] + k) [])
unfolding entries
nothing k =
    let none : entries listed [] ≡ 0 = refl in
    let lines : 0 - (entries listed [] - k) ≡ 0 = omega arith in
    let listed-is : entries listed [] - (entries listed [] - k) ≡ entries listed [] = omega (arith, none) in
    let short : take (before_list [] + k) [] ≡ [] = take_all {A = Frame} (before_list [] + k) [] (omega arith) in
    ap₂ (λ m o. record (file_of []) { lines = m; listed = o }) lines listed-is ∙ ap file_of (sym short)

module _ (k : ℕ) (fs : List Frame) (t : Taken fs) (w : EndsInList fs) where
  its : List Entry
  its = list_in fs

  many : entries listed fs ≡ length (list_in fs)
  many = list-counted fs

  long : length fs ≡ length w.collection + length (list_in fs)
  long =
      ap (λ (gs : List Frame). length gs) w.are ∙ length-append w.collection (map frame_of (list_in fs))
      ∙ ap (λ n. length w.collection + n) (length-map (list_in fs) frame_of)

  front : take (before_list fs + k) fs ≡ w.collection ++ map frame_of (take k (list_in fs))
  front =
      let n : before_list fs + k ≡ length w.collection + k = omega (arith, long) in
      ap (λ i. take i fs) n ∙ ap (take (length w.collection + k)) w.are
      ∙ take-append-add w.collection (map frame_of (list_in fs)) k
      ∙ ap (λ (gs : List Frame). w.collection ++ gs) (take-map frame_of k (list_in fs))

  cut-begun : w.collection ≢ [] → cut k (file_of fs) ≡ file_of (take (before_list fs + k) fs)
  cut-begun n =
      let l = list_in fs in
      let none : entries listed w.collection ≡ 0 = list-counted w.collection ∙ ap (λ (l : List Entry). length l) w.no_list in
      let a = ap file_of w.are ∙ entries-held w.collection l n in
      let b = ap file_of front ∙ entries-held w.collection (take k l) n in
      let i : length w.collection + length l - (entries listed w.collection + length l - k) ≡ length w.collection + length (take k l) =
      omega (arith, none, length-take k l) in
      let j : entries listed w.collection + length l - (entries listed w.collection + length l - k) ≡ entries listed w.collection + length (take k l) =
      omega (arith, none, length-take k l) in
      ap (cut k) a ∙ ap₂ (λ m o. record (file_of w.collection) { lines = m; listed = o }) i j ∙ sym b

  cut-held : cut k (file_of fs) ≡ file_of (take (before_list fs + k) fs)
  cut-held = by w.collection refl
    where
      same : (gs : List Frame) → w.collection ≡ gs → gs ≢ [] → cut k (file_of fs) ≡ file_of (take (before_list fs + k) fs)
      same gs e n = cut-begun (λ i. n (sym e ∙ i))

      none-at-all : (l : List Entry) → fs ≡ map frame_of l → cut k (file_of fs) ≡ file_of (take (before_list fs + k) fs)
      none-at-all [] e = subst (λ gs. cut k (file_of gs) ≡ file_of (take (before_list gs + k) gs)) (sym e) (nothing k)
      none-at-all (x ∷ l) e = absurd (not-first fs t x (map frame_of l) e)

      by : (gs : List Frame) → w.collection ≡ gs → cut k (file_of fs) ≡ file_of (take (before_list fs + k) fs)
      by [] e = none-at-all (list_in fs) (w.are ∙ ap (λ (gs : List Frame). gs ++ map frame_of (list_in fs)) e)
      by (g ∷ gs) e = same (g ∷ gs) e (λ i. cc)

-- THEOREM: so cut a list has so many entries, or as many as it had where these were fewer
pub cuts-list : (k : ℕ) (old : File) → CutsList k old (cut k old)
cuts-list k old = record { by = λ fs t e. ap (cut k) e ∙ cut-held k fs t (list-last fs t) }
