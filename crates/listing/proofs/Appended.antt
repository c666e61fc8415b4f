-- Frames that were read whole, with the list of their collection behind them: they are sound together, and the list is accepted.
use Rattle.std.specs.Prelude.{◌+◌, ◌≤◌, ◌≡◌, ◌≢◌, refl, ◌⊎◌, length}
use Rattle.std.proofs.Common.{sym, ap, ap₂, ◌∙◌, subst, inl, inr, append_assoc, append-nil, arith}
use mathlib.Core.List.Memᴰ
use mathlib.Core.List.{List, [], ◌∷◌, ◌++◌, map}
use Rattle.laws.specs.Member.{◌∈◌, map-out}
use Rattle.kinds.specs.declared.Counts.{Counts}
use Rattle.meaning.specs.Collection.{Collection, WellFormed}
use Rattle.meaning.specs.Lent.{collection}
use Rattle.expression.specs.Listed.{Listed}
use Rattle.frames.specs.Written.{FitsLine}
use Rattle.frames.specs.declared.Frame.{Frame}
use Rattle.reading.specs.declared.File.{File}
use Rattle.reading.specs.Tables.{Entry, frame_of, listed, most_listed, entries, list_in, declared_by}
use Rattle.reading.specs.File.{IsQuestion, IsQuestionOf, lent_tables}
use Rattle.reading.specs.Judged.{NumbersOk}
use Rattle.reading.specs.Reading.{Taken, more}
use Rattle.reading.proofs.Kept.{declared-later}
use Rattle.reading.proofs.ListEnds.{entry-taken}
use Rattle.reading.proofs.ListLaws.{list-append, list-counted}
use Rattle.reading.proofs.TableLaws.{entries-more}
use Rattle.intake.specs.Verdicts.{collection_read, IsListing, Accepted, no-list, accepted, listing}
use Rattle.intake.proofs.VerdictLaws.{well-formed}
use Rattle.shell.specs.Writes.{IsSound}
use Rattle.fair_copy.specs.Copy.{frames_text}
use Rattle.fair_copy.proofs.Stands.{AreWhole}
use Rattle.fair_copy.proofs.Fits.{AllFit}
use Rattle.fair_copy.proofs.Orderly.{text-read}
use Rattle.file.proofs.LeftOut.{held-with}
use Rattle.listing.specs.Lists.{IsListOf, no-sheet, of-sheet}
use Rattle.listing.proofs.There.{list-few, list-fits, entry-lined}

-- the list of its entries' frames is that list
entries-listed : (list : List Entry) → list_in (map frame_of list) ≡ list
unfolding list_in
entries-listed [] = refl
entries-listed (e ∷ list) = ap (λ (l : List Entry). e ∷ l) (entries-listed list)

-- the entries of a list are taken one after the other behind frames that were taken, where all are declared and there is room for them
AllDeclared : Counts → List Entry → Type 0
AllDeclared c list = (e : Entry) → e ∈ list → NumbersOk c (frame_of e)

not-none : (before : List Frame) (f : Frame) → (before ++ f ∷ []) ≢ []
not-none [] f e = cc
not-none (g ∷ before) f e = cc

taken-on : (before : List Frame) (list : List Entry) → Taken before → before ≢ [] → AllDeclared (declared_by before) list
    → entries listed before + length list ≤ most_listed → Taken (before ++ map frame_of list)
unfolding AllDeclared
taken-on before [] t begun all room = rw append-nil t
taken-on before (e ∷ list) t begun all room =
    let f = frame_of e in
    let one : entries listed (before ++ f ∷ []) ≡ entries listed before + 1 = entries-more listed before f in
    let next = more before f t (entry-taken before e begun (omega (arith, room)) (all e (Memᴰ.head refl))) in
    let same = declared-later before f begun in
    subst Taken (append_assoc before (f ∷ []) (map frame_of list))
    (taken-on (before ++ f ∷ []) list next (not-none before f) (λ d m. rw same (all d (Memᴰ.tail m))) (omega (arith, room, one)))

module _ (gs : List Frame) (q : Listed) (w : AreWhole gs q) (unlisted : list_in gs ≡ []) (list : List Entry)
    (is : IsListOf (collection_read gs q) list) where
  abbrev pub with_list : List Frame
  with_list = gs ++ map frame_of list

  ok : WellFormed (collection_read gs q)
  ok = well-formed gs w.are.taken w.are.begun q w.are.asks

  all-declared : AllDeclared (declared_by gs) list
  unfolding AllDeclared
  all-declared e m = let v = (list-fits (collection_read gs q) ok is e m).valid in (v.from, v.to, v.of)

  none-yet : entries listed gs ≡ 0
  none-yet = list-counted gs ∙ ap (λ (l : List Entry). length l) unlisted

  pub with-taken : Taken with_list
  with-taken = taken-on gs list w.are.taken w.are.begun all-declared (omega (arith, none-yet, list-few (collection_read gs q) ok is))

  with-fits : AllFit with_list
  with-fits f m = side (Memᴰ.append_cases gs m)
    where
      side : (f ∈ gs) ⊎ (f ∈ map frame_of list) → FitsLine f
      side (inl i) = w.lined f i
      side (inr i) = let x = map-out frame_of list i in rw x.2 (entry-lined (collection_read gs q) ok is x.0 x.1)

  with-begun : with_list ≢ []
  with-begun e = w.are.begun (nothing gs e)
    where
      nothing : (fs : List Frame) → fs ++ map frame_of list ≡ [] → fs ≡ []
      nothing [] e = refl
      nothing (f ∷ fs) e = cc

  -- they are the same collection
  pub with-asks : IsQuestionOf with_list q
  with-asks = subst (λ (f : File). IsQuestion f q) (sym (held-with gs w.are.begun list)) w.are.asks

  pub with-read : collection_read with_list q ≡ collection_read gs q
  with-read = ap (λ (f : File). collection f.counts (lent_tables f q)) (held-with gs w.are.begun list)

  pub with-whole : AreWhole with_list q
  with-whole = record { are = record { taken = with-taken; begun = with-begun; asks = with-asks }; lined = with-fits }

  -- with this list
  pub with-listed : list_in with_list ≡ list
  with-listed = list-append gs (map frame_of list) ∙ ap₂ (λ (x y : List Entry). x ++ y) unlisted (entries-listed list)

  with-accepted : Accepted with_list
  with-accepted = by is refl
    where
      by : {l : List Entry} → IsListOf (collection_read gs q) l → l ≡ list → Accepted with_list
      by (no-sheet c) e = no-list (with-listed ∙ sym e)
      by (of-sheet {list = l} sane h) e =
          listing q with-asks
          (subst (λ (c : Collection). IsListing c (list_in with_list)) (sym with-read)
          (subst (IsListing (collection_read gs q)) (e ∙ sym with-listed) h))

  -- THEOREM: so that their text is sound
  pub with-sound : IsSound (frames_text with_list) with_list
  with-sound = accepted with_list (text-read with_list with-taken with-begun with-fits) with-accepted
