-- Walks by the list of the closed sheet are those by loops, over any rules' kind with numbers.
use Rattle.std.specs.Prelude.{◌↔◌, ◌⊎◌, List}
use Rattle.std.proofs.Common.{inl, inr}
use Rattle.laws.specs.Member.{◌∈◌}
use Rattle.theory.specs.Run.{Run, stop, go}
use Rattle.theory.specs.Tree.{Loop, Stride}
use Rattle.theory.specs.Tree as tree
use Rattle.theory.specs.LawsOfMarks.{Countable}
use Rattle.theory.specs.Listing.{Numbered, Entry, Listing, Lists}
use Rattle.theory.specs.Listed.{ListStride, along, by, ListsOut}
use Rattle.theory.specs.Onward.{Onward, ends, around, deeper, LeadsOn, WalksOut}
use Rattle.theory.proofs.SheetLaws.{mark-markable, mark→loop, loop→mark}
use Rattle.theory.proofs.Tests.{rounds-bound}
use Rattle.theory.proofs.Onward.{onward-of}
use Rattle.theory.proofs.ListingLaws.{listed-closed}

module _ (𝓝 : Numbered) (c : Countable (𝓝.kind)) (list : List (Entry 𝓝)) (l : Listing 𝓝 list) where
  open 𝓝 use {kind}

  lists→loop : (s t : kind.State) (B : kind.Concept) → Lists 𝓝 list s t B → Loop kind B s t
  lists→loop s t B w = let f = (l.are w.0 s t B).0 w.1 in mark→loop kind w.0 s t B f.stands

  loop→lists : (s t : kind.State) (B : kind.Concept) → s ∈ kind.states → B ∈ kind.concepts → Loop kind B s t
      → Lists 𝓝 list s t B × (t ∈ kind.states)
  loop→lists s t B m b h =
      let r = rounds-bound kind c.tests c.decide c.sane in
      let k = loop→mark kind c.sane r.0 r.2.holds h b m in
      ((listed-closed 𝓝 list l c r.0 r.2 s t B).0 k, (mark-markable kind r.0 s t B k).to)

  module _ {I : Type 0} (has : I → kind.Concept → Type 0) (near : I → kind.State → I → kind.State → Type 0)
      (valid : (a : I) (B : kind.Concept) → has a B → B ∈ kind.concepts)
      (declared : (a b : I) (s t : kind.State) → near a s b t → t ∈ kind.states) where
    walk→list : {a b : I} {s t : kind.State} → Run (Stride kind has near) a s b t → s ∈ kind.states
        → Run (ListStride 𝓝 list has near) a s b t × (t ∈ kind.states)
    walk→list stop m = (stop, m)
    walk→list (go (tree.along {a = a} {b = b} {s = s} {t = t} h) w) m =
        let r = walk→list w (declared a b s t h) in
        (go (along h) r.0, r.1)
    walk→list (go (tree.by {a = a} {s = s} {t = t} B h k) w) m =
        let p = loop→lists s t B m (valid a B h) k in
        let r = walk→list w p.1 in
        (go (by B h p.0) r.0, r.1)

    list→walk : {a b : I} {s t : kind.State} → Run (ListStride 𝓝 list has near) a s b t → Run (Stride kind has near) a s b t
    list→walk stop = stop
    list→walk (go (along h) w) = go (tree.along h) (list→walk w)
    list→walk (go (by {s = s} {t = t} B h k) w) = go (tree.by B h (lists→loop s t B k)) (list→walk w)

    -- THEOREM: a walk by loops leads where one by the list does
    pub walk↔list : (a b : I) (s t : kind.State) → s ∈ kind.states
        → Run (Stride kind has near) a s b t ↔ Run (ListStride 𝓝 list has near) a s b t
    walk↔list a b s t m = (λ w. let r = walk→list w m in r.0, list→walk)

    onward→list : {final : kind.State → Type 0} {s : kind.State} {B : kind.Concept}
        → LeadsOn kind final s B → s ∈ kind.states → B ∈ kind.concepts → Onward kind (Lists 𝓝 list) final s B
    onward→list (ends h) m b = ends h
    onward→list (around {s = s} {t = t} {B = B} k w) m b = let p = loop→lists s t B m b k in around p.0 (onward→list w p.1 b)
    onward→list (deeper {s = s} {t = t} {B = B} {R = R} k d w) m b =
        deeper k d (onward→list w (c.sane.down-in R s t d) (c.sane.end-in B R b k))

    -- THEOREM: and it leads out where one by the list does
    pub out↔list : (final : kind.State → Type 0) (a : I) (s : kind.State) → s ∈ kind.states
        → WalksOut kind has near final a s ↔ ListsOut 𝓝 list has near final a s
    out↔list final a s m = (to, from)
      where
        to : WalksOut kind has near final a s → ListsOut 𝓝 list has near final a s
        to w = record { to = w.to; last = w.last; walk = r.0; out = side w.out }
          where
            r : Run (ListStride 𝓝 list has near) a s w.to w.last × (w.last ∈ kind.states)
            r = walk→list w.walk m

            side : final w.last ⊎ ((B : kind.Concept) × has w.to B × LeadsOn kind final w.last B)
                → final w.last ⊎ ((B : kind.Concept) × has w.to B × Onward kind (Lists 𝓝 list) final w.last B)
            side (inl h) = inl h
            side (inr h) = inr (h.0, h.1, onward→list h.2 r.1 (valid w.to h.0 h.1))

        from : ListsOut 𝓝 list has near final a s → WalksOut kind has near final a s
        from w = record { to = w.to; last = w.last; walk = list→walk w.walk; out = side w.out }
          where
            side : final w.last ⊎ ((B : kind.Concept) × has w.to B × Onward kind (Lists 𝓝 list) final w.last B)
                → final w.last ⊎ ((B : kind.Concept) × has w.to B × LeadsOn kind final w.last B)
            side (inl h) = inl h
            side (inr h) = inr (h.0, h.1, onward-of kind lists→loop (λ s h. h) h.2)
