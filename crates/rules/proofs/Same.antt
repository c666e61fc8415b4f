-- Rows that say what a collection says have its marks, round by round.
use Rattle.std.specs.Prelude.{◌≡◌, refl, ◌↔◌, ℕ, zero, suc, ◌+◌}
use Rattle.std.proofs.Common.{ap, ◌∙◌, arith}
use Rattle.kinds.specs.declared.State.{State}
use Rattle.kinds.specs.declared.SignedRole.{SignedRole}
use Rattle.kinds.specs.declared.Concept.TheVariants.{Exists}
use Rattle.kinds.specs.Kinds.{base, flip, inverse, state, signed, concept_of, role-concept}
use Rattle.meaning.specs.Collection.{Collection}
use Rattle.theory.specs.Kind.{Kind}
use Rattle.meaning.specs.Lite.{lite}
use Rattle.theory.specs.Sheet.{Markable, Round, kept, tested, joined, hung, Mark}
use Rattle.theory.proofs.SheetLaws.{mark-markable}
use Rattle.rules.specs.declared.rows.Rows.{Rows}
use Rattle.rules.specs.Rows.{kind_of}
use Rattle.rules.specs.RowsOf.{RowsOf}
use Rattle.rules.proofs.Able.{low_of}

-- the concept by which the child of a signed role is known
child_is : (R : SignedRole) → concept_of (base + flip R.0) ≡ Exists (inverse R)
unfolding inverse
child_is R = role-concept (flip R.0)

back : (R : SignedRole) → signed (flip R.0) ≡ inverse R
unfolding inverse
back R = refl

module _ (𝓒 : Collection) (rows : Rows) (r : RowsOf 𝓒 rows) where
  abbrev K : Kind
  K = kind_of rows

  abbrev L : Kind
  L = lite 𝓒

  able_to : (s t B : ℕ) → Markable K s t B → Markable L (state s) (state t) (concept_of B)
  able_to s t B m = record { from = (r.states s).0 m.from; to = (r.states t).0 m.to; of = (r.concepts B).0 m.of }

  able_from : (s t B : ℕ) → Markable L (state s) (state t) (concept_of B) → Markable K s t B
  able_from s t B m = record { from = (r.states s).1 m.from; to = (r.states t).1 m.to; of = (r.concepts B).1 m.of }

  round_to : (n : ℕ) → ((s t B : ℕ) → Mark K n s t B → Mark L n (state s) (state t) (concept_of B)) → (s t B : ℕ) → Markable K s t B
      → Round K (Mark K n) s t B → Round L (Mark L n) (state s) (state t) (concept_of B)
  round_to n each s t B m (kept k) = kept (each s t B k)
  round_to n each s t B m (tested e) = let l = low_of rows s t B m in tested ((r.tests s t B l.from l.to l.of).0 e)
  round_to n each s t B m (joined {u = u} x y) = joined (each s u B x) (each u t B y)
  round_to n each s t B m (hung {R = link} {u = x} {v = y} c d k u) =
      let l = low_of rows s t B m in
      let i = low_of rows x y (base + link.to) (mark-markable K n x y (base + link.to) k) in
      let w = (r.edges_to link.to link.by (omega (arith, i.of))).0 c.listed in
      let e : concept_of (base + link.to) ≡ Exists (inverse (signed link.by)) = role-concept link.to ∙ ap Exists w.1 in
      let g = r.edges link.by w.0 in
      let a = each x y (base + link.to) k in
      hung {R = signed link.by} {u = state x} {v = state y} ((g.parents B l.of).0 c.has) ((g.down s x l.from i.from).0 d) (rw e at a)
      ((g.up y t i.to l.to).0 u)

  round_from : (n : ℕ) → ((s t B : ℕ) → Mark L n (state s) (state t) (concept_of B) → Mark K n s t B) → (s t B : ℕ) → Markable K s t B
      → Round L (Mark L n) (state s) (state t) (concept_of B) → Round K (Mark K n) s t B
  round_from n each s t B m (kept k) = kept (each s t B k)
  round_from n each s t B m (tested e) = let l = low_of rows s t B m in tested ((r.tests s t B l.from l.to l.of).1 e)
  round_from n each s t B m (joined {u = u} x y) = joined (each s u.0 B x) (each u.0 t B y)
  round_from n each s t B m (hung {R = R} {u = x} {v = y} c d k u) =
      let l = low_of rows s t B m in
      let h = r.low R (mark-markable L n x y (Exists (inverse R)) k).of in
      let g = r.edges R.0 h in
      let e = child_is R in
      let a = each x.0 y.0 (base + flip R.0) (rw (← e) at k) in
      let i = low_of rows x.0 y.0 (base + flip R.0) (mark-markable K n x.0 y.0 (base + flip R.0) a) in
      hung {R = record { to = flip R.0; by = R.0 }} {u = x.0} {v = y.0}
      (record { listed = (r.edges_to (flip R.0) R.0 (omega (arith, h))).1 (h, back R); has = (g.parents B l.of).1 c })
      ((g.down s x.0 l.from i.from).1 d) a ((g.up y.0 t i.to l.to).1 u)

  pub mark_to : (n : ℕ) (s t B : ℕ) → Mark K n s t B → Mark L n (state s) (state t) (concept_of B)
  mark_to zero s t B m = (able_to s t B m.0, ap state m.1)
  mark_to (suc n) s t B m = (able_to s t B m.0, round_to n (mark_to n) s t B m.0 m.1)

  pub mark_from : (n : ℕ) (s t B : ℕ) → Mark L n (state s) (state t) (concept_of B) → Mark K n s t B
  mark_from zero s t B m = (able_from s t B m.0, ap (λ (x : State). x.0) m.1)
  mark_from (suc n) s t B m = (able_from s t B m.0, round_from n (mark_from n) s t B (able_from s t B m.0) m.1)

  -- THEOREM: round by round the two have the same marks
  pub same_marks : (n : ℕ) (s t B : ℕ) → Mark K n s t B ↔ Mark L n (state s) (state t) (concept_of B)
  same_marks n s t B = (mark_to n s t B, mark_from n s t B)
