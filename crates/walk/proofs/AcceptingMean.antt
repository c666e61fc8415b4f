-- What accepting states mean: by the rows of a collection, with its closed sheet, they are its accepting states.
use Rattle.std.specs.Prelude.{◌≡◌, ◌↔◌, ◌⊎◌, ℕ, ◌+◌, ◌<◌, List}
use Rattle.std.proofs.Common.{refl, inl, inr, arith}
use Rattle.kinds.specs.declared.State.{State}
use Rattle.kinds.specs.declared.SignedRole.{SignedRole}
use Rattle.kinds.specs.declared.Concept.{Concept}
use Rattle.kinds.specs.declared.Concept.TheVariants.{Exists}
use Rattle.kinds.specs.declared.Counts.{Counts}
use Rattle.kinds.specs.Kinds.{most_individuals, most_states, most_roles, base, flip, flip-below, inverse, inverse-declared, individual}
use Rattle.kinds.specs.Kinds.{signed, state, number_of, concept_of, number-concept, concept-number, role-concept, CountsFit, SignedDeclared}
use Rattle.kinds.specs.Kinds.{StateDeclared, ConceptDeclared}
use Rattle.laws.specs.Member.{◌∈◌}
use Rattle.meaning.specs.Collection.{NumbersDeclared, Collection, step, role}
use Rattle.meaning.specs.Lent.{Tables, collection}
use Rattle.meaning.specs.Lite.{lite, declared_states}
use Rattle.theory.specs.Onward as meaning
use Rattle.theory.specs.Onward.{ends, around, deeper}
use Rattle.theory.specs.Sheet.{Needed}
use Rattle.theory.proofs.SheetLaws.{mark-markable, mark→loop, loop→mark}
use Rattle.meaning.proofs.Clash.{typed-valid}
use Rattle.meaning.proofs.Declared.{state-in, state-out, concept-in, concept-out, concept-declared, role-above-declared}
use Rattle.meaning.proofs.Declared.{concept-above-declared, role-step-to, lite-sane}
use Rattle.sets.specs.Bits.{Has, concept_width, role_width}
use Rattle.sets.specs.declared.concepts.ConceptSet.{ConceptSet}
use Rattle.walk.specs.declared.coreachable.PathsBelow.{PathsBelow}
use Rattle.sets.specs.Relations.{concepts_at}
use Rattle.walk.specs.CoReachable.{LeadsOn}
use Rattle.walk.specs.Meant.{ConceptsOf, SheetOf, TransitionsOf, BelowOf, AcceptsIn, AcceptingMeans}
use Rattle.walk.proofs.Mean.{number_low, finals-mean}

module _ (c : Counts) (t : Tables) (fit : CountsFit c) (ok : NumbersDeclared (collection c t)) where
  abbrev 𝓒 : Collection
  𝓒 = collection c t

  abbrev Final : State → Type 0
  Final s = s ∈ 𝓒.finals

  -- the child of a signed role, by its number
  child_is : (R : ℕ) → concept_of (base + flip R) ≡ Exists (inverse (signed R))
  unfolding inverse
  child_is R = role-concept (flip R)

  child_number : (R : SignedRole) → number_of (Exists (inverse R)) ≡ base + flip R.0
  unfolding inverse number_of
  child_number R = refl

  module _ (n : ℕ) (needed : Needed (lite 𝓒) n) (paths : PathsBelow) (below : BelowOf 𝓒 paths.below.now)
      (transitions : TransitionsOf 𝓒 paths.transitions.now) (sheet : SheetOf 𝓒 n paths.sheet.now)
      (finals : (u : State) → Has paths.finals.0 u.0 ↔ (u ∈ 𝓒.finals)) where
    -- by the tables: at once, or with a declared concept
    abbrev On : ℕ → ℕ → Type 0
    On s B = Final (state s) ⊎ (ConceptDeclared c (concept_of B) × meaning.LeadsOn (lite 𝓒) Final (state s) (concept_of B))

    on : (s B : ℕ) → On s B → meaning.LeadsOn (lite 𝓒) Final (state s) (concept_of B)
    on s B (inl f) = ends f
    on s B (inr w) = w.1

    to_on : {s B : ℕ} → LeadsOn paths s B → B < concept_width → On s B
    to_on {s} (ends f) h = inl ((finals (state s)).0 f)
    to_on {s} {B} (around {t = u} m w) h =
        let k = (sheet.at s u B m.from m.to h).0 m.has in
        let d = concept-out c (concept_of B) (mark-markable (lite 𝓒) n (state s) (state u) (concept_of B) k).of in
        inr (d, around (mark→loop (lite 𝓒) n (state s) (state u) (concept_of B) k) (on u B (to_on w h)))
    to_on {s} {B} (deeper {t = u} {R = R} k d w) h =
        let l = (below R B k.role h).0 k.has in
        let f = flip-below R most_roles k.role in
        let j = (transitions R s u k.role).0 d.leads in
        let r = role-above-declared 𝓒 ok j.2 (ok.steps (step (state s) (role j.0) (state u)) j.1).1 in
        let x : meaning.LeadsOn (lite 𝓒) Final (state u) (concept_of (base + flip R)) = on u (base + flip R) (to_on w (omega arith)) in
        inr (concept-above-declared 𝓒 ok l r, deeper l j (rw (child_is R) at x))

    from_on : {s : State} {B : Concept} → meaning.LeadsOn (lite 𝓒) Final s B → s ∈ declared_states c → ConceptDeclared c B
        → LeadsOn paths s.0 (number_of B)
    from_on {s} (ends f) i d = ends ((finals s).1 f)
    from_on {s} {B} (around {t = u} l w) i d =
        let m = loop→mark (lite 𝓒) (lite-sane 𝓒 ok) n needed.holds l (concept-in c B d) i in
        let j = (mark-markable (lite 𝓒) n s u B m).to in
        let g = fit.states in
        let hs : s.0 < most_states = omega (arith, state-out c s i) in
        let hu : u.0 < most_states = omega (arith, state-out c u j) in
        let low = number_low c t fit ok B d in
        let e = concept-number c fit.names B d in
        around (record { from = hs; to = hu; has = (sheet.at s.0 u.0 (number_of B) hs hu low).1 (rw e m) }) (from_on w j d)
    from_on {s} {B} (deeper {t = u} {R = R} k j w) i d =
        let r : SignedDeclared c R = concept-declared 𝓒 ok k d in
        let f = fit.roles in
        let hr : R.0 < role_width = omega (arith, r) in
        let low = number_low c t fit ok B d in
        let e = concept-number c fit.names B d in
        let o = role-step-to 𝓒 ok s j.0 u j.1 in
        let g = fit.states in
        let hs : s.0 < most_states = omega (arith, state-out c s i) in
        let hu : u.0 < most_states = omega (arith, state-out c u o) in
        let v : LeadsOn paths u.0 (number_of (Exists (inverse R))) = from_on w o (inverse-declared c R r) in
        deeper (record { role = hr; has = (below R.0 (number_of B) hr low).1 (rw e k) })
        (record { from = hs; to = hu; leads = (transitions R.0 s.0 u.0 hr).1 j }) (rw (child_number R) at v)

    module _ (individuals : List ConceptSet) (have : ConceptsOf 𝓒 individuals) where
      accepts_to : (a s : ℕ) → a < most_individuals
          → Has paths.finals.0 s ⊎ ((B : ℕ) × (B < concept_width) × Has (concepts_at individuals a) B × LeadsOn paths s B)
          → AcceptsIn 𝓒 (individual a) (state s)
      accepts_to a s h (inl f) = inl ((finals (state s)).0 f)
      accepts_to a s h (inr w) = by (to_on w.3 w.1)
        where
          by : On s w.0 → AcceptsIn 𝓒 (individual a) (state s)
          by (inl f) = inl f
          by (inr v) =
              let p = w.2 in
              inr (concept_of w.0, (have.at a (concept_of w.0) h v.0).0 (rw (number-concept w.0) p), v.1)

      accepts_from : (a s : ℕ) → a < most_individuals → StateDeclared c (state s) → AcceptsIn 𝓒 (individual a) (state s)
          → Has paths.finals.0 s ⊎ ((B : ℕ) × (B < concept_width) × Has (concepts_at individuals a) B × LeadsOn paths s B)
      accepts_from a s h i (inl f) = inl ((finals (state s)).1 f)
      accepts_from a s h i (inr w) =
          let B = w.0 in
          let d = concept-declared 𝓒 ok w.1.2 (typed-valid 𝓒 ok w.1.1) in
          inr (number_of B, number_low c t fit ok B d, (have.at a B h d).1 w.1, from_on w.2 (state-in c (state s) i) d)

  -- THEOREM: accepting states made from the rows of a collection, with its closed sheet, are those of the collection
  pub accepting-mean : AcceptingMeans c t
  accepting-mean n needed individuals have paths below transitions sheet f accepting x =
      let finals = finals-mean c t fit ok paths.finals.0 f in
      record {
        to = λ a s h p. accepts_to n needed paths below transitions sheet finals individuals have a s h ((x.at a s h).0 p).out;
        from = λ a s h i e.
            let g = fit.states in
            let low : s < most_states = omega (arith, i) in
            (x.at a s h).1 (record {
              state = low;
              out = accepts_from n needed paths below transitions sheet finals individuals have a s h i e;
            });
      }
