-- What may be marked, by the numbers of the rows.
use Rattle.std.specs.Prelude.{ℕ, ◌<◌}
use Rattle.kinds.specs.Kinds.{most_states}
use Rattle.theory.specs.Kind.{Kind}
use Rattle.theory.specs.Sheet.{Markable}
use Rattle.rules.specs.declared.rows.Rows.{Rows}
use Rattle.rules.specs.Rows.{most_concepts, kind_of, May}
use Rattle.rules.proofs.Members.{member_in, member_out}

module _ (rows : Rows) where
  abbrev K : Kind
  K = kind_of rows

  pub record Low (s t B : ℕ) : Type 0 where
    pub from : s < most_states
    pub to : t < most_states
    pub of : B < most_concepts

  pub low_of : (s t B : ℕ) → Markable K s t B → Low s t B
  low_of s t B m = record {
    from = (member_out most_states rows.states.0 s m.from).0;
    to =
        (member_out most_states rows.states.0 t m.to).0;
    of = (member_out most_concepts rows.concepts.0 B m.of).0;
  }

  pub may_of : (s t B : ℕ) → Markable K s t B → May rows s t B
  may_of s t B m =
      let a = member_out most_states rows.states.0 s m.from in
      let b = member_out most_states rows.states.0 t m.to in
      record { from_low = a.0; to_low = b.0; from = a.1; to = b.1; of = (member_out most_concepts rows.concepts.0 B m.of).1 }

  pub of_may : (s t B : ℕ) → B < most_concepts → May rows s t B → Markable K s t B
  of_may s t B h m = record {
    from = member_in most_states rows.states.0 s m.from_low m.from;
    to = member_in most_states rows.states.0 t m.to_low m.to;
    of = member_in most_concepts rows.concepts.0 B h m.of;
  }
