-- Firsts that are sent to the states of a set, along edges, and by all strides from a node.
use Rattle.std.specs.Prelude.{◌≡◌, refl, ◌⊎◌, ◌↔◌, List, [], ◌∷◌, ◌++◌, ℕ, ◌<◌, Contains}
use Rattle.std.proofs.Common.{inl, inr, ⊎_elim, arith}
use Rattle.std.proofs.lemmas.List.Elements.{Contains-append_left, Contains-push, Contains-push_cases}
use Rattle.std.proofs.Math.Decide.{ℕ_discrete}
use Rattle.std.specs.Int.{bit_at}
use Rattle.kinds.specs.Kinds.{most_individuals, most_states}
use Rattle.sets.specs.Bits.{Has, IsMinus, IsEmpty, TakesFirst}
use Rattle.edges.specs.declared.FactEdge.{FactEdge}
use Rattle.edges.proofs.EdgeLaws.{edge-role}
use Rattle.walk.specs.declared.multi.MultiWalk.{MultiWalk}
use Rattle.walk.specs.declared.strides.Strides.{Strides}
use Rattle.sets.specs.Relations.{states_at, relation_at}
use Rattle.walk.specs.Strides.{along, loop}
use Rattle.walk.specs.Sources.{Marked}
use Rattle.walk.specs.Walks.{EdgeOf, StrideBy}
use Rattle.walk.specs.MultiWalks.{Within, Ready, Grown, At, InStates, ByEdge, ByEdges, ByStrides}
use Rattle.walk.proofs.MarkLaws.{grown_none, grown_then, grown_same}

-- of the states of all that are not full those in rest are still to come
pub record Past (b all full rest sources k y u : ℕ) : Type 0 where
  pub sent : InStates b all sources k y u
  pub fresh : Has full u → ⊥
  pub past : Has rest u → ⊥

pub record Sending (b all full rest sources : ℕ) (old now : MultiWalk) : Type 0 where
  pub part : (s : ℕ) → Has rest s → Has all s × (Has full s → ⊥)
  pub grown : Grown (Past b all full rest sources) old now

module _ (b all full sources : ℕ) where
  pub sending_none : (rest : ℕ) (w : MultiWalk) → Ready w → IsMinus all full rest → Sending b all full rest sources w w
  sending_none rest w r minus =
      record {
        part = λ s p. (minus.member s).0 p;
        grown = grown_none w r (λ k y u p. absurd (p.past ((minus.member u).1 (p.sent.in_set, p.fresh))));
      }

  pub sending_more : (w t rest after : ℕ) (old now new : MultiWalk) → Sending b all full rest sources old now → TakesFirst w rest t after
      → Grown (At b t sources) now new
      → Sending b all full after sources old new
  sending_more w t rest after old now new g first n =
      record { part = λ s p. g.part s ((first.rest.member s).0 p).0; grown = grown_then g.grown n to from }
    where
      to : (k y u : ℕ) → Past b all full rest sources k y u ⊎ At b t sources k y u → Past b all full after sources k y u
      to k y u (inl p) = record { sent = p.sent; fresh = p.fresh; past = λ q. p.past ((first.rest.member u).0 q).0 }
      to k y u (inr p) =
          let e = p.state in
          let q = g.part t first.member in
          record {
            sent = record { there = p.there; low = p.low; in_set = rw e q.0; first = p.first };
            fresh = λ f. q.1 (rw e at f);
            past = λ f. ((first.rest.member u).0 f).1 e;
          }

      from : (k y u : ℕ) → Past b all full after sources k y u → Past b all full rest sources k y u ⊎ At b t sources k y u
      from k y u p = side (ℕ_discrete u t)
        where
          side : Dec (u ≡ t) → Past b all full rest sources k y u ⊎ At b t sources k y u
          side (yes e) = inr (record { there = p.sent.there; state = e; low = p.sent.low; first = p.sent.first })
          side (no ne) = inl (record { sent = p.sent; fresh = p.fresh; past = λ q. p.past ((first.rest.member u).1 (q, ne)) })

-- nothing is new where all firsts are
pub sending_end : (b all sources rest : ℕ) (old new : MultiWalk) → Ready old → Within sources old.all
    → Sending b all (states_at old.full b) rest sources old new → IsEmpty rest
    → Grown (InStates b all sources) old new
sending_end b all sources rest old new r within g none = grown_same (λ k y u p. p.sent) from g.grown
  where
    from : (k y u : ℕ) → InStates b all sources k y u → Past b all (states_at old.full b) rest sources k y u ⊎ Marked old.words k y u
    from k y u p = side (ℕ_discrete (bit_at (states_at old.full b) u) 1)
      where
        side : Dec (bit_at (states_at old.full b) u ≡ 1) → Past b all (states_at old.full b) rest sources k y u ⊎ Marked old.words k y u
        side (yes f) = let e = p.there in inr (rw e (r.full k b u f (within k p.first)))
        side (no f) = inl (record { sent = p; fresh = f; past = none u })

-- edges that were given, one after another
module _ (s : Strides) (t sources : ℕ) where
  pub edges_none : (w : MultiWalk) → Ready w → Grown (ByEdges s (Contains []) t sources) w w
  edges_none w r = grown_none w r (λ k y u p. absurd (let m = p.among.1 in omega arith))

  pub edges_more : (given : List FactEdge) (edge : FactEdge) (old now new : MultiWalk)
      → Grown (ByEdges s (Contains given) t sources) old now → Grown (ByEdge s edge t sources) now new
      → Grown (ByEdges s (Contains (given ++ edge ∷ [])) t sources) old new
  edges_more given edge old now new w n = grown_then w n to from
    where
      to : (k y u : ℕ) → ByEdges s (Contains given) t sources k y u ⊎ ByEdge s edge t sources k y u
          → ByEdges s (Contains (given ++ edge ∷ [])) t sources k y u
      to k y u (inl p) =
          let m = Contains-append_left given (edge ∷ []) p.edge p.among in
          record { edge = p.edge; among = m; there = p.there; low = p.low; to = p.to; first = p.first }
      to k y u (inr p) =
          record { edge = edge; among = Contains-push given edge; there = p.there; low = p.low; to = p.in_set; first = p.first }

      from : (k y u : ℕ) → ByEdges s (Contains (given ++ edge ∷ [])) t sources k y u
          → ByEdges s (Contains given) t sources k y u ⊎ ByEdge s edge t sources k y u
      from k y u p =
          ⊎_elim (λ m. inl (record { edge = p.edge; among = m; there = p.there; low = p.low; to = p.to; first = p.first }))
          (λ e. inr (rw e (record { there = p.there; low = p.low; in_set = p.to; first = p.first })))
          (Contains-push_cases given edge p.edge p.among)

  -- loops at an individual and its edges are all strides from the node
  module _ (a : ℕ) (given : List FactEdge) (all : (edge : FactEdge) → Contains given edge ↔ EdgeOf s a edge) where
    pub edges_all : (old new : MultiWalk) → Grown (ByEdges s (Contains given) t sources) old new
        → Grown (ByEdges s (EdgeOf s a) t sources) old new
    edges_all old new w = grown_same (λ k y u p. name p (λ e. (all e).0)) (λ k y u p. inl (name p (λ e. (all e).1))) w
      where
        name : {E F : FactEdge → Type 0} {k y u : ℕ} → ByEdges s E t sources k y u → ((e : FactEdge) → E e → F e)
            → ByEdges s F t sources k y u
        name p f = record { edge = p.edge; among = f p.edge p.among; there = p.there; low = p.low; to = p.to; first = p.first }

  pub strides_all : (a : ℕ) (old now new : MultiWalk) → a < most_individuals
      → Grown (InStates a (states_at (relation_at s.loops.now.rows a) t) sources) old now
      → Grown (ByEdges s (EdgeOf s a) t sources) now new → Grown (ByStrides s a t sources) old new
  strides_all a old now new h v w = grown_then v w to (λ k y u p. split k p.low p.first p.stride)
    where
      Loops : ℕ → ℕ → ℕ → Type 0
      Loops = InStates a (states_at (relation_at s.loops.now.rows a) t) sources

      to : (k y u : ℕ) → Loops k y u ⊎ ByEdges s (EdgeOf s a) t sources k y u → ByStrides s a t sources k y u
      to k y u (inl p) = let e = p.there in record { stride = rw e (loop h p.in_set); low = p.low; first = p.first }
      to k y u (inr p) = let e = p.there in record { stride = rw e (along p.edge p.among.is p.to); low = p.low; first = p.first }

      -- an edge that leads anywhere is listed
      split : (k : ℕ) {y u : ℕ} → u < most_states → Has sources k → StrideBy s a t y u
          → Loops k y u ⊎ ByEdges s (EdgeOf s a) t sources k y u
      split k l f (along edge q r) =
          let m = s.covers.at edge.role.0 _ _ (edge-role _ _ edge q) r in
          inr (record { edge = edge; among = record { is = q; member = m }; there = refl; low = l; to = r; first = f })
      split k l f (loop h r) = inl (record { there = refl; low = l; in_set = r; first = f })
