-- A role follows from another exactly when the inverse of the one follows from the inverse of the other.
use Rattle.std.specs.Prelude.{◌↔◌}
use Rattle.kinds.specs.declared.SignedRole.{SignedRole}
use Rattle.kinds.specs.Kinds.{inverse, inverse-inverse}
use Rattle.meaning.specs.Collection.{Collection}
use Rattle.meaning.specs.Orders.{RoleLe, turned}

module _ (𝓒 : Collection) where
  -- THEOREM: R ≤ S exactly when inverse of R ≤ inverse of S
  pub inverses-follow : {R S : SignedRole} → RoleLe 𝓒 R S ↔ RoleLe 𝓒 (inverse R) (inverse S)
  inverses-follow {R} {S} = (
    λ l. turned l,
    λ l.
        let k : RoleLe 𝓒 (inverse (inverse R)) (inverse (inverse S)) = turned l in
        rw (inverse-inverse R, inverse-inverse S) at k,
  )

  -- inverses are put on the other side
  pub turn : {R S : SignedRole} → RoleLe 𝓒 (inverse R) S → RoleLe 𝓒 R (inverse S)
  turn {R} {S} l =
      let k : RoleLe 𝓒 (inverse (inverse R)) (inverse S) = inverses-follow.0 l in
      rw (inverse-inverse R) at k
