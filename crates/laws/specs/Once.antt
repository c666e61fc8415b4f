-- That no more than one thing has a property: of what a contract says, that it leaves one answer.
use Rattle.std.specs.Prelude.{◌≡◌}

abbrev pub AtMostOne : {A : Type 0} → (A → Type 0) → Type 0
AtMostOne {A} P = (x y : A) → P x → P y → x ≡ y

-- the same among the things of a kind
abbrev pub AtMostOneOf : {A : Type 0} → (A → Type 0) → (A → Type 0) → Type 0
AtMostOneOf {A} Kind P = AtMostOne (λ x. Kind x × P x)
