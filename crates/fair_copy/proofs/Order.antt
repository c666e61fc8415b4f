-- The order of frames is total, so that frames have one fair copy.
use Rattle.std.specs.Prelude.{◌≡◌, List}
use Rattle.std.specs.Cmp.{IsTotalOrder}
use Rattle.std.proofs.lemmas.Cmp.{nat_list_cmp_total}
use Rattle.expression.specs.Listed.{Listed}
use Rattle.frames.specs.Written.{numbers_of}
use Rattle.frames.specs.declared.Frame.{Frame}
use Rattle.fair_copy.specs.Copy.{frame_order, IsCopyOf}
use Rattle.laws.specs.Rises.{strict-once}

pub total : IsTotalOrder frame_order
total =
    let o = nat_list_cmp_total in
    record {
      antisymm = λ f g. o.antisymm (numbers_of f) (numbers_of g);
      trans = λ f g h. o.trans (numbers_of f) (numbers_of g) (numbers_of h);
      congr = λ f g h. o.congr (numbers_of f) (numbers_of g) (numbers_of h);
    }

-- THEOREM: frames that ask a question have one copy
pub copy-once : (fs : List Frame) (q : Listed) (c d : List Frame) → IsCopyOf fs q c → IsCopyOf fs q d → c ≡ d
copy-once fs q c d a b =
    strict-once frame_order total c d a.rises b.rises (λ f m. (b.same f).1 ((a.same f).0 m)) (λ f m. (a.same f).1 ((b.same f).0 m))
