-- Lists that begin with others.
use Rattle.std.proofs.Common.{◌∙◌, ◌≤◌, List, length, take, ap, arith, sym}
use Rattle.std.proofs.lemmas.List.{length-take, take-take}
use Rattle.dv_change.specs.Inner.Beginning.{BeginsWith}

pub begins-through : {A : Type 0} (first some all : List A) → BeginsWith some first → BeginsWith all some → BeginsWith all first
begins-through first some all front whole =
    let within : length first ≤ length some = omega (arith, ap length front, length-take (length first) some) in
    sym (take-take (length first) (length some) all within) ∙ ap (take (length first)) whole ∙ front
