use Rattle.std.proofs.Common.{◌≡◌, ◌∙◌, ap, map}
use Rattle.dv_update.specs.Removals.{removals}
use Rattle.dv_update.specs.View.{edit}
use Rattle.dv_update.proofs.RemovalsLast.{removals_apart}
use Rattle.dv_update.proofs.filling.refuse_too_large.Goals as goal

pub remove_each-requires : goal.remove_each-requires
remove_each-requires c =
    let es = map edit c.as_slice-all.result.now in
    let are : map (λ path. path.now) c.deref.result.now ≡ removals es = ap (map (λ path. path.now)) c.deref.ensures.value ∙ c.in_ok-removals.ensures in
    rw are (removals_apart es (c.are_apart.ensures.apart c.if-not-are_apart.false))
