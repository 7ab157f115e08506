use Rattle.std.proofs.Common.{arith}
use Rattle.dv_value.proofs.Places.{IsIndexOf-empty, IsIndexOf-more}
use Rattle.dv_value.proofs.name_list.all_indexed.Goals as goal

pub loop-place-init : goal.loop-place-init
loop-place-init c = rw c.new-index.ensures IsIndexOf-empty

pub loop-place-preserved : goal.loop-place-preserved
loop-place-preserved c =
    let l = c.loop-place in
    rw (c.in_ok-add.ensures.ok, c.as_str.ensures) (IsIndexOf-more c.args.names.now l.place c.index-names-place.result l.index (omega arith) c.index-names-place.is c.requires l.invariant)
