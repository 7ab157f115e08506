use Rattle.std.proofs.Common.{◌≡◌, length, take, ap, arith}
use Rattle.std.proofs.lemmas.List.{take_all}
use Rattle.dv_value.proofs.Zipped.{take_next}
use Rattle.dv_value.proofs.value.field_lists.put_name.Goals as goal

pub returns-then-is_at-clause-ok : goal.returns-then-is_at-clause-ok
returns-then-is_at-clause-ok c = take_next _ c.args.count c.args.name.now (rw c.deref.ensures at (c.is_at.ensures.0 c.if-is_at.true))

pub add-requires-clause-fresh : goal.add-requires-clause-fresh
add-requires-clause-fresh c =
    let names = c.args.names.now.value in
    let whole : take c.args.count names ≡ names = take_all c.args.count names (omega (arith, c.if-len-count.true, c.len.ensures.len, ap length c.deref-2.ensures)) in
    rw c.in-Some.ensures.value (rw whole at c.requires.fresh)
