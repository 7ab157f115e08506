use Rattle.std.proofs.Common.{◌≡◌, [], sym, refl, ◌∙◌, arith}
use Rattle.std.proofs.lemmas.Bool.{eqb-true}
use Rattle.std.proofs.lemmas.List.{append-nil, nil_from_length}
use Rattle.std.proofs.lemmas.Result.{err_from_is_err_and}
use Rattle.dv_wire.specs.Schedule.{takes_some}
use Rattle.dv_wire.proofs.Counting.{Counted-none}
use Rattle.dv_wire.proofs.session.take_in.Goals as goal

pub take_straight-requires : goal.take_straight-requires
take_straight-requires c = nil_from_length c.args.kept.now.items (omega (arith, eqb-true _ 0 (sym c.is_empty.ensures ∙ c.if-is_empty.true), c.args.kept.now.ok.0))

pub returns-then-is_empty : goal.returns-then-is_empty
returns-then-is_empty c =
    let none : c.args.kept.now.items ≡ [] = nil_from_length c.args.kept.now.items (omega (arith, eqb-true _ 0 (sym c.is_empty.ensures ∙ c.if-is_empty.true), c.args.kept.now.ok.0)) in
    rw none c.take_straight.ensures

-- no message is carried out
pub returns-in_err-keep : goal.returns-in_err-keep
returns-in_err-keep c =
    let p = err_from_is_err_and c.from_residual.result c.from_residual.ensures.1 in
    rw (p.1, p.2, c.in_err-keep.ensures.store) ([], sym (append-nil _), Counted-none _, takes_some 0 refl)

pub returns-in_err-taken : goal.returns-in_err-taken
returns-in_err-taken c =
    let p = err_from_is_err_and c.from_residual-in_err-taken.result c.from_residual-in_err-taken.ensures.1 in
    rw (p.1, p.2, ← c.in_ok-keep.ensures.kept, ← c.deref.ensures.value) (rw c.in_ok-keep.ensures.store at c.in_err-taken.ensures.carried)

pub returns : goal.returns
returns c =
    rw (c.drop_front.ensures, ← c.in_ok-keep.ensures.kept, ← c.deref.ensures.value) (rw c.in_ok-keep.ensures.store at c.in_ok-taken.ensures.carried)
