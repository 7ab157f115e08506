use Rattle.dv_value.specs.View.{tree}
use Rattle.dv_update.proofs.OneField.{keeps_field, sets_field, differs_set, is_itself}
use Rattle.dv_update.proofs.one_field.set_under.Goals as goal

pub returns-then-stands_under-clause-applied : goal.returns-then-stands_under-clause-applied
returns-then-stands_under-clause-applied c =
    keeps_field c.args.name.now c.requires c.what_a_field_adds.ensures.more c.args.document.now (tree c.args.value)
    (c.has_room.ensures c.if-not-has_room.false) c.if-stands_under.ensures

pub returns-then-stands_under-clause-same : goal.returns-then-stands_under-clause-same
returns-then-stands_under-clause-same c = is_itself c.args.document.now

pub returns-clause-applied : goal.returns-clause-applied
returns-clause-applied c =
    sets_field c.args.name.now c.requires c.what_a_field_adds.ensures.more c.args.document.now (tree c.args.value)
    (c.has_room.ensures c.if-not-has_room.false)

pub returns-clause-same : goal.returns-clause-same
returns-clause-same c = differs_set c.args.name.now c.args.document.now (tree c.args.value) c.if-stands_under.ensures
