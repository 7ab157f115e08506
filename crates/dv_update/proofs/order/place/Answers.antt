use Rattle.std.proofs.Common.{◌∙◌, ap, map, refl, inr, is_some, sym}
use Rattle.dv_update.specs.Parsing.{placed}
use Rattle.dv_update.specs.Update.{Edit}
use Rattle.dv_update.specs.View.{edit, entry, operation}
use Rattle.dv_update.proofs.Placed.{inserted, found-conflict, none-found}
use Rattle.dv_update.proofs.order.place.Goals as goal

pub returns-then-is_some-clause-err : goal.returns-then-is_some-clause-err
returns-then-is_some-clause-err c =
    inr (refl, found-conflict c.args.places.now.entries c.of.result (edit c.args.edit) (sym c.of.ensures) (c.if-is_some.ensures ∙ ap is_some c.in_ok-insert.ensures.old))

pub returns-clause-placed : goal.returns-clause-placed
returns-clause-placed c =
    let entries = c.args.places.now.entries in
    let absent = none-found c.in_ok-insert.field-0 c.if-is_some.ensures ∙ c.in_ok-insert.ensures.old in
    ap (map entry) c.in_ok-insert.ensures.entries ∙ inserted entries c.of.result c.args.edit.operation absent
    ∙ ap (λ path. let e : Edit = (path, operation c.args.edit.operation) in placed e (map entry entries)) c.of.ensures
