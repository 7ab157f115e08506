use Rattle.std.proofs.Common.{◌≡◌, ◌∙◌, ap, sym, Some}
use Rattle.std.specs.Option.{option_map}
use Rattle.dv_value.specs.View.{tree}
use Rattle.dv_row.specs.Expressions.{with_field_behind}
use Rattle.dv_gather.specs.Lookups.{set_field}
use Rattle.dv_gather.proofs.Placed.{set-behind}
use Rattle.dv_gather.proofs.lookup.set_field.Goals as goal

pub returns-in-Some : goal.returns-in-Some
returns-in-Some c =
    let name = c.args.name.now in
    let d = c.args.document.now in
    let v = tree c.args.value in
    let w = tree c.in-Some.value in
    let e : set_field name v d ≡ with_field_behind name (Some w) c.put.new.self = set-behind name v w d c.put.new.self (sym (ap (option_map tree) c.in-Some.is) ∙ c.in_ok-value.ensures.back) c.in_ok-value.ensures.ok in
    rw e c.push_field.ensures.ok
