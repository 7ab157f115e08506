use Rattle.std.proofs.Common.{◌∙◌, ap, sym, subst, drop, ◌+◌, Some}
use Rattle.dv_value.specs.Names.{value_under}
use Rattle.dv_value.specs.Tree.{document, fields_of}
use Rattle.dv_row.specs.Row.{Row}
use Rattle.dv_row.specs.Unwinding.{reached}
use Rattle.dv_row.proofs.Items.{drop-read}
use Rattle.dv_row.proofs.OnWay.{IsOnWay, on-way_next, some-of}
use Rattle.dv_row.proofs.way.Way.of.Goals as goal

pub components-preserved : goal.components-preserved
components-preserved c =
    let path = c.args.path.now in
    let row = c.args.row.now in
    let first = c.in_ok-outermost.outermost.component.now in
    let inner = c.components.inner.items in
    let name = c.component-item.result in
    let components = c.behind-component-items.result.now in
    let i = c.components.component-index in
    let found = value_under c.components.last.component.now c.components.last.document.now in
    let on_way = subst (λ names. IsOnWay path row first inner names found) (drop-read components i name c.components-test.true c.component-item.is) c.components.invariant in
    let some = some-of (reached path row) c.requires in
    let same = c.in_ok-crossing.ensures.document in
    let is = c.in-Some.ensures ∙ ap (λ (d : Row). Some (document (fields_of d))) (sym same) in
    let next = on-way_next path row some.0 some.1 first inner name (drop (i + 1) components) found on_way c.push.new.self.items c.in_ok-crossing.field-0 c.in_ok-push.ensures.items is c.in_ok-crossing.ensures.component in
    subst (λ (d : Row). IsOnWay path row first c.push.new.self.items (drop (i + 1) components) (value_under name d)) same next
