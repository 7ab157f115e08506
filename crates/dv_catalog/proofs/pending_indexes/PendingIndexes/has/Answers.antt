use Rattle.std.proofs.Common.{◌≡◌, false, is_some, map, sym, ap, ◌∙◌}
use Rattle.std.specs.BTreeMap.{get_by_text}
use Rattle.std.specs.List.{list_any}
use Rattle.dv_catalog.specs.IndexMaking.{is_same}
use Rattle.dv_catalog.proofs.ByEntry.{any_seen}
use Rattle.dv_catalog.proofs.Found.{none_same}
use Rattle.dv_keyed.specs.Inner.View.{form_of_new}
use Rattle.dv_catalog.proofs.pending_indexes.PendingIndexes.has.Goals as goal

pub returns-in-None : goal.returns-in-None
returns-in-None c =
    let x = form_of_new c.args.index.now in
    let forms = map form_of_new c.self.inside.indexes.items in
    let absent : is_some (get_by_text c.self.inside.names x.name) ≡ false = rw (← c.as_str.ensures) (ap is_some (sym c.in-None.ensures.value)) in
    sym (ap (list_any (is_same x)) (sym c.self.view_is) ∙ none_same c.self.inside.names c.self.inside.paths forms c.self.invariant x absent)

pub returns-then-is_at : goal.returns-then-is_at
returns-then-is_at c =
    let x = form_of_new c.args.index.now in
    c.if-is_at.true ∙ sym (ap (list_any (is_same x)) (sym c.self.view_is) ∙ any_seen (is_same x) form_of_new c.self.inside.indexes.items ∙ rw (← c.deref.ensures.value) (c.is_at.ensures c.if-is_at.true))

pub returns-else-is_at : goal.returns-else-is_at
returns-else-is_at c =
    let x = form_of_new c.args.index.now in
    c.is_among.ensures ∙ sym (ap (list_any (is_same x)) (sym c.self.view_is) ∙ any_seen (is_same x) form_of_new c.self.inside.indexes.items ∙ ap (list_any (λ y. is_same x (form_of_new y))) (sym c.deref-else-is_at.ensures.value))
