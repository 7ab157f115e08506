use Rattle.std.proofs.Common.{◌≡◌, false, is_some, map, sym, ap, ◌∙◌}
use Rattle.std.specs.BTreeMap.{get_by_text}
use Rattle.std.specs.BTreeSet.{contains_text}
use Rattle.std.specs.List.{list_any}
use Rattle.dv_catalog.specs.Inner.ComingParts.{joined}
use Rattle.dv_catalog.specs.IndexMaking.{is_alike}
use Rattle.dv_catalog.proofs.ByEntry.{any_seen}
use Rattle.dv_catalog.proofs.Found.{none_alike}
use Rattle.dv_keyed.specs.Inner.View.{form_of_new}
use Rattle.dv_catalog.proofs.pending_indexes.PendingIndexes.has_half.Goals as goal

pub returns-then-not-contains : goal.returns-then-not-contains
returns-then-not-contains c =
    let x = form_of_new c.args.index.now in
    let forms = map form_of_new c.self.inside.indexes.items in
    let name : is_some (get_by_text c.self.inside.names x.name) ≡ false = rw (← c.as_str.ensures) (sym c.contains_key.ensures ∙ c.if-not-contains_key.true) in
    let path : contains_text c.self.inside.paths (joined x.path) ≡ false = rw (← c.requires) (sym c.contains.ensures ∙ c.if-not-contains.true) in
    sym (ap (list_any (is_alike x)) (sym c.self.view_is) ∙ none_alike c.self.inside.names c.self.inside.paths forms c.self.invariant x name path)

pub returns : goal.returns
returns c =
    let x = form_of_new c.args.index.now in
    c.is_half_among.ensures ∙ sym (ap (list_any (is_alike x)) (sym c.self.view_is) ∙ any_seen (is_alike x) form_of_new c.self.inside.indexes.items ∙ ap (list_any (λ y. is_alike x (form_of_new y))) (sym c.deref.ensures.value))
