use Rattle.std.proofs.Common.{◌∙◌, ap, sym}
use Rattle.std.specs.List.{list_any}
use Rattle.std.specs.Map.{lookup}
use Rattle.std.specs.BTreeMap.{is_at}
use Rattle.dv_order.specs.Key.{key_order}
use Rattle.dv_keyed.specs.Inner.Ids.{is_another}
use Rattle.dv_keyed.specs.Inner.Pairs.{has_another_at}
use Rattle.dv_keyed.proofs.Entries.{another-found, some-in}
use Rattle.dv_keyed.proofs.pairs.Pairs.has_another.Goals as goal

pub returns-in-Some : goal.returns-in-Some
returns-in-Some c =
    let key = c.args.key.now in
    let id = c.args.id.now in
    let gone = c.gone.inside.entries.entries in
    c.has_another.ensures
    ∙ ap (λ o. list_any (is_another id o) c.in-Some.ids.now) c.get-in-Some.ensures.value
    ∙ ap (some-in (is_another id (lookup (is_at (key_order key)) gone))) c.in-Some.ensures.value
    ∙ sym (another-found key id gone c.self.inside.entries.entries c.gone.invariant c.self.invariant)
    ∙ (λ j. has_another_at key id (c.gone.view_is j) (c.self.view_is j))

pub returns-in-None : goal.returns-in-None
returns-in-None c =
    let key = c.args.key.now in
    let id = c.args.id.now in
    let gone = c.gone.inside.entries.entries in
    ap (some-in (is_another id (lookup (is_at (key_order key)) gone))) c.in-None.ensures.value
    ∙ sym (another-found key id gone c.self.inside.entries.entries c.gone.invariant c.self.invariant)
    ∙ (λ j. has_another_at key id (c.gone.view_is j) (c.self.view_is j))
