use Rattle.std.proofs.Common.{◌∙◌, ap, rules}
use Rattle.std.specs.Option.{unwrap_or}
use Rattle.dv_gather.proofs.Placed.{placed-one}
use Rattle.dv_gather.proofs.joining.add_under.Goals as goal

pub returns : goal.returns
returns c = λ k i.
    let w = c.push.new.self in
    let written = c.in_ok-places.ensures.update.0 w in
    placed-one k c.args.key c.args.places.now _ w c.or_insert.result.now c.new.result c.args.place i c.new.ensures.items
    (c.or_insert.ensures.value ∙ ap (λ o. unwrap_or o c.new.result) c.in_ok-places.ensures.value) c.in_ok-push.ensures.items (search (rules, written.0 k))
