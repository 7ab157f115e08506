use Rattle.std.proofs.Common.{◌∙◌, ap, [], List}
use Rattle.std.specs.List.{list_any}
use Rattle.dv_keyed.specs.Inner.Keys.{has_key}
use Rattle.dv_keyed.specs.Inner.Pairs.{Pair, has_another_at, is_under_another}
use Rattle.dv_keyed.specs.Inner.PairLaws.{none-gone}
use Rattle.dv_keyed.proofs.Gone.{each-key}
use Rattle.dv_keyed.proofs.pairs.Pairs.clash.Goals as goal

pub returns : goal.returns
returns c =
    let keys = c.args.keys.now in
    let id = c.args.id.now in
    c.clash_without-2.ensures
    ∙ ap (λ (gone : List Pair). list_any (λ k. has_another_at k id gone c.args.self.now) keys) c.new.ensures
    ∙ each-key keys id [] c.args.self.now
    ∙ ap (is_under_another (λ k. has_key k keys) id) (none-gone c.args.self.now)
