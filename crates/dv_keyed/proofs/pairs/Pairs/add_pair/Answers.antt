use Rattle.std.proofs.Common.{◌∙◌, ◌||◌, ◌&&◌, ap, sym}
use Rattle.std.proofs.lemmas.Result.{on_ok_weaker, on_err_weaker}
use Rattle.std.specs.Ordering.{is_eq}
use Rattle.dv_order.specs.Key.{key_order}
use Rattle.dv_keyed.specs.Inner.Pairs.{has_pair}
use Rattle.dv_keyed.specs.Inner.Ids.{has_in}
use Rattle.dv_keyed.proofs.Entries.{pair-found, pair-kept, pair-written}
use Rattle.dv_keyed.proofs.pairs.Pairs.add_pair.Goals as goal

pub add_key-requires : goal.add_key-requires
add_key-requires c = λ i.
    rw c.get_mut.follows.holds-at-none (pair-found c.args.key.now i c.self.inside.entries.entries c.self.invariant ∙ ap (has_in i) (sym c.in-None.ensures.value))

pub returns-in-Some-clause-ok : goal.returns-in-Some-clause-ok
returns-in-Some-clause-ok c = on_ok_weaker c.add.result (λ known k i.
    let w = c.add.new.self in
    pair-written c.self.inside.entries (c.get_mut.follows.lender w) c.args.key.now k i c.self.invariant (c.get_mut.follows.holds w).4 c.in-Some.ids.now w c.in-Some.ensures.value (c.get_mut.follows.holds w) c.args.id.now (known i)
    ∙ ap (λ ps. has_pair k i ps || (is_eq (key_order k c.args.key.now) && is_eq (key_order i c.args.id.now))) c.self.view_is) c.add.ensures.ok

pub returns-in-Some-clause-err : goal.returns-in-Some-clause-err
returns-in-Some-clause-err c = on_err_weaker c.add.result (λ known k i.
    let w = c.add.new.self in
    pair-kept c.self.inside.entries (c.get_mut.follows.lender w) c.args.key.now k i c.self.invariant (c.get_mut.follows.holds w).4 c.in-Some.ids.now w c.in-Some.ensures.value (c.get_mut.follows.holds w) (known i)
    ∙ ap (has_pair k i) c.self.view_is) c.add.ensures.err
