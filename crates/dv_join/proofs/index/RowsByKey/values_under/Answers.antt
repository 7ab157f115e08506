-- Under one key are the rows that have it; under no key there are none.
use Rattle.std.proofs.Common.{◌≡◌, ◌∙◌, ◌≤◌, [], ap, arith, filter, length, map, sym}
use Rattle.std.proofs.lemmas.Result.{IfOk-weaker}
use Rattle.std.specs.Option.{option_copied, unwrap_or}
use Rattle.dv_change.specs.Changes.{forget}
use Rattle.dv_gather.specs.Joining.{as_value}
use Rattle.dv_join.specs.Inner.Indexed.{has_any, under}
use Rattle.dv_join.proofs.Indexes.{having-none, having-one, key-alone, no-keys, union-none}
use Rattle.dv_join.proofs.index.RowsByKey.values_under.Goals as goal

pub returns-in_default : goal.returns-in_default
returns-in_default c = λ has rows are is.
    let keys = c.args.keys.now.keys in
    c.new.ensures ∙ ap (λ es. map as_value (forget es)) (having-none has rows keys (no-keys keys c.in_default.ensures.variant.1))

pub returns-then-len-gt1 : goal.returns-then-len-gt1
returns-then-len-gt1 c =
    IfOk-weaker c.values_of.result _ _ (λ values h has rows are is.
    h ∙ ap (λ es. map as_value (forget es)) (c.in_ok-rows.ensures.rows has rows are is ∙ ap (λ ms. filter (λ e. has_any has ms e.1) rows) (union-none c.args.keys.now c.new-then-len-gt1.result c.new-then-len-gt1.ensures.empty))) c.values_of.ensures

pub returns-in-Some-get : goal.returns-in-Some-get
returns-in-Some-get c =
    let self = c.args.self.now in
    let keys = c.args.keys.now.keys in
    let key = c.in-Some.key.now in
    let most : length keys ≤ 1 = omega (arith, c.if-len-gt1.false, c.len.ensures.len) in
    let there : c.in-Some-get.rows.now ≡ under key self = ap (λ o. unwrap_or o []) (sym (ap option_copied c.in-Some-get.is) ∙ c.get.ensures.value) in
    IfOk-weaker c.values_of-in-Some-get.result _ _ (λ values h has rows are is.
    h ∙ ap (λ es. map as_value (forget es)) (there ∙ having-one has rows keys key self is (key-alone keys key c.in-Some.ensures.first most))) c.values_of-in-Some-get.ensures

pub returns-in-None : goal.returns-in-None
returns-in-None c = λ has rows are is.
    let self = c.args.self.now in
    let keys = c.args.keys.now.keys in
    let key = c.in-Some.key.now in
    let most : length keys ≤ 1 = omega (arith, c.if-len-gt1.false, c.len.ensures.len) in
    let none : under key self ≡ [] = ap (λ o. unwrap_or o []) (sym c.get.ensures.value ∙ ap option_copied c.in-None.is) in
    c.new-in-None.ensures ∙ ap (λ es. map as_value (forget es)) (sym none ∙ having-one has rows keys key self is (key-alone keys key c.in-Some.ensures.first most))
