use Rattle.std.proofs.Common.{◌∙◌, ◌||◌, ap, sym, List}
use Rattle.std.specs.List.{list_any}
use Rattle.std.proofs.lemmas.List.Folds.{list_any-append}
use Rattle.dv_keyed.specs.Inner.Keys.{has_key}
use Rattle.dv_keyed.specs.Inner.Pairs.{Pair, has_another_at, is_under_another, pairs_without}
use Rattle.dv_keyed.proofs.Gone.{each-key}
use Rattle.dv_keyed.proofs.trial.Trial.clashes.Goals as goal

pub returns-then-clash_without : goal.returns-then-clash_without
returns-then-clash_without c =
    let keys = c.args.moved.now.new in
    let id = c.args.moved.now.id in
    let gone = c.args.self.now.gone in
    let held = c.args.index.now.pairs in
    let come = c.args.self.now.come in
    let is =
    c.clash_without.ensures
    ∙ ap (λ (ps : List Pair). list_any (λ k. has_another_at k id gone ps) keys) (c.as_pairs-held.ensures ∙ c.pairs.ensures)
    ∙ each-key keys id gone held in
    c.if-clash_without.true
    ∙ sym (list_any-append _ (pairs_without gone held) come ∙ ap (λ b. b || is_under_another (λ k. has_key k keys) id come) (sym is ∙ c.if-clash_without.true))

pub returns-else-clash_without : goal.returns-else-clash_without
returns-else-clash_without c =
    let keys = c.args.moved.now.new in
    let id = c.args.moved.now.id in
    let gone = c.args.self.now.gone in
    let held = c.args.index.now.pairs in
    let come = c.args.self.now.come in
    let is =
    c.clash_without.ensures
    ∙ ap (λ (ps : List Pair). list_any (λ k. has_another_at k id gone ps) keys) (c.as_pairs-held.ensures ∙ c.pairs.ensures)
    ∙ each-key keys id gone held in
    c.clash.ensures
    ∙ sym (list_any-append _ (pairs_without gone held) come ∙ ap (λ b. b || is_under_another (λ k. has_key k keys) id come) (sym is ∙ c.if-clash_without.false))
