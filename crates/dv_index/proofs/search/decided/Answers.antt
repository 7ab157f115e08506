use Rattle.std.proofs.Common.{◌∙◌, ap, filter, sym}
use Rattle.std.proofs.lemmas.Bool.{and_parts}
use Rattle.dv_keyed.specs.Choice.{is_point}
use Rattle.dv_keyed.specs.Inner.Decided.{is_one_condition}
use Rattle.dv_keyed.specs.Inner.View.{bounds_seen}
use Rattle.dv_index.proofs.search.decided.Goals as goal

pub returns-then-is_decided : goal.returns-then-is_decided
returns-then-is_decided c =
    let parts = and_parts (is_one_condition c.args.filter.now) (is_point (bounds_seen c.args.bounds)) (sym c.is_decided.ensures ∙ c.if-is_decided.true) in
    c.in_ok-all.ensures.only parts.1 ∙ ap (λ test. filter test c.args.collection.now) (λ j d. sym (c.requires.decided parts.0 d) j)
