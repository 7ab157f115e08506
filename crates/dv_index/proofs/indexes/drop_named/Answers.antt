use Rattle.std.proofs.Common.{◌≡◌, not, rules, subst}
use Rattle.std.proofs.lemmas.Fn.{filter_same}
use Rattle.dv_keyed.specs.Inner.Index.{IndexTree, form_of}
use Rattle.dv_index.specs.Indexed.{is_dropped}
use Rattle.dv_index.proofs.indexes.drop_named.Goals as goal

pub returns : goal.returns
returns c = filter_same _ (λ x. not (is_dropped c.args.name.now (form_of x))) _ (λ x b q h. (subst (λ (y : IndexTree). b ≡ not (is_dropped c.args.name.now (form_of y))) h.shows (search (rules, h.called)), search (rules, h.called))) _ _ c.retain.ensures.filtered
