use Rattle.std.proofs.Common.{◌∙◌, ap, sym}
use Rattle.std.specs.List.{list_any}
use Rattle.dv_keyed.specs.Inner.Index.{form_of}
use Rattle.dv_index.specs.Indexed.{is_dropped}
use Rattle.dv_index.proofs.indexes.Indexes.remove.Goals as goal
use Rattle.dv_value.specs.Inner.ListLaws.{any-map}

pub returns-clause-found : goal.returns-clause-found
returns-clause-found c =
    c.has_dropped-found.ensures
    ∙ ap (list_any (λ x. is_dropped c.args.name.now (form_of x))) (c.as_slice.ensures.value ∙ c.self.view_is)
    ∙ sym (any-map (is_dropped c.args.name.now) form_of c.args.self.now)
