use Rattle.std.proofs.Common.{◌∙◌, List, ap, sym}
use Rattle.std.specs.List.{list_any}
use Rattle.dv_keyed.specs.Index.{IndexForm}
use Rattle.dv_keyed.specs.Inner.Index.{IndexTree, form_of}
use Rattle.dv_index.proofs.indexes.Indexes.has_unique.Goals as goal
use Rattle.dv_value.specs.Inner.ListLaws.{any-map}

pub returns : goal.returns
returns c =
    c.has_unique.ensures
    ∙ ap (λ (xs : List IndexTree). list_any (λ x. (form_of x).unique) xs) (c.as_slice.ensures.value ∙ c.self.view_is)
    ∙ sym (any-map (λ (x : IndexForm). x.unique) form_of c.args.self.now)
