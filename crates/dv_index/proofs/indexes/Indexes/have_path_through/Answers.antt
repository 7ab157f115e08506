use Rattle.std.proofs.Common.{◌∙◌, sym}
use Rattle.dv_index.proofs.InPlace.{any-behind}
use Rattle.dv_index.proofs.indexes.Indexes.have_path_through.Goals as goal

pub returns-in-Some : goal.returns-in-Some
returns-in-Some c =
    c.any_begins_with.ensures ∙ any-behind c.args.name.now _ _ c.args.self.now (sym (c.as_slice.ensures.value ∙ c.self.view_is) ∙ c.in-Some.ensures.cases.0)
