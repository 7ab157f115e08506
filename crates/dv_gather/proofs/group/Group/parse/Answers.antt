use Rattle.std.proofs.Common.{◌∙◌, ap}
use Rattle.dv_value.specs.View.{tree}
use Rattle.dv_value.specs.Inner.TreeLaws.{fields_again}
use Rattle.dv_gather.specs.GroupParsing.{group_in, group_of}
use Rattle.dv_gather.proofs.group.Group.parse.Goals as goal

pub returns-in-Doc : goal.returns-in-Doc
unfolding group_in
returns-in-Doc c = rw (ap (λ v. group_in (tree v)) c.in-Doc.is ∙ ap group_of (fields_again c.in-Doc.document)) c.of_document.ensures
