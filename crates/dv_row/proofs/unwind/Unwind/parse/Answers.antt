use Rattle.std.proofs.Common.{◌∙◌, ap}
use Rattle.dv_value.specs.View.{tree}
use Rattle.dv_value.specs.Inner.TreeLaws.{fields_again}
use Rattle.dv_row.specs.Parsing.{unwind_in, unwind_of}
use Rattle.dv_row.proofs.unwind.Unwind.parse.Goals as goal

pub returns-in-Doc : goal.returns-in-Doc
unfolding unwind_in
returns-in-Doc c = rw (ap (λ v. unwind_in (tree v)) c.in-Doc.is ∙ ap unwind_of (fields_again c.in-Doc.options)) c.of_options.ensures
