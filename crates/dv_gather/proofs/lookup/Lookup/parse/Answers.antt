use Rattle.std.proofs.Common.{◌∙◌, ap}
use Rattle.dv_value.specs.View.{tree}
use Rattle.dv_value.specs.Inner.TreeLaws.{fields_again}
use Rattle.dv_gather.specs.Lookups.{lookup_in, lookup_of}
use Rattle.dv_gather.proofs.lookup.Lookup.parse.Goals as goal

pub returns-in-Doc : goal.returns-in-Doc
unfolding lookup_in
returns-in-Doc c = rw (ap (λ v. lookup_in (tree v)) c.in-Doc.is ∙ ap lookup_of (fields_again c.in-Doc.options)) c.of_options.ensures
