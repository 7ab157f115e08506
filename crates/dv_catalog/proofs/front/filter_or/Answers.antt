use Rattle.std.proofs.Common.{ap, sym, ◌∙◌}
use Rattle.std.specs.Option.{option_map}
use Rattle.dv_catalog.specs.Inner.Fronts.{matching_where}
use Rattle.dv_catalog.specs.Scan.{matching}
use Rattle.dv_catalog.proofs.Fronts.{matching_all}
use Rattle.dv_catalog.proofs.front.filter_or.Goals as goal

pub returns-in-None : goal.returns-in-None
returns-in-None c rows =
    ap (λ form. matching form rows) c.requires
    ∙ matching_all rows
    ∙ ap (λ form. matching_where (option_map (λ f. f.now) form) rows) (sym c.in-None.is)
