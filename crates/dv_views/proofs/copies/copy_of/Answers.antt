use Rattle.std.proofs.Common.{ap, ◌∙◌}
use Rattle.dv_change.specs.Changes.{Positioned, with_changes}
use Rattle.dv_pipe.specs.Sources.{rows_referred}
use Rattle.dv_views.specs.Inner.Filled.{puts_of}
use Rattle.dv_views.specs.Placed.{positioned}
use Rattle.dv_views.proofs.Building.{places_are_positioned}
use Rattle.dv_views.proofs.Filling.{puts_lead}
use Rattle.dv_views.proofs.copies.copy_of.Goals as goal

pub documents-init : goal.documents-init
documents-init c =
    let all = positioned (rows_referred c.args.documents.now) in
    record {
      identified = c.requires.1;
      copied = ap (λ (rows : Positioned). with_changes rows (puts_of all)) c.new-copy.ensures.empty ∙ puts_lead all (places_are_positioned (rows_referred c.args.documents.now) c.requires.0);
    }
