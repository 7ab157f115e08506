use Rattle.dv_views.proofs.Kept.{kept_over_others}
use Rattle.dv_views.proofs.laws.what_is_not_read_is_not_kept.Goals as goal

pub returns : goal.returns
returns c = λ kept lists others same right. kept_over_others kept lists others same (c.what_is_not_read_does_not_matter.ensures kept.views lists others same right.views) right
