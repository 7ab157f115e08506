use Rattle.dv_core.proofs.WorkedViews.{views}
use Rattle.dv_core.proofs.laws.views_by_example.Goals as goal

pub returns : goal.returns
returns c = views
