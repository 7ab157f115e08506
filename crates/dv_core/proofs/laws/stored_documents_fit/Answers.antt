use Rattle.dv_core.proofs.Stored.{storable_fits}
use Rattle.dv_core.proofs.laws.stored_documents_fit.Goals as goal

pub returns : goal.returns
returns c = storable_fits
