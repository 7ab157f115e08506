use Rattle.dv_match.proofs.Marked.{with-one}
use Rattle.dv_match.proofs.marks.Marks.with.Goals as goal

pub returns : goal.returns
returns c k = with-one c.args.self.bits c.args.place k c.requires
