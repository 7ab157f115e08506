use Rattle.dv_cursor.proofs.Kept.{len-kept}
use Rattle.dv_cursor.proofs.cursors.Cursors.len.Goals as goal

pub returns : goal.returns
returns c = rw (← c.self.view_is, len-kept c.self.inside.cursors.entries c.len.ensures.ordered) c.len.ensures.len
