use Rattle.std.proofs.Common.{sym, arith}
use Rattle.dv_message.proofs.Frames.{frame_parts}
use Rattle.dv_message.proofs.sections.section_at.Goals as goal

pub section_of-requires : goal.section_of-requires
section_of-requires c = let parts = frame_parts _ c.in_ok-frame.frame.now c.in_ok-frame.following.now (sym c.in_ok-frame.ensures) in omega (arith, parts.1)
