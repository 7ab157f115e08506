use Rattle.std.proofs.Common.{refl, ◌++◌}
use Rattle.std.specs.List.{slice_split}
use Rattle.dv_scripts.specs.Script.{is_lf}
use Rattle.dv_scripts.proofs.Scheduled.{Joined, line_plays, lines_play}
use Rattle.dv_scripts.proofs.laws.a_script_is_a_schedule.Goals as goal

pub returns : goal.returns
returns c =
    let joined : Joined = λ old mid new first second one two before behind. (c.schedules_may_be_joined.ensures old new first second (one ++ two)).1 (one, two, mid, refl, before, behind) in
    record { line = line_plays joined; script = λ old new script text runs. lines_play joined old new (slice_split is_lf script) text runs }
