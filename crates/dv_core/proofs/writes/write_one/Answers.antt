use Rattle.std.proofs.Common.{arith, subst}
use Rattle.dv_catalog.specs.Marks.{Marked}
use Rattle.dv_catalog.specs.Inner.Parts.{MakesCounted, StandBehind}
use Rattle.dv_core.specs.Writes.{statement_of}
use Rattle.dv_core.proofs.Again.{unbegun}
use Rattle.dv_core.proofs.writes.write_one.Goals as goal

pub returns-else-not-makes_room_behind-clause-makes : goal.returns-else-not-makes_room_behind-clause-makes
returns-else-not-makes_room_behind-clause-makes c =
    let statement = statement_of c.args.kind c.args.entry.now in
    let ends = c.in-Err.ensures in
    let same = unbegun c.args.namespace.now statement c.in-Err.stopped c.args.catalog.now (omega (arith, c.if-stopped-gt0.false)) c.write_once.new.catalog ends.makes ends.views ends.marks in
    subst (λ (before : Marked). MakesCounted c.args.namespace.now statement before c.write_once-in-Err.result c.write_once-in-Err.new.catalog) same c.write_once-in-Err.ensures.makes

pub returns-else-not-makes_room_behind-clause-marks : goal.returns-else-not-makes_room_behind-clause-marks
returns-else-not-makes_room_behind-clause-marks c =
    let statement = statement_of c.args.kind c.args.entry.now in
    let ends = c.in-Err.ensures in
    let same = unbegun c.args.namespace.now statement c.in-Err.stopped c.args.catalog.now (omega (arith, c.if-stopped-gt0.false)) c.write_once.new.catalog ends.makes ends.views ends.marks in
    subst (λ (before : Marked). StandBehind c.args.namespace.now statement before c.write_once-in-Err.result c.write_once-in-Err.new.catalog.marks) same c.write_once-in-Err.ensures.marks
