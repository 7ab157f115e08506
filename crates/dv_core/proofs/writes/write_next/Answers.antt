use Rattle.std.proofs.Common.{ℕ, suc, ◌+◌, ap, refl, sym, ◌∙◌}
use Rattle.dv_core.specs.Inner.WriteParts.{written_seen, with_counted}
use Rattle.dv_catalog.specs.Changes.{apply}
use Rattle.dv_catalog.specs.State.{Namespaces}
use Rattle.dv_core.specs.Writes.{statement_of}
use Rattle.dv_core.proofs.Statements.{next_made, next_noted}
use Rattle.dv_core.proofs.writes.write_next.Goals as goal

pub returns-in-Ok-clause-step : goal.returns-in-Ok-clause-step
returns-in-Ok-clause-step c =
    let (changes, made, many, leaves) = c.in-Ok.ensures.makes in
    let old = c.args.written.now in
    let before = c.args.catalog.now in
    let after = c.write_one.new.catalog in
    let stands = c.count.ensures after.state.namespaces ∙ ap (λ (ns : Namespaces). with_counted (written_seen old ns) c.in-Ok.counted) leaves
    ∙ ap (λ (n : ℕ). record (written_seen old (apply c.args.namespace.now changes before.state.namespaces)) { statements = suc old.statements; n = old.n + c.in-Ok.counted.matched; changed = old.changed + n }) (sym many) in
    next_made c.args.namespace.now c.args.ordered before.state.views (written_seen old before.state.namespaces) (written_seen c.count.new.self after.state.namespaces) (statement_of c.args.kind c.args.entry.now)
    before.marks after.marks c.in-Ok.counted.matched changes c.requires.due made stands c.in-Ok.ensures.marks

pub returns-in-Err-clause-step : goal.returns-in-Err-clause-step
returns-in-Err-clause-step c =
    let before = c.args.catalog.now in
    let after = c.write_one.new.catalog in
    next_noted c.args.namespace.now c.args.ordered before.state.views (written_seen c.args.written.now before.state.namespaces) (statement_of c.args.kind c.args.entry.now) after.state.namespaces before.marks after.marks
    (written_seen c.note.new.self after.state.namespaces) c.in-Err.stopped c.requires.due c.in-Err.ensures.makes c.in-Err.ensures.marks c.note.result (c.note.ensures after.state.namespaces) refl

pub note-requires : goal.note-requires
note-requires c = c.requires.room
