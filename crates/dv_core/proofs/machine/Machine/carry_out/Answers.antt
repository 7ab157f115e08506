use Rattle.std.proofs.Common.{[], Ok, refl}
use Rattle.dv_catalog.specs.Views.{created, dropped}
use Rattle.dv_command.specs.Asked.{find, aggregate, get_more, kill_cursors, create, drop, create_indexes, drop_indexes, explain, view_stats}
use Rattle.dv_command.specs.Replies.{reply_of, drop_reply}
use Rattle.dv_command.specs.Inner.View.{aggregate_seen, create_indexes_seen, create_seen, drop_indexes_seen, drop_seen, explain_seen, find_seen, get_more_seen, kill_cursors_seen, view_stats_seen, write_seen}
use Rattle.dv_core.specs.Find.{reply_to_find, reply_to_aggregate}
use Rattle.dv_core.specs.Indexes.{find_explained, indexed, unindexed}
use Rattle.dv_core.specs.More.{killed, next_batch}
use Rattle.dv_core.specs.State.{marked}
use Rattle.dv_core.specs.Stats.{view_told}
use Rattle.dv_core.specs.Step.{replying}
use Rattle.dv_core.specs.Inner.StepParts.{reply_told}
use Rattle.dv_core.specs.Told.{outcome_told}
use Rattle.dv_core.proofs.Steps.{catalog_ended, catalog_given, create_stands, cursors_ended, cursors_given, drop_stands, read_by_so, read_steps, read_told, refusal_steps, same_by, write_steps}
use Rattle.dv_core.proofs.machine.Machine.carry_out.Goals as goal

pub returns-in-Ok-Write-clause-step : goal.returns-in-Ok-Write-clause-step
returns-in-Ok-Write-clause-step c =
    let asks = rw c.in-Ok-Write.field-0-is at c.in-Ok-Write.ensures in
    write_steps c.args.self.now c.args.session c.args.command.now (write_seen c.in-Ok-Write.write) asks c.write.new.self c.write.result c.write.ensures

pub returns-in-Err-clause-step : goal.returns-in-Err-clause-step
returns-in-Err-clause-step c = refusal_steps c.args.self.now c.args.session c.args.command.now c.in-Err.refusal c.refuse.result c.in-Err.ensures c.refuse.ensures

pub returns-in-Ok-Find-clause-step : goal.returns-in-Ok-Find-clause-step
returns-in-Ok-Find-clause-step c =
    let asks = rw c.in-Ok-Find.field-0-is at c.in-Ok-Find.ensures in
    let x = find_seen c.in-Ok-Find.find in
    let old = c.args.self.now in
    let stand = read_by_so old c.args.session c.args.command.now (find x) asks (reply_told c.find.result) c.find.new.self.marks (read_told old (find x) c.find.result c.find.new.self.marks c.find.ensures.marks) (λ is. is) in
    cursors_given old c.args.session c.args.command.now (find x) asks c.find.new.self (reply_to_find c.args.session x old.catalog old.cursors) (reply_told c.find.result) (outcome_told c.batch_or_refusal.result) refl c.find.ensures.catalog
    c.find.ensures.reply c.batch_or_refusal.ensures.reply stand

pub returns-in-Ok-Aggregate-clause-step : goal.returns-in-Ok-Aggregate-clause-step
returns-in-Ok-Aggregate-clause-step c =
    let asks = rw c.in-Ok-Aggregate.field-0-is at c.in-Ok-Aggregate.ensures in
    let x = aggregate_seen c.in-Ok-Aggregate.aggregate in
    let old = c.args.self.now in
    let stand = read_by_so old c.args.session c.args.command.now (aggregate x) asks (reply_told c.aggregate.result) c.aggregate.new.self.marks (read_told old (aggregate x) c.aggregate.result c.aggregate.new.self.marks c.aggregate.ensures.marks) (λ is. is) in
    cursors_given old c.args.session c.args.command.now (aggregate x) asks c.aggregate.new.self (reply_to_aggregate c.args.session x old.catalog old.cursors) (reply_told c.aggregate.result) (outcome_told c.batch_or_refusal-in-Ok-Aggregate.result) refl
    c.aggregate.ensures.catalog c.aggregate.ensures.reply c.batch_or_refusal-in-Ok-Aggregate.ensures.reply stand

pub returns-in-Ok-GetMore-clause-step : goal.returns-in-Ok-GetMore-clause-step
returns-in-Ok-GetMore-clause-step c =
    let asks = rw c.in-Ok-GetMore.field-0-is at c.in-Ok-GetMore.ensures in
    let x = get_more_seen c.in-Ok-GetMore.asked in
    let old = c.args.self.now in
    let stand = same_by old c.args.session c.args.command.now (get_more x) asks (reply_told c.get_more.result) c.get_more.new.self.marks c.get_more.ensures.marks (λ is. is) in
    cursors_given old c.args.session c.args.command.now (get_more x) asks c.get_more.new.self (next_batch c.args.session x old.cursors) (reply_told c.get_more.result) (outcome_told c.batch_or_refusal-in-Ok-GetMore.result) refl
    c.get_more.ensures.catalog c.get_more.ensures.reply c.batch_or_refusal-in-Ok-GetMore.ensures.reply stand

pub returns-in-Ok-KillCursors-clause-step : goal.returns-in-Ok-KillCursors-clause-step
returns-in-Ok-KillCursors-clause-step c =
    let asks = rw c.in-Ok-KillCursors.field-0-is at c.in-Ok-KillCursors.ensures in
    let x = kill_cursors_seen c.in-Ok-KillCursors.asked in
    cursors_ended c.args.self.now c.args.session c.args.command.now (kill_cursors x) asks c.kill_cursors.new.self (Ok (killed c.args.session x c.args.self.now.cursors)) c.kill_cursors.result refl c.kill_cursors.ensures.catalog
    c.kill_cursors.ensures.reply c.kill_cursors.ensures.marks (λ is. is)

pub returns-in-Ok-Create-clause-step : goal.returns-in-Ok-Create-clause-step
returns-in-Ok-Create-clause-step c =
    let asks = rw c.in-Ok-Create.field-0-is at c.in-Ok-Create.ensures in
    let x = create_seen c.in-Ok-Create.create in
    let old = c.args.self.now in
    let made = created x.namespace x.view old.catalog in
    let stand = create_stands old c.args.session c.args.command.now x (reply_of []) c.create.result old.catalog c.create.new.self.catalog made c.create.new.self.marks refl c.create.ensures.reply c.create.ensures.marks in
    catalog_given old c.args.session c.args.command.now (create x) asks c.create.new.self (replying (reply_of []) made) c.create.result c.outcome_of-in-Ok-Create.result refl c.create.ensures.cursors c.create.ensures.reply
    c.outcome_of-in-Ok-Create.ensures stand

pub returns-in-Ok-Drop-clause-step : goal.returns-in-Ok-Drop-clause-step
returns-in-Ok-Drop-clause-step c =
    let asks = rw c.in-Ok-Drop.field-0-is at c.in-Ok-Drop.ensures in
    let x = drop_seen c.in-Ok-Drop.drop in
    let old = c.args.self.now in
    let made = dropped x.namespace old.catalog in
    let new = c.drop_namespace.new.self in
    let stand = drop_stands old c.args.session c.args.command.now x (drop_reply x.namespace) c.drop_namespace.result old.catalog new.catalog made new.marks refl c.drop_namespace.ensures.reply c.drop_namespace.ensures.marks in
    catalog_given old c.args.session c.args.command.now (drop x) asks new (replying (drop_reply x.namespace) made) c.drop_namespace.result c.outcome_of-in-Ok-Drop.result refl c.drop_namespace.ensures.cursors
    c.drop_namespace.ensures.reply c.outcome_of-in-Ok-Drop.ensures stand

pub returns-in-Ok-CreateIndexes-clause-step : goal.returns-in-Ok-CreateIndexes-clause-step
returns-in-Ok-CreateIndexes-clause-step c =
    let asks = rw c.in-Ok-CreateIndexes.field-0-is at c.in-Ok-CreateIndexes.ensures in
    let x = create_indexes_seen c.in-Ok-CreateIndexes.asked in
    catalog_ended c.args.self.now c.args.session c.args.command.now (create_indexes x) asks c.create_indexes.new.self (indexed x c.args.self.now.catalog) c.create_indexes.result refl c.create_indexes.ensures.cursors
    c.create_indexes.ensures.reply c.create_indexes.ensures.marks (λ is. is)

pub returns-in-Ok-DropIndexes-clause-step : goal.returns-in-Ok-DropIndexes-clause-step
returns-in-Ok-DropIndexes-clause-step c =
    let asks = rw c.in-Ok-DropIndexes.field-0-is at c.in-Ok-DropIndexes.ensures in
    let x = drop_indexes_seen c.in-Ok-DropIndexes.asked in
    catalog_ended c.args.self.now c.args.session c.args.command.now (drop_indexes x) asks c.drop_indexes.new.self (unindexed x c.args.self.now.catalog) c.drop_indexes.result refl c.drop_indexes.ensures.cursors
    c.drop_indexes.ensures.reply c.drop_indexes.ensures.marks (λ is. is)

pub returns-in-Ok-Explain-clause-step : goal.returns-in-Ok-Explain-clause-step
returns-in-Ok-Explain-clause-step c =
    let asks = rw c.in-Ok-Explain.field-0-is at c.in-Ok-Explain.ensures in
    let x = explain_seen c.in-Ok-Explain.asked in
    let stand = read_by_so c.args.self.now c.args.session c.args.command.now (explain x) asks c.explain.result c.explain.new.self.marks c.explain.ensures.marks (λ is. is) in
    read_steps c.args.self.now c.args.session c.args.command.now (explain x) asks c.explain.new.self (Ok (find_explained x c.args.self.now.catalog)) c.explain.result c.outcome_of-in-Ok-Explain.result refl c.explain.ensures.same
    c.explain.ensures.reply c.outcome_of-in-Ok-Explain.ensures stand

pub returns-in-Ok-ViewStats-clause-step : goal.returns-in-Ok-ViewStats-clause-step
returns-in-Ok-ViewStats-clause-step c =
    let asks = rw c.in-Ok-ViewStats.field-0-is at c.in-Ok-ViewStats.ensures in
    let x = view_stats_seen c.in-Ok-ViewStats.asked in
    let old = c.args.self.now in
    let stand = same_by old c.args.session c.args.command.now (view_stats x) asks c.view_stats.result old.marks refl (λ is. is) in
    read_steps old c.args.session c.args.command.now (view_stats x) asks old (view_told x (marked old)) c.view_stats.result c.outcome_of-in-Ok-ViewStats.result refl refl c.view_stats.ensures c.outcome_of-in-Ok-ViewStats.ensures stand
