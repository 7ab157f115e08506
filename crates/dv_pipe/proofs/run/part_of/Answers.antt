use Rattle.std.proofs.Common.{◌∙◌, ap}
use Rattle.dv_sort.specs.Sorting.{stable, front}
use Rattle.dv_pipe.specs.Inner.Parts.{rows_of_step, rows_of_work}
use Rattle.dv_pipe.specs.declared.step.Work.TheVariants as work
use Rattle.dv_pipe.specs.Sources.{lists_of}
use Rattle.dv_pipe.specs.Stages.{through}
use Rattle.dv_pipe.proofs.Through.{part_match, part_project, part_unwind, part_lookup, part_sort, part_limit, part_group}
use Rattle.dv_pipe.proofs.run.part_of.Goals as goal

pub returns-in-Match : goal.returns-in-Match
returns-in-Match c rows = part_match c.args.stage.now c.args.later.now c.args.source.now (lists_of c.args.sources.now) rows (rows_of_step c.of.result) c.in-Match.filter c.in-Match.is c.of.ensures

pub returns-in-Project : goal.returns-in-Project
returns-in-Project c rows = part_project c.args.stage.now c.args.later.now c.args.source.now (lists_of c.args.sources.now) rows (rows_of_step c.of-in-Project.result) c.in-Project.project c.in-Project.is c.of-in-Project.ensures

pub returns-in-Unwind : goal.returns-in-Unwind
returns-in-Unwind c rows = part_unwind c.args.stage.now c.args.later.now c.args.source.now (lists_of c.args.sources.now) rows (rows_of_step c.of-in-Unwind.result) c.in-Unwind.unwind c.in-Unwind.is c.of-in-Unwind.ensures

pub returns-in-Sort : goal.returns-in-Sort
returns-in-Sort c rows =
    let source = c.args.source.now in
    let lists = lists_of c.args.sources.now in
    ap (λ most. through c.args.later.now source lists (front most (stable c.in-Sort.spec rows))) c.wanted.ensures ∙ part_sort c.args.stage.now c.args.later.now source lists rows c.in-Sort.spec c.in-Sort.is

pub returns-in-Limit : goal.returns-in-Limit
returns-in-Limit c rows = part_limit c.args.stage.now c.args.later.now c.args.source.now (lists_of c.args.sources.now) rows c.in-Limit.count c.in-Limit.is

pub returns-in-Group : goal.returns-in-Group
returns-in-Group c rows = part_group c.args.stage.now c.args.later.now c.args.source.now (lists_of c.args.sources.now) rows c.in-Group.group c.in-Group.is

pub returns-in_ok-join-in-Lookup : goal.returns-in_ok-join-in-Lookup
returns-in_ok-join-in-Lookup c rows = part_lookup c.args.stage.now c.args.later.now c.args.source.now (lists_of c.args.sources.now) rows (rows_of_step c.of-in-Lookup.result) c.in-Lookup.lookup c.in-Lookup.is (c.of-in-Lookup.ensures ∙ ap (λ j. rows_of_work (work.Lookup j)) c.in_ok-join-in-Lookup.ensures)
