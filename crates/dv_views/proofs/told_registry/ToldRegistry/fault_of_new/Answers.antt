use Rattle.std.proofs.Common.{◌≡◌, ◌<◌, ◌≤◌, true, false, length, arith}
use Rattle.dv_pipe.specs.Stages.{is_read}
use Rattle.dv_views.specs.Forms.{most_views}
use Rattle.dv_views.specs.Inner.Views.{has_view, reads_name}
use Rattle.dv_views.proofs.Heights.{called_before, no_fault, read_before, too_high, too_many}
use Rattle.dv_views.proofs.Right.{or-left, or-right}
use Rattle.dv_views.proofs.told_registry.ToldRegistry.fault_of_new.Goals as goal
use Rattle.dv_views.proofs.told_registry.ToldRegistry.fault_of_new.Goals.{then-is_read-via-then-is_read, then-is_read-via-else-is_read+then-reads, else-len-lt-MOST_VIEWS-via-then-len-lt-MOST_VIEWS+else-height_over-le-MOST_HEIGHT, else-len-lt-MOST_VIEWS-via-else-len-lt-MOST_VIEWS}

pub returns-then-has : goal.returns-then-has
returns-then-has c =
    let called : has_view c.args.name.now c.args.self.now ≡ true = cc in
    called_before c.args.self.now c.args.name.now c.args.source.now c.args.pipeline.now called

pub returns-then-is_read : goal.returns-then-is_read
returns-then-is_read c =
    let new : has_view c.args.name.now c.args.self.now ≡ false = cc in
    let others = reads_name c.args.self.now c.args.name.now in
    let own = is_read c.args.pipeline.now c.args.source.now c.args.name.now in
    read_before c.args.self.now c.args.name.now c.args.source.now c.args.pipeline.now new
    (elim c.then-is_read.branch [
      | then-is_read-via-then-is_read w ↦ or-left others own cc
      | then-is_read-via-else-is_read+then-reads w ↦ or-right others own cc
    ])

pub returns-then-height_over-le-MOST_HEIGHT : goal.returns-then-height_over-le-MOST_HEIGHT
returns-then-height_over-le-MOST_HEIGHT c =
    let new : has_view c.args.name.now c.args.self.now ≡ false = cc in
    let others : reads_name c.args.self.now c.args.name.now ≡ false = cc in
    let own : is_read c.args.pipeline.now c.args.source.now c.args.name.now ≡ false = cc in
    let few : length c.args.self.now < most_views = omega arith in
    no_fault c.args.self.now c.args.name.now c.args.source.now c.args.pipeline.now new others own c.height_over.result few c.height_over.ensures c.if-height_over-le-MOST_HEIGHT.true

pub returns : goal.returns
returns c =
    let new : has_view c.args.name.now c.args.self.now ≡ false = cc in
    let others : reads_name c.args.self.now c.args.name.now ≡ false = cc in
    let own : is_read c.args.pipeline.now c.args.source.now c.args.name.now ≡ false = cc in
    elim c.else-len-lt-MOST_VIEWS.branch [
      | else-len-lt-MOST_VIEWS-via-then-len-lt-MOST_VIEWS+else-height_over-le-MOST_HEIGHT w ↦
          let few : length c.args.self.now < most_views = omega arith in
          too_high c.args.self.now c.args.name.now c.args.source.now c.args.pipeline.now new others own w.height_over.result few w.height_over.ensures w.if-height_over-le-MOST_HEIGHT.false
      | else-len-lt-MOST_VIEWS-via-else-len-lt-MOST_VIEWS w ↦
          let many : most_views ≤ length c.args.self.now = omega arith in
          too_many c.args.self.now c.args.name.now c.args.source.now c.args.pipeline.now new others own many
    ]
