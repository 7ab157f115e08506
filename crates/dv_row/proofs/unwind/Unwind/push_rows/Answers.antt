use Rattle.dv_row.specs.Inner.UnwoundRows.{rows_of_origin}
use Rattle.dv_row.proofs.OneByOne.{one-more}
use Rattle.dv_row.proofs.unwind.Unwind.push_rows.Goals as goal

pub places-preserved : goal.places-preserved
places-preserved c =
    one-more c.args.rows.now.items c.places.rows.items c.push.new.self.items c.in_ok-unwound.unwound (rows_of_origin c.unwound.inside.origin) c.places.place c.in_ok-row.field-0 c.unwound.view_is c.in_ok-row.ensures c.places.invariant c.in_ok-push.ensures.items
