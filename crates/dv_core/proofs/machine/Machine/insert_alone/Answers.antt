use Rattle.std.proofs.Common.{◌≡◌, Ok, false, refl}
use Rattle.std.specs.String.{string_bytes}
use Rattle.dv_catalog.specs.State.{is_view}
use Rattle.dv_core.specs.Load.{namespace_in}
use Rattle.dv_core.specs.State.{State}
use Rattle.dv_core.specs.Storable.{storable}
use Rattle.dv_core.proofs.Alone.{load_done, load_stopped}
use Rattle.dv_core.proofs.machine.Machine.insert_alone.Goals as goal

pub returns-in-Err : goal.returns-in-Err
returns-in-Err c =
    let namespace = string_bytes c.in_ok-namespace.namespace in
    let old : State = record { catalog = c.self.inside.catalog.state; cursors = c.self.inside.cursors; marks = c.self.inside.catalog.marks } in
    let new : State = record { catalog = c.insert.new.self.state; cursors = c.self.inside.cursors; marks = c.insert.new.self.marks } in
    let named : namespace_in c.args.text.now ≡ Ok namespace = cc c.in_ok-namespace.ensures in
    let on : is_view namespace old.catalog.views ≡ false = cc in
    let stores : storable c.args.document.now ≡ Ok c.in_ok-stored.stored = cc c.in_ok-stored.ensures.stored in
    rw (← c.self.view_is)
    (load_stopped c.args.text.now namespace c.args.document.now c.in_ok-stored.stored old new named on stores c.in-Err.ensures.views refl c.in-Err.stopped (rw (← c.deref-2.ensures) c.in-Err.ensures.made) (rw (← c.deref-2.ensures) c.in-Err.ensures.marks))

pub returns : goal.returns
returns c =
    let namespace = string_bytes c.in_ok-namespace.namespace in
    let old : State = record { catalog = c.self.inside.catalog.state; cursors = c.self.inside.cursors; marks = c.self.inside.catalog.marks } in
    let new : State = record { catalog = c.insert.new.self.state; cursors = c.self.inside.cursors; marks = c.insert.new.self.marks } in
    let named : namespace_in c.args.text.now ≡ Ok namespace = cc c.in_ok-namespace.ensures in
    let on : is_view namespace old.catalog.views ≡ false = cc in
    let stores : storable c.args.document.now ≡ Ok c.in_ok-stored.stored = cc c.in_ok-stored.ensures.stored in
    rw (← c.self.view_is)
    (load_done c.args.text.now namespace c.args.document.now c.in_ok-stored.stored old new named on stores c.in_default.ensures.views refl (rw (← c.deref-2.ensures) c.in_default.ensures.made) (rw (← c.deref-2.ensures) c.in_default.ensures.marks))
