-- A state as a ghost value, one to one: so a proof can tell two states apart.
use Rattle.std.specs.Prelude.{refl}
use Rattle.std.specs.Coded.{Coded, code_by, coded×}
use Rattle.dv_catalog.specs.Marks.{Marked}
use Rattle.dv_catalog.specs.Inner.StateCode as codes
use Rattle.dv_cursor.specs.Cursors.{Cursors}
use Rattle.dv_cursor.specs.Inner.CursorsCode.{coded_cursors}
use Rattle.dv_core.specs.State.{State, marked}

abbrev pub coded_store_state : Coded State
coded_store_state =
    code_by (Marked × Cursors) (coded× codes.coded_marked coded_cursors)
    (λ s. (marked s, s.cursors)) (λ parts. record { catalog = parts.0.state; cursors = parts.1; marks = parts.0.marks }) (λ _. refl)
