-- Cursors as a ghost value, one to one: so a proof can tell two states of cursors apart.
use Rattle.std.specs.Prelude.{ℕ, List, refl}
use Rattle.std.specs.Coded.{Coded, code_by, coded_list, coded×, coded_ℕ}
use Rattle.std.specs.FinMap as finite
use Rattle.dv_value.specs.Tree.{Field}
use Rattle.dv_value.specs.Inner.TreeCode.{coded_tree}
use Rattle.dv_cursor.specs.Cursors.{Cursor, Cursors, place_cmp}

abbrev pub coded_batch : Coded (List (List Field))
coded_batch = coded_list (coded_list (coded× (coded_list coded_ℕ) coded_tree))

abbrev pub coded_cursor : Coded Cursor
coded_cursor =
    code_by (List ℕ × List (List Field)) (coded× (coded_list coded_ℕ) coded_batch)
    (λ c. (c.namespace, c.rows)) (λ parts. record { namespace = parts.0; rows = parts.1 }) (λ _. refl)

abbrev pub coded_cursors : Coded Cursors
coded_cursors =
    code_by (finite.FinMap place_cmp Cursor × ℕ) (coded× (finite.code (coded× coded_ℕ coded_ℕ) coded_cursor) coded_ℕ)
    (λ c. (c.kept, c.next)) (λ parts. record { kept = parts.0; next = parts.1 }) (λ _. refl)
