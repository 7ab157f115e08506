use Rattle.std.proofs.Common.{◌≡◌, ◌++◌, map}
use Rattle.std.specs.Vec.Iter.{into_iter_items}
use Rattle.dv_keyed.specs.Inner.Index.{form_of}
use Rattle.dv_keyed.specs.Inner.View.{form_of_new}
use Rattle.dv_catalog.specs.IndexMaking.{with_entries}
use Rattle.dv_catalog.proofs.indexing.fresh_among.Given as goal

-- the entries that are left, after the existing and the pending indexes, have the result of all entries
abbrev pub invariant-entries : goal.invariant-entries
invariant-entries l =
    with_entries (map form_of_new (into_iter_items l.entry-iterator)) (map form_of l.there ++ l.coming) ≡ with_entries (map form_of_new l.fn.entries.items) (map form_of l.there)
