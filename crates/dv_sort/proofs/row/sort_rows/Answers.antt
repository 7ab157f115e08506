use Rattle.std.proofs.Common.{◌≡◌, map, rules, subst, of_calls}
use Rattle.std.proofs.lemmas.Fn.{always_returns_same}
use Rattle.dv_path.specs.Parts.{part}
use Rattle.dv_sort.specs.declared.row.Row.{Row}
use Rattle.dv_sort.specs.Keys.{documents}
use Rattle.dv_sort.specs.Inner.Keys.{AreKeyed, keys_before}
use Rattle.dv_sort.specs.Sorting.{stable}
use Rattle.dv_sort.proofs.Kept.{sorted-documents}
use Rattle.dv_sort.proofs.Standing.{ranks-by-keys}
use Rattle.dv_sort.proofs.row.sort_rows.Goals as goal

pub returns-clause-ok : goal.returns-clause-ok
returns-clause-ok c =
    let parts = map part c.parts-parts.result.now in
    let xs = c.args.rows.now.items in
    let ys = c.sort_by.new.self.items in
    let ranks = ranks-by-keys parts (λ (row : Row). row.keys.items) in
    subst (λ p. AreKeyed p xs → documents ys ≡ stable p (documents xs)) c.parts-parts.ensures
    (λ keyed. sorted-documents parts xs ys keyed
    (c.in_ok-sort_by.ensures.sorted (keys_before parts) ranks (always_returns_same _ _ _ (λ a r f k. search (rules, of_calls))))
    (c.in_ok-sort_by.ensures.stable (keys_before parts) ranks (always_returns_same _ _ _ (λ a r f k. search (rules, of_calls)))))
    c.requires
