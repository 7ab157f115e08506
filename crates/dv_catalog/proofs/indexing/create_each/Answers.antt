use Rattle.std.proofs.Common.{◌≡◌, ◌++◌, false, length, map, nat_lt, arith}
use Rattle.std.proofs.lemmas.Grind.{common_steps}
use Rattle.std.proofs.lemmas.Result.{err_from_is_err_and}
use Rattle.dv_keyed.specs.Inner.View.{form_of_new}
use Rattle.dv_catalog.specs.IndexMaking.{index_limit}
use Rattle.dv_catalog.proofs.ByEntry.{not_made}
use Rattle.dv_catalog.proofs.indexing.create_each.Goals as goal

pub returns-in_err-create_indexes-clause-made : goal.returns-in_err-create_indexes-clause-made
returns-in_err-create_indexes-clause-made c =
    let old = c.args.collection.now in
    let more = map form_of_new c.in_ok-fresh.fresh.items in
    let p = err_from_is_err_and c.from_residual-in_err-create_indexes.result c.from_residual-in_err-create_indexes.ensures.1 in
    let come = rw c.indexes.ensures at c.in_ok-fresh.ensures in
    let within : nat_lt index_limit (length (old.indexes ++ more)) ≡ false = grind (arith, common_steps, c.indexes-before.ensures, c.len-more.ensures, c.if-before-gt-INDEX_LIMIT.false, c.if-more-before.false) in
    not_made (map form_of_new c.args.entries.items) more old come within c.in_err-create_indexes.field-0.0 c.from_residual-in_err-create_indexes.result p.0 c.create_indexes.new.self p.1 p.2 c.in_err-create_indexes.ensures.duplicate c.in_err-create_indexes.ensures.err
