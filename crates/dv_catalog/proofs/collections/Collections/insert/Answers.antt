use Rattle.std.proofs.Common.{◌∙◌}
use Rattle.std.proofs.lemmas.Result.{err_from_is_err_and}
use Rattle.dv_catalog.specs.Inner.View.{standing_by_namespace}
use Rattle.dv_catalog.proofs.ByNamespace.{collection-there, none-there, standing-written, same-written, makes_new, not_made}
use Rattle.dv_catalog.proofs.collections.Collections.insert.Goals as goal

pub returns-in_ok-put_new-in-Some : goal.returns-in_ok-put_new-in-Some
returns-in_ok-put_new-in-Some c =
    let written = c.put_new.new.collection in
    let name = c.args.namespace.now in
    let are = collection-there c.self.inside.collections name _ c.in-Some.ensures.value in
    rw (← c.self.view_is)
    (makes_new (standing_by_namespace c.self.inside.collections) name c.args.document _ are _ c.in_ok-put_new-in-Some.ensures.done
    (standing-written c.self.inside.collections (c.get_mut.follows.lender written) name _ written c.in-Some.ensures.value (c.get_mut.follows.holds written)
    ∙ rw c.in_ok-put_new-in-Some.ensures.ok))

pub returns-in_err-put_new-in-Some : goal.returns-in_err-put_new-in-Some
returns-in_err-put_new-in-Some c =
    let p = err_from_is_err_and c.from_residual.result c.from_residual.ensures.1 in
    let written = c.put_new.new.collection in
    let name = c.args.namespace.now in
    let are = collection-there c.self.inside.collections name _ c.in-Some.ensures.value in
    let same = standing-written c.self.inside.collections (c.get_mut.follows.lender written) name _ written c.in-Some.ensures.value (c.get_mut.follows.holds written) in
    let kept = same ∙ rw c.in_err-put_new-in-Some.ensures.err (same-written c.self.inside.collections name _ c.in-Some.ensures.value) in
    rw (← c.self.view_is) (not_made (standing_by_namespace c.self.inside.collections) name c.args.document _ are _ c.in_err-put_new-in-Some.field-0.0 c.from_residual.result p.0 p.1 p.2 c.in_err-put_new-in-Some.ensures.done kept)

pub insert_first-requires-clause-fresh : goal.insert_first-requires-clause-fresh
insert_first-requires-clause-fresh c = rw c.get_mut.follows.holds-at-none (none-there c.self.inside.collections c.args.namespace.now c.in-None.ensures.value)
