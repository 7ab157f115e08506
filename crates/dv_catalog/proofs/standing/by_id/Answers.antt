use Rattle.std.proofs.Common.{ℕ, List, subst}
use Rattle.std.specs.List.{AllByRecursion}
use Rattle.dv_coll.specs.Collection.{HasId}
use Rattle.dv_catalog.specs.State.{documents_of, lists_of}
use Rattle.dv_catalog.proofs.standing.by_id.Goals as goal

pub by_id-requires : goal.by_id-requires
by_id-requires c =
    c.in_ok-standing.ensures.ids (lists_of c.args.collections.now) c.requires
    (subst (λ (name : List ℕ). AllByRecursion HasId (documents_of name c.args.collections.now)) c.base.ensures c.law_ordered.ensures.1)
