use Rattle.std.proofs.Common.{◌∙◌, List, ap, map, sym, subst}
use Rattle.dv_index.specs.Inner.Change.{AreIndexesOf}
use Rattle.dv_keyed.specs.Inner.Index.{IndexTree, form_of}
use Rattle.dv_index.proofs.Built.{dropped-whole, forms-kept, kept-indexes}
use Rattle.dv_index.proofs.indexed.IndexedCollection.drop_index.Goals as goal

pub invariant_of-self : goal.invariant_of-self
invariant_of-self c =
    subst (λ (xs : List IndexTree). AreIndexesOf xs c.self.inside.documents) (sym c.remove.ensures.indexes) (kept-indexes c.args.name.now c.self.inside.indexes c.self.inside.documents c.remove.ensures.id_first c.self.invariant)

pub returns-clause-indexes : goal.returns-clause-indexes
returns-clause-indexes c =
    dropped-whole _ c.args.self.now c.self.view_is c.args.name.now _ (ap (map form_of) c.remove.ensures.indexes ∙ forms-kept c.args.name.now c.self.inside.indexes)
