use Rattle.std.proofs.Common.{◌∙◌, ap, sym, not, is_some}
use Rattle.dv_coll.specs.Collection.{found}
use Rattle.dv_index.proofs.Built.{kept-whole, not-replaced, some-of-map}
use Rattle.dv_index.proofs.indexed.IndexedCollection.replace.Goals as goal

pub returns-then-is_none-clause-ok : goal.returns-then-is_none-clause-ok
returns-then-is_none-clause-ok c =
    kept-whole _ c.args.self.now c.self.view_is c.args.document
    (not-replaced c.args.document c.self.inside.documents (ap is_some (ap (λ k. found k c.self.inside.documents) (sym c.in_ok-id.ensures) ∙ sym c.get.ensures) ∙ some-of-map _ c.get.result ∙ c.is_none.ensures ∙ ap not c.if-is_none.true))
