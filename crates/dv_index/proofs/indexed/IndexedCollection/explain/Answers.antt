use Rattle.std.proofs.Common.{◌∙◌, List, ap, map}
use Rattle.dv_keyed.specs.Choice.{chosen}
use Rattle.dv_keyed.specs.Inner.Index.{IndexTree, form_of}
use Rattle.dv_keyed.specs.Inner.ListLaws.{paths-of-forms}
use Rattle.dv_index.specs.Indexed.{IndexedTree, documents_covered, index_chosen, name_at}
use Rattle.dv_index.specs.Search.{covered}
use Rattle.dv_index.proofs.indexed.IndexedCollection.explain.Goals as goal

pub returns-clause-index : goal.returns-clause-index
returns-clause-index c =
    let xs = c.self.inside.indexes in
    c.name_of.ensures
    ∙ ap (λ p. name_at p (map form_of xs)) (c.choose-plan.ensures ∙ ap (λ (ys : List IndexTree). chosen c.args.filter.now (map (λ (x : IndexTree). x.path) ys)) c.as_slice.ensures.indexes ∙ ap (chosen c.args.filter.now) (paths-of-forms xs))
    ∙ ap (λ (x : IndexedTree). index_chosen c.args.filter.now x.indexes) c.self.view_is

pub returns-clause-documents : goal.returns-clause-documents
returns-clause-documents c =
    let xs = c.self.inside.indexes in
    c.in_ok-covered.ensures
    ∙ ap (λ p. covered p (map (λ (x : IndexTree). x.path) xs) c.self.inside.documents) (c.choose-plan.ensures ∙ ap (λ (ys : List IndexTree). chosen c.args.filter.now (map (λ (x : IndexTree). x.path) ys)) c.as_slice.ensures.indexes)
    ∙ ap (λ ps. covered (chosen c.args.filter.now ps) ps c.self.inside.documents) (paths-of-forms xs)
    ∙ ap (documents_covered c.args.filter.now) c.self.view_is
