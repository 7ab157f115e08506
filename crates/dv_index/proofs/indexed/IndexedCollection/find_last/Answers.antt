use Rattle.std.proofs.Common.{Bor, ◌∙◌, List, ap, filter, map, reverse, take}
use Rattle.dv_value.specs.Tree.{Field}
use Rattle.dv_match.specs.Match.{matches}
use Rattle.dv_index.specs.Indexed.{IndexedTree}
use Rattle.dv_index.proofs.Walks.{lent-from-last}
use Rattle.dv_index.proofs.indexed.IndexedCollection.find_last.Goals as goal

pub returns : goal.returns
returns c =
    let now = λ (d : Bor (List Field)). d.now in
    let test = matches c.args.filter.now in
    let most = c.args.most in
    ap (λ (ds : List (Bor (List Field))). map now ds) (c.truncate.ensures.items ∙ ap (take most) c.reverse.ensures.items)
    ∙ lent-from-last most c.in_ok-found.found.items (filter test c.self.inside.documents) c.in_ok-found.ensures
    ∙ ap (λ (all : IndexedTree). take most (reverse (filter test all.documents))) c.self.view_is
