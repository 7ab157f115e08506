use Rattle.std.proofs.Common.{Bor, ◌∙◌, ◌++◌, List, map, ap, filter}
use Rattle.std.specs.Ordering.{is_eq}
use Rattle.dv_value.specs.Tree.{Field}
use Rattle.dv_coll.specs.Collection.{id_key}
use Rattle.dv_order.specs.Key.{KeyTree, key_order}
use Rattle.dv_index.proofs.search.with_id.Goals as goal

pub returns : goal.returns
returns c =
    let under = λ (k : KeyTree). filter (λ d. is_eq (key_order (id_key d) k)) c.args.collection.now in
    c.in_ok-add_document.ensures
    ∙ ap (λ (ds : List (Bor (List Field))). map (λ (d : Bor (List Field)). d.now) ds ++ under c.in_ok-key.key) c.new-found.ensures.items
    ∙ ap under c.in_ok-key.ensures
