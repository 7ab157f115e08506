use Rattle.std.proofs.Common.{Bor, ◌∙◌, ◌++◌, List, map, ap, sym, append-nil}
use Rattle.dv_value.specs.Tree.{Field}
use Rattle.dv_index.proofs.Picked.{as-list, one-more, under}
use Rattle.dv_index.proofs.search.add_document.Goals as goal

pub returns-in_ok-push-in-Some : goal.returns-in_ok-push-in-Some
returns-in_ok-push-in-Some c =
    let seen = map (λ (d : Bor (List Field)). d.now) in
    let found = c.args.found.now.items in
    ap seen c.in_ok-push-in-Some.ensures.items
    ∙ one-more found c.in-Some.document
    ∙ ap (λ es. seen found ++ es) (ap as-list c.in-Some.ensures ∙ sym (under c.args.id.now c.args.collection.now c.law_ascending.ensures.ascending))

pub returns-in-None : goal.returns-in-None
returns-in-None c =
    let found = map (λ (d : Bor (List Field)). d.now) c.args.found.now.items in
    sym (append-nil found) ∙ ap (λ es. found ++ es) (ap as-list c.in-None.ensures ∙ sym (under c.args.id.now c.args.collection.now c.law_ascending.ensures.ascending))
