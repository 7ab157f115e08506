use Rattle.std.proofs.Common.{◌+◌, ◌∙◌, ◌||◌, List, arith, drop, map, ap, subst, sym}
use Rattle.std.proofs.lemmas.List.{drop_all}
use Rattle.dv_index.specs.Inner.Change.{UniqueAreIndexesOf}
use Rattle.dv_keyed.specs.Inner.Index.{IndexTree, form_of}
use Rattle.dv_index.specs.Inner.View.{afters}
use Rattle.dv_index.specs.Unique as defined
use Rattle.dv_index.proofs.Tried.{first-by-itself, none-clashes}
use Rattle.dv_index.proofs.unique.replacing_clashes.Goals as goal
use Rattle.dv_value.specs.Inner.ListLaws.{drop-read}

pub returns-then-branch : goal.returns-then-branch
returns-then-branch c =
    let those = afters c.args.each.now in
    let ds = c.args.documents.now in
    let index = c.index-item.result in
    let rest = drop (c.indexes.index-index + 1) c.args.indexes.now in
    sym (ap (λ b. b || defined.replacing_clashes (map form_of rest) those ds) (sym c.in_ok-replacing_clashes_in.ensures ∙ c.if-branch.true))
    ∙ sym (first-by-itself (form_of index) (map form_of rest) those ds)
    ∙ ap (λ (xs : List IndexTree). defined.replacing_clashes (map form_of xs) those ds) (sym (drop-read c.args.indexes.now c.indexes.index-index index c.indexes-test.true c.index-item.is))
    ∙ c.indexes.invariant.whole

pub indexes-preserved : goal.indexes-preserved
indexes-preserved c =
    let those = afters c.args.each.now in
    let ds = c.args.documents.now in
    let index = c.index-item.result in
    let rest = drop (c.indexes.index-index + 1) c.args.indexes.now in
    let here = drop-read c.args.indexes.now c.indexes.index-index index c.indexes-test.true c.index-item.is in
    record {
      whole =
          sym (ap (λ b. b || defined.replacing_clashes (map form_of rest) those ds) (sym c.in_ok-replacing_clashes_in.ensures ∙ c.if-branch.false))
          ∙ sym (first-by-itself (form_of index) (map form_of rest) those ds)
          ∙ ap (λ (xs : List IndexTree). defined.replacing_clashes (map form_of xs) those ds) (sym here)
          ∙ c.indexes.invariant.whole;
      indexed = (subst (λ (xs : List IndexTree). UniqueAreIndexesOf xs ds) here c.indexes.invariant.indexed).1;
    }

pub returns : goal.returns
returns c =
    let those = afters c.args.each.now in
    let ds = c.args.documents.now in
    let none = drop_all c.indexes.index-index c.args.indexes.now (omega (arith, c.indexes-test.false)) in
    sym (none-clashes those ds) ∙ ap (λ (xs : List IndexTree). defined.replacing_clashes (map form_of xs) those ds) (sym none) ∙ c.indexes.invariant.whole
