use Rattle.std.proofs.Common.{◌≡◌, ◌∙◌, ◌&&◌, ap, arith, sym, subst, tests, true, false}
use Rattle.std.specs.List.{list_all}
use Rattle.std.proofs.lemmas.List.Folds.{list_all-append}
use Rattle.dv_match.specs.Inner.Asked.{parts}
use Rattle.dv_match.specs.Inner.Blocks.{has_equal}
use Rattle.dv_match.specs.Inner.Choices.{Ascend}
use Rattle.dv_match.proofs.Marked.{all-marked, front-ascends, back-ascends}
use Rattle.dv_match.proofs.marks.have_equals.Goals as goal

pub marks_of-requires : goal.marks_of-requires
marks_of-requires c =
    let cut = c.split_at.result in
    record {
      ascending = front-ascends cut.0.now cut.1.now (subst Ascend c.split_at.ensures.by_index.0 c.each_block.invariant.1);
      some = grind (arith, tests, c.is_empty.ensures, c.each_block-test.true);
      few = omega arith;
    }

pub returns-then-not-are_on_first : goal.returns-then-not-are_on_first
returns-then-not-are_on_first c =
    let p = has_equal (parts c.args.place) in
    let cut = c.split_at.result in
    let block : false ≡ list_all p cut.0.now = all-marked cut.0.now (parts c.args.place) c.marks_of.result c.marks_of.ensures false c.if-not-are_on_first.ensures in
    sym (c.each_block.invariant.0 ∙ ap (list_all p) c.split_at.ensures.by_index.0 ∙ list_all-append p cut.0.now cut.1.now ∙ ap (λ b. b && list_all p cut.1.now) (sym block))

pub each_block-preserved : goal.each_block-preserved
each_block-preserved c =
    let p = has_equal (parts c.args.place) in
    let cut = c.split_at.result in
    let block : true ≡ list_all p cut.0.now = all-marked cut.0.now (parts c.args.place) c.marks_of.result c.marks_of.ensures true c.if-not-are_on_first.ensures in (
      c.each_block.invariant.0 ∙ ap (list_all p) c.split_at.ensures.by_index.0 ∙ list_all-append p cut.0.now cut.1.now ∙ ap (λ b. b && list_all p cut.1.now) (sym block),
      back-ascends cut.0.now cut.1.now (subst Ascend c.split_at.ensures.by_index.0 c.each_block.invariant.1),
    )
