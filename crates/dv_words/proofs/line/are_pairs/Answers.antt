use Rattle.std.proofs.Common.{length, sym, ◌∙◌}
use Rattle.std.proofs.lemmas.Bool.{eqb-true, eqb-false}
use Rattle.dv_words.proofs.Pairs.{last_pair, more_pairs, fewer_pairs, no_pair}
use Rattle.dv_words.proofs.line.are_pairs.Goals as goal

pub returns-then-is_empty-clause-yes : goal.returns-then-is_empty-clause-yes
returns-then-is_empty-clause-yes c e = c.pairs.invariant.0 (last_pair _ _ c.in-Some.ensures (eqb-true (length c.in-Some.behind.now) 0 (sym c.is_empty.ensures ∙ c.if-is_empty.true)))

pub pairs-preserved : goal.pairs-preserved
pairs-preserved c = (
  λ h. c.pairs.invariant.0 (more_pairs _ _ _ c.in-Some.ensures c.behind_spaces-rest.ensures h),
  λ h. fewer_pairs _ _ _ c.in-Some.ensures (eqb-false (length c.in-Some.behind.now) 0 (sym c.is_empty.ensures ∙ c.if-is_empty.false)) c.behind_spaces-rest.ensures (c.pairs.invariant.1 h),
)

pub returns-clause-no : goal.returns-clause-no
returns-clause-no c h = absurd (no_pair _ c.in_default.ensures (c.pairs.invariant.1 h))
