use Rattle.std.proofs.Common.{◌∙◌, inl, inr, sym}
use Rattle.dv_keyed.proofs.Between.{none-between, none-inside}
use Rattle.dv_keyed.proofs.interval.Interval.is_forward.Goals as goal

pub returns-in-Excluded-Excluded-clause-empty : goal.returns-in-Excluded-Excluded-clause-empty
returns-in-Excluded-Excluded-clause-empty c = λ no k. none-inside c.args.self.now.low c.args.self.now.high c.in-Excluded-Excluded.low c.in-Excluded-Excluded.high k c.in-Excluded-Excluded.is-0 c.in-Excluded-Excluded.is-1 (sym c.lt.ensures ∙ no)

pub returns-in-Excluded-Included-clause-empty : goal.returns-in-Excluded-Included-clause-empty
returns-in-Excluded-Included-clause-empty c = λ no k. none-between c.args.self.now.low c.args.self.now.high c.in-Excluded-Included.low c.in-Excluded-Included.high k (inr c.in-Excluded-Included.is-0) (inl c.in-Excluded-Included.is-1) (sym c.le.ensures ∙ no)

pub returns-in-Included-Excluded-clause-empty : goal.returns-in-Included-Excluded-clause-empty
returns-in-Included-Excluded-clause-empty c = λ no k. none-between c.args.self.now.low c.args.self.now.high c.in-Included-Excluded.low c.in-Included-Excluded.high k (inl c.in-Included-Excluded.is-0) (inr c.in-Included-Excluded.is-1) (sym c.le-in-Included-Excluded.ensures ∙ no)

pub returns-in-Included-Included-clause-empty : goal.returns-in-Included-Included-clause-empty
returns-in-Included-Included-clause-empty c = λ no k. none-between c.args.self.now.low c.args.self.now.high c.in-Included-Included.low c.in-Included-Included.high k (inl c.in-Included-Included.is-0) (inl c.in-Included-Included.is-1) (sym c.le-in-Included-Included.ensures ∙ no)
