use Rattle.std.proofs.Common.{◌≡◌, arith, tests, sym, ◌∙◌, false, nat_lt}
use Rattle.dv_candidates.proofs.Bits.{tested, too_far}
use Rattle.dv_candidates.proofs.places.Places.has.Goals as goal

pub returns-then-place-lt64-clause-place : goal.returns-then-place-lt64-clause-place
returns-then-place-lt64-clause-place c = tested c.args.self.mask c.args.place (omega arith)

pub returns-else-place-lt64-clause-place : goal.returns-else-place-lt64-clause-place
returns-else-place-lt64-clause-place c =
    let no : nat_lt c.args.place 64 ≡ false = grind (arith, tests) in
    no ∙ sym (too_far c.args.self c.args.place c.if-place-lt64.false)
