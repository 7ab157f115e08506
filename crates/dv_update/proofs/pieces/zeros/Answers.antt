use Rattle.std.proofs.Common.{◌≡◌, ap, ℕ, ◌-◌, length, arith, rules}
use Rattle.std.proofs.Math.ListN.{replicate}
use Rattle.std.proofs.lemmas.List.{length-replicate}
use Rattle.dv_value.specs.Inner.Spelled.{length_binary}
use Rattle.dv_update.proofs.pieces.zeros.Goals as goal

pub returns-clause-long : goal.returns-clause-long
returns-clause-long c = λ enough.
    let zero : ℕ = 0 in
    let filled : c.of.result ≡ replicate (c.args.size - 5) zero = search (rules, c.of.ensures, c.in_ok-bytes.ensures.items_if_clones_equal, c.saturating_sub.ensures) in
    omega (arith, ap length filled, length_binary 0 c.of.result, length-replicate (c.args.size - 5) zero)
