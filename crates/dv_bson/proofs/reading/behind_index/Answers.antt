use Rattle.std.proofs.Common.{◌≡◌, decimal, true, false, refl, sym, ◌∙◌}
use Rattle.std.specs.Str.{bytes_eq}
use Rattle.dv_bson.proofs.Fronts.{index_compared}
use Rattle.dv_bson.proofs.reading.behind_index.Goals as goal

pub returns-then-eq : goal.returns-then-eq
returns-then-eq c =
    let same : bytes_eq c.in_ok-name.name.now (decimal c.args.place) ≡ true = rw (← c.format.ensures.text) (sym c.eq.ensures ∙ c.if-eq.true) in
    λ seen here. index_compared c.args.place seen _ _ here c.in_ok-name.ensures ∙ rw same refl

pub returns-else-eq : goal.returns-else-eq
returns-else-eq c =
    let other : bytes_eq c.in_ok-name.name.now (decimal c.args.place) ≡ false = rw (← c.format.ensures.text) (sym c.eq.ensures ∙ c.if-eq.false) in
    λ seen here. index_compared c.args.place seen _ _ here c.in_ok-name.ensures ∙ rw other refl
