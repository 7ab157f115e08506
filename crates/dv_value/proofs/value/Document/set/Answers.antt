use Rattle.std.proofs.Common.{◌≡◌, ◌∙◌, rules}
use Rattle.dv_value.specs.View.{tree}
use Rattle.dv_value.proofs.Pushed.{given_back}
use Rattle.dv_value.proofs.value.Document.set.Goals as goal

pub returns-in_err-reserve_one-in-Some-clause-err : goal.returns-in_err-reserve_one-in-Some-clause-err
returns-in_err-reserve_one-in-Some-clause-err c =
    let new = given_back c.args.name.now (tree c.args.value) (tree c.in-Some.value) c.args.self.now c.put.new.self (rw c.in-Some.is at c.in_ok-value.ensures.back) c.in_ok-value.ensures.ok in
    let same : c.reserve_one.new.self ≡ c.args.self.now = c.reserve_one.ensures ∙ new.2 in
    search (rules, same)

pub add-requires-clause-fresh : goal.add-requires-clause-fresh
add-requires-clause-fresh c =
    let new = given_back c.args.name.now (tree c.args.value) (tree c.in-Some.value) c.args.self.now c.put.new.self (rw c.in-Some.is at c.in_ok-value.ensures.back) c.in_ok-value.ensures.ok in
    rw (c.reserve_one.ensures, new.2) new.0

pub returns-in_ok-reserve_one-in-Some-clause-ok : goal.returns-in_ok-reserve_one-in-Some-clause-ok
returns-in_ok-reserve_one-in-Some-clause-ok c =
    let new = given_back c.args.name.now (tree c.args.value) (tree c.in-Some.value) c.args.self.now c.put.new.self (rw c.in-Some.is at c.in_ok-value.ensures.back) c.in_ok-value.ensures.ok in
    rw new.0 (rw (c.reserve_one.ensures, new.2, new.1) at c.add.ensures.ok)

pub returns-in_ok-reserve_one-in-Some-clause-err : goal.returns-in_ok-reserve_one-in-Some-clause-err
returns-in_ok-reserve_one-in-Some-clause-err c =
    let new = given_back c.args.name.now (tree c.args.value) (tree c.in-Some.value) c.args.self.now c.put.new.self (rw c.in-Some.is at c.in_ok-value.ensures.back) c.in_ok-value.ensures.ok in
    rw (c.reserve_one.ensures, new.2) at c.add.ensures.err
