use Rattle.std.proofs.Common.{Bor, ◌≡◌, ◌∙◌, ◌||◌, ◌&&◌, ap, map, refl, sym, Bool, true, false}
use Rattle.std.specs.Ordering.{is_lt}
use Rattle.std.proofs.lemmas.Result.{on_ok_weaker}
use Rattle.dv_order.specs.Key.{KeyTree, key_order}
use Rattle.dv_keyed.specs.Inner.Ahead.{is_until}
use Rattle.dv_keyed.specs.Inner.Keys.{has_key}
use Rattle.dv_keyed.specs.Inner.Pairs.{has_pair}
use Rattle.dv_keyed.proofs.before.add_tied.Goals as goal
use Rattle.dv_keyed.specs.Inner.PairLaws.{same-key}

both-there : (a b c : Bool) → b ≡ true → c ≡ true → a || (b && c) ≡ true
both-there true b c e f = refl
both-there false b c e f = ap (λ x. x && c) e ∙ f

still-there : (a b : Bool) → a ≡ true → a || b ≡ true
still-there a b e = ap (λ x. x || b) e

pub returns-in-Some-clause-added : goal.returns-in-Some-clause-added
returns-in-Some-clause-added c = on_ok_weaker c.add_ids_until.result (λ known k i equal until there.
    let bar = c.args.bar.now in
    known i
    ∙ both-there (has_key i (map (λ (l : Bor KeyTree). l.now) c.args.ids.now.items)) (has_pair bar.key.now i c.args.index.now) (is_lt (key_order i c.in-Some.until.now))
    (sym (same-key k bar.key.now i c.args.index.now equal) ∙ there)
    (ap (is_until i) (sym c.in-Some.is) ∙ until)) c.add_ids_until.ensures

pub returns-in-Some-clause-kept : goal.returns-in-Some-clause-kept
returns-in-Some-clause-kept c = on_ok_weaker c.add_ids_until.result (λ known i there.
    known i ∙ still-there (has_key i (map (λ (l : Bor KeyTree). l.now) c.args.ids.now.items)) _ there) c.add_ids_until.ensures

pub returns-in-None-clause-added : goal.returns-in-None-clause-added
returns-in-None-clause-added c = λ k i equal until there.
    let wrong : true ≡ false = sym until ∙ ap (is_until i) c.in-None.is in
    absurd cc
