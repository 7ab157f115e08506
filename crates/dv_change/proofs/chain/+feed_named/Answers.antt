-- The changes that the operator returns lead from its old result to its new one; the operators after it take them in.
use Rattle.std.proofs.Common.{rules, ◌≡◌, ◌∙◌, ◌++◌, ◌∷◌, sym, ap}
use Rattle.dv_change.specs.declared.input.Input.TheVariants.{Named}
use Rattle.dv_change.specs.Inner.Linked.{first_left}
use Rattle.dv_change.specs.Work.{owed}
use Rattle.dv_change.specs.Inner.Answered.{ok-both}
use Rattle.dv_change.proofs.Linking.{behind-linked, owed-exact, owed-linked}
use Rattle.dv_change.proofs.chain.+feed_named.Goals as goal

pub feed_all-requires-clause-exact : goal.feed_all-requires-clause-exact
feed_all-requires-clause-exact g t c =
    let e : c.args.turns.now ≡ c.in-Some.first.now ∷ c.in-Some.behind.now = search rules in
    let l = behind-linked g.T.Turn.turning c.args.turns.now c.in-Some.first.now c.in-Some.behind.now e c.requires.linked in
    let out : c.change.new.out.items ≡ owed (Named c.args.place) c.args.change (g.T.Turn.turning.form c.in-Some.first.now) (g.T.Turn.turning.left c.in-Some.first.now) =
    c.in_ok-change.ensures.out ∙ ap (λ some. some ++ owed (Named c.args.place) c.args.change (g.T.Turn.turning.form c.in-Some.first.now) (g.T.Turn.turning.left c.in-Some.first.now)) c.new-handed.ensures.items in
    rw out (owed-exact g.T.Turn.turning g.met.T.Turn.positioned g.met.T.Turn.ordered c.in-Some.first.now c.change.new.self (Named c.args.place) c.args.change l.0 c.in_ok-change.ensures.sound c.in_ok-change.ensures.makes c.in_ok-change.ensures.left c.in_ok-change.ensures.others)

pub returns-in_ok-change-clause-linked : goal.returns-in_ok-change-clause-linked
returns-in_ok-change-clause-linked g t c =
    let e : c.args.turns.now ≡ c.in-Some.first.now ∷ c.in-Some.behind.now = search rules in
    let l = behind-linked g.T.Turn.turning c.args.turns.now c.in-Some.first.now c.in-Some.behind.now e c.requires.linked in
    let out : c.change.new.out.items ≡ owed (Named c.args.place) c.args.change (g.T.Turn.turning.form c.in-Some.first.now) (g.T.Turn.turning.left c.in-Some.first.now) =
    c.in_ok-change.ensures.out ∙ ap (λ some. some ++ owed (Named c.args.place) c.args.change (g.T.Turn.turning.form c.in-Some.first.now) (g.T.Turn.turning.left c.in-Some.first.now)) c.new-handed.ensures.items in
    ok-both c.feed_all.result c.feed_all.ensures.forms c.feed_all.ensures.linked (λ forms linked. (
      c.in_ok-change.ensures.sound,
      c.in_ok-change.ensures.left ∙ ap (λ ts. first_left g.T.Turn.turning ts) (sym e),
      owed-linked g.T.Turn.turning g.met.T.Turn.positioned g.met.T.Turn.ordered c.in-Some.first.now c.change.new.self c.in-Some.behind.now c.feed_all.new.turns (Named c.args.place) c.args.change c.change.new.out.items out
          l.0 c.in_ok-change.ensures.sound c.in_ok-change.ensures.makes c.in_ok-change.ensures.left c.in_ok-change.ensures.others l.1 forms linked,
    ))
