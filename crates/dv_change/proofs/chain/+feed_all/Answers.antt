-- The changes that the first operator returns lead from its old result to its new one; the operators after it take them in.
use Rattle.std.proofs.Common.{rules, ◌≡◌, ◌∙◌, ◌++◌, ◌∷◌, sym, ap}
use Rattle.std.specs.List.{AllByRecursion}
use Rattle.dv_change.specs.Changes.{with_changes}
use Rattle.dv_change.specs.Inner.Changes.{IsExactChange}
use Rattle.dv_change.specs.Inner.Linked.{AreLinked, changes_of_one, first_left}
use Rattle.dv_change.specs.Inner.Answered.{ok-both, ok-one}
use Rattle.dv_change.proofs.Linking.{behind-linked, fed-exact, fed-linked, first-linked, more-ticks}
use Rattle.dv_change.proofs.chain.+feed_all.Goals as goal

pub feed_all-requires : goal.feed_all-requires
feed_all-requires g t c =
    let e : c.args.turns.now ≡ c.in-Some.first.now ∷ c.in-Some.behind.now = search rules in
    let l = behind-linked g.T.Turn.turning c.args.turns.now c.in-Some.first.now c.in-Some.behind.now e c.requires.linked in
    let out : c.feed.new.out.items ≡ changes_of_one g.T.Turn.turning c.args.changes.items c.in-Some.first.now =
    c.in_ok-feed.ensures.out ∙ ap (λ some. some ++ changes_of_one g.T.Turn.turning c.args.changes.items c.in-Some.first.now) c.new-handed.ensures.items in
    let linked : AreLinked g.T.Turn.turning c.in-Some.behind.now =
    first-linked g.T.Turn.turning c.in-Some.behind.now _ l.1 in
    let exact : AllByRecursion IsExactChange c.feed.new.out.items =
    rw out (fed-exact g.T.Turn.turning g.met.T.Turn.positioned g.met.T.Turn.ordered c.in-Some.first.now c.args.changes.items l.0 c.requires.exact) in
    search rules

pub returns-clause-linked : goal.returns-clause-linked
returns-clause-linked g t c =
    let e : c.args.turns.now ≡ c.in-Some.first.now ∷ c.in-Some.behind.now = search rules in
    let l = behind-linked g.T.Turn.turning c.args.turns.now c.in-Some.first.now c.in-Some.behind.now e c.requires.linked in
    let out : c.feed.new.out.items ≡ changes_of_one g.T.Turn.turning c.args.changes.items c.in-Some.first.now =
    c.in_ok-feed.ensures.out ∙ ap (λ some. some ++ changes_of_one g.T.Turn.turning c.args.changes.items c.in-Some.first.now) c.new-handed.ensures.items in
    ok-both c.feed_all.result c.feed_all.ensures.forms c.feed_all.ensures.linked (λ forms linked. (
      c.in_ok-feed.ensures.sound,
      c.in_ok-feed.ensures.left ∙ ap (λ ts. with_changes (first_left g.T.Turn.turning ts) c.args.changes.items) (sym e),
      fed-linked g.T.Turn.turning g.met.T.Turn.positioned g.met.T.Turn.ordered c.in-Some.first.now c.feed.new.turn c.in-Some.behind.now c.feed_all.new.turns c.args.changes.items c.feed.new.out.items out
          l.0 c.requires.exact c.in_ok-feed.ensures.makes c.in_ok-feed.ensures.left c.in_ok-feed.ensures.others l.1 forms linked,
    ))

pub returns-clause-ticks : goal.returns-clause-ticks
returns-clause-ticks g t c =
    let e : c.args.turns.now ≡ c.in-Some.first.now ∷ c.in-Some.behind.now = search rules in
    let l = behind-linked g.T.Turn.turning c.args.turns.now c.in-Some.first.now c.in-Some.behind.now e c.requires.linked in
    let out : c.feed.new.out.items ≡ changes_of_one g.T.Turn.turning c.args.changes.items c.in-Some.first.now =
    c.in_ok-feed.ensures.out ∙ ap (λ some. some ++ changes_of_one g.T.Turn.turning c.args.changes.items c.in-Some.first.now) c.new-handed.ensures.items in
    ok-one c.feed_all.result c.feed_all.ensures.ticks (λ ticks.
    more-ticks g.T.Turn.turning c.args.turns.now c.in-Some.first.now c.in-Some.behind.now c.args.ticks.now c.feed.new.ticks c.feed_all.new.ticks c.args.changes.items c.feed.new.out.items e out l.1 c.in_ok-feed.ensures.ticks ticks)
