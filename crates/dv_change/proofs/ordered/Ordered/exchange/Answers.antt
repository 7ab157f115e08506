-- The new value comes before all others, in place of the first or among the others.
use Rattle.std.proofs.Common.{rules, ◌≡◌, ◌∙◌, ap, sym, Some, None}
use Rattle.std.specs.declared.cmp.Ordering.TheVariants.{Less, Greater}
use Rattle.dv_change.specs.Inner.Ordered.{found_at, put}
use Rattle.dv_change.specs.Inner.OrderedView.{in_all}
use Rattle.dv_change.specs.Positions.{pos_order}
use Rattle.dv_change.specs.Inner.RowLaws.{below}
use Rattle.dv_change.proofs.Fronts.{none-there, some-there, positioned-one, positioned-less, positioned-greater, put-less}
use Rattle.dv_change.proofs.ordered.Ordered.exchange.Goals as goal

pub invariant_of-result : goal.invariant_of-result
invariant_of-result g c =
    let first : c.self.inside.first ≡ None = search rules in
    positioned-one c.args.pos c.args.value c.self.inside.others.entries (none-there c.self.inside.first c.self.inside.others.entries first c.self.invariant) c.law_exact.ensures

pub invariant_of-result-in-Less : goal.invariant_of-result-in-Less
invariant_of-result-in-Less g c =
    let first : c.self.inside.first ≡ Some (c.in-Some.at, c.in-Some.there) = search rules in
    let are = some-there c.self.inside.first (c.in-Some.at, c.in-Some.there) c.self.inside.others.entries first c.self.invariant in
    let less : pos_order c.args.pos c.in-Some.at ≡ Less = search rules in
    positioned-less c.args.pos c.args.value c.in-Some.at c.in-Some.there c.self.inside.others.entries c.insert.new.self.entries are c.law_exact.ensures less c.in_ok-insert-in-Less.ensures.entries

pub invariant_of-result-in-Greater : goal.invariant_of-result-in-Greater
invariant_of-result-in-Greater g c =
    let first : c.self.inside.first ≡ Some (c.in-Some.at, c.in-Some.there) = search rules in
    let are = some-there c.self.inside.first (c.in-Some.at, c.in-Some.there) c.self.inside.others.entries first c.self.invariant in
    let greater : pos_order c.args.pos c.in-Some.at ≡ Greater = search rules in
    positioned-greater c.args.pos c.args.value c.in-Some.at c.in-Some.there c.self.inside.others.entries c.insert-in-Greater.new.self.entries are c.law_exact.ensures greater c.in_ok-stood-in-Greater.ensures.entries

pub returns-in_ok-insert-in-Less-clause-values : goal.returns-in_ok-insert-in-Less-clause-values
returns-in_ok-insert-in-Less-clause-values g c =
    let first : c.self.inside.first ≡ Some (c.in-Some.at, c.in-Some.there) = search rules in
    let are = some-there c.self.inside.first (c.in-Some.at, c.in-Some.there) c.self.inside.others.entries first c.self.invariant in
    let less : pos_order c.args.pos c.in-Some.at ≡ Less = search rules in
    put-less c.args.pos c.args.value c.in-Some.at c.in-Some.there c.self.inside.others.entries c.insert.new.self.entries are c.law_exact.ensures less c.in_ok-insert-in-Less.ensures.entries
    ∙ ap (put c.args.pos c.args.value) (ap (λ f. in_all f c.self.inside.others.entries) (sym first) ∙ c.self.view_is)

pub returns-in_ok-insert-in-Less-clause-stood : goal.returns-in_ok-insert-in-Less-clause-stood
returns-in_ok-insert-in-Less-clause-stood g c =
    let first : c.self.inside.first ≡ Some (c.in-Some.at, c.in-Some.there) = search rules in
    let are = some-there c.self.inside.first (c.in-Some.at, c.in-Some.there) c.self.inside.others.entries first c.self.invariant in
    let less : pos_order c.args.pos c.in-Some.at ≡ Less = search rules in
    sym (below c.args.pos (c.in-Some.at, c.in-Some.there) c.self.inside.others.entries are less)
    ∙ ap (found_at c.args.pos) (ap (λ f. in_all f c.self.inside.others.entries) (sym first) ∙ c.self.view_is)
