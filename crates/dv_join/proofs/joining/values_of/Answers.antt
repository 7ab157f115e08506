-- For each value that is added, one row less is left.
use Rattle.std.proofs.Common.{rules, ◌≡◌, ◌∙◌, ◌∷◌, ◌++◌, [], ap, append-nil, append_assoc, drop, map, slice_get, sym, List, None, Some}
use Rattle.std.proofs.lemmas.List.{map-append}
use Rattle.dv_value.specs.Tree.{Field, Tree}
use Rattle.dv_value.specs.View.{tree}
use Rattle.dv_change.specs.Changes.{Positioned, forget}
use Rattle.dv_change.specs.Positions.{PosTree}
use Rattle.dv_gather.specs.Joining.{as_value}
use Rattle.dv_join.proofs.Rows.{first-of, none-of}
use Rattle.dv_join.proofs.joining.values_of.Goals as goal

-- the rows as values
abbrev values : Positioned → List Tree
values rows = map as_value (forget rows)

pub returns-in_default : goal.returns-in_default
returns-in_default c =
    let none : slice_get c.args.rows.now 0 ≡ None = search rules in
    c.of.ensures ∙ ap (map tree) c.in_ok-values.ensures.items ∙ ap values (sym (none-of c.args.rows.now none))

pub others-init : goal.others-init
others-init c =
    let row : PosTree × List Field = (c.in-Some.field-0-0.now, c.in-Some.row.now) in
    let first : slice_get c.args.rows.now 0 ≡ Some row = search rules in
    let rest : c.into_iter-row-iterator.result ≡ drop 1 c.args.rows.now = search rules in
    let one : map tree c.push.new.self.items ≡ as_value row.1 ∷ [] = search rules in
    (λ i. one i ++ values (rest i)) ∙ ap values (sym (first-of c.args.rows.now row first))

pub others-preserved : goal.others-preserved
others-preserved c =
    let row : PosTree × List Field = (c.in-Some-2.field-0-0.now, c.in-Some-2.row.now) in
    let step : c.others.row-iterator ≡ row ∷ c.next.new.self = search rules in
    let old = c.others.values.items in
    let rest = values c.next.new.self in
    ap (λ vs. map tree vs ++ rest) c.in_ok-push-2.ensures.items
    ∙ ap (λ vs. vs ++ rest) (map-append tree old _)
    ∙ ap (λ d. (map tree old ++ as_value d ∷ []) ++ rest) c.in_ok-try_clone-2.ensures
    ∙ append_assoc (map tree old) (as_value row.1 ∷ []) rest
    ∙ ap (λ es. map tree old ++ values es) (sym step)
    ∙ c.others.invariant

pub returns : goal.returns
returns c =
    let all = map tree c.others.values.items in
    let none : c.others.row-iterator ≡ [] = search rules in
    c.of-2.ensures ∙ sym (append-nil all) ∙ ap (λ es. all ++ values es) (sym none) ∙ c.others.invariant
