use Rattle.std.proofs.Common.{◌≡◌, ◌∙◌, ◌++◌, ◌∷◌, [], List, Result, Ok, Err, ap, sym, map, refl, rules, append_assoc}
use Rattle.std.proofs.lemmas.List.{map-append}
use Rattle.dv_value.specs.Results.{◌>>=◌, each}
use Rattle.dv_value.specs.Tree.{Field}
use Rattle.dv_value.specs.View.{tree}
use Rattle.dv_row.specs.declared.fault.PipelineFault.{PipelineFault}
use Rattle.dv_row.specs.Inner.EachLaws.{after_each}
use Rattle.dv_gather.specs.Grouping.{Accumulation}
use Rattle.dv_gather.specs.GroupParsing.{field_in}
use Rattle.dv_gather.specs.Inner.GroupView.{accumulation}
use Rattle.dv_gather.proofs.group_parsing.fields_of.Goals as goal

after-one : (ys : List Accumulation) (y : Accumulation) (r : Result (List Accumulation) PipelineFault) → after_each ys (r >>= λ zs. Ok (y ∷ zs)) ≡ after_each (ys ++ y ∷ []) r
after-one ys y (Ok zs) = ap Ok (sym (append_assoc ys (y ∷ []) zs))
after-one ys y (Err e) = refl

pub fields-preserved : goal.fields-preserved
fields-preserved c =
    let f : Field = (c.in-Some.name.now, tree c.in-Some.value.now) in
    let old = map accumulation c.fields.fields.items in
    let x = accumulation c.in_ok-field_of.field-0 in
    let rest = c.next.new.self in
    let step : c.fields.name-iterator ≡ f ∷ rest = search rules in
    let read : field_in f ≡ Ok x = c.in_ok-field_of.ensures in
    let here : each field_in c.fields.name-iterator ≡ (each field_in rest >>= λ zs. Ok (x ∷ zs)) =
    ap (each field_in) step ∙ ap (λ (r : Result Accumulation PipelineFault). r >>= λ y. each field_in rest >>= λ zs. Ok (y ∷ zs)) read in
    rw (c.in_ok-push.ensures.items, map-append) (c.fields.invariant ∙ ap (after_each old) here ∙ after-one old x (each field_in rest))
