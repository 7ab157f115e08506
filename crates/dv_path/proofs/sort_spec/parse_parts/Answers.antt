use Rattle.std.proofs.Common.{◌≡◌, ◌∙◌, ◌++◌, ◌∷◌, [], List, Option, Some, None, option_and_then, ap, sym, map, refl, rules, append_assoc}
use Rattle.std.specs.Option.{option_map}
use Rattle.std.proofs.lemmas.List.{map-append}
use Rattle.dv_value.specs.Tree.{Field}
use Rattle.dv_value.specs.View.{tree}
use Rattle.dv_path.specs.Parts.{part}
use Rattle.dv_path.specs.SortSpec.{Part, part_of, parts_of}
use Rattle.dv_path.proofs.sort_spec.parse_parts.Goals as goal

joined : (parts : List Part) (p : Part) (o : Option (List Part)) → option_map (λ rest. (parts ++ p ∷ []) ++ rest) o ≡ option_map (λ rest. parts ++ rest) (option_and_then (λ ps. Some (p ∷ ps)) o)
joined parts p None = refl
joined parts p (Some ps) = ap Some (append_assoc parts (p ∷ []) ps)

pub fields-preserved : goal.fields-preserved
fields-preserved c =
    let f : Field = (c.in-Some.name.now, tree c.in-Some.value.now) in
    let parts = map part c.fields.parts.items in
    let p = part c.in-Some-2.part in
    let step : c.fields.name-iterator ≡ f ∷ c.next.new.self = search rules in
    let is : part_of f ≡ Some p = sym c.in_ok-part.ensures ∙ ap (option_map part) c.in-Some-2.is in
    let read : parts_of c.fields.name-iterator ≡ option_and_then (λ ps. Some (p ∷ ps)) (parts_of c.next.new.self) = rw (step, is) refl in
    rw (c.in_ok-push.ensures.items, map-append) (joined parts p (parts_of c.next.new.self) ∙ ap (option_map (λ rest. parts ++ rest)) (sym read) ∙ c.fields.invariant)
