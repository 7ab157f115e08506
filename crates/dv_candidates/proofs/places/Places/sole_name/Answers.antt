use Rattle.std.proofs.Common.{sym, ◌∙◌, [], arith}
use Rattle.std.specs.Option.{option_map}
use Rattle.dv_candidates.proofs.Items.{get_or_any}
use Rattle.dv_candidates.proofs.Stands.{no-name, name-skipped, name-more, have-name}
use Rattle.dv_candidates.proofs.places.Places.sole_name.Goals as goal
use Rattle.dv_candidates.proofs.places.Places.sole_name.Goals.{then-has+else-is_another, else-has}

pub places-init : goal.places-init
places-init c = no-name _

pub places-preserved : goal.places-preserved
places-preserved c =
    let end = c.places.place in
    let already = option_map (λ n. n.now) c.places.sole in
    elim c.if-has.branch [
      | then-has+else-is_another w ↦
          let name = w.as_str-name.ensures.name ∙ get_or_any c.args.components.now end _ [] (omega arith) w.index-components-place.is in
          rw w.sole-is (name-more end already w.as_str-name.result.now name (w.is_another.ensures w.if-is_another.false) c.places.invariant)
      | else-has w ↦ rw w.sole-is (name-skipped end already (sym w.if-has.ensures.place) c.places.invariant)
    ]

pub returns : goal.returns
returns c = have-name c.places.place c.places.sole c.requires (omega arith) c.places.invariant
