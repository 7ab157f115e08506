use Rattle.std.proofs.Common.{◌≡◌, ◌∙◌, ◌&&◌, ◌||◌, ◌==◌, ℕ, sym, arith, tests, true, false, Bool, take, ◌+◌, refl}
use Rattle.std.proofs.Math.Bool.{and-false}
use Rattle.dv_candidates.specs.declared.places.Places.{Places}
use Rattle.dv_candidates.specs.Inner.Places.{has, passes_at}
use Rattle.dv_candidates.proofs.Bits.{none, added, passes_at-more, taken_in, left_out}
use Rattle.dv_candidates.proofs.places.Places.those.Goals as goal
use Rattle.dv_candidates.proofs.places.Places.those.Goals.{then-has+then-test, else-has, else-has-via-then-has+else-test, else-has-via-else-has}

at_same : (s : Places) (i place : ℕ) (inside : Bool) → has s i ≡ inside → (place == i) ≡ true → has s place ≡ inside
at_same s i place inside h e =
    let same : place ≡ i = grind (arith, tests) in
    rw same h

pub loop-place-init : goal.loop-place-init
loop-place-init g c passes answers place = none place ∙ sym (and-false (has c.args.self place))

pub overflow_shl-mask : goal.overflow_shl-mask
overflow_shl-mask g c = omega (arith, c.has.ensures.near c.if-has.true)

pub loop-place-preserved : goal.loop-place-preserved
loop-place-preserved g c passes answers place =
    let names = c.args.components.now in
    let i = c.loop-place.place in
    let name = c.index-components-place.result in
    let inside = has c.args.self place in
    let before = passes_at passes (take i names) place in
    let so_far : has (record { mask = c.loop-place.mask }) place ≡ (inside && before) = c.loop-place.invariant passes answers place in
    let more : passes_at passes (take (i + 1) names) place ≡ (before || (place == i && passes name)) = passes_at-more passes names i place name (omega arith) c.index-components-place.is in
    elim c.if-has.branch [
      | then-has+then-test w ↦
          let passed : passes name ≡ true = sym (answers.at _ _ w.test.ensures) ∙ w.if-test.true in
          let here : (place == i) ≡ true → inside ≡ true = at_same c.args.self i place true (sym c.has.ensures.place ∙ w.if-has.true) in
          rw (w.mask-is, added c.loop-place.mask i place (c.has.ensures.near w.if-has.true), so_far, more) (taken_in (place == i) inside before (passes name) here passed)
      | else-has w ↦
          let out : (place == i) ≡ true → (inside && passes name) ≡ false =
          λ e. elim w.else-has.branch [
            | else-has-via-then-has+else-test w' ↦
                let failed : passes name ≡ false = sym (answers.at _ _ w'.test.ensures) ∙ w'.if-test.false in
                rw (failed, and-false inside) refl
            | else-has-via-else-has w' ↦
                let absent : inside ≡ false = at_same c.args.self i place false (sym c.has.ensures.place ∙ w'.if-has.false) e in
                rw absent refl
          ] in
          rw (w.mask-is, so_far, more) (left_out (place == i) inside before (passes name) out)
    ]
