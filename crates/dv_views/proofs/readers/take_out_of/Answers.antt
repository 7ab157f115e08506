use Rattle.std.proofs.Common.{◌≡◌, ◌≤◌, ◌++◌, not, length, map, filter, take, drop, append-nil, ℕ, List, arith, ap, sym, ◌∙◌, rules}
use Rattle.std.specs.Prelude.{◌==◌}
use Rattle.std.proofs.lemmas.Fn.{filter_same}
use Rattle.std.proofs.lemmas.List.{drop_all, take_all}
use Rattle.dv_views.specs.Inner.Readers.{lowered}
use Rattle.dv_views.proofs.readers.take_out_of.Goals as goal

pub returns : goal.returns
returns c =
    let place = c.args.place in
    let xs = c.retain.new.self.items in
    let ys = c.places.other-items in
    let kept : xs ≡ filter (λ other. not (other == place)) c.args.places.now.items = filter_same _ _ _ (λ x b f' k. search rules) _ _ c.retain.ensures.filtered in
    let same : length ys ≡ length xs = c.places.auto.other-items ∙ ap length c.deref_mut-other-items.ensures.value in
    let count : c.retain.new.self.len ≡ length xs = sym c.deref_mut-other-items.ensures.len ∙ ap length c.deref_mut-other-items.ensures.value in
    let stop : length ys ≤ c.places.other-index = omega (arith, c.places.auto.other-items, c.places-test.false) in
    let whole : take c.retain.new.self.len (ys ++ drop (length ys) xs) ≡ ys =
    ap (λ (zs : List ℕ). take c.retain.new.self.len (ys ++ zs)) (drop_all (length ys) xs (omega (arith, same))) ∙ ap (take c.retain.new.self.len) (append-nil ys) ∙ take_all c.retain.new.self.len ys (omega (arith, same, count)) in
    let done : ys ≡ map (lowered place) xs =
    sym ((λ i. take_all c.places.other-index ys stop i ++ map (lowered place) (drop_all c.places.other-index ys stop i)) ∙ append-nil ys) ∙ c.places.invariant ∙ ap (map (lowered place)) c.deref_mut-other-items.ensures.value in
    whole ∙ done ∙ ap (map (lowered place)) kept
