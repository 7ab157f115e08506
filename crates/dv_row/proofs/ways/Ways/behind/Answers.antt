use Rattle.std.proofs.Common.{◌∙◌, ap, sym, subst, refl, rules, of_calls, drop, take, length, ◌-◌, arith}
use Rattle.std.proofs.lemmas.Fn.{always_returns_same}
use Rattle.std.specs.Ordering.{is_lt, is_le}
use Rattle.dv_row.specs.Projecting.{paths_behind}
use Rattle.dv_row.specs.Inner.Ways.{Ascend}
use Rattle.dv_row.proofs.Ordered.{stands, parted-strictly, parted-loosely, ascend-drop, all-taken, behind-found, found-ascends, found-none, found-long}
use Rattle.dv_row.proofs.ways.Ways.behind.Goals as goal
use Rattle.dv_row.proofs.ways.Ways.behind.Goals.{in_default-via-in-Some+else-depth-components, in_default-via-in_default}

pub invariant_of-t-25 : goal.invariant_of-t-25
invariant_of-t-25 c =
    let ps = c.self.inside.paths.now in
    let depth = c.self.inside.depth in
    let name = c.args.name.now in
    let from = c.partition_point-from.result in
    let count = c.partition_point-count.result in
    let qs = take (length ps - from) (drop from ps) in
    let left = all-taken (length ps - from) from ps refl in
    let first = c.partition_point-from.ensures.partitioned (λ p. is_lt (stands depth name p)) (always_returns_same _ _ _ (λ a r f k. search (rules, of_calls))) (parted-strictly depth name ps c.self.invariant) in
    let second = c.partition_point-count.ensures.partitioned (λ p. is_le (stands depth name p)) (always_returns_same _ _ _ (λ a r f k. search (rules, of_calls))) (parted-loosely depth name qs (subst (Ascend depth) (sym left) (ascend-drop depth name ps c.self.invariant from))) in
    found-ascends depth name ps qs from count c.self.invariant left first second c.partition_point-count.ensures.bound

pub returns-in-Some : goal.returns-in-Some
returns-in-Some c =
    let ps = c.self.inside.paths.now in
    let depth = c.self.inside.depth in
    let name = c.args.name.now in
    let from = c.partition_point-from.result in
    let count = c.partition_point-count.result in
    let qs = take (length ps - from) (drop from ps) in
    let left = all-taken (length ps - from) from ps refl in
    let first = c.partition_point-from.ensures.partitioned (λ p. is_lt (stands depth name p)) (always_returns_same _ _ _ (λ a r f k. search (rules, of_calls))) (parted-strictly depth name ps c.self.invariant) in
    let second = c.partition_point-count.ensures.partitioned (λ p. is_le (stands depth name p)) (always_returns_same _ _ _ (λ a r f k. search (rules, of_calls))) (parted-loosely depth name qs (subst (Ascend depth) (sym left) (ascend-drop depth name ps c.self.invariant from))) in
    sym (behind-found depth name ps qs from count c.self.invariant left first second c.partition_point-count.ensures.bound) ∙ ap (paths_behind name) c.self.view_is

pub returns-in_default : goal.returns-in_default
returns-in_default c =
    let ps = c.self.inside.paths.now in
    let depth = c.self.inside.depth in
    let name = c.args.name.now in
    let from = c.partition_point-from.result in
    let count = c.partition_point-count.result in
    let qs = take (length ps - from) (drop from ps) in
    let left = all-taken (length ps - from) from ps refl in
    let first = c.partition_point-from.ensures.partitioned (λ p. is_lt (stands depth name p)) (always_returns_same _ _ _ (λ a r f k. search (rules, of_calls))) (parted-strictly depth name ps c.self.invariant) in
    let second = c.partition_point-count.ensures.partitioned (λ p. is_le (stands depth name p)) (always_returns_same _ _ _ (λ a r f k. search (rules, of_calls))) (parted-loosely depth name qs (subst (Ascend depth) (sym left) (ascend-drop depth name ps c.self.invariant from))) in
    elim c.in_default.branch [
      | in_default-via-in-Some+else-depth-components w ↦ absurd (found-long depth name ps qs from count c.self.invariant left first second c.partition_point-count.ensures.bound w.in-Some.path.now w.in-Some.ensures.value
          (λ l. absurd (omega (arith, l, w.if-depth-components.false, ap length w.components.ensures.components))))
      | in_default-via-in_default w ↦ found-none depth name ps qs from count c.self.invariant left first second c.partition_point-count.ensures.bound w.in_default.ensures.value ∙ ap (paths_behind name) c.self.view_is
    ]
