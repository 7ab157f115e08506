-- It is put at its position.
use Rattle.std.proofs.Common.{rules, ◌≡◌, ◌∙◌, IfOk}
use Rattle.std.proofs.lemmas.Result.{IfOk-weaker}
use Rattle.dv_change.specs.Inner.Ordered.{put}
use Rattle.dv_join.proofs.joining.with_joined.Goals as goal

pub returns : goal.returns
returns c =
    let more : IfOk c.with.result (λ more. more ≡ put c.in_ok-try_clone.field-0 c.in_ok-made.made c.args.joined) = search rules in
    IfOk-weaker c.with.result _ _ (λ more h documents are is. h ∙ (λ i. put (c.in_ok-try_clone.ensures i) (c.in_ok-made.ensures documents c.args.row.now are is c.in_ok-keys.ensures i) c.args.joined)) more
