-- One row alone is put into an empty list.
use Rattle.std.proofs.Common.{rules, ◌≡◌, ◌∙◌, ap, sym, IfOk, Some}
use Rattle.std.proofs.lemmas.Result.{IfOk-weaker}
use Rattle.dv_change.specs.Inner.Changes.{alone}
use Rattle.dv_change.specs.Inner.Ordered.{put}
use Rattle.dv_join.specs.Placed.{looked_up_at}
use Rattle.dv_join.specs.Inner.Turning.{has_local, if_any}
use Rattle.dv_join.proofs.operator.LookupOperator.joined_alone.Goals as goal

pub returns : goal.returns
returns c =
    let l = c.args.self.now.lookup in
    let pos = c.args.pos.now in
    let d = c.in-Some.row in
    let is : c.args.row.now ≡ Some d = search rules in
    let put-there : IfOk c.with.result (λ more. more ≡ put c.in_ok-try_clone.field-0 c.in_ok-joined.joined c.new-none.result) = search rules in
    IfOk-weaker c.with.result _ _ (λ joined h documents are index own.
    h
    ∙ (λ i. put (c.in_ok-try_clone.ensures i) (c.in_ok-joined.ensures documents d are index (λ k. own k ∙ ap (if_any (has_local l k)) is) i) (c.new-none.ensures i))
    ∙ ap (λ r. looked_up_at l (alone pos r) documents) (sym is)) put-there
