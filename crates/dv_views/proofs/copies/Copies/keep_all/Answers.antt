use Rattle.std.proofs.Common.{List, Some, ap, slice_get, subst, sym, ◌≡◌, ◌∙◌, ℕ}
use Rattle.std.specs.List.{AllByRecursion}
use Rattle.dv_pipe.specs.Sources.{lists_of, rows_referred}
use Rattle.dv_views.specs.Inner.Copies.{AreCopies, HaveCopy, NamedCopies}
use Rattle.dv_views.specs.Inner.Views.{AreInOrder}
use Rattle.dv_views.specs.Placed.{positioned}
use Rattle.dv_views.proofs.Building.{dropped}
use Rattle.dv_views.proofs.Copied.{copies_with}
use Rattle.dv_views.proofs.Marked.{there_at}
use Rattle.dv_views.proofs.copies.Copies.keep_all.Goals as goal
use Rattle.dv_views.proofs.copies.Copies.keep_all.Goals.{then-not-has+then-not-has-2+in_ok-keep, else-not-has}
use Rattle.dv_views.proofs.ReadBy.{among-at}

pub names-preserved : goal.names-preserved
names-preserved c =
    let names = c.args.names.now in
    let n = c.name-item.result in
    let there : slice_get names c.names.name-index ≡ Some n = there_at n names c.names.name-index c.names-test.true c.name-item.is in
    record {
      ordered = (subst (λ (ns : List (List ℕ)). AllByRecursion (λ m. AreInOrder (lists_of c.args.sources.now m)) ns) (dropped names c.names.name-index n there) c.names.invariant.ordered).1;
      copies = λ lists alike are.
          elim c.if-not-has.branch [
            | then-not-has+then-not-has-2+in_ok-keep w ↦
                let documents = rows_referred w.get.result.now in
                let same : documents ≡ lists n = w.get.ensures ∙ ap (λ (m : List ℕ). lists_of c.args.sources.now m) w.as_str-then-not-has-2-2.ensures ∙ alike n (among-at names c.names.name-index n there) in
                let have = subst (λ (m : List ℕ). HaveCopy m (Some (positioned documents)) c.names.self w.keep.new.self) w.as_str-then-not-has-2.ensures w.in_ok-keep.ensures.ok in
                subst (λ (k : NamedCopies). AreCopies lists k) (sym w.self-is) (copies_with n documents c.names.self w.keep.new.self lists have same (c.names.invariant.copies lists alike are))
            | else-not-has w ↦ subst (λ (k : NamedCopies). AreCopies lists k) (sym w.self-is) (c.names.invariant.copies lists alike are)
          ];
    }
