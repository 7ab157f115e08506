use Rattle.std.proofs.Common.{◌≡◌, ◌∙◌, ap, IfOk, subst}
use Rattle.dv_sort.specs.Front.{Front}
use Rattle.dv_sort.specs.Keys.{documents}
use Rattle.dv_sort.proofs.Kept.{cut-sorted, uncut}
use Rattle.dv_sort.proofs.sorter.Sorter.into_rows.Goals as goal
use Rattle.dv_sort.proofs.sorter.Sorter.into_rows.Goals.{in-Some, in_default}

pub returns : goal.returns
returns c =
    let parts = c.self.inside.spec.now in
    let most = c.self.inside.most in
    let xs = c.self.inside.rows.items in
    let ys = c.sort_rows.new.rows.items in
    let rows = c.match-most.rows.items in
    let seen : documents rows ≡ c.args.self.rows =
    elim c.match-most.branch [
      | in-Some w ↦ cut-sorted parts most w.in-Some.most xs ys rows w.in-Some.is c.in_ok-sort_rows.ensures.ok (ap (λ v. v.items) w.rows-is ∙ w.truncate.ensures.items)
      | in_default w ↦ uncut parts most xs ys rows w.in_default.not-Some c.in_ok-sort_rows.ensures.ok (ap (λ v. v.items) w.rows-is)
    ] ∙ ap (λ (f : Front). f.rows) c.self.view_is in
    subst (λ l. IfOk c.documents_of.result (λ found. found.items ≡ l)) seen c.documents_of.ensures
