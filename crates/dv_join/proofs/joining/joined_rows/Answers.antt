-- Rows in order, put one after the other into an empty list, are these rows.
use Rattle.std.proofs.Common.{rules, ◌≡◌, ◌∙◌, ◌∷◌, [], ap, drop, slice_get, sym, List, None, Some}
use Rattle.dv_value.specs.Tree.{Field}
use Rattle.dv_change.specs.Changes.{forget}
use Rattle.dv_change.specs.Inner.Ordered.{put}
use Rattle.dv_change.specs.Positions.{PosTree}
use Rattle.dv_gather.specs.Lookups.{joined_documents, joined_row, set_field}
use Rattle.dv_join.specs.Inner.Copied.{made_of}
use Rattle.dv_join.specs.Inner.Listed.{with_each_row}
use Rattle.dv_join.specs.Placed.{looked_up_at}
use Rattle.dv_join.specs.Inner.Placed.{looked_up_ordered}
use Rattle.dv_join.proofs.Copied.{first-made, next-made, others-made}
use Rattle.dv_join.proofs.Rows.{first-of, none-of, with_all-none}
use Rattle.dv_join.proofs.joining.joined_rows.Goals as goal

pub returns-in_default : goal.returns-in_default
returns-in_default c = λ documents made are is ordered differs copies.
    let none : slice_get c.args.rows.now 0 ≡ None = search rules in
    c.new-joined.ensures ∙ ap (λ es. looked_up_at c.args.lookup.now es documents) (sym (none-of c.args.rows.now none))

pub others-init : goal.others-init
others-init c =
    let l = c.args.lookup.now in
    let rows = c.args.rows.now in
    let row : PosTree × List Field = (c.in-Some.pos.now, c.in-Some.row.now) in
    let first : slice_get rows 0 ≡ Some row = search rules in
    let rest : c.into_iter-pos-iterator.result ≡ drop 1 rows = search rules in
    record {
      copies = λ made copied. c.others-copies.ensures ∙ others-made made rows c.args.copied.now copied ∙ ap (λ es. made_of made es) (sym rest);
      joined = λ documents made are is differs copied.
          let array = joined_documents l (forget documents) row.1 in
          let copy : c.document_or-copy.result.now ≡ made row.1 = c.document_or-copy.ensures ∙ first-made made row rows c.args.copied.now c.first-2.result copied first c.first-2.ensures in
          let one : c.in_ok-joined.joined ≡ put row.0 (joined_row l (forget documents) row.1) [] =
          c.in_ok-joined.ensures documents are is
          ∙ (λ i. put row.0 (set_field l.target array (copy i)) (c.new-joined.ensures i))
          ∙ ap (λ d. put row.0 d []) (differs array row.1) in
          (λ i. with_each_row (one i) (looked_up_at l (rest i) documents)) ∙ ap (λ es. with_each_row [] (looked_up_at l es documents)) (sym (first-of rows row first));
    }

pub others-preserved : goal.others-preserved
others-preserved c =
    let l = c.args.lookup.now in
    let row : PosTree × List Field = (c.in-Some-2.pos.now, c.in-Some-2.row.now) in
    let rest = c.next.new.self in
    let step : c.others.pos-iterator ≡ row ∷ rest = search rules in
    record {
      copies = λ made copied. (next-made made row rest c.others.copies c.next-in-others.new.self c.next-in-others.result (c.others.invariant.copies made copied ∙ ap (made_of made) step) c.next-in-others.ensures.steps).1;
      joined = λ documents made are is differs copied.
          let array = joined_documents l (forget documents) row.1 in
          let copy : c.document_or-copy-in-others.result.now ≡ made row.1 = c.document_or-copy-in-others.ensures ∙ (next-made made row rest c.others.copies c.next-in-others.new.self c.next-in-others.result (c.others.invariant.copies made copied ∙ ap (made_of made) step) c.next-in-others.ensures.steps).0 in
          let one : c.in_ok-joined-2.joined ≡ put row.0 (joined_row l (forget documents) row.1) c.others.joined =
          c.in_ok-joined-2.ensures documents are is
          ∙ ap (λ d. put row.0 (set_field l.target array d) c.others.joined) copy
          ∙ ap (λ d. put row.0 d c.others.joined) (differs array row.1) in
          ap (λ es. with_each_row es (looked_up_at l rest documents)) one
          ∙ ap (λ es. with_each_row c.others.joined (looked_up_at l es documents)) (sym step)
          ∙ c.others.invariant.joined documents made are is differs copied;
    }

pub returns : goal.returns
returns c = λ documents made are is ordered differs copied.
    let l = c.args.lookup.now in
    let none : c.others.pos-iterator ≡ [] = search rules in
    ap (λ es. with_each_row c.others.joined (looked_up_at l es documents)) (sym none)
    ∙ c.others.invariant.joined documents made are is differs copied
    ∙ with_all-none (looked_up_at l c.args.rows.now documents) (looked_up_ordered l documents c.args.rows.now ordered)
