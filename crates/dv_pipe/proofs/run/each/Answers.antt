use Rattle.std.proofs.Common.{◌≡◌, ◌∙◌, ◌++◌, ◌+◌, ◌∷◌, [], ap, sym, subst, List, drop, take}
use Rattle.std.proofs.lemmas.List.{map_more}
use Rattle.std.specs.List.{flat_map}
use Rattle.dv_sort.specs.Sorting.{front}
use Rattle.dv_pipe.specs.Inner.Parts.{passed}
use Rattle.dv_pipe.specs.Sources.{Row, rows_referred}
use Rattle.dv_pipe.proofs.Steps.{front_full, front_more, referred_parts}
use Rattle.dv_pipe.proofs.run.each.Goals as goal
use Rattle.dv_pipe.proofs.run.each.Goals.{else-documents-test, then-documents-test+then-is_full}
use Rattle.dv_value.specs.Inner.ListLaws.{take-past}

pub documents-preserved : goal.documents-preserved
documents-preserved c =
    let documents = c.args.documents.now in
    let i = c.documents.document-index in
    let so-far = rows_referred (take i documents) in
    front_more c.args.steps.now c.args.most [] c.documents.rows.items so-far c.documents.invariant c.push_row.new.rows.items (rows_referred (take (i + 1) documents)) c.document-item.result.now
    (map_more (λ r. r.now) documents i c.document-item.result c.documents-test.true ∙ ap (λ d. so-far ++ d.now ∷ []) (sym c.document-item.is)) c.in_ok-push_row.ensures

pub returns : goal.returns
returns c =
    let ss = c.args.steps.now in
    let most = c.args.most in
    let documents = c.args.documents.now in
    let i = c.documents.document-index in
    let rows = c.documents.rows.items in
    let kept : front most rows ≡ front most (flat_map (passed ss) (rows_referred documents)) =
    elim c.documents-test.branch [
      | else-documents-test w ↦ c.documents.invariant ∙ ap (λ l. front most (flat_map (passed ss) (rows_referred l))) (take-past documents i w.documents-test.false)
      | then-documents-test+then-is_full w ↦ front_full ss most [] rows (rows_referred (take i documents)) c.documents.invariant (rows_referred (drop i documents)) (rows_referred documents) (referred_parts documents i)
          (subst (λ l. (more : List Row) → front most (l ++ more) ≡ front most l) w.deref.ensures.value (w.is_full.ensures w.if-is_full.true))
    ] in
    c.cut.ensures ∙ kept
