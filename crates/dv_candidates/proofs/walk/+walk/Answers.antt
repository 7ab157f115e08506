use Rattle.std.proofs.Common.{◌≡◌, ◌⊎◌, inl, inr, ◌≤◌, Some, None, Bool, true, false, [], length, get_or, sym, ◌∙◌, arith, rules, ap, refl, Err}
use Rattle.std.specs.Str.{bytes_eq}
use Rattle.std.proofs.lemmas.List.{length-map}
use Rattle.dv_value.specs.Names.{value_under}
use Rattle.std.proofs.lemmas.Result.{err_from_is_err_and}
use Rattle.dv_value.specs.View.{tree}
use Rattle.dv_value.specs.Inner.ListLaws.{slice_get_seen}
use Rattle.dv_candidates.specs.declared.candidate.Candidate.TheVariants.{Found, Missing}
use Rattle.dv_candidates.specs.Path.{index_of}
use Rattle.dv_candidates.specs.Candidates.{Candidate}
use Rattle.dv_candidates.specs.Inner.Places.{has, picks}
use Rattle.dv_candidates.proofs.Bits.{none}
use Rattle.dv_candidates.proofs.Items.{get_or_any, value_weighs_less, value_weighs_less_in}
use Rattle.dv_candidates.proofs.Folds.{FoldsOver-none, FoldsOver-call, FoldsOver-more, FoldsOver-same, StopsAmong-call, StopsAmong-more, Folded-same, Folded-more, Folded-call}
use Rattle.dv_candidates.proofs.WalkedArrays.{element-whole, whole-below, below-none, below-more, picked-element, entered-element, element-either}
use Rattle.dv_candidates.proofs.Walks.{IsPart, part-before, part-reaches, reaches-before, reaches-end, end-reaches, plain-step, missing-reaches, reaches-missing, behind-within, value_at, IsSorted, IsSorted-none, there-none, IsSorted-skipped, there-skipped, IsSorted-missing, there-missing, IsSorted-found, there-found, behind-whole, missing-whole, whole-or-missing, whole-all-there}
use Rattle.dv_candidates.proofs.walk.+walk.Goals as goal
use Rattle.dv_candidates.proofs.walk.+walk.Goals.{fold_document-then-not-has-via-then-not-has, fold_document-then-not-has-via-else-not-has+then-has, fold_document-in-None, fold_document-in-Some+in_ok-folded-in-Some}

pub fold_value-returns-then-not-has : goal.fold_value-returns-then-not-has
fold_value-returns-then-not-has g t c =
    let stand = c.along_one_way.result in
    let at = c.along_one_way.ensures.stand in
    let names = stand.components.now in
    let s = stand.places in
    let value = Some (tree stand.value.now) in
    let part : IsPart names s c.before_end-inside.result (λ _. true) = record { is = c.before_end-inside.ensures } in
    let none : has s (length names) ≡ false = sym c.if-not-has.ensures.place in
    Folded-same c.fold_inside.result (Folded-same c.fold_inside.result c.fold_inside.ensures (part-reaches part value) (reaches-before part at.within none value)) at.reaches at.reached

pub fold_value-returns-in_err-so_far : goal.fold_value-returns-in_err-so_far
fold_value-returns-in_err-so_far g t c =
    let stand = c.along_one_way.result in
    let at = c.along_one_way.ensures.stand in
    let names = stand.components.now in
    let s = stand.places in
    let value = Some (tree stand.value.now) in
    let part : IsPart names s c.before_end-inside.result (λ _. true) = record { is = c.before_end-inside.ensures } in
    let ends : has s (length names) ≡ true = sym c.if-not-has.ensures.place in
    let p = err_from_is_err_and c.from_residual.result c.from_residual.ensures.1 in
    let q : c.from_residual.result ≡ Err c.in_err-so_far.field-0.0 = p.1 ∙ ap Err p.2 in
    rw q (record { outcome = StopsAmong-call (Found stand.value) (search (rules, c.in_err-so_far.ensures)) (λ r h. at.reaches r (end-reaches part at.within ends value r h)) })

pub fold_value-fold_inside-requires : goal.fold_value-fold_inside-requires
fold_value-fold_inside-requires g t c κs within =
    let stand = c.along_one_way.result in
    let part : IsPart stand.components.now stand.places c.before_end-inside.result (λ _. true) = record { is = c.before_end-inside.ensures } in
    (omega (arith, c.along_one_way.ensures.weight), (within.0, (within.1.0, (within.1.1, (search (rules, c.requires.callable), part-before part)))))

pub fold_value-fold_inside-requires-2 : goal.fold_value-fold_inside-requires-2
fold_value-fold_inside-requires-2 g t c κs within =
    let stand = c.along_one_way.result in
    let part : IsPart stand.components.now stand.places c.before_end-inside.result (λ _. true) = record { is = c.before_end-inside.ensures } in
    (omega (arith, c.along_one_way.ensures.weight), (within.0, (within.1.0, (within.1.1, (search (rules, c.requires.callable), part-before part)))))

pub fold_value-returns : goal.fold_value-returns
fold_value-returns g t c =
    let stand = c.along_one_way.result in
    let at = c.along_one_way.ensures.stand in
    let names = stand.components.now in
    let s = stand.places in
    let value = Some (tree stand.value.now) in
    let part : IsPart names s c.before_end-inside.result (λ _. true) = record { is = c.before_end-inside.ensures } in
    let ends : has s (length names) ≡ true = sym c.if-not-has.ensures.place in
    let found = FoldsOver-call {May = λ p. p value ≡ true} {Must = λ p. p value ≡ true} (Found stand.value) (search (rules, c.in_ok-so_far.ensures)) (λ p h. h) (λ p h. h) in
    Folded-same c.fold_inside-2.result (Folded-more c.fold_inside-2.result found c.fold_inside-2.ensures (end-reaches part at.within ends value) (part-reaches part value) (reaches-end part at.within value)) at.reaches at.reached

pub fold_inside-returns-in_default : goal.fold_inside-returns-in_default
fold_inside-returns-in_default g t c =
    let names = c.args.components.now in
    let s = c.args.places in
    let plain = λ (name : _). plain-step c.args.value.now name c.in_default.not-Doc c.in_default.not-Array in
    let place = c.if-is_empty.ensures in
    Folded-call c.f.result Missing (search (rules, c.f.ensures)) (λ p. missing-reaches names s c.requires.before (tree c.args.value.now) p place.0 place.1 plain) (λ p. reaches-missing names s c.requires.before (tree c.args.value.now) p plain)

pub fold_document-places-init : goal.fold_document-places-init
fold_document-places-init g t c = record {
  folds = FoldsOver-none (there-none c.args.document.now _ none);
  sorted = IsSorted-none c.args.document.now _ none;
}

pub fold_document-places-preserved-then-not-has : goal.fold_document-places-preserved-then-not-has
fold_document-places-preserved-then-not-has g t c =
    let l = c.places in
    let skipped : (has c.args.places l.place ≡ false) ⊎ (has l.done l.place ≡ true) =
    elim c.then-not-has.branch [
      | fold_document-then-not-has-via-then-not-has w ↦ inl (sym w.if-not-has.ensures.place)
      | fold_document-then-not-has-via-else-not-has+then-has w ↦ inr (sym w.if-has.ensures.place)
    ] in
    record {
      folds = FoldsOver-same l.invariant.folds (λ p h. h) (there-skipped c.args.document.now l.place l.done l.missing skipped);
      sorted = IsSorted-skipped c.args.document.now l.place l.done l.missing skipped l.invariant.sorted;
    }

pub fold_document-places-preserved : goal.fold_document-places-preserved
fold_document-places-preserved g t c =
    let l = c.places in
    let inside : has c.args.places l.place ≡ true = sym c.if-not-has.ensures.place in
    let name : c.as_str-name.result.now ≡ get_or c.args.components.now l.place [] = c.as_str-name.ensures.name ∙ get_or_any c.args.components.now l.place _ [] (omega arith) c.index-components-place.is in
    elim c.match-get.branch [
      | fold_document-in-None w ↦
          let none : value_at c.args.components.now c.args.places c.args.document.now l.place ≡ None = ap (λ n. value_under n c.args.document.now) (sym name) ∙ sym w.in-None.ensures in
          rw (w.folded-is, w.missing-is, w.done-is) (record {
            folds = FoldsOver-same l.invariant.folds (λ p h. h) (there-missing c.args.document.now l.place l.done l.missing none);
            sorted = IsSorted-missing c.args.document.now l.place l.done l.missing inside none l.invariant.sorted;
          })
      | fold_document-in-Some+in_ok-folded-in-Some w ↦
          let same = w.named-same.result in
          let part : IsPart c.args.components.now c.args.places same (bytes_eq c.as_str-name.result.now) = record { is = w.named-same.ensures } in
          let found : value_at c.args.components.now c.args.places c.args.document.now l.place ≡ Some (tree w.in-Some.value.now) = ap (λ n. value_under n c.args.document.now) (sym name) ∙ sym w.in-Some.ensures in
          let walked = rw w.behind.ensures at w.in_ok-folded-in-Some.ensures.outcome in
          rw (w.folded-is, w.missing-is, w.done-is) (record {
            folds = FoldsOver-more l.invariant.folds walked (λ p h. h) (behind-whole c.args.document.now l.place l.done l.missing same w.with-done.result _ (tree w.in-Some.value.now) name part w.with-done.ensures found c.requires.before) (there-found c.args.document.now l.place l.done l.missing same w.with-done.result _ (tree w.in-Some.value.now) name part w.with-done.ensures found c.requires.before);
            sorted = IsSorted-found c.args.document.now l.place l.done l.missing same w.with-done.result _ (tree w.in-Some.value.now) name part w.with-done.ensures found l.invariant.sorted;
          })
    ]

pub fold_document-fold_value-requires : goal.fold_document-fold_value-requires
fold_document-fold_value-requires g t c κs within =
    let l = c.places in
    let name : c.as_str-name.result.now ≡ get_or c.args.components.now l.place [] = c.as_str-name.ensures.name ∙ get_or_any c.args.components.now l.place _ [] (omega arith) c.index-components-place.is in
    let part : IsPart c.args.components.now c.args.places c.named-same.result (bytes_eq c.as_str-name.result.now) = record { is = c.named-same.ensures } in
    let child = value_weighs_less c.as_str-name.result.now c.args.document.now (tree c.in-Some.value.now) (sym c.in-Some.ensures) in
    (omega (arith, child), (within.0, (within.1.0, (within.1.1, (search (rules, c.requires.callable), rw c.behind.ensures (behind-within part))))))

pub fold_document-returns-in_err-folded-in-Some : goal.fold_document-returns-in_err-folded-in-Some
fold_document-returns-in_err-folded-in-Some g t c =
    let l = c.places in
    let name : c.as_str-name.result.now ≡ get_or c.args.components.now l.place [] = c.as_str-name.ensures.name ∙ get_or_any c.args.components.now l.place _ [] (omega arith) c.index-components-place.is in
    let same = c.named-same.result in
    let part : IsPart c.args.components.now c.args.places same (bytes_eq c.as_str-name.result.now) = record { is = c.named-same.ensures } in
    let found : value_at c.args.components.now c.args.places c.args.document.now l.place ≡ Some (tree c.in-Some.value.now) = ap (λ n. value_under n c.args.document.now) (sym name) ∙ sym c.in-Some.ensures in
    let p = err_from_is_err_and c.from_residual.result c.from_residual.ensures.1 in
    let q : c.from_residual.result ≡ Err c.in_err-folded-in-Some.field-0.0 = p.1 ∙ ap Err p.2 in
    let stopped = rw c.behind.ensures at c.in_err-folded-in-Some.ensures.outcome in
    rw q (record { outcome = StopsAmong-more l.invariant.folds stopped (λ p h. h) (behind-whole c.args.document.now l.place l.done l.missing same c.with-done.result _ (tree c.in-Some.value.now) name part c.with-done.ensures found c.requires.before) })

pub fold_document-returns-then-missing : goal.fold_document-returns-then-missing
fold_document-returns-then-missing g t c =
    let l = c.places in
    let sorted : IsSorted c.args.components.now c.args.places c.args.document.now l.place l.done true = rw (← c.if-missing.true) l.invariant.sorted in
    let passed = λ (p : Candidate → Bool) (h : p None ≡ true). missing-whole c.args.document.now c.requires.before p (sorted.lacks refl) h in
    Folded-more c.f.result l.invariant.folds (Folded-call {W = λ p. p None ≡ true} c.f.result Missing (search (rules, c.f.ensures)) (λ p h. h) (λ p h. h)) (λ p h. h) passed (λ p. whole-or-missing c.args.document.now c.requires.before p c.places-test.false)

pub fold_document-returns-else-missing : goal.fold_document-returns-else-missing
fold_document-returns-else-missing g t c =
    let l = c.places in
    let sorted : IsSorted c.args.components.now c.args.places c.args.document.now l.place l.done false = rw (← c.if-missing.false) l.invariant.sorted in
    record { outcome = FoldsOver-same l.invariant.folds (λ p h. h) (whole-all-there c.args.document.now c.requires.before sorted c.places-test.false) }

pub fold_list-fold_element-requires : goal.fold_list-fold_element-requires
fold_list-fold_element-requires g t c κs within =
    (omega (arith, value_weighs_less_in c.as_slice-element-items.result.now c.args.list.now c.elements.index c.element-item.result c.as_slice-element-items.ensures c.elements-test.true c.element-item.is), (within.0, (within.1.0, (within.1.1, (search (rules, c.requires.callable), c.requires.before)))))

pub fold_list-elements-init : goal.fold_list-elements-init
fold_list-elements-init g t c = record { folds = FoldsOver-none (below-none c.args.list.now) }

pub fold_list-returns-in_err-folded : goal.fold_list-returns-in_err-folded
fold_list-returns-in_err-folded g t c =
    let there = slice_get_seen tree c.as_slice-element-items.result.now c.args.list.now c.elements.index c.element-item.result c.as_slice-element-items.ensures c.elements-test.true c.element-item.is in
    let p = err_from_is_err_and c.from_residual.result c.from_residual.ensures.1 in
    let q : c.from_residual.result ≡ Err c.in_err-folded.field-0.0 = p.1 ∙ ap Err p.2 in
    rw q (record { outcome = StopsAmong-more c.elements.invariant.folds c.in_err-folded.ensures.outcome (λ p h. h) (element-whole c.args.list.now c.requires.before c.elements.index (tree c.element-item.result) there) })

pub fold_list-elements-preserved : goal.fold_list-elements-preserved
fold_list-elements-preserved g t c =
    let there = slice_get_seen tree c.as_slice-element-items.result.now c.args.list.now c.elements.index c.element-item.result c.as_slice-element-items.ensures c.elements-test.true c.element-item.is in
    record { folds = FoldsOver-more c.elements.invariant.folds c.in_ok-folded.ensures.outcome (λ p h. h) (element-whole c.args.list.now c.requires.before c.elements.index (tree c.element-item.result) there) (below-more c.args.list.now c.elements.index (tree c.element-item.result) there) }

pub fold_list-returns : goal.fold_list-returns
fold_list-returns g t c =
    let over : length c.args.list.now ≤ c.elements.index = rw (← c.as_slice-element-items.ensures, length-map) c.elements-test.false in
    record { outcome = FoldsOver-same c.elements.invariant.folds (λ p h. h) (whole-below c.args.list.now c.requires.before over) }

pub fold_element-returns-in-Some : goal.fold_element-returns-in-Some
fold_element-returns-in-Some g t c =
    let at = c.in-Some.ensures.stand in
    Folded-same c.fold_value.result c.fold_value.ensures at.reaches at.reached

pub fold_element-returns : goal.fold_element-returns
fold_element-returns g t c =
    let index = c.args.index in
    let v = tree c.args.element.now in
    let part : IsPart c.args.components.now c.args.places c.picking-picking.result (λ name. picks index (index_of name)) = record { is = c.picking-picking.ensures } in
    Folded-more c.fold_value-2.result c.in_ok-so_far.ensures.outcome (rw c.behind.ensures at c.fold_value-2.ensures) (entered-element index v part c.in_default.ensures.stand) (picked-element index v part) (element-either index v part c.requires.before)
