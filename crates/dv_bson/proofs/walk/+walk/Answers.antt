use Rattle.std.proofs.Common.{map, false, true, sym, ap, refl, ◌∙◌, [], ◌∷◌, ◌++◌, List, ℕ, rules, arith}
use Rattle.std.proofs.lemmas.Result.{err_from_is_err_and}
use Rattle.dv_value.specs.Names.{bare}
use Rattle.dv_bson.proofs.Shorter.{behind_name, frame_within}
use Rattle.dv_bson.proofs.Loop.{ends, is_done, starts, too_deep, some_left, none_left}
use Rattle.dv_bson.proofs.Turns.{fails_kind, fails_name, fails_value, gives_field, gives_rest}
use Rattle.dv_bson.proofs.Walked.{walked_shorter, walks_on, named_on, new_among_names, one_longer, closes, names-bare, so_many, behind_text, behind_binary, behind_null, behind_min_key, behind_max_key, behind_document, behind_array}
use Rattle.dv_bson.proofs.walk.+walk.Goals as goal

-- ---- an element

pub behind_field-overflow_sub-at : goal.behind_field-overflow_sub-at
behind_field-overflow_sub-at t c = behind_name _ _ _ _ _ _ c.in_ok-kind.ensures (c.in_ok-name.ensures (map bare c.args.names.now) (names-bare c.args.names.now))

pub behind_field-behind_value-requires : goal.behind_field-behind_value-requires
behind_field-behind_value-requires t c = (search rules, omega (arith, c.requires, behind_name _ _ _ _ _ _ c.in_ok-kind.ensures (c.in_ok-name.ensures (map bare c.args.names.now) (names-bare c.args.names.now))))

pub behind_field-returns-in_err-kind : goal.behind_field-returns-in_err-kind
behind_field-returns-in_err-kind t c = λ seen named.
    let p = err_from_is_err_and c.from_residual.result c.from_residual.ensures.1 in
    rw (p.1, p.2) (fails_kind _ _ _ seen _ _ c.in_err-kind.ensures)

pub behind_field-returns-in_err-name : goal.behind_field-returns-in_err-name
behind_field-returns-in_err-name t c = λ seen named.
    let p = err_from_is_err_and c.from_residual-in_err-name.result c.from_residual-in_err-name.ensures.1 in
    rw (p.1, p.2) (fails_name _ _ _ _ _ _ c.in_ok-kind.ensures _ (c.in_err-name.ensures seen named))

pub behind_field-returns-in_err-after : goal.behind_field-returns-in_err-after
behind_field-returns-in_err-after t c = λ seen named.
    let p = err_from_is_err_and c.from_residual-in_err-after.result c.from_residual-in_err-after.ensures.1 in
    rw (p.1, p.2) (fails_value _ _ _ _ _ _ c.in_ok-kind.ensures _ (c.in_ok-name.ensures seen named) _ c.in_err-after.ensures)

pub behind_field-returns : goal.behind_field-returns
behind_field-returns t c = λ seen named.
    let value = c.in_ok-after.ensures in
    (((c.in_ok-name.name.now, value.0.0), value.0.1), gives_field _ _ _ _ _ _ c.in_ok-kind.ensures _ (c.in_ok-name.ensures seen named) value.0 value.1, ap (λ (rest : List ℕ). (c.in_ok-name.name.now, rest)) value.2)

pub behind_element-overflow_sub-at : goal.behind_element-overflow_sub-at
behind_element-overflow_sub-at t c =
    let seen = so_many c.args.place in
    behind_name _ _ _ _ _ _ c.in_ok-kind.ensures (c.in_ok-rest.ensures seen.0 seen.1)

pub behind_element-behind_value-requires : goal.behind_element-behind_value-requires
behind_element-behind_value-requires t c =
    let seen = so_many c.args.place in
    (search rules, omega (arith, c.requires, behind_name _ _ _ _ _ _ c.in_ok-kind.ensures (c.in_ok-rest.ensures seen.0 seen.1)))

pub behind_element-returns-in_err-kind : goal.behind_element-returns-in_err-kind
behind_element-returns-in_err-kind t c = λ seen here.
    let p = err_from_is_err_and c.from_residual.result c.from_residual.ensures.1 in
    rw (p.1, p.2) (fails_kind _ _ _ seen _ _ c.in_err-kind.ensures)

pub behind_element-returns-in_err-rest : goal.behind_element-returns-in_err-rest
behind_element-returns-in_err-rest t c = λ seen here.
    let p = err_from_is_err_and c.from_residual-in_err-rest.result c.from_residual-in_err-rest.ensures.1 in
    rw (p.1, p.2) (fails_name _ _ _ _ _ _ c.in_ok-kind.ensures _ (c.in_err-rest.ensures seen here))

pub behind_element-returns : goal.behind_element-returns
behind_element-returns t c = λ seen here.
    gives_rest _ _ _ _ _ _ c.in_ok-kind.ensures _ (c.in_ok-rest.ensures seen here) (λ rest. rest.now) c.behind_value.result c.behind_value.ensures

-- ---- a value

pub behind_value-overflow_add-at : goal.behind_value-overflow_add-at
behind_value-overflow_add-at t c = omega (arith, c.requires, frame_within _ _ c.in_ok-frame-in-Doc.ensures)

pub behind_value-walk_document-requires : goal.behind_value-walk_document-requires
behind_value-walk_document-requires t c = (search rules, omega (arith, c.requires, frame_within _ _ c.in_ok-frame-in-Doc.ensures))

pub behind_value-overflow_add-at-in-Array : goal.behind_value-overflow_add-at-in-Array
behind_value-overflow_add-at-in-Array t c = omega (arith, c.requires, frame_within _ _ c.in_ok-frame-in-Array.ensures)

pub behind_value-walk_list-requires : goal.behind_value-walk_list-requires
behind_value-walk_list-requires t c = (search rules, omega (arith, c.requires, frame_within _ _ c.in_ok-frame-in-Array.ensures))

pub behind_value-returns-in_ok-_text-in-Text : goal.behind_value-returns-in_ok-_text-in-Text
behind_value-returns-in_ok-_text-in-Text t c = rw c.in-Text.is (behind_text _ _ _ _ c.in_ok-_text-in-Text.ensures)

pub behind_value-returns-in_ok-walk_document-in-Doc : goal.behind_value-returns-in_ok-walk_document-in-Doc
behind_value-returns-in_ok-walk_document-in-Doc t c = rw c.in-Doc.is (behind_document _ _ _ _ c.in_ok-frame-in-Doc.ensures c.in_ok-walk_document-in-Doc.ensures)

pub behind_value-returns-in_ok-walk_list-in-Array : goal.behind_value-returns-in_ok-walk_list-in-Array
behind_value-returns-in_ok-walk_list-in-Array t c = rw c.in-Array.is (behind_array _ _ _ _ c.in_ok-frame-in-Array.ensures c.in_ok-walk_list-in-Array.ensures)

pub behind_value-returns-in_ok-_subtype-in-Binary : goal.behind_value-returns-in_ok-_subtype-in-Binary
behind_value-returns-in_ok-_subtype-in-Binary t c = rw c.in-Binary.is (behind_binary _ _ _ _ c.in_ok-_subtype-in-Binary.ensures)

pub behind_value-returns-in-Null : goal.behind_value-returns-in-Null
behind_value-returns-in-Null t c = rw c.in-Null.is (behind_null _ _ _)

pub behind_value-returns-in-MinKey : goal.behind_value-returns-in-MinKey
behind_value-returns-in-MinKey t c = rw c.in-MinKey.is (behind_min_key _ _ _)

pub behind_value-returns-in-MaxKey : goal.behind_value-returns-in-MaxKey
behind_value-returns-in-MaxKey t c = rw c.in-MaxKey.is (behind_max_key _ _ _)

-- ---- the loop over a document's fields

pub walk_document-returns-then-levels-eq0 : goal.walk_document-returns-then-levels-eq0
walk_document-returns-then-levels-eq0 t c = too_deep _ _ _ _ _ (omega arith)

pub walk_document-elements-init : goal.walk_document-elements-init
walk_document-elements-init t c = record {
  seen = [];
  named = sym c.in_ok-names.ensures;
  read = starts c.args.levels false c.args.at c.args.elements.now c.args.last (omega arith);
  in_range = c.requires;
}

pub walk_document-returns-in_err-name : goal.walk_document-returns-in_err-name
walk_document-returns-in_err-name t c =
    let p = err_from_is_err_and c.from_residual-in_err-name.result c.from_residual-in_err-name.ensures.1 in
    let so_far = c.elements.invariant in
    rw (p.1, p.2) (ends _ _ _ _ _ _ _ _ (some_left _ (sym c.is_empty.ensures ∙ c.elements-test.true)) (c.in_err-name.ensures so_far.seen so_far.named) so_far.read)

pub walk_document-add-requires-clause-whole : goal.walk_document-add-requires-clause-whole
walk_document-add-requires-clause-whole t c =
    let so_far = c.elements.invariant in
    let field = c.in_ok-name.ensures so_far.seen so_far.named in
    (new_among_names _ _ _ _ field.0 _ _ field.1 so_far.named (ap (λ (part : List ℕ × List ℕ). part.0) field.2)).0

pub walk_document-add-requires-clause-fresh : goal.walk_document-add-requires-clause-fresh
walk_document-add-requires-clause-fresh t c =
    let so_far = c.elements.invariant in
    let field = c.in_ok-name.ensures so_far.seen so_far.named in
    (new_among_names _ _ _ _ field.0 _ _ field.1 so_far.named (ap (λ (part : List ℕ × List ℕ). part.0) field.2)).1

pub walk_document-overflow_sub-at : goal.walk_document-overflow_sub-at
walk_document-overflow_sub-at t c =
    let so_far = c.elements.invariant in
    let field = c.in_ok-name.ensures so_far.seen so_far.named in
    omega (arith, walked_shorter _ _ _ _ _ field.0 field.1 _ (ap (λ (part : List ℕ × List ℕ). part.1) field.2))

pub walk_document-elements-smaller : goal.walk_document-elements-smaller
walk_document-elements-smaller t c =
    let so_far = c.elements.invariant in
    let field = c.in_ok-name.ensures so_far.seen so_far.named in
    walked_shorter _ _ _ _ _ field.0 field.1 _ (ap (λ (part : List ℕ × List ℕ). part.1) field.2)

pub walk_document-elements-preserved : goal.walk_document-elements-preserved
walk_document-elements-preserved t c =
    let so_far = c.elements.invariant in
    let field = c.in_ok-name.ensures so_far.seen so_far.named in
    let rest = ap (λ (part : List ℕ × List ℕ). part.1) field.2 in
    record {
      seen = so_far.seen ++ field.0.0 ∷ [];
      named = named_on so_far.seen field.0.0 _ _ _ so_far.named (ap (λ (part : List ℕ × List ℕ). part.0) field.2) c.in_ok-add.ensures.ok;
      read = walks_on _ _ _ _ _ field.0 field.1 _ rest _ _ so_far.read;
      in_range = omega (arith, so_far.in_range, walked_shorter _ _ _ _ _ field.0 field.1 _ rest);
    }

pub walk_document-returns : goal.walk_document-returns
walk_document-returns t c =
    let so_far = c.elements.invariant in
    let done = is_done _ _ _ _ _ _ _ (none_left _ (sym c.is_empty.ensures ∙ c.elements-test.false)) so_far.read in
    closes c.closed.result so_far.seen _ _ (c.closed.ensures so_far.seen) done

-- ---- the loop over an array's elements

pub walk_list-returns-then-levels-eq0 : goal.walk_list-returns-then-levels-eq0
walk_list-returns-then-levels-eq0 t c = too_deep _ _ _ _ _ (omega arith)

pub walk_list-elements-init : goal.walk_list-elements-init
walk_list-elements-init t c = record {
  seen = [];
  here = refl;
  read = starts c.args.levels true c.args.at c.args.elements.now c.args.last (omega arith);
  in_range = c.requires;
  counted = omega arith;
}

pub walk_list-returns-in_err-after : goal.walk_list-returns-in_err-after
walk_list-returns-in_err-after t c =
    let p = err_from_is_err_and c.from_residual.result c.from_residual.ensures.1 in
    let so_far = c.elements.invariant in
    rw (p.1, p.2) (ends _ _ _ _ _ _ _ _ (some_left _ (sym c.is_empty.ensures ∙ c.elements-test.true)) (c.in_err-after.ensures so_far.seen so_far.here) so_far.read)

pub walk_list-overflow_add-place : goal.walk_list-overflow_add-place
walk_list-overflow_add-place t c = omega (arith, c.elements.invariant.in_range, c.elements.invariant.counted)

pub walk_list-overflow_sub-at : goal.walk_list-overflow_sub-at
walk_list-overflow_sub-at t c =
    let so_far = c.elements.invariant in
    let element = c.in_ok-after.ensures so_far.seen so_far.here in
    omega (arith, walked_shorter _ _ _ _ _ element.0 element.1 _ element.2)

pub walk_list-elements-smaller : goal.walk_list-elements-smaller
walk_list-elements-smaller t c =
    let so_far = c.elements.invariant in
    let element = c.in_ok-after.ensures so_far.seen so_far.here in
    walked_shorter _ _ _ _ _ element.0 element.1 _ element.2

pub walk_list-elements-preserved : goal.walk_list-elements-preserved
walk_list-elements-preserved t c =
    let so_far = c.elements.invariant in
    let element = c.in_ok-after.ensures so_far.seen so_far.here in
    let less = walked_shorter _ _ _ _ _ element.0 element.1 _ element.2 in
    record {
      seen = so_far.seen ++ element.0.0 ∷ [];
      here = one_longer so_far.seen element.0.0 _ so_far.here;
      read = walks_on _ _ _ _ _ element.0 element.1 _ element.2 _ _ so_far.read;
      in_range = omega (arith, so_far.in_range, less);
      counted = omega (arith, so_far.counted, less);
    }

pub walk_list-returns : goal.walk_list-returns
walk_list-returns t c =
    let so_far = c.elements.invariant in
    let done = is_done _ _ _ _ _ _ _ (none_left _ (sym c.is_empty.ensures ∙ c.elements-test.false)) so_far.read in
    closes c.closed.result so_far.seen _ _ (c.closed.ensures so_far.seen) done
