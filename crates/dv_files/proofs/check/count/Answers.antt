use Rattle.std.proofs.Common.{◌∙◌, ◌<◌, Err, Ok, Some, ap, arith, inl, inr, length, length-append, refl, rules, sym}
use Rattle.std.proofs.lemmas.Bool.{eqb-true}
use Rattle.std.proofs.lemmas.List.{nil_from_length}
use Rattle.dv_files.proofs.Files.{Counts-all, Counts-held, Counts-more, Counts-nothing, Counts-stops, HasBytes, fewer_behind}
use Rattle.dv_files.proofs.check.count.Goals as goal

pub documents-init : goal.documents-init
documents-init c = Counts-nothing c.args.bytes.now

pub documents-smaller : goal.documents-smaller
documents-smaller c =
    let law : HasBytes = record { nothing = c.what_a_field_adds.ensures.nothing; more = c.what_a_field_adds.ensures.more } in
    fewer_behind law c.documents.rest.now _ c.in-Ok.behind.now c.in-Ok.ensures.found.1

pub documents-preserved : goal.documents-preserved
documents-preserved c =
    let law : HasBytes = record { nothing = c.what_a_field_adds.ensures.nothing; more = c.what_a_field_adds.ensures.more } in
    let some : 0 < length c.documents.rest.now = search rules in
    Counts-more law c.args.bytes.now c.documents.rest.now _ c.in-Ok.behind.now c.documents.count c.documents.invariant some c.in-Ok.ensures.found.1 c.in-Ok.ensures.only

pub returns-in-Err : goal.returns-in-Err
returns-in-Err c =
    let some : 0 < length c.documents.rest.now = search rules in
    let counts = c.documents.invariant in
    record {
      counted = tt;
      only = λ all holds. inr (ap Err (c.of_document.ensures.memory (Counts-stops _ _ _ counts some c.in-Err.ensures.only all holds)));
      refused = λ number at fault e.
          let told = c.of_document.ensures.told number at fault cc in
          elim c.in-Err.ensures.refused [
            | inl memory ↦ let none = c.of_document.ensures.memory memory in cc
            | inr first ↦ record {
              documents = counts.documents;
              front = counts.front;
              rest = c.documents.rest.now;
              whole = counts.whole;
              held = counts.held;
              number_is = omega (arith, told.0, counts.counted);
              at_is = omega (arith, told.1, ap length counts.whole, length-append counts.front c.documents.rest.now);
              more = some;
              first = first ∙ ap Some (sym told.2);
            }
          ];
      streams = c.of_document.ensures.streams;
      small = λ e. c.of_document.ensures.small cc;
      read = λ e. c.of_document.ensures.read cc;
    }

pub returns : goal.returns
returns c =
    let law : HasBytes = record { nothing = c.what_a_field_adds.ensures.nothing; more = c.what_a_field_adds.ensures.more } in
    let none = nil_from_length c.documents.rest.now (eqb-true (length c.documents.rest.now) 0 (sym c.is_empty.ensures ∙ c.documents-test.false)) in
    record {
      counted = Counts-held _ _ _ c.documents.invariant none;
      only = λ all holds. inl (ap Ok (Counts-all law _ _ _ c.documents.invariant none all holds));
      refused = λ number at fault e. cc;
      streams = λ n. (refl, refl);
      small = λ e. cc;
      read = λ e. cc;
    }
