use Rattle.std.proofs.Common.{Bor, ◌∙◌, ◌&&◌, not, ap, map, sym}
use Rattle.std.specs.Ordering.{is_eq}
use Rattle.dv_order.specs.Key.{KeyTree, key_order}
use Rattle.dv_index.specs.Inner.Change.{changed_id, document_after}
use Rattle.dv_keyed.specs.Inner.Keys.{has_key}
use Rattle.dv_keyed.specs.Inner.Pairs.{has_pair}
use Rattle.dv_index.proofs.Changed.{not-there, held-before, left-after, left-before, index-after, index-back}
use Rattle.dv_index.proofs.change.+carry_out.Goals as goal

pub add-requires-clause-absent : goal.add-requires-clause-absent
add-requires-clause-absent t c =
    not-there c.args.documents.now c.args.indexes.now _ _ c.in-Some.ensures.cases.0 c.requires.indexed c.in_ok-moved.moved.id (changed_id c.args.change) c.in_ok-moved.ensures.id c.path.result.now c.path.ensures (document_after c.args.change) c.in_ok-moved.moved.old c.in_ok-moved.moved.new _ c.in_ok-moved.ensures.old c.in_ok-moved.ensures.new (ap (map (λ (x : Bor KeyTree). x.now)) c.as_slice.ensures.value ∙ c.in_ok-gained.ensures)

pub add-requires-clause-held : goal.add-requires-clause-held
add-requires-clause-held t c =
    held-before c.args.documents.now c.args.indexes.now _ _ c.in-Some.ensures.cases.0 c.requires.indexed c.in_ok-moved.moved.id (changed_id c.args.change) c.in_ok-moved.ensures.id c.path.result.now c.path.ensures (document_after c.args.change) c.in_ok-moved.moved.old c.in_ok-moved.moved.new _ c.in_ok-moved.ensures.old c.in_ok-moved.ensures.new (ap (map (λ (x : Bor KeyTree). x.now)) c.as_slice.ensures.value ∙ c.in_ok-gained.ensures)

pub take_out-requires : goal.take_out-requires
take_out-requires t c =
    left-after c.args.documents.now c.args.indexes.now _ _ c.in-Some.ensures.cases.0 c.requires.indexed c.in_ok-moved.moved.id (changed_id c.args.change) c.in_ok-moved.ensures.id c.path.result.now c.path.ensures (document_after c.args.change) c.in_ok-moved.moved.old c.in_ok-moved.moved.new _ c.in_ok-moved.ensures.old c.in_ok-moved.ensures.new (ap (map (λ (x : Bor KeyTree). x.now)) c.as_slice.ensures.value ∙ c.in_ok-gained.ensures)
    c.add.new.self c.in_ok-add.ensures.ok _ (ap (map (λ (x : Bor KeyTree). x.now)) c.as_slice-in-Ok.ensures.value ∙ c.in_ok-lost.ensures)

pub take_out-requires-in-Err : goal.take_out-requires-in-Err
take_out-requires-in-Err t c = λ k left.
    left-before c.args.documents.now c.args.indexes.now _ _ c.in-Some.ensures.cases.0 c.requires.indexed c.in_ok-moved.moved.id (changed_id c.args.change) c.in_ok-moved.ensures.id c.path.result.now c.path.ensures (document_after c.args.change) c.in_ok-moved.moved.old c.in_ok-moved.moved.new _ c.in_ok-moved.ensures.old c.in_ok-moved.ensures.new (ap (map (λ (x : Bor KeyTree). x.now)) c.as_slice.ensures.value ∙ c.in_ok-gained.ensures)
    c.add.new.self c.in_ok-add.ensures.ok k (ap (λ ks. has_pair k c.in_ok-moved.moved.id c.add.new.self.pairs && not (has_key k ks)) (ap (map (λ (x : Bor KeyTree). x.now)) c.as_slice.ensures.value ∙ sym (ap (map (λ (x : Bor KeyTree). x.now)) c.as_slice-in-Err.ensures.value)) ∙ left)

pub returns-in-Ok-clause-indexed : goal.returns-in-Ok-clause-indexed
returns-in-Ok-clause-indexed t c = (
  index-after c.args.documents.now c.args.indexes.now _ _ c.in-Some.ensures.cases.0 c.requires.indexed c.in_ok-moved.moved.id (changed_id c.args.change) c.in_ok-moved.ensures.id c.path.result.now c.path.ensures (document_after c.args.change) c.in_ok-moved.moved.old c.in_ok-moved.moved.new _ c.in_ok-moved.ensures.old c.in_ok-moved.ensures.new (ap (map (λ (x : Bor KeyTree). x.now)) c.as_slice.ensures.value ∙ c.in_ok-gained.ensures)
      c.add.new.self c.take_out.new.self c.in_ok-add.ensures.form c.take_out.ensures.form c.in_ok-add.ensures.ok
      c.carry_out.new.documents _ (ap (map (λ (x : Bor KeyTree). x.now)) c.as_slice-in-Ok.ensures.value ∙ c.in_ok-lost.ensures) c.in-Ok.ensures.found c.take_out.ensures.pairs,
  c.in-Ok.ensures.indexed,
)

pub returns-clause-still_indexed : goal.returns-clause-still_indexed
returns-clause-still_indexed t c = (
  index-back c.args.documents.now c.args.indexes.now _ _ c.in-Some.ensures.cases.0 c.requires.indexed c.in_ok-moved.moved.id (changed_id c.args.change) c.in_ok-moved.ensures.id c.path.result.now c.path.ensures (document_after c.args.change) c.in_ok-moved.moved.old c.in_ok-moved.moved.new _ c.in_ok-moved.ensures.old c.in_ok-moved.ensures.new (ap (map (λ (x : Bor KeyTree). x.now)) c.as_slice.ensures.value ∙ c.in_ok-gained.ensures)
      c.add.new.self c.take_out-in-Err.new.self c.in_ok-add.ensures.form c.take_out-in-Err.ensures.form c.in_ok-add.ensures.ok
      (λ k i. c.take_out-in-Err.ensures.pairs k i ∙ ap (λ ks. has_pair k i c.add.new.self.pairs && not (has_key k ks && is_eq (key_order i c.in_ok-moved.moved.id))) (ap (map (λ (x : Bor KeyTree). x.now)) c.as_slice-in-Err.ensures.value ∙ sym (ap (map (λ (x : Bor KeyTree). x.now)) c.as_slice.ensures.value))),
  c.in-Err.ensures.still_indexed,
)
