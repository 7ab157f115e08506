use Rattle.std.proofs.Common.{true, Some, map, ◌∙◌}
use Rattle.std.proofs.lemmas.List.{map_push}
use Rattle.std.proofs.lemmas.Map.Text.{btree_map_updates_text, btree_set_updates_text}
use Rattle.std.specs.String.{string_bytes}
use Rattle.dv_catalog.proofs.Found.{still_named, still_pathed, named_too, pathed_too}
use Rattle.dv_keyed.specs.Inner.View.{form_of_new}
use Rattle.dv_catalog.proofs.pending_indexes.PendingIndexes.add.Goals as goal

pub invariant_of-self-in_err-insert-2 : goal.invariant_of-self-in_err-insert-2
invariant_of-self-in_err-insert-2 c =
    let bs = string_bytes c.in_ok-name.name in
    let forms = map form_of_new c.self.inside.indexes.items in
    let m = c.self.inside.names in
    let n = c.insert.new.self in
    record {
      named = still_named bs forms c.len.result m n (btree_map_updates_text bs m n (Some c.len.result) c.in_ok-insert.ensures.updates) c.self.invariant.named;
      pathed = λ text h. rw c.in_err-insert-2.ensures.err (c.self.invariant.pathed text h);
    }

pub invariant_of-self-in_err-push : goal.invariant_of-self-in_err-push
invariant_of-self-in_err-push c =
    let bs = string_bytes c.in_ok-name.name in
    let ts = string_bytes c.args.path in
    let forms = map form_of_new c.self.inside.indexes.items in
    let m = c.self.inside.names in
    let n = c.insert.new.self in
    let s = c.self.inside.paths in
    let t = c.insert-2.new.self in
    rw c.in_err-push.ensures.items (record {
      named = still_named bs forms c.len.result m n (btree_map_updates_text bs m n (Some c.len.result) c.in_ok-insert.ensures.updates) c.self.invariant.named;
      pathed = still_pathed ts forms s t (btree_set_updates_text ts s t true c.in_ok-insert-2.ensures.updates) c.self.invariant.pathed;
    })

pub invariant_of-self-2 : goal.invariant_of-self-2
invariant_of-self-2 c =
    let bs = string_bytes c.in_ok-name.name in
    let ts = string_bytes c.args.path in
    let x = form_of_new c.args.index in
    let forms = map form_of_new c.self.inside.indexes.items in
    let m = c.self.inside.names in
    let n = c.insert.new.self in
    let s = c.self.inside.paths in
    let t = c.insert-2.new.self in
    rw (c.in_ok-push.ensures.items, map_push form_of_new c.self.inside.indexes.items c.args.index) (record {
      named = named_too bs forms c.len.result m n (btree_map_updates_text bs m n (Some c.len.result) c.in_ok-insert.ensures.updates) c.self.invariant.named x (c.in_ok-name.ensures.ok ∙ c.as_str.ensures);
      pathed = pathed_too ts forms s t (btree_set_updates_text ts s t true c.in_ok-insert-2.ensures.updates) c.self.invariant.pathed x c.requires;
    })
