-- The row is set or removed among the rows under the key, which are put back if any are left.
use Rattle.std.proofs.Common.{rules, ◌≡◌, ◌∙◌, [], ap, cond, sym}
use Rattle.std.specs.BTreeMap.{get}
use Rattle.std.specs.Option.{unwrap_or}
use Rattle.std.specs.Ordering.{is_eq}
use Rattle.dv_order.specs.Key.{key_order}
use Rattle.dv_order.specs.Inner.KeyLaws.{equal-back}
use Rattle.dv_join.specs.Inner.Indexed.{row_set, under}
use Rattle.dv_join.proofs.Indexes.{gone-again, set-none, set-some, under-gone, under-like, under-put}
use Rattle.dv_join.proofs.index.RowsByKey.set_under.Goals as goal

pub returns-in_ok-insert : goal.returns-in_ok-insert
returns-in_ok-insert c = λ k.
    let set = row_set c.args.pos.now c.args.row.now in
    let key = c.args.key in
    let own : c.in_ok-rows.rows ≡ set (under key c.args.self.now) = c.in_ok-rows.ensures ∙ ap set c.take_under-old.ensures.rows in
    let put : unwrap_or (get key_order c.insert.new.self k) [] ≡ _ = ap (λ o. unwrap_or o []) (c.in_ok-insert.ensures.updates.0 k) ∙ under-put (is_eq (key_order key k)) c.in_ok-rows.rows (get key_order c.take_under-old.new.self.under k) [] in
    set-some set (is_eq (key_order k key)) (under k c.args.self.now) (under key c.args.self.now) (under k c.take_under-old.new.self) _ (under-like k key c.args.self.now) (c.take_under-old.ensures.others k)
    (put ∙ (λ i. cond (equal-back key k i) (own i) (under k c.take_under-old.new.self)))

pub returns-then-is_empty : goal.returns-then-is_empty
returns-then-is_empty c = λ k.
    let set = row_set c.args.pos.now c.args.row.now in
    let key = c.args.key in
    let b = is_eq (key_order k key) in
    let taken = under k c.take_under-old.new.self in
    let none : c.in_ok-rows.rows ≡ [] = search rules in
    let gone : unwrap_or (get key_order c.remove.new.self k) [] ≡ cond b [] taken =
    ap (λ o. unwrap_or o []) (c.remove.ensures.updates.0 k) ∙ under-gone (is_eq (key_order key k)) (get key_order c.take_under-old.new.self.under k) [] ∙ ap (λ a. cond a [] taken) (equal-back key k) in
    set-none set b (under k c.args.self.now) (under key c.args.self.now) _ (under-like k key c.args.self.now) (gone-again b (under k c.args.self.now) taken _ gone (c.take_under-old.ensures.others k)) (sym (c.in_ok-rows.ensures ∙ ap set c.take_under-old.ensures.rows) ∙ none)
