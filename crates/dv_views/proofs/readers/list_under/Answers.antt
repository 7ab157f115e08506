use Rattle.std.proofs.Common.{◌≡◌, ◌++◌, ◌∷◌, [], Bool, true, false, List, ℕ, ap, sym, ◌∙◌}
use Rattle.std.specs.Bool.{if◌then◌else◌}
use Rattle.std.specs.String.{string_bytes, string_eq}
use Rattle.indexmap.proofs.CallerLemmas.{insert_entry-new}
use Rattle.dv_views.specs.Inner.Readers.{has_list, listing_seen}
use Rattle.dv_views.proofs.Listed.{absent_under, seen_more, there_under}
use Rattle.dv_views.proofs.readers.list_under.Goals as goal

pub returns-then-contains_key : goal.returns-then-contains_key
returns-then-contains_key c =
    let old = listing_seen c.args.lists.now.entries in
    let has : has_list c.args.name.now old ≡ true = there_under c.args.name.now c.args.lists.now.entries ∙ sym c.contains_key.ensures ∙ c.if-contains_key.true in
    ap (λ (b : Bool). if b then old else old ++ (c.args.name.now, c.args.place ∷ []) ∷ []) (sym has)

pub returns : goal.returns
returns c =
    let es = c.args.lists.now.entries in
    let old = listing_seen es in
    let name = c.args.name.now in
    let key = c.in_ok-from_str.field-0 in
    let called : string_bytes key ≡ name = c.in_ok-from_str.ensures.ok in
    let has : has_list name old ≡ false = there_under name es ∙ sym c.contains_key.ensures ∙ c.if-contains_key.false in
    let absent = absent_under (string_bytes key) es (ap (λ (n : List ℕ). has_list n old) called ∙ has) in
    let items : c.push.new.self.items ≡ c.args.place ∷ [] = c.in_ok-push.ensures.items ∙ ap (λ (xs : List ℕ). xs ++ c.args.place ∷ []) c.in_ok-places.ensures.items in
    ap listing_seen (c.in_ok-insert.ensures.entries ∙ insert_entry-new string_eq c.args.lists.now key c.push.new.self absent)
    ∙ seen_more es (key, c.push.new.self)
    ∙ (λ i. old ++ (called i, items i) ∷ [])
    ∙ ap (λ (b : Bool). if b then old else old ++ (name, c.args.place ∷ []) ∷ []) (sym has)
