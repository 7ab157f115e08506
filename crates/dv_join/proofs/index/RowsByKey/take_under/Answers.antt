-- Afterwards there are no rows under the key, and the same rows as before under other keys.
use Rattle.std.proofs.Common.{◌≡◌, ◌∙◌, [], ap, cond, sym, refl}
use Rattle.std.specs.BTreeMap.{get}
use Rattle.std.specs.Option.{unwrap_or}
use Rattle.std.specs.Ordering.{is_eq}
use Rattle.dv_order.specs.Key.{key_order}
use Rattle.dv_order.specs.Inner.KeyLaws.{equal-back}
use Rattle.dv_join.specs.Inner.Indexed.{under}
use Rattle.dv_join.proofs.Indexes.{none-there, under-like, under-put}
use Rattle.dv_join.proofs.index.RowsByKey.take_under.Goals as goal

pub returns-in-Some : goal.returns-in-Some
returns-in-Some c =
    let m = c.args.self.now.under in
    let key = c.args.key.now in
    let w = c.replace.new.dest in
    let writes = c.get_mut.follows.holds w in
    let nothing : w ≡ [] = c.replace.ensures.after ∙ c.new-none.ensures in
    record {
      rows = c.replace.ensures.value ∙ ap (λ o. unwrap_or o []) c.in-Some.ensures.value;
      others = λ k.
          ap (λ o. unwrap_or o []) ((writes.3 (rw (← c.in-Some.ensures.value) refl)).0 k)
          ∙ under-put (is_eq (key_order key k)) w (get key_order m k) []
          ∙ (λ i. cond (equal-back key k i) (nothing i) (under k c.args.self.now));
    }

pub returns-in-None : goal.returns-in-None
returns-in-None c =
    let key = c.args.key.now in
    let none : under key c.args.self.now ≡ [] = ap (λ o. unwrap_or o []) (sym c.in-None.ensures.value) in
    record {
      rows = c.new-none.ensures ∙ sym none;
      others = λ k.
          rw c.get_mut.follows.holds-at-none (none-there (is_eq (key_order k key)) (under k c.args.self.now) (λ same. under-like k key c.args.self.now same ∙ none));
    }
