-- A row and a document that it is joined with share a key; so what is found by keys is all that a row is joined with.
use Rattle.std.specs.Prelude.{◌≡◌, Bool, true, false, ◌||◌, List, [], ◌∷◌, filter, map, Option, Some, None, refl}
use Rattle.std.proofs.Common.{ap, sym, ◌∙◌}
use Rattle.std.proofs.lemmas.List.Elements.{filter_agree}
use Rattle.std.specs.Cmp.{eq_by_cmp_equiv}
use Rattle.std.specs.List.{list_any}
use Rattle.std.specs.Ordering.{is_eq}
use Rattle.dv_value.specs.Tree.{Field, Tree, array, elements_of}
use Rattle.dv_value.specs.Inner.ListLaws.{same-truth}
use Rattle.dv_order.specs.Order.{canon, order}
use Rattle.dv_order.specs.Key.{KeyTree, key_order, value}
use Rattle.dv_order.specs.Inner.KeyLaws.{key_order_total}
use Rattle.dv_order.specs.Inner.SameOrder.{order_of_canon}
use Rattle.dv_path.specs.LeafKeys.{is_key_of, is_some_key, leaf_values}
use Rattle.dv_gather.specs.declared.lookup.Lookup.{Lookup}
use Rattle.dv_gather.specs.Joining.{as_value, is_equal_to_one, is_joined, joined_by, joined_with}
use Rattle.dv_gather.specs.Lookups.{joined_row, set_field}
use Rattle.dv_gather.specs.Inner.KeyLaws.{alike, any-same}
use Rattle.dv_change.specs.Changes.{Positioned, forget}
use Rattle.dv_join.specs.Inner.Indexed.{has_any}
use Rattle.dv_join.specs.Inner.Turning.{has_foreign, has_local, if_any}
use Rattle.dv_join.proofs.Indexes.{is_one_of}
use Rattle.dv_join.proofs.Rows.{forget-filter}

-- an item that passes
record Passing {X : Type 0} (p : X → Bool) (xs : List X) : Type 0 where
  one : X
  passes : p one ≡ true
  among : (q : X → Bool) → q one ≡ true → list_any q xs ≡ true

pub or-left : (a b : Bool) → a ≡ true → a || b ≡ true
or-left true b e = refl
or-left false b e = cc

pub or-right : (a b : Bool) → b ≡ true → a || b ≡ true
or-right true b e = refl
or-right false b e = e

passing : {X : Type 0} (p : X → Bool) (xs : List X) → list_any p xs ≡ true → Passing p xs
passing p [] e = absurd (let same : false ≡ true = e in cc)
passing {X = X} p (x ∷ xs) e = by (p x) refl (passing p xs)
  where
    by : (b : Bool) → p x ≡ b → (list_any p xs ≡ true → Passing p xs) → Passing p (x ∷ xs)
    by true is rest = record { one = x; passes = is; among = λ q h. or-left (q x) (list_any q xs) h }
    by false is rest =
        let there : Passing p xs = rest (ap (λ b. b || list_any p xs) (sym is) ∙ e) in
        record { one = there.one; passes = there.passes; among = λ q h. or-right (q x) (list_any q xs) (there.among q h) }

-- the key of a value is a key of other values exactly if the value is equal to one of them
keys-as-values : (v : Tree) (ws : List Tree) → is_some_key (value (canon v)) ws ≡ is_equal_to_one ws v
keys-as-values v ws = any-same (is_key_of (value (canon v))) (λ w. is_eq (order v w)) (λ w. ap is_eq (order_of_canon v w)) ws

-- the key of some value on both sides
record Shared (vs ws : List Tree) : Type 0 where
  key : KeyTree
  here : is_some_key key vs ≡ true
  there : is_some_key key ws ≡ true

shared : (vs ws : List Tree) → list_any (is_equal_to_one ws) vs ≡ true → Shared vs ws
shared vs ws e =
    let v : Passing (is_equal_to_one ws) vs = passing (is_equal_to_one ws) vs e in
    let k = value (canon v.one) in
    record {
      key = k;
      here = v.among (is_key_of k) ((eq_by_cmp_equiv key_order_total).refl k);
      there = keys-as-values v.one ws ∙ v.passes;
    }

-- some key of one side is a key of the other
by-keys : (keys : List KeyTree) (vs ws : List Tree) → ((k : KeyTree) → is_some_key k vs ≡ true → is_one_of keys k ≡ true) → Shared vs ws → list_any (λ m. is_some_key m ws) keys ≡ true
by-keys keys vs ws own s =
    let m : Passing (λ m. is_eq (key_order s.key m)) keys = passing (λ m. is_eq (key_order s.key m)) keys (own s.key s.here) in
    m.among (λ m. is_some_key m ws) (sym (alike s.key m.one ws m.passes) ∙ s.there)

module _ (l : Lookup) (d f : List Field) (keys : List KeyTree) where
  abbrev vs : List Tree
  vs = joined_by l.local d

  abbrev ws : List Tree
  ws = leaf_values l.foreign f

  pub found-by-foreign : is_joined l.local l.foreign d f ≡ true → ((k : KeyTree) → has_foreign l k f ≡ true → is_one_of keys k ≡ true) → has_any (has_local l) keys d ≡ true
  found-by-foreign joined own =
      let s : Shared vs ws = shared vs ws joined in
      by-keys keys ws vs own (record { key = s.key; here = s.there; there = s.here })

  -- if the keys are those of the row, the document has one of them exactly if the two are joined
  pub found-by-local : ((k : KeyTree) → is_one_of keys k ≡ has_local l k d) → has_any (has_foreign l) keys f ≡ is_joined l.local l.foreign d f
  found-by-local own = same-truth (has_any (has_foreign l) keys f) (is_joined l.local l.foreign d f) there (λ joined. by-keys keys vs ws (λ k here. own k ∙ here) (shared vs ws joined))
    where
      there : has_any (has_foreign l) keys f ≡ true → is_joined l.local l.foreign d f ≡ true
      there found =
          let m : Passing (λ m. is_some_key m ws) keys = passing (λ m. is_some_key m ws) keys found in
          let v : Passing (is_key_of m.one) vs = passing (is_key_of m.one) vs (sym (own m.one) ∙ m.among (λ n. is_eq (key_order m.one n)) ((eq_by_cmp_equiv key_order_total).refl m.one)) in
          v.among (is_equal_to_one ws) (sym (keys-as-values v.one ws) ∙ sym (alike m.one (value (canon v.one)) ws v.passes) ∙ m.passes)

-- a row that has no key of a document isn't joined with it
pub not-joined : (l : Lookup) (d : List Field) (document : Option (List Field)) (keys : List KeyTree) → ((k : KeyTree) → if_any (has_foreign l k) document ≡ true → is_one_of keys k ≡ true) → has_any (has_local l) keys d ≡ false → if_any (is_joined l.local l.foreign d) document ≡ false
not-joined l d None keys own none = refl
not-joined l d (Some f) keys own none = by (is_joined l.local l.foreign d f) refl
  where
    by : (b : Bool) → is_joined l.local l.foreign d f ≡ b → b ≡ false
    by false e = refl
    by true e = absurd (let same : false ≡ true = sym none ∙ found-by-foreign l d f keys e own in cc)

-- joined rows are the same if they are joined with the same documents
pub same-joined : (l : Lookup) (d : List Field) (some others : Positioned) → filter (λ e. is_joined l.local l.foreign d e.1) some ≡ filter (λ e. is_joined l.local l.foreign d e.1) others → joined_row l (forget some) d ≡ joined_row l (forget others) d
same-joined l d some others same =
    let test = is_joined l.local l.foreign d in
    ap (λ fs. set_field l.target (array (elements_of (map as_value fs))) d) (sym (forget-filter test some) ∙ ap forget same ∙ forget-filter test others)

-- what is found by the keys of a row is what it is joined with
pub found-joined : (l : Lookup) (d : List Field) (documents : Positioned) (keys : List KeyTree) → ((k : KeyTree) → is_one_of keys k ≡ has_local l k d) → map as_value (forget (filter (λ e. has_any (has_foreign l) keys e.1) documents)) ≡ map as_value (joined_with l.local l.foreign (forget documents) d)
found-joined l d documents keys own =
    ap (λ es. map as_value (forget es)) (filter_agree (λ e. has_any (has_foreign l) keys e.1) (λ e. is_joined l.local l.foreign d e.1) (λ e. found-by-local l d e.1 keys own) documents)
    ∙ ap (map as_value) (forget-filter (is_joined l.local l.foreign d) documents)
