-- What is put after all others, when sets and maps are copied in their order.
use Rattle.std.proofs.Common.{◌≡◌, ◌∙◌, List, [], ◌∷◌, ◌++◌, append_assoc, refl, ap, subst, sym}
use Rattle.std.proofs.lemmas.Map.Keys.{sorted_head, sorted_tail}
use Rattle.std.specs.BTreeMap.{insert_entry}
use Rattle.std.specs.BTreeSet.{insert_key}
use Rattle.std.specs.List.{AllByRecursion}
use Rattle.std.specs.List.Sorted.{IsStrictlySortedBy}
use Rattle.std.specs.Map.{keys_of}
use Rattle.std.specs.Ordering.{ordering_reverse}
use Rattle.std.specs.declared.cmp.Ordering.TheVariants.{Less, Greater}
use Rattle.dv_order.specs.Key.{KeyTree, key_order}
use Rattle.dv_order.specs.Inner.KeyLaws.{key_order_total}
use Rattle.dv_keyed.proofs.Entries.{Entry}

-- a key that comes after another one
behind : (k l : KeyTree) → key_order l k ≡ Less → key_order k l ≡ Greater
behind k l before = key_order_total.antisymm k l ∙ ap ordering_reverse before

later_key : (ks rest : List KeyTree) (k : KeyTree) (P : KeyTree → Type 0) → AllByRecursion P (ks ++ k ∷ rest) → P k
later_key [] rest k P all = all.0
later_key (l ∷ ks) rest k P all = later_key ks rest k P all.1

pub last_key : (ks rest : List KeyTree) (k : KeyTree) → IsStrictlySortedBy key_order (ks ++ k ∷ rest) → insert_key key_order ks k ≡ ks ++ k ∷ []
last_key [] rest k sorted = refl
last_key (l ∷ ks) rest k sorted =
    let after = behind k l (later_key ks rest k (λ m. key_order l m ≡ Less) (sorted_head key_order l (ks ++ k ∷ rest) sorted)) in
    rw after (ap (λ (more : List KeyTree). l ∷ more) (last_key ks rest k (sorted_tail key_order l (ks ++ k ∷ rest) sorted)))

later_entry : (es rest : List Entry) (e : Entry) (P : KeyTree → Type 0) → AllByRecursion P (keys_of (es ++ e ∷ rest)) → P e.0
later_entry [] rest e P all = all.0
later_entry (f ∷ es) rest e P all = later_entry es rest e P all.1

pub last_entry : (es rest : List Entry) (e : Entry) → IsStrictlySortedBy key_order (keys_of (es ++ e ∷ rest)) → insert_entry key_order es e.0 e.1 ≡ es ++ e ∷ []
last_entry [] rest e sorted = refl
last_entry (f ∷ es) rest e sorted =
    let after = behind e.0 f.0 (later_entry es rest e (λ m. key_order f.0 m ≡ Less) (sorted_head key_order f.0 (keys_of (es ++ e ∷ rest)) sorted)) in
    rw after (ap (λ (more : List Entry). f ∷ more) (last_entry es rest e (sorted_tail key_order f.0 (keys_of (es ++ e ∷ rest)) sorted)))

-- ---- one more is copied

pub key_copied : (copy left rest whole more : List KeyTree) (k l : KeyTree) → left ≡ k ∷ rest → l ≡ k → more ≡ insert_key key_order copy l → (copy ++ left ≡ whole) × IsStrictlySortedBy key_order (copy ++ left)
    → (more ++ rest ≡ whole) × IsStrictlySortedBy key_order (more ++ rest)
key_copied copy left rest whole more k l next clone put (so_far, sorted) =
    let at : copy ++ left ≡ copy ++ k ∷ rest = ap (λ (ks : List KeyTree). copy ++ ks) next in
    let last : more ≡ copy ++ k ∷ [] = put ∙ ap (insert_key key_order copy) clone ∙ last_key copy rest k (subst (IsStrictlySortedBy key_order) at sorted) in
    let same : copy ++ left ≡ more ++ rest = at ∙ sym (append_assoc copy (k ∷ []) rest) ∙ ap (λ (ks : List KeyTree). ks ++ rest) (sym last) in
    (sym same ∙ so_far, subst (IsStrictlySortedBy key_order) same sorted)

pub entry_copied : (copy left rest whole more : List Entry) (k l : KeyTree) (v w : List KeyTree) → left ≡ (k, v) ∷ rest → l ≡ k → w ≡ v → more ≡ insert_entry key_order copy l w
    → (copy ++ left ≡ whole) × IsStrictlySortedBy key_order (keys_of (copy ++ left)) → (more ++ rest ≡ whole) × IsStrictlySortedBy key_order (keys_of (more ++ rest))
entry_copied copy left rest whole more k l v w next clone others put (so_far, sorted) =
    let at : copy ++ left ≡ copy ++ (k, v) ∷ rest = ap (λ (es : List Entry). copy ++ es) next in
    let last : more ≡ copy ++ (k, v) ∷ [] = put ∙ (λ i. insert_entry key_order copy (clone i) (others i)) ∙ last_entry copy rest (k, v) (subst (λ (es : List Entry). IsStrictlySortedBy key_order (keys_of es)) at sorted) in
    let same : copy ++ left ≡ more ++ rest = at ∙ sym (append_assoc copy ((k, v) ∷ []) rest) ∙ ap (λ (es : List Entry). es ++ rest) (sym last) in
    (sym same ∙ so_far, subst (λ (es : List Entry). IsStrictlySortedBy key_order (keys_of es)) same sorted)
