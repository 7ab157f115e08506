-- Documents that are deleted.
use Rattle.std.proofs.Common.{◌≡◌, ◌≤◌, ◌<◌, ◌-◌, ◌⊎◌, inl, inr, arith, ℕ, zero, suc, Bool, true, false, cond, not, List, [], ◌∷◌, length, map, take, take-take, Option, None, is_some, Ok, refl, sym, ap, subst, ◌∙◌}
use Rattle.std.proofs.lemmas.List.{length-map, take-map}
use Rattle.std.specs.List.{AllByRecursion}
use Rattle.std.specs.Ordering.{is_eq}
use Rattle.std.specs.declared.cmp.Ordering.{Ordering}
use Rattle.std.specs.declared.cmp.Ordering.TheVariants.{Less}
use Rattle.dv_value.specs.Tree.{Field}
use Rattle.dv_coll.specs.Collection.{HasId, id_key, found, has_key, removed}
use Rattle.dv_command.specs.Entries.{Deletion}
use Rattle.dv_order.specs.Key.{KeyTree, key_order}
use Rattle.dv_catalog.specs.Changes.{Change, changes_of, done_to, gone, with_changes}
use Rattle.dv_catalog.specs.Effects.{all_or_first, without, delete_chosen}
use Rattle.dv_catalog.specs.Inner.EffectView.{AreFirst, ArePlaced}
use Rattle.dv_catalog.specs.Inner.EffectLaws.{chosen_good, done_unbroken, matching_good}
use Rattle.dv_catalog.specs.Scan.{matching}
use Rattle.dv_catalog.specs.State.{Collection}
use Rattle.dv_catalog.proofs.Breaking.{gone_breaks_nothing}
use Rattle.dv_catalog.proofs.Keys.{all_there, own_key, AreThere, AreBefore, before_matching}
use Rattle.dv_catalog.proofs.Stopping.{first_placed, take_shorter}

all_gone : (ds : List (List Field)) → map gone (map id_key ds) ≡ map (λ d. gone (id_key d)) ds
all_gone [] = refl
all_gone (d ∷ ds) = ap (λ (rest : List Change). gone (id_key d) ∷ rest) (all_gone ds)

-- ---- the removed documents are there, each when its turn comes

abbrev pub NoLongerFound : Type 0
NoLongerFound = (k l : KeyTree) (ds : List (List Field)) → found l (removed k ds) ≡ cond (is_eq (key_order k l)) None (found l ds)

behind_less : (o : Ordering) (there : Option (List Field)) → o ≡ Less → is_some there ≡ true → is_some (cond (is_eq o) None there) ≡ true
behind_less o there less is = rw less is

left_there : NoLongerFound → (k : KeyTree) (documents others : List (List Field)) → AllByRecursion (λ e. key_order k (id_key e) ≡ Less) others → AreThere documents others → AreThere (removed k documents) others
left_there law k documents [] behind there = tt
left_there law k documents (e ∷ es) behind there = (
  ap is_some (law k (id_key e) documents) ∙ behind_less (key_order k (id_key e)) (found (id_key e) documents) behind.0 there.0,
  left_there law k documents es behind.1 there.1,
)

pub gone_placed : NoLongerFound → (documents others : List (List Field)) → AreBefore others → AreThere documents others → ArePlaced documents (map gone (map id_key others))
gone_placed law documents [] before there = tt
gone_placed law documents (d ∷ ds) before there = (there.0, gone_placed law (removed (id_key d) documents) ds before.1 (left_there law (id_key d) documents ds before.0 there.1))

-- ---- a deletion

chosen_before : (first : Bool) (ds : List (List Field)) → AreBefore ds → AreBefore (all_or_first first ds)
chosen_before false ds before = before
chosen_before true [] before = tt
chosen_before true (d ∷ ds) before = (tt, tt)

module _ (deletion : Deletion) (old ds : List (List Field)) (finds : ds ≡ all_or_first deletion.only_first (matching deletion.filter old)) where
  pub deletes_identified : AllByRecursion HasId old → AllByRecursion HasId ds
  deletes_identified all = subst (AllByRecursion HasId) (sym finds) (chosen_good HasId deletion.only_first (matching deletion.filter old) (matching_good HasId deletion.filter old all))

  module _ (keys : List KeyTree) (keyed : keys ≡ map id_key ds) where
    pub deletes : (count : ℕ) → count ≡ length ds → delete_chosen deletion old ≡ Ok (record { matched = count; changes = map gone keys })
    deletes count many =
        let goes : map (λ d. gone (id_key d)) ds ≡ map gone keys = sym (all_gone ds) ∙ ap (map gone) (sym keyed) in
        ap (λ (es : List (List Field)). Ok (without es)) (sym finds) ∙ (λ i. Ok (record { matched = sym many i; changes = goes i }))

    pub deletes_placed : NoLongerFound → AreBefore old → ArePlaced old (map gone keys)
    deletes_placed law before =
        let first = deletion.only_first in
        let rows = matching deletion.filter old in
        let before_chosen : AreBefore ds = subst AreBefore (sym finds) (chosen_before first rows (before_matching deletion.filter old before)) in
        let there : AreThere old ds =
        subst (λ (es : List (List Field)). AreThere old es) (sym finds)
        (chosen_good (λ d. is_some (found (id_key d) old) ≡ true) first rows (matching_good (λ d. is_some (found (id_key d) old) ≡ true) deletion.filter old (all_there old))) in
        subst (λ (ks : List KeyTree). ArePlaced old (map gone ks)) (sym keyed) (gone_placed law old ds before_chosen there)

-- ---- the first documents of a deletion

first_identified : (n : ℕ) (ds : List (List Field)) → AllByRecursion HasId ds → AllByRecursion HasId (take n ds)
first_identified zero [] all = tt
first_identified zero (d ∷ ds) all = tt
first_identified (suc n) [] all = tt
first_identified (suc n) (d ∷ ds) all = (all.0, first_identified n ds all.1)

pub all_but_last : {X Y : Type 0} (f : X → Y) (xs some : List X) (n : ℕ) → n ≡ length xs → some ≡ take (n - 1) xs → map f some ≡ take (length (map f xs) - 1) (map f xs)
all_but_last f xs some n many is = ap (map f) is ∙ sym (take-map f (n - 1) xs) ∙ ap (λ (k : ℕ). take (k - 1) (map f xs)) (many ∙ sym (length-map xs f))

pub one_less : (n : ℕ) → (n - 1 ≡ 0) ⊎ (n - 1 < n)
one_less zero = inl (omega arith)
one_less (suc n) = inr (omega arith)

module _ (deletion : Deletion) (c : Collection) where
  abbrev chosen : List (List Field)
  chosen = all_or_first deletion.only_first (matching deletion.filter c.documents)

  abbrev changes : List Change
  changes = map gone (map id_key chosen)

  all_changes : changes_of (done_to c (delete_chosen deletion)) ≡ changes
  all_changes =
      ap changes_of
      (done_unbroken c (delete_chosen deletion) (record { matched = length chosen; changes = changes }) (deletes deletion c.documents chosen refl (map id_key chosen) refl (length chosen) refl) (gone_breaks_nothing c.indexes (map id_key chosen) c.documents))

  -- of these documents, which are the first that match, the first ones are removed
  module _ (many : deletion.only_first ≡ false) (most count : ℕ) (ds : List (List Field)) (found : ds ≡ take most (matching deletion.filter c.documents)) (within : count ≤ length ds) where
    are_chosen : ds ≡ take most chosen
    are_chosen = found ∙ ap (λ (first : Bool). take most (all_or_first first (matching deletion.filter c.documents))) (sym many)

    pub some_identified : AllByRecursion HasId c.documents → AllByRecursion HasId (take count ds)
    some_identified all = first_identified count ds (subst (AllByRecursion HasId) (sym found) (first_identified most (matching deletion.filter c.documents) (matching_good HasId deletion.filter c.documents all)))

    module _ (keys : List KeyTree) (keyed : keys ≡ map id_key (take count ds)) where
      front : map gone keys ≡ take count changes
      front =
          let few : count ≤ most = omega (arith, within, ap length are_chosen, (take_shorter most chosen).0) in
          ap (map gone) (keyed ∙ ap (map id_key) (ap (take count) are_chosen ∙ take-take count most chosen few) ∙ sym (take-map id_key count chosen)) ∙ sym (take-map gone count (map id_key chosen))

      pub some_first : (count ≡ 0) ⊎ (count < length ds) → AreFirst (map gone keys) (changes_of (done_to c (delete_chosen deletion)))
      some_first fewer = record { count = count; fewer = by fewer; are = front ∙ ap (take count) (sym all_changes) }
        where
          length_is : length (changes_of (done_to c (delete_chosen deletion))) ≡ length chosen
          length_is = ap length all_changes ∙ length-map (map id_key chosen) gone ∙ length-map chosen id_key

          by : (count ≡ 0) ⊎ (count < length ds) → (count ≡ 0) ⊎ (count < length (changes_of (done_to c (delete_chosen deletion))))
          by (inl none) = inl none
          by (inr less) = inr (omega (arith, less, ap length are_chosen, (take_shorter most chosen).1, length_is))

      pub some_placed : NoLongerFound → AreBefore c.documents → ArePlaced c.documents (map gone keys)
      some_placed law before = subst (ArePlaced c.documents) (sym front) (first_placed c.documents changes count (deletes_placed deletion c.documents chosen refl (map id_key chosen) refl law before))

-- ---- all are removed

kept : (b : Bool) (d : List Field) (ds : List (List Field)) → b ≡ false → cond b (d ∷ ds) ds ≡ ds
kept true d ds is = absurd cc
kept false d ds is = refl

kept_others : (k : KeyTree) (ds : List (List Field)) → AllByRecursion (λ e. key_order k (id_key e) ≡ Less) ds → removed k ds ≡ ds
kept_others k [] behind = refl
kept_others k (d ∷ ds) behind =
    ap (λ (o : Ordering). cond (not (is_eq o)) (d ∷ removed k ds) (removed k ds)) behind.0 ∙ ap (λ (rest : List (List Field)). d ∷ rest) (kept_others k ds behind.1)

removed_first : (d : List Field) (ds : List (List Field)) → AllByRecursion (λ e. key_order (id_key d) (id_key e) ≡ Less) ds → removed (id_key d) (d ∷ ds) ≡ ds
removed_first d ds behind = kept (not (has_key (id_key d) d)) d (removed (id_key d) ds) (ap not (own_key d)) ∙ kept_others (id_key d) ds behind

pub all_go : (ds : List (List Field)) → AreBefore ds → with_changes ds (map (λ d. gone (id_key d)) ds) ≡ []
all_go [] before = refl
all_go (d ∷ ds) before = ap (λ (rest : List (List Field)). with_changes rest (map (λ e. gone (id_key e)) ds)) (removed_first d ds before.0) ∙ all_go ds before.1

pub all_go_placed : NoLongerFound → (ds : List (List Field)) → AreBefore ds → ArePlaced ds (map (λ d. gone (id_key d)) ds)
all_go_placed law ds before = subst (ArePlaced ds) (all_gone ds) (gone_placed law ds ds before (all_there ds))
