-- Documents that are updated.
use Rattle.std.proofs.Common.{◌≡◌, ℕ, Bool, true, false, cond, not, List, [], ◌∷◌, length, map, Option, Some, None, is_some, if◌then◌else◌, ◌++◌, append-nil, append_assoc, Result, Ok, Err, refl, sym, ap, subst, ◌∙◌}
use Rattle.std.specs.Prelude.{codes, filter, take}
use Rattle.std.specs.Str.{bytes_eq}
use Rattle.dv_value.specs.Names.{has_zero}
use Rattle.dv_value.specs.Tree.{Field, fields_of}
use Rattle.std.specs.List.{AllByRecursion}
use Rattle.std.specs.Option.{option_map}
use Rattle.dv_order.specs.Key.{KeyTree}
use Rattle.dv_coll.specs.Collection.{AreStanding, HasId, IsAscending, found, has_key, id_key, inserted, replaced}
use Rattle.dv_match.specs.Match.{matches}
use Rattle.dv_order.specs.Same.{same_fields}
use Rattle.dv_catalog.specs.declared.effect.Updated.{Updated}
use Rattle.dv_catalog.specs.Inner.EffectView.{ArePlaced, AreUpdatesOf, after_of}
use Rattle.dv_catalog.proofs.Keys.{AreThere, all_there}
use Rattle.dv_update.specs.Update as form
use Rattle.dv_command.specs.Entries.{Updating}
use Rattle.dv_value.specs.Results.{◌>>=◌}
use Rattle.dv_refusal.specs.declared.refusal.Refusal.{Refusal}
use Rattle.dv_catalog.specs.Changes.{Change, put, Effect}
use Rattle.dv_catalog.specs.Effects.{all_or_first}
use Rattle.dv_catalog.specs.Scan.{matching}
use Rattle.dv_catalog.specs.Effects.{after, changed_by, changes, differs, update_chosen}
use Rattle.dv_catalog.specs.Inner.EffectLaws.{KeepsId, IsGoodAfter, chosen_good, matching_good, all_changed_good, after_id}

updates_of : form.Update → List (List Field) → Result Effect Refusal
updates_of update ds = changed_by update ds >>= λ changed. Ok (record { matched = length ds; changes = map put changed })

module _ (updating : Updating) (old ds : List (List Field)) (finds : ds ≡ all_or_first (not updating.multi) (matching updating.filter old)) where
  pub updates : (changed : List (List Field)) (count : ℕ) → changed_by updating.update ds ≡ Ok changed → count ≡ length ds → update_chosen updating old ≡ Ok (record { matched = count; changes = map put changed })
  unfolding updates_of
  updates changed count does many =
      ap (updates_of updating.update) (sym finds) ∙ ap (λ (r : Result (List (List Field)) Refusal). r >>= λ es. Ok (record { matched = length ds; changes = map put es })) does ∙ (λ i. Ok (record { matched = sym many i; changes = map put changed }))

-- ---- what is put is there

abbrev pub StillFound : Type 0
StillFound = (k : KeyTree) (d : List Field) (ds : List (List Field)) → found k (replaced d ds) ≡ (if has_key k d then option_map (λ e. d) (found k ds) else found k ds)

found_still : (d : List Field) (there : Option (List Field)) (b : Bool) → is_some there ≡ true → is_some (cond b (option_map (λ e. d) there) there) ≡ true
found_still d None b is = absurd cc
found_still d (Some e) true is = refl
found_still d (Some e) false is = refl

-- after one is replaced
pub still_there : StillFound → (d : List Field) (documents others : List (List Field)) → AreThere documents others → AreThere (replaced d documents) others
still_there law d documents [] all = tt
still_there law d documents (e ∷ es) all =
    (ap is_some (law (id_key e) d documents) ∙ found_still d (found (id_key e) documents) (has_key (id_key e) d) all.0, still_there law d documents es all.1)

-- one that begins with its `_id` and is there
abbrev IsPlaced : List (List Field) → List Field → Type 0
IsPlaced documents d = HasId d × (is_some (found (id_key d) documents) ≡ true)

afters_placed : KeepsId → (update : form.Update) (documents ds : List (List Field)) → AllByRecursion HasId ds → AreThere documents ds → AllByRecursion (IsGoodAfter (IsPlaced documents) update) ds
afters_placed law update documents [] ids there = tt
afters_placed law update documents (d ∷ ds) ids there = (
  (λ e is. let stays = after_id law update d e ids.0 is in (stays.0, rw stays.1 there.0)),
  afters_placed law update documents ds ids.1 there.1,
)

both_placed : (documents ds : List (List Field)) → AllByRecursion (IsPlaced documents) ds → AllByRecursion HasId ds × AreThere documents ds
both_placed documents [] all = (tt, tt)
both_placed documents (d ∷ ds) all = let rest = both_placed documents ds all.1 in ((all.0.0, rest.0), (all.0.1, rest.1))

still_placed : (b : Bool) (d : List Field) (documents : List (List Field)) (changes : List Change) → b ≡ true → ArePlaced (replaced d documents) changes → ArePlaced (if b then replaced d documents else inserted d documents) changes
still_placed true d documents changes there placed = placed
still_placed false d documents changes there placed = absurd cc

-- each when its turn comes
puts_placed : StillFound → (documents others : List (List Field)) → AllByRecursion HasId others → AreThere documents others → ArePlaced documents (map put others)
puts_placed law documents [] ids there = tt
puts_placed law documents (d ∷ ds) ids there = (
  (ids.0, there.0),
  still_placed (is_some (found (id_key d) documents)) d documents (map put ds) there.0 (puts_placed law (replaced d documents) ds ids.1 (still_there law d documents ds there.1)),
)

-- the results for the documents that an updating selects
pub updates_placed : StillFound → KeepsId → (updating : Updating) (old ds changed : List (List Field)) → ds ≡ all_or_first (not updating.multi) (matching updating.filter old) → AllByRecursion HasId old
    → changed_by updating.update ds ≡ Ok changed → ArePlaced old (map put changed)
updates_placed still law updating old ds changed finds all does =
    let rows = matching updating.filter old in
    let there : AreThere old ds =
    subst (λ (es : List (List Field)). AreThere old es) (sym finds)
    (chosen_good (λ d. is_some (found (id_key d) old) ≡ true) (not updating.multi) rows (matching_good (λ d. is_some (found (id_key d) old) ≡ true) updating.filter old (all_there old))) in
    let ids : AllByRecursion HasId ds = subst (AllByRecursion HasId) (sym finds) (chosen_good HasId (not updating.multi) rows (matching_good HasId updating.filter old all)) in
    let both = both_placed old changed (all_changed_good (IsPlaced old) updating.update ds changed does (afters_placed law updating.update old ds ids there)) in
    puts_placed still old changed both.0 both.1

-- ---- updated documents stay where they were

abbrev pub Others : Type 0
Others = (d e : List Field) (ds those : List (List Field)) → AreStanding ds (e ∷ those) → id_key d ≡ id_key e → AreStanding (replaced d ds) those

-- after one is put, the others are still there
pub next_updates : Others → (documents : List (List Field)) (name : List ℕ) (u : Updated) (left : List Updated) → AreUpdatesOf documents name (u ∷ left) → AreUpdatesOf (replaced (after_of name u) documents) name left
next_updates law documents name u left are =
    let first : id_key (after_of name u) ≡ id_key u.before = cc (are.same_ids) in
    record {
      standing = law (after_of name u) u.before documents (map (λ x. x.before) left) are.standing first;
      same_ids = cc (are.same_ids);
      no_id = are.no_id;
      whole = are.whole;
    }

-- the documents that an update changes keep their `_id`s
ids-kept : KeepsId → (update : form.Update) (d : List Field) (ds : List (List Field)) (first : Result (List Field) Refusal) (rest : Result (List (List Field)) Refusal) (changed : List (List Field))
    → ((e : List Field) → first ≡ Ok e → id_key e ≡ id_key d) → ((es : List (List Field)) → rest ≡ Ok es → map id_key es ≡ map id_key (filter (changes update) ds))
    → (first >>= λ e. rest >>= λ es. Ok (if same_fields (fields_of d) (fields_of e) then es else e ∷ es)) ≡ Ok changed
    → map id_key changed ≡ map id_key (if differs d first then d ∷ filter (changes update) ds else filter (changes update) ds)
ids-kept law update d ds (Ok e) (Ok es) changed same others is =
    by (same_fields (fields_of d) (fields_of e)) is (same e refl) (others es refl)
  where
    by : (b : Bool) → (let r : Result (List (List Field)) Refusal = Ok (if b then es else e ∷ es) in r) ≡ Ok changed → id_key e ≡ id_key d → map id_key es ≡ map id_key (filter (changes update) ds)
        → map id_key changed ≡ map id_key (if not b then d ∷ filter (changes update) ds else filter (changes update) ds)
    by true all here rest = let whole : es ≡ changed = cc in ap (map id_key) (sym whole) ∙ rest
    by false all here rest = let whole : e ∷ es ≡ changed = cc in ap (map id_key) (sym whole) ∙ (λ i. here i ∷ rest i)
ids-kept law update d ds (Ok e) (Err refusal) changed same others is = absurd cc
ids-kept law update d ds (Err refusal) rest changed same others is = absurd cc

pub all_ids_kept : KeepsId → (update : form.Update) (ds changed : List (List Field)) → AllByRecursion HasId ds → changed_by update ds ≡ Ok changed → map id_key changed ≡ map id_key (filter (changes update) ds)
all_ids_kept law update [] changed ids is = let all : [] ≡ changed = cc in ap (map id_key) (sym all)
all_ids_kept law update (d ∷ ds) changed ids is =
    ids-kept law update d ds (after update d) (changed_by update ds) changed (λ e told. (after_id law update d e ids.0 told).1) (λ es rest. all_ids_kept law update ds es ids.1 rest) is

-- laws of the documents that an updating selects
pub record StandingLaws : Type 0 where
  pub all : (ds : List (List Field)) → IsAscending ds → AreStanding ds ds
  pub passing : (p : List Field → Bool) (ds those : List (List Field)) → AreStanding ds those → AreStanding ds (filter p those)
  pub first : (ds those : List (List Field)) → AreStanding ds those → AreStanding ds (take 1 those)

chosen-stand : StandingLaws → (b : Bool) (ds those : List (List Field)) → AreStanding ds those → AreStanding ds (all_or_first b those)
chosen-stand laws false ds those stand = stand
chosen-stand laws true ds those stand = laws.first ds those stand

pub updates_stand : StandingLaws → KeepsId → (updating : Updating) (old ds : List (List Field)) (name : List ℕ) (each : List Updated) → ds ≡ all_or_first (not updating.multi) (matching updating.filter old) → IsAscending old → AllByRecursion HasId old
    → changed_by updating.update ds ≡ Ok (map (after_of name) each) → map (λ u. u.before) each ≡ filter (changes updating.update) ds → bytes_eq name (codes "_id") ≡ false → has_zero name ≡ false → AreUpdatesOf old name each
updates_stand laws law updating old ds name each finds ascending all does befores other whole =
    let rows = matching updating.filter old in
    let these : AreStanding old ds = subst (AreStanding old) (sym finds) (chosen-stand laws (not updating.multi) old rows (laws.passing (matches updating.filter) old old (laws.all old ascending))) in
    let ids : AllByRecursion HasId ds = subst (AllByRecursion HasId) (sym finds) (chosen_good HasId (not updating.multi) rows (matching_good HasId updating.filter old all)) in
    record {
      standing = subst (AreStanding old) (sym befores) (laws.passing (changes updating.update) old ds these);
      same_ids = all_ids_kept law updating.update ds (map (after_of name) each) ids does ∙ ap (map id_key) (sym befores);
      no_id = other;
      whole = whole;
    }

-- ---- one document more

told-more : (done : List (List Field)) (e : List Field) (b : Bool) (rest : Result (List (List Field)) Refusal)
    → ((rest >>= λ es. Ok (if b then es else e ∷ es)) >>= λ es. Ok (done ++ es)) ≡ (rest >>= λ es. Ok ((done ++ (if b then [] else e ∷ [])) ++ es))
told-more done e true (Ok es) = ap (λ xs. Ok (xs ++ es)) (sym (append-nil done))
told-more done e false (Ok es) = ap Ok (sym (append_assoc done (e ∷ []) es))
told-more done e b (Err refusal) = refl

pub afters_more : (update : form.Update) (d e : List Field) (ds done more : List (List Field)) (b : Bool) → after update d ≡ Ok e → b ≡ same_fields (fields_of d) (fields_of e) → more ≡ done ++ (if b then [] else e ∷ [])
    → (changed_by update (d ∷ ds) >>= λ es. Ok (done ++ es)) ≡ (changed_by update ds >>= λ es. Ok (more ++ es))
afters_more update d e ds done more b is same all =
    let rest = changed_by update ds in
    ap (λ (first : Result (List Field) Refusal). (first >>= λ x. rest >>= λ es. Ok (if same_fields (fields_of d) (fields_of x) then es else x ∷ es)) >>= λ es. Ok (done ++ es)) is
    ∙ ap (λ (c : Bool). (rest >>= λ es. Ok (if c then es else e ∷ es)) >>= λ es. Ok (done ++ es)) (sym same)
    ∙ told-more done e b rest
    ∙ ap (λ (xs : List (List Field)). rest >>= λ es. Ok (xs ++ es)) (sym all)

left-more : (done : List (List Field)) (d : List Field) (b : Bool) (ds : List (List Field)) → done ++ (if not b then d ∷ ds else ds) ≡ (done ++ (if b then [] else d ∷ [])) ++ ds
left-more done d true ds = ap (λ xs. xs ++ ds) (sym (append-nil done))
left-more done d false ds = sym (append_assoc done (d ∷ []) ds)

pub befores_more : (update : form.Update) (d e : List Field) (ds done more : List (List Field)) (b : Bool) → after update d ≡ Ok e → b ≡ same_fields (fields_of d) (fields_of e) → more ≡ done ++ (if b then [] else d ∷ [])
    → done ++ filter (changes update) (d ∷ ds) ≡ more ++ filter (changes update) ds
befores_more update d e ds done more b is same all =
    let left = filter (changes update) ds in
    ap (λ (first : Result (List Field) Refusal). done ++ (if differs d first then d ∷ left else left)) is
    ∙ ap (λ (c : Bool). done ++ (if not c then d ∷ left else left)) (sym same)
    ∙ left-more done d b left
    ∙ ap (λ xs. xs ++ left) (sym all)
