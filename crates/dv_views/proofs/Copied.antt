-- Documents that are kept with views: how they are found, and how changes update them.
use Rattle.std.proofs.Common.{◌≡◌, ℕ, Bool, true, false, List, [], ◌∷◌, Option, Some, None, is_some, cond, refl, ap, sym, subst, ◌∙◌}
use Rattle.std.proofs.lemmas.Map.Text.{hash_map_updates_text}
use Rattle.std.proofs.lemmas.Slice.Eq.{bytes_eq-Decides}
use Rattle.std.specs.BTreeMap.{BTreeMap}
use Rattle.std.specs.Bool.{if◌then◌else◌}
use Rattle.std.specs.HashMap.{HashMap, UpdatesBy}
use Rattle.std.specs.Map.{lookup}
use Rattle.std.specs.Map.Calls.{RetainsPairs}
use Rattle.std.specs.Option.{option_map}
use Rattle.std.specs.Str.{bytes_eq}
use Rattle.std.specs.String.{string_bytes, string_eq}
use Rattle.std.specs.declared.string.String.{String}
use Rattle.dv_change.specs.Changes.{Positioned}
use Rattle.dv_change.specs.Inner.Changes.{IsPositioned}
use Rattle.dv_change.specs.Positions.{PosTree}
use Rattle.dv_pipe.specs.Sources.{Row}
use Rattle.dv_pipe.specs.Stages.{Lists}
use Rattle.dv_views.specs.Placed.{positioned}
use Rattle.dv_views.specs.Inner.Copies.{AreCopies, AreCopiesRead, ArePositionedCopies, HaveCopiesRead, HaveCopy, IsCopy, NamedCopies, copies_seen, copy_under}
use Rattle.dv_views.specs.Inner.Views.{Views, reads_name}
use Rattle.dv_views.proofs.Right.{itself}

-- ---- copies in memory

abbrev pub Tree : Type 0
Tree = BTreeMap PosTree Row

abbrev pub rows_of : Tree → Positioned
rows_of tree = tree.entries

none : (b : Bool) → copy_under [] [] ≡ (if b then copy_under [] [] else None)
none true = refl
none false = refl

module _ {Y : Type 0} where
  pub copy_found : (name : List ℕ) (es : List (String Y × Tree)) → copy_under name (copies_seen es) ≡ option_map rows_of (lookup (λ k. bytes_eq name (string_bytes k)) es)
  copy_found name [] = refl
  copy_found name (e ∷ es) = met (bytes_eq name (string_bytes e.0)) (copy_found name es)
    where
      met : (b : Bool) → copy_under name (copies_seen es) ≡ option_map rows_of (lookup (λ k. bytes_eq name (string_bytes k)) es)
          → cond b (Some e.1.entries) (copy_under name (copies_seen es)) ≡ option_map rows_of (cond b (Some e.1) (lookup (λ k. bytes_eq name (string_bytes k)) es))
      met true rest = refl
      met false rest = rest

  pub copy_there : (name : List ℕ) (es : List (String Y × Tree)) → is_some (copy_under name (copies_seen es)) ≡ is_some (lookup (λ k. bytes_eq name (string_bytes k)) es)
  copy_there name es = ap is_some (copy_found name es) ∙ met (lookup (λ k. bytes_eq name (string_bytes k)) es)
    where
      met : (there : Option Tree) → is_some (option_map rows_of there) ≡ is_some there
      met None = refl
      met (Some tree) = refl

  pub copy_changed : {S : Type 0} (name : List ℕ) (m n : HashMap (String Y) Tree S) (w : Option Tree) → UpdatesBy string_eq (λ k. bytes_eq name (string_bytes k)) m n w
      → HaveCopy name (option_map rows_of w) (copies_seen m.entries) (copies_seen n.entries)
  copy_changed name m n w updated = λ other.
      copy_found other n.entries
      ∙ ap (option_map rows_of) (hash_map_updates_text name m n w updated other)
      ∙ met (bytes_eq name other) (lookup (λ k. bytes_eq other (string_bytes k)) m.entries)
      ∙ ap (λ (there : Option Positioned). if bytes_eq name other then option_map rows_of w else there) (sym (copy_found other m.entries))
    where
      met : (b : Bool) (there : Option Tree) → option_map rows_of (cond b w there) ≡ (if b then option_map rows_of w else option_map rows_of there)
      met true there = refl
      met false there = refl

  module _ {F : Type 0} (T : F → String Y → Tree → Bool → Tree → F → Type 0) (views : Views) where
    pub copies_read : (f : F) → ((k : String Y) (v : Tree) (b : Bool) (w : Tree) (f' : F) → T f k v b w f' → (b ≡ reads_name views (string_bytes k)) × (w ≡ v) × (f' ≡ f))
        → (es kept : List (String Y × Tree)) → RetainsPairs T f es kept → HaveCopiesRead views (copies_seen es) (copies_seen kept)
    copies_read f says [] kept r = λ name. ap (λ (es : List (String Y × Tree)). copy_under name (copies_seen es)) r ∙ none (reads_name views name)
    copies_read f says (e ∷ es) kept r = λ name.
        let a = says e.0 e.1 r.0 r.1 r.2 r.4 in
        let rest = copies_read f says es r.3 (subst (λ (g : F). RetainsPairs T g es r.3) a.2 r.5) in
        ap (λ (es : List (String Y × Tree)). copy_under name (copies_seen es)) r.6
        ∙ ap (λ (w : Tree). copy_under name (copies_seen (cond r.0 ((e.0, w) ∷ r.3) r.3))) a.1
        ∙ ap (λ (b : Bool). copy_under name (copies_seen (cond b (e ∷ r.3) r.3))) a.0
        ∙ kept-one name (bytes_eq name (string_bytes e.0)) refl (reads_name views (string_bytes e.0)) refl (rest name)
      where
        kept-one : (name : List ℕ) (here : Bool) → bytes_eq name (string_bytes e.0) ≡ here → (b : Bool) → reads_name views (string_bytes e.0) ≡ b → copy_under name (copies_seen r.3) ≡ (if reads_name views name then copy_under name (copies_seen es) else None)
            → copy_under name (copies_seen (cond b (e ∷ r.3) r.3)) ≡ (if reads_name views name then (if bytes_eq name (string_bytes e.0) then Some e.1.entries else copy_under name (copies_seen es)) else None)
        kept-one name true is true read rest =
            let same = (bytes_eq-Decides name (string_bytes e.0)).0 is in
            rw (is, ap (reads_name views) same ∙ read) refl
        kept-one name true is false away rest =
            let same = (bytes_eq-Decides name (string_bytes e.0)).0 is in
            rest ∙ rw (ap (reads_name views) same ∙ away) refl
        kept-one name false is true read rest = rw is rest
        kept-one name false is false away rest = rw is rest

-- ---- copies by their names

module _ (name : List ℕ) (copy : Option Positioned) (before after : NamedCopies) (have : HaveCopy name copy before after) where
  pub own_copy : copy_under name after ≡ copy
  own_copy = have name ∙ ap (λ (b : Bool). if b then copy else copy_under name before) (itself name)

  pub other_copy : (other : List ℕ) → bytes_eq name other ≡ false → copy_under other after ≡ copy_under other before
  other_copy other away = have other ∙ ap (λ (b : Bool). if b then copy else copy_under other before) away

  -- what holds of each copy by its name still holds, if it holds of this one
  pub all_copies : (P : List ℕ → Option Positioned → Type 0) → P name copy → ((other : List ℕ) → P other (copy_under other before)) → (other : List ℕ) → P other (copy_under other after)
  all_copies P one all other = by (bytes_eq name other) refl
    where
      by : (b : Bool) → bytes_eq name other ≡ b → P other (copy_under other after)
      by true is = subst (λ (n : List ℕ). P n (copy_under n after)) ((bytes_eq-Decides name other).0 is) (subst (P name) (sym own_copy) one)
      by false away = subst (P other) (sym (other_copy other away)) (all other)

-- nothing is kept under a name if nothing was
pub still_none : (name : List ℕ) (copies : NamedCopies) → copy_under name copies ≡ None → HaveCopy name None copies copies
still_none name copies none other = by (bytes_eq name other) refl
  where
    by : (b : Bool) → bytes_eq name other ≡ b → copy_under other copies ≡ (if b then None else copy_under other copies)
    by true is = subst (λ (n : List ℕ). copy_under n copies ≡ None) ((bytes_eq-Decides name other).0 is) none
    by false away = refl

-- of two copies under a name, the last one is kept
pub copy_over : (name : List ℕ) (first last : Option Positioned) (before now after : NamedCopies) → HaveCopy name first before now → HaveCopy name last now after → HaveCopy name last before after
copy_over name first last before now after have over other = over other ∙ ap (λ (there : Option Positioned). if bytes_eq name other then last else there) (have other) ∙ by (bytes_eq name other)
  where
    by : (b : Bool) → (if b then last else (if b then first else copy_under other before)) ≡ (if b then last else copy_under other before)
    by true = refl
    by false = refl

-- a copy, if there is one, is in the order of its positions
abbrev pub IsPositionedCopy : Option Positioned → Type 0
IsPositionedCopy copy = (rows : Positioned) → copy ≡ Some rows → IsPositioned rows

pub positioned_with : (name : List ℕ) (copy : Option Positioned) (before after : NamedCopies) → HaveCopy name copy before after → IsPositionedCopy copy → ArePositionedCopies before → ArePositionedCopies after
positioned_with name copy before after have one all = all_copies name copy before after have (λ other there. IsPositionedCopy there) one all

pub some_positioned : (rows : Positioned) → IsPositioned rows → IsPositionedCopy (Some rows)
some_positioned rows are others same = let is : rows ≡ others = cc in subst (λ (r : Positioned). IsPositioned r) is are

pub none_positioned : IsPositionedCopy None
none_positioned rows same = absurd cc

-- ---- copies that views read

module _ (views : Views) (before after : NamedCopies) (have : HaveCopiesRead views before after) where
  pub positioned_read : ArePositionedCopies before → ArePositionedCopies after
  positioned_read all name rows there = by (reads_name views name) (sym (have name) ∙ there)
    where
      by : (b : Bool) → (if b then copy_under name before else None) ≡ Some rows → IsPositioned rows
      by true is = all name rows is
      by false is = absurd cc

  pub copies_left : (lists : Lists) → AreCopies lists before → AreCopies lists after
  copies_left lists are name = subst (λ (copy : Option Positioned). IsCopy copy (lists name)) (sym (have name)) (by (reads_name views name))
    where
      by : (b : Bool) → IsCopy (if b then copy_under name before else None) (lists name)
      by true = are name
      by false = tt

  pub read_left : AreCopiesRead views after
  read_left name away = have name ∙ ap (λ (b : Bool). if b then copy_under name before else None) away

-- a copy of what the lists hold
pub copies_with : (name : List ℕ) (documents : List Row) (before after : NamedCopies) (lists : Lists) → HaveCopy name (Some (positioned documents)) before after → documents ≡ lists name → AreCopies lists before → AreCopies lists after
copies_with name documents before after lists have same are =
    all_copies name (Some (positioned documents)) before after have (λ other copy. IsCopy copy (lists other)) (ap positioned same) are
