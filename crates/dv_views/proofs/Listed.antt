-- Lists of places in memory, when a place is looked up, added or removed.
use Rattle.std.proofs.Common.{◌≡◌, ◌<◌, ◌+◌, ◌||◌, ℕ, zero, suc, Bool, true, false, not, List, [], ◌∷◌, ◌++◌, map, take, drop, length, Option, Some, None, is_some, cond, get_or, set, refl, ap, sym, subst, ◌∙◌, arith, Vec}
use Rattle.std.specs.Prelude.{◌==◌}
use Rattle.std.specs.Bool.{if◌then◌else◌}
use Rattle.std.specs.List.{AllByRecursion}
use Rattle.std.specs.Map.{lookup}
use Rattle.std.proofs.lemmas.Bool.Decides.{nat_tests}
use Rattle.std.specs.Map.Calls.{RetainsPairs}
use Rattle.std.specs.Str.{bytes_eq}
use Rattle.std.specs.String.{string_bytes, string_eq}
use Rattle.std.specs.declared.string.String.{String}
use Rattle.std.proofs.lemmas.Slice.Eq.{bytes_eq-Decides}
use Rattle.indexmap.specs.IndexMap.{insert_entry}
use Rattle.dv_views.specs.Forms.{ViewForm, is_read_by}
use Rattle.dv_views.specs.Inner.Older.{Entries}
use Rattle.dv_views.specs.Inner.Readers.{AreListed, Listing, has_list, listing_seen, listing_without, listed_before, places_under, places_with, readers_of, without}
use Rattle.dv_views.proofs.Heights.{forms_of}
use Rattle.dv_views.proofs.ReadBy.{places_more}

abbrev pub Kept : Type 0 → Type 0 → Type 0
Kept Y Z = List (String Y × Vec ℕ Z)

module _ {Y Z : Type 0} where
  pub found_under : (name : List ℕ) (es : Kept Y Z) (v : Vec ℕ Z) → Some v ≡ lookup (λ k. bytes_eq name (string_bytes k)) es → v.items ≡ places_under name (listing_seen es)
  found_under name [] v is = absurd cc
  found_under name (e ∷ es) v is = by (bytes_eq name (string_bytes e.0)) is (found_under name es v)
    where
      by : (b : Bool) → Some v ≡ cond b (Some e.1) (lookup (λ k. bytes_eq name (string_bytes k)) es) → (Some v ≡ lookup (λ k. bytes_eq name (string_bytes k)) es → v.items ≡ places_under name (listing_seen es))
          → v.items ≡ (if b then e.1.items else places_under name (listing_seen es))
      by true is rest = let same : v ≡ e.1 = cc in ap (λ (w : Vec ℕ Z). w.items) same
      by false is rest = rest is

  pub none_under : (name : List ℕ) (es : Kept Y Z) → None ≡ lookup (λ k. bytes_eq name (string_bytes k)) es → [] ≡ places_under name (listing_seen es)
  none_under name [] is = refl
  none_under name (e ∷ es) is = by (bytes_eq name (string_bytes e.0)) is (none_under name es)
    where
      by : (b : Bool) → None ≡ cond b (Some e.1) (lookup (λ k. bytes_eq name (string_bytes k)) es) → (None ≡ lookup (λ k. bytes_eq name (string_bytes k)) es → [] ≡ places_under name (listing_seen es))
          → [] ≡ (if b then e.1.items else places_under name (listing_seen es))
      by true is rest = absurd cc
      by false is rest = rest is

  pub there_under : (name : List ℕ) (es : Kept Y Z) → has_list name (listing_seen es) ≡ is_some (lookup (λ k. bytes_eq name (string_bytes k)) es)
  there_under name [] = refl
  there_under name (e ∷ es) = by (bytes_eq name (string_bytes e.0)) (there_under name es)
    where
      by : (b : Bool) → has_list name (listing_seen es) ≡ is_some (lookup (λ k. bytes_eq name (string_bytes k)) es) → b || has_list name (listing_seen es) ≡ is_some (cond b (Some e.1) (lookup (λ k. bytes_eq name (string_bytes k)) es))
      by true rest = refl
      by false rest = rest

  pub absent_under : (name : List ℕ) (es : Kept Y Z) → has_list name (listing_seen es) ≡ false → lookup (λ k. bytes_eq name (string_bytes k)) es ≡ None
  absent_under name es away = none (lookup (λ k. bytes_eq name (string_bytes k)) es) (sym (there_under name es) ∙ away)
    where
      none : (o : Option (Vec ℕ Z)) → is_some o ≡ false → o ≡ None
      none None is = refl
      none (Some v) is = absurd cc

  pub seen_more : (es : Kept Y Z) (e : String Y × Vec ℕ Z) → listing_seen (es ++ e ∷ []) ≡ listing_seen es ++ (string_bytes e.0, e.1.items) ∷ []
  seen_more [] e = refl
  seen_more (f ∷ es) e = ap (λ (ls : Listing). (string_bytes f.0, f.1.items) ∷ ls) (seen_more es e)

  -- ---- a place that is removed

  kept-list : (name : String Y) (w : Vec ℕ Z) (rest : Kept Y Z) (b : Bool) (ps : List ℕ) → w.items ≡ ps → b ≡ not (length ps == 0) → listing_seen (cond b ((name, w) ∷ rest) rest) ≡ listed_before (string_bytes name) ps (listing_seen rest)
  kept-list name w rest true [] items is = absurd cc
  kept-list name w rest false [] items is = refl
  kept-list name w rest true (p ∷ ps) items is = ap (λ (qs : List ℕ). (string_bytes name, qs) ∷ listing_seen rest) items
  kept-list name w rest false (p ∷ ps) items is = let more : (suc (length ps) == 0) ≡ false = grind (arith, nat_tests) in let no : false ≡ true = is ∙ ap not more in absurd cc

  module _ {F : Type 0} (T : F → String Y → Vec ℕ Z → Bool → Vec ℕ Z → F → Type 0) (place : ℕ) where
    pub all_without : (f : F) → ((k : String Y) (v : Vec ℕ Z) (b : Bool) (w : Vec ℕ Z) (f' : F) → T f k v b w f' → (b ≡ not (length w.items == 0)) × (w.items ≡ without place v.items) × (f' ≡ f))
        → (es kept : Kept Y Z) → RetainsPairs T f es kept → listing_seen kept ≡ listing_without place (listing_seen es)
    all_without f says [] kept r = ap listing_seen r
    all_without f says (e ∷ es) kept r =
        let a = says e.0 e.1 r.0 r.1 r.2 r.4 in
        let rest = all_without f says es r.3 (subst (λ (g : F). RetainsPairs T g es r.3) a.2 r.5) in
        ap listing_seen r.6
        ∙ kept-list e.0 r.1 r.3 r.0 (without place e.1.items) a.1 (a.0 ∙ ap (λ (ps : List ℕ). not (length ps == 0)) a.1)
        ∙ ap (listed_before (string_bytes e.0) (without place e.1.items)) rest

-- ---- items written one after the other

module _ (f : ℕ → ℕ) where
  abbrev pub written : ℕ → List ℕ → List ℕ
  written i xs = take i xs ++ map f (drop i xs)

  pub write_next : (i : ℕ) (xs : List ℕ) (y : ℕ) → i < length xs → y ≡ f (get_or xs i 0) → written (i + 1) (set xs i y) ≡ written i xs
  write_next i xs y h is = (let more : i + 1 ≡ suc i = omega arith in ap (λ (n : ℕ). written n (set xs i y)) more) ∙ at i xs h is
    where
      at : (i : ℕ) (xs : List ℕ) → i < length xs → y ≡ f (get_or xs i 0) → written (suc i) (set xs i y) ≡ written i xs
      at i [] h is = absurd (omega arith)
      at zero (x ∷ xs) h is = ap (λ (z : ℕ). z ∷ map f xs) is
      at (suc i) (x ∷ xs) h is = ap (λ (zs : List ℕ). x ∷ zs) (at i xs (omega arith) is)

  pub stay_next : (i : ℕ) (xs : List ℕ) → i < length xs → f (get_or xs i 0) ≡ get_or xs i 0 → written (i + 1) xs ≡ written i xs
  stay_next i xs h is = (let more : i + 1 ≡ suc i = omega arith in ap (λ (n : ℕ). written n xs) more) ∙ at i xs h is
    where
      at : (i : ℕ) (xs : List ℕ) → i < length xs → f (get_or xs i 0) ≡ get_or xs i 0 → written (suc i) xs ≡ written i xs
      at i [] h is = absurd (omega arith)
      at zero (x ∷ xs) h is = ap (λ (z : ℕ). z ∷ map f xs) (sym is)
      at (suc i) (x ∷ xs) h is = ap (λ (zs : List ℕ). x ∷ zs) (at i xs (omega arith) is)

-- ---- lists copied with one more view

-- the lists so far have the view, and those that are left don't
pub record HaveView (views : List ViewForm) (more : ViewForm) (left listing : Listing) : Type 0 where
  pub right : AllByRecursion (λ l. l.1 ≡ readers_of l.0 (views ++ more ∷ [])) listing
  pub others : AllByRecursion (λ l. l.1 ≡ readers_of l.0 views) left
  pub whole : (name : List ℕ) → is_read_by views name ≡ true → has_list name left || has_list name listing ≡ true

module _ {Y Z : Type 0} (key : String Y) (places : Vec ℕ Z) where
  right-inserted : (forms : List ViewForm) (es : Kept Y Z) → AllByRecursion (λ l. l.1 ≡ readers_of l.0 forms) (listing_seen es) → places.items ≡ readers_of (string_bytes key) forms
      → AllByRecursion (λ l. l.1 ≡ readers_of l.0 forms) (listing_seen (insert_entry string_eq es key places))
  right-inserted forms [] right one = (one, tt)
  right-inserted forms (e ∷ es) right one = by (string_eq key e.0) refl (right-inserted forms es right.1 one)
    where
      by : (b : Bool) → string_eq key e.0 ≡ b → AllByRecursion (λ l. l.1 ≡ readers_of l.0 forms) (listing_seen (insert_entry string_eq es key places))
          → AllByRecursion (λ l. l.1 ≡ readers_of l.0 forms) (listing_seen (if b then (e.0, places) ∷ es else e ∷ insert_entry string_eq es key places))
      by true is rest = (one ∙ ap (λ (n : List ℕ). readers_of n forms) ((bytes_eq-Decides (string_bytes key) (string_bytes e.0)).0 is), right.1)
      by false is rest = (right.0, rest)

  has-inserted : (name : List ℕ) (es : Kept Y Z) → has_list name (listing_seen (insert_entry string_eq es key places)) ≡ bytes_eq name (string_bytes key) || has_list name (listing_seen es)
  has-inserted name [] = refl
  has-inserted name (e ∷ es) = by (string_eq key e.0) refl (has-inserted name es)
    where
      swapped : (a b c : Bool) → a || (b || c) ≡ b || (a || c)
      swapped true true c = refl
      swapped true false c = refl
      swapped false b c = refl

      twice : (a c : Bool) → a || c ≡ a || (a || c)
      twice true c = refl
      twice false c = refl

      by : (b : Bool) → string_eq key e.0 ≡ b → has_list name (listing_seen (insert_entry string_eq es key places)) ≡ bytes_eq name (string_bytes key) || has_list name (listing_seen es)
          → has_list name (listing_seen (if b then (e.0, places) ∷ es else e ∷ insert_entry string_eq es key places)) ≡ bytes_eq name (string_bytes key) || (bytes_eq name (string_bytes e.0) || has_list name (listing_seen es))
      by true is rest =
          twice (bytes_eq name (string_bytes e.0)) (has_list name (listing_seen es))
          ∙ ap (λ (n : List ℕ). bytes_eq name n || (bytes_eq name (string_bytes e.0) || has_list name (listing_seen es))) (sym ((bytes_eq-Decides (string_bytes key) (string_bytes e.0)).0 is))
      by false is rest = ap (λ (b : Bool). bytes_eq name (string_bytes e.0) || b) rest ∙ swapped (bytes_eq name (string_bytes e.0)) (bytes_eq name (string_bytes key)) (has_list name (listing_seen es))

pub view_next : {Y Z W : Type 0} (views : Entries W) (more : ViewForm) (name old : List ℕ) (left : Listing) (es : Kept Y Z) (key : String Y) (places : Vec ℕ Z) → HaveView (forms_of views) more ((name, old) ∷ left) (listing_seen es)
    → string_bytes key ≡ name → places.items ≡ places_with name more.stages more.source views old → HaveView (forms_of views) more left (listing_seen (insert_entry string_eq es key places))
view_next views more name old left es key places have called is = record {
  right =
      right-inserted key places (forms_of views ++ more ∷ []) es have.right
      (is ∙ places_more views more name old have.others.0 ∙ ap (λ (n : List ℕ). readers_of n (forms_of views ++ more ∷ [])) (sym called));
  others = have.others.1;
  whole = λ n read.
      ap (λ (b : Bool). has_list n left || b) (has-inserted key places n es ∙ ap (λ (m : List ℕ). bytes_eq n m || has_list n (listing_seen es)) called)
      ∙ moved (bytes_eq n name) (has_list n left) (has_list n (listing_seen es)) ∙ have.whole n read;
}
  where
    moved : (a b c : Bool) → b || (a || c) ≡ (a || b) || c
    moved true true c = refl
    moved true false c = refl
    moved false b c = refl

pub view_done : (views : List ViewForm) (more : ViewForm) (listing : Listing) → HaveView views more [] listing → AreListed views more [] listing
view_done views more listing have = record { right = have.right; whole = λ name read. have.whole name (none (is_read_by views name) read) }
  where
    none : (b : Bool) → b || false ≡ true → b ≡ true
    none true read = refl
    none false read = read
