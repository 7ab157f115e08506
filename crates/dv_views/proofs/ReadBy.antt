-- Which views a change of a namespace reaches: if there are no views, if one more is added after them, and if one is removed.
use Rattle.std.proofs.Common.{◌≡◌, ◌≤◌, ◌<◌, ◌+◌, ◌-◌, ◌||◌, ◌++◌, ℕ, zero, suc, Bool, true, false, not, List, [], ◌∷◌, map, drop, length, Option, Some, None, cond, filter, slice_get, append-nil, refl, ap, sym, ◌∙◌, arith}
use Rattle.std.specs.Prelude.{◌==◌, nat_lt}
use Rattle.std.specs.Bool.{if◌then◌else◌}
use Rattle.std.specs.List.{AllByRecursion, list_any}
use Rattle.std.specs.Map.{remove_entry}
use Rattle.std.specs.Option.{option_map}
use Rattle.std.specs.Str.{bytes_eq}
use Rattle.std.specs.String.{string_bytes}
use Rattle.std.proofs.lemmas.Bool.Decides.{nat_tests}
use Rattle.std.proofs.lemmas.Slice.Eq.{bytes_eq-Decides}
use Rattle.std.proofs.lemmas.Bool.{or_parts}
use Rattle.dv_pipe.specs.Stages.{is_read}
use Rattle.dv_pipe.specs.declared.stage.Stage.{Stage}
use Rattle.dv_views.specs.Forms.{ViewForm, is_name_among, is_read_by, names_read}
use Rattle.dv_views.specs.Placed.{lookups_of}
use Rattle.dv_views.specs.Inner.Older.{Entries, is_called, place_of_name}
use Rattle.dv_views.specs.Inner.Readers.{AreListed, AreReaders, Listing, has_list, is_entry_read, listed_before, listing_without, lowered, places_under, places_with, readers_from, readers_of, reads_any, reads_one, with_list, without}
use Rattle.dv_views.specs.Inner.Seen.{entry_view}
use Rattle.dv_views.specs.Inner.Views.{view_form}
use Rattle.dv_views.proofs.Heights.{forms_of}
use Rattle.dv_views.proofs.Right.{itself, or-left, or-right, read_among}

-- ---- if no view reads a namespace, and if one does

pub none_read : (name : List ℕ) (k : ℕ) (vs : List ViewForm) → is_read_by vs name ≡ false → readers_from (name ∷ []) k vs ≡ []
none_read name k [] away = refl
none_read name k (v ∷ vs) away =
    let both = or_parts (is_read v.stages v.source name) (is_read_by vs name) away in
    ap (λ (b : Bool). if b || false then k ∷ readers_from (v.name ∷ name ∷ []) (suc k) vs else readers_from (name ∷ []) (suc k) vs) both.0 ∙ none_read name (suc k) vs both.1

pub some_read : (name : List ℕ) (k : ℕ) (vs : List ViewForm) → is_read_by vs name ≡ true → (length (readers_from (name ∷ []) k vs) == 0) ≡ false
some_read name k [] read = absurd cc
some_read name k (v ∷ vs) read = by (is_read v.stages v.source name) read (some_read name (suc k) vs)
  where
    by : (b : Bool) → b || is_read_by vs name ≡ true → (is_read_by vs name ≡ true → (length (readers_from (name ∷ []) (suc k) vs) == 0) ≡ false)
        → (length (if b || false then k ∷ readers_from (v.name ∷ name ∷ []) (suc k) vs else readers_from (name ∷ []) (suc k) vs) == 0) ≡ false
    by true read rest = grind (arith, nat_tests)
    by false read rest = rest read

-- ---- the list of a name

unlisted : (vs : List ViewForm) (listing : Listing) (name : List ℕ) → ((n : List ℕ) → is_read_by vs n ≡ true → has_list n listing ≡ true) → has_list name listing ≡ false → is_read_by vs name ≡ false
unlisted vs listing name whole away = by (is_read_by vs name) refl
  where
    by : (b : Bool) → is_read_by vs name ≡ b → b ≡ false
    by true read = let no : true ≡ false = sym (whole name read) ∙ away in absurd cc
    by false read = refl

listed-under : (vs : List ViewForm) (listing : Listing) (name : List ℕ) → AllByRecursion (λ l. l.1 ≡ readers_of l.0 vs) listing → (has_list name listing ≡ false → [] ≡ readers_of name vs) → places_under name listing ≡ readers_of name vs
listed-under vs [] name right none = none refl
listed-under vs (l ∷ ls) name right none = by (bytes_eq name l.0) refl none (listed-under vs ls name right.1)
  where
    by : (b : Bool) → bytes_eq name l.0 ≡ b → (b || has_list name ls ≡ false → [] ≡ readers_of name vs) → ((has_list name ls ≡ false → [] ≡ readers_of name vs) → places_under name ls ≡ readers_of name vs)
        → (if b then l.1 else places_under name ls) ≡ readers_of name vs
    by true is none rest = right.0 ∙ ap (λ (n : List ℕ). readers_of n vs) (sym ((bytes_eq-Decides name l.0).0 is))
    by false is none rest = rest none

-- the places that are looked up are those of the readers
pub readers_under : (vs : List ViewForm) (listing : Listing) (name : List ℕ) → AreReaders vs listing → places_under name listing ≡ readers_of name vs
readers_under vs listing name are = listed-under vs listing name are.right (λ away. sym (none_read name 0 vs (unlisted vs listing name are.whole away)))

-- there are some exactly if a view reads the name
pub read_if_some : (vs : List ViewForm) (listing : Listing) (name : List ℕ) → AreReaders vs listing → not (length (places_under name listing) == 0) ≡ is_read_by vs name
read_if_some vs listing name are = ap (λ (ps : List ℕ). not (length ps == 0)) (readers_under vs listing name are) ∙ by (is_read_by vs name) refl
  where
    by : (b : Bool) → is_read_by vs name ≡ b → not (length (readers_of name vs) == 0) ≡ b
    by true read = ap not (some_read name 0 vs read)
    by false away = ap (λ (ps : List ℕ). not (length ps == 0)) (none_read name 0 vs away)

-- no views have no readers
pub none_listed : AreReaders [] []
none_listed = record { right = tt; whole = λ name read. absurd cc }

-- ---- one view more

there-at : {X : Type 0} (k : ℕ) (all : List X) (x : X) (xs : List X) → drop k all ≡ x ∷ xs → slice_get all k ≡ Some x
there-at zero all x xs is = ap (λ (ys : List _). slice_get ys 0) is
there-at (suc k) [] x xs is = absurd cc
there-at (suc k) (y ∷ all) x xs is = there-at k all x xs is

drop-next : {X : Type 0} (k : ℕ) (all : List X) (x : X) (xs : List X) → drop k all ≡ x ∷ xs → drop (suc k) all ≡ xs
drop-next zero all x xs is = ap (drop 1) is
drop-next (suc k) [] x xs is = absurd cc
drop-next (suc k) (y ∷ all) x xs is = drop-next k all x xs is

swapped : (a b c : Bool) → (a || b) || c ≡ b || (a || c)
swapped true true c = refl
swapped true false c = refl
swapped false b c = refl

module _ {Y : Type 0} (all : Entries Y) (w : ViewForm) where
  more-from : (names : List (List ℕ)) (k : ℕ) (es : Entries Y) → drop k all ≡ es
      → readers_from names k (forms_of es ++ w ∷ []) ≡ readers_from names k (forms_of es) ++ (if reads_any names w || reads_one w.stages w.source all (readers_from names k (forms_of es)) then (k + length es) ∷ [] else [])
  more-from names k [] is = by (reads_any names w)
    where
      by : (b : Bool) → (if b then k ∷ [] else []) ≡ (if b || false then (k + 0) ∷ [] else [])
      by true = let same : k ≡ k + 0 = omega arith in ap (λ (n : ℕ). n ∷ []) same
      by false = refl
  more-from names k (e ∷ es) is = by (reads_any names v) (λ others. more-from others (suc k) es (drop-next k all e es is))
    where
      v : ViewForm
      v = view_form (entry_view e)

      far : suc k + length es ≡ k + suc (length es)
      far = omega arith

      by : (b : Bool)
          → ((others : List (List ℕ)) → readers_from others (suc k) (forms_of es ++ w ∷ [])
          ≡ readers_from others (suc k) (forms_of es) ++ (if reads_any others w || reads_one w.stages w.source all (readers_from others (suc k) (forms_of es)) then (suc k + length es) ∷ [] else []))
          → (if b then k ∷ readers_from (v.name ∷ names) (suc k) (forms_of es ++ w ∷ []) else readers_from names (suc k) (forms_of es ++ w ∷ []))
          ≡ (if b then k ∷ readers_from (v.name ∷ names) (suc k) (forms_of es) else readers_from names (suc k) (forms_of es))
          ++ (if reads_any names w || reads_one w.stages w.source all (if b then k ∷ readers_from (v.name ∷ names) (suc k) (forms_of es) else readers_from names (suc k) (forms_of es)) then (k + suc (length es)) ∷ [] else [])
      by true rest =
          let behind = readers_from (v.name ∷ names) (suc k) (forms_of es) in
          let here : is_entry_read w.stages w.source (slice_get all k) ≡ is_read w.stages w.source v.name = ap (is_entry_read w.stages w.source) (there-at k all e es is) in
          let same : reads_any (v.name ∷ names) w || reads_one w.stages w.source all behind ≡ reads_any names w || reads_one w.stages w.source all (k ∷ behind) =
          swapped (is_read w.stages w.source v.name) (reads_any names w) (reads_one w.stages w.source all behind) ∙ ap (λ (b : Bool). reads_any names w || (b || reads_one w.stages w.source all behind)) (sym here) in
          ap (λ (ps : List ℕ). k ∷ ps) (rest (v.name ∷ names)) ∙ (λ i. k ∷ (behind ++ (if same i then far i ∷ [] else [])))
      by false rest =
          let behind = readers_from names (suc k) (forms_of es) in
          rest names ∙ (λ i. behind ++ (if reads_any names w || reads_one w.stages w.source all behind then far i ∷ [] else []))

pub places_more : {Y : Type 0} (es : Entries Y) (w : ViewForm) (name places : List ℕ) → places ≡ readers_of name (forms_of es) → places_with name w.stages w.source es places ≡ readers_of name (forms_of es ++ w ∷ [])
places_more es w name places is =
    let whole : length es ≡ 0 + length es = omega arith in
    by (is_read w.stages w.source name) (reads_one w.stages w.source es places)
    ∙ (λ i. is i ++ (if (is_read w.stages w.source name || false) || reads_one w.stages w.source es (is i) then whole i ∷ [] else []))
    ∙ sym (more-from es w (name ∷ []) 0 es refl)
  where
    by : (a b : Bool) → (if a || b then places ++ length es ∷ [] else places) ≡ places ++ (if (a || false) || b then length es ∷ [] else [])
    by true b = refl
    by false true = refl
    by false false = sym (append-nil places)

-- a list of its own for what no view read before
first-list : {Y : Type 0} (es : Entries Y) (w : ViewForm) (name : List ℕ) → is_read_by (forms_of es) name ≡ false → is_read w.stages w.source name ≡ true → length es ∷ [] ≡ readers_of name (forms_of es ++ w ∷ [])
first-list es w name away read =
    ap (λ (b : Bool). if b || false then length es ∷ [] else []) (sym read) ∙ places_more es w name [] (sym (none_read name 0 (forms_of es) away))

all-last : {X : Type 0} (P : X → Type 0) (xs : List X) (x : X) → AllByRecursion P xs → P x → AllByRecursion P (xs ++ x ∷ [])
all-last P [] x all one = (one, tt)
all-last P (y ∷ xs) x all one = (all.0, all-last P xs x all.1 one)

any-last : {X : Type 0} (p : X → Bool) (xs : List X) (x : X) → list_any p (xs ++ x ∷ []) ≡ list_any p xs || p x
any-last p [] x = by (p x)
  where
    by : (b : Bool) → b || false ≡ b
    by true = refl
    by false = refl
any-last p (y ∷ xs) x = by (p y) (any-last p xs x)
  where
    by : (b : Bool) → list_any p (xs ++ x ∷ []) ≡ list_any p xs || p x → b || list_any p (xs ++ x ∷ []) ≡ (b || list_any p xs) || p x
    by true rest = refl
    by false rest = rest

pub listed_more : {Y : Type 0} (es : Entries Y) (w : ViewForm) (names : List (List ℕ)) (name : List ℕ) (listing : Listing) → AreListed (forms_of es) w names listing → is_read w.stages w.source name ≡ true
    → AreListed (forms_of es) w (names ++ name ∷ []) (with_list name (length es) listing)
listed_more es w names name listing are read = by (has_list name listing) refl
  where
    among : (n : List ℕ) → is_read_by (forms_of es) n || is_name_among n (names ++ name ∷ []) ≡ true → (is_read_by (forms_of es) n || is_name_among n names) || bytes_eq n name ≡ true
    among n read = sym (together (is_read_by (forms_of es) n) (is_name_among n names) (bytes_eq n name)) ∙ ap (λ (c : Bool). is_read_by (forms_of es) n || c) (sym (any-last (bytes_eq n) names name)) ∙ read
      where
        together : (a b c : Bool) → a || (b || c) ≡ (a || b) || c
        together true b c = refl
        together false b c = refl

    met : (n : List ℕ) (ls : Listing) (a b : Bool) → a || b ≡ true → (a ≡ true → has_list n ls ≡ true) → (b ≡ true → has_list n ls ≡ true) → has_list n ls ≡ true
    met n ls true b one first second = first refl
    met n ls false b one first second = second one

    by : (b : Bool) → has_list name listing ≡ b → AreListed (forms_of es) w (names ++ name ∷ []) (if b then listing else listing ++ (name, length es ∷ []) ∷ [])
    by true there = record {
      right = are.right;
      whole = λ n read. met n listing (is_read_by (forms_of es) n || is_name_among n names) (bytes_eq n name) (among n read) (are.whole n) (λ is. ap (λ (m : List ℕ). has_list m listing) ((bytes_eq-Decides n name).0 is) ∙ there);
    }
    by false away =
        let ls : Listing = listing ++ (name, length es ∷ []) ∷ [] in
        let none : is_read_by (forms_of es) name ≡ false = unlisted (forms_of es) listing name (λ n read. are.whole n (or-left (is_read_by (forms_of es) n) (is_name_among n names) read)) away in
        record {
          right = all-last (λ (l : List ℕ × List ℕ). l.1 ≡ readers_of l.0 (forms_of es ++ w ∷ [])) listing (name, length es ∷ []) are.right (first-list es w name none read);
          whole = λ n read.
              met n ls (is_read_by (forms_of es) n || is_name_among n names) (bytes_eq n name) (among n read)
              (λ is. any-last (λ (l : List ℕ × List ℕ). bytes_eq n l.0) listing (name, length es ∷ []) ∙ or-left (has_list n listing) (bytes_eq n name) (are.whole n is))
              (λ is. any-last (λ (l : List ℕ × List ℕ). bytes_eq n l.0) listing (name, length es ∷ []) ∙ or-right (has_list n listing) (bytes_eq n name) is);
        }

pub among-at : (names : List (List ℕ)) (i : ℕ) (name : List ℕ) → slice_get names i ≡ Some name → is_name_among name names ≡ true
among-at [] i name there = absurd cc
among-at (n ∷ names) zero name there = let same : n ≡ name = cc in or-left (bytes_eq name n) (is_name_among name names) ((bytes_eq-Decides name n).1 (sym same))
among-at (n ∷ names) (suc i) name there = or-right (bytes_eq name n) (is_name_among name names) (among-at names i name there)

-- what is read by `$lookup` is read
pub lookup_read : (stages : List Stage) (source : List ℕ) (i : ℕ) (name : List ℕ) → slice_get (lookups_of stages source) i ≡ Some name → is_read stages source name ≡ true
lookup_read stages source i name there = read_among stages source name ∙ or-right (bytes_eq name source) (is_name_among name (lookups_of stages source)) (among-at (lookups_of stages source) i name there)

pub source_read : (stages : List Stage) (source : List ℕ) → is_read stages source source ≡ true
source_read stages source = read_among stages source source ∙ or-left (bytes_eq source source) (is_name_among source (lookups_of stages source)) (itself source)

pub all_listed : {Y : Type 0} (es : Entries Y) (w : ViewForm) (listing : Listing) → AreListed (forms_of es) w (names_read w.stages w.source) listing → AreReaders (forms_of es ++ w ∷ []) listing
all_listed es w listing are = record {
  right = are.right;
  whole = λ name read. are.whole name (ap (λ (b : Bool). is_read_by (forms_of es) name || b) (sym (read_among w.stages w.source name)) ∙ sym (any-last (λ (v : ViewForm). is_read v.stages v.source name) (forms_of es) w) ∙ read);
}

-- ---- one view less

same-place : (a b : ℕ) → a ≡ b → (a == b) ≡ true
same-place a b h = grind (arith, nat_tests)

low-place : (a b : ℕ) → a < b → (a == b) ≡ false
low-place a b h = grind (arith, nat_tests)

high-place : (a b : ℕ) → b < a → (a == b) ≡ false
high-place a b h = grind (arith, nat_tests)

low-test : (a b : ℕ) → a < b → nat_lt b a ≡ false
low-test a b h = grind (arith, nat_tests)

high-test : (a b : ℕ) → b < a → nat_lt b a ≡ true
high-test a b h = grind (arith, nat_tests)

without-same : (k place : ℕ) (ps : List ℕ) → k ≡ place → without place (k ∷ ps) ≡ without place ps
without-same k place ps h = ap (λ (b : Bool). map (lowered place) (cond (not b) (k ∷ rest) rest)) (same-place k place h)
  where
    rest : List ℕ
    rest = filter (λ other. not (other == place)) ps

without-low : (k place : ℕ) (ps : List ℕ) → k < place → without place (k ∷ ps) ≡ k ∷ without place ps
without-low k place ps h =
    ap (λ (b : Bool). map (lowered place) (cond (not b) (k ∷ rest) rest)) (low-place k place h) ∙ ap (λ (b : Bool). (if b then k - 1 else k) ∷ without place ps) (low-test k place h)
  where
    rest : List ℕ
    rest = filter (λ other. not (other == place)) ps

without-high : (k place : ℕ) (ps : List ℕ) → place < suc k → without place (suc k ∷ ps) ≡ k ∷ without place ps
without-high k place ps h =
    ap (λ (b : Bool). map (lowered place) (cond (not b) (suc k ∷ rest) rest)) (high-place (suc k) place h) ∙ ap (λ (b : Bool). (if b then suc k - 1 else suc k) ∷ without place ps) (high-test (suc k) place h)
    ∙ (let one : suc k - 1 ≡ k = omega arith in ap (λ (n : ℕ). n ∷ without place ps) one)
  where
    rest : List ℕ
    rest = filter (λ other. not (other == place)) ps

-- the places after the removed one are one lower
all-lower : (place : ℕ) (names : List (List ℕ)) (k : ℕ) (vs : List ViewForm) → place ≤ k → without place (readers_from names (suc k) vs) ≡ readers_from names k vs
all-lower place names k [] h = refl
all-lower place names k (v ∷ vs) h = by (reads_any names v) (λ others. all-lower place others (suc k) vs (omega (arith, h)))
  where
    by : (b : Bool) → ((others : List (List ℕ)) → without place (readers_from others (suc (suc k)) vs) ≡ readers_from others (suc k) vs)
        → without place (if b then suc k ∷ readers_from (v.name ∷ names) (suc (suc k)) vs else readers_from names (suc (suc k)) vs) ≡ (if b then k ∷ readers_from (v.name ∷ names) (suc k) vs else readers_from names (suc k) vs)
    by true rest = without-high k place (readers_from (v.name ∷ names) (suc (suc k)) vs) (omega (arith, h)) ∙ ap (λ (ps : List ℕ). k ∷ ps) (rest (v.name ∷ names))
    by false rest = rest names

-- a name that no view reads adds no readers
module _ (gone : List ℕ) (names : List (List ℕ)) where
  unread-any : (front : List (List ℕ)) (v : ViewForm) → is_read v.stages v.source gone ≡ false → reads_any (front ++ gone ∷ names) v ≡ reads_any (front ++ names) v
  unread-any [] v away = ap (λ (b : Bool). b || reads_any names v) away
  unread-any (n ∷ front) v away = ap (λ (b : Bool). is_read v.stages v.source n || b) (unread-any front v away)

  unread-name : (front : List (List ℕ)) (k : ℕ) (vs : List ViewForm) → is_read_by vs gone ≡ false → readers_from (front ++ gone ∷ names) k vs ≡ readers_from (front ++ names) k vs
  unread-name front k [] away = refl
  unread-name front k (v ∷ vs) away =
      let both = or_parts (is_read v.stages v.source gone) (is_read_by vs gone) away in
      λ i. if unread-any front v both.0 i then k ∷ unread-name (v.name ∷ front) (suc k) vs both.1 i else unread-name front (suc k) vs both.1 i

module _ {Y : Type 0} (gone : List ℕ) where
  pub readers_less : (names : List (List ℕ)) (k i : ℕ) (es : Entries Y) → is_read_by (forms_of es) gone ≡ false → place_of_name gone es ≡ Some i
      → readers_from names k (forms_of (remove_entry (is_called gone) es)) ≡ without (k + i) (readers_from names k (forms_of es))
  readers_less names k i [] away at = absurd cc
  readers_less names k i (e ∷ es) away at =
      let both = or_parts (is_read e.1.stages e.1.source gone) (is_read_by (forms_of es) gone) away in
      by (is_called gone e.0) refl i (place_of_name gone es) at both.1 (λ others m j is. readers_less others m j es both.1 is)
    where
      v : ViewForm
      v = view_form (entry_view e)

      here : (place : ℕ) (b : Bool) → k ≡ place → v.name ≡ gone → is_read_by (forms_of es) gone ≡ false
          → without place (if b then k ∷ readers_from (v.name ∷ names) (suc k) (forms_of es) else readers_from names (suc k) (forms_of es)) ≡ without place (readers_from names (suc k) (forms_of es))
      here place true same called off =
          without-same k place (readers_from (v.name ∷ names) (suc k) (forms_of es)) same
          ∙ ap (without place) (ap (λ (n : List ℕ). readers_from (n ∷ names) (suc k) (forms_of es)) called ∙ unread-name gone names [] (suc k) (forms_of es) off)
      here place false same called off = refl

      by : (t : Bool) → is_called gone e.0 ≡ t → (i : ℕ) (p : Option ℕ) → (if t then Some 0 else option_map suc p) ≡ Some i → is_read_by (forms_of es) gone ≡ false
          → ((others : List (List ℕ)) (m j : ℕ) → p ≡ Some j → readers_from others m (forms_of (remove_entry (is_called gone) es)) ≡ without (m + j) (readers_from others m (forms_of es)))
          → readers_from names k (forms_of (cond t es (e ∷ remove_entry (is_called gone) es))) ≡ without (k + i) (readers_from names k (forms_of (e ∷ es)))
      by true is zero p at off rest =
          let same : k ≡ k + 0 = omega arith in
          sym (here (k + 0) (reads_any names v) same (sym ((bytes_eq-Decides gone (string_bytes e.0)).0 is)) off ∙ all-lower (k + 0) names k (forms_of es) (omega arith))
      by true is (suc i) p at off rest = absurd cc
      by false is zero None at off rest = absurd cc
      by false is zero (Some j) at off rest = absurd cc
      by false is (suc i) None at off rest = absurd cc
      by false is (suc i) (Some j) at off rest =
          let same : j ≡ i = cc in
          let far : suc k + i ≡ k + suc i = omega arith in
          kept (reads_any names v) (λ others. rest others (suc k) i (ap Some same) ∙ ap (λ (n : ℕ). without n (readers_from others (suc k) (forms_of es))) far)
        where
          kept : (b : Bool) → ((others : List (List ℕ)) → readers_from others (suc k) (forms_of (remove_entry (is_called gone) es)) ≡ without (k + suc i) (readers_from others (suc k) (forms_of es)))
              → (if b then k ∷ readers_from (v.name ∷ names) (suc k) (forms_of (remove_entry (is_called gone) es)) else readers_from names (suc k) (forms_of (remove_entry (is_called gone) es)))
              ≡ without (k + suc i) (if b then k ∷ readers_from (v.name ∷ names) (suc k) (forms_of es) else readers_from names (suc k) (forms_of es))
          kept true less = ap (λ (ps : List ℕ). k ∷ ps) (less (v.name ∷ names)) ∙ sym (without-low k (k + suc i) (readers_from (v.name ∷ names) (suc k) (forms_of es)) (omega arith))
          kept false less = less names

  read-less : (name : List ℕ) (es : Entries Y) → is_read_by (forms_of (remove_entry (is_called gone) es)) name ≡ true → is_read_by (forms_of es) name ≡ true
  read-less name [] read = read
  read-less name (e ∷ es) read = by (is_called gone e.0) read (read-less name es)
    where
      by : (t : Bool) → is_read_by (forms_of (cond t es (e ∷ remove_entry (is_called gone) es))) name ≡ true → (is_read_by (forms_of (remove_entry (is_called gone) es)) name ≡ true → is_read_by (forms_of es) name ≡ true)
          → is_read e.1.stages e.1.source name || is_read_by (forms_of es) name ≡ true
      by true read rest = or-right (is_read e.1.stages e.1.source name) (is_read_by (forms_of es) name) read
      by false read rest = met (is_read e.1.stages e.1.source name) read
        where
          met : (b : Bool) → b || is_read_by (forms_of (remove_entry (is_called gone) es)) name ≡ true → b || is_read_by (forms_of es) name ≡ true
          met true read = refl
          met false read = rest read

-- ---- lists without a place

listed-right : (vs : List ViewForm) (name : List ℕ) (ps : List ℕ) (ls : Listing) → ps ≡ readers_of name vs → AllByRecursion (λ l. l.1 ≡ readers_of l.0 vs) ls → AllByRecursion (λ l. l.1 ≡ readers_of l.0 vs) (listed_before name ps ls)
listed-right vs name [] ls is right = right
listed-right vs name (p ∷ ps) ls is right = (is, right)

listed-own : (n name : List ℕ) (ps : List ℕ) (ls : Listing) → bytes_eq n name ≡ true → (length ps == 0) ≡ false → has_list n (listed_before name ps ls) ≡ true
listed-own n name [] ls is some = absurd cc
listed-own n name (p ∷ ps) ls is some = or-left (bytes_eq n name) (has_list n ls) is

listed-still : (n name : List ℕ) (ps : List ℕ) (ls : Listing) → has_list n ls ≡ true → has_list n (listed_before name ps ls) ≡ true
listed-still n name [] ls there = there
listed-still n name (p ∷ ps) ls there = or-right (bytes_eq n name) (has_list n ls) there

module _ (vs less : List ViewForm) (place : ℕ) (same : (name : List ℕ) → readers_of name less ≡ without place (readers_of name vs)) where
  right-less : (ls : Listing) → AllByRecursion (λ l. l.1 ≡ readers_of l.0 vs) ls → AllByRecursion (λ l. l.1 ≡ readers_of l.0 less) (listing_without place ls)
  right-less [] right = tt
  right-less (l ∷ ls) right = listed-right less l.0 (without place l.1) (listing_without place ls) (ap (without place) right.0 ∙ sym (same l.0)) (right-less ls right.1)

  whole-less : (ls : Listing) (name : List ℕ) → AllByRecursion (λ l. l.1 ≡ readers_of l.0 vs) ls → is_read_by less name ≡ true → has_list name ls ≡ true → has_list name (listing_without place ls) ≡ true
  whole-less [] name right read there = there
  whole-less (l ∷ ls) name right read there = by (bytes_eq name l.0) refl there (whole-less ls name right.1 read)
    where
      by : (b : Bool) → bytes_eq name l.0 ≡ b → b || has_list name ls ≡ true → (has_list name ls ≡ true → has_list name (listing_without place ls) ≡ true) → has_list name (listed_before l.0 (without place l.1) (listing_without place ls)) ≡ true
      by true is there rest =
          let called : name ≡ l.0 = (bytes_eq-Decides name l.0).0 is in
          let own : without place l.1 ≡ readers_of name less = ap (without place) right.0 ∙ sym (same l.0) ∙ ap (λ (n : List ℕ). readers_of n less) (sym called) in
          listed-own name l.0 (without place l.1) (listing_without place ls) is (ap (λ (ps : List ℕ). length ps == 0) own ∙ some_read name 0 less read)
      by false is there rest = listed-still name l.0 (without place l.1) (listing_without place ls) (rest there)

pub readers_removed : {Y : Type 0} (gone : List ℕ) (place : ℕ) (es : Entries Y) (listing : Listing) → is_read_by (forms_of es) gone ≡ false → place_of_name gone es ≡ Some place → AreReaders (forms_of es) listing
    → AreReaders (forms_of (remove_entry (is_called gone) es)) (listing_without place listing)
readers_removed gone place es listing away at are =
    let less = forms_of (remove_entry (is_called gone) es) in
    let zero : 0 + place ≡ place = omega arith in
    let same : (name : List ℕ) → readers_of name less ≡ without place (readers_of name (forms_of es)) =
    λ name. readers_less gone (name ∷ []) 0 place es away at ∙ ap (λ (n : ℕ). without n (readers_of name (forms_of es))) zero in
    record {
      right = right-less (forms_of es) less place same listing are.right;
      whole = λ name read. whole-less (forms_of es) less place same listing name are.right read (are.whole name (read-less gone name es read));
    }
