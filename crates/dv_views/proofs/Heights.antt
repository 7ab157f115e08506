-- The heights of views, and what they need, from one view to the next.
use Rattle.std.proofs.Common.{◌≡◌, ◌≤◌, ◌<◌, ◌+◌, ◌-◌, ℕ, zero, suc, Bool, true, false, List, [], ◌∷◌, ◌++◌, ◌||◌, map, drop, fold, length, Option, Some, None, slice_get, refl, ap, sym, subst, ◌∙◌, arith, get_or}
use Rattle.std.specs.Prelude.{◌&&◌, max, nat_lt}
use Rattle.std.specs.Bool.{if◌then◌else◌}
use Rattle.std.specs.List.{list_any}
use Rattle.std.specs.Map.{values_of}
use Rattle.std.specs.Str.{bytes_eq}
use Rattle.std.specs.String.{string_bytes}
use Rattle.std.specs.declared.string.String.{String}
use Rattle.std.proofs.lemmas.Bool.{le-ltb, lt-ltb, or_parts}
use Rattle.std.proofs.lemmas.List.{length-map, map-append}
use Rattle.std.proofs.lemmas.List.Sums.{fold-append}
use Rattle.std.proofs.lemmas.Slice.Eq.{bytes_eq-Decides}
use Rattle.indexmap.specs.IndexMap.{set_value_at}
use Rattle.dv_pipe.specs.Stages.{is_read}
use Rattle.dv_pipe.specs.declared.stage.Stage.{Stage}
use Rattle.dv_views.specs.declared.fault.ViewFault.{ViewFault}
use Rattle.dv_views.specs.declared.fault.ViewFault.TheVariants.{Exists, LimitReached, ReadByView}
use Rattle.dv_views.specs.Inner.Body.{Body}
use Rattle.dv_views.specs.Forms.{AreFounded, IsClosed, ViewForm, fault_of_new, height_over, heights, is_name_among, is_read_by, most_height, most_views, names_read, needed, with_height}
use Rattle.dv_views.specs.Inner.Older.{Entries, views}
use Rattle.dv_views.specs.Inner.Seen.{HaveHeights, entry_view}
use Rattle.dv_views.specs.Inner.Views.{Views, view_form, has_view, reads_name}
use Rattle.dv_views.proofs.Needed.{closed}
use Rattle.dv_views.proofs.Right.{itself, or-left, or-right, read_among}
use Rattle.dv_value.specs.Inner.ByteLaws.{bytes_eq-symmetric}

-- ---- the highest of names

module _ (high : List ℕ → ℕ) where
  highest-first : (first : ℕ) (names : List (List ℕ)) → first ≤ fold (λ so_far name. max so_far (high name)) first names
  highest-first first [] = omega arith
  highest-first first (name ∷ names) = let rest = highest-first (max first (high name)) names in omega (arith, rest)

  highest-among : (first : ℕ) (names : List (List ℕ)) (name : List ℕ) → is_name_among name names ≡ true → high name ≤ fold (λ so_far name. max so_far (high name)) first names
  highest-among first [] name among = absurd cc
  highest-among first (n ∷ names) name among = by (bytes_eq name n) refl among (highest-among (max first (high n)) names name)
    where
      highest : ℕ
      highest = fold (λ so_far name. max so_far (high name)) (max first (high n)) names

      by : (b : Bool) → bytes_eq name n ≡ b → b || is_name_among name names ≡ true → (is_name_among name names ≡ true → high name ≤ highest) → high name ≤ highest
      by true is among rest =
          let more : max first (high n) ≤ highest = highest-first (max first (high n)) names in
          subst (λ (m : List ℕ). high m ≤ highest) (sym ((bytes_eq-Decides name n).0 is)) (omega (arith, more))
      by false is among rest = rest among

  highest-low : (n first : ℕ) (names : List (List ℕ)) → ((name : List ℕ) → is_name_among name names ≡ true → high name ≤ n) → first ≤ n → fold (λ so_far name. max so_far (high name)) first names ≤ n
  highest-low n first [] low h = h
  highest-low n first (m ∷ names) low h =
      let here : high m ≤ n = low m (or-left (bytes_eq m m) (is_name_among m names) (itself m)) in
      highest-low n (max first (high m)) names (λ name among. low name (or-right (bytes_eq name m) (is_name_among name names) among)) (omega (arith, here, h))

-- ---- the highest of views that are read

module _ {Y : Type 0} (stages : List Stage) (source : List ℕ) where
  abbrev pub highest_read : ℕ → Entries Y → ℕ
  highest_read first es = fold (λ so_far e. if is_read stages source (string_bytes e.0) then max so_far e.1.height else so_far) first es

  read-first : (first : ℕ) (es : Entries Y) → first ≤ highest_read first es
  read-first first [] = omega arith
  read-first first (e ∷ es) = by (is_read stages source (string_bytes e.0)) (λ n. read-first n es)
    where
      by : (b : Bool) → ((n : ℕ) → n ≤ highest_read n es) → first ≤ highest_read (if b then max first e.1.height else first) es
      by true rest = let more = rest (max first e.1.height) in omega (arith, more)
      by false rest = rest first

  module _ (high : List ℕ → ℕ) where
    read-low : (n first : ℕ) (es : Entries Y) → HaveHeights high es → ((name : List ℕ) → is_read stages source name ≡ true → high name ≤ n) → first ≤ n → highest_read first es ≤ n
    read-low n first [] kept low h = h
    read-low n first (e ∷ es) kept low h = by (is_read stages source (string_bytes e.0)) refl (λ m. read-low n m es kept.1 low)
      where
        by : (b : Bool) → is_read stages source (string_bytes e.0) ≡ b → ((m : ℕ) → m ≤ n → highest_read m es ≤ n) → highest_read (if b then max first e.1.height else first) es ≤ n
        by true is rest = let here : e.1.height ≤ n = subst (λ (m : ℕ). m ≤ n) (sym kept.0) (low (string_bytes e.0) is) in rest (max first e.1.height) (omega (arith, here, h))
        by false is rest = rest first h

    read-named : (first : ℕ) (es : Entries Y) (name : List ℕ) → HaveHeights high es → is_read stages source name ≡ true → has_view name (views es) ≡ true → high name ≤ highest_read first es
    read-named first [] name kept read there = absurd cc
    read-named first (e ∷ es) name kept read there = by (bytes_eq name (string_bytes e.0)) refl there (λ n. read-named n es name kept.1 read)
      where
        by : (b : Bool) → bytes_eq name (string_bytes e.0) ≡ b → b || has_view name (views es) ≡ true → ((n : ℕ) → has_view name (views es) ≡ true → high name ≤ highest_read n es) → high name ≤ highest_read first (e ∷ es)
        by true is there rest =
            let same : name ≡ string_bytes e.0 = (bytes_eq-Decides name (string_bytes e.0)).0 is in
            let here : high name ≡ e.1.height = ap high same ∙ sym kept.0 in
            let more : max first e.1.height ≤ highest_read (max first e.1.height) es = read-first (max first e.1.height) es in
            subst (λ (b : Bool). high name ≤ highest_read (if b then max first e.1.height else first) es) (sym (ap (is_read stages source) (sym same) ∙ read)) (omega (arith, here, more))
        by false is there rest = rest _ there

    -- names that are read but are no view's add nothing
    pub highest_is : (es : Entries Y) → HaveHeights high es → ((name : List ℕ) → has_view name (views es) ≡ false → high name ≡ 0) → highest_read 0 es ≡ fold (λ so_far name. max so_far (high name)) 0 (names_read stages source)
    highest_is es kept none =
        let below : highest_read 0 es ≤ highest = read-low highest 0 es kept (λ name read. highest-among high 0 (names_read stages source) name (sym (read_among stages source name) ∙ read)) (omega arith) in
        let above : highest ≤ highest_read 0 es = highest-low high (highest_read 0 es) 0 (names_read stages source) (λ name among. by name (has_view name (views es)) refl (read_among stages source name ∙ among)) (omega arith) in
        omega (arith, below, above)
      where
        highest : ℕ
        highest = fold (λ so_far name. max so_far (high name)) 0 (names_read stages source)

        by : (name : List ℕ) (b : Bool) → has_view name (views es) ≡ b → is_read stages source name ≡ true → high name ≤ highest_read 0 es
        by name true is read = read-named 0 es name kept read is
        by name false is read = let here : high name ≡ 0 = none name is in omega (arith, here)

-- ---- the heights of views

-- a name that is no view's has the same height as before
height-elsewhere : (name : List ℕ) (below : List ℕ → ℕ) (vs : Views) → has_view name vs ≡ false → fold (λ below v. with_height v below) below (map view_form vs) name ≡ below name
height-elsewhere name below [] away = refl
height-elsewhere name below (v ∷ vs) away =
    let both = or_parts (bytes_eq name v.name) (has_view name vs) away in
    height-elsewhere name (with_height (view_form v) below) vs both.1 ∙ ap (λ (b : Bool). if b then height_over below v.stages v.source else below name) both.0

-- each height is at most the number of views
height-low : (n : ℕ) (below : List ℕ → ℕ) (vs : List ViewForm) → ((name : List ℕ) → below name ≤ n) → (name : List ℕ) → fold (λ below v. with_height v below) below vs name ≤ n + length vs
height-low n below [] low name = let here : below name ≤ n = low name in omega (arith, here)
height-low n below (v ∷ vs) low name =
    let rest : fold (λ below v. with_height v below) (with_height v below) vs name ≤ suc n + length vs = height-low (suc n) (with_height v below) vs (λ other. by other (bytes_eq other v.name)) name in
    omega (arith, rest)
  where
    here : fold (λ so_far name. max so_far (below name)) 0 (names_read v.stages v.source) ≤ n
    here = highest-low below n 0 (names_read v.stages v.source) (λ other _. low other) (omega arith)

    by : (other : List ℕ) (b : Bool) → (if b then height_over below v.stages v.source else below other) ≤ suc n
    by other true = omega (arith, here)
    by other false = let l : below other ≤ n = low other in omega (arith, l)

-- ---- the heights that entries keep

abbrev pub forms_of : {Y : Type 0} → Entries Y → List ViewForm
forms_of es = map view_form (views es)

module _ {Y : Type 0} where
  pub heights_written : (high : List ℕ → ℕ) (n : ℕ) (es : Entries Y) (old new : Body) → slice_get (values_of es) n ≡ Some old → new.height ≡ old.height → HaveHeights high es → HaveHeights high (set_value_at es n new)
  heights_written high n [] old new there same kept = tt
  heights_written high zero (e ∷ es) old new there same kept = let was : e.1 ≡ old = cc in (same ∙ ap (λ (b : Body). b.height) (sym was) ∙ kept.0, kept.1)
  heights_written high (suc n) (e ∷ es) old new there same kept = (kept.0, heights_written high n es old new there same kept.1)

  heights-under : (high : List ℕ → ℕ) (v : ViewForm) (es : Entries Y) → has_view v.name (views es) ≡ false → HaveHeights high es → HaveHeights (with_height v high) es
  heights-under high v [] away kept = tt
  heights-under high v (e ∷ es) away kept =
      let both = or_parts (bytes_eq v.name (string_bytes e.0)) (has_view v.name (views es)) away in (
        kept.0 ∙ ap (λ (b : Bool). if b then height_over high v.stages v.source else high (string_bytes e.0)) (sym (bytes_eq-symmetric (string_bytes e.0) v.name ∙ both.0)),
        heights-under high v es both.1 kept.1,
      )

  heights-last : (high : List ℕ → ℕ) (es : Entries Y) (e : String Y × Body) → HaveHeights high es → e.1.height ≡ high (string_bytes e.0) → HaveHeights high (es ++ e ∷ [])
  heights-last high [] e kept own = (own, tt)
  heights-last high (f ∷ es) e kept own = (kept.0, heights-last high es e kept.1 own)

  -- one more view after the others
  pub heights_added : (es : Entries Y) (e : String Y × Body) → has_view (string_bytes e.0) (views es) ≡ false → e.1.height ≡ height_over (heights (forms_of es)) e.1.stages e.1.source → HaveHeights (heights (forms_of es)) es
      → HaveHeights (heights (forms_of (es ++ e ∷ []))) (es ++ e ∷ [])
  heights_added es e new own kept =
      let v = view_form (entry_view e) in
      subst (λ (high : List ℕ → ℕ). HaveHeights high (es ++ e ∷ [])) (sym (ap heights (ap (map view_form) (map-append entry_view es (e ∷ [])) ∙ map-append view_form (views es) (entry_view e ∷ [])) ∙ fold-append (λ below v. with_height v below) (λ name. 0) (forms_of es) (v ∷ [])))
      (heights-last (with_height v (heights (forms_of es))) es e (heights-under (heights (forms_of es)) v es new kept)
      (own ∙ ap (λ (b : Bool). if b then height_over (heights (forms_of es)) v.stages v.source else heights (forms_of es) v.name) (sym (itself v.name))))

  -- the height of a pipeline is one more than that of the highest view that it reads, and at most one more than the number of views
  pub highest_found : (es : Entries Y) (before : Views) (stages : List Stage) (source : List ℕ) → views es ≡ before → HaveHeights (heights (forms_of es)) es
      → suc (highest_read stages source 0 es) ≡ height_over (heights (map view_form before)) stages source
  highest_found es before stages source over kept =
      ap suc (highest_is stages source (heights (forms_of es)) es kept (λ name away. height-elsewhere name (λ name. 0) (views es) away))
      ∙ ap (λ (vs : Views). height_over (heights (map view_form vs)) stages source) over

  pub highest_few : (es : Entries Y) (stages : List Stage) (source : List ℕ) → HaveHeights (heights (forms_of es)) es → highest_read stages source 0 es ≤ length es
  highest_few es stages source kept =
      read-low stages source (heights (forms_of es)) (length es) 0 es kept (λ name read. low name) (omega arith)
    where
      low : (name : List ℕ) → heights (forms_of es) name ≤ length es
      low name =
          let most : heights (forms_of es) name ≤ 0 + length (forms_of es) = height-low 0 (λ name. 0) (forms_of es) (λ name. omega arith) name in
          let many = length-map (views es) view_form ∙ length-map es entry_view in
          omega (arith, most, many)

  -- ---- what is needed, from the youngest view to the oldest

  pub needed_next : (n m : ℕ) (es : Entries Y) (e : String Y × Body) (names : List (List ℕ)) → m ≡ suc n → slice_get es n ≡ Some e
      → needed (drop n (forms_of es)) names ≡ (if is_name_among (string_bytes e.0) (needed (drop m (forms_of es)) names) then needed (drop m (forms_of es)) names ++ names_read e.1.stages e.1.source else needed (drop m (forms_of es)) names)
  needed_next n m es e names is there = ap (λ (vs : List ViewForm). needed vs names) (dropped n es there ∙ ap (λ (k : ℕ). view_form (entry_view e) ∷ drop k (forms_of es)) (sym is))
    where
      dropped : (n : ℕ) (es : Entries Y) → slice_get es n ≡ Some e → drop n (forms_of es) ≡ view_form (entry_view e) ∷ drop (suc n) (forms_of es)
      dropped n [] there = absurd cc
      dropped zero (f ∷ es) there = let is : f ≡ e = cc in ap (λ (g : String Y × Body). view_form (entry_view g) ∷ forms_of es) is
      dropped (suc n) (f ∷ es) there = dropped n es there

  pub needed_step : (place : ℕ) (es : Entries Y) (before : Views) (e : String Y × Body) (names so_far : List (List ℕ)) (b : Bool) → 0 < place → views es ≡ before → slice_get es (place - 1) ≡ Some e
      → so_far ≡ needed (drop place (map view_form before)) names → is_name_among (string_bytes e.0) so_far ≡ b
      → (if b then so_far ++ names_read e.1.stages e.1.source else so_far) ≡ needed (drop (place - 1) (map view_form before)) names
  needed_step place es before e names so_far b more over there is among =
      let next : place ≡ suc (place - 1) = omega arith in
      let seen : so_far ≡ needed (drop place (forms_of es)) names = is ∙ ap (λ (vs : Views). needed (drop place (map view_form vs)) names) (sym over) in
      ap (λ (t : Bool). if t then so_far ++ names_read e.1.stages e.1.source else so_far) (sym among)
      ∙ ap (λ (xs : List (List ℕ)). if is_name_among (string_bytes e.0) xs then xs ++ names_read e.1.stages e.1.source else xs) seen
      ∙ sym (needed_next (place - 1) place es e names next there)
      ∙ ap (λ (vs : Views). needed (drop (place - 1) (map view_form vs)) names) over

pub needed_closed : (place : ℕ) (vs : List ViewForm) (names all : List (List ℕ)) → place ≤ 0 → all ≡ needed (drop place vs) names → AreFounded vs → IsClosed all vs
needed_closed place vs names all stop is founded =
    let none : place ≡ 0 = omega arith in
    subst (λ (xs : List (List ℕ)). IsClosed xs vs) (sym (is ∙ ap (λ (n : ℕ). needed (drop n vs) names) none)) (closed vs names founded)

-- ---- a name among others, from one to the next

pub among_next : (name other : List ℕ) (names : List (List ℕ)) (i : ℕ) → i < length names → other ≡ get_or names i other → is_name_among name (drop i names) ≡ (bytes_eq other name || is_name_among name (drop (i + 1) names))
among_next name other names i h is = at names i h is ∙ (let more : suc i ≡ i + 1 = omega arith in ap (λ (n : ℕ). bytes_eq other name || is_name_among name (drop n names)) more)
  where
    at : (names : List (List ℕ)) (i : ℕ) → i < length names → other ≡ get_or names i other → is_name_among name (drop i names) ≡ (bytes_eq other name || is_name_among name (drop (suc i) names))
    at [] i h is = absurd (omega arith)
    at (n ∷ ns) zero h is = λ k. (ap (bytes_eq name) (sym is) ∙ bytes_eq-symmetric name other) k || is_name_among name ns
    at (n ∷ ns) (suc i) h is = at ns i (omega arith) is

-- ---- why a new view is refused

-- the first fault that applies, by which of the conditions hold
abbrev pub first_fault : Bool → Bool → Bool → Bool → Option ViewFault
first_fault called read few near = if called then Some Exists else if read then Some ReadByView else if few && near then None else Some LimitReached

pub called_forms : (name : List ℕ) (vs : Views) → list_any (λ v. bytes_eq name v.name) (map view_form vs) ≡ has_view name vs
called_forms name [] = refl
called_forms name (v ∷ vs) = ap (λ (b : Bool). bytes_eq name v.name || b) (called_forms name vs)

pub read_forms : (name : List ℕ) (vs : Views) → is_read_by (map view_form vs) name ≡ reads_name vs name
read_forms name [] = refl
read_forms name (v ∷ vs) = ap (λ (b : Bool). is_read v.stages v.source name || b) (read_forms name vs)

module _ (vs : Views) (name source : List ℕ) (stages : List Stage) where
  is-told : (called read few near : Bool) → has_view name vs ≡ called → (reads_name vs name || is_read stages source name) ≡ read → nat_lt (length vs) most_views ≡ few → nat_lt (height_over (heights (map view_form vs)) stages source) (suc most_height) ≡ near
      → first_fault called read few near ≡ fault_of_new (map view_form vs) name source stages
  is-told called read few near c r f n =
      let called-is : list_any (λ v. bytes_eq name v.name) (map view_form vs) ≡ called = called_forms name vs ∙ c in
      let read-is : (is_read_by (map view_form vs) name || is_read stages source name) ≡ read = ap (λ (b : Bool). b || is_read stages source name) (read_forms name vs) ∙ r in
      let few-is : nat_lt (length (map view_form vs)) most_views ≡ few = ap (λ (k : ℕ). nat_lt k most_views) (length-map vs view_form) ∙ f in
      sym (λ i. first_fault (called-is i) (read-is i) (few-is i) (n i))

  pub called_before : has_view name vs ≡ true → Some Exists ≡ fault_of_new (map view_form vs) name source stages
  called_before c = is-told true _ _ _ c refl refl refl

  module _ (new : has_view name vs ≡ false) where
    pub read_before : (reads_name vs name || is_read stages source name) ≡ true → Some ReadByView ≡ fault_of_new (map view_form vs) name source stages
    read_before r = is-told false true _ _ new r refl refl

    module _ (others : reads_name vs name ≡ false) (own : is_read stages source name ≡ false) where
      unread : (reads_name vs name || is_read stages source name) ≡ false
      unread = ap (λ (b : Bool). b || is_read stages source name) others ∙ own

      pub no_fault : (height : ℕ) → length vs < most_views → height ≡ height_over (heights (map view_form vs)) stages source → height ≤ most_height → None ≡ fault_of_new (map view_form vs) name source stages
      no_fault height few is near =
          is-told false false true true new unread (lt-ltb (length vs) most_views few) (ap (λ (k : ℕ). nat_lt k (suc most_height)) (sym is) ∙ lt-ltb height (suc most_height) (omega arith))

      pub too_high : (height : ℕ) → length vs < most_views → height ≡ height_over (heights (map view_form vs)) stages source → most_height < height → Some LimitReached ≡ fault_of_new (map view_form vs) name source stages
      too_high height few is far =
          is-told false false true false new unread (lt-ltb (length vs) most_views few) (ap (λ (k : ℕ). nat_lt k (suc most_height)) (sym is) ∙ le-ltb height (suc most_height) (omega arith))

      pub too_many : most_views ≤ length vs → Some LimitReached ≡ fault_of_new (map view_form vs) name source stages
      too_many many = is-told false false false _ new unread (le-ltb (length vs) most_views many) refl
