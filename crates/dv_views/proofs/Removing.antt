-- A view that no other reads is removed.
use Rattle.std.proofs.Common.{◌≡◌, ◌≤◌, ℕ, Bool, true, false, not, List, [], ◌∷◌, map, fold, suc, cond, refl, ap, sym, subst, ◌∙◌}
use Rattle.std.specs.Bool.{if◌then◌else◌}
use Rattle.std.specs.Prelude.{max}
use Rattle.std.specs.List.{AllByRecursion, IsDistinct}
use Rattle.std.specs.Map.{remove_entry}
use Rattle.std.specs.Str.{bytes_eq}
use Rattle.std.specs.String.{string_bytes}
use Rattle.std.proofs.lemmas.Slice.Eq.{bytes_eq-Decides}
use Rattle.std.proofs.lemmas.Bool.{or_parts}
use Rattle.dv_pipe.specs.Stages.{is_read}
use Rattle.dv_views.specs.Forms.{AreFounded, ViewForm, height_over, heights, is_name_among, names_read, with_height}
use Rattle.dv_views.specs.Inner.Older.{Entries, is_called, views}
use Rattle.dv_views.specs.Inner.Readers.{AreReaders, Listing}
use Rattle.dv_views.specs.Inner.Seen.{AreSilent, AreSoundEntries, HaveHeights}
use Rattle.dv_views.specs.Views.{View}
use Rattle.dv_views.specs.Inner.Views.{AreNamedApart, AreOverLive, Views, distance, view_form, no_distance, reads, reads_name, with_distance, views_without}
use Rattle.dv_views.proofs.Entries.{AreOthers, others, taken_out}
use Rattle.dv_views.proofs.Heights.{forms_of}
use Rattle.dv_views.proofs.Right.{read_among}
use Rattle.dv_views.proofs.Silent.{silent_removed}
use Rattle.dv_value.specs.Inner.ByteLaws.{bytes_eq-symmetric}

-- ---- the others are no farther from being live than before

-- the same under all names but one
abbrev AreSameBut : List ℕ → (List ℕ → ℕ) → (List ℕ → ℕ) → Type 0
AreSameBut gone distances others = (name : List ℕ) → bytes_eq name gone ≡ false → distances name ≡ others name

-- also after a view whose distance or height is unchanged
with-same : (gone name : List ℕ) (n m : ℕ) (before after : List ℕ → ℕ) → n ≡ m → AreSameBut gone before after → AreSameBut gone (λ other. if bytes_eq other name then n else before other) (λ other. if bytes_eq other name then m else after other)
with-same gone name n m before after is same other off = λ i. if bytes_eq other name then is i else same other off i

with-gone : (gone name : List ℕ) (n : ℕ) (before after : List ℕ → ℕ) → bytes_eq gone name ≡ true → AreSameBut gone before after → AreSameBut gone (λ other. if bytes_eq other name then n else before other) after
with-gone gone name n before after is same other off =
    let away : bytes_eq other name ≡ false = ap (bytes_eq other) (sym ((bytes_eq-Decides gone name).0 is)) ∙ off in
    ap (λ (b : Bool). if b then n else before other) away ∙ same other off

read-near : (gone : List ℕ) (v : View) (distances others : List ℕ → ℕ) → reads v gone ≡ false → AreSameBut gone distances others → ((name : List ℕ) → reads v name ≡ true → distances name ≤ distance v.mark)
    → (name : List ℕ) → reads v name ≡ true → others name ≤ distance v.mark
read-near gone v distances others away same near name h = by (bytes_eq name gone) refl
  where
    by : (b : Bool) → bytes_eq name gone ≡ b → others name ≤ distance v.mark
    by true is = let one : name ≡ gone = (bytes_eq-Decides name gone).0 is in absurd (cc (ap (reads v) one))
    by false off = subst (λ (n : ℕ). n ≤ distance v.mark) (same name off) (near name h)

live-without : (gone : List ℕ) (vs : Views) (distances others : List ℕ → ℕ) → AreSameBut gone distances others → reads_name vs gone ≡ false → AreOverLive distances vs → AreOverLive others (views_without gone vs)
live-without gone [] distances others same away live = tt
live-without gone (v ∷ vs) distances others same away live =
    let both = or_parts (reads v gone) (reads_name vs gone) away in
    by (bytes_eq gone v.name) refl both.0 (λ distances others same live. live-without gone vs distances others same both.1 live)
  where
    by : (b : Bool) → bytes_eq gone v.name ≡ b → reads v gone ≡ false → ((distances others : List ℕ → ℕ) → AreSameBut gone distances others → AreOverLive distances vs → AreOverLive others (views_without gone vs))
        → AreOverLive others (cond (not b) (v ∷ views_without gone vs) (views_without gone vs))
    by true is here rest = rest (with_distance v distances) others (with-gone gone v.name (distance v.mark) distances others is same) live.1
    by false is here rest = (read-near gone v distances others here same live.0, rest (with_distance v distances) (with_distance v others) (with-same gone v.name (distance v.mark) (distance v.mark) distances others refl same) live.1)

pub live_without : (gone : List ℕ) (vs : Views) (distances : List ℕ → ℕ) → reads_name vs gone ≡ false → AreOverLive distances vs → AreOverLive distances (views_without gone vs)
live_without gone vs distances away live = live-without gone vs distances distances (λ name off. refl) away live

-- ---- the others read only older ones

all-without : (P : ViewForm → Type 0) (gone : List ℕ) (vs : Views) → AllByRecursion P (map view_form vs) → AllByRecursion P (map view_form (views_without gone vs))
all-without P gone [] all = tt
all-without P gone (v ∷ vs) all = by (bytes_eq gone v.name) (all-without P gone vs all.1)
  where
    by : (b : Bool) → AllByRecursion P (map view_form (views_without gone vs)) → AllByRecursion P (map view_form (cond (not b) (v ∷ views_without gone vs) (views_without gone vs)))
    by true rest = rest
    by false rest = (all.0, rest)

pub founded_without : (gone : List ℕ) (vs : Views) → AreFounded (map view_form vs) → AreFounded (map view_form (views_without gone vs))
founded_without gone [] founded = tt
founded_without gone (v ∷ vs) founded = by (bytes_eq gone v.name) (founded_without gone vs founded.1)
  where
    by : (b : Bool) → AreFounded (map view_form (views_without gone vs)) → AreFounded (map view_form (cond (not b) (v ∷ views_without gone vs) (views_without gone vs)))
    by true rest = rest
    by false rest = ((founded.0.0, all-without (λ other. is_read v.stages v.source other.name ≡ false) gone vs founded.0.1), rest)

-- ---- the others have the same height as before

module _ (gone : List ℕ) where
  same-highest : (before after : List ℕ → ℕ) (first : ℕ) (names : List (List ℕ)) → AreSameBut gone before after → is_name_among gone names ≡ false → fold (λ so_far name. max so_far (before name)) first names ≡ fold (λ so_far name. max so_far (after name)) first names
  same-highest before after first [] same away = refl
  same-highest before after first (n ∷ names) same away =
      let both = or_parts (bytes_eq gone n) (is_name_among gone names) away in
      ap (λ (h : ℕ). fold (λ so_far name. max so_far (before name)) (max first h) names) (same n (bytes_eq-symmetric n gone ∙ both.0)) ∙ same-highest before after (max first (after n)) names same both.1

  same-height : (v : View) (before after : List ℕ → ℕ) → AreSameBut gone before after → reads v gone ≡ false → height_over before v.stages v.source ≡ height_over after v.stages v.source
  same-height v before after same away = ap suc (same-highest before after 0 (names_read v.stages v.source) same (sym (read_among v.stages v.source gone) ∙ away))

  heights-without : (vs : Views) (before after : List ℕ → ℕ) → AreSameBut gone before after → reads_name vs gone ≡ false
      → AreSameBut gone (fold (λ below v. with_height v below) before (map view_form vs)) (fold (λ below v. with_height v below) after (map view_form (views_without gone vs)))
  heights-without [] before after same away = same
  heights-without (v ∷ vs) before after same away =
      let both = or_parts (reads v gone) (reads_name vs gone) away in
      by (bytes_eq gone v.name) refl (same-height v before after same both.0) (λ after same. heights-without vs (with_height (view_form v) before) after same both.1)
    where
      behind : List ℕ → ℕ
      behind = fold (λ below v. with_height v below) (with_height (view_form v) before) (map view_form vs)

      by : (b : Bool) → bytes_eq gone v.name ≡ b → height_over before v.stages v.source ≡ height_over after v.stages v.source
          → ((others : List ℕ → ℕ) → AreSameBut gone (with_height (view_form v) before) others → AreSameBut gone behind (fold (λ below v. with_height v below) others (map view_form (views_without gone vs))))
          → AreSameBut gone behind (fold (λ below v. with_height v below) after (map view_form (cond (not b) (v ∷ views_without gone vs) (views_without gone vs))))
      by true is here rest = rest after (with-gone gone v.name (height_over before v.stages v.source) before after is same)
      by false is here rest = rest (with_height (view_form v) after) (with-same gone v.name (height_over before v.stages v.source) (height_over after v.stages v.source) before after here same)

  module _ {Y : Type 0} (before after : List ℕ → ℕ) (same : AreSameBut gone before after) where
    kept-others : (es : Entries Y) → AreOthers gone es → HaveHeights before es → HaveHeights after es
    kept-others [] away kept = tt
    kept-others (e ∷ es) away kept = (kept.0 ∙ same (string_bytes e.0) (bytes_eq-symmetric (string_bytes e.0) gone ∙ away.0), kept-others es away.1 kept.1)

    kept-out : (es : Entries Y) → AreNamedApart (views es) → HaveHeights before es → HaveHeights after (remove_entry (is_called gone) es)
    unfolding IsDistinct
    kept-out [] apart kept = tt
    kept-out (e ∷ es) apart kept = by (is_called gone e.0) refl (kept-out es apart.1 kept.1)
      where
        by : (b : Bool) → is_called gone e.0 ≡ b → HaveHeights after (remove_entry (is_called gone) es) → HaveHeights after (cond b es (e ∷ remove_entry (is_called gone) es))
        by true is rest = kept-others es (others gone (string_bytes e.0) es is apart.0) kept.1
        by false off rest = (kept.0 ∙ same (string_bytes e.0) (bytes_eq-symmetric (string_bytes e.0) gone ∙ off), rest)

pub heights_removed : {Y : Type 0} (gone : List ℕ) (es : Entries Y) → AreNamedApart (views es) → reads_name (views es) gone ≡ false → HaveHeights (heights (forms_of es)) es
    → HaveHeights (heights (map view_form (views_without gone (views es)))) (remove_entry (is_called gone) es)
heights_removed gone es apart away kept = kept-out gone (heights (forms_of es)) (heights (map view_form (views_without gone (views es)))) (heights-without gone (views es) (λ name. 0) (λ name. 0) (λ name off. refl) away) es apart kept

-- what holds of views in memory holds without a view that no view reads, if the lists of readers are right
pub sound_without : {Y : Type 0} (gone : List ℕ) (es left : Entries Y) (listing less : Listing) → left ≡ remove_entry (is_called gone) es → AreNamedApart (views left) → reads_name (views es) gone ≡ false → AreSoundEntries es listing → AreReaders (forms_of left) less
    → AreSoundEntries left less
sound_without gone es left listing less is apart away sound readers =
    let same : views_without gone (views es) ≡ views left = taken_out gone es sound.views.apart ∙ sym (ap views is) in
    record {
      views = record {
        apart = apart;
        live = subst (λ (vs : Views). AreOverLive no_distance vs) same (live_without gone (views es) no_distance away sound.views.live);
        founded = subst (λ (vs : Views). AreFounded (map view_form vs)) same (founded_without gone (views es) sound.views.founded);
      };
      heights =
          subst (λ (vs : Views). HaveHeights (heights (map view_form vs)) left) same
          (subst (HaveHeights (heights (map view_form (views_without gone (views es))))) (sym is) (heights_removed gone es sound.views.apart away sound.heights));
      silent = subst AreSilent (sym is) (silent_removed (is_called gone) es sound.silent);
      readers = readers;
    }
