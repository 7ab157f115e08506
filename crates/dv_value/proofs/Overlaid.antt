-- Fields, some of which show other values than their own.
use Rattle.std.proofs.Common.{◌≡◌, ℕ, zero, suc, ◌+◌, ◌≤◌, ◌<◌, false, List, [], ◌∷◌, ◌++◌, length, take, drop, get_or, Option, Some, None, refl, sym, ap, subst, ◌∙◌, arith}
use Rattle.std.specs.Prelude.{slice_set}
use Rattle.std.specs.List.{slice_get, position_from}
use Rattle.std.specs.Option.{IfSome, option_map, option_flatten}
use Rattle.std.specs.Str.{bytes_eq}
use Rattle.std.proofs.lemmas.List.{take-append-drop, take_more}
use Rattle.std.proofs.lemmas.Option.{slice_get_within, get_or_from_slice_get}
use Rattle.dv_value.specs.Tree.{Tree, null, Field}
use Rattle.dv_value.specs.Names.{AreNamed, has_name, has_zero, place_under, value_under, value_at, with_values}
use Rattle.dv_value.specs.Inner.Covers.{under, covered, IsCovered, AreCovered}
use Rattle.dv_value.specs.Inner.Put.{with_value_at}
use Rattle.dv_value.specs.Inner.ListLaws.{drop_item}
use Rattle.dv_value.proofs.Changed.{found_within}
use Rattle.dv_value.specs.Inner.NameLaws.{named_apart, named_whole}
use Rattle.dv_value.proofs.Named.{value_there}

-- ---- how many there are

pub length-covered : (fs : List Field) (cs : List (Option Tree)) → length (covered fs cs) ≡ length fs
length-covered [] cs = refl
length-covered (f ∷ fs) [] = refl
length-covered (f ∷ fs) (c ∷ cs) = ap suc (length-covered fs cs)

pub length-covers : (fs : List Field) (cs : List (Option Tree)) → AreCovered fs cs → length cs ≡ length fs
length-covers [] [] h = refl
length-covers [] (c ∷ cs) h = absurd h
length-covers (f ∷ fs) [] h = absurd h
length-covers (f ∷ fs) (c ∷ cs) h = ap suc (length-covers fs cs h.1)

-- ---- names

under-name : (f : Field) (c : Option Tree) → (under f c).0 ≡ f.0
under-name f None = refl
under-name f (Some v) = refl

pub has_name-covered : (name : List ℕ) (fs : List Field) (cs : List (Option Tree)) → has_name name (covered fs cs) ≡ has_name name fs
has_name-covered name [] cs = refl
has_name-covered name (f ∷ fs) [] = refl
has_name-covered name (f ∷ fs) (c ∷ cs) = rw (under-name f c, has_name-covered name fs cs) refl

pub AreNamed-covered : (fs : List Field) (cs : List (Option Tree)) → AreNamed fs → AreNamed (covered fs cs)
AreNamed-covered [] cs named = tt
AreNamed-covered (f ∷ fs) [] named = named
AreNamed-covered (f ∷ fs) (c ∷ cs) named = rw (under-name f c, has_name-covered f.0 fs cs) (named.0, named.1, AreNamed-covered fs cs named.2)

pub with_values-covered : (fs : List Field) (cs : List (Option Tree)) (vs : List Tree) → with_values (covered fs cs) vs ≡ with_values fs vs
with_values-covered [] cs vs = refl
with_values-covered (f ∷ fs) [] vs = refl
with_values-covered (f ∷ fs) (c ∷ cs) [] = refl
with_values-covered (f ∷ fs) (c ∷ cs) (v ∷ vs) = rw (under-name f c, with_values-covered fs cs vs) refl

place_from : (name : List ℕ) (i : ℕ) (fs : List Field) (cs : List (Option Tree)) → position_from (λ f. bytes_eq name f.0) i (covered fs cs) ≡ position_from (λ f. bytes_eq name f.0) i fs
place_from name i [] cs = refl
place_from name i (f ∷ fs) [] = refl
place_from name i (f ∷ fs) (c ∷ cs) = rw (under-name f c, place_from name (i + 1) fs cs) refl

pub place_under-covered : (name : List ℕ) (fs : List Field) (cs : List (Option Tree)) → place_under name (covered fs cs) ≡ place_under name fs
place_under-covered name fs cs = place_from name 0 fs cs

-- ---- the field at a place

-- a field with the cover that is found for it
abbrev pub under_found : Option Field → Option (Option Tree) → Option Field
under_found None c = None
under_found (Some f) None = Some f
under_found (Some f) (Some c) = Some (under f c)

pub slice_get-covered : (fs : List Field) (cs : List (Option Tree)) (place : ℕ) → slice_get (covered fs cs) place ≡ under_found (slice_get fs place) (slice_get cs place)
slice_get-covered [] cs place = refl
slice_get-covered (f ∷ fs) [] zero = refl
slice_get-covered (f ∷ fs) [] (suc place) = elim (slice_get fs place) as (λ o. o ≡ under_found o None) [ None ↦ refl | Some g ↦ refl ]
slice_get-covered (f ∷ fs) (c ∷ cs) zero = refl
slice_get-covered (f ∷ fs) (c ∷ cs) (suc place) = slice_get-covered fs cs place

-- ---- one more field

pub covered-push : (fs : List Field) (cs : List (Option Tree)) (f : Field) (c : Option Tree) → AreCovered fs cs → covered (fs ++ f ∷ []) (cs ++ c ∷ []) ≡ covered fs cs ++ under f c ∷ []
covered-push [] [] f c h = refl
covered-push [] (d ∷ cs) f c h = absurd h
covered-push (g ∷ fs) [] f c h = absurd h
covered-push (g ∷ fs) (d ∷ cs) f c h = ap (λ (gs : List Field). under g d ∷ gs) (covered-push fs cs f c h.1)

pub AreCovered-push : (fs : List Field) (cs : List (Option Tree)) (f : Field) (c : Option Tree) → AreCovered fs cs → IsCovered f c → AreCovered (fs ++ f ∷ []) (cs ++ c ∷ [])
AreCovered-push [] [] f c h is = (is, tt)
AreCovered-push [] (d ∷ cs) f c h is = absurd h
AreCovered-push (g ∷ fs) [] f c h is = absurd h
AreCovered-push (g ∷ fs) (d ∷ cs) f c h is = (h.0, AreCovered-push fs cs f c h.1 is)

-- ---- another value at a place

pub covered-put : (v : Tree) (place : ℕ) (fs : List Field) (cs : List (Option Tree)) → AreCovered fs cs → covered (with_value_at place v fs) (slice_set cs place None) ≡ with_value_at place v (covered fs cs)
covered-put v place [] [] h = refl
covered-put v place [] (c ∷ cs) h = absurd h
covered-put v place (f ∷ fs) [] h = absurd h
covered-put v zero (f ∷ fs) (c ∷ cs) h = rw (under-name f c) refl
covered-put v (suc place) (f ∷ fs) (c ∷ cs) h = ap (λ (gs : List Field). under f c ∷ gs) (covered-put v place fs cs h.1)

pub AreCovered-put : (v : Tree) (place : ℕ) (fs : List Field) (cs : List (Option Tree)) → AreCovered fs cs → AreCovered (with_value_at place v fs) (slice_set cs place None)
AreCovered-put v place [] [] h = tt
AreCovered-put v place [] (c ∷ cs) h = absurd h
AreCovered-put v place (f ∷ fs) [] h = absurd h
AreCovered-put v zero (f ∷ fs) (c ∷ cs) h = (tt, h.1)
AreCovered-put v (suc place) (f ∷ fs) (c ∷ cs) h = (h.0, AreCovered-put v place fs cs h.1)

-- ---- the names before a field

module _ (fs : List Field) (place : ℕ) (f : Field) (named : AreNamed fs) (here : slice_get fs place ≡ Some f) where
  split : fs ≡ take place fs ++ f ∷ drop (place + 1) fs
  split = sym (take-append-drop place fs) ∙ ap (λ (rest : List Field). take place fs ++ rest) (drop_item fs place f here)

  -- no field before it has its name
  pub fresh_here : has_name f.0 (take place fs) ≡ false
  fresh_here = named_apart (take place fs) (drop (place + 1) fs) f (subst AreNamed split named)

  -- and its name holds no zero
  pub whole_here : has_zero f.0 ≡ false
  whole_here = named_whole (take place fs) (drop (place + 1) fs) f (subst AreNamed split named)

-- the fields before the next place
pub take_field : (fs : List Field) (place : ℕ) (f : Field) → slice_get fs place ≡ Some f → take (place + 1) fs ≡ take place fs ++ f ∷ []
take_field fs place f here = take_more fs place f (slice_get_within fs place f here) ∙ ap (λ (g : Field). take place fs ++ g ∷ []) (get_or_from_slice_get fs place f f here)

-- ---- the value at a place

pub value_at-here : (fs : List Field) (place : ℕ) (f : Field) → slice_get fs place ≡ Some f → value_at place fs ≡ f.1
value_at-here [] place f here = absurd cc
value_at-here (g ∷ fs) zero f here = let same : g ≡ f = cc in ap (λ (h : Field). h.1) same
value_at-here (g ∷ fs) (suc place) f here = value_at-here fs place f here

value_at-read : (fs : List Field) (place : ℕ) (d : Field) → place < length fs → (get_or fs place d).1 ≡ value_at place fs
value_at-read [] place d lt = absurd (omega arith)
value_at-read (f ∷ fs) zero d lt = refl
value_at-read (f ∷ fs) (suc place) d lt = value_at-read fs place d (omega arith)

pub value_at-covered : (fs : List Field) (cs : List (Option Tree)) (place : ℕ) (v : Tree) → AreCovered fs cs → slice_get cs place ≡ Some (Some v) → v ≡ value_at place (covered fs cs)
value_at-covered [] [] place v h over = absurd cc
value_at-covered [] (c ∷ cs) place v h over = absurd h
value_at-covered (f ∷ fs) [] place v h over = absurd h
value_at-covered (f ∷ fs) (c ∷ cs) zero v h over = let same : c ≡ Some v = cc in rw same refl
value_at-covered (f ∷ fs) (c ∷ cs) (suc place) v h over = value_at-covered fs cs place v h.1 over

pub place_inside : (name : List ℕ) (fs : List Field) (o : Option ℕ) → o ≡ place_under name fs → IfSome o (λ place. place < length fs)
place_inside name fs None found = tt
place_inside name fs (Some place) found = found_within name place fs found

pub place_shows : (name : List ℕ) (fs : List Field) (o : Option ℕ) → o ≡ place_under name fs → IfSome o (λ place. value_under name fs ≡ Some (value_at place fs))
place_shows name fs None found = tt
place_shows name fs (Some place) found = value_there name place fs ([], null) (sym found) ∙ ap Some (value_at-read fs place ([], null) (found_within name place fs found))

-- only past the last field there is none
past_none : (fs : List Field) (place : ℕ) → slice_get fs place ≡ None → length fs ≤ place
past_none [] place none = omega arith
past_none (f ∷ fs) zero none = absurd cc
past_none (f ∷ fs) (suc place) none = omega (arith, past_none fs place none)

-- the value of the field that has the name
pub value_got : (name : List ℕ) (fs : List Field) (place : ℕ) (o : Option Field) → Some place ≡ place_under name fs → o ≡ slice_get fs place → option_map (λ (f : Field). f.1) o ≡ value_under name fs
value_got name fs place None found there = absurd (omega (arith, past_none fs place (sym there), found_within name place fs found))
value_got name fs place (Some f) found there = sym (place_shows name fs (Some place) found ∙ ap Some (value_at-here fs place f (sym there)))

-- ---- the cover that is found for a field

flat : (o : Option (Option Tree)) (v : Tree) → Some v ≡ option_flatten o → o ≡ Some (Some v)
flat None v e = absurd cc
flat (Some None) v e = absurd cc
flat (Some (Some w)) v e = ap (λ (c : Option Tree). Some c) (sym e)

pub value_over : (fs : List Field) (cs : List (Option Tree)) (place : ℕ) (v : Tree) → AreCovered fs cs → Some v ≡ option_flatten (slice_get cs place) → v ≡ value_at place (covered fs cs)
value_over fs cs place v h over = value_at-covered fs cs place v h (flat (slice_get cs place) v over)

found_over : (f : Field) (o : Option (Option Tree)) → Some (under f (option_flatten o)) ≡ under_found (Some f) o
found_over f None = refl
found_over f (Some c) = refl

pub shown_over : (fs : List Field) (cs : List (Option Tree)) (place : ℕ) (f : Field) (t : Option Tree) → Some f ≡ slice_get fs place → t ≡ option_flatten (slice_get cs place) → Some (under f t) ≡ slice_get (covered fs cs) place
shown_over fs cs place f t here over =
    ap (λ (u : Option Tree). Some (under f u)) over ∙ found_over f (slice_get cs place) ∙ ap (λ (o : Option Field). under_found o (slice_get cs place)) here ∙ sym (slice_get-covered fs cs place)

pub none_over : (fs : List Field) (cs : List (Option Tree)) (place : ℕ) → None ≡ slice_get fs place → None ≡ slice_get (covered fs cs) place
none_over fs cs place none = ap (λ (o : Option Field). under_found o (slice_get cs place)) none ∙ sym (slice_get-covered fs cs place)

-- ---- fields that are copied one by one

pub take_all : (fs : List Field) (place : ℕ) → length fs ≤ place → take place fs ≡ fs
take_all [] zero past = refl
take_all [] (suc place) past = refl
take_all (f ∷ fs) zero past = absurd (omega arith)
take_all (f ∷ fs) (suc place) past = ap (λ (gs : List Field). f ∷ gs) (take_all fs place (omega arith))

pub next_field : (fs : List Field) (place : ℕ) (f : Field) (before after : List Field) (v : Tree) → slice_get fs place ≡ Some f → before ≡ take place fs → v ≡ f.1 → after ≡ before ++ (f.0, v) ∷ [] → after ≡ take (place + 1) fs
next_field fs place f before after v here is same added =
    added ∙ ap (λ (w : Tree). before ++ (f.0, w) ∷ []) same ∙ ap (λ (gs : List Field). gs ++ f ∷ []) is ∙ sym (take_field fs place f here)
