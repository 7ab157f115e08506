-- Fields that are taken away together, before what the other paths lead to.
use Rattle.std.proofs.Common.{◌≡◌, ◌∙◌, ap, sym, refl, ℕ, ◌+◌, ◌<◌, ◌≤◌, Bool, true, false, List, [], ◌∷◌, ◌++◌, length, drop, map, get_or, Some, None, inl, inr, if◌then◌else◌, option_and_then, append_assoc, arith, Bor}
use Rattle.std.specs.Str.{bytes_eq}
use Rattle.std.proofs.lemmas.List.{drop_more, map-append}
use Rattle.std.specs.List.{filter}
use Rattle.std.proofs.lemmas.Slice.Eq.{bytes_eq-Decides}
use Rattle.dv_value.specs.Tree.{Field}
use Rattle.dv_value.specs.Names.{value_under, without}
use Rattle.dv_value.specs.Removing.{without_each}
use Rattle.dv_path.specs.Apart.{AreApart, IsApartFrom, AreAllApart, remove_each}
use Rattle.dv_path.specs.Inner.Apart.{fields_alone, leading_further, field_alone, leads_to_value}
use Rattle.dv_candidates.specs.Candidates.{Candidate}
use Rattle.dv_path.specs.Placing.{field_with, with_field}
use Rattle.dv_path.specs.Removing.{remove_field, left_behind, remove}
use Rattle.dv_path.specs.Inner.Fielded.{field-other, differ}

-- ---- one field

without-is : (name : List ℕ) (fs : List Field) → without name fs ≡ with_field name None fs
without-is name [] = refl
without-is name (f ∷ fs) = by (bytes_eq name f.0) (without-is name fs)
  where
    by : (here : Bool) → without name fs ≡ with_field name None fs → (if here then fs else f ∷ without name fs) ≡ (if here then field_with f.0 None ++ fs else f ∷ with_field name None fs)
    by true rest = refl
    by false rest = ap (λ gs. f ∷ gs) rest

gone : (name : List ℕ) (fs : List Field) (c : Candidate) → option_and_then (left_behind []) c ≡ None
gone name fs None = refl
gone name fs (Some v) = refl

remove-field : (name : List ℕ) (fs : List Field) → remove fs (name ∷ []) ≡ without name fs
unfolding remove
remove-field name fs = ap (λ c. with_field name c fs) (gone name fs (value_under name fs)) ∙ sym (without-is name fs)

trade : (mine his : Bool) (a m : List ℕ) (c : Candidate) (f : Field) (fs : List Field) → bytes_eq a f.0 ≡ mine → bytes_eq m f.0 ≡ his → (a ≡ m → ⊥) → with_field m None (with_field a c fs) ≡ with_field a c (with_field m None fs)
    → with_field m None (if mine then field_with f.0 c ++ fs else f ∷ with_field a c fs) ≡ with_field a c (if his then field_with f.0 None ++ fs else f ∷ with_field m None fs)
trade true true a m c f fs ma hm ne later = absurd (ne ((bytes_eq-Decides a f.0).0 ma ∙ sym ((bytes_eq-Decides m f.0).0 hm)))
trade true false a m None f fs ma hm ne later = rw ma refl
trade true false a m (Some v) f fs ma hm ne later = rw (ma, hm) refl
trade false true a m c f fs ma hm ne later = rw hm refl
trade false false a m c f fs ma hm ne later = rw (ma, hm) (ap (λ gs. f ∷ gs) later)

alone : (a m : List ℕ) (c : Candidate) → (a ≡ m → ⊥) → with_field m None (field_with a c) ≡ with_field a c []
alone a m None ne = refl
alone a m (Some v) ne = rw (differ m a (λ e. ne (sym e))) refl

drop-trade : (a m : List ℕ) (c : Candidate) (fs : List Field) → (a ≡ m → ⊥) → with_field m None (with_field a c fs) ≡ with_field a c (with_field m None fs)
drop-trade a m c [] ne = alone a m c ne
drop-trade a m c (f ∷ fs) ne = trade (bytes_eq a f.0) (bytes_eq m f.0) a m c f fs refl refl ne (drop-trade a m c fs ne)

without-removed : (m a : List ℕ) (names : List (List ℕ)) (fs : List Field) → (a ≡ m → ⊥) → without m (remove fs (a ∷ names)) ≡ remove (without m fs) (a ∷ names)
unfolding remove
without-removed m a names fs ne =
    without-is m (remove_field (left_behind names) a fs)
    ∙ drop-trade a m (option_and_then (left_behind names) (value_under a fs)) fs ne
    ∙ ap (λ c. with_field a (option_and_then (left_behind names) c) (with_field m None fs)) (sym (field-other m a None fs ne))
    ∙ ap (remove_field (left_behind names) a) (sym (without-is m fs))

-- ---- several

elsewhere : (a b m : List ℕ) (names : List (List ℕ)) → AreApart (a ∷ b ∷ names) (m ∷ []) → a ≡ m → ⊥
elsewhere a b m names (inl ne) e = ne e
elsewhere a b m names (inr h) e = h.1

each-removed : (a b : List ℕ) (names : List (List ℕ)) (ps : List (List (List ℕ))) (fs : List Field) → IsApartFrom (a ∷ b ∷ names) ps → without_each (fields_alone ps) (remove fs (a ∷ b ∷ names)) ≡ remove (without_each (fields_alone ps) fs) (a ∷ b ∷ names)
each-removed a b names [] fs h = refl
each-removed a b names ([] ∷ ps) fs h = each-removed a b names ps fs h.1
each-removed a b names ((m ∷ []) ∷ ps) fs h = ap (without_each (fields_alone ps)) (without-removed m a (b ∷ names) fs (elsewhere a b m names h.0)) ∙ each-removed a b names ps (without m fs) h.1
each-removed a b names ((m ∷ n ∷ more) ∷ ps) fs h = each-removed a b names ps fs h.1

nowhere : (fs : List Field) → remove fs [] ≡ fs
unfolding remove
nowhere fs = refl

-- fields of the document itself go first
pub fields-first : (ps : List (List (List ℕ))) (fs : List Field) → AreAllApart ps → remove_each (without_each (fields_alone ps) fs) (leading_further ps) ≡ remove_each fs ps
fields-first [] fs h = refl
fields-first ([] ∷ ps) fs h = fields-first ps fs h.1 ∙ ap (λ gs. remove_each gs ps) (sym (nowhere fs))
fields-first ((m ∷ []) ∷ ps) fs h = fields-first ps (without m fs) h.1 ∙ ap (λ gs. remove_each gs ps) (sym (remove-field m fs))
fields-first ((a ∷ b ∷ names) ∷ ps) fs h =
    ap (λ gs. remove_each gs (leading_further ps)) (sym (each-removed a b names ps fs h.0)) ∙ fields-first ps (remove fs (a ∷ b ∷ names)) h.1

-- ---- loops over paths that are lent

abbrev pub lent : List (Bor (List (List ℕ))) → List (List (List ℕ))
lent paths = map (λ path. path.now) paths

pub lent-drop : (paths : List (Bor (List (List ℕ)))) (i : ℕ) (p : Bor (List (List ℕ))) → i < length paths → p ≡ get_or paths i p → lent (drop i paths) ≡ p.now ∷ lent (drop (i + 1) paths)
lent-drop paths i p within is = ap lent (drop_more paths i p within ∙ ap (λ (q : Bor (List (List ℕ))). q ∷ drop (i + 1) paths) (sym is))

pub lent-more : {X : Type 0} (xs new : List (Bor X)) (x : Bor X) (rest : List X) → new ≡ xs ++ x ∷ [] → map (λ y. y.now) new ++ rest ≡ map (λ y. y.now) xs ++ x.now ∷ rest
lent-more xs new x rest pushed =
    ap (λ l. l ++ rest) (ap (map (λ y. y.now)) pushed ∙ map-append (λ y. y.now) xs (x ∷ []))
    ∙ append_assoc (map (λ y. y.now) xs) (x.now ∷ []) rest

leads-further : (p : List (List ℕ)) (ps : List (List (List ℕ))) → 1 < length p → leading_further (p ∷ ps) ≡ p ∷ leading_further ps
leads-further [] ps h = absurd (omega arith)
leads-further (m ∷ []) ps h = absurd (omega arith)
leads-further (a ∷ b ∷ names) ps h = refl

leads-to-field : (p : List (List ℕ)) (ps : List (List (List ℕ))) → length p ≤ 1 → leading_further (p ∷ ps) ≡ leading_further ps
leads-to-field [] ps h = refl
leads-to-field (m ∷ []) ps h = refl
leads-to-field (a ∷ b ∷ names) ps h = absurd (omega arith)

alone-there : (p : List (List ℕ)) (ps : List (List (List ℕ))) (n : List ℕ) → Some n ≡ field_alone p → fields_alone (p ∷ ps) ≡ n ∷ fields_alone ps
alone-there [] ps n e = cc
alone-there (name ∷ []) ps n e = let same : n ≡ name = cc in ap (λ m. m ∷ fields_alone ps) (sym same)
alone-there (a ∷ b ∷ names) ps n e = cc

not-alone : (p : List (List ℕ)) (ps : List (List (List ℕ))) → None ≡ field_alone p → fields_alone ps ≡ fields_alone (p ∷ ps)
not-alone [] ps e = refl
not-alone (name ∷ []) ps e = cc
not-alone (a ∷ b ∷ names) ps e = refl

module _ (paths : List (Bor (List (List ℕ)))) (i : ℕ) (p : Bor (List (List ℕ))) (within : i < length paths) (is : p ≡ get_or paths i p) where
  here : lent (drop i paths) ≡ p.now ∷ lent (drop (i + 1) paths)
  here = lent-drop paths i p within is

  pub long-more : (xs new : List (Bor (List (List ℕ)))) → new ≡ xs ++ p ∷ [] → 1 < length p.now → lent new ++ leading_further (lent (drop (i + 1) paths)) ≡ lent xs ++ leading_further (lent (drop i paths))
  long-more xs new pushed h =
      lent-more xs new p (leading_further (lent (drop (i + 1) paths))) pushed
      ∙ ap (λ l. lent xs ++ l) (sym (ap leading_further here ∙ leads-further p.now (lent (drop (i + 1) paths)) h))

  pub long-passed : (xs : List (Bor (List (List ℕ)))) → length p.now ≤ 1 → lent xs ++ leading_further (lent (drop (i + 1) paths)) ≡ lent xs ++ leading_further (lent (drop i paths))
  long-passed xs h = ap (λ l. lent xs ++ l) (sym (ap leading_further here ∙ leads-to-field p.now (lent (drop (i + 1) paths)) h))

  pub name-more : (names new : List (Bor (List ℕ))) (n : Bor (List ℕ)) → new ≡ names ++ n ∷ [] → Some n.now ≡ field_alone p.now → map (λ name. name.now) new ++ fields_alone (lent (drop (i + 1) paths)) ≡ map (λ name. name.now) names ++ fields_alone (lent (drop i paths))
  name-more names new n pushed e =
      lent-more names new n (fields_alone (lent (drop (i + 1) paths))) pushed
      ∙ ap (λ l. map (λ name. name.now) names ++ l) (sym (ap fields_alone here ∙ alone-there p.now (lent (drop (i + 1) paths)) n.now e))

  pub name-passed : (names : List (Bor (List ℕ))) → None ≡ field_alone p.now → map (λ name. name.now) names ++ fields_alone (lent (drop (i + 1) paths)) ≡ map (λ name. name.now) names ++ fields_alone (lent (drop i paths))
  name-passed names e = ap (λ l. map (λ name. name.now) names ++ l) (not-alone p.now (lent (drop (i + 1) paths)) e ∙ ap fields_alone (sym here))

  module _ (fs : List Field) where
    kept : (b : Bool) → leads_to_value fs p.now ≡ b → filter (leads_to_value fs) (lent (drop i paths)) ≡ (if b then p.now ∷ filter (leads_to_value fs) (lent (drop (i + 1) paths)) else filter (leads_to_value fs) (lent (drop (i + 1) paths)))
    kept b e = ap (filter (leads_to_value fs)) here ∙ ap (λ c. if c then p.now ∷ filter (leads_to_value fs) (lent (drop (i + 1) paths)) else filter (leads_to_value fs) (lent (drop (i + 1) paths))) e

    pub value-more : (xs new : List (Bor (List (List ℕ)))) (q : Bor (List (List ℕ))) → new ≡ xs ++ q ∷ [] → q.now ≡ p.now → leads_to_value fs p.now ≡ true → lent new ++ filter (leads_to_value fs) (lent (drop (i + 1) paths)) ≡ lent xs ++ filter (leads_to_value fs) (lent (drop i paths))
    value-more xs new q pushed same e =
        lent-more xs new q (filter (leads_to_value fs) (lent (drop (i + 1) paths))) pushed
        ∙ ap (λ n. lent xs ++ n ∷ filter (leads_to_value fs) (lent (drop (i + 1) paths))) same
        ∙ ap (λ l. lent xs ++ l) (sym (kept true e))

    pub value-passed : (xs : List (Bor (List (List ℕ)))) → leads_to_value fs p.now ≡ false → lent xs ++ filter (leads_to_value fs) (lent (drop (i + 1) paths)) ≡ lent xs ++ filter (leads_to_value fs) (lent (drop i paths))
    value-passed xs e = ap (λ l. lent xs ++ l) (sym (kept false e))
