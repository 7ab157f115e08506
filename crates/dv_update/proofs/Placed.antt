-- Edits placed in the order of their paths, and their conflicts.
use Rattle.std.proofs.Common.{◌≡◌, ◌∙◌, ap, ap₂, sym, refl, List, [], ◌∷◌, ◌++◌, ℕ, Bool, true, false, ◌||◌, map, Option, Some, None, cond, is_some, append_assoc, append-nil}
use Rattle.std.specs.Bool.{⊤}
use Rattle.std.specs.List.{list_any, AllByRecursion}
use Rattle.std.specs.List.Sorted.{IsStrictlySortedBy}
use Rattle.std.specs.BTreeMap.{insert_entry, is_at}
use Rattle.std.specs.Map.{keys_of, lookup}
use Rattle.std.specs.Ordering.{is_eq, is_gt, match_ordering}
use Rattle.std.specs.declared.cmp.Ordering.{Ordering}
use Rattle.std.specs.declared.cmp.Ordering.TheVariants.{Less, Equal, Greater}
use Rattle.std.proofs.lemmas.List.Folds.{list_any-append}
use Rattle.std.proofs.lemmas.Bool.{or_from, or_parts}
use Rattle.dv_update.specs.PathOrder.{path_order, begins}
use Rattle.dv_update.specs.Inner.Collected.{last_begins}
use Rattle.dv_update.specs.Parsing.{conflicts, has_conflict, placed, sorted}
use Rattle.dv_update.specs.Update.{Edit}
use Rattle.dv_update.specs.View.{entry, operation}
use Rattle.dv_update.specs.declared.form.Operation.{Operation}
use Rattle.dv_update.proofs.Paths.{path-exact, begins-itself, begins-first, begins-between}
use Rattle.dv_order.specs.Inner.KeyLaws.{equal-from}

-- ---- edits of which some are placed

-- the edits placed among others, the last one first
abbrev onto : List Edit → List Edit → List Edit
onto [] ds = ds
onto (e ∷ es) ds = placed e (onto es ds)

onto-nothing : (es : List Edit) → sorted es ≡ onto es []
onto-nothing [] = refl
onto-nothing (e ∷ es) = ap (placed e) (onto-nothing es)

onto-last : (es : List Edit) (e : Edit) (ds : List Edit) → onto (es ++ e ∷ []) ds ≡ onto es (placed e ds)
onto-last [] e ds = refl
onto-last (d ∷ es) e ds = ap (placed d) (onto-last es e ds)

-- ---- lists with the same edits in another order

pub record Alike (us vs : List Edit) : Type 0 where
  pub any : (p : Edit → Bool) → list_any p us ≡ list_any p vs
  pub conflict : has_conflict us ≡ has_conflict vs

or-swap : (a b c : Bool) → (a || (b || c)) ≡ (b || (a || c))
or-swap true true c = refl
or-swap true false c = refl
or-swap false b c = refl

or-four : (a b c h : Bool) → ((a || b) || (c || h)) ≡ ((a || c) || (b || h))
or-four true b c h = refl
or-four false true true h = refl
or-four false true false h = refl
or-four false false c h = refl

or-comm : (a b : Bool) → (a || b) ≡ (b || a)
or-comm true true = refl
or-comm true false = refl
or-comm false true = refl
or-comm false false = refl

conflicts-back : (d e : Edit) → conflicts d e ≡ conflicts e d
conflicts-back d e = or-comm (begins d.0 e.0) (begins e.0 d.0)

Alike-cons : (e : Edit) (us vs : List Edit) → Alike us vs → Alike (e ∷ us) (e ∷ vs)
Alike-cons e us vs a = record {
  any = λ p. ap (λ b. p e || b) (a.any p);
  conflict = ap₂ (λ b c. b || c) (a.any (conflicts e)) a.conflict;
}

pub Alike-swap : (d e : Edit) (us : List Edit) → Alike (e ∷ d ∷ us) (d ∷ e ∷ us)
Alike-swap d e us = record {
  any = λ p. or-swap (p e) (p d) (list_any p us);
  conflict = or-four (conflicts e d) (list_any (conflicts e) us) (list_any (conflicts d) us) (has_conflict us) ∙ ap (λ b. (b || list_any (conflicts d) us) || (list_any (conflicts e) us || has_conflict us)) (conflicts-back e d);
}

Alike-same : (us : List Edit) → Alike us us
Alike-same us = record { any = λ p. refl; conflict = refl }

Alike-then : (us vs ws : List Edit) → Alike us vs → Alike vs ws → Alike us ws
Alike-then us vs ws a b = record { any = λ p. a.any p ∙ b.any p; conflict = a.conflict ∙ b.conflict }

Alike-by : (b : Bool) (e d : Edit) (ds es : List Edit) → Alike (e ∷ ds) es → Alike (e ∷ d ∷ ds) (cond b (d ∷ es) (e ∷ d ∷ ds))
Alike-by true e d ds es a = Alike-then (e ∷ d ∷ ds) (d ∷ e ∷ ds) (d ∷ es) (Alike-swap d e ds) (Alike-cons d (e ∷ ds) es a)
Alike-by false e d ds es a = Alike-same (e ∷ d ∷ ds)

Alike-placed : (e : Edit) (ds : List Edit) → Alike (e ∷ ds) (placed e ds)
Alike-placed e [] = Alike-same (e ∷ [])
Alike-placed e (d ∷ ds) = Alike-by (is_gt (path_order e.0 d.0)) e d ds (placed e ds) (Alike-placed e ds)

pub Alike-behind : (es us vs : List Edit) → Alike us vs → Alike (es ++ us) (es ++ vs)
Alike-behind [] us vs a = a
Alike-behind (e ∷ es) us vs a = Alike-cons e (es ++ us) (es ++ vs) (Alike-behind es us vs a)

-- ---- a map of operations by path

placed-by : (o : Ordering) (x e d : Edit) (ds es : List Edit) → is_eq o ≡ false → match_ordering o (e ∷ d ∷ ds) (x ∷ ds) (d ∷ es) ≡ cond (is_gt o) (d ∷ es) (e ∷ d ∷ ds)
placed-by Less x e d ds es h = refl
placed-by Equal x e d ds es h = cc
placed-by Greater x e d ds es h = refl

map-match : {X Y : Type 0} (f : X → Y) (o : Ordering) (a b c : List X) → map f (match_ordering o a b c) ≡ match_ordering o (map f a) (map f b) (map f c)
map-match f Less a b c = refl
map-match f Equal a b c = refl
map-match f Greater a b c = refl

absent-first : {X : Type 0} (b : Bool) (x : X) (r : Option X) → None ≡ cond b (Some x) r → b ≡ false
absent-first true x r e = cc
absent-first false x r e = refl

absent-behind : {X : Type 0} (b : Bool) (x : X) (r : Option X) → None ≡ cond b (Some x) r → None ≡ r
absent-behind true x r e = cc
absent-behind false x r e = e

abbrev pub Entry : Type 0
Entry = List (List ℕ) × Operation

pub inserted : (es : List Entry) (path : List (List ℕ)) (o : Operation) → None ≡ lookup (is_at (path_order path)) es → map entry (insert_entry path_order es path o) ≡ placed (path, operation o) (map entry es)
inserted [] path o absent = refl
inserted (e ∷ es) path o absent =
    let rest = inserted es path o (absent-behind (is_eq (path_order path e.0)) e.1 (lookup (is_at (path_order path)) es) absent) in
    map-match entry (path_order path e.0) ((path, o) ∷ e ∷ es) ((e.0, o) ∷ es) (e ∷ insert_entry path_order es path o)
    ∙ ap (λ ws. match_ordering (path_order path e.0) ((path, operation o) ∷ entry e ∷ map entry es) ((e.0, operation o) ∷ map entry es) (entry e ∷ ws)) rest
    ∙ placed-by (path_order path e.0) (e.0, operation o) (path, operation o) (entry e) (map entry es) (placed (path, operation o) (map entry es)) (absent-first (is_eq (path_order path e.0)) e.1 (lookup (is_at (path_order path)) es) absent)

or-first : (a b : Bool) → a ≡ true → (a || b) ≡ true
or-first true b h = refl
or-first false b h = cc

or-second : (a b : Bool) → b ≡ true → (a || b) ≡ true
or-second true b h = refl
or-second false b h = h

pub found-conflict : (es : List Entry) (path : List (List ℕ)) (x : Edit) → x.0 ≡ path → true ≡ is_some (lookup (is_at (path_order path)) es) → list_any (conflicts x) (map entry es) ≡ true
found-conflict [] path x is e = cc
found-conflict (d ∷ es) path x is e = by (is_eq (path_order path d.0)) refl e (found-conflict es path x is)
  where
    by : (b : Bool) → is_eq (path_order path d.0) ≡ b → true ≡ is_some (cond b (Some d.1) (lookup (is_at (path_order path)) es)) → (true ≡ is_some (lookup (is_at (path_order path)) es) → list_any (conflicts x) (map entry es) ≡ true)
        → list_any (conflicts x) (map entry (d ∷ es)) ≡ true
    by true h f later =
        let same : x.0 ≡ d.0 = is ∙ path-exact path d.0 (equal-from (path_order path d.0) h) in
        or-first _ _ (or-first _ _ (ap (begins x.0) (sym same) ∙ begins-itself x.0))
    by false h f later = or-second _ _ (later f)

pub none-found : {X : Type 0} (r : Option X) → false ≡ is_some r → None ≡ r
none-found None e = refl
none-found (Some x) e = cc

-- ---- the loop that makes the map

-- what is left of the written edits, and those that are placed
pub record IsPlaced (written left done : List Edit) : Type 0 where
  pub sorted : sorted written ≡ onto left done
  pub alike : has_conflict written ≡ has_conflict (left ++ done)

pub none_placed : (written : List Edit) → IsPlaced written written []
none_placed written = record { sorted = onto-nothing written; alike = ap has_conflict (sym (append-nil written)) }

module _ {written left done : List Edit} (rest : List Edit) (so-far : IsPlaced written left done) (e : Edit) (is : left ≡ rest ++ e ∷ []) where
  before : has_conflict written ≡ has_conflict (rest ++ e ∷ done)
  before = so-far.alike ∙ ap (λ es. has_conflict (es ++ done)) is ∙ ap has_conflict (append_assoc rest (e ∷ []) done)

  pub one_placed : IsPlaced written rest (placed e done)
  one_placed = record {
    sorted = so-far.sorted ∙ ap (λ es. onto es done) is ∙ onto-last rest e done;
    alike = before ∙ (Alike-behind rest (e ∷ done) (placed e done) (Alike-placed e done)).conflict;
  }

  later : (es : List Edit) → list_any (conflicts e) done ≡ true → has_conflict (es ++ e ∷ done) ≡ true
  later [] h = or-first _ _ h
  later (d ∷ es) h = or-second _ _ (later es h)

  pub not_placed : list_any (conflicts e) done ≡ true → has_conflict written ≡ true
  not_placed h = before ∙ later rest h

-- ---- the loop that takes the edits out of the map again

abbrev pub Rises : List Edit → Type 0
Rises [] = ⊤
Rises (e ∷ es) = AllByRecursion (λ d. path_order e.0 d.0 ≡ Less) es × Rises es

below-entries : (path : List (List ℕ)) (es : List Entry) → AllByRecursion (λ k. path_order path k ≡ Less) (keys_of es) → AllByRecursion (λ d. path_order path d.0 ≡ Less) (map entry es)
below-entries path [] h = tt
below-entries path (e ∷ es) h = (h.0, below-entries path es h.1)

pub entries-rise : (es : List Entry) → IsStrictlySortedBy path_order (keys_of es) → Rises (map entry es)
unfolding IsStrictlySortedBy
entries-rise [] h = tt
entries-rise (e ∷ es) h = (below-entries e.0 es h.0, entries-rise es h.1)

pub is-false : (b : Bool) → (b ≡ true → ⊥) → b ≡ false
is-false true f = absurd (f refl)
is-false false f = refl

pub clash : (b : Bool) → b ≡ false → b ≡ true → ⊥
clash b h g = cc

-- an edit that comes before all edits of a list comes before each of them
below-later : (e x : Edit) (es rest : List Edit) → AllByRecursion (λ d. path_order e.0 d.0 ≡ Less) (es ++ x ∷ rest) → path_order e.0 x.0 ≡ Less
below-later e x [] rest h = h.0
below-later e x (d ∷ es) rest h = below-later e x es rest h.1

pub apart-below : (e x : Edit) → path_order e.0 x.0 ≡ Less → begins e.0 x.0 ≡ false → conflicts e x ≡ false
apart-below e x l h = or_from _ _ h (is-false (begins x.0 e.0) (λ b. begins-first x.0 e.0 b l))

any-none-append : (p : Edit → Bool) (es : List Edit) (x : Edit) → list_any p es ≡ false → p x ≡ false → list_any p (es ++ x ∷ []) ≡ false
any-none-append p es x h g = list_any-append p es (x ∷ []) ∙ or_from _ _ h (or_from _ _ g refl)

pub no-conflict-more : (done : List Edit) (x : Edit) (rest : List Edit) → Rises (done ++ x ∷ rest) → has_conflict done ≡ false → last_begins x.0 done ≡ false → has_conflict (done ++ x ∷ []) ≡ false
no-conflict-more [] x rest up none apart = refl
no-conflict-more (e ∷ []) x rest up none apart = or_from _ _ (or_from _ _ (apart-below e x up.0.0 apart) refl) refl
no-conflict-more (e ∷ d ∷ es) x rest up none apart =
    let behind = no-conflict-more (d ∷ es) x rest up.1 (or_parts _ _ none).1 apart in
    let here : list_any (conflicts e) (d ∷ es) ≡ false = (or_parts _ _ none).0 in
    let beside : conflicts e d ≡ false = (or_parts _ _ here).0 in
    let not-begins : begins e.0 d.0 ≡ false = (or_parts _ _ beside).0 in
    let x-below : path_order d.0 x.0 ≡ Less = below-later d x es rest up.1.0 in
    let not-x : begins e.0 x.0 ≡ false = is-false (begins e.0 x.0) (λ b. clash (begins e.0 d.0) not-begins (begins-between e.0 d.0 x.0 up.0.0 x-below b)) in
    let apart-x = apart-below e x (below-later e x (d ∷ es) rest up.0) not-x in
    or_from _ _ (any-none-append (conflicts e) (d ∷ es) x here apart-x) behind

pub conflict-here : (done : List Edit) (x : Edit) (rest : List Edit) → last_begins x.0 done ≡ true → has_conflict (done ++ x ∷ rest) ≡ true
conflict-here [] x rest h = cc
conflict-here (e ∷ []) x rest h = or-first _ _ (or-first _ _ (or-first _ _ h))
conflict-here (e ∷ d ∷ es) x rest h = or-second _ _ (conflict-here (d ∷ es) x rest h)

-- the edits that were taken out, and those that are left
pub record IsTaken (all done left : List Edit) : Type 0 where
  pub whole : all ≡ done ++ left
  pub apart : has_conflict done ≡ false

module _ {all done left : List Edit} (so-far : IsTaken all done left) (up : Rises all) (x : Edit) (rest : List Edit) (is : left ≡ x ∷ rest) where
  here : all ≡ done ++ x ∷ rest
  here = so-far.whole ∙ ap (λ es. done ++ es) is

  pub one_taken : last_begins x.0 done ≡ false → IsTaken all (done ++ x ∷ []) rest
  one_taken h = record {
    whole = here ∙ sym (append_assoc done (x ∷ []) rest);
    apart = no-conflict-more done x rest (rw here at up) so-far.apart h;
  }

  pub not_taken : last_begins x.0 done ≡ true → has_conflict all ≡ true
  not_taken h = ap has_conflict here ∙ conflict-here done x rest h

module _ {all done left : List Edit} (so-far : IsTaken all done left) (none : left ≡ []) where
  pub all_taken : all ≡ done
  all_taken = so-far.whole ∙ ap (λ es. done ++ es) none ∙ append-nil done

  pub no_conflict : has_conflict all ≡ false
  no_conflict = ap has_conflict all_taken ∙ so-far.apart
