-- Changes that a collection makes, one after the other.
use Rattle.std.proofs.Common.{◌≡◌, Bool, true, false, List, [], ◌∷◌, ◌++◌, Some, cond, refl, ap, sym, subst, ◌∙◌}
use Rattle.std.specs.BTreeMap.{insert_entry, is_at}
use Rattle.std.specs.List.{AllByRecursion}
use Rattle.std.specs.Map.{remove_entry, values_of}
use Rattle.std.specs.Ordering.{is_eq, match_ordering}
use Rattle.std.specs.declared.cmp.Ordering.{Ordering}
use Rattle.std.specs.declared.cmp.Ordering.TheVariants.{Less, Equal, Greater}
use Rattle.dv_order.specs.Key.{key_order}
use Rattle.dv_order.specs.Inner.KeyLaws.{EqualKeysAreOne}
use Rattle.dv_order.specs.Inner.TotalOrder.{then_Equal}
use Rattle.dv_coll.specs.Collection.{HasId, id_key}
use Rattle.dv_change.specs.declared.change.Change.{Change}
use Rattle.dv_change.specs.declared.change.Change.TheVariants.{Put, Gone}
use Rattle.dv_change.specs.declared.position.Part.TheVariants.{Up}
use Rattle.dv_change.specs.Changes.{Positioned, with_change, with_changes}
use Rattle.dv_change.specs.Positions.{PosTree, pos_order}
use Rattle.dv_pipe.specs.Sources.{Row}
use Rattle.dv_views.specs.Changed.{documents_changed}
use Rattle.dv_views.specs.Inner.Changed.{AreMade, AreMadeInTurn, IsMade}
use Rattle.dv_views.specs.Placed.{own_position, positioned}
use Rattle.dv_views.proofs.Made.{forgotten}

same-position : EqualKeysAreOne → (d e : Row) → HasId d → HasId e → key_order (id_key d) (id_key e) ≡ Equal → own_position d ≡ own_position e
same-position one [] e h k equal = absurd h
same-position one (f ∷ fs) [] h k equal = absurd k
same-position one (f ∷ fs) (g ∷ gs) h k equal = ap (λ l. Up l ∷ []) (one (Some f.1) (Some g.1) equal)

-- ---- the rows keep their own positions

-- each row is at its own position
abbrev pub AreOwn : Positioned → Type 0
AreOwn rows = rows ≡ positioned (values_of rows)

own : (ds : List Row) → AreOwn (positioned ds)
own ds = ap positioned (sym (forgotten ds))

module _ (one : EqualKeysAreOne) (d : Row) (h : HasId d) where
  put-own-met : (e : Row) (ds : List Row) (rest : Positioned) (o : Ordering) → (o ≡ Equal → own_position e ≡ own_position d) → AreOwn rest
      → AreOwn (match_ordering o ((own_position d, d) ∷ (own_position e, e) ∷ positioned ds) ((own_position e, d) ∷ positioned ds) ((own_position e, e) ∷ rest))
  put-own-met e ds rest Less same kept = ap (λ es. (own_position d, d) ∷ (own_position e, e) ∷ es) (own ds)
  put-own-met e ds rest Equal same kept = (λ i. (same refl i, d) ∷ own ds i)
  put-own-met e ds rest Greater same kept = ap (λ es. (own_position e, e) ∷ es) kept

  put-own : (ds : List Row) → AllByRecursion HasId ds → AreOwn (insert_entry pos_order (positioned ds) (own_position d) d)
  put-own [] all = refl
  put-own (e ∷ ds) all =
      put-own-met e ds (insert_entry pos_order (positioned ds) (own_position d) d) (pos_order (own_position d) (own_position e))
      (λ here. sym (same-position one d e h all.0 (sym (then_Equal _) ∙ here))) (put-own ds all.1)

  put-identified-met : (e : Row) (ds : List Row) (rest : Positioned) (o : Ordering) → HasId e → AllByRecursion HasId ds → AllByRecursion HasId (values_of rest)
      → AllByRecursion HasId (values_of (match_ordering o ((own_position d, d) ∷ (own_position e, e) ∷ positioned ds) ((own_position e, d) ∷ positioned ds) ((own_position e, e) ∷ rest)))
  put-identified-met e ds rest Less k all kept = (h, (k, subst (AllByRecursion HasId) (sym (forgotten ds)) all))
  put-identified-met e ds rest Equal k all kept = (h, subst (AllByRecursion HasId) (sym (forgotten ds)) all)
  put-identified-met e ds rest Greater k all kept = (k, kept)

  put-identified : (ds : List Row) → AllByRecursion HasId ds → AllByRecursion HasId (values_of (insert_entry pos_order (positioned ds) (own_position d) d))
  put-identified [] all = (h, tt)
  put-identified (e ∷ ds) all = put-identified-met e ds _ (pos_order (own_position d) (own_position e)) all.0 all.1 (put-identified ds all.1)

module _ (p : PosTree) where
  abbrev gone : List Row → Positioned
  gone ds = remove_entry (is_at (pos_order p)) (positioned ds)

  gone-own-met : (e : Row) (ds : List Row) (rest : Positioned) (b : Bool) → AreOwn rest → AreOwn (cond b (positioned ds) ((own_position e, e) ∷ rest))
  gone-own-met e ds rest true kept = own ds
  gone-own-met e ds rest false kept = ap (λ es. (own_position e, e) ∷ es) kept

  gone-own : (ds : List Row) → AreOwn (gone ds)
  gone-own [] = refl
  gone-own (e ∷ ds) = gone-own-met e ds (gone ds) (is_eq (pos_order p (own_position e))) (gone-own ds)

  gone-identified-met : (e : Row) (ds : List Row) (rest : Positioned) (b : Bool) → HasId e → AllByRecursion HasId ds → AllByRecursion HasId (values_of rest)
      → AllByRecursion HasId (values_of (cond b (positioned ds) ((own_position e, e) ∷ rest)))
  gone-identified-met e ds rest true k all kept = subst (AllByRecursion HasId) (sym (forgotten ds)) all
  gone-identified-met e ds rest false k all kept = (k, kept)

  gone-identified : (ds : List Row) → AllByRecursion HasId ds → AllByRecursion HasId (values_of (gone ds))
  gone-identified [] all = tt
  gone-identified (e ∷ ds) all = gone-identified-met e ds (gone ds) (is_eq (pos_order p (own_position e))) all.0 all.1 (gone-identified ds all.1)

-- ---- one change and then others

pub one-own : EqualKeysAreOne → (c : Change) (ds : List Row) → AllByRecursion HasId ds → IsMade c ds → AreOwn (with_change (positioned ds) c)
one-own one (Put p d) ds all made = subst (λ q. AreOwn (insert_entry pos_order (positioned ds) q d)) (sym made.1) (put-own one d made.0 ds all)
one-own one (Gone p) ds all made = gone-own p ds

pub one-identified : EqualKeysAreOne → (c : Change) (ds : List Row) → AllByRecursion HasId ds → IsMade c ds → AllByRecursion HasId (documents_changed (c ∷ []) ds)
one-identified one (Put p d) ds all made = subst (λ q. AllByRecursion HasId (values_of (insert_entry pos_order (positioned ds) q d))) (sym made.1) (put-identified one d made.0 ds all)
one-identified one (Gone p) ds all made = gone-identified p ds all

pub first-change : EqualKeysAreOne → (c : Change) (cs : List Change) (ds : List Row) → AllByRecursion HasId ds → IsMade c ds → documents_changed (c ∷ cs) ds ≡ documents_changed cs (documents_changed (c ∷ []) ds)
first-change one c cs ds all made = ap (λ rows. values_of (with_changes rows cs)) (one-own one c ds all made)

pub changed_parts : EqualKeysAreOne → (first second : List Change) (ds : List Row) → AllByRecursion HasId ds → AreMadeInTurn first ds → documents_changed (first ++ second) ds ≡ documents_changed second (documents_changed first ds)
changed_parts one [] second ds all made = ap (documents_changed second) (sym (forgotten ds))
changed_parts one (c ∷ cs) second ds all made =
    first-change one c (cs ++ second) ds all made.0
    ∙ changed_parts one cs second (documents_changed (c ∷ []) ds) (one-identified one c ds all made.0) made.1
    ∙ ap (documents_changed second) (sym (first-change one c cs ds all made.0))

made-parts : EqualKeysAreOne → (first second : List Change) (ds : List Row) → AllByRecursion HasId ds → AreMadeInTurn first ds → AreMadeInTurn second (documents_changed first ds) → AreMadeInTurn (first ++ second) ds
made-parts one [] second ds all made later = subst (AreMadeInTurn second) (forgotten ds) later
made-parts one (c ∷ cs) second ds all made later =
    (made.0, made-parts one cs second (documents_changed (c ∷ []) ds) (one-identified one c ds all made.0) made.1 (subst (AreMadeInTurn second) (first-change one c cs ds all made.0) later))

pub made_parts : EqualKeysAreOne → (first second : List Change) (ds : List Row) → AreMade first ds → AreMadeInTurn second (documents_changed first ds) → AreMade (first ++ second) ds
made_parts one first second ds made later = record { ascending = made.ascending; identified = made.identified; in_turn = made-parts one first second ds made.identified made.in_turn later }
