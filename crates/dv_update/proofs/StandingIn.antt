-- The results of edits for what stands in for a document.
use Rattle.std.proofs.Common.{◌≡◌, ◌≢◌, ◌∙◌, ap, sym, refl, List, [], ℕ, ◌+◌, ◌-◌, ◌<◌, ◌≤◌, true, false, length, length-drop, drop, Option, Some, None, Result, Ok, Err, ◌⊎◌, inl, inr, arith, is_some}
use Rattle.dv_value.specs.Spelling.{payload, levels}
use Rattle.dv_value.specs.Tree.{Tree, document, null, Field, fields_of}
use Rattle.dv_candidates.specs.declared.fault.PathFault.TheVariants as paths
use Rattle.dv_path.specs.Slots.{slot, slot_behind, free, blocked}
use Rattle.dv_update.specs.Apply.{Path, set_at, edit_at, checked}
use Rattle.dv_value.specs.Results.{◌>>=◌}
use Rattle.dv_update.specs.PathOrder.{begins}
use Rattle.dv_update.specs.Removals.{is_removal}
use Rattle.dv_update.specs.Inner.StandIn.{in_one_piece, Alike, PullsShallow, IsLast, names_length, new_value, parting}
use Rattle.dv_update.specs.Inner.Standing.{Stands, StandsFor, Becomes}
use Rattle.dv_update.specs.Update.{Operation}
use Rattle.dv_update.specs.declared.fault.UpdateFault.{UpdateFault}
use Rattle.dv_update.specs.declared.fault.UpdateFault.TheVariants.{NoMemory, NotViable}
use Rattle.dv_update.specs.declared.stand_in.StandIn.{StandIn}
use Rattle.dv_update.specs.declared.stand_in.Last.{Last}
use Rattle.dv_update.proofs.AlikeChecked.{alike_checked}
use Rattle.dv_update.proofs.AlikeEdits.{alike_made, alike_refused, short_edit}
use Rattle.dv_update.proofs.LastWay.{added, free-stays, blocked-stays}
use Rattle.dv_update.proofs.FarEdits.{Blocks, IsThere, IsFar, piece, begins-split, slot-joined, blocked-there, free-there, new_at_blocked, none_at_blocked, none_at_free, first_refused, first_stands, next_refused, next_stands}

pub becomes_refused : (r : Result (Option StandIn) UpdateFault) (f : UpdateFault) (made : Result (List Field) UpdateFault) → r ≡ Err f → (f ≡ NoMemory) ⊎ (made ≡ Err f) → Becomes r made
becomes_refused (Ok x) f made is h = absurd cc
becomes_refused (Err g) f made is h = let same : g ≡ f = cc in elim h [ inl none ↦ inl (same ∙ none) | inr e ↦ inr (e ∙ ap Err (sym same)) ]

pub alike_itself : (d : List Field) → Alike d d
unfolding Alike
alike_itself d = refl

-- ---- paths of few components

module _ (path : Path) (o : Operation) (some : path ≢ []) (near : length path ≤ 300) (other : is_removal o ≡ false) (d e : List Field) (shallow : PullsShallow (300 - length path) o (slot e path)) (alike : Alike d e) where
  pub near_made : (f : List Field) → edit_at path o e ≡ Ok f → (after : List Field) × (edit_at path o d ≡ Ok after) × Stands after f None
  near_made f is =
      let done = alike_made (edit_at path o d) (edit_at path o e) f (short_edit path o d e some near other shallow alike) is in
      (done.0, done.1, record { alike = done.2; known = tt })

  pub near_refused : (f : UpdateFault) → (f ≡ NoMemory) ⊎ (edit_at path o e ≡ Err f) → (f ≡ NoMemory) ⊎ (edit_at path o d ≡ Err f)
  near_refused f (inl none) = inl none
  near_refused f (inr is) = inr (alike_refused (edit_at path o d) (edit_at path o e) f (short_edit path o d e some near other shallow alike) is)

module _ (made : Result (List Field) UpdateFault) (set : Result (List Field) UpdateFault) (refused : (f : UpdateFault) → set ≡ Err f → made ≡ Err f) where
  pub far_refused_so : (f : UpdateFault) → (f ≡ NoMemory) ⊎ (set ≡ Err f) → (f ≡ NoMemory) ⊎ (made ≡ Err f)
  far_refused_so f (inl none) = inl none
  far_refused_so f (inr is) = inr (refused f is)

far_stands : (made : Result (List Field) UpdateFault) (f : List Field) (last : Last) → IsFar made last.beginning last.rest.now last.size f → (after : List Field) × (made ≡ Ok after) × Stands after f (Some last)
far_stands made f last far = (far.after, far.is, record { alike = far.alike; known = far.last })

module _ (there : IsThere) (s q : Path) (o : Operation) (v : Tree) (begin : (length s ≡ 300) × (begins s q ≡ true)) (long : 300 < length q) (new : new_value o ≡ Some v) (size : ℕ) (w : Tree) (filled : in_one_piece w ≡ piece size) (d e : List Field) (alike : Alike d e) where
  module _ (none : slot e s ≡ free) (sum : size ≡ 0 + names_length (drop 300 q) + length (payload v)) where
    rest-is : drop (length s) q ≡ drop 300 q
    rest-is = ap (λ n. drop n q) begin.0

    some : drop (length s) q ≢ []
    some ends =
        let left : length (drop (length s) q) ≡ 0 = ap length ends in
        absurd (omega (arith, left, length-drop {A = List ℕ}, begin.0, long))

    sum-there : size ≡ names_length (drop (length s) q) + length (payload v)
    sum-there = omega (arith, sum, ap names_length rest-is)

    pub first_put_refused : (f : UpdateFault) → (f ≡ NoMemory) ⊎ (set_at s w e ≡ Err f) → (f ≡ NoMemory) ⊎ (edit_at q o d ≡ Err f)
    first_put_refused = far_refused_so (edit_at q o d) (set_at s w e) (first_refused there s q begin.0 begin.1 o v new d e alike size w filled none some sum-there)

    pub first_put : (f : List Field) (last : Last) → last.beginning ≡ s → last.rest.now ≡ drop 300 q → last.size ≡ size → set_at s w e ≡ Ok f → (after : List Field) × (edit_at q o d ≡ Ok after) × Stands after f (Some last)
    first_put f last same-s same-r same-size is =
        let far : IsFar (edit_at q o d) s (drop (length s) q) size f = first_stands there s q begin.0 begin.1 o v new d e alike size w filled none some sum-there f is in
        far_stands (edit_at q o d) f last (rw (same-s, same-r, same-size, ← rest-is) far)

  module _ (before rest : Path) (before-size : ℕ) (last-is : IsLast d s before before-size) (parts : parting before (drop 300 q) ≡ Some rest) (sum : size + 5 ≡ before-size + names_length rest + length (payload v)) where
    rest-so : drop (length s) q ≡ drop 300 q
    rest-so = ap (λ n. drop n q) begin.0

    parts-so : parting before (drop (length s) q) ≡ Some rest
    parts-so = ap (parting before) rest-so ∙ parts

    pub next_put_refused : (f : UpdateFault) → (f ≡ NoMemory) ⊎ (set_at s w e ≡ Err f) → (f ≡ NoMemory) ⊎ (edit_at q o d ≡ Err f)
    next_put_refused = far_refused_so (edit_at q o d) (set_at s w e) (next_refused there s q begin.0 begin.1 o v new d e alike size w filled before rest before-size last-is parts-so sum)

    pub next_put : (f : List Field) (last : Last) → last.beginning ≡ s → last.rest.now ≡ drop 300 q → last.size ≡ size → set_at s w e ≡ Ok f → (after : List Field) × (edit_at q o d ≡ Ok after) × Stands after f (Some last)
    next_put f last same-s same-r same-size is =
        let far : IsFar (edit_at q o d) s (drop (length s) q) size f = next_stands there s q begin.0 begin.1 o v new d e alike size w filled before rest before-size last-is parts-so sum f is in
        far_stands (edit_at q o d) f last (rw (same-s, same-r, same-size, ← rest-so) far)

-- ---- where nothing is put

module _ (s q : Path) (o : Operation) (begin : (length s ≡ 300) × (begins s q ≡ true)) (d e : List Field) (alike : Alike d e) where
  slot-whole : slot d q ≡ slot_behind (drop (length s) q) (slot d s)
  slot-whole = ap (slot d) (sym (begins-split s q begin.1)) ∙ slot-joined d s (drop (length s) q)

  blocked-far : slot e s ≡ blocked → slot d q ≡ blocked
  blocked-far here = slot-whole ∙ ap (slot_behind (drop (length s) q)) (blocked-there s begin.0 d e alike here) ∙ blocked-stays (drop (length s) q)

  free-far : slot e s ≡ free → slot d q ≡ free
  free-far here = slot-whole ∙ ap (slot_behind (drop (length s) q)) (free-there s begin.0 d e alike here) ∙ free-stays (drop (length s) q)

  pub blocked_refused : Blocks → slot e s ≡ blocked → is_some (new_value o) ≡ true → edit_at q o d ≡ Err NotViable
  blocked_refused blocks here new = by (new_value o) refl new
    where
      by : (c : Option Tree) → new_value o ≡ c → is_some c ≡ true → edit_at q o d ≡ Err NotViable
      by None is new = absurd cc
      by (Some v) is new = new_at_blocked blocks q o d v (blocked-far here) is

  pub blocked_stays : slot e s ≡ blocked → is_removal o ≡ false → is_some (new_value o) ≡ false → edit_at q o d ≡ Ok d
  blocked_stays here other none = by (new_value o) refl none
    where
      by : (c : Option Tree) → new_value o ≡ c → is_some c ≡ false → edit_at q o d ≡ Ok d
      by None is none = none_at_blocked q o d (blocked-far here) other is
      by (Some v) is none = absurd cc

  pub free_stays : slot e s ≡ free → is_removal o ≡ false → new_value o ≡ None → edit_at q o d ≡ Ok d
  free_stays here other none = none_at_free q o d (free-far here) other none

  module _ (before rest : Path) (size : ℕ) (last-is : IsLast d s before size) (parts : parting before (drop 300 q) ≡ Some rest) where
    pub next_stays : is_removal o ≡ false → new_value o ≡ None → edit_at q o d ≡ Ok d
    next_stays other none =
        let r-is : drop 300 q ≡ drop (length s) q = ap (λ n. drop n q) (sym begin.0) in
        let next = added null before (drop (length s) q) last-is.there.0 rest last-is.there.2 (ap (parting before) (sym r-is) ∙ parts) in
        none_at_free q o d (slot-whole ∙ ap (slot_behind (drop (length s) q)) last-is.there.1 ∙ next.free) other none

-- ---- what is refused afterwards

pub likewise_stands : (old : List Field) (made : Result (List Field) UpdateFault) (found : Option (List Field)) (standing : List Field) → found ≡ Some standing → StandsFor (Ok found) made → levels (document (fields_of old)) ≤ 100 → (made >>= checked old) ≡ checked old standing
likewise_stands old made None standing is stands within = absurd cc
likewise_stands old made (Some e) standing is stands within =
    let same : e ≡ standing = cc in
    ap (λ r. r >>= checked old) stands.1 ∙ alike_checked old stands.0 e within stands.2 ∙ ap (checked old) same
