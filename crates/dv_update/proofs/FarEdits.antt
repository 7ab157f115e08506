-- Edits whose paths have many components, of documents that are the same down to a level.
use Rattle.std.proofs.Common.{◌≡◌, ◌∙◌, ap, ap₂, sym, refl, List, [], ◌∷◌, ◌++◌, ℕ, ◌+◌, ◌-◌, Bool, true, false, length, drop, Option, Some, None, Result, Ok, Err, arith}
use Rattle.std.specs.Str.{bytes_eq}
use Rattle.std.proofs.Math.ListN.{replicate}
use Rattle.std.proofs.lemmas.Slice.Eq.{bytes_eq-Decides}
use Rattle.std.proofs.lemmas.Bool.{and_parts}
use Rattle.dv_value.specs.Spelling.{payload}
use Rattle.dv_value.specs.Tree.{Tree, document, array, binary, Field, fields_of, elements_of}
use Rattle.dv_path.specs.Placing.{put_behind, put}
use Rattle.dv_candidates.specs.declared.fault.PathFault.{PathFault}
use Rattle.dv_candidates.specs.declared.fault.PathFault.TheVariants.{NotViable}
use Rattle.dv_path.specs.Slots.{Slot, taken, free, blocked, slot_of, next_slot, slot_behind, slot}
use Rattle.dv_update.specs.Apply.{told, set_at, number_tree, increased, appended, pull_from, edit_at}
use Rattle.dv_value.specs.Results.{◌>>=◌}
use Rattle.dv_update.specs.PathOrder.{begins}
use Rattle.dv_update.specs.Removals.{is_removal}
use Rattle.dv_update.specs.Inner.StandIn.{in_one_piece, down_to, Alike, most_levels, names_length, IsLastWay, parting, IsLast, new_value}
use Rattle.dv_update.specs.Update.{Operation, assign, take_away, increase, append, pull}
use Rattle.dv_update.specs.declared.fault.UpdateFault.{UpdateFault}
use Rattle.dv_update.specs.declared.fault.UpdateFault.TheVariants as faults
use Rattle.dv_update.proofs.AlikeDown.{slot_down_to}
use Rattle.dv_update.proofs.AlikeEdits.{marked, alike_made, alike_refused, slots-alike, sets-alike}
use Rattle.dv_update.proofs.DownTo.{Path, below-sum}
use Rattle.dv_update.proofs.LastWay.{IsMade, first_made, IsAdded, added, free-stays, put-far}

-- ---- paths with a beginning

pub begins-split : (s q : Path) → begins s q ≡ true → s ++ drop (length s) q ≡ q
begins-split [] q e = refl
begins-split (a ∷ s) [] e = absurd cc
begins-split (a ∷ s) (b ∷ q) e =
    let same : a ≡ b = (bytes_eq-Decides a b).0 (and_parts (bytes_eq a b) (begins s q) e).0 in
    ap₂ (λ (c : List ℕ) (r : Path). c ∷ r) same (begins-split s q (and_parts (bytes_eq a b) (begins s q) e).1)

behind-joined : (s r : Path) (x : Slot) → slot_behind (s ++ r) x ≡ slot_behind r (slot_behind s x)
behind-joined [] r x = refl
behind-joined (name ∷ s) r x = behind-joined s r (next_slot name x)

pub slot-joined : (d : List Field) (s r : Path) → slot d (s ++ r) ≡ slot_behind r (slot d s)
unfolding slot
slot-joined d s r = behind-joined s r (taken (document (fields_of d)))

-- ---- what an operator does where there is no value, or there can be none

pub new_at_free : (path : Path) (o : Operation) (d : List Field) (v : Tree) → slot d path ≡ free → new_value o ≡ Some v → edit_at path o d ≡ set_at path v d
new_at_free path (assign w) d v here is = let same : w ≡ v = cc in ap (λ u. set_at path u d) same
new_at_free path take_away d v here is = absurd cc
new_at_free path (increase n) d v here is = let same : number_tree n ≡ v = cc in ap (λ s. increased n s >>= λ w. set_at path w d) here ∙ ap (λ u. set_at path u d) same
new_at_free path (append vs) d v here is = let same : array (elements_of vs) ≡ v = cc in ap (λ s. appended vs s >>= λ w. set_at path w d) here ∙ ap (λ u. set_at path u d) same
new_at_free path (pull p) d v here is = absurd cc

pub none_at_free : (path : Path) (o : Operation) (d : List Field) → slot d path ≡ free → is_removal o ≡ false → new_value o ≡ None → edit_at path o d ≡ Ok d
none_at_free path (assign w) d here other is = absurd cc
none_at_free path take_away d here other is = absurd cc
none_at_free path (increase n) d here other is = absurd cc
none_at_free path (append vs) d here other is = absurd cc
none_at_free path (pull p) d here other is = ap (pull_from path p d) here

-- what dv_path's law says of a blocked path
abbrev pub Blocks : Type 0
Blocks = (fields : List Field) (path : Path) (v : Tree) → slot fields path ≡ blocked → put fields path v ≡ Err NotViable

-- what dv_path's law says of a value that was put
abbrev pub IsThere : Type 0
IsThere = (fields : List Field) (name : List ℕ) (path : Path) (v : Tree) (after : List Field) → put fields (name ∷ path) v ≡ Ok after → slot after (name ∷ path) ≡ taken v

module _ (blocks : Blocks) where
  pub new_at_blocked : (path : Path) (o : Operation) (d : List Field) (v : Tree) → slot d path ≡ blocked → new_value o ≡ Some v → edit_at path o d ≡ Err faults.NotViable
  new_at_blocked path (assign w) d v here is = ap told (blocks d path w here)
  new_at_blocked path take_away d v here is = absurd cc
  new_at_blocked path (increase n) d v here is = ap (λ s. increased n s >>= λ w. set_at path w d) here
  new_at_blocked path (append vs) d v here is = ap (λ s. appended vs s >>= λ w. set_at path w d) here
  new_at_blocked path (pull p) d v here is = absurd cc

pub none_at_blocked : (path : Path) (o : Operation) (d : List Field) → slot d path ≡ blocked → is_removal o ≡ false → new_value o ≡ None → edit_at path o d ≡ Ok d
none_at_blocked path (assign w) d here other is = absurd cc
none_at_blocked path take_away d here other is = absurd cc
none_at_blocked path (increase n) d here other is = absurd cc
none_at_blocked path (append vs) d here other is = absurd cc
none_at_blocked path (pull p) d here other is = ap (pull_from path p d) here

-- ---- the slot at the end of a path of 300 components

was-free : (s : Slot) → slot_down_to 0 s ≡ free → s ≡ free
was-free free e = refl
was-free blocked e = absurd cc
was-free (taken v) e = absurd cc

was-blocked : (s : Slot) → slot_down_to 0 s ≡ blocked → s ≡ blocked
was-blocked free e = absurd cc
was-blocked blocked e = refl
was-blocked (taken v) e = absurd cc

module _ (s : Path) (far : length s ≡ 300) (d e : List Field) (alike : Alike d e) where
  ends-alike : slot_down_to 0 (slot d s) ≡ slot_down_to 0 (slot e s)
  unfolding Alike
  ends-alike = at s far
    where
      at : (s : Path) → length s ≡ 300 → slot_down_to 0 (slot d s) ≡ slot_down_to 0 (slot e s)
      at [] far = absurd (omega arith)
      at (name ∷ names) far = slots-alike 0 name names (omega (arith, below-sum names 0)) d e alike

  pub free-there : slot e s ≡ free → slot d s ≡ free
  free-there here = was-free (slot d s) (ends-alike ∙ ap (slot_down_to 0) here)

  pub blocked-there : slot e s ≡ blocked → slot d s ≡ blocked
  blocked-there here = was-blocked (slot d s) (ends-alike ∙ ap (slot_down_to 0) here)

  pub pieces-alike : (t u : Tree) → down_to 0 t ≡ down_to 0 u → marked most_levels (set_at s t d) ≡ marked most_levels (set_at s u e)
  unfolding Alike
  pieces-alike t u same = at s far
    where
      at : (s : Path) → length s ≡ 300 → marked most_levels (set_at s t d) ≡ marked most_levels (set_at s u e)
      at [] far = absurd (omega arith)
      at (name ∷ names) far = sets-alike 0 name names (omega (arith, below-sum names 0)) d e alike t u same

-- a piece of this many bytes
abbrev pub piece : ℕ → Tree
piece size = binary 0 (replicate (size - 5) 0)

in-piece : (name : List ℕ) (names : Path) (t : Tree) (size : ℕ) → IsLastWay (name ∷ names) t → length (payload t) ≡ size → down_to 0 t ≡ down_to 0 (piece size)
unfolding down_to
in-piece name names t size way is =
    ap in_one_piece way.2
    ∙ ap (λ u. piece (length (payload u))) (sym way.2)
    ∙ ap piece is

as-piece : (w : Tree) (size : ℕ) → in_one_piece w ≡ piece size → down_to 0 w ≡ down_to 0 (piece size)
unfolding down_to
as-piece w size filled = filled

-- ---- the two steps

-- an edit's result for a document, if `e` is its result for what stands in for the document; and the value at the end of the
-- beginning
pub record IsFar (made : Result (List Field) UpdateFault) (s r : Path) (size : ℕ) (e : List Field) : Type 0 where
  pub after : List Field
  pub is : made ≡ Ok after
  pub alike : Alike after e
  pub last : IsLast after s r size

module _ (there : IsThere) (s q : Path) (far : length s ≡ 300) (start : begins s q ≡ true) (o : Operation) (v : Tree) (new : new_value o ≡ Some v) (d e : List Field) (alike : Alike d e) (size : ℕ) (w : Tree) (filled : in_one_piece w ≡ piece size) where
  module _ (u : Option Tree) (t : Tree) (here : slot d s ≡ slot_of u) (open-end : slot_behind (drop (length s) q) (slot_of u) ≡ free) (made : put_behind (drop (length s) q) v u ≡ Ok t) (way : IsLastWay (drop (length s) q) t) (some : (drop (length s) q ≡ [] → ⊥)) (long : length (payload t) ≡ size) where
    edit-is : edit_at q o d ≡ set_at s t d
    edit-is =
        let r = drop (length s) q in
        let whole : s ++ r ≡ q = begins-split s q start in
        let none : slot d q ≡ free = ap (slot d) (sym whole) ∙ slot-joined d s r ∙ ap (slot_behind r) here ∙ open-end in
        new_at_free q o d v none new ∙ ap (λ p. set_at p v d) (sym whole) ∙ ap told (at s r far here made)
      where
        at : (s r : Path) → length s ≡ 300 → slot d s ≡ slot_of u → put_behind r v u ≡ Ok t → put d (s ++ r) v ≡ put d s t
        at [] r far here made = absurd (omega arith)
        at (name ∷ names) r far here made = put-far r v t u made d name names here

    same-piece : down_to 0 t ≡ down_to 0 (piece size)
    same-piece = at (drop (length s) q) some way
      where
        at : (r : Path) → (r ≡ [] → ⊥) → IsLastWay r t → down_to 0 t ≡ down_to 0 (piece size)
        at [] some way = absurd (some refl)
        at (name ∷ names) some way = in-piece name names t size way long

    edits-alike : marked most_levels (edit_at q o d) ≡ marked most_levels (set_at s w e)
    edits-alike = ap (marked most_levels) edit-is ∙ pieces-alike s far d e alike t w (same-piece ∙ sym (as-piece w size filled))

    pub far_refused : (f : UpdateFault) → set_at s w e ≡ Err f → edit_at q o d ≡ Err f
    far_refused f is = alike_refused (edit_at q o d) (set_at s w e) f edits-alike is

    stands : (after : List Field) → edit_at q o d ≡ Ok after → slot after s ≡ taken t
    stands after is = at s far (sym edit-is ∙ is)
      where
        was-put : (r : Result (List Field) PathFault) (after : List Field) → told r ≡ Ok after → r ≡ Ok after
        was-put (Ok x) after e = let same : x ≡ after = cc in ap Ok same
        was-put (Err f) after e = absurd cc

        at : (s : Path) → length s ≡ 300 → set_at s t d ≡ Ok after → slot after s ≡ taken t
        at [] far e = absurd (omega arith)
        at (name ∷ names) far e = there d name names t after (was-put (put d (name ∷ names) t) after e)

    pub far_made : (f : List Field) → set_at s w e ≡ Ok f → IsFar (edit_at q o d) s (drop (length s) q) size f
    far_made f is =
        let done = alike_made (edit_at q o d) (set_at s w e) f edits-alike is in
        record {
          after = done.0;
          is = done.1;
          alike = done.2;
          last = record { far = far; there = (t, stands done.0 done.1, way, long) };
        }

  -- the first path with this beginning
  module _ (none : slot e s ≡ free) (some : drop (length s) q ≡ [] → ⊥) (long : size ≡ names_length (drop (length s) q) + length (payload v)) where
    first : IsMade (drop (length s) q) v
    first = first_made (drop (length s) q) v

    pub first_refused : (f : UpdateFault) → set_at s w e ≡ Err f → edit_at q o d ≡ Err f
    first_refused f is = far_refused None first.made (free-there s far d e alike none) (free-stays (drop (length s) q)) first.put first.way some (omega (arith, first.size, long)) f is

    pub first_stands : (f : List Field) → set_at s w e ≡ Ok f → IsFar (edit_at q o d) s (drop (length s) q) size f
    first_stands f is = far_made None first.made (free-there s far d e alike none) (free-stays (drop (length s) q)) first.put first.way some (omega (arith, first.size, long)) f is

  -- a path after another one with this beginning
  module _ (before rest : Path) (before-size : ℕ) (last : IsLast d s before before-size) (parts : parting before (drop (length s) q) ≡ Some rest) (long : size + 5 ≡ before-size + names_length rest + length (payload v)) where
    next : IsAdded (drop (length s) q) v last.there.0 rest
    next = added v before (drop (length s) q) last.there.0 rest last.there.2 parts

    some-left : drop (length s) q ≡ [] → ⊥
    some-left ends = at before (sym (ap (parting before) ends) ∙ parts)
      where
        at : (p : Path) → parting p [] ≡ Some rest → ⊥
        at [] e = absurd cc
        at (a ∷ p) e = absurd cc

    pub next_refused : (f : UpdateFault) → set_at s w e ≡ Err f → edit_at q o d ≡ Err f
    next_refused f is = far_refused (Some last.there.0) next.made last.there.1 next.free next.put next.way some-left (omega (arith, next.size, long, last.there.3)) f is

    pub next_stands : (f : List Field) → set_at s w e ≡ Ok f → IsFar (edit_at q o d) s (drop (length s) q) size f
    next_stands f is = far_made (Some last.there.0) next.made last.there.1 next.free next.put next.way some-left (omega (arith, next.size, long, last.there.3)) f is
