-- The result without filling arrays is refused as the result of all edits is, and keeps the same `_id`.
use Rattle.std.proofs.Common.{◌≡◌, ◌∙◌, ap, sym, refl, Bool, true, false, List, [], ◌∷◌, ◌++◌, Some, None, is_some, Result, Ok, Err, ◌⊎◌, inl, inr, if◌then◌else◌, codes, subst}
use Rattle.std.specs.List.{AllByRecursion}
use Rattle.std.specs.Result.{result_err}
use Rattle.std.specs.Str.{bytes_eq}
use Rattle.std.proofs.lemmas.Slice.Eq.{bytes_eq-Decides}
use Rattle.dv_value.specs.Names.{value_under}
use Rattle.dv_value.specs.Tree.{Tree, document, array, null, Field, fields_of, elements_of}
use Rattle.dv_path.specs.Placing.{field_with, with_field, put_behind, put}
use Rattle.dv_path.specs.Slots.{Slot, taken, free, blocked, slot}
use Rattle.dv_path.specs.Inner.ResultLaws.{made-by}
use Rattle.dv_candidates.specs.declared.fault.PathFault.{PathFault}
use Rattle.dv_update.specs.Apply.{Path, number_tree, told, set_at, increased, appended, pull_from, edit_at, edited, is_id}
use Rattle.dv_update.specs.Inner.Collected.{Steps}
use Rattle.dv_update.specs.Inner.Filling.{Fill, Made, beyond, leads_into_id, SameId, IsUnfilled}
use Rattle.dv_update.specs.OtherFaults.{of_path}
use Rattle.dv_value.specs.Results.{◌>>=◌}
use Rattle.dv_update.specs.Removals.{is_removal, other_edits}
use Rattle.dv_update.specs.Inner.StandIn.{new_value}
use Rattle.dv_update.specs.Update.{Operation, assign, take_away, increase, append, pull, Pulled, Edit}
use Rattle.dv_update.specs.declared.fault.UpdateFault.{UpdateFault}
use Rattle.dv_update.proofs.Filled.{Fills}
use Rattle.dv_update.proofs.Meeting.{Met, met_in, put-kept, fill-met}
use Rattle.dv_update.proofs.RemovalsLast.{SlotsStay}
use Rattle.dv_update.proofs.Stepwise.{Before, AllBefore, all-before}

-- ---- one edit of two documents in which it meets the same

-- both are refused with the same fault, or neither is refused
abbrev Goes : (List Field → List Field → Type 0) → Made → Made → Type 0
Goes P (Ok x) (Ok y) = P x y
Goes P (Ok x) (Err g) = ⊥
Goes P (Err f) (Ok y) = ⊥
Goes P (Err f) (Err g) = f ≡ g

abbrev MeetsSame : List Field → List Field → Path → Type 0
MeetsSame s d q = (w : Tree) → met_in s q w ≡ met_in d q w

-- nothing is changed, or the same value is put
abbrev Step : Path → List Field → List Field → List Field → List Field → Type 0
Step q s d x y = ((s ≡ x) × (d ≡ y)) ⊎ ((v : Tree) × (put s q v ≡ Ok x) × (put d q v ≡ Ok y))

module _ (q : Path) (s d : List Field) (same : MeetsSame s d q) where
  set-goes : (v : Tree) → Goes (Step q s d) (set_at q v s) (set_at q v d)
  set-goes v = by (put s q v) (put d q v) refl refl (ap (λ (m : Met). m.1) (same v))
    where
      by : (r t : Result (List Field) PathFault) → put s q v ≡ r → put d q v ≡ t → result_err r ≡ result_err t → Goes (Step q s d) (told r) (told t)
      by (Ok x) (Ok y) e f h = inr (v, e, f)
      by (Ok x) (Err g) e f h = absurd cc
      by (Err f) (Ok y) e g h = absurd cc
      by (Err f) (Err g) e h i = let one : f ≡ g = cc in ap of_path one

  value-goes : (r : Result Tree UpdateFault) → Goes (Step q s d) (r >>= λ v. set_at q v s) (r >>= λ v. set_at q v d)
  value-goes (Ok v) = set-goes v
  value-goes (Err f) = refl

  pull-goes : (p : Pulled) (there : Slot) → Goes (Step q s d) (pull_from q p s there) (pull_from q p d there)
  pull-goes p (taken (array vs)) = set-goes _
  pull-goes p (taken v) = refl
  pull-goes p free = inl (refl, refl)
  pull-goes p blocked = inl (refl, refl)

  slots-same : slot s q ≡ slot d q
  slots-same = ap (λ (m : Met). m.0) (same null)

  edit-goes : (o : Operation) → is_removal o ≡ false → Goes (Step q s d) (edit_at q o s) (edit_at q o d)
  edit-goes (assign v) other = set-goes v
  edit-goes take_away other = absurd cc
  edit-goes (increase n) other = subst (λ there. Goes (Step q s d) (increased n (slot s q) >>= λ v. set_at q v s) (increased n there >>= λ v. set_at q v d)) slots-same (value-goes (increased n (slot s q)))
  edit-goes (append vs) other = subst (λ there. Goes (Step q s d) (appended vs (slot s q) >>= λ v. set_at q v s) (appended vs there >>= λ v. set_at q v d)) slots-same (value-goes (appended vs (slot s q)))
  edit-goes (pull p) other = subst (λ there. Goes (Step q s d) (pull_from q p s (slot s q)) (pull_from q p d there)) slots-same (pull-goes p (slot s q))

-- ---- the first fields have the same name, and the same value if it is `_id`, unless edits that fill it are left out

module _ (with_id : Bool) where
  abbrev Front : List Field → List Field → Type 0
  Front [] d = ⊥
  Front (f ∷ fs) [] = ⊥
  Front (f ∷ fs) (g ∷ gs) = (f.0 ≡ g.0) × SameId with_id (f ∷ fs) (g ∷ gs)

  front-id : (s d : List Field) → Front s d → SameId with_id s d
  front-id [] d h = absurd h
  front-id (f ∷ fs) [] h = absurd h
  front-id (f ∷ fs) (g ∷ gs) h = h.1

  front-put : (q : Path) (v : Tree) (s d x y : List Field) → Front s d → put s q v ≡ Ok x → put d q v ≡ Ok y → Front x y
  unfolding put
  front-put q v [] d x y h e i = absurd h
  front-put q v (f ∷ fs) [] x y h e i = absurd h
  front-put [] v (f ∷ fs) (g ∷ gs) x y h e i =
      let same : (let s : List Field = f ∷ fs in s) ≡ x = cc in
      let too : (let s : List Field = g ∷ gs in s) ≡ y = cc in
      subst (λ z. Front z y) same (subst (Front (f ∷ fs)) too h)
  front-put (b ∷ q) v (f ∷ fs) (g ∷ gs) x y h e i =
      let one = made-by (λ t. with_field b (Some t) (f ∷ fs)) (put_behind q v (value_under b (f ∷ fs))) x e in
      let two = made-by (λ t. with_field b (Some t) (g ∷ gs)) (put_behind q v (value_under b (g ∷ gs))) y i in
      subst (λ z. Front z y) one.2 (subst (Front (with_field b (Some one.0) (f ∷ fs))) two.2 (by (bytes_eq b f.0) (bytes_eq b g.0) (ap (bytes_eq b) h.0) one.0 two.0 one.1 two.1))
    where
      -- under `_id`
      put-same : (c k : Bool) → c ≡ k → (t u : Tree) → (if c then Some f.1 else None) ≡ (if k then Some g.1 else None) → put_behind q v (Some f.1) ≡ Ok t → put_behind q v (Some g.1) ≡ Ok u → (if c then Some t else None) ≡ (if k then Some u else None)
      put-same true true is t u ids e i =
          let same : f.1 ≡ g.1 = cc in
          let both : (let r : Result Tree PathFault = Ok t in r) ≡ Ok u = sym e ∙ ap (λ w. put_behind q v (Some w)) same ∙ i in
          let one : t ≡ u = cc in
          ap Some one
      put-same false false is t u ids e i = refl
      put-same true false is t u ids e i = cc
      put-same false true is t u ids e i = cc

      by : (c k : Bool) → c ≡ k → (t u : Tree) → put_behind q v (if c then Some f.1 else value_under b fs) ≡ Ok t → put_behind q v (if k then Some g.1 else value_under b gs) ≡ Ok u
          → Front (if c then field_with f.0 (Some t) ++ fs else f ∷ with_field b (Some t) fs) (if k then field_with g.0 (Some u) ++ gs else g ∷ with_field b (Some u) gs)
      by true true is t u e i = (h.0, λ kept. put-same (is_id f) (is_id g) (ap (λ n. bytes_eq n (codes "_id")) h.0) t u (h.1 kept) e i)
      by false false is t u e i = h
      by true false is t u e i = absurd cc
      by false true is t u e i = absurd cc

  -- a fill keeps this true
  front-filled : (q rest : Path) (v : Tree) (s x : List Field) → (with_id ≡ false → leads_into_id q ≡ false) → beyond q (Some (document (fields_of s))) ≡ Some rest → put s q v ≡ Ok x → Front s x
  unfolding put
  front-filled [] rest v s x other leads e = absurd cc
  front-filled (b ∷ []) rest v [] x other leads e = absurd cc
  front-filled (b ∷ c ∷ q) rest v [] x other leads e = absurd cc
  front-filled (b ∷ q) rest v (f ∷ fs) x other leads e =
      let one = made-by (λ t. with_field b (Some t) (f ∷ fs)) (put_behind q v (value_under b (f ∷ fs))) x e in
      subst (Front (f ∷ fs)) one.2 (by (bytes_eq b f.0) refl one.0)
    where
      by : (c : Bool) → bytes_eq b f.0 ≡ c → (t : Tree) → Front (f ∷ fs) (if c then field_with f.0 (Some t) ++ fs else f ∷ with_field b (Some t) fs)
      by true is t = (
        refl,
        λ kept.
            let none : is_id f ≡ false = ap (λ n. bytes_eq n (codes "_id")) (sym ((bytes_eq-Decides b f.0).0 is)) ∙ other kept in
            ap (λ k. if k then Some f.1 else None) none ∙ sym (ap (λ k. if k then Some t else None) none),
      )
      by false is t = (refl, λ kept. refl)

-- ---- further edits

module _ (slots : SlotsStay) (with_id : Bool) where
  step-same : (q : Path) (s d x y : List Field) → Step q s d x y → (es : List Edit) → AllByRecursion (λ e. Before q e.0) es → AllByRecursion (λ e. MeetsSame s d e.0) es → AllByRecursion (λ e. MeetsSame x y e.0) es
  step-same q s d x y step [] behind same = tt
  step-same q s d x y step (e ∷ es) behind same = (here step, step-same q s d x y step es behind.1 same.1)
    where
      here : Step q s d x y → MeetsSame x y e.0
      here (inl is) = subst (λ z. MeetsSame z y e.0) is.0 (subst (λ z. MeetsSame s z e.0) is.1 same.0)
      here (inr made) = λ w. put-kept slots made.0 q e.0 behind.0 w s x made.1 ∙ same.0 w ∙ sym (put-kept slots made.0 q e.0 behind.0 w d y made.2)

  step-front : (q : Path) (s d x y : List Field) → Step q s d x y → Front with_id s d → Front with_id x y
  step-front q s d x y (inl is) h = subst (λ z. Front with_id z y) is.0 (subst (Front with_id s) is.1 h)
  step-front q s d x y (inr made) h = front-put with_id q made.0 s d x y h made.1 made.2

  edited-goes : (es : List Edit) → AllBefore es → (s d : List Field) → AllByRecursion (λ e. MeetsSame s d e.0) es → Front with_id s d → Goes (SameId with_id) (edited (other_edits es) s) (edited (other_edits es) d)
  edited-goes [] order s d same front = front-id with_id s d front
  edited-goes (e ∷ es) order s d same front = by (is_removal e.1) refl (edited-goes es order.1)
    where
      Rest : Type 0
      Rest = (x y : List Field) → AllByRecursion (λ f. MeetsSame x y f.0) es → Front with_id x y → Goes (SameId with_id) (edited (other_edits es) x) (edited (other_edits es) y)

      then-rest : (r t : Made) → Goes (Step e.0 s d) r t → Rest → Goes (SameId with_id) (r >>= edited (other_edits es)) (t >>= edited (other_edits es))
      then-rest (Ok x) (Ok y) step rest = rest x y (step-same e.0 s d x y step es order.0 same.1) (step-front e.0 s d x y step front)
      then-rest (Ok x) (Err g) step rest = absurd step
      then-rest (Err f) (Ok y) step rest = absurd step
      then-rest (Err f) (Err g) step rest = step

      by : (b : Bool) → is_removal e.1 ≡ b → Rest → Goes (SameId with_id) (edited (if b then other_edits es else e ∷ other_edits es) s) (edited (if b then other_edits es else e ∷ other_edits es) d)
      by true is rest = rest s d same.1 front
      by false is rest = then-rest (edit_at e.0 e.1 s) (edit_at e.0 e.1 d) (edit-goes e.0 s d same.0 e.1 is) rest

goes-refused : (P : List Field → List Field → Type 0) (r t : Made) (f : UpdateFault) → Goes P r t → r ≡ Err f → t ≡ Err f
goes-refused P (Ok x) t f goes e = absurd cc
goes-refused P (Err g) (Ok y) f goes e = absurd goes
goes-refused P (Err g) (Err h) f goes e = ap Err (sym goes) ∙ e

goes-made : (P : List Field → List Field → Type 0) (r t : Made) (x : List Field) → Goes P r t → r ≡ Ok x → (y : List Field) × (t ≡ Ok y) × P x y
goes-made P (Ok z) (Ok y) x goes e = let same : z ≡ x = cc in (y, refl, subst (λ u. P u y) same goes)
goes-made P (Ok z) (Err g) x goes e = absurd goes
goes-made P (Err f) t x goes e = absurd cc

-- ---- one edit after another

-- an edit that fills puts something
fill-made : (q : Path) (o : Operation) (d : List Field) → is_some (new_value o) ≡ true → ((w : Tree) → met_in d q w ≡ (free, None)) → (v : Tree) × (x : List Field) × (edit_at q o d ≡ Ok x) × (put d q v ≡ Ok x) × (is_removal o ≡ false)
fill-made q o d new nothing = by o new
  where
    made : (v : Tree) → (x : List Field) × (put d q v ≡ Ok x)
    made v = found (put d q v) refl (ap (λ (m : Met). m.1) (nothing v))
      where
        found : (r : Result (List Field) PathFault) → put d q v ≡ r → result_err r ≡ None → (x : List Field) × (put d q v ≡ Ok x)
        found (Ok x) e h = (x, e)
        found (Err f) e h = absurd cc

    there : slot d q ≡ free
    there = ap (λ (m : Met). m.0) (nothing null)

    by : (o : Operation) → is_some (new_value o) ≡ true → (v : Tree) × (x : List Field) × (edit_at q o d ≡ Ok x) × (put d q v ≡ Ok x) × (is_removal o ≡ false)
    by (assign v) new = let m = made v in (v, m.0, ap told m.1, m.1, refl)
    by take_away new = absurd cc
    by (increase n) new = let m = made (number_tree n) in (number_tree n, m.0, ap (λ s. increased n s >>= λ u. set_at q u d) there ∙ ap told m.1, m.1, refl)
    by (append vs) new = let m = made (array (elements_of vs)) in (array (elements_of vs), m.0, ap (λ s. appended vs s >>= λ u. set_at q u d) there ∙ ap told m.1, m.1, refl)
    by (pull p) new = absurd cc

module _ (with_id : Bool) (d : List Field) (e : Edit) (further : List Edit) (whole : Made) (so-far : IsUnfilled with_id d (e ∷ further) whole) where
  edits-are : (b : Bool) → is_removal e.1 ≡ b → other_edits (e ∷ further) ≡ (if b then other_edits further else e ∷ other_edits further)
  edits-are b is = ap (λ c. if c then other_edits further else e ∷ other_edits further) is

  pub removal_done : is_removal e.1 ≡ true → IsUnfilled with_id d further whole
  removal_done is = record {
    refused = λ f h. so-far.refused f (ap (λ es. edited es d) (edits-are true is) ∙ h);
    made = λ x h. so-far.made x (ap (λ es. edited es d) (edits-are true is) ∙ h);
  }

  edit-done : is_removal e.1 ≡ false → (after : List Field) → edit_at e.0 e.1 d ≡ Ok after → IsUnfilled with_id after further whole
  edit-done is after done = record {
    refused = λ f h. so-far.refused f (ap (λ es. edited es d) (edits-are false is) ∙ ap (λ r. r >>= edited (other_edits further)) done ∙ h);
    made = λ x h. so-far.made x (ap (λ es. edited es d) (edits-are false is) ∙ ap (λ r. r >>= edited (other_edits further)) done ∙ h);
  }

  pub fill_left : SlotsStay → Steps (e ∷ further) → (f : Fill) → Fills d e f → (with_id ≡ false → leads_into_id e.0 ≡ false) → IsUnfilled with_id d further whole
  fill_left slots steps f fills other =
      let order = all-before (e ∷ further) steps in
      let m = fill-made e.0 e.1 d fills.new (λ w. fill-met e.0 f.1 w d fills.leads) in
      let next = edit-done m.4 m.1 m.2 in
      let goes = edited-goes slots with_id further order.1 d m.1 (same m.0 m.1 m.3 further order.0) (front-filled with_id e.0 f.1 m.0 d m.1 other fills.leads m.3) in
      let r = edited (other_edits further) d in
      let t = edited (other_edits further) m.1 in
      record {
        refused = λ g h. next.refused g (goes-refused (SameId with_id) r t g goes h);
        made = λ x h.
            let y = goes-made (SameId with_id) r t x goes h in
            let z = next.made y.0 y.1 in
            (z.0, z.1, λ kept. y.2 kept ∙ z.2 kept);
      }
    where
      same : (v : Tree) (x : List Field) → put d e.0 v ≡ Ok x → (es : List Edit) → AllByRecursion (λ y. Before e.0 y.0) es → AllByRecursion (λ y. MeetsSame d x y.0) es
      same v x made [] behind = tt
      same v x made (y ∷ es) behind = (λ w. sym (put-kept slots v e.0 y.0 behind.0 w d x made), same v x made es behind.1)
