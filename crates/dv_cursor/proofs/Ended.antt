-- The end of a session.
use Rattle.std.proofs.Common.{◌≡◌, ℕ, ◌-◌, ◌<◌, ◌==◌, ◌≢◌, Bool, true, false, not, Option, Some, None, IsSome, is_some, cond, refl, ap, sym, subst, ◌∙◌, arith, eqb-true, eq-eqb}
use Rattle.std.specs.FinMap as finite
use Rattle.std.specs.Ordering.{eq_by_cmp}
use Rattle.dv_cursor.specs.Cursors.{Cursor, Cursors, CursorPlace, place_cmp, closed, without_session}
use Rattle.dv_cursor.proofs.Kept.{Kept, place_cmp_total, place_cmp-IsAntisymmetric, same_kept, same_if_tied}

abbrev pub apart_from : ℕ → CursorPlace → Bool
apart_from session p = not (p.0 == session)

pub get-apart : (m : Kept) (session : ℕ) (q : CursorPlace) → finite.get (finite.retain_keys m (apart_from session)) q ≡ cond (apart_from session q) (finite.get m q) None
get-apart m session q = finite.get-retain_keys m (apart_from session) q (λ x is. ap (apart_from session) (sym (place_cmp-IsAntisymmetric q x is)))

both_gone : {X : Type 0} (b own : Bool) (x : Option X) → (b ≡ true → own ≡ false) → cond own (cond b None x) None ≡ cond own x None
both_gone true own x is = rw (is refl) refl
both_gone false own x is = refl

-- a cursor of the session is removed first or with the others
pub without_session-closed : (session id : ℕ) (cursors : Cursors) → without_session session (closed session id cursors) ≡ without_session session cursors
without_session-closed session id cursors =
    ap (λ (m : Kept). record cursors { kept = m }) (same_kept _ _ (λ q.
    get-apart (finite.remove cursors.kept (session, id)) session q
    ∙ ap (λ there. cond (apart_from session q) there None) (finite.get-remove place_cmp_total cursors.kept (session, id) q)
    ∙ both_gone (eq_by_cmp place_cmp q (session, id)) (apart_from session q) (finite.get cursors.kept q) (λ at. ap (apart_from session) (same_if_tied q (session, id) at) ∙ ap not (eq-eqb session session refl))
    ∙ sym (get-apart cursors.kept session q)))

none_gone : {X : Type 0} (own : Bool) (x : Option X) → (own ≡ false → x ≡ None) → cond own x None ≡ x
none_gone true x none = refl
none_gone false x none = sym (none refl)

turned : (b : Bool) → not b ≡ false → b ≡ true
turned true is = refl
turned false is = cc

-- a session without cursors
pub without_session-none : (session : ℕ) (cursors : Cursors) → ((id : ℕ) → finite.get cursors.kept (session, id) ≡ None) → without_session session cursors ≡ cursors
without_session-none session cursors none =
    ap (λ (m : Kept). record cursors { kept = m }) (same_kept _ _ (λ q.
    get-apart cursors.kept session q
    ∙ none_gone (apart_from session q) (finite.get cursors.kept q) (λ own. subst (λ s. finite.get cursors.kept (s, q.1) ≡ None) (sym (eqb-true q.0 session (turned (q.0 == session) own))) (none q.1))))

-- there are fewer after one that is there is removed
none_of_empty : (m : Kept) (p : CursorPlace) → finite.len m ≡ 0 → finite.get m p ≡ None
none_of_empty m p none = ap (λ (n : Kept). finite.get n p) (finite.empty_of_len m none) ∙ finite.get-empty place_cmp p

lower : (n m : ℕ) → m ≡ n - 1 → n ≢ 0 → m < n
lower n m is some = omega arith

nothing : (c : Cursor) → Some c ≡ None → ⊥
nothing c is = cc

fewer : (n : ℕ) (there : Option Cursor) (m : ℕ) → IsSome there → m ≡ cond (is_some there) (n - 1) n → (n ≡ 0 → there ≡ None) → m < n
fewer n None m some is none = absurd cc
fewer n (Some c) m some is none = lower n m is (λ zero. absurd (nothing c (none zero)))

pub len-closed : (session id : ℕ) (cursors : Cursors) → IsSome (finite.get cursors.kept (session, id)) → finite.len (closed session id cursors).kept < finite.len cursors.kept
len-closed session id cursors some =
    fewer (finite.len cursors.kept) (finite.get cursors.kept (session, id)) _ some (finite.len-remove place_cmp_total cursors.kept (session, id)) (none_of_empty cursors.kept (session, id))
