-- Views in memory, when an entry is looked up, added, written or removed.
use Rattle.std.proofs.Common.{◌≡◌, Bor, ℕ, Bool, true, false, not, List, [], ◌∷◌, ◌++◌, map, Option, Some, None, is_some, cond, refl, ap, sym, ◌∙◌, ◌||◌}
use Rattle.std.proofs.lemmas.Slice.Eq.{bytes_eq-Decides}
use Rattle.std.specs.List.{AllByRecursion, IsDistinct, list_any}
use Rattle.std.specs.Map.{keys_of, lookup, remove_entry, values_of}
use Rattle.std.specs.Option.{option_copied, option_map}
use Rattle.std.specs.Str.{bytes_eq}
use Rattle.std.specs.String.{string_bytes, string_eq}
use Rattle.std.specs.declared.string.String.{String}
use Rattle.dv_pipe.specs.Stages.{is_read}
use Rattle.dv_views.specs.Inner.Body.{Body}
use Rattle.dv_views.specs.Inner.Older.{Entries, is_called, views}
use Rattle.dv_views.specs.Inner.Seen.{view_seen, entry_view}
use Rattle.dv_views.specs.Views.{View}
use Rattle.dv_views.specs.Inner.Views.{AreNamedApart, is_view_named, has_view, is_stale, reads_name, view_under, views_without}

there-met : (b : Bool) (w : Body) (s : Option Body) (r : Bool) → r ≡ is_some s → b || r ≡ is_some (cond b (Some w) s)
there-met true w s r rest = refl
there-met false w s r rest = rest

found-met : (name n : List ℕ) (w : Body) (b : Bool) (s : Option Body) (r : Option View) → (b ≡ true → name ≡ n) → option_map (view_seen name) s ≡ r → option_map (view_seen name) (cond b (Some w) s) ≡ cond b (Some (view_seen n w)) r
found-met name n w true s r same rest = ap (λ m. Some (view_seen m w)) (same refl)
found-met name n w false s r same rest = rest

pub copied : (name : List ℕ) (r : Option (Bor Body)) → option_map (λ w. view_seen name w.now) r ≡ option_map (view_seen name) (option_copied r)
copied name None = refl
copied name (Some w) = refl

no-some : (r : Option Body) → is_some r ≡ false → r ≡ None
no-some None e = refl
no-some (Some w) e = absurd cc

module _ {Y : Type 0} where
  -- ---- looking up

  pub found_seen : (name : List ℕ) (es : Entries Y) → option_map (view_seen name) (lookup (is_called name) es) ≡ view_under name (views es)
  found_seen name [] = refl
  found_seen name (e ∷ es) =
      found-met name (string_bytes e.0) e.1 (is_called name e.0) (lookup (is_called name) es) (view_under name (views es)) (bytes_eq-Decides name (string_bytes e.0)).0 (found_seen name es)

  pub there : (name : List ℕ) (es : Entries Y) → has_view name (views es) ≡ is_some (lookup (is_called name) es)
  there name [] = refl
  there name (e ∷ es) = there-met (is_called name e.0) e.1 (lookup (is_called name) es) (has_view name (views es)) (there name es)

  -- a new name is no entry's key
  pub none_there : (name : List ℕ) (es : Entries Y) → has_view name (views es) ≡ false → lookup (is_called name) es ≡ None
  none_there name es away = no-some (lookup (is_called name) es) (sym (there name es) ∙ away)

  pub read_seen : (namespace : List ℕ) (es : Entries Y) → list_any (λ w. is_read w.stages w.source namespace) (values_of es) ≡ reads_name (views es) namespace
  read_seen namespace [] = refl
  read_seen namespace (e ∷ es) = ap (λ b. is_read e.1.stages e.1.source namespace || b) (read_seen namespace es)

  pub stale_seen : (es : Entries Y) → list_any (λ w. is_stale w.mark) (values_of es) ≡ list_any (λ v. is_stale v.mark) (views es)
  stale_seen [] = refl
  stale_seen (e ∷ es) = ap (λ b. is_stale e.1.mark || b) (stale_seen es)

  -- ---- names

  pub named_apart : (es : Entries Y) → IsDistinct string_eq (keys_of es) → AreNamedApart (views es)
  unfolding IsDistinct
  named_apart [] h = tt
  named_apart (e ∷ es) h = (others-apart es h.0, named_apart es h.1)
    where
      others-apart : (fs : Entries Y) → AllByRecursion (λ k. string_eq e.0 k ≡ false) (keys_of fs) → AllByRecursion (λ n. bytes_eq (string_bytes e.0) n ≡ false) (map (λ v. v.name) (views fs))
      others-apart [] h = tt
      others-apart (f ∷ fs) h = (h.0, others-apart fs h.1)

  -- none of the views has the name
  abbrev pub AreOthers : List ℕ → Entries Y → Type 0
  AreOthers name es = AllByRecursion (λ v. is_view_named name v ≡ false) (views es)

  pub others : (name n : List ℕ) (es : Entries Y) → bytes_eq name n ≡ true → AllByRecursion (λ m. bytes_eq n m ≡ false) (map (λ v. v.name) (views es)) → AreOthers name es
  others name n [] same h = tt
  others name n (e ∷ es) same h = (ap (λ m. bytes_eq m (string_bytes e.0)) ((bytes_eq-Decides name n).0 same) ∙ h.0, others name n es same h.1)

  -- ---- removing

  none-out : (name : List ℕ) (es : Entries Y) → AreOthers name es → views_without name (views es) ≡ views es
  none-out name [] h = refl
  none-out name (e ∷ es) h = ap (λ b. cond (not b) (entry_view e ∷ views_without name (views es)) (views_without name (views es))) h.0 ∙ ap (λ vs. entry_view e ∷ vs) (none-out name es h.1)

  out-met : (name : List ℕ) (b : Bool) (e : String Y × Body) (es rest : Entries Y) → (b ≡ true → views_without name (views es) ≡ views es) → views_without name (views es) ≡ views rest
      → cond (not b) (entry_view e ∷ views_without name (views es)) (views_without name (views es)) ≡ views (cond b es (e ∷ rest))
  out-met name true e es rest only same = only refl
  out-met name false e es rest only same = ap (λ vs. entry_view e ∷ vs) same

  pub taken_out : (name : List ℕ) (es : Entries Y) → AreNamedApart (views es) → views_without name (views es) ≡ views (remove_entry (is_called name) es)
  unfolding IsDistinct
  taken_out name [] apart = refl
  taken_out name (e ∷ es) apart =
      out-met name (is_called name e.0) e es (remove_entry (is_called name) es) (λ here. none-out name es (others name (string_bytes e.0) es here apart.0)) (taken_out name es apart.1)

  -- ---- adding

  pub seen_last : (es : Entries Y) (e : String Y × Body) → views (es ++ e ∷ []) ≡ views es ++ entry_view e ∷ []
  seen_last [] e = refl
  seen_last (f ∷ es) e = ap (λ vs. entry_view f ∷ vs) (seen_last es e)
