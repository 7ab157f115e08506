-- Entries of views that have no changes to pass on.
use Rattle.std.proofs.Common.{◌≡◌, ◌∙◌, ℕ, zero, suc, Bool, true, false, [], ◌∷◌, ◌++◌, Some, None, slice_get, cond, ap, sym}
use Rattle.std.specs.Map.{remove_entry, values_of}
use Rattle.std.specs.declared.string.String.{String}
use Rattle.indexmap.specs.IndexMap.{set_value_at}
use Rattle.dv_views.specs.Inner.Seen.{AreSilent}
use Rattle.dv_views.specs.Inner.Body.{Body}
use Rattle.dv_views.specs.Inner.Older.{Entries}

module _ {Y : Type 0} where
  pub silent_kept : (n : ℕ) (es : Entries Y) (old new : Body) → slice_get (values_of es) n ≡ Some old → new.told ≡ old.told → AreSilent es → AreSilent (set_value_at es n new)
  silent_kept n [] old new there same silent = tt
  silent_kept zero (e ∷ es) old new there same silent = let was : e.1 ≡ old = cc in (same ∙ ap (λ (b : Body). b.told) (sym was) ∙ silent.0, silent.1)
  silent_kept (suc n) (e ∷ es) old new there same silent = (silent.0, silent_kept n es old new there same silent.1)

  pub silent_removed : (test : String Y → Bool) (es : Entries Y) → AreSilent es → AreSilent (remove_entry test es)
  silent_removed test [] silent = tt
  silent_removed test (e ∷ es) silent = by (test e.0) (silent_removed test es silent.1)
    where
      by : (b : Bool) → AreSilent (remove_entry test es) → AreSilent (cond b es (e ∷ remove_entry test es))
      by true rest = silent.1
      by false rest = (silent.0, rest)

  pub silent_last : (es : Entries Y) (e : String Y × Body) → AreSilent es → e.1.told ≡ None → AreSilent (es ++ e ∷ [])
  silent_last [] e silent one = (one, tt)
  silent_last (f ∷ es) e silent one = (silent.0, silent_last es e silent.1 one)
