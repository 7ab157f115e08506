-- The work that views take for changes, one after the other.
use Rattle.std.proofs.Common.{◌≡◌, true, false, List, [], ◌∷◌, map, refl, ap, sym, ◌∙◌}
use Rattle.std.proofs.lemmas.Bool.{or_parts}
use Rattle.dv_change.specs.Raised.{raised}
use Rattle.dv_views.specs.Inner.Counted.{AreCounted, HasCountedShare}
use Rattle.dv_views.specs.Flow.{Share, all_together, nothing, shares_together}
use Rattle.dv_views.specs.Views.{ViewMark, live, stale, View}
use Rattle.dv_views.specs.Inner.Views.{Views, view_form, is_stale, mark_ticks}
use Rattle.dv_views.proofs.Rolling.{raised_none, raised_twice}

not-stale : (m n : ViewMark) → (is_stale m ≡ true → is_stale n ≡ true) → is_stale n ≡ false → is_stale m ≡ false
not-stale (live kept) n stays has = refl
not-stale stale n stays has = absurd (let e : false ≡ true = sym has ∙ stays refl in cc)

pub counted_more : (s t : Share) (v w u : View) → HasCountedShare s v w → HasCountedShare t w u → HasCountedShare (shares_together s t) v u
counted_more s t v w u first second = record {
  form = second.form ∙ first.form;
  unread = λ away. let both = or_parts s.reached t.reached away in second.unread both.1 ∙ first.unread both.0;
  stale = λ is. second.stale (first.stale is);
  ticks = λ has. second.ticks has ∙ ap (λ n. raised n t.work) (first.ticks (not-stale w.mark u.mark second.stale has)) ∙ raised_twice (mark_ticks v.mark) s.work t.work;
}

none-more : (ts : List Share) (us : Views) → AreCounted ts [] us → AreCounted [] [] us
none-more [] [] k = tt
none-more [] (u ∷ us) k = absurd k
none-more (t ∷ ts) [] k = absurd k
none-more (t ∷ ts) (u ∷ us) k = absurd k

pub all_counted_more : (ss ts : List Share) (vs ws us : Views) → AreCounted ss vs ws → AreCounted ts ws us → AreCounted (all_together ss ts) vs us
all_counted_more [] ts [] [] us h k = none-more ts us k
all_counted_more [] ts [] (w ∷ ws) us h k = absurd h
all_counted_more [] ts (v ∷ vs) [] us h k = absurd h
all_counted_more [] ts (v ∷ vs) (w ∷ ws) us h k = absurd h
all_counted_more (s ∷ ss) ts [] [] us h k = absurd h
all_counted_more (s ∷ ss) ts [] (w ∷ ws) us h k = absurd h
all_counted_more (s ∷ ss) ts (v ∷ vs) [] us h k = absurd h
all_counted_more (s ∷ ss) [] (v ∷ vs) (w ∷ ws) [] h k = absurd k
all_counted_more (s ∷ ss) [] (v ∷ vs) (w ∷ ws) (u ∷ us) h k = absurd k
all_counted_more (s ∷ ss) (t ∷ ts) (v ∷ vs) (w ∷ ws) [] h k = absurd k
all_counted_more (s ∷ ss) (t ∷ ts) (v ∷ vs) (w ∷ ws) (u ∷ us) h k = (counted_more s t v w u h.0 k.0, all_counted_more ss ts vs ws us h.1 k.1)

pub counted_none : (vs : Views) → AreCounted (map (λ v. nothing) (map view_form vs)) vs vs
counted_none [] = tt
counted_none (v ∷ vs) = (record { form = refl; unread = λ _. refl; stale = λ is. is; ticks = λ _. raised_none (mark_ticks v.mark) }, counted_none vs)
