-- The rows that match, by positions.
use Rattle.std.specs.Prelude.{◌≡◌, cond, length, None, refl}
use Rattle.std.proofs.Common.{ap, sym, ◌∙◌}
use Rattle.std.specs.Ordering.{is_eq}
use Rattle.std.specs.declared.cmp.Ordering.TheVariants.{Equal}
use Rattle.std.proofs.lemmas.Map.Entries.{option_filter}
use Rattle.dv_match.specs.Filter.{Members}
use Rattle.dv_match.specs.Match.{matches}
use Rattle.dv_change.specs.Changes.{Positioned, at}
use Rattle.dv_change.specs.Inner.Changes.{HaveOneLength, IsPositioned, alone}
use Rattle.dv_change.specs.Inner.DiffLaws.{all-filter, at-alone, at-filter, positioned-alone, positioned-filter}
use Rattle.dv_change.specs.Positions.{IsExact, PosTree, pos_order}
use Rattle.dv_change.specs.Inner.RowLaws.{at-like}
use Rattle.dv_flow.specs.Placed.{matched_at}

at-matched : (form : Members) (q : PosTree) (rows : Positioned) → IsPositioned rows → at q (matched_at form rows) ≡ option_filter (matches form) (at q rows)
at-matched form q rows are = at-filter (λ e. matches form e.1) q (matches form) (λ p v e. refl) rows are

pub match_ordered : (form : Members) (rows : Positioned) → IsPositioned rows → IsPositioned (matched_at form rows)
match_ordered form rows are = positioned-filter (λ e. matches form e.1) rows are

pub match_even : (form : Members) (rows : Positioned) → IsPositioned rows → HaveOneLength rows → HaveOneLength (matched_at form rows)
match_even form rows are one = (one.0, all-filter (λ e. matches form e.1) (λ pos. length pos ≡ one.0) rows one.1)

pub match_single : (form : Members) (rows : Positioned) (q p : PosTree) → IsPositioned rows → IsExact q → IsExact p → pos_order q p ≡ Equal → at q (matched_at form rows) ≡ at q (matched_at form (alone p (at p rows)))
match_single form rows q p are x y e =
    at-matched form q rows are
    ∙ ap (option_filter (matches form)) (at-like q p e rows ∙ sym (ap (λ r. cond (is_eq r) (at p rows) None) e) ∙ sym (at-alone q p (at p rows)))
    ∙ sym (at-matched form q (alone p (at p rows)) (positioned-alone p (at p rows) y))
