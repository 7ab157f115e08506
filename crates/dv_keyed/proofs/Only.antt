-- If a document that matches a filter has only one key, this key is in all bounds that the filter sets.
use Rattle.std.proofs.Common.{◌≡◌, ◌∙◌, ◌↔◌, ℕ, List, refl, ap, sym, Bool, true, false, cond, ◌&&◌}
use Rattle.std.proofs.lemmas.Bool.{and_parts}
use Rattle.std.specs.Ordering.{is_eq}
use Rattle.std.specs.declared.cmp.Ordering.TheVariants.{Equal}
use Rattle.dv_value.specs.Tree.{Tree, Field}
use Rattle.dv_order.specs.Order.{canon, order}
use Rattle.dv_order.specs.Key.{KeyTree, value, key_order}
use Rattle.dv_order.specs.Inner.KeyLaws.{equal-from}
use Rattle.dv_candidates.specs.Candidates.{leaves, whole}
use Rattle.dv_path.specs.LeafKeys.{is_leaf_key}
use Rattle.dv_match.specs.Filter.{Member, all_of, any_of, none_of, at_path, Members, no_members, more_members, Filters, no_filters, more_filters, Condition, in_range, Conditions, no_conditions, more_conditions}
use Rattle.dv_match.specs.Match.{matches, matches_member, matches_all, meets_all, meets}
use Rattle.dv_keyed.specs.Choice.{same_path}
use Rattle.dv_keyed.specs.Inner.Interval.{is_in_all, is_in_bounds, is_in_each, is_in_member, is_in_filters}
use Rattle.dv_keyed.specs.Inner.Within.{covers}
use Rattle.dv_keyed.specs.Inner.ListLaws.{one-path}
use Rattle.dv_keyed.proofs.Sound.{leaf-key, met-bound}

module _ (law : (v w : Tree) → key_order (value (canon v)) (value (canon w)) ≡ order v w) (same : (v w : Tree) → (order v w ≡ Equal) ↔ (canon v ≡ canon w)) where
  module _ (path : List (List ℕ)) (d : List Field) (v : Tree) (only : (l : KeyTree) → is_leaf_key l path d ≡ true → is_eq (key_order l (value (canon v))) ≡ true) where
    in-bounds : (c : Condition) → meets c (whole d path) (leaves d path) ≡ true → is_in_bounds (value (canon v)) c ≡ true
    in-bounds (in_range r w) e =
        let u = leaf-key law (in_range r w) path d (sym (met-bound (in_range r w) path d refl) ∙ e) in
        let one = (same u.0 v).0 (equal-from (order u.0 v) (ap is_eq (sym (law u.0 v)) ∙ only (value (canon u.0)) u.2)) in
        ap (λ t. covers (in_range r w) (value t)) (sym one) ∙ u.1
    in-bounds c e = refl

    in-each : (cs : Conditions) → meets_all cs (whole d path) (leaves d path) ≡ true → is_in_each (value (canon v)) cs ≡ true
    unfolding meets_all
    in-each no_conditions e = refl
    in-each (more_conditions c cs) e = let parts = and_parts (meets c (whole d path) (leaves d path)) (meets_all cs (whole d path) (leaves d path)) e in λ j. in-bounds c parts.0 j && in-each cs parts.1 j

    under : (p : List (List ℕ)) (cs : Conditions) (b : Bool) → same_path p path ≡ b → meets_all cs (whole d p) (leaves d p) ≡ true → cond b (is_in_each (value (canon v)) cs) true ≡ true
    under p cs true is e = in-each cs (ap (λ q. meets_all cs (whole d q) (leaves d q)) (sym (one-path p path is)) ∙ e)
    under p cs false is e = refl

    mutual
      unfolding is_in_all is_in_member is_in_filters matches matches_member matches_all

      pub in_all : (ms : Members) → matches ms d ≡ true → is_in_all (value (canon v)) path ms ≡ true
      in_all no_members e = refl
      in_all (more_members m ms) e = let parts = and_parts (matches_member m d) (matches ms d) e in λ j. in-member m parts.0 j && in_all ms parts.1 j

      in-member : (m : Member) → matches_member m d ≡ true → is_in_member (value (canon v)) path m ≡ true
      in-member (all_of fs) e = in-filters fs e
      in-member (any_of fs) e = refl
      in-member (none_of fs) e = refl
      in-member (at_path p cs) e = under p cs (same_path p path) refl e

      in-filters : (fs : Filters) → matches_all fs d ≡ true → is_in_filters (value (canon v)) path fs ≡ true
      in-filters no_filters e = refl
      in-filters (more_filters f fs) e = let parts = and_parts (matches f d) (matches_all fs d) e in λ j. in_all f parts.0 j && in-filters fs parts.1 j
