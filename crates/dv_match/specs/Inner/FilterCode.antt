-- A filter's form as a ghost value, one to one, so that a proof can distinguish two forms.
use Rattle.std.specs.Prelude.{◌≡◌, ℕ, List, refl}
use Rattle.std.proofs.Common.{ap, ap₂}
use base.Stored.{Gv, gnum, gcons, gnil, Coded, coded_ℕ, coded_bool, coded_list}
use Rattle.dv_value.specs.Inner.TreeCode.{coded_tree}
use Rattle.dv_value.specs.Tree.{Tree}
use Rattle.dv_match.specs.declared.range.Range.{Range}
use Rattle.dv_match.specs.declared.range.Range.TheVariants.{Above, AtLeast, Below, AtMost}
use Rattle.dv_match.specs.Filter.{Member, all_of, any_of, none_of, at_path, Members, no_members, more_members, Filters, no_filters, more_filters, Condition, equal, unequal, in_range, among, not_among, unmet, contains, exists, sized, has_element, Conditions, no_conditions, more_conditions, Test, by_operators, by_filter}

abbrev coded_path : Coded (List (List ℕ))
coded_path = coded_list (coded_list coded_ℕ)

abbrev coded_trees : Coded (List Tree)
coded_trees = coded_list coded_tree

abbrev code_range : Range → Gv
code_range Above = gnum 0
code_range AtLeast = gnum 1
code_range Below = gnum 2
code_range AtMost = gnum 3

code_range_inj : (x y : Range) → code_range x ≡ code_range y → x ≡ y
code_range_inj Above Above p = refl
code_range_inj AtLeast AtLeast p = refl
code_range_inj Below Below p = refl
code_range_inj AtMost AtMost p = refl
code_range_inj x y p = cc

abbrev mutual
  pub code_member : Member → Gv
  code_member (all_of fs) = gcons (gnum 0) (code_filters fs)
  code_member (any_of fs) = gcons (gnum 1) (code_filters fs)
  code_member (none_of fs) = gcons (gnum 2) (code_filters fs)
  code_member (at_path path cs) = gcons (gnum 3) (gcons (coded_path.code path) (code_conditions cs))

  pub code_members : Members → Gv
  code_members no_members = gnil
  code_members (more_members m ms) = gcons (code_member m) (code_members ms)

  pub code_filters : Filters → Gv
  code_filters no_filters = gnil
  code_filters (more_filters f fs) = gcons (code_members f) (code_filters fs)

  pub code_condition : Condition → Gv
  code_condition (equal v) = gcons (gnum 0) (coded_tree.code v)
  code_condition (unequal v) = gcons (gnum 1) (coded_tree.code v)
  code_condition (in_range r v) = gcons (gnum 2) (gcons (code_range r) (coded_tree.code v))
  code_condition (among vs) = gcons (gnum 3) (coded_trees.code vs)
  code_condition (not_among vs) = gcons (gnum 4) (coded_trees.code vs)
  code_condition (unmet cs) = gcons (gnum 5) (code_conditions cs)
  code_condition (contains vs) = gcons (gnum 6) (coded_trees.code vs)
  code_condition (exists b) = gcons (gnum 7) (coded_bool.code b)
  code_condition (sized n) = gcons (gnum 8) (coded_ℕ.code n)
  code_condition (has_element test) = gcons (gnum 9) (code_test test)

  pub code_conditions : Conditions → Gv
  code_conditions no_conditions = gnil
  code_conditions (more_conditions c cs) = gcons (code_condition c) (code_conditions cs)

  pub code_test : Test → Gv
  code_test (by_operators cs) = gcons (gnum 0) (code_conditions cs)
  code_test (by_filter ms) = gcons (gnum 1) (code_members ms)

mutual
  pub code_member_inj : (x y : Member) → code_member x ≡ code_member y → x ≡ y
  code_member_inj (all_of fs) (all_of gs) p = let e : code_filters fs ≡ code_filters gs = cc in ap all_of (code_filters_inj fs gs e)
  code_member_inj (any_of fs) (any_of gs) p = let e : code_filters fs ≡ code_filters gs = cc in ap any_of (code_filters_inj fs gs e)
  code_member_inj (none_of fs) (none_of gs) p = let e : code_filters fs ≡ code_filters gs = cc in ap none_of (code_filters_inj fs gs e)
  code_member_inj (at_path a cs) (at_path b ds) p =
      let path : coded_path.code a ≡ coded_path.code b = cc in
      let e : code_conditions cs ≡ code_conditions ds = cc in
      ap₂ at_path (coded_path.inj a b path) (code_conditions_inj cs ds e)
  code_member_inj x y p = cc

  pub code_members_inj : (x y : Members) → code_members x ≡ code_members y → x ≡ y
  code_members_inj no_members no_members p = refl
  code_members_inj (more_members m ms) (more_members n ns) p =
      let first : code_member m ≡ code_member n = cc in
      let rest : code_members ms ≡ code_members ns = cc in
      ap₂ more_members (code_member_inj m n first) (code_members_inj ms ns rest)
  code_members_inj x y p = cc

  pub code_filters_inj : (x y : Filters) → code_filters x ≡ code_filters y → x ≡ y
  code_filters_inj no_filters no_filters p = refl
  code_filters_inj (more_filters f fs) (more_filters g gs) p =
      let first : code_members f ≡ code_members g = cc in
      let rest : code_filters fs ≡ code_filters gs = cc in
      ap₂ more_filters (code_members_inj f g first) (code_filters_inj fs gs rest)
  code_filters_inj x y p = cc

  pub code_condition_inj : (x y : Condition) → code_condition x ≡ code_condition y → x ≡ y
  code_condition_inj (equal v) (equal w) p = let e : coded_tree.code v ≡ coded_tree.code w = cc in ap equal (coded_tree.inj v w e)
  code_condition_inj (unequal v) (unequal w) p = let e : coded_tree.code v ≡ coded_tree.code w = cc in ap unequal (coded_tree.inj v w e)
  code_condition_inj (in_range r v) (in_range s w) p =
      let range : code_range r ≡ code_range s = cc in
      let e : coded_tree.code v ≡ coded_tree.code w = cc in
      ap₂ in_range (code_range_inj r s range) (coded_tree.inj v w e)
  code_condition_inj (among vs) (among ws) p = let e : coded_trees.code vs ≡ coded_trees.code ws = cc in ap among (coded_trees.inj vs ws e)
  code_condition_inj (not_among vs) (not_among ws) p = let e : coded_trees.code vs ≡ coded_trees.code ws = cc in ap not_among (coded_trees.inj vs ws e)
  code_condition_inj (unmet cs) (unmet ds) p = let e : code_conditions cs ≡ code_conditions ds = cc in ap unmet (code_conditions_inj cs ds e)
  code_condition_inj (contains vs) (contains ws) p = let e : coded_trees.code vs ≡ coded_trees.code ws = cc in ap contains (coded_trees.inj vs ws e)
  code_condition_inj (exists a) (exists b) p = let e : coded_bool.code a ≡ coded_bool.code b = cc in ap exists (coded_bool.inj a b e)
  code_condition_inj (sized m) (sized n) p = let e : coded_ℕ.code m ≡ coded_ℕ.code n = cc in ap sized (coded_ℕ.inj m n e)
  code_condition_inj (has_element s) (has_element t) p = let e : code_test s ≡ code_test t = cc in ap has_element (code_test_inj s t e)
  code_condition_inj x y p = cc

  pub code_conditions_inj : (x y : Conditions) → code_conditions x ≡ code_conditions y → x ≡ y
  code_conditions_inj no_conditions no_conditions p = refl
  code_conditions_inj (more_conditions c cs) (more_conditions d ds) p =
      let first : code_condition c ≡ code_condition d = cc in
      let rest : code_conditions cs ≡ code_conditions ds = cc in
      ap₂ more_conditions (code_condition_inj c d first) (code_conditions_inj cs ds rest)
  code_conditions_inj x y p = cc

  pub code_test_inj : (x y : Test) → code_test x ≡ code_test y → x ≡ y
  code_test_inj (by_operators cs) (by_operators ds) p = let e : code_conditions cs ≡ code_conditions ds = cc in ap by_operators (code_conditions_inj cs ds e)
  code_test_inj (by_filter ms) (by_filter ns) p = let e : code_members ms ≡ code_members ns = cc in ap by_filter (code_members_inj ms ns e)
  code_test_inj x y p = cc

abbrev pub coded_members : Coded Members
coded_members = record { code = code_members; inj = code_members_inj }

abbrev pub coded_filters : Coded Filters
coded_filters = record { code = code_filters; inj = code_filters_inj }

abbrev pub coded_conditions : Coded Conditions
coded_conditions = record { code = code_conditions; inj = code_conditions_inj }
