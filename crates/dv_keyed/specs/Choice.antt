-- Which index a filter uses. The rule is this server's own. Only the conditions in the filter itself and in its `$and`s, at any depth,
-- count. The oldest index is used whose path is under `$eq` or `$in` there, with the first such condition in written order. If there is
-- none, the oldest is used whose path is under `$gt`, `$gte`, `$lt` or `$lte`, with the first such condition. Otherwise the filter uses
-- no index.
use Rattle.std.specs.Prelude.{ℕ, suc, ◌&&◌, Bool, true, false, List, [], ◌∷◌, Option, Some, None, if◌then◌else◌}
use Rattle.std.specs.Str.{bytes_eq}
use Rattle.std.specs.Option.{option_map, option_or}
use Rattle.dv_match.specs.Filter.{Member, all_of, at_path, Members, no_members, more_members, Filters, no_filters, more_filters, Condition, equal, among, in_range, Conditions, no_conditions, more_conditions}

-- whether the condition is an equality or `$in`
abbrev pub is_point : Condition → Bool
is_point (equal v) = true
is_point (among vs) = true
is_point c = false

-- whether the condition is `$gt`, `$gte`, `$lt` or `$lte`
abbrev pub is_bound : Condition → Bool
is_bound (in_range r v) = true
is_bound c = false

-- whether two paths are equal
abbrev pub same_path : List (List ℕ) → List (List ℕ) → Bool
same_path [] [] = true
same_path (x ∷ xs) (y ∷ ys) = bytes_eq x y && same_path xs ys
same_path xs ys = false

-- the first condition that passes the test, if any
abbrev pub first_of : (Condition → Bool) → Conditions → Option Condition
first_of test no_conditions = None
first_of test (more_conditions c cs) = if test c then Some c else first_of test cs

-- the first condition that passes the test, among those on the path in the filter and its `$and`s
unfoldable mutual
  pub first_in : (Condition → Bool) → List (List ℕ) → Members → Option Condition
  first_in test path no_members = None
  first_in test path (more_members m ms) = option_or (first_in_member test path m) (first_in test path ms)

  pub first_in_member : (Condition → Bool) → List (List ℕ) → Member → Option Condition
  first_in_member test path (all_of fs) = first_in_all test path fs
  first_in_member test path (at_path p cs) = if same_path p path then first_of test cs else None
  first_in_member test path m = None

  pub first_in_all : (Condition → Bool) → List (List ℕ) → Filters → Option Condition
  first_in_all test path no_filters = None
  first_in_all test path (more_filters f fs) = option_or (first_in test path f) (first_in_all test path fs)

-- the first of these paths with a condition that passes the test in the filter: its number, counted from n, and that condition
abbrev pub first_place : (Condition → Bool) → Members → ℕ → List (List (List ℕ)) → Option (ℕ × Condition)
first_place test filter n [] = None
first_place test filter n (path ∷ paths) = option_or (option_map (λ c. (n, c)) (first_in test path filter)) (first_place test filter (suc n) paths)

-- the index that a filter uses, by its number in creation order, and the condition that gives the bounds; none for a scan
unfoldable pub chosen : Members → List (List (List ℕ)) → Option (ℕ × Condition)
chosen filter paths = option_or (first_place is_point filter 0 paths) (first_place is_bound filter 0 paths)
