-- What is shown of a row's _id if no member names it.
use Rattle.std.proofs.Common.{◌≡◌, ◌∙◌, ap, ap₂, sym, refl, ℕ, Bool, true, false, ◌||◌, ◌&&◌, ◌==◌, not, List, [], ◌∷◌, ◌++◌, append-nil, filter, length, Option, Some, None, Result, Ok, Err, codes, arith, if◌then◌else◌}
use Rattle.std.specs.List.{join_with_byte, list_any}
use Rattle.std.specs.Str.{bytes_eq}
use Rattle.std.proofs.lemmas.Bool.{or_from, or_left, or_parts, or_right}
use Rattle.std.proofs.lemmas.List.Elements.{filter-append}
use Rattle.std.proofs.lemmas.List.Folds.{list_any-append}
use Rattle.std.proofs.lemmas.List.Splits.{join_with_byte-slice_split, length-slice_split}
use Rattle.std.proofs.lemmas.Slice.Eq.{bytes_eq-Decides}
use Rattle.dv_value.specs.Names.{has_name, has_zero}
use Rattle.dv_value.specs.Tree.{Tree, document, Field, fields_of}
use Rattle.dv_candidates.specs.Candidates.{Candidate}
use Rattle.dv_path.specs.Names.{has_dot}
use Rattle.dv_candidates.specs.Path.{path_of}
use Rattle.dv_row.specs.declared.fault.PipelineFault.{PipelineFault}
use Rattle.dv_row.specs.declared.fault.PipelineFault.TheVariants.{Conflict}
use Rattle.dv_row.specs.declared.project.Project.{Project}
use Rattle.dv_row.specs.declared.project.Project.TheVariants.{Include, Exclude}
use Rattle.dv_row.specs.Inner.Conflicts.{IsMemberTaken}
use Rattle.dv_row.specs.ExpressionParsing.{expression_in, switch_in}
use Rattle.dv_row.specs.Expressions.{Expression, computed_of, with_computed, with_field_behind, value_of}
use Rattle.dv_value.specs.Results.{◌>>=◌}
use Rattle.dv_value.specs.Inner.ByteLaws.{bytes_eq-symmetric}
use Rattle.dv_row.specs.Projecting.{row_left, projected}
use Rattle.dv_row.specs.ProjectParsing.{AskedMembers, conflicts_with_asked, excludes, includes, is_below_id, is_id_path, members_in, nothing_asked, one_begins, project_form, project_in, with_computation, with_excluded, with_id_path, with_included, with_member, with_named, with_path, with_switch}
use Rattle.dv_row.specs.Row.{Row}
use Rattle.dv_row.specs.Inner.Shown.{Paths, begins_with_name, is_alone}
use Rattle.dv_row.proofs.Conflicting.{begins-back}
use Rattle.dv_row.proofs.Members.{begins-name, project-some}
use Rattle.dv_row.proofs.ShownFields.{named-stays, not-led, same-fields}
use Rattle.dv_row.proofs.Taken.{computed-taken, excluded-taken, included-taken, parts-of, undotted}

abbrev id : List ℕ
id = codes "_id"

-- ---- paths that don't name _id

-- a path conflicts with _id only if its text is _id or it leads into _id
apart : (name : List ℕ) (p : List (List ℕ)) → path_of name ≡ Some p → bytes_eq id name ≡ false → is_below_id p ≡ false → one_begins (id ∷ []) p ≡ false
apart name [] leads other outside = absurd (omega (arith, length-slice_split (λ b. b == 46) name, ap length (parts-of name [] leads)))
apart name (n ∷ []) leads other outside =
    let is : n ≡ name = ap (join_with_byte 46) (sym (parts-of name (n ∷ []) leads)) ∙ join_with_byte-slice_split 46 name in
    begins-name id n [] ∙ ap (bytes_eq id) is ∙ other
apart name (n ∷ m ∷ ns) leads other outside = begins-back (id ∷ []) (n ∷ m ∷ ns) ∙ begins-name n id (m ∷ ns) ∙ outside

abbrev AsksNothing : AskedMembers → Type 0
AsksNothing asked = conflicts_with_asked (id ∷ []) asked ≡ false

taken : (member : Result AskedMembers PipelineFault) (asked : AskedMembers) (p : List (List ℕ)) (after more : AskedMembers) → IsMemberTaken member asked p after → member ≡ Ok more
    → AsksNothing asked → one_begins (id ∷ []) p ≡ false → AsksNothing more
taken member asked p after more is ok none other = go (conflicts_with_asked p asked) (sym is.stands ∙ ok)
  where
    go : (b : Bool) → (if b then Err Conflict else Ok after) ≡ Ok more → AsksNothing more
    go true e = absurd cc
    go false e = let same : after ≡ more = cc in ap (conflicts_with_asked (id ∷ [])) (sym same) ∙ is.asks (id ∷ []) ∙ ap₂ (λ a b. a || b) none other

module _ (name : List ℕ) (p : List (List ℕ)) (asked more : AskedMembers) (leads : path_of name ≡ Some p) (other : bytes_eq id name ≡ false) (none : AsksNothing asked) where
  included-more : (refused : Bool) → (is_below_id p || excludes asked) ≡ refused → with_path true p asked ≡ Ok more → AsksNothing more
  included-more true h ok = absurd (let bad = rw h at ok in cc)
  included-more false h ok = taken (with_path true p asked) asked p (with_included p asked) more (included-taken p asked h (with_included p asked) refl) ok none (apart name p leads other (or_parts _ _ h).0)

  excluded-more : (refused : Bool) → (is_below_id p || not (is_id_path p) && includes asked) ≡ refused → with_path false p asked ≡ Ok more → AsksNothing more
  excluded-more true h ok = absurd (let bad = rw h at ok in cc)
  excluded-more false h ok = taken (with_path false p asked) asked p (with_excluded p asked) more (excluded-taken p asked h (with_excluded p asked) refl) ok none (apart name p leads other (or_parts _ _ h).0)

  computed-more : (v : Tree) (dotted refused : Bool) (e : Result Expression PipelineFault) → has_dot name ≡ dotted → excludes asked ≡ refused → expression_in false v ≡ e → with_switch None name p v asked ≡ Ok more → AsksNothing more
  computed-more v true refused e plain h parsed ok = absurd (let bad = rw plain at ok in cc)
  computed-more v false refused (Err fault) plain h parsed ok = absurd (let bad = rw (plain, parsed) at ok in cc)
  computed-more v false true (Ok e) plain h parsed ok = absurd (let bad = rw (plain, parsed, h) at ok in cc)
  computed-more v false false (Ok e) plain h parsed ok =
      let inside : is_below_id p ≡ false = ap is_below_id (undotted name p plain leads) in
      taken (with_switch None name p v asked) asked p (with_computation name e asked) more (computed-taken name p v asked e leads plain parsed h (with_computation name e asked) refl) ok none (apart name p leads other inside)

  switch-more : (v : Tree) (switch : Option Bool) → with_switch switch name p v asked ≡ Ok more → AsksNothing more
  switch-more v (Some true) ok = included-more (is_below_id p || excludes asked) refl ok
  switch-more v (Some false) ok = excluded-more (is_below_id p || not (is_id_path p) && includes asked) refl ok
  switch-more v None ok = computed-more v (has_dot name) (excludes asked) (expression_in false v) refl refl refl ok

-- ---- members that don't name _id

member-more : (f : Field) (asked more : AskedMembers) → bytes_eq id f.0 ≡ false → AsksNothing asked → with_member f asked ≡ Ok more → AsksNothing more
member-more f asked more other none ok = go (path_of f.0) refl ok
  where
    go : (found : Option (List (List ℕ))) → path_of f.0 ≡ found → with_named found f.0 f.1 asked ≡ Ok more → AsksNothing more
    go None leads ok = absurd cc
    go (Some p) leads ok = switch-more f.0 p asked more leads other none f.1 (switch_in f.1) ok

members-more : (fs : List Field) (asked more : AskedMembers) → has_name id fs ≡ false → AsksNothing asked → members_in asked fs ≡ Ok more → AsksNothing more
members-more [] asked more other none ok = let same : asked ≡ more = cc in ap (conflicts_with_asked (id ∷ [])) (sym same) ∙ none
members-more (f ∷ fs) asked more other none ok =
    let parts = or_parts (bytes_eq id f.0) (has_name id fs) other in
    go (with_member f asked) (λ next. member-more f asked next parts.0 none) (λ next. members-more fs next more parts.1) ok
  where
    go : (r : Result AskedMembers PipelineFault) → ((next : AskedMembers) → r ≡ Ok next → AsksNothing next) → ((next : AskedMembers) → AsksNothing next → members_in next fs ≡ Ok more → AsksNothing more)
        → (r >>= λ next. members_in next fs) ≡ Ok more → AsksNothing more
    go (Err e) first rest ok = absurd cc
    go (Ok next) first rest ok = rest next (first next refl) ok

-- ---- what is shown

abbrev is_the_id : List ℕ → Bool
is_the_id name = bytes_eq name id

field-other : (name : List ℕ) (c : Candidate) (fs : List Field) → is_the_id name ≡ false → filter (λ f. is_the_id f.0) (with_field_behind name c fs) ≡ filter (λ f. is_the_id f.0) fs
field-other name None fs other = refl
field-other name (Some v) fs other = go (has_zero name || has_name name fs)
  where
    go : (b : Bool) → filter (λ f. is_the_id f.0) (if b then fs else fs ++ (name, v) ∷ []) ≡ filter (λ f. is_the_id f.0) fs
    go true = refl
    go false =
        filter-append (λ (f : Field). is_the_id f.0) fs ((name, v) ∷ [])
        ∙ ap (λ b. filter (λ f. is_the_id f.0) fs ++ (if b then (name, v) ∷ [] else [])) other ∙ append-nil (filter (λ f. is_the_id f.0) fs)

computed-others : (es : List (List ℕ × Expression)) (d fs : Row) → list_any (λ c. one_begins (id ∷ []) (c.0 ∷ [])) es ≡ false
    → filter (λ f. is_the_id f.0) (with_computed (computed_of es) d fs) ≡ filter (λ f. is_the_id f.0) fs
unfolding with_computed
computed-others [] d fs none = refl
computed-others (e ∷ es) d fs none =
    let parts = or_parts (one_begins (id ∷ []) (e.0 ∷ [])) (list_any (λ c. one_begins (id ∷ []) (c.0 ∷ [])) es) none in
    computed-others es d (with_field_behind e.0 (value_of e.1 d) fs) parts.1
    ∙ field-other e.0 (value_of e.1 d) fs (bytes_eq-symmetric e.0 id ∙ sym (begins-name id e.0 []) ∙ parts.0)

id-kept : (paths : Paths) (row : Row) → filter (λ f. is_the_id f.0) (row_left true (paths ++ (id ∷ []) ∷ []) row) ≡ filter (λ f. is_the_id f.0) row
id-kept paths row =
    same-fields is_the_id true (paths ++ (id ∷ []) ∷ [])
    (λ f is. named-stays (paths ++ (id ∷ []) ∷ []) f
    (list_any-append (is_alone f.0) paths ((id ∷ []) ∷ []) ∙ or_right (list_any (is_alone f.0) paths) (is_the_id f.0 || false) (or_left (is_the_id f.0) false is))) row

unbegun : (paths : Paths) → list_any (one_begins (id ∷ [])) paths ≡ false → list_any (begins_with_name id) paths ≡ false
unbegun [] none = refl
unbegun ([] ∷ paths) none = absurd cc
unbegun ((n ∷ ns) ∷ paths) none =
    let parts = or_parts (one_begins (id ∷ []) (n ∷ ns)) (list_any (one_begins (id ∷ [])) paths) none in
    or_from (bytes_eq id n) (list_any (begins_with_name id) paths) (bytes_eq-symmetric id n ∙ sym (begins-name n id ns) ∙ begins-back (n ∷ ns) (id ∷ []) ∙ parts.0) (unbegun paths parts.1)

id-left : (paths : Paths) (row : Row) → list_any (one_begins (id ∷ [])) paths ≡ false → filter (λ f. is_the_id f.0) (row_left false paths row) ≡ filter (λ f. is_the_id f.0) row
id-left paths row none =
    same-fields is_the_id false paths (λ f is. not-led false paths f (ap (λ n. list_any (begins_with_name n) paths) ((bytes_eq-Decides f.0 id).0 is) ∙ unbegun paths none)) row

form-keeps : (asked : AskedMembers) (row : Row) → AsksNothing asked → filter (λ f. is_the_id f.0) (projected (project_form asked) row) ≡ filter (λ f. is_the_id f.0) row
unfolding projected
form-keeps asked row none = go (includes asked)
  where
    go : (b : Bool) → filter (λ f. is_the_id f.0) (projected (if b then Include (with_id_path asked) (computed_of asked.computed) else Exclude asked.excluded) row) ≡ filter (λ f. is_the_id f.0) row
    go true =
        computed-others asked.computed row (row_left true (with_id_path asked) row) (or_parts _ _ none).1
        ∙ ap (λ b. filter (λ f. is_the_id f.0) (row_left true (if b then asked.included else asked.included ++ (id ∷ []) ∷ []) row)) none
        ∙ id-kept asked.included row
    go false = id-left asked.excluded row (or_parts _ _ (or_parts _ _ none).0).1

pub unasked_id_stays : (members row : List Field) (p : Project) → project_in (document (fields_of members)) ≡ Ok p → has_name (codes "_id") members ≡ false
    → filter (λ f. bytes_eq f.0 (codes "_id")) (projected p row) ≡ filter (λ f. bytes_eq f.0 (codes "_id")) row
unfolding project_in
unasked_id_stays [] row p is other = absurd cc
unasked_id_stays (f ∷ fs) row p is other = go (members_in nothing_asked (f ∷ fs)) refl (sym (project-some (f ∷ fs) (λ e. cc)) ∙ is)
  where
    go : (r : Result AskedMembers PipelineFault) → members_in nothing_asked (f ∷ fs) ≡ r → (r >>= λ asked. Ok (project_form asked)) ≡ Ok p
        → filter (λ g. is_the_id g.0) (projected p row) ≡ filter (λ g. is_the_id g.0) row
    go (Err e) asks shows = absurd cc
    go (Ok asked) asks shows =
        let same : project_form asked ≡ p = cc in
        ap (λ q. filter (λ g. is_the_id g.0) (projected q row)) (sym same) ∙ form-keeps asked row (members-more (f ∷ fs) nothing_asked asked other refl asks)
