-- Stages one after the other.
use Rattle.std.proofs.Common.{◌≡◌, ◌∙◌, ap, sym, refl, Bool, true, false, ◌&&◌, ◌||◌, Option, List, [], ◌∷◌, ◌++◌, ℕ, zero, suc, take, min, filter, Some, None, if◌then◌else◌, arith}
use Rattle.std.specs.List.{flat_map, list_any, AllByRecursion}
use Rattle.std.specs.Str.{bytes_eq}
use Rattle.std.proofs.lemmas.Slice.Eq.{bytes_eq-Decides}
use Rattle.std.proofs.Math.Bool.{and-true}
use Rattle.dv_value.specs.Tree.{int32, int64, string, document, array, boolean, binary, object_id, date, null, timestamp, min_key, max_key}
use Rattle.dv_candidates.specs.Candidates.{Candidate}
use Rattle.dv_match.specs.Filter.{Members}
use Rattle.dv_match.specs.Match.{matches, matches_member, matches_all}
use Rattle.dv_pipe.specs.declared.stage.Stage.{Stage}
use Rattle.dv_pipe.specs.declared.stage.Stage.TheVariants.{Match, Unwind, Limit}
use Rattle.dv_row.specs.declared.unwind.Unwind as form
use Rattle.dv_pipe.specs.Laws.{both, IsNoArrayCandidate, LeadsToNoArray, is_value_but_null, has_value}
use Rattle.dv_pipe.specs.Sources.{Row}
use Rattle.dv_pipe.specs.Stages.{Lists, stage, foreign_of, looked_into, rows_at, through, evaluated, is_source_named, is_read}
use Rattle.dv_row.specs.Unwinding.{reached, unwound_rows, unwound}

pub through_parts : (first second : List Stage) (source : List ℕ) (lists : Lists) (rows : List Row) → through (first ++ second) source lists rows ≡ through second source lists (through first source lists rows)
unfolding through
through_parts [] second source lists rows = refl
through_parts (s ∷ first) second source lists rows = through_parts first second source lists (stage s rows (foreign_of s source lists))

bytes-same : (a : List ℕ) → bytes_eq a a ≡ true
bytes-same a = (bytes_eq-Decides a a).1 refl

module _ (source : List ℕ) (lists others : Lists) where
  abbrev IsSame : (List ℕ → Bool) → Type 0
  IsSame reads = (name : List ℕ) → reads name ≡ true → lists name ≡ others name

  rows-same : (looked : Option (List ℕ)) → IsSame (λ name. is_source_named name looked) → rows_at looked lists ≡ rows_at looked others
  rows-same None same = refl
  rows-same (Some name) same = same name (bytes-same name)

  or-left : (a b : Bool) → a ≡ true → a || b ≡ true
  or-left true b e = refl
  or-left false b e = cc

  or-right : (a b : Bool) → b ≡ true → a || b ≡ true
  or-right true b e = refl
  or-right false b e = e

  pub through_same : (stages : List Stage) (rows : List Row) → IsSame (λ name. list_any (λ s. is_source_named name (looked_into s source)) stages) → through stages source lists rows ≡ through stages source others rows
  unfolding through
  through_same [] rows same = refl
  through_same (s ∷ ss) rows same =
      let rest = λ (name : List ℕ). list_any (λ s. is_source_named name (looked_into s source)) ss in
      ap (λ foreign. through ss source lists (stage s rows foreign)) (rows-same (looked_into s source) (λ name h. same name (or-left (is_source_named name (looked_into s source)) (rest name) h)))
      ∙ through_same ss (stage s rows (foreign_of s source others)) (λ name h. same name (or-right (is_source_named name (looked_into s source)) (rest name) h))

  pub unread : (stages : List Stage) → IsSame (is_read stages source) → evaluated stages source lists ≡ evaluated stages source others
  unread stages same =
      let later = λ (name : List ℕ). list_any (λ s. is_source_named name (looked_into s source)) stages in
      ap (through stages source lists) (same source (or-left (bytes_eq source source) (later source) (bytes-same source)))
      ∙ through_same stages (others source) (λ name h. same name (or-right (bytes_eq source name) (later name) h))

both-match : (f g : Members) (d : Row) → matches (both f g) d ≡ (matches f d && matches g d)
unfolding matches matches_member matches_all
both-match f g d = and-true (matches f d && (matches g d && true)) ∙ ap (λ b. matches f d && b) (and-true (matches g d))

filter-filter : {X : Type 0} (p q r : X → Bool) → ((x : X) → r x ≡ (p x && q x)) → (xs : List X) → filter q (filter p xs) ≡ filter r xs
filter-filter p q r h [] = refl
filter-filter p q r h (x ∷ xs) = both-ways (filter-filter p q r h xs) (p x) refl (q x) refl
  where
    both-ways : filter q (filter p xs) ≡ filter r xs → (a : Bool) → p x ≡ a → (b : Bool) → q x ≡ b → filter q (filter p (x ∷ xs)) ≡ filter r (x ∷ xs)
    both-ways rest false e b f = rw (h x, e) rest
    both-ways rest true e true f = rw (h x, e, f) (ap (λ l. x ∷ l) rest)
    both-ways rest true e false f = rw (h x, e, f) rest

pub match_match : (f g : Members) (rows foreign : List Row) → stage (Match g) (stage (Match f) rows foreign) foreign ≡ stage (Match (both f g)) rows foreign
unfolding stage
match_match f g rows foreign = filter-filter (matches f) (matches g) (matches (both f g)) (both-match f g) rows

take-take : {X : Type 0} (m n : ℕ) (xs : List X) → take m (take n xs) ≡ take (min m n) xs
take-take zero n xs = ap (λ k. take k xs) (let e : zero ≡ min zero n = omega arith in e)
take-take (suc m) zero xs = ap (λ k. take k xs) (let e : zero ≡ min (suc m) zero = omega arith in e)
take-take (suc m) (suc n) [] = sym (take-nil (min (suc m) (suc n)))
  where
    take-nil : {X : Type 0} (k : ℕ) → take {A = X} k [] ≡ []
    take-nil zero = refl
    take-nil (suc k) = refl
take-take (suc m) (suc n) (x ∷ xs) = ap (λ l. x ∷ l) (take-take m n xs) ∙ ap (λ k. take k (x ∷ xs)) (let e : suc (min m n) ≡ min (suc m) (suc n) = omega arith in e)

pub limit_limit : (m n : ℕ) (rows foreign : List Row) → stage (Limit m) (stage (Limit n) rows foreign) foreign ≡ stage (Limit (min m n)) rows foreign
unfolding stage
limit_limit m n rows foreign = take-take m n rows

-- the rows of one row, if there is no array
plain : (u : form.Unwind) (d : Row) (c : Candidate) → u.preserve ≡ false → IsNoArrayCandidate c → unwound_rows u d c ≡ (if is_value_but_null c then d ∷ [] else [])
plain u d None e h = rw e refl
plain u d (Some null) e h = rw e refl
plain u d (Some (array vs)) e h = absurd h
plain u d (Some (int32 n)) e h = refl
plain u d (Some (int64 n)) e h = refl
plain u d (Some (string s)) e h = refl
plain u d (Some (document fs)) e h = refl
plain u d (Some (boolean b)) e h = refl
plain u d (Some (binary subtype bytes)) e h = refl
plain u d (Some (object_id id)) e h = refl
plain u d (Some (date n)) e h = refl
plain u d (Some (timestamp n)) e h = refl
plain u d (Some min_key) e h = refl
plain u d (Some max_key) e h = refl

kept : {X : Type 0} (b : Bool) (x : X) (xs : List X) → (if b then x ∷ [] else []) ++ xs ≡ (if b then x ∷ xs else xs)
kept true x xs = refl
kept false x xs = refl

pub unwind_plain : (u : form.Unwind) (rows foreign : List Row) → u.preserve ≡ false → AllByRecursion (LeadsToNoArray u.path) rows → stage (Unwind u) rows foreign ≡ filter (has_value u.path) rows
unfolding stage unwound
unwind_plain u [] foreign e all = refl
unwind_plain u (d ∷ rows) foreign e all =
    ap (λ l. l ++ flat_map (unwound u) rows) (plain u d (reached u.path d) e all.0) ∙ kept (has_value u.path d) d (flat_map (unwound u) rows) ∙ ap (λ l. if has_value u.path d then d ∷ l else l) (unwind_plain u rows foreign e all.1)
