-- The members of a $project, and documents of expressions, one after the other.
use Rattle.std.proofs.Common.{◌≡◌, ◌∙◌, ap, sym, refl, Bool, true, List, [], ◌∷◌, ℕ, length, Some, None, Result, Ok, Err, codes, ap₂, ◌++◌, ◌⊎◌, inl, inr, if◌then◌else◌}
use Rattle.std.proofs.Math.Bool.{and-true}
use Rattle.std.specs.Str.{bytes_eq}
use Rattle.dv_value.specs.Tree.{Field, document, fields_of}
use Rattle.dv_value.specs.Names.{value_under}
use Rattle.dv_candidates.specs.Path.{path_of}
use Rattle.dv_candidates.specs.declared.fault.PathFault.{PathFault}
use Rattle.dv_candidates.specs.declared.fault.PathFault.TheVariants as paths
use Rattle.dv_row.specs.declared.fault.PipelineFault.{PipelineFault}
use Rattle.dv_row.specs.declared.fault.PipelineFault.TheVariants.{NoMemory}
use Rattle.dv_row.specs.declared.project.Project.TheVariants.{Include, Exclude}
use Rattle.dv_row.specs.Fault.{pipeline_fault_of_path}
use Rattle.dv_row.specs.Expressions.{Expression, Computed, computed, computed_of}
use Rattle.dv_value.specs.Results.{◌>>=◌, each}
use Rattle.dv_value.specs.Inner.TreeLaws.{fields_again}
use Rattle.dv_row.specs.ExpressionParsing.{literal_in, under_name, expression_in, computed_in}
use Rattle.dv_row.specs.ProjectParsing.{one_begins, AskedMembers, nothing_asked, members_in, conflicts_with_asked, includes, with_id_path, project_form, project_in}

pub begins-name : (n name : List ℕ) (rest : List (List ℕ)) → one_begins (n ∷ rest) (name ∷ []) ≡ bytes_eq n name
begins-name n name [] = and-true (bytes_eq n name)
begins-name n name (m ∷ rest) = and-true (bytes_eq n name)

pub literal-others : (fs : List Field) → (length fs ≡ 1 → ⊥) → None ≡ literal_in (fields_of fs)
literal-others [] h = refl
literal-others (f ∷ []) h = absurd (h refl)
literal-others (f ∷ g ∷ fs) h = refl

pub literal-one : (fs : List Field) → length fs ≡ 1 → value_under (codes "$literal") fs ≡ literal_in (fields_of fs)
literal-one [] h = absurd cc
literal-one (f ∷ []) h = refl
literal-one (f ∷ g ∷ fs) h = absurd cc

abbrev pub computed_field : Bool → Field → Result (List ℕ × Expression) PipelineFault
computed_field plain f = under_name f.0 (expression_in plain f.1)

tied : (a : Result (List ℕ × Expression) PipelineFault) (c : Result (List (List ℕ × Expression)) PipelineFault) (z : Result Computed PipelineFault) → z ≡ (c >>= λ es. Ok (computed_of es))
    → (a >>= λ e. z >>= λ es. Ok (computed e.0 e.1 es)) ≡ ((a >>= λ e. c >>= λ es. Ok (e ∷ es)) >>= λ es. Ok (computed_of es))
tied (Err e) c z same = refl
tied (Ok y) (Err e) z same = ap (λ r. r >>= λ es. Ok (computed y.0 y.1 es)) same
tied (Ok y) (Ok ys) z same = ap (λ r. r >>= λ es. Ok (computed y.0 y.1 es)) same

computed-each : (plain : Bool) (fs : List Field) → computed_in plain (fields_of fs) ≡ (each (computed_field plain) fs >>= λ es. Ok (computed_of es))
unfolding computed_in
computed-each plain [] = refl
computed-each plain (f ∷ fs) = tied (computed_field plain f) (each (computed_field plain) fs) (computed_in plain (fields_of fs)) (computed-each plain fs)

pub computed-fault : (plain : Bool) (fs : List Field) (e : PipelineFault) → each (computed_field plain) fs ≡ Err e → computed_in plain (fields_of fs) ≡ Err e
computed-fault plain fs e told = computed-each plain fs ∙ ap (λ r. r >>= λ es. Ok (computed_of es)) told

pub computed-all : (plain : Bool) (fs : List Field) (es : List (List ℕ × Expression)) → each (computed_field plain) fs ≡ Ok es → computed_in plain (fields_of fs) ≡ Ok (computed_of es)
computed-all plain fs es parsed = computed-each plain fs ∙ ap (λ r. r >>= λ es. Ok (computed_of es)) parsed

-- ---- the form

pub id-path : path_of (codes "_id") ≡ Some (codes "_id" ∷ [])
unfolding path_of
id-path = refl

pub id-fault : (e : PathFault) → (e ≡ paths.NoMemory) ⊎ ((e ≡ paths.EmptyComponent) × (path_of (codes "_id") ≡ None)) → pipeline_fault_of_path e ≡ NoMemory
id-fault e (inl m) = ap pipeline_fault_of_path m
id-fault e (inr missing) = let same : Some (codes "_id" ∷ []) ≡ None = sym id-path ∙ missing.1 in cc

pub id-is : (p : List (List ℕ)) → path_of (codes "_id") ≡ Some p → p ≡ codes "_id" ∷ []
id-is p e = let same : Some (codes "_id" ∷ []) ≡ Some p = sym id-path ∙ e in cc

pub form-is : (asked : AskedMembers) (has : Bool) (included : List (List (List ℕ))) (es : Computed) → includes asked ≡ true → conflicts_with_asked (codes "_id" ∷ []) asked ≡ has
    → included ≡ (if has then asked.included else asked.included ++ (codes "_id" ∷ []) ∷ []) → es ≡ computed_of asked.computed → project_form asked ≡ Include included es
form-is asked has included es shows con is computes =
    ap (λ b. if b then Include (with_id_path asked) (computed_of asked.computed) else Exclude asked.excluded) shows ∙ ap₂ Include (ap (λ b. if b then asked.included else asked.included ++ (codes "_id" ∷ []) ∷ []) con ∙ sym is) (sym computes)

pub project-some : (d : List Field) → (d ≡ [] → ⊥) → project_in (document (fields_of d)) ≡ (members_in nothing_asked d >>= λ asked. Ok (project_form asked))
unfolding project_in
project-some [] some = absurd (some refl)
project-some (f ∷ d) some = ap (λ l. members_in nothing_asked (f ∷ l) >>= λ asked. Ok (project_form asked)) (fields_again d)
