-- Rows that have an encoding: the result of a stage for such a row is valid too, if the stage was read from valid values.
use Rattle.std.proofs.Common.{◌≡◌, ◌∙◌, sym, refl, subst, ℕ, ◌||◌, Bool, true, false, List, [], ◌∷◌, ◌++◌, Some, None, Option, Result, Ok, Err, codes, if◌then◌else◌}
use Rattle.std.specs.Bool.{⊤}
use Rattle.std.specs.List.{AllByRecursion, filter_map}
use Rattle.std.specs.Option.{IfSome, option_and_then}
use Rattle.std.specs.Result.{IfOk}
use Rattle.std.specs.Str.{IsUtf8, bytes_eq}
use Rattle.std.proofs.lemmas.Bool.{or_from, or_parts}
use Rattle.dv_value.specs.Names.{begins_with_dollar, has_name, has_zero, value_under, with_value_under, without}
use Rattle.dv_value.specs.Spelling.{IsValue, AreFields}
use Rattle.dv_value.specs.Tree.{Tree, string, document, array, Fields, no_fields, field, Field, fields_of, list_of_fields, list_of_elements}
use Rattle.dv_candidates.specs.Candidates.{Candidate}
use Rattle.dv_path.specs.Expression as paths
use Rattle.dv_row.specs.declared.fault.PipelineFault.{PipelineFault}
use Rattle.dv_row.specs.declared.fault.PipelineFault.TheVariants.{BadSpec}
use Rattle.dv_row.specs.declared.project.Project.{Project}
use Rattle.dv_row.specs.declared.project.Project.TheVariants.{Include, Exclude}
use Rattle.dv_row.specs.Expressions.{Expression, at_path, constant, made, Computed, nothing, computed, with_field_behind, value_of, with_computed}
use Rattle.dv_path.specs.Names.{has_dot}
use Rattle.dv_row.specs.ExpressionParsing.{switch_in, literal_in, text_expression, literal_or_made, under_name, constant_or_fault, constant_in, expression_in, computed_in}
use Rattle.dv_row.specs.Parsing.{path_in}
use Rattle.dv_value.specs.Results.{◌>>=◌, each}
use Rattle.dv_value.specs.Inner.TreeLaws.{fields_again}
use Rattle.dv_value.specs.Inner.NameLaws.{has_name-without}
use Rattle.dv_value.specs.Inner.ValidLaws.{AreValues, either, listed-elements, valid-elements}
use Rattle.dv_value.specs.Inner.ByteLaws.{bytes_eq-symmetric}
use Rattle.dv_row.specs.Row.{Row}

-- `AreFields` of a list
abbrev pub IsValid : Row → Type 0
IsValid [] = ⊤
IsValid (f ∷ fs) = IsUtf8 f.0 × (has_zero f.0 ≡ false) × (has_name f.0 fs ≡ false) × IsValue f.1 × IsValid fs

abbrev pub AreValid : List Row → Type 0
AreValid rows = AllByRecursion IsValid rows

-- an expression whose own values and names are valid
abbrev mutual
  pub IsSound : Expression → Type 0
  IsSound (at_path path) = ⊤
  IsSound (constant v) = IsValue v
  IsSound (made es) = AreSound es

  pub AreSound : Computed → Type 0
  AreSound nothing = ⊤
  AreSound (computed name e es) = IsUtf8 name × IsSound e × AreSound es

abbrev pub IsSoundProject : Project → Type 0
IsSoundProject (Include paths es) = AreSound es
IsSoundProject (Exclude paths) = ⊤

-- ---- lists and trees

pub listed-fields : (fs : Fields) → AreFields fs → IsValid (list_of_fields fs)
listed-fields no_fields valid = tt
listed-fields (field name v fs) valid = (valid.0, valid.1, valid.2, valid.3, listed-fields fs valid.4)

pub fields-valid : (fs : List Field) → AreFields (fields_of fs) → IsValid fs
fields-valid fs valid = subst IsValid (fields_again fs) (listed-fields (fields_of fs) valid)

pub valid-fields : (fs : List Field) → IsValid fs → AreFields (fields_of fs)
valid-fields [] valid = tt
valid-fields (f ∷ fs) valid = (valid.0, valid.1, subst (λ (gs : List Field). has_name f.0 gs ≡ false) (sym (fields_again fs)) valid.2, valid.3, valid-fields fs valid.4)

-- ---- choices and results

pub bound : {X Y : Type 0} (P : X → Type 0) (Q : Y → Type 0) (f : X → Result Y PipelineFault) → ((x : X) → P x → IfOk (f x) Q) → (r : Result X PipelineFault) → IfOk r P → IfOk (r >>= f) Q
bound P Q f sound (Ok x) holds = sound x holds
bound P Q f sound (Err e) holds = tt

-- a fault, or what holds
pub unless : {X : Type 0} (Q : X → Type 0) (b : Bool) (e : PipelineFault) (r : Result X PipelineFault) → IfOk r Q → IfOk (if b then Err e else r) Q
unless Q true e r holds = tt
unless Q false e r holds = holds

pub any-ok : {X : Type 0} (r : Result X PipelineFault) → IfOk r (λ x. ⊤)
any-ok (Ok x) = tt
any-ok (Err e) = tt

pub of-ok : {X : Type 0} (Q : X → Type 0) (r : Result X PipelineFault) (x : X) → r ≡ Ok x → IfOk r Q → Q x
of-ok Q r x is holds = subst (λ r. IfOk r Q) is holds

pub each-sound : {X Y : Type 0} (P : X → Type 0) (Q : Y → Type 0) (f : X → Result Y PipelineFault) → ((x : X) → P x → IfOk (f x) Q) → (xs : List X) → AllByRecursion P xs → IfOk (each f xs) (AllByRecursion Q)
each-sound P Q f sound [] all = tt
each-sound {X} {Y} P Q f sound (x ∷ xs) all =
    bound Q (AllByRecursion Q) (λ y. each f xs >>= λ ys. Ok (y ∷ ys))
    (λ y first. bound (AllByRecursion Q) (AllByRecursion Q) (λ ys. Ok (y ∷ ys)) (λ ys rest. (first, rest)) (each f xs) (each-sound P Q f sound xs all.1)) (f x) (sound x all.0)

-- ---- fields

pub value_under-valid : (name : List ℕ) (fs : List Field) → IsValid fs → IfSome (value_under name fs) IsValue
value_under-valid name [] valid = tt
value_under-valid name (f ∷ fs) valid = either (λ c. IfSome c IsValue) (bytes_eq name f.0) (Some f.1) (value_under name fs) valid.3 (value_under-valid name fs valid.4)

has_name-more : (other name : List ℕ) (v : Tree) (fs : List Field) → has_name other fs ≡ false → bytes_eq other name ≡ false → has_name other (fs ++ (name, v) ∷ []) ≡ false
has_name-more other name v [] absent apart = or_from (bytes_eq other name) false apart refl
has_name-more other name v (f ∷ fs) absent apart = or_from (bytes_eq other f.0) _ (or_parts (bytes_eq other f.0) _ absent).0 (has_name-more other name v fs (or_parts (bytes_eq other f.0) _ absent).1 apart)

pub more-valid : (name : List ℕ) (v : Tree) (fs : List Field) → IsUtf8 name → has_zero name ≡ false → IsValue v → IsValid fs → has_name name fs ≡ false → IsValid (fs ++ (name, v) ∷ [])
more-valid name v [] text whole value valid absent = (text, whole, refl, value, tt)
more-valid name v (f ∷ fs) text whole value valid absent =
    (valid.0, valid.1, has_name-more f.0 name v fs valid.2 (bytes_eq-symmetric f.0 name ∙ (or_parts (bytes_eq name f.0) _ absent).0), valid.3, more-valid name v fs text whole value valid.4 (or_parts (bytes_eq name f.0) _ absent).1)

pub with_field-valid : (name : List ℕ) (c : Candidate) (fs : List Field) → IsUtf8 name → IfSome c IsValue → IsValid fs → IsValid (with_field_behind name c fs)
with_field-valid name None fs text value valid = valid
with_field-valid name (Some v) fs text value valid = go (has_zero name || has_name name fs) refl
  where
    go : (b : Bool) → has_zero name || has_name name fs ≡ b → IsValid (if b then fs else fs ++ (name, v) ∷ [])
    go true e = valid
    go false e = more-valid name v fs text (or_parts (has_zero name) _ e).0 value valid (or_parts (has_zero name) _ e).1

has_name-with : (other name : List ℕ) (v : Tree) (fs : List Field) → has_name other fs ≡ false → has_name other (with_value_under name v fs) ≡ false
has_name-with other name v [] absent = refl
has_name-with other name v (f ∷ fs) absent =
    let Absent : List Field → Type 0 = λ gs. has_name other gs ≡ false in
    either Absent (bytes_eq name f.0) ((f.0, v) ∷ fs) (f ∷ with_value_under name v fs) absent
    (or_from (bytes_eq other f.0) _ (or_parts (bytes_eq other f.0) _ absent).0 (has_name-with other name v fs (or_parts (bytes_eq other f.0) _ absent).1))

pub with_value_under-valid : (name : List ℕ) (v : Tree) (fs : List Field) → IsValue v → IsValid fs → IsValid (with_value_under name v fs)
with_value_under-valid name v [] value valid = tt
with_value_under-valid name v (f ∷ fs) value valid =
    either IsValid (bytes_eq name f.0) ((f.0, v) ∷ fs) (f ∷ with_value_under name v fs) (valid.0, valid.1, valid.2, value, valid.4)
    (valid.0, valid.1, has_name-with f.0 name v fs valid.2, valid.3, with_value_under-valid name v fs value valid.4)

pub without-valid : (name : List ℕ) (fs : List Field) → IsValid fs → IsValid (without name fs)
without-valid name [] valid = tt
without-valid name (f ∷ fs) valid = either IsValid (bytes_eq name f.0) fs (f ∷ without name fs) valid.4 (valid.0, valid.1, has_name-without f.0 name fs valid.2, valid.3, without-valid name fs valid.4)

-- ---- values of expressions

and-then : (rest : Tree → Candidate) → ((w : Tree) → IsValue w → IfSome (rest w) IsValue) → (c : Candidate) → IfSome c IsValue → IfSome (option_and_then rest c) IsValue
and-then rest sound None value = tt
and-then rest sound (Some w) value = sound w value

through-valid : (rest : Tree → Candidate) → ((w : Tree) → IsValue w → IfSome (rest w) IsValue) → (name : List ℕ) (w : Tree) → IsValue w → IfSome (paths.component_entered rest name w) IsValue
through-valid rest sound name (document fs) value = and-then rest sound (value_under name (list_of_fields fs)) (value_under-valid name (list_of_fields fs) (listed-fields fs value))
through-valid rest sound name w value = tt

filtered : (f : Tree → Candidate) → ((w : Tree) → IsValue w → IfSome (f w) IsValue) → (ws : List Tree) → AreValues ws → AreValues (filter_map f ws)
filtered f sound [] values = tt
filtered f sound (w ∷ ws) values = go (f w) refl (sound w values.0) (filtered f sound ws values.1)
  where
    go : (c : Candidate) → f w ≡ c → IfSome c IsValue → AreValues (filter_map f ws) → AreValues (filter_map f (w ∷ ws))
    go None e value rest = rw e rest
    go (Some v) e value rest = rw e (value, rest)

path-valid : (path : List (List ℕ)) (v : Tree) → IsValue v → IfSome (paths.expression path v) IsValue
path-valid [] v value = value
path-valid (name ∷ names) (array vs) value = valid-elements (filter_map (paths.component_entered (paths.expression names) name) (list_of_elements vs)) (filtered (paths.component_entered (paths.expression names) name) (through-valid (paths.expression names) (path-valid names) name) (list_of_elements vs) (listed-elements vs value))
path-valid (name ∷ names) (document fs) value = through-valid (paths.expression names) (path-valid names) name (document fs) value
path-valid (name ∷ names) v value = tt

mutual
  unfolding value_of with_computed paths.expr

  pub value_of-valid : (e : Expression) (d : Row) → IsSound e → IsValid d → IfSome (value_of e d) IsValue
  value_of-valid (at_path path) d sound valid = path-valid path (document (fields_of d)) (valid-fields d valid)
  value_of-valid (constant v) d sound valid = sound
  value_of-valid (made es) d sound valid = valid-fields (with_computed es d []) (with_computed-valid es d [] sound valid tt)

  pub with_computed-valid : (es : Computed) (d fs : Row) → AreSound es → IsValid d → IsValid fs → IsValid (with_computed es d fs)
  with_computed-valid nothing d fs sound valid fields = fields
  with_computed-valid (computed name e es) d fs sound valid fields = with_computed-valid es d (with_field_behind name (value_of e d) fs) sound.2 valid (with_field-valid name (value_of e d) fs sound.0 (value_of-valid e d sound.1 valid) fields)

-- ---- expressions from values

literal_in-valid : (fs : Fields) → AreFields fs → IfSome (literal_in fs) IsValue
literal_in-valid (field name v no_fields) valid = either (λ c. IfSome c IsValue) (bytes_eq (codes "$literal") name) (Some v) None valid.3 tt
literal_in-valid fs valid = tt

constant_in-sound : (plain : Bool) (v : Tree) → IsValue v → IfOk (constant_in plain v) IsSound
constant_in-sound true v value = value
constant_in-sound false v value = go (switch_in v)
  where
    go : (switch : Option Bool) → IfOk (constant_or_fault switch v) IsSound
    go (Some b) = tt
    go None = value

literal_or_made-sound : (c : Candidate) (r : Result Computed PipelineFault) → IfSome c IsValue → IfOk r AreSound → IfOk (literal_or_made c r) IsSound
literal_or_made-sound (Some v) r value sound = value
literal_or_made-sound None r value sound = bound AreSound IsSound (λ es. Ok (made es)) (λ es sound. sound) r sound

text-sound : (text : List ℕ) → IsUtf8 text → IfOk (text_expression text) IsSound
text-sound text value =
    let Sound : Result Expression PipelineFault → Type 0 = λ r. IfOk r IsSound in
    either Sound (begins_with_dollar text) (path_in text >>= λ path. Ok (at_path path)) (Ok (constant (string text)))
    (bound (λ path. ⊤) IsSound (λ path. Ok (at_path path)) (λ path h. tt) (path_in text) (any-ok (path_in text))) value

abbrev pub IsSoundField : List ℕ × Expression → Type 0
IsSoundField f = IsUtf8 f.0 × IsSound f.1

mutual
  unfolding expression_in computed_in

  pub expression_in-sound : (plain : Bool) (v : Tree) → IsValue v → IfOk (expression_in plain v) IsSound
  expression_in-sound plain (string text) value = text-sound text value
  expression_in-sound plain (document fs) value = literal_or_made-sound (literal_in fs) (computed_in plain fs) (literal_in-valid fs value) (computed_in-sound plain fs value)
  expression_in-sound plain (array vs) value = tt
  expression_in-sound plain v value = constant_in-sound plain v value

  computed_in-sound : (plain : Bool) (fs : Fields) → AreFields fs → IfOk (computed_in plain fs) AreSound
  computed_in-sound plain no_fields valid = tt
  computed_in-sound plain (field name v fs) valid =
      bound IsSoundField AreSound (λ e. computed_in plain fs >>= λ es. Ok (computed e.0 e.1 es))
      (λ e sound. bound AreSound AreSound (λ es. Ok (computed e.0 e.1 es)) (λ es sounds. (sound.0, sound.1, sounds)) (computed_in plain fs) (computed_in-sound plain fs valid.4))
      (under_name name (expression_in plain v))
      (unless IsSoundField (begins_with_dollar name || has_dot name) BadSpec (expression_in plain v >>= λ e. Ok (name, e))
      (bound IsSound IsSoundField (λ e. Ok (name, e)) (λ e sound. (valid.0, sound)) (expression_in plain v) (expression_in-sound plain v valid.3)))
