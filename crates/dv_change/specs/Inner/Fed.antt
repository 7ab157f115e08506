-- Changes that operators take in, one operator after the other.
use Rattle.std.specs.Prelude.{◌≡◌, ◌≤◌, ◌+◌, ℕ, List, [], ◌∷◌, ◌++◌, ◌-◌, Option, None, Some, length, nat_lt, if◌then◌else◌, ⊤}
use Rattle.std.specs.List.{AllByRecursion}
use Rattle.dv_change.specs.declared.change.Change.{Change}
use Rattle.dv_change.specs.declared.input.Input.{Input}
use Rattle.dv_change.specs.declared.input.Input.TheVariants.{Left, Named}
use Rattle.dv_change.specs.declared.taking.Taken.{Taken}
use Rattle.dv_change.specs.Changes.{Positioned, with_changes}
use Rattle.dv_change.specs.Inner.Changes.{IsExactChange}
use Rattle.dv_change.specs.Inputs.{left_after}
use Rattle.dv_change.specs.Raised.{raised}
use Rattle.dv_change.specs.Inner.Told.{list_at, told_along, with_old}
use Rattle.dv_change.specs.Work.{Transform, handed, pass, pass_in, stage_rows, through_forms, work, work_in}
use Rattle.dv_change.specs.Inner.Work.{HasAny, forms_after}

-- an operator has taken in its first rows, by changes that insert them; the changes that it returns lead from no rows to its result
pub record IsFilled (makes : Positioned → Positioned) (holds : Positioned → Type 0) (changes : List Change) (made : List Taken) : Type 0 where
  pub held : holds (with_changes [] changes)
  pub outs : List Change
  pub exact : AllByRecursion IsExactChange outs
  pub told : made ≡ told_along [] outs
  pub leads : with_changes [] outs ≡ makes (with_changes [] changes)

-- it has taken in changes of its rows
pub record IsFed (makes : Positioned → Positioned) (holds : Positioned → Type 0) (left : Positioned) (changes : List Change) (before now : List Taken) (first after : ℕ) : Type 0 where
  pub held : holds (with_changes left changes)
  pub out : now ≡ before ++ told_along (makes left) (handed makes left changes)
  pub ticks : after ≡ raised first (length changes + length (handed makes left changes))

-- whatever lists it holds, with no rows, it is filled by the changes that it receives
abbrev pub OperatorFills : {O : Type 0} → (O → List Positioned → Positioned → Positioned) → (O → List Positioned → Positioned → Type 0) → O → O → List Taken → List Taken → Type 0
OperatorFills makes holds old new all made = (others : List Positioned) (changes : List Change) → holds old others [] → AllByRecursion IsExactChange changes → all ≡ told_along [] changes → IsFilled (makes old others) (holds new others) changes made

-- whatever it holds, it takes in the changes of its rows that it receives
abbrev pub OperatorTakes : {O : Type 0} → (O → List Positioned → Positioned → Positioned) → (O → List Positioned → Positioned → Type 0) → O → O → List Taken → List Taken → List Taken → ℕ → ℕ → Type 0
OperatorTakes makes holds old new all before now first after = (others : List Positioned) (left : Positioned) (changes : List Change) → holds old others left → AllByRecursion IsExactChange changes → all ≡ told_along left changes → IsFed (makes old others) (holds new others) left changes before now first after

-- the stored rows, if any are stored, are these
abbrev pub AreKept : Option Positioned → Positioned → Type 0
AreKept None rows = ⊤
AreKept (Some kept) rows = kept ≡ rows

-- the same for one change, provided that the stored rows, if any, are its result
abbrev pub OperatorTakesOne : {O : Type 0} → (O → List Positioned → Positioned → Positioned) → (O → List Positioned → Positioned → Type 0) → Option Positioned → O → O → Taken → List Taken → List Taken → ℕ → ℕ → Type 0
OperatorTakesOne makes holds made old new taken before now first after = (others : List Positioned) (left : Positioned) (changes : List Change) → holds old others left → AllByRecursion IsExactChange changes → taken ∷ [] ≡ told_along left changes → AreKept made (makes old others left) → IsFed (makes old others) (holds new others) left changes before now first after

-- it is about to take in some changes, and so far all is as it should be
pub record IsUnderway (makes : Positioned → Positioned) (holds : Positioned → Type 0) (items : List Taken) (left : Positioned) (changes : List Change) (before now : List Taken) (first after : ℕ) : Type 0 where
  pub rows : Positioned
  pub rest : List Change
  pub are : items ≡ told_along rows rest
  pub exact : AllByRecursion IsExactChange rest
  pub held : holds rows
  pub all : with_changes rows rest ≡ with_changes left changes
  pub out : now ++ told_along (makes rows) (handed makes rows rest) ≡ before ++ told_along (makes left) (handed makes left changes)
  pub ticks : raised after (length rest + length (handed makes rows rest)) ≡ raised first (length changes + length (handed makes left changes))
  pub no_fewer : first ≤ after

-- the list at a place, where the lists that stages read by `$lookup` are counted through all of them
abbrev pub rows_named : ℕ → List Transform → Positioned
rows_named i [] = []
rows_named i (form ∷ forms) = if nat_lt i (length form.named) then list_at i form.named else rows_named (i - length form.named) forms

abbrev pub rows_in : Input → List Transform → Positioned → Positioned
rows_in Left forms rows = rows
rows_in (Named i) forms rows = rows_named i forms

-- a change of an input of stages, with what was at its position
pub record ComesIn (input : Input) (taken : Taken) (change : Change) (forms : List Transform) (rows : Positioned) : Type 0 where
  pub there : HasAny input forms
  pub told : taken ≡ with_old (rows_in input forms rows) change
  pub exact : IsExactChange change

-- for operators: their results for the lists that they read by `$lookup` and for rows, and which of these they have taken in
module _ {O : Type 0} (makes : O → List Positioned → Positioned → Positioned) (holds : O → List Positioned → Positioned → Type 0) where
  -- the operators are of these forms; the first one has taken in these rows, each other one the result of the one before it
  abbrev pub AreHeld : List O → List Transform → Positioned → Type 0
  AreHeld [] [] rows = ⊤
  AreHeld [] (form ∷ forms) rows = ⊥
  AreHeld (o ∷ operators) [] rows = ⊥
  AreHeld (o ∷ operators) (form ∷ forms) rows = (makes o ≡ form.makes) × holds o form.named rows × AreHeld operators forms (stage_rows form rows)

  -- the operators are of these forms, and have taken in no rows
  abbrev pub AreFresh : List O → List Transform → Type 0
  AreFresh [] [] = ⊤
  AreFresh [] (form ∷ forms) = ⊥
  AreFresh (o ∷ operators) [] = ⊥
  AreFresh (o ∷ operators) (form ∷ forms) = (makes o ≡ form.makes) × holds o form.named [] × AreFresh operators forms

  -- changes went through them
  pub record IsPassed (operators : List O) (forms : List Transform) (rows : Positioned) (changes : List Change) (before now : List Taken) (first after : ℕ) : Type 0 where
    pub held : AreHeld operators forms (with_changes rows changes)
    pub out : now ≡ before ++ told_along (through_forms forms rows) (pass forms rows changes)
    pub ticks : after ≡ raised first (work forms rows changes)
    pub leads : with_changes (through_forms forms rows) (pass forms rows changes) ≡ through_forms forms (with_changes rows changes)

  -- a change of an input went through them
  pub record IsPassedIn (input : Input) (change : Change) (operators : List O) (forms : List Transform) (rows : Positioned) (before now : List Taken) (first after : ℕ) : Type 0 where
    pub held : AreHeld operators (forms_after input change forms) (left_after input change rows)
    pub out : now ≡ before ++ told_along (through_forms forms rows) (pass_in input change forms rows)
    pub ticks : after ≡ raised first (work_in input change forms rows)
    pub leads : with_changes (through_forms forms rows) (pass_in input change forms rows) ≡ through_forms (forms_after input change forms) (left_after input change rows)

  -- whatever they hold, the changes that they receive go through them, provided that the stored rows, if any, are the last one's
  -- result
  abbrev pub ChainTakes : Option Positioned → List O → List O → List Taken → List Taken → List Taken → ℕ → ℕ → Type 0
  ChainTakes made old new all before now first after = (forms : List Transform) (rows : Positioned) (changes : List Change) → AreHeld old forms rows → AllByRecursion IsExactChange changes → all ≡ told_along rows changes → AreKept made (through_forms forms rows) → IsPassed new forms rows changes before now first after

  -- so does a change of an input
  abbrev pub ChainTakesIn : Option Positioned → Input → Taken → List O → List O → List Taken → List Taken → ℕ → ℕ → Type 0
  ChainTakesIn made input taken old new before now first after = (forms : List Transform) (rows : Positioned) (change : Change) → AreHeld old forms rows → ComesIn input taken change forms rows → AreKept made (through_forms forms rows) → IsPassedIn input change new forms rows before now first after

  -- whatever lists they hold, with no rows, they are filled by the changes that they receive
  abbrev pub ChainFills : List O → List O → List Taken → List Taken → Type 0
  ChainFills old new all made = (forms : List Transform) (changes : List Change) → AreHeld old forms [] → AllByRecursion IsExactChange changes → all ≡ told_along [] changes → IsFilled (through_forms forms) (AreHeld new forms) changes made

  -- whatever they hold, they hold afterwards
  abbrev pub ChainStays : List O → List O → Type 0
  ChainStays old new = (forms : List Transform) (rows : Positioned) → AreHeld old forms rows → AreHeld new forms rows

  -- they are about to take in the rest of their first rows, and the changes that they have returned so far lead from no rows to
  -- their result
  pub record AreFilling (operators : List O) (forms : List Transform) (items : List Taken) (changes : List Change) (made : List Taken) : Type 0 where
    pub rows : Positioned
    pub rest : List Change
    pub are : items ≡ told_along rows rest
    pub exact : AllByRecursion IsExactChange rest
    pub held : AreHeld operators forms rows
    pub all : with_changes rows rest ≡ with_changes [] changes
    pub outs : List Change
    pub exactly : AllByRecursion IsExactChange outs
    pub told : made ≡ told_along [] outs
    pub leads : with_changes [] outs ≡ through_forms forms rows
