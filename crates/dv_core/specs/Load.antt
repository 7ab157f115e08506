-- Loading documents into a collection, outside any session: each is inserted alone.
use Rattle.std.specs.Prelude.{◌≡◌, ◌⊎◌, ◌==◌, ◌&&◌, ℕ, ℤ, pos, List, Result, Ok, Err, if◌then◌else◌}
use Rattle.std.specs.List.{after_first, before_first}
use Rattle.dv_value.specs.Tree.{Field}
use Rattle.dv_catalog.specs.Changes.{Effect, apply, changes_of, done_to}
use Rattle.dv_catalog.specs.Marks.{AreMarkedBy}
use Rattle.dv_catalog.specs.State.{collection_of, is_view, lists_of}
use Rattle.dv_core.specs.Writes.{insert_one}
use Rattle.dv_core.specs.State.{State, standing}
use Rattle.dv_path.specs.Names.{has_dot}
use Rattle.dv_command.specs.Namespaces.{is_database_name, namespace}
use Rattle.dv_refusal.specs.Refusals.{code}
use Rattle.dv_value.specs.Results.{◌>>=◌}
use Rattle.dv_refusal.specs.declared.refusal.Refusal.{Refusal}
use Rattle.dv_refusal.specs.declared.refusal.Refusal.TheVariants.{BadValue, OnView, WantOfMemory}

-- the namespace that a text gives: the database's name ends at the first dot
abbrev pub namespace_in : List ℕ → Result (List ℕ) Refusal
namespace_in text =
    let database = before_first (λ b. b == 46) text in
    if has_dot text && is_database_name database then namespace database (after_first (λ b. b == 46) text) else Err BadValue

-- the state after an effect on the documents of a namespace
abbrev pub left_by : List ℕ → State → Effect → State
left_by namespace state effect = record state { catalog = record state.catalog { namespaces = apply namespace effect.changes state.catalog.namespaces } }

-- the state after an insert of one document, or its refusal; refused with 902 on a view
abbrev pub insert_alone : List ℕ → List Field → State → Result State Refusal
insert_alone namespace d state =
    if is_view namespace state.catalog.views then Err OnView
    else done_to (collection_of namespace state.catalog.namespaces) (insert_one d) >>= λ effect. Ok (left_by namespace state effect)

-- the state after an insert of one document into the namespace that a text gives, or its refusal
abbrev pub loaded : List ℕ → List Field → State → Result State Refusal
loaded text d state = namespace_in text >>= λ namespace. insert_alone namespace d state

-- the document was loaded, which led to the new state; views count the work or become stale
pub record IsLoaded (text : List ℕ) (d : List Field) (old new : State) : Type 0 where
  pub so : loaded text d old ≡ Ok (standing old.marks new)
  pub marks : AreMarkedBy text (changes_of (done_to (collection_of text old.catalog.namespaces) (insert_one d))) (lists_of old.catalog.namespaces) old.catalog.views old.marks new.marks

-- the number is the code of the refusal, or of the refusal that memory ran out
abbrev pub IsCodeOf : {S : Type 0} → Result S Refusal → ℤ → Type 0
IsCodeOf defined number = (refusal : Refusal) × ((defined ≡ Err refusal) ⊎ (refusal ≡ WantOfMemory)) × (number ≡ pos (code refusal))
