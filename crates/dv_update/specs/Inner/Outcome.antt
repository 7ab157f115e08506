-- Of `Outcome`, what only bodies and proofs need.
use Rattle.std.specs.Prelude.{◌≡◌, ℕ, ◌+◌, ◌≤◌, List, [], ◌∷◌, length, Result, Ok, Err}
use Rattle.dv_value.specs.Results.{◌>>=◌}
use Rattle.dv_value.specs.Spelling.{levels, payload, spelling}
use Rattle.dv_value.specs.Tree.{Tree, document, Field, fields_of}
use Rattle.dv_path.specs.Slots.{Slot}
use Rattle.dv_update.specs.Apply.{applied, checked, edit_at, increased}
use Rattle.dv_update.specs.Outcome.{document_seen, outcome_seen}
use Rattle.dv_update.specs.Update.{Operation, Update, assign, increase}
use Rattle.dv_update.specs.declared.fault.UpdateFault.{UpdateFault}
use Rattle.dv_update.specs.declared.fault.UpdateFault.TheVariants.{NotViable}
use Rattle.dv_update.specs.declared.outcome.Outcome.{Outcome}
use Rattle.dv_update.specs.declared.outcome.Outcome.TheVariants as told

-- the result of an edit under a name for a document, or the first refusal
abbrev pub applied_under : List ℕ → Operation → List Field → Result (List Field) UpdateFault
applied_under name o d = edit_at (name ∷ []) o d >>= checked d

-- the outcome is the result of an update, or of an edit under a name, for a document
abbrev pub IsOutcome : Update → List Field → Outcome → Type 0
IsOutcome update d outcome = applied update d ≡ Ok (document_seen update d outcome)

abbrev pub IsOutcomeUnder : List ℕ → Operation → List Field → Outcome → Type 0
IsOutcomeUnder name o d outcome = applied_under name o d ≡ Ok (outcome_seen name d outcome)

-- the value that an operator puts in a slot, if the operator doesn't read inside documents and arrays
abbrev pub value_by : Operation → Slot → Result Tree UpdateFault
value_by (assign v) s = Ok v
value_by (increase n) s = increased n s
value_by o s = Err NotViable

-- the document stays within the limits if the value is added with this many bytes and levels around it
pub record HasRoom (d : List Field) (around above : ℕ) (v : Tree) : Type 0 where
  pub size : length (spelling d) + (length (payload v) + around) ≤ 16777216
  pub inside : levels v + above ≤ 100
  pub depth : levels (document (fields_of d)) ≤ 100
