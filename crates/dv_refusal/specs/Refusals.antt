-- Why commands are refused, and with which codes (MongoDB manual, "Error Codes"; the codes from 900 on are this server's own).
use Rattle.std.specs.Prelude.{◌≡◌, ◌⊎◌, ℕ, List, ◌++◌, Result, Ok, Err, MatchResult, codes}
use Rattle.dv_value.specs.declared.fault.BsonFault.{BsonFault}
use Rattle.dv_value.specs.declared.fault.BsonFault.TheVariants.{NoMemory}
use Rattle.dv_value.specs.Fault.{fault_text}
use Rattle.dv_coll.specs.declared.fault.InsertFault.{InsertFault}
use Rattle.dv_coll.specs.declared.fault.InsertFault.TheVariants as inserting
use Rattle.dv_match.specs.declared.fault.FilterFault.{FilterFault}
use Rattle.dv_match.specs.declared.fault.FilterFault.TheVariants as filtering
use Rattle.dv_update.specs.declared.fault.UpdateFault.{UpdateFault}
use Rattle.dv_update.specs.declared.fault.UpdateFault.TheVariants as updating
use Rattle.dv_row.specs.declared.fault.PipelineFault.{PipelineFault}
use Rattle.dv_row.specs.declared.fault.PipelineFault.TheVariants as piping
use Rattle.dv_refusal.specs.declared.refusal.Refusal.{Refusal}
use Rattle.dv_refusal.specs.declared.refusal.Refusal.TheVariants.{BadValue, FailedToParse, TypeMismatch, InvalidBson, NamespaceNotFound, IndexNotFound, PathNotViable, ConflictingUpdateOperators, CursorNotFound, NamespaceExists, CommandNotFound, ImmutableField, DuplicateKey, WantOfMemory, TooLarge, OnView, LimitReached, ReadByView}

-- the code of a refusal
abbrev pub code : Refusal → ℕ
code BadValue = 2
code FailedToParse = 9
code TypeMismatch = 14
code (InvalidBson fault) = 22
code NamespaceNotFound = 26
code IndexNotFound = 27
code PathNotViable = 28
code ConflictingUpdateOperators = 40
code CursorNotFound = 43
code NamespaceExists = 48
code CommandNotFound = 59
code ImmutableField = 66
code DuplicateKey = 11000
code WantOfMemory = 900
code TooLarge = 901
code OnView = 902
code LimitReached = 903
code ReadByView = 904

-- the name of a refusal's code
abbrev pub code_name : Refusal → List ℕ
code_name BadValue = codes "BadValue"
code_name FailedToParse = codes "FailedToParse"
code_name TypeMismatch = codes "TypeMismatch"
code_name (InvalidBson fault) = codes "InvalidBSON"
code_name NamespaceNotFound = codes "NamespaceNotFound"
code_name IndexNotFound = codes "IndexNotFound"
code_name PathNotViable = codes "PathNotViable"
code_name ConflictingUpdateOperators = codes "ConflictingUpdateOperators"
code_name CursorNotFound = codes "CursorNotFound"
code_name NamespaceExists = codes "NamespaceExists"
code_name CommandNotFound = codes "CommandNotFound"
code_name ImmutableField = codes "ImmutableField"
code_name DuplicateKey = codes "DuplicateKey"
code_name WantOfMemory = codes "WantOfMemory"
code_name TooLarge = codes "TooLarge"
code_name OnView = codes "OnView"
code_name LimitReached = codes "LimitReached"
code_name ReadByView = codes "ReadByView"

-- the message of a refusal: the code's name; for a document that can't be read, also its fault
abbrev pub message_of : Refusal → List ℕ
message_of (InvalidBson fault) = codes "InvalidBSON: " ++ fault_text fault
message_of refusal = code_name refusal

-- the refusal of a command of which a document can't be read, in its body or in a list next to it: for its fault, or because memory
-- ran out
abbrev pub refusal_of : BsonFault → Refusal
refusal_of NoMemory = WantOfMemory
refusal_of fault = InvalidBson fault

-- the refusal of a document that can't be inserted
abbrev pub insert_refusal : InsertFault → Refusal
insert_refusal inserting.Duplicate = DuplicateKey
insert_refusal inserting.NoMemory = WantOfMemory

-- the refusal of a document that isn't a valid filter
abbrev pub filter_refusal : FilterFault → Refusal
filter_refusal filtering.NoMemory = WantOfMemory
filter_refusal fault = BadValue

-- the refusal of an update that isn't valid or can't be applied
abbrev pub update_refusal : UpdateFault → Refusal
update_refusal updating.UnknownOperator = FailedToParse
update_refusal updating.BadOperand = FailedToParse
update_refusal updating.NotNumber = TypeMismatch
update_refusal updating.NotViable = PathNotViable
update_refusal updating.Conflict = ConflictingUpdateOperators
update_refusal updating.IdChanged = ImmutableField
update_refusal updating.Overflow = BadValue
update_refusal updating.NotArray = BadValue
update_refusal updating.TooDeep = BadValue
update_refusal updating.BadName = BadValue
update_refusal updating.TooLarge = TooLarge
update_refusal updating.NoMemory = WantOfMemory

-- the refusal of a list of stages that isn't a valid pipeline
abbrev pub pipeline_refusal : PipelineFault → Refusal
pipeline_refusal piping.UnknownStage = FailedToParse
pipeline_refusal piping.BadSpec = FailedToParse
pipeline_refusal piping.Filter = BadValue
pipeline_refusal piping.Conflict = ConflictingUpdateOperators
pipeline_refusal piping.TooMany = LimitReached
pipeline_refusal piping.NoMemory = WantOfMemory

-- the result, with a refusal instead of a fault
abbrev pub refused_by : {A E : Type 0} → (E → Refusal) → Result A E → Result A Refusal
refused_by refusal (Ok x) = Ok x
refused_by refusal (Err fault) = Err (refusal fault)

-- the call returned the defined result, or a refusal with 900 because memory ran out; `view` says what a value in memory represents
abbrev pub UnlessWanting : {X Y : Type 0} → (X → Y) → Result Y Refusal → Result X Refusal → Type 0
UnlessWanting view defined (Ok x) = defined ≡ Ok (view x)
UnlessWanting view defined (Err refusal) = (defined ≡ Err refusal) ⊎ (refusal ≡ WantOfMemory)

-- the call returned the defined result; `view` says what a value in memory represents
abbrev pub Returns : {X Y : Type 0} → (X → Y) → Result Y Refusal → Result X Refusal → Type 0
Returns view defined result = MatchResult result (λ x. defined ≡ Ok (view x)) (λ refusal. defined ≡ Err refusal)
