-- What reading documents in memory gives.
use Rattle.std.specs.Prelude.{◌≡◌, ◌⊎◌, ℕ, List, take, Result, Ok, Err}
use Rattle.dv_value.specs.declared.fault.BsonFault.{BsonFault}
use Rattle.dv_value.specs.declared.fault.BsonFault.TheVariants.{NoMemory}
use Rattle.dv_value.specs.Results.{◌>>=◌}
use Rattle.dv_value.specs.Tree.{Field}
use Rattle.dv_command.specs.declared.command.Command.{Command}
use Rattle.dv_command.specs.declared.command.Command.TheVariants.{Sections}
use Rattle.dv_command.specs.Lists.{CommandLists}
use Rattle.dv_command.specs.Inner.Needed.{needed}
use Rattle.dv_message.specs.Commands.{fields_in, each_read}

-- what was read is this, or the same fault; or memory ran out
abbrev pub ReadAs : {X Y : Type 0} → (X → Y) → Result X BsonFault → Result Y BsonFault → Type 0
ReadAs view (Ok x) read = read ≡ Ok (view x)
ReadAs view (Err fault) read = (fault ≡ NoMemory) ⊎ (read ≡ Err fault)

-- the first of these documents, at most `most`, if all can be read
abbrev pub front_read : ℕ → List (List ℕ) → Result (List (List Field)) BsonFault
front_read most documents = each_read fields_in documents >>= λ all. Ok (take most all)

abbrev pub list_front : List ℕ → ℕ → List (List ℕ) → Result (List ℕ × List (List Field)) BsonFault
list_front name most documents = front_read most documents >>= λ front. Ok (name, front)

-- what is needed of a command that was read
abbrev pub needed_read : Result (List Field × CommandLists) BsonFault → Result Command BsonFault
needed_read read = read >>= λ all. Ok (needed (Sections all.0 all.1))
