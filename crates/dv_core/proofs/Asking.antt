-- What a sound command asks.
use Rattle.std.proofs.Common.{◌≡◌, ◌≤◌, ℕ, List, [], ◌∷◌, length, Ok, arith}
use Rattle.std.specs.List.{AllByRecursion}
use Rattle.dv_value.specs.Spelling.{AreFields, spelling}
use Rattle.dv_value.specs.Tree.{Field, fields_of}
use Rattle.dv_command.specs.Asked.{Asked, asked_by, asked_under, command_name}
use Rattle.dv_command.specs.Lists.{CommandLists}
use Rattle.dv_pipe.specs.Laws.{AreSpellable}
use Rattle.dv_command.specs.Inner.Sound.{AreValidLists, IsSoundRequest}
use Rattle.dv_command.specs.declared.command.Command.{Command}
use Rattle.dv_command.specs.declared.command.Command.TheVariants.{Sections, Invalid}
use Rattle.dv_core.specs.Sound.{IsSoundCommand, IsSoundDocument}

-- what a body with valid fields asks is sound
abbrev pub AsksSoundly : Type 0
AsksSoundly = (body : List Field) (lists : CommandLists) (asked : Asked) → AreFields (fields_of body) → AreValidLists lists → asked_under (command_name body) body lists ≡ Ok asked → IsSoundRequest (length (spelling body)) asked

pub documents_valid : (ds : List (List Field)) → AllByRecursion IsSoundDocument ds → AreSpellable ds
documents_valid [] sound = tt
documents_valid (d ∷ ds) sound = (sound.0.valid, documents_valid ds sound.1)

lists_valid : (lists : CommandLists) → AllByRecursion (λ list. AllByRecursion IsSoundDocument list.1) lists → AreValidLists lists
lists_valid [] sound = tt
lists_valid (list ∷ lists) sound = (documents_valid list.1 sound.0, lists_valid lists sound.1)

-- how many bytes a command's body has
abbrev pub body_size : Command → ℕ
body_size (Sections body lists) = length (spelling body)
body_size (Invalid fault) = 0

pub body_fits : (command : Command) → IsSoundCommand command → body_size command ≤ 16777216
body_fits (Sections body lists) sound = sound.0.fits.size
body_fits (Invalid fault) sound = omega arith

pub soundly_asked : AsksSoundly → (command : Command) (asked : Asked) → IsSoundCommand command → asked_by command ≡ Ok asked → IsSoundRequest (body_size command) asked
soundly_asked asks (Invalid fault) asked sound is = absurd cc
soundly_asked asks (Sections body lists) asked sound is = asks body lists asked sound.0.valid (lists_valid lists sound.1) is
