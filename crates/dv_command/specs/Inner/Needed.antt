-- How much of the lists next to its body a command needs: the rest doesn't change what it asks for.
use Rattle.std.specs.Prelude.{ℕ, suc, List, map, take, Option, Some, if◌then◌else◌}
use Rattle.std.specs.Str.{bytes_eq}
use Rattle.dv_value.specs.Tree.{Field}
use Rattle.dv_command.specs.declared.command.Command.{Command}
use Rattle.dv_command.specs.declared.command.Command.TheVariants.{Sections, Invalid}
use Rattle.dv_command.specs.declared.parsing.CommandName.{CommandName}
use Rattle.dv_command.specs.declared.parsing.CommandName.TheVariants.{Writing}
use Rattle.dv_command.specs.Asked.{command_name, command_named, statement_limit, statements_name}

-- as many documents as a command may have statements, and one more, for which it is refused; of a list of another name none
abbrev pub statements_needed : List ℕ → List ℕ → ℕ
statements_needed statements name = if bytes_eq statements name then suc statement_limit else 0

abbrev pub count_needed : Option CommandName → List ℕ → ℕ
count_needed (Some (Writing kind)) name = statements_needed (statements_name kind) name
count_needed command name = 0

-- how many documents of a list of this name the command of that name needs
unfoldable pub needed_of : List ℕ → List ℕ → ℕ
needed_of command name = count_needed (command_named command) name

-- the first documents of a list, as many as are needed
abbrev pub front_needed : (List ℕ → ℕ) → List ℕ × List (List Field) → List ℕ × List (List Field)
front_needed count list = (list.0, take (count list.0) list.1)

-- a command with what it needs of its lists
abbrev pub needed : Command → Command
needed (Sections body lists) = Sections body (map (front_needed (needed_of (command_name body))) lists)
needed (Invalid fault) = Invalid fault
