-- How kinds, places and rules of fields are represented in memory.
use Rattle.std.specs.Prelude.{ℕ, List}
use Rattle.dv_command.specs.Kinds as kinds
use Rattle.dv_command.specs.declared.rules.FieldKind as code
use Rattle.dv_command.specs.declared.rules.FieldKind.TheVariants.{Anything, Text, Boolean, Document, Documents, Array, Integer, Integers, Natural, HowMany, Update as AnUpdate, OnlyFalse, EmptyDocument, Single, Cursor}
use Rattle.dv_command.specs.declared.rules.FieldPlace as places
use Rattle.dv_command.specs.declared.rules.FieldPlace.TheVariants.{Command, Entry}
use Rattle.dv_command.specs.declared.rules.Rule.{Rule}

abbrev pub kind_seen : code.FieldKind → kinds.Kind
kind_seen Anything = kinds.anything
kind_seen Text = kinds.text
kind_seen Boolean = kinds.boolean
kind_seen Document = kinds.document
kind_seen Documents = kinds.documents
kind_seen Array = kinds.array
kind_seen Integer = kinds.integer
kind_seen Integers = kinds.integers
kind_seen Natural = kinds.natural
kind_seen HowMany = kinds.how_many
kind_seen AnUpdate = kinds.update
kind_seen OnlyFalse = kinds.only_false
kind_seen EmptyDocument = kinds.empty_document
kind_seen Single = kinds.single
kind_seen Cursor = kinds.cursor

abbrev pub place_seen : places.FieldPlace → kinds.FieldPlace
place_seen Command = kinds.command
place_seen Entry = kinds.entry

abbrev pub rule_seen : Rule → List ℕ × kinds.Kind
rule_seen r = (r.0.now, kind_seen r.1)
