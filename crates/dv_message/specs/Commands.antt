-- The command in a message: its documents, or the first fault in them, in the order of the bytes.
use Rattle.std.specs.Prelude.{ℕ, List, [], ◌∷◌, Result, Ok, Err}
use Rattle.dv_value.specs.declared.fault.BsonFault.{BsonFault}
use Rattle.dv_value.specs.Tree.{Field}
use Rattle.dv_bson.specs.Reading.{document_at}
use Rattle.dv_value.specs.Results.{◌>>=◌}
use Rattle.dv_command.specs.declared.command.Command.{Command}
use Rattle.dv_command.specs.declared.command.Command.TheVariants.{Sections, Invalid}
use Rattle.dv_message.specs.Sections.{Section, body, named}
use Rattle.dv_message.specs.Message.{Message}

-- the fields of a document, or its first fault
abbrev pub fields_in : List ℕ → Result (List Field) BsonFault
fields_in document = document_at document >>= λ read. Ok read.0

-- `read` applied to each item in turn: the results, or the first fault
abbrev pub each_read : {A B : Type 0} → (A → Result B BsonFault) → List A → Result (List B) BsonFault
each_read read [] = Ok []
each_read read (x ∷ xs) = read x >>= λ y. each_read read xs >>= λ ys. Ok (y ∷ ys)

-- a section with its documents as fields: the command's body, or a list with its name
pub data SectionRead : Type 0 where
  read_body : List Field → SectionRead
  read_list : List ℕ → List (List Field) → SectionRead

-- the documents of a section as fields, or the first fault
abbrev pub section_read : Section → Result SectionRead BsonFault
section_read (body document) = fields_in document >>= λ fields. Ok (read_body fields)
section_read (named name documents) = each_read fields_in documents >>= λ all. Ok (read_list name all)

-- the body among the sections, or `before` if there is none
abbrev pub body_among : List Field → List SectionRead → List Field
body_among before [] = before
body_among before (read_body fields ∷ others) = body_among fields others
body_among before (read_list name documents ∷ others) = body_among before others

-- the lists among the sections, in order
abbrev pub lists_among : List SectionRead → List (List ℕ × List (List Field))
lists_among [] = []
lists_among (read_body fields ∷ others) = lists_among others
lists_among (read_list name documents ∷ others) = (name, documents) ∷ lists_among others

-- the fields of the body, and the lists in order, or the first fault
abbrev pub read_in : List Section → Result (List Field × List (List ℕ × List (List Field))) BsonFault
read_in sections = each_read section_read sections >>= λ brought. Ok (body_among [] brought, lists_among brought)

-- the command, or one that is invalid because of the fault
abbrev pub command_from : Result (List Field × List (List ℕ × List (List Field))) BsonFault → Command
command_from (Ok read) = Sections read.0 read.1
command_from (Err fault) = Invalid fault

-- the command in a message
abbrev pub command_of : Message → Command
command_of message = command_from (read_in message.sections)
