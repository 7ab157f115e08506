-- What sections contain, one after the other.
use Rattle.std.proofs.Common.{◌≡◌, ℕ, List, [], ◌∷◌, ◌++◌, ◌⊎◌, map, take, Result, Ok, Err, refl, sym, ap, ◌∙◌, inl, inr}
use Rattle.std.proofs.lemmas.List.{map-append}
use Rattle.dv_value.specs.declared.fault.BsonFault.{BsonFault}
use Rattle.dv_value.specs.declared.fault.BsonFault.TheVariants.{NoMemory}
use Rattle.dv_value.specs.Tree.{Field}
use Rattle.dv_value.specs.Results.{◌>>=◌}
use Rattle.dv_command.specs.declared.command.Command.{Command}
use Rattle.dv_command.specs.declared.command.Command.TheVariants.{Sections, Invalid}
use Rattle.dv_command.specs.Asked.{command_name}
use Rattle.dv_command.specs.Lists.{CommandLists}
use Rattle.dv_command.specs.Inner.Needed.{front_needed, needed, needed_of}
use Rattle.dv_message.specs.Sections.{Section, body, named}
use Rattle.dv_message.specs.Commands.{fields_in, each_read, SectionRead, read_body, read_list, section_read, body_among, lists_among, read_in, command_from}
use Rattle.dv_message.specs.Inner.CommandsView.{list_front, needed_read}
use Rattle.dv_message.proofs.Reading.{read_last, read_stops, reads_last}

body_last : (before : List Field) (brought : List SectionRead) (fields : List Field) → body_among before (brought ++ read_body fields ∷ []) ≡ fields
body_last before [] fields = refl
body_last before (read_body other ∷ brought) fields = body_last other brought fields
body_last before (read_list name documents ∷ brought) fields = body_last before brought fields

body_past : (before : List Field) (brought : List SectionRead) (name : List ℕ) (documents : List (List Field)) → body_among before (brought ++ read_list name documents ∷ []) ≡ body_among before brought
body_past before [] name documents = refl
body_past before (read_body other ∷ brought) name documents = body_past other brought name documents
body_past before (read_list n ds ∷ brought) name documents = body_past before brought name documents

lists_last : (brought : List SectionRead) (name : List ℕ) (documents : List (List Field)) → lists_among (brought ++ read_list name documents ∷ []) ≡ lists_among brought ++ (name, documents) ∷ []
lists_last [] name documents = refl
lists_last (read_body other ∷ brought) name documents = lists_last brought name documents
lists_last (read_list n ds ∷ brought) name documents = ap (λ (ls : List (List ℕ × List (List Field))). (n, ds) ∷ ls) (lists_last brought name documents)

lists_past : (brought : List SectionRead) (fields : List Field) → lists_among (brought ++ read_body fields ∷ []) ≡ lists_among brought
lists_past [] fields = refl
lists_past (read_body other ∷ brought) fields = lists_past brought fields
lists_past (read_list n ds ∷ brought) fields = ap (λ (ls : List (List ℕ × List (List Field))). (n, ds) ∷ ls) (lists_past brought fields)

-- these sections are read, and contain this body and these lists
pub record AreRead (sections : List Section) (fields : List Field) (lists : List (List ℕ × List (List Field))) : Type 0 where
  pub brought : List SectionRead
  pub read : each_read section_read sections ≡ Ok brought
  pub body_is : body_among [] brought ≡ fields
  pub lists_are : lists_among brought ≡ lists

pub none_read : AreRead [] [] []
none_read = record { brought = []; read = refl; body_is = refl; lists_are = refl }

module _ (sections : List Section) (fields : List Field) (lists : List (List ℕ × List (List Field))) (so_far : AreRead sections fields lists) where
  pub as_read : read_in sections ≡ Ok (fields, lists)
  as_read = rw (so_far.read, so_far.body_is, so_far.lists_are) refl

  pub body_read : (more : List Section) (document : List ℕ) (now : List Field) → more ≡ sections ++ body document ∷ [] → fields_in document ≡ Ok now → AreRead more now lists
  body_read more document now is e =
      let one : section_read (body document) ≡ Ok (read_body now) = rw e refl in
      record {
        brought = so_far.brought ++ read_body now ∷ [];
        read = ap (each_read section_read) is ∙ read_last section_read sections (body document) so_far.brought (read_body now) so_far.read one;
        body_is = body_last [] so_far.brought now;
        lists_are = lists_past so_far.brought now ∙ so_far.lists_are;
      }

  pub list_read : (more : List Section) (section : Section) (name : List ℕ) (documents : List (List Field)) (now : List (List ℕ × List (List Field))) → more ≡ sections ++ section ∷ []
      → section_read section ≡ Ok (read_list name documents) → now ≡ lists ++ (name, documents) ∷ [] → AreRead more fields now
  list_read more section name documents now is one grown =
      record {
        brought = so_far.brought ++ read_list name documents ∷ [];
        read = ap (each_read section_read) is ∙ read_last section_read sections section so_far.brought (read_list name documents) so_far.read one;
        body_is = body_past [] so_far.brought name documents ∙ so_far.body_is;
        lists_are = lists_last so_far.brought name documents ∙ ap (λ (ls : List (List ℕ × List (List Field))). ls ++ (name, documents) ∷ []) so_far.lists_are ∙ sym grown;
      }

  pub stops : (all behind : List Section) (section : Section) (fault : BsonFault) → all ≡ sections ++ section ∷ behind → section_read section ≡ Err fault → read_in all ≡ Err fault
  stops all behind section fault is e =
      let read : each_read section_read all ≡ Err fault = ap (each_read section_read) is ∙ read_stops section_read sections section behind so_far.brought fault so_far.read e in
      rw read refl

pub body_fault : (section : Section) (document : List ℕ) (fault : BsonFault) → section ≡ body document → (fault ≡ NoMemory) ⊎ (fields_in document ≡ Err fault) → (fault ≡ NoMemory) ⊎ (section_read section ≡ Err fault)
body_fault section document fault is (inl want) = inl want
body_fault section document fault is (inr e) = inr (ap section_read is ∙ rw e refl)

-- ---- the name of the command

-- if these sections are read, their body begins with this name
pub record IsNamed (sections : List Section) (name : List ℕ) : Type 0 where
  pub by : (brought : List SectionRead) → each_read section_read sections ≡ Ok brought → name ≡ command_name (body_among [] brought)

pub not_named : IsNamed [] []
not_named = record { by = λ brought e. let none : [] ≡ brought = cc in ap (λ (all : List SectionRead). command_name (body_among [] all)) none }

body_of : (read : Result (List Field) BsonFault) (brought : SectionRead) (name : List ℕ) → ((fields : List Field) → read ≡ Ok fields → name ≡ command_name fields) → (read >>= λ fields. Ok (read_body fields)) ≡ Ok brought
    → (before : List SectionRead) → name ≡ command_name (body_among [] (before ++ brought ∷ []))
body_of (Ok fields) brought name is e before =
    let one : read_body fields ≡ brought = cc in
    is fields refl ∙ ap command_name (sym (body_last [] before fields)) ∙ ap (λ (b : SectionRead). command_name (body_among [] (before ++ b ∷ []))) one
body_of (Err fault) brought name is e before = absurd cc

list_of : (read : Result (List (List Field)) BsonFault) (brought : SectionRead) (name : List ℕ) → (read >>= λ all. Ok (read_list name all)) ≡ Ok brought
    → (before : List SectionRead) → body_among [] before ≡ body_among [] (before ++ brought ∷ [])
list_of (Ok all) brought name e before =
    let one : read_list name all ≡ brought = cc in
    sym (body_past [] before name all) ∙ ap (λ (b : SectionRead). body_among [] (before ++ b ∷ [])) one
list_of (Err fault) brought name e before = absurd cc

module _ (sections more : List Section) (name : List ℕ) where
  pub named_by_body : (document : List ℕ) → more ≡ sections ++ body document ∷ [] → ((fields : List Field) → fields_in document ≡ Ok fields → name ≡ command_name fields) → IsNamed more name
  named_by_body document is first =
      record {
        by = λ brought e.
            let one = reads_last section_read sections (body document) brought (ap (each_read section_read) (sym is) ∙ e) in
            body_of (fields_in document) one.last name first one.last_is one.before ∙ ap (λ (all : List SectionRead). command_name (body_among [] all)) one.both;
      }

  pub named_before : (list : List ℕ) (documents : List (List ℕ)) → more ≡ sections ++ named list documents ∷ [] → IsNamed sections name → IsNamed more name
  named_before list documents is so_far =
      record {
        by = λ brought e.
            let one = reads_last section_read sections (named list documents) brought (ap (each_read section_read) (sym is) ∙ e) in
            so_far.by one.before one.before_are ∙ ap command_name (list_of (each_read fields_in documents) one.last list one.last_is one.before)
            ∙ ap (λ (all : List SectionRead). command_name (body_among [] all)) one.both;
      }

abbrev told : List SectionRead → Result (List Field × CommandLists) BsonFault
told brought = Ok (body_among [] brought, lists_among brought)

named_all : (read : Result (List SectionRead) BsonFault) (name : List ℕ) → ((brought : List SectionRead) → read ≡ Ok brought → name ≡ command_name (body_among [] brought))
    → (fields : List Field) (lists : CommandLists) → (read >>= told) ≡ Ok (fields, lists) → name ≡ command_name fields
named_all (Ok brought) name is fields lists e =
    let both : ◌≡◌ {A = List Field × CommandLists} (body_among [] brought, lists_among brought) (fields, lists) = cc in
    is brought refl ∙ ap command_name (ap (λ (read : List Field × CommandLists). read.0) both)
named_all (Err fault) name is fields lists e = absurd cc

pub is_named : (sections : List Section) (name : List ℕ) → IsNamed sections name → (fields : List Field) (lists : CommandLists) → read_in sections ≡ Ok (fields, lists) → name ≡ command_name fields
is_named sections name named_so fields lists e = named_all (each_read section_read sections) name named_so.by fields lists e

-- ---- what is kept of lists

-- these sections are read, and of their lists what the command of this name needs is kept
pub record AreKept (command : List ℕ) (sections : List Section) (fields : List Field) (kept : CommandLists) : Type 0 where
  pub lists : CommandLists
  pub read : AreRead sections fields lists
  pub kept_is : map (front_needed (needed_of command)) lists ≡ kept

pub none_kept : (command : List ℕ) → AreKept command [] [] []
none_kept command = record { lists = []; read = none_read; kept_is = refl }

abbrev fronts : List ℕ → ℕ → Result (List (List Field)) BsonFault → Result (List ℕ × List (List Field)) BsonFault
fronts name most read = (read >>= λ all. Ok (take most all)) >>= λ front. let list : Result (List ℕ × List (List Field)) BsonFault = Ok (name, front) in list

abbrev brought_under : List ℕ → Result (List (List Field)) BsonFault → Result SectionRead BsonFault
brought_under name read = read >>= λ all. Ok (read_list name all)

record ListRead (name : List ℕ) (most : ℕ) (documents : List (List ℕ)) (list : List ℕ × List (List Field)) : Type 0 where
  read : List (List Field)
  read_is : each_read fields_in documents ≡ Ok read
  list_is : (name, take most read) ≡ list

list_reads : (name : List ℕ) (most : ℕ) (documents : List (List ℕ)) (read : Result (List (List Field)) BsonFault) (list : List ℕ × List (List Field)) → each_read fields_in documents ≡ read
    → fronts name most read ≡ Ok list → ListRead name most documents list
list_reads name most documents (Ok all) list is e = record { read = all; read_is = is; list_is = cc }
list_reads name most documents (Err fault) list is e = absurd cc

list_fails : (name : List ℕ) (most : ℕ) (read : Result (List (List Field)) BsonFault) (fault : BsonFault) → fronts name most read ≡ Err fault → brought_under name read ≡ Err fault
list_fails name most (Ok all) fault e = absurd cc
list_fails name most (Err f) fault e = let same : f ≡ fault = cc in ap (λ (x : BsonFault). Err x) same

pub list_fault : (name : List ℕ) (most : ℕ) (documents : List (List ℕ)) (fault : BsonFault) → (fault ≡ NoMemory) ⊎ (list_front name most documents ≡ Err fault) → (fault ≡ NoMemory) ⊎ (section_read (named name documents) ≡ Err fault)
list_fault name most documents fault (inl want) = inl want
list_fault name most documents fault (inr e) = inr (list_fails name most (each_read fields_in documents) fault e)

module _ (command : List ℕ) (sections : List Section) (fields : List Field) (kept : CommandLists) (so_far : AreKept command sections fields kept) where
  pub body_kept : (more : List Section) (document : List ℕ) (now : List Field) → more ≡ sections ++ body document ∷ [] → fields_in document ≡ Ok now → AreKept command more now kept
  body_kept more document now is e = record { lists = so_far.lists; read = body_read sections fields so_far.lists so_far.read more document now is e; kept_is = so_far.kept_is }

  pub list_kept : (more : List Section) (name : List ℕ) (documents : List (List ℕ)) (list : List ℕ × List (List Field)) (now : CommandLists) → more ≡ sections ++ named name documents ∷ []
      → list_front name (needed_of command name) documents ≡ Ok list → now ≡ kept ++ list ∷ [] → AreKept command more fields now
  list_kept more name documents list now is e grown =
      let front = front_needed (needed_of command) in
      let one = list_reads name (needed_of command name) documents (each_read fields_in documents) list refl e in
      let brought : section_read (named name documents) ≡ Ok (read_list name one.read) = ap (brought_under name) one.read_is in
      record {
        lists = so_far.lists ++ (name, one.read) ∷ [];
        read = list_read sections fields so_far.lists so_far.read more (named name documents) name one.read (so_far.lists ++ (name, one.read) ∷ []) is brought refl;
        kept_is = map-append front so_far.lists ((name, one.read) ∷ []) ∙ ap (λ (ls : CommandLists). ls ++ front (name, one.read) ∷ []) so_far.kept_is
            ∙ ap (λ (l : List ℕ × List (List Field)). kept ++ l ∷ []) one.list_is ∙ sym grown;
      }

  pub stops_needed : (all behind : List Section) (section : Section) (fault : BsonFault) → all ≡ sections ++ section ∷ behind → (fault ≡ NoMemory) ⊎ (section_read section ≡ Err fault) → (fault ≡ NoMemory) ⊎ (needed_read (read_in all) ≡ Err fault)
  stops_needed all behind section fault is (inl want) = inl want
  stops_needed all behind section fault is (inr e) = inr (ap needed_read (stops sections fields so_far.lists so_far.read all behind section fault is e))

  pub as_needed : ((body : List Field) (lists : CommandLists) → read_in sections ≡ Ok (body, lists) → command ≡ command_name body) → needed_read (read_in sections) ≡ Ok (Sections fields kept)
  as_needed is =
      let read = as_read sections fields so_far.lists so_far.read in
      let by_name : command_name fields ≡ command = sym (is fields so_far.lists read) in
      ap needed_read read ∙ ap (λ (name : List ℕ). let all : Result Command BsonFault = Ok (Sections fields (map (front_needed (needed_of name)) so_far.lists)) in all) by_name
      ∙ ap (λ (ls : CommandLists). let all : Result Command BsonFault = Ok (Sections fields ls) in all) so_far.kept_is

-- ---- a body alone

pub one_read : (document : List ℕ) (fields : List Field) → fields_in document ≡ Ok fields → needed_read (read_in (body document ∷ [])) ≡ Ok (Sections fields [])
one_read document fields e = rw e refl

pub one_fails : (document : List ℕ) (fault : BsonFault) → (fault ≡ NoMemory) ⊎ (fields_in document ≡ Err fault) → (fault ≡ NoMemory) ⊎ (needed_read (read_in (body document ∷ [])) ≡ Err fault)
one_fails document fault (inl want) = inl want
one_fails document fault (inr e) = inr (rw e refl)

-- ---- the command

pub needed_from : (read : Result (List Field × CommandLists) BsonFault) (command : Command) → needed_read read ≡ Ok command → needed (command_from read) ≡ command
needed_from (Ok all) command e = cc
needed_from (Err fault) command e = absurd cc

fault_from : (read : Result (List Field × CommandLists) BsonFault) (fault : BsonFault) → needed_read read ≡ Err fault → needed (command_from read) ≡ Invalid fault
fault_from (Ok all) fault e = absurd cc
fault_from (Err f) fault e = let same : f ≡ fault = cc in ap (λ (x : BsonFault). let command : Command = Invalid x in command) same

pub invalid_from : (read : Result (List Field × CommandLists) BsonFault) (fault : BsonFault) → (fault ≡ NoMemory) ⊎ (needed_read read ≡ Err fault)
    → (needed (command_from read) ≡ Invalid fault) ⊎ (Invalid fault ≡ Invalid NoMemory)
invalid_from read fault (inl want) = inr (ap (λ (x : BsonFault). let command : Command = Invalid x in command) want)
invalid_from read fault (inr e) = inl (fault_from read fault e)
