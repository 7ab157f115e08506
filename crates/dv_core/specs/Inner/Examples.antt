-- Worked examples of commands on the collection c of the database t. Integers are int32 where nothing else is said.
use Rattle.std.specs.Prelude.{◌≡◌, ℕ, zero, suc, false, List, [], ◌∷◌, ◌++◌, map, pos, negsuc, Ok, Err, codes}
use Rattle.dv_value.specs.Tree.{Tree, null, string, int32, int64, document, no_fields, array, boolean, Field, elements_of}
use Rattle.dv_value.specs.declared.fault.BsonFault.TheVariants.{TooDeep}
use Rattle.dv_command.specs.declared.command.Command.{Command}
use Rattle.dv_command.specs.declared.command.Command.TheVariants.{Sections, Invalid}
use Rattle.dv_command.specs.Asked.{asked_by}
use Rattle.dv_command.specs.Replies.{document_of, hello_reply}
use Rattle.dv_core.specs.declared.outcome.Outcome.TheVariants.{Reply, Wanting, NoReply}
use Rattle.dv_catalog.specs.Marks.{Marks, live, stale}
use Rattle.dv_catalog.specs.State.{with_documents}
use Rattle.dv_refusal.specs.declared.refusal.Refusal.TheVariants.{BadValue, DuplicateKey, OnView}
use Rattle.dv_path.specs.declared.direction.Direction.TheVariants.{Descending}
use Rattle.dv_pipe.specs.declared.stage.Stage.{Stage}
use Rattle.dv_pipe.specs.declared.stage.Stage.TheVariants.{Limit, Sort}
use Rattle.dv_views.specs.Forms.{ViewForm}
use Rattle.dv_core.specs.Load.{loaded, namespace_in}
use Rattle.dv_core.specs.Marks.{marks_behind_all}
use Rattle.dv_core.specs.State.{State, empty_store_state, standing}
use Rattle.dv_core.specs.Step.{step, MemoryStep}

-- ---- words for them

-- the command of a body alone
abbrev pub of_body : List Field → Command
of_body body = Sections body []

-- a command of any session is answered by this reply, and leaves this state
abbrev pub AnswersAlways : State → List Field → List Field → State → Type 0
AnswersAlways old body reply new = (session : ℕ) → step old session (of_body body) ≡ record { reply = reply; state = new }

abbrev pub refusal : ℕ → List ℕ → List Field
refusal code name = (codes "ok", int32 (pos 0)) ∷ (codes "errmsg", string name) ∷ (codes "code", int32 (pos code)) ∷ (codes "codeName", string name) ∷ []

-- a command is refused with this code and its name in any state, and leaves it
abbrev pub IsRefusedAlways : List Field → ℕ → List ℕ → Type 0
IsRefusedAlways body code name = (state : State) → AnswersAlways state body (refusal code name) state

-- with these documents in the collection of a namespace
abbrev pub with_collection : List ℕ → List (List Field) → State → State
with_collection namespace documents state = record state { catalog = record state.catalog { namespaces = with_documents namespace documents state.catalog.namespaces } }

-- the state with these documents alone
abbrev pub holding : List (List Field) → State
holding documents = with_collection (codes "t.c") documents empty_store_state

abbrev pub number : ℕ → Tree
number n = int32 (pos n)

-- these fields, and the database they are for
abbrev pub on : List ℕ → List Field → List Field
on database fields = fields ++ (codes "$db", string database) ∷ []

abbrev pub one_field : List ℕ → Tree → List Field
one_field name value = (name, value) ∷ []

abbrev pub ping_command : List Field
ping_command = (codes "ping", number 1) ∷ []

-- these values into a collection of t
abbrev pub insert_values : List ℕ → List Tree → List Field
insert_values collection values = on (codes "t") ((codes "insert", string collection) ∷ (codes "documents", array (elements_of values)) ∷ [])

-- these documents into c
abbrev pub insert : List (List Field) → List Field
insert documents = insert_values (codes "c") (map document_of documents)

abbrev pub unordered_insert : List (List Field) → List Field
unordered_insert documents = insert documents ++ (codes "ordered", boolean false) ∷ []

abbrev pub find_command : List ℕ → List Field
find_command collection = on (codes "t") ((codes "find", string collection) ∷ [])

abbrev pub find : List Field
find = find_command (codes "c")

-- a find in c by a filter, with other fields
abbrev pub find_by : List Field → List Field → List Field
find_by filter others = find ++ (codes "filter", document_of filter) ∷ others

-- a delete from c with these entries
abbrev pub delete : List (List Field) → List Field
delete entries = on (codes "t") ((codes "delete", string (codes "c")) ∷ (codes "deletes", array (elements_of (map document_of entries))) ∷ [])

-- removes what matches: all of it for 0, the first for 1
abbrev pub deletion : List Field → ℕ → List Field
deletion filter limit = (codes "q", document_of filter) ∷ (codes "limit", number limit) ∷ []

-- a document with an `_id` alone
abbrev pub only : ℕ → List Field
only id = (codes "_id", number id) ∷ []

-- a document with an `_id`, and a value under `a`
abbrev pub with_id_and_a : ℕ → Tree → List Field
with_id_and_a id value = only id ++ one_field (codes "a") value

-- an array of numbers
abbrev pub numbers : List ℕ → Tree
numbers ns = array (elements_of (map number ns))

abbrev pub error : ℕ → ℕ → List ℕ → Tree
error index code message = document_of ((codes "index", number index) ∷ (codes "code", number code) ∷ (codes "errmsg", string message) ∷ [])

-- the statements match this many documents
abbrev pub counted_reply : ℕ → List Field
counted_reply count = (codes "n", number count) ∷ (codes "ok", number 1) ∷ []

-- the statements match this many documents, and the refused ones have these errors
abbrev pub errors_reply : ℕ → List Tree → List Field
errors_reply count errors = (codes "n", number count) ∷ (codes "writeErrors", array (elements_of errors)) ∷ (codes "ok", number 1) ∷ []

-- these documents were found in a namespace
abbrev pub find_reply : List ℕ → List (List Field) → List Field
find_reply namespace documents =
    (codes "cursor", document_of ((codes "firstBatch", array (elements_of (map document_of documents))) ∷ (codes "id", int64 (pos 0)) ∷ (codes "ns", string namespace) ∷ []))
    ∷ (codes "ok", number 1) ∷ []

-- a text of this many letters c
abbrev pub letters : ℕ → List ℕ
letters zero = []
letters (suc count) = 99 ∷ letters count

-- ---- the examples

pub record InsertExamples : Type 0 where
  -- {_id: 5} into nothing
  pub first : AnswersAlways empty_store_state (insert (only 5 ∷ [])) (counted_reply 1) (holding (only 5 ∷ []))
  -- then {_id: 5} as an int64, whose _id is equal
  pub equal : AnswersAlways (holding (only 5 ∷ [])) (insert (((codes "_id", int64 (pos 5)) ∷ []) ∷ []))
      (errors_reply 0 (error 0 11000 (codes "DuplicateKey") ∷ [])) (holding (only 5 ∷ []))
  -- {_id: 2}, {_id: 2} and {_id: 1}: an ordered insert ends at its first error, and an unordered one goes on after it
  pub ordered : AnswersAlways empty_store_state (insert (only 2 ∷ only 2 ∷ only 1 ∷ []))
      (errors_reply 1 (error 1 11000 (codes "DuplicateKey") ∷ [])) (holding (only 2 ∷ []))
  pub unordered : AnswersAlways empty_store_state (unordered_insert (only 2 ∷ only 2 ∷ only 1 ∷ []))
      (errors_reply 2 (error 1 11000 (codes "DuplicateKey") ∷ [])) (holding (only 1 ∷ only 2 ∷ []))
  -- {a: 1, _id: 2} is stored with its _id as the first field
  pub id_behind : AnswersAlways empty_store_state (insert (((codes "a", number 1) ∷ (codes "_id", number 2) ∷ []) ∷ []))
      (counted_reply 1) (holding (((codes "_id", number 2) ∷ (codes "a", number 1) ∷ []) ∷ []))
  -- {a: 1} has no _id, and no collection is made
  pub no_id : AnswersAlways empty_store_state (insert (((codes "a", number 1) ∷ []) ∷ [])) (errors_reply 0 (error 0 2 (codes "BadValue") ∷ [])) empty_store_state
  -- {_id: [1]}, {_id: 1, $a: 1} and {_id: 1, a: {b.c: 1}} are not stored
  pub unfit : AnswersAlways empty_store_state
      (unordered_insert (one_field (codes "_id") (array (elements_of (number 1 ∷ []))) ∷ (only 1 ++ one_field (codes "$a") (number 1)) ∷ (only 1 ++ one_field (codes "a") (document_of (one_field (codes "b.c") (number 1)))) ∷ []))
      (errors_reply 0 (error 0 2 (codes "BadValue") ∷ error 1 2 (codes "BadValue") ∷ error 2 2 (codes "BadValue") ∷ [])) empty_store_state
  -- a document for a database without collections, where another database has {_id: 5} in a collection of the same name
  pub elsewhere : AnswersAlways (holding (only 5 ∷ [])) (on (codes "u") ((codes "insert", string (codes "c")) ∷ (codes "documents", array (elements_of (document_of (only 5) ∷ []))) ∷ []))
      (counted_reply 1) (with_collection (codes "u.c") (only 5 ∷ []) (holding (only 5 ∷ [])))
  -- {_id: 1, a: [{b.c: 1}]} is not stored either
  pub dotted : AnswersAlways empty_store_state (insert ((only 1 ++ one_field (codes "a") (array (elements_of (document_of (one_field (codes "b.c") (number 1)) ∷ [])))) ∷ []))
      (errors_reply 0 (error 0 2 (codes "BadValue") ∷ [])) empty_store_state
  -- numbers come before booleans
  pub classes : AnswersAlways empty_store_state (insert (one_field (codes "_id") (boolean false) ∷ only 1 ∷ [])) (counted_reply 2) (holding (only 1 ∷ one_field (codes "_id") (boolean false) ∷ []))

-- {_id: 1}, {_id: 2} and {_id: 3}
abbrev pub three : List (List Field)
three = only 1 ∷ only 2 ∷ only 3 ∷ []

pub record DeleteExamples : Type 0 where
  -- the first of all documents
  pub first : AnswersAlways (holding three) (delete (deletion [] 1 ∷ [])) (counted_reply 1) (holding (only 2 ∷ only 3 ∷ []))
  -- those with an _id greater than 1
  pub greater : AnswersAlways (holding three) (delete (deletion (one_field (codes "_id") (document_of (one_field (codes "$gt") (number 1)))) 0 ∷ [])) (counted_reply 2) (holding (only 1 ∷ []))
  -- all; the collection stays, without documents
  pub all : AnswersAlways (holding three) (delete (deletion [] 0 ∷ [])) (counted_reply 3) (holding [])
  -- from a collection that doesn't exist; no collection is made
  pub nothing : AnswersAlways empty_store_state (delete (deletion [] 0 ∷ [])) (counted_reply 0) empty_store_state
  -- without a limit
  pub no_limit : AnswersAlways (holding three) (delete (one_field (codes "q") (document no_fields) ∷ [])) (errors_reply 0 (error 0 9 (codes "FailedToParse") ∷ [])) (holding three)
  -- with another limit than 0 and 1
  pub two : AnswersAlways (holding three) (delete (deletion [] 2 ∷ [])) (errors_reply 0 (error 0 2 (codes "BadValue") ∷ [])) (holding three)

-- {_id: 1, a: [0, 5]}, {_id: 2, a: 4} and {_id: 3, a: 1}
abbrev pub bounded : List (List Field)
bounded = with_id_and_a 1 (numbers (0 ∷ 5 ∷ [])) ∷ with_id_and_a 2 (number 4) ∷ with_id_and_a 3 (number 1) ∷ []

-- {_id: 1}, {_id: 2, a: null}, {_id: 3, a: []} and {_id: 4, a: [null]}
abbrev pub nulls : List (List Field)
nulls = only 1 ∷ with_id_and_a 2 null ∷ with_id_and_a 3 (numbers []) ∷ with_id_and_a 4 (array (elements_of (null ∷ []))) ∷ []

-- {_id: 1, a: [3, 1]}, {_id: 2, a: 2}, {_id: 3} and {_id: 4, a: []}
abbrev pub keyed_documents : List (List Field)
keyed_documents = with_id_and_a 1 (numbers (3 ∷ 1 ∷ [])) ∷ with_id_and_a 2 (number 2) ∷ only 3 ∷ with_id_and_a 4 (numbers []) ∷ []

pub record FindExamples : Type 0 where
  -- two bounds, which different elements of an array may meet
  pub between : AnswersAlways (holding bounded) (find_by (one_field (codes "a") (document_of ((codes "$gt", number 1) ∷ (codes "$lt", number 3) ∷ []))) [])
      (find_reply (codes "t.c") (with_id_and_a 1 (numbers (0 ∷ 5 ∷ [])) ∷ [])) (holding bounded)
  -- a field that isn't there counts as null, an empty array doesn't
  pub null_or_missing : AnswersAlways (holding nulls) (find_by (one_field (codes "a") null) []) (find_reply (codes "t.c") (only 1 ∷ with_id_and_a 2 null ∷ with_id_and_a 4 (array (elements_of (null ∷ []))) ∷ [])) (holding nulls)
  -- an empty array comes before null, and a missing field counts as null
  pub ascending : AnswersAlways (holding keyed_documents) (find ++ one_field (codes "sort") (document_of (one_field (codes "a") (number 1))))
      (find_reply (codes "t.c") (with_id_and_a 4 (numbers []) ∷ only 3 ∷ with_id_and_a 1 (numbers (3 ∷ 1 ∷ [])) ∷ with_id_and_a 2 (number 2) ∷ [])) (holding keyed_documents)
  pub descending : AnswersAlways (holding keyed_documents) (find ++ one_field (codes "sort") (document_of (one_field (codes "a") (int32 (negsuc 0)))))
      (find_reply (codes "t.c") (with_id_and_a 1 (numbers (3 ∷ 1 ∷ [])) ∷ with_id_and_a 2 (number 2) ∷ only 3 ∷ with_id_and_a 4 (numbers []) ∷ [])) (holding keyed_documents)
  -- one document is skipped, and one found
  pub window : AnswersAlways (holding three) (find ++ (codes "skip", number 1) ∷ (codes "limit", number 1) ∷ []) (find_reply (codes "t.c") (only 2 ∷ [])) (holding three)

pub record ReadExamples : Type 0 where
  pub greeted : (state : State) → AnswersAlways state (on (codes "t") ((codes "hello", number 1) ∷ [])) hello_reply state
  pub pinged : (state : State) → AnswersAlways state (on (codes "t") ping_command) ((codes "ok", number 1) ∷ []) state
  pub found : AnswersAlways (holding (only 5 ∷ only 6 ∷ [])) find (find_reply (codes "t.c") (only 5 ∷ only 6 ∷ [])) (holding (only 5 ∷ only 6 ∷ []))
  -- no collection is made; a comment is ignored, whatever it is
  pub not_found : AnswersAlways empty_store_state (find ++ (codes "filter", document no_fields) ∷ (codes "comment", number 1) ∷ []) (find_reply (codes "t.c") []) empty_store_state

pub record RefusalExamples : Type 0 where
  pub no_database : IsRefusedAlways ping_command 9 (codes "FailedToParse")
  pub dotted_database : IsRefusedAlways (on (codes "a.b") ping_command) 2 (codes "BadValue")
  pub unknown_command : IsRefusedAlways (on (codes "t") ((codes "count", string (codes "c")) ∷ [])) 59 (codes "CommandNotFound")
  pub no_documents : IsRefusedAlways (on (codes "t") ((codes "insert", string (codes "c")) ∷ [])) 9 (codes "FailedToParse")
  -- 1 is to be inserted, which is no document
  pub no_document : IsRefusedAlways (insert_values (codes "c") (number 1 ∷ [])) 14 (codes "TypeMismatch")
  pub no_collection : IsRefusedAlways (insert_values [] []) 2 (codes "BadValue")
  pub typed_database : IsRefusedAlways (ping_command ++ one_field (codes "$db") (number 1)) 14 (codes "TypeMismatch")
  -- the database is checked before the other fields
  pub database_first : IsRefusedAlways (on (codes "a.b") (one_field (codes "find") (number 1))) 2 (codes "BadValue")
  pub typed_ordered : IsRefusedAlways (insert (only 1 ∷ []) ++ one_field (codes "ordered") (number 1)) 14 (codes "TypeMismatch")
  pub unknown_field : IsRefusedAlways (insert (only 1 ∷ []) ++ one_field (codes "upsert") (boolean false)) 9 (codes "FailedToParse")
  pub projected : IsRefusedAlways (find ++ one_field (codes "projection") (document_of (only 1))) 9 (codes "FailedToParse")
  pub unreadable : (state : State) (session : ℕ) → step state session (Invalid TooDeep)
      ≡ record { reply = (codes "ok", int32 (pos 0)) ∷ (codes "errmsg", string (codes "InvalidBSON: TooDeep")) ∷ (codes "code", int32 (pos 22)) ∷ (codes "codeName", string (codes "InvalidBSON")) ∷ []; state = state }
  -- a list as well as the body
  pub listed : (state : State) (session : ℕ) (list : List ℕ × List (List Field)) → step state session (Sections find (list ∷ []))
      ≡ record { reply = refusal 9 (codes "FailedToParse"); state = state }
  -- a zero byte in a collection's name
  pub zero_in_name : IsRefusedAlways (find_command (99 ∷ 0 ∷ [])) 2 (codes "BadValue")
  -- a namespace of 120 bytes, and one of 121
  pub longest_namespace : AnswersAlways empty_store_state (find_command (letters 118)) (find_reply (codes "t." ++ letters 118) []) empty_store_state
  pub namespace_too_long : IsRefusedAlways (find_command (letters 119)) 2 (codes "BadValue")

-- {_id: 1} and {_id: 2}
abbrev pub two : List (List Field)
two = only 1 ∷ only 2 ∷ []

-- a view over another collection or view of t, with these stages
abbrev pub view_over : List ℕ → List ℕ → List Stage → ViewForm
view_over name source stages = record { name = codes "t." ++ name; source = codes "t." ++ source; stages = stages }

-- with these views, each of which has counted nothing
abbrev pub with_fresh_views : List ViewForm → State → State
with_fresh_views views state = record state { catalog = record state.catalog { views = views }; marks = map (λ v. live 0) views }

-- with a view v over c, which has no stages
abbrev pub viewing : State → State
viewing state = with_fresh_views (view_over (codes "v") (codes "c") [] ∷ []) state

-- with a view v of the documents of c in descending order of `_id`, and a view w of its first row
abbrev pub nesting : State → State
nesting state = with_fresh_views (view_over (codes "v") (codes "c") (Sort ((codes "_id" ∷ [], Descending) ∷ []) ∷ []) ∷ view_over (codes "w") (codes "v") (Limit 1 ∷ []) ∷ []) state

-- with a view v of the first two documents of c, and a view w of its first row
abbrev pub limiting : State → State
limiting state = with_fresh_views (view_over (codes "v") (codes "c") (Limit 2 ∷ []) ∷ view_over (codes "w") (codes "v") (Limit 1 ∷ []) ∷ []) state

-- with eight views, each over the one before, the first over c
abbrev pub chained : State → State
chained state =
    with_fresh_views
    (view_over (codes "1") (codes "c") [] ∷ view_over (codes "2") (codes "1") [] ∷ view_over (codes "3") (codes "2") [] ∷ view_over (codes "4") (codes "3") [] ∷ view_over (codes "5") (codes "4") [] ∷ view_over (codes "6") (codes "5") []
    ∷ view_over (codes "7") (codes "6") [] ∷ view_over (codes "8") (codes "7") [] ∷ []) state

abbrev pub create : List ℕ → List Field
create name = on (codes "t") ((codes "create", string name) ∷ [])

-- a view over another collection, without stages
abbrev pub create_view : List ℕ → List ℕ → List Field
create_view name source = create name ++ (codes "viewOn", string source) ∷ (codes "pipeline", array (elements_of [])) ∷ []

abbrev pub drop : List ℕ → List Field
drop name = on (codes "t") ((codes "drop", string name) ∷ [])

-- all rows, through no stages
abbrev pub aggregate : List ℕ → List Field
aggregate name = on (codes "t") ((codes "aggregate", string name) ∷ (codes "pipeline", array (elements_of [])) ∷ (codes "cursor", document no_fields) ∷ [])

-- what loading documents leaves, or why it is refused
pub record LoadExamples : Type 0 where
  -- {_id: 5} into nothing
  pub first : loaded (codes "t.c") (only 5) empty_store_state ≡ Ok (holding (only 5 ∷ []))
  -- then {_id: 5} as an int64, whose _id is equal
  pub equal : loaded (codes "t.c") ((codes "_id", int64 (pos 5)) ∷ []) (holding (only 5 ∷ [])) ≡ Err DuplicateKey
  -- {a: 1, _id: 2} is stored with its _id as the first field
  pub id_behind : loaded (codes "t.c") ((codes "a", number 1) ∷ (codes "_id", number 2) ∷ []) empty_store_state ≡ Ok (holding (with_id_and_a 2 (number 1) ∷ []))
  -- {a: 1} has no _id
  pub no_id : loaded (codes "t.c") ((codes "a", number 1) ∷ []) empty_store_state ≡ Err BadValue
  -- no documents are stored in a view; this is checked before the document
  pub written : loaded (codes "t.v") ((codes "a", number 1) ∷ []) (viewing empty_store_state) ≡ Err OnView
  -- the first dot ends the name of the database
  pub dotted_collection : namespace_in (codes "t.c.d") ≡ Ok (codes "t.c.d")
  pub no_dot : namespace_in (codes "t") ≡ Err BadValue
  pub no_database : namespace_in (codes ".c") ≡ Err BadValue
  pub no_collection : namespace_in (codes "t.") ≡ Err BadValue
  pub dollar : namespace_in (codes "t.$c") ≡ Err BadValue
  pub zero_in_database : namespace_in (0 ∷ codes ".c") ≡ Err BadValue
  -- a namespace of 120 bytes, and one of 121
  pub longest : namespace_in (codes "t." ++ letters 118) ≡ Ok (codes "t." ++ letters 118)
  pub too_long : namespace_in (codes "t." ++ letters 119) ≡ Err BadValue

abbrev pub done : List Field
done = (codes "ok", number 1) ∷ []

abbrev pub dropped_reply : List ℕ → List Field
dropped_reply namespace = (codes "ns", string namespace) ∷ done

-- an answer leaves the marks unchanged: the marks after a command are stated separately, in `MarkExamples`
pub record ViewExamples : Type 0 where
  pub created : AnswersAlways empty_store_state (create_view (codes "v") (codes "c")) done (standing [] (viewing empty_store_state))
  -- a view reads c, which doesn't exist; so no view may be created under that name, but a collection may
  pub read : AnswersAlways (viewing empty_store_state) (create_view (codes "c") (codes "d")) (refusal 904 (codes "ReadByView")) (viewing empty_store_state)
  pub collection : AnswersAlways (viewing empty_store_state) (create (codes "c")) done (viewing (holding []))
  -- a view over itself, one over a view, and one over the eighth of a chain
  pub itself : AnswersAlways (viewing empty_store_state) (create_view (codes "w") (codes "w")) (refusal 904 (codes "ReadByView")) (viewing empty_store_state)
  pub over_view : AnswersAlways (viewing empty_store_state) (create_view (codes "w") (codes "v")) done
      (standing (live 0 ∷ []) (with_fresh_views (view_over (codes "v") (codes "c") [] ∷ view_over (codes "w") (codes "v") [] ∷ []) empty_store_state))
  pub ninth : AnswersAlways (chained empty_store_state) (create_view (codes "9") (codes "8")) (refusal 903 (codes "LimitReached")) (chained empty_store_state)
  -- a view where there is a view
  pub again : AnswersAlways (viewing empty_store_state) (create_view (codes "v") (codes "c")) (refusal 48 (codes "NamespaceExists")) (viewing empty_store_state)
  -- a collection where there is a collection
  pub collection_again : AnswersAlways (holding two) (create (codes "c")) (refusal 48 (codes "NamespaceExists")) (holding two)
  -- a view takes no documents
  pub written : AnswersAlways (viewing empty_store_state) (insert_values (codes "v") (document_of (only 1) ∷ [])) (refusal 902 (codes "OnView")) (viewing empty_store_state)
  -- a view has the documents of c, as long as c has them
  pub empty : AnswersAlways (viewing empty_store_state) (find_command (codes "v")) (find_reply (codes "t.v") []) (viewing empty_store_state)
  pub found : AnswersAlways (viewing (holding two)) (find_command (codes "v")) (find_reply (codes "t.v") two) (viewing (holding two))
  pub aggregated : AnswersAlways (viewing (holding two)) (aggregate (codes "v")) (find_reply (codes "t.v") two) (viewing (holding two))
  -- a view over this view has the result of its stages for those rows
  pub nested : AnswersAlways (nesting (holding two)) (find_command (codes "w")) (find_reply (codes "t.w") (only 2 ∷ [])) (nesting (holding two))
  -- a view can't be dropped while another view reads it
  pub read_dropped : AnswersAlways (nesting empty_store_state) (drop (codes "v")) (refusal 904 (codes "ReadByView")) (nesting empty_store_state)
  pub source_dropped : AnswersAlways (viewing (holding two)) (drop (codes "c")) (dropped_reply (codes "t.c")) (viewing empty_store_state)
  pub dropped : AnswersAlways (viewing empty_store_state) (drop (codes "v")) (dropped_reply (codes "t.v")) (standing (live 0 ∷ []) empty_store_state)
  pub nothing_there : AnswersAlways empty_store_state (drop (codes "v")) (refusal 26 (codes "NamespaceNotFound")) empty_store_state

-- the same view, but stale
abbrev pub struck : State → State
struck state = standing (stale ∷ []) (viewing state)

abbrev pub view_stats : List ℕ → List Field
view_stats name = on (codes "t") ((codes "viewStats", string name) ∷ [])

abbrev pub stats_reply : List ℕ → ℕ → ℕ → List Field
stats_reply state rows ticks = (codes "state", string state) ∷ (codes "rows", int64 (pos rows)) ∷ (codes "ticks", int64 (pos ticks)) ∷ done

-- the marks after a command if no view becomes stale
abbrev pub Marking : State → List Field → Marks → Type 0
Marking old body marks = marks_behind_all old (asked_by (of_body body)) ≡ marks

-- the marks of views, and what viewStats returns for them
pub record MarkExamples : Type 0 where
  pub told_live : AnswersAlways (viewing (holding two)) (view_stats (codes "v")) (stats_reply (codes "live") 2 0) (viewing (holding two))
  -- a stale view has no rows
  pub told_stale : AnswersAlways (struck (holding two)) (view_stats (codes "v")) (stats_reply (codes "stale") 0 0) (struck (holding two))
  -- a collection is no view
  pub no_view : AnswersAlways (viewing (holding two)) (view_stats (codes "c")) (refusal 26 (codes "NamespaceNotFound")) (viewing (holding two))
  pub created : Marking empty_store_state (create_view (codes "v") (codes "c")) (live 0 ∷ [])
  pub dropped : Marking (viewing empty_store_state) (drop (codes "v")) []
  -- a stale view is recomputed when it is read, whether or not the find is refused; but not when its source is read
  pub read : Marking (struck (holding two)) (find_command (codes "v")) (live 0 ∷ [])
  pub aggregated : Marking (struck (holding two)) (aggregate (codes "v")) (live 0 ∷ [])
  pub source_read : Marking (struck (holding two)) (find_command (codes "c")) (stale ∷ [])
  -- so are the stale views that it reads, but not those that read it
  pub nested : Marking (standing (stale ∷ stale ∷ []) (nesting (holding two))) (find_command (codes "w")) (live 0 ∷ live 0 ∷ [])
  pub below : Marking (standing (stale ∷ stale ∷ []) (nesting (holding two))) (find_command (codes "v")) (live 0 ∷ stale ∷ [])
  -- a new view reads its source
  pub created_over : Marking (struck empty_store_state) (create_view (codes "w") (codes "v")) (live 0 ∷ live 0 ∷ [])
  -- a change passes from view to view: the stage of v takes in one and returns one, and the stage of w takes in that one and
  -- returns one
  pub passed : Marking (limiting empty_store_state) (insert (only 5 ∷ [])) (live 2 ∷ live 2 ∷ [])
  -- a stale view counts no work
  pub written : Marking (struck empty_store_state) (insert (only 5 ∷ [])) (stale ∷ [])

-- what is reported when memory runs out
pub record WantExamples : Type 0 where
  -- any command may be refused because memory ran out; then nothing is changed
  pub refused : (state : State) (session : ℕ) (command : Command) → MemoryStep state session command (Wanting (refusal 900 (codes "WantOfMemory"))) state
  -- an insert that runs out of memory at its second document
  pub cut : (session : ℕ) → MemoryStep empty_store_state session (of_body (insert (only 5 ∷ only 6 ∷ [])))
      (Wanting (errors_reply 1 (document_of ((codes "index", number 1) ∷ (codes "code", number 900) ∷ (codes "errmsg", string (codes "WantOfMemory")) ∷ (codes "done", number 0) ∷ []) ∷ [])))
      (holding (only 5 ∷ []))
  -- and for whose reply there is no memory
  pub untold : (session : ℕ) → MemoryStep empty_store_state session (of_body (insert (only 5 ∷ only 6 ∷ []))) NoReply (holding (only 5 ∷ []))
  -- a plain reply to a ping never reports that memory ran out
  pub pinged : (state new : State) (session : ℕ) → MemoryStep state session (of_body (on (codes "t") ping_command)) (Reply (refusal 900 (codes "WantOfMemory"))) new → ⊥
