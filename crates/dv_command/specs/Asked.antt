-- Parsed commands (MongoDB manual, "Database Commands"). The choice of commands, and the order of the refusals, are this server's own.
use Rattle.std.specs.Prelude.{ℕ, ℤ, Bool, true, false, List, Option, Some, None, Result, Ok, Err, codes, nat_lt, length, if◌then◌else◌, ⊤}
use Rattle.std.specs.Str.{bytes_eq}
use Rattle.dv_value.specs.Names.{value_under}
use Rattle.dv_value.specs.Tree.{Tree, Field}
use Rattle.dv_path.specs.SortSpec.{Part}
use Rattle.dv_match.specs.Filter.{Members}
use Rattle.dv_pipe.specs.declared.stage.Stage.{Stage}
use Rattle.dv_refusal.specs.declared.refusal.Refusal.{Refusal}
use Rattle.dv_refusal.specs.declared.refusal.Refusal.TheVariants.{FailedToParse, CommandNotFound, LimitReached}
use Rattle.dv_refusal.specs.Refusals.{refusal_of}
use Rattle.dv_value.specs.Results.{◌>>=◌, each}
use Rattle.dv_command.specs.Kinds as kinds
use Rattle.dv_command.specs.Fields as reading
use Rattle.dv_command.specs.Fields.{Table, first_name, check_fields, text_field, array_field, text_under, array_under, boolean_under, document_under, document_or_none, integer_under, integers_under, natural_under}
use Rattle.dv_command.specs.Namespaces.{database, namespace}
use Rattle.dv_command.specs.declared.command.Command.{Command}
use Rattle.dv_command.specs.declared.command.Command.TheVariants.{Sections, Invalid}
use Rattle.dv_command.specs.declared.asking.WriteKind.{WriteKind}
use Rattle.dv_command.specs.declared.asking.WriteKind.TheVariants as writes
use Rattle.dv_command.specs.declared.parsing.CommandName.{CommandName}
use Rattle.dv_command.specs.declared.parsing.CommandName.TheVariants.{Alone, Writing}
use Rattle.dv_command.specs.declared.parsing.AloneName.{AloneName}
use Rattle.dv_command.specs.declared.parsing.AloneName.TheVariants as names
use Rattle.dv_command.specs.Tables.{write_table, find_fields, find_table, aggregate_table, get_more_table, kill_cursors_table, create_table, drop_table, create_indexes_table, drop_indexes_table, explain_table, view_stats_table}
use Rattle.dv_command.specs.Lists.{CommandLists, check_alone, check_only, is_alone, listed_documents}
use Rattle.dv_command.specs.Forms.{filter_under, sort_under, stages_asked}
use Rattle.dv_command.specs.Entries.{IndexAsked, index_asked}

-- what an insert, update or delete asks for: entries for a namespace, which are carried out in order; and whether the first refused one
-- ends the command
pub record Write : Type 0 where
  pub kind : WriteKind
  pub namespace : List ℕ
  pub entries : List (List Field)
  pub ordered : Bool

-- what a find asks for: the documents of a namespace that match a filter, sorted, without the first `skip`, and at most `limit` of them
-- (0 means no limit); the size of the first batch, and whether it is the only batch
pub record Find : Type 0 where
  pub namespace : List ℕ
  pub filter : Members
  pub sort : List Part
  pub skip : ℕ
  pub limit : ℕ
  pub batch_size : ℕ
  pub single_batch : Bool

-- what an aggregate asks for: the rows of a pipeline over a namespace; and the size of the first batch
pub record Aggregate : Type 0 where
  pub namespace : List ℕ
  pub stages : List Stage
  pub batch_size : ℕ

-- what a getMore asks for: the next rows of a cursor, at most `batch_size` of them; 0 means as many as fit in a reply
pub record GetMore : Type 0 where
  pub id : ℤ
  pub namespace : List ℕ
  pub batch_size : ℕ

-- what a killCursors asks for: the ids of cursors to close, and their namespace
pub record KillCursors : Type 0 where
  pub namespace : List ℕ
  pub ids : List ℤ

-- the pipeline of a view, and the namespace of its source
pub record ViewOn : Type 0 where
  pub source : List ℕ
  pub stages : List Stage

-- what a create asks for: a collection, or a view if there is a pipeline
pub record Create : Type 0 where
  pub namespace : List ℕ
  pub view : Option ViewOn

-- what a drop asks for: the namespace of a collection or view
pub record Drop : Type 0 where
  pub namespace : List ℕ

-- what a createIndexes asks for: new indexes of a namespace, in order
pub record CreateIndexes : Type 0 where
  pub namespace : List ℕ
  pub indexes : List IndexAsked

-- what a dropIndexes asks for: the name of an index of a namespace; `*` means all but `_id_`
pub record DropIndexes : Type 0 where
  pub namespace : List ℕ
  pub index : List ℕ

-- what an explain asks for: how a find reads documents
pub record Explain : Type 0 where
  pub find : Find

-- what a viewStats asks for: the namespace of a view
pub record ViewStats : Type 0 where
  pub namespace : List ℕ

-- a parsed command
pub data Asked : Type 0 where
  hello : Asked
  ping : Asked
  write : Write → Asked
  find : Find → Asked
  aggregate : Aggregate → Asked
  get_more : GetMore → Asked
  kill_cursors : KillCursors → Asked
  create : Create → Asked
  drop : Drop → Asked
  create_indexes : CreateIndexes → Asked
  drop_indexes : DropIndexes → Asked
  explain : Explain → Asked
  view_stats : ViewStats → Asked

-- the size of a first batch if the command gives none
abbrev pub first_batch_size : ℕ
first_batch_size = 101

-- the greatest number of statements in a command (MongoDB manual, "Write Command Batch Limit Size")
abbrev pub statement_limit : ℕ
statement_limit = 100000

-- refuses more statements with 903
abbrev pub check_count : {A : Type 0} → List A → Result ⊤ Refusal
check_count statements = if nat_lt statement_limit (length statements) then Err LimitReached else Ok tt

-- ---- how each command is parsed: database, fields in written order, lists next to the body, required fields, their meaning

abbrev pub hello_of : List Field → Result Asked Refusal
hello_of body = database body >>= λ _. Ok hello

abbrev pub ping_of : List Field → Result Asked Refusal
ping_of body = database body >>= λ _. Ok ping

-- the database of a command, after its fields are checked by a table
abbrev pub looked_database : Table → List Field → Result (List ℕ) Refusal
looked_database table body =
    database body >>= λ name.
    check_fields kinds.command table body >>= λ _.
    Ok name

-- the database of a command whose body has to be alone, after its fields are checked by a table
abbrev pub checked_database : Table → List Field → Bool → Result (List ℕ) Refusal
checked_database table body alone =
    looked_database table body >>= λ name.
    check_alone alone >>= λ _.
    Ok name

-- the name of the command of a write
abbrev pub write_name : WriteKind → List ℕ
write_name writes.Insert = codes "insert"
write_name writes.Update = codes "update"
write_name writes.Delete = codes "delete"

-- the name of the list of its statements
abbrev pub statements_name : WriteKind → List ℕ
statements_name writes.Insert = codes "documents"
statements_name writes.Update = codes "updates"
statements_name writes.Delete = codes "deletes"

-- parses an insert, update or delete
abbrev pub write_of : WriteKind → List Field → CommandLists → Result Asked Refusal
write_of kind body lists =
    looked_database (write_table (write_name kind) (statements_name kind)) body >>= λ database_name.
    check_only (statements_name kind) lists >>= λ _.
    text_under (write_name kind) body >>= λ collection.
    listed_documents (statements_name kind) body lists >>= λ entries.
    boolean_under (codes "ordered") true body >>= λ ordered.
    namespace database_name collection >>= λ into.
    check_count entries >>= λ _.
    Ok (write (record { kind = kind; namespace = into; entries = entries; ordered = ordered }))

-- parses the fields of a find in a database
abbrev pub find_in : List ℕ → List Field → Result Find Refusal
find_in database_name body =
    text_under (codes "find") body >>= λ collection.
    namespace database_name collection >>= λ from.
    filter_under (codes "filter") body >>= λ filter.
    sort_under (codes "sort") body >>= λ sort.
    natural_under (codes "skip") 0 body >>= λ skip.
    natural_under (codes "limit") 0 body >>= λ limit.
    natural_under (codes "batchSize") first_batch_size body >>= λ batch_size.
    boolean_under (codes "singleBatch") false body >>= λ single_batch.
    Ok (record { namespace = from; filter = filter; sort = sort; skip = skip; limit = limit; batch_size = batch_size; single_batch = single_batch })

abbrev pub find_of : List Field → Bool → Result Asked Refusal
find_of body alone =
    checked_database find_table body alone >>= λ database_name.
    find_in database_name body >>= λ asked.
    Ok (find asked)

-- the size of an aggregate's first batch, from the field `cursor`
abbrev pub cursor_size : List Field → Result ℕ Refusal
cursor_size body =
    document_or_none (codes "cursor") body >>= λ cursor.
    natural_under (codes "batchSize") first_batch_size cursor

abbrev pub aggregate_of : List Field → Bool → Result Asked Refusal
aggregate_of body alone =
    checked_database aggregate_table body alone >>= λ database_name.
    text_under (codes "aggregate") body >>= λ collection.
    array_under (codes "pipeline") body >>= λ list.
    cursor_size body >>= λ batch_size.
    namespace database_name collection >>= λ from.
    stages_asked list >>= λ stages.
    Ok (aggregate (record { namespace = from; stages = stages; batch_size = batch_size }))

abbrev pub get_more_of : List Field → Bool → Result Asked Refusal
get_more_of body alone =
    checked_database get_more_table body alone >>= λ database_name.
    integer_under (codes "getMore") body >>= λ id.
    text_under (codes "collection") body >>= λ collection.
    natural_under (codes "batchSize") 0 body >>= λ batch_size.
    namespace database_name collection >>= λ from.
    Ok (get_more (record { id = id; namespace = from; batch_size = batch_size }))

abbrev pub kill_cursors_of : List Field → Bool → Result Asked Refusal
kill_cursors_of body alone =
    checked_database kill_cursors_table body alone >>= λ database_name.
    text_under (codes "killCursors") body >>= λ collection.
    integers_under (codes "cursors") body >>= λ ids.
    namespace database_name collection >>= λ from.
    Ok (kill_cursors (record { namespace = from; ids = ids }))

-- the fields of a create that make it a view: `viewOn`, a collection of the same database, and `pipeline`
pub record ViewFields : Type 0 where
  pub collection : List ℕ
  pub list : List Tree

-- both fields of a view, or neither; only one of them is refused with 9
abbrev pub view_fields_in : Option Tree → Option Tree → Result (Option ViewFields) Refusal
view_fields_in None None = Ok None
view_fields_in (Some view_on) (Some pipeline) =
    text_field view_on >>= λ collection.
    array_field pipeline >>= λ list.
    Ok (Some (record { collection = collection; list = list }))
view_fields_in view_on pipeline = Err FailedToParse

-- the fields of a view in a create
abbrev pub view_fields : List Field → Result (Option ViewFields) Refusal
view_fields body = view_fields_in (value_under (codes "viewOn") body) (value_under (codes "pipeline") body)

-- the source and the parsed pipeline of a view
abbrev pub view_of : List ℕ → Option ViewFields → Result (Option ViewOn) Refusal
view_of database_name None = Ok None
view_of database_name (Some fields) =
    namespace database_name fields.collection >>= λ source.
    stages_asked fields.list >>= λ stages.
    Ok (Some (record { source = source; stages = stages }))

abbrev pub create_of : List Field → Bool → Result Asked Refusal
create_of body alone =
    checked_database create_table body alone >>= λ database_name.
    text_under (codes "create") body >>= λ collection.
    view_fields body >>= λ fields.
    namespace database_name collection >>= λ name.
    view_of database_name fields >>= λ view.
    Ok (create (record { namespace = name; view = view }))

abbrev pub drop_of : List Field → Bool → Result Asked Refusal
drop_of body alone =
    checked_database drop_table body alone >>= λ database_name.
    text_under (codes "drop") body >>= λ collection.
    namespace database_name collection >>= λ name.
    Ok (drop (record { namespace = name }))

abbrev pub create_indexes_of : List Field → Bool → Result Asked Refusal
create_indexes_of body alone =
    checked_database create_indexes_table body alone >>= λ database_name.
    text_under (codes "createIndexes") body >>= λ collection.
    reading.documents_under (codes "indexes") body >>= λ entries.
    namespace database_name collection >>= λ name.
    each index_asked entries >>= λ indexes.
    Ok (create_indexes (record { namespace = name; indexes = indexes }))

abbrev pub drop_indexes_of : List Field → Bool → Result Asked Refusal
drop_indexes_of body alone =
    checked_database drop_indexes_table body alone >>= λ database_name.
    text_under (codes "dropIndexes") body >>= λ collection.
    text_under (codes "index") body >>= λ index.
    namespace database_name collection >>= λ name.
    Ok (drop_indexes (record { namespace = name; index = index }))

-- the explained command: a document that begins with `find`; anything else is refused with 59
abbrev pub explained_by : Result (List Field) Refusal → Result (List Field) Refusal
explained_by (Ok fields) = if bytes_eq (first_name fields) (codes "find") then Ok fields else Err CommandNotFound
explained_by (Err refusal) = Err CommandNotFound

-- the command in the field `explain`
abbrev pub explained_command : List Field → Result (List Field) Refusal
explained_command body = explained_by (document_under (codes "explain") body)

-- parses an explain; the command in its first field is checked before its other fields
abbrev pub explain_of : List Field → Bool → Result Asked Refusal
explain_of body alone =
    explained_command body >>= λ inside.
    database body >>= λ database_name.
    check_fields kinds.command find_fields inside >>= λ _.
    checked_database explain_table body alone >>= λ _.
    find_in database_name inside >>= λ asked.
    Ok (explain (record { find = asked }))

abbrev pub view_stats_of : List Field → Bool → Result Asked Refusal
view_stats_of body alone =
    checked_database view_stats_table body alone >>= λ database_name.
    text_under (codes "viewStats") body >>= λ collection.
    namespace database_name collection >>= λ name.
    Ok (view_stats (record { namespace = name }))

-- the name of a command: the first name in its body
abbrev pub command_name : List Field → List ℕ
command_name body = first_name body

-- the command with this name, if any
abbrev pub command_named : List ℕ → Option CommandName
command_named text =
    if bytes_eq text (codes "hello") then Some (Alone names.Hello)
    else if bytes_eq text (codes "ping") then Some (Alone names.Ping)
    else if bytes_eq text (codes "insert") then Some (Writing writes.Insert)
    else if bytes_eq text (codes "update") then Some (Writing writes.Update)
    else if bytes_eq text (codes "delete") then Some (Writing writes.Delete)
    else if bytes_eq text (codes "find") then Some (Alone names.Find)
    else if bytes_eq text (codes "aggregate") then Some (Alone names.Aggregate)
    else if bytes_eq text (codes "getMore") then Some (Alone names.GetMore)
    else if bytes_eq text (codes "killCursors") then Some (Alone names.KillCursors)
    else if bytes_eq text (codes "create") then Some (Alone names.Create)
    else if bytes_eq text (codes "drop") then Some (Alone names.Drop)
    else if bytes_eq text (codes "createIndexes") then Some (Alone names.CreateIndexes)
    else if bytes_eq text (codes "dropIndexes") then Some (Alone names.DropIndexes)
    else if bytes_eq text (codes "explain") then Some (Alone names.Explain)
    else if bytes_eq text (codes "viewStats") then Some (Alone names.ViewStats)
    else None

-- parses a command without a list of statements by its name
abbrev pub asked_alone : AloneName → List Field → Bool → Result Asked Refusal
asked_alone names.Hello body alone = hello_of body
asked_alone names.Ping body alone = ping_of body
asked_alone names.Find body alone = find_of body alone
asked_alone names.Aggregate body alone = aggregate_of body alone
asked_alone names.GetMore body alone = get_more_of body alone
asked_alone names.KillCursors body alone = kill_cursors_of body alone
asked_alone names.Create body alone = create_of body alone
asked_alone names.Drop body alone = drop_of body alone
asked_alone names.CreateIndexes body alone = create_indexes_of body alone
asked_alone names.DropIndexes body alone = drop_indexes_of body alone
asked_alone names.Explain body alone = explain_of body alone
asked_alone names.ViewStats body alone = view_stats_of body alone

-- parses a command by its name; an unknown name is refused with 59
abbrev pub asked_as : Option CommandName → List Field → CommandLists → Result Asked Refusal
asked_as None body lists = Err CommandNotFound
asked_as (Some (Writing kind)) body lists = write_of kind body lists
asked_as (Some (Alone name)) body lists = asked_alone name body (is_alone lists)

-- parses a command whose name is a text
abbrev pub asked_under : List ℕ → List Field → CommandLists → Result Asked Refusal
asked_under name body lists = asked_as (command_named name) body lists

-- the parsed command, or the first refusal
abbrev pub asked_by : Command → Result Asked Refusal
asked_by (Invalid fault) = Err (refusal_of fault)
asked_by (Sections body lists) = asked_under (command_name body) body lists
