-- The documents of replies (MongoDB manual, the output of "hello", "insert", "update", "delete", "find", "aggregate", "getMore",
-- "killCursors", "drop", "createIndexes", "dropIndexes" and "explain"). The codes from 900 on with their fields, the protocol versions,
-- and the reply to viewStats are this server's own.
use Rattle.std.specs.Prelude.{ℕ, ◌^◌, ◌-◌, min, Bool, List, [], ◌∷◌, ◌++◌, Option, Some, None, pos, true, false, codes, nat_lt, if◌then◌else◌}
use Rattle.dv_value.specs.Tree.{Tree, string, int32, int64, boolean, document, array, Field, fields_of, elements_of}
use Rattle.dv_refusal.specs.declared.refusal.Refusal.{Refusal}
use Rattle.dv_refusal.specs.declared.refusal.Refusal.TheVariants.{WantOfMemory}
use Rattle.dv_refusal.specs.Refusals.{code, code_name, message_of}

-- a document as a value
abbrev pub document_of : List Field → Tree
document_of d = document (fields_of d)

-- a number as an int64; a greater number becomes the greatest int64
abbrev pub long_count : ℕ → Tree
long_count n = int64 (pos (min n (2 ^ 63 - 1)))

-- a number as an int32 if it fits, otherwise as an int64
abbrev pub count : ℕ → Tree
count n = if nat_lt n (2 ^ 31) then int32 (pos n) else long_count n

-- the reply to a command that succeeded: these fields, and `ok: 1`
abbrev pub reply_of : List Field → List Field
reply_of fields = fields ++ (codes "ok", int32 (pos 1)) ∷ []

-- the reply to hello: the size limits and the protocol versions that the server supports
abbrev pub hello_reply : List Field
hello_reply =
    reply_of (
    (codes "isWritablePrimary", boolean true) ∷ (codes "maxBsonObjectSize", int32 (pos 16777216)) ∷ (codes "maxMessageSizeBytes", int32 (pos 48000000))
    ∷ (codes "maxWriteBatchSize", int32 (pos 100000)) ∷ (codes "minWireVersion", int32 (pos 0)) ∷ (codes "maxWireVersion", int32 (pos 17)) ∷ (codes "readOnly", boolean false) ∷ [])

-- the reply to a refused command
abbrev pub refusal_reply : Refusal → List Field
refusal_reply refusal =
    (codes "ok", int32 (pos 0)) ∷ (codes "errmsg", string (message_of refusal)) ∷ (codes "code", int32 (pos (code refusal))) ∷ (codes "codeName", string (code_name refusal)) ∷ []

-- the error of a statement, with its index, counted from 0
abbrev pub write_error : ℕ → Refusal → List Field
write_error place refusal = (codes "index", int32 (pos place)) ∷ (codes "code", int32 (pos (code refusal))) ∷ (codes "errmsg", string (message_of refusal)) ∷ []

-- the error of a statement that ran out of memory after this many changes
abbrev pub cut_error : ℕ → ℕ → List Field
cut_error place changes = write_error place WantOfMemory ++ (codes "done", count changes) ∷ []

-- the field `writeErrors`, only if there are errors
abbrev pub errors_field : List Tree → List Field
errors_field [] = []
errors_field (e ∷ es) = (codes "writeErrors", array (elements_of (e ∷ es))) ∷ []

-- the reply to an insert or a delete: the count, and the errors of its statements
abbrev pub write_reply : ℕ → List Tree → List Field
write_reply n errors = reply_of ((codes "n", count n) ∷ errors_field errors)

-- the reply to an update: the number of matches, the number of changed documents, and the errors of its statements
abbrev pub update_reply : ℕ → ℕ → List Tree → List Field
update_reply n changed errors = reply_of ((codes "n", count n) ∷ (codes "nModified", count changed) ∷ errors_field errors)

-- the reply to a drop: the namespace that was dropped
abbrev pub drop_reply : List ℕ → List Field
drop_reply namespace = reply_of ((codes "ns", string namespace) ∷ [])

-- a cursor over a namespace: a batch of rows under this name, and the cursor's id, or 0 if no rows are left
abbrev pub cursor_of : List ℕ → List ℕ → ℕ → List Tree → List Field
cursor_of batch namespace id rows = (batch, array (elements_of rows)) ∷ (codes "id", int64 (pos id)) ∷ (codes "ns", string namespace) ∷ []

-- the reply with a batch of rows
abbrev pub batch_reply : List ℕ → List ℕ → ℕ → List Tree → List Field
batch_reply batch namespace id rows = reply_of ((codes "cursor", document_of (cursor_of batch namespace id rows)) ∷ [])

-- the reply to a find or an aggregate
abbrev pub first_batch_reply : List ℕ → ℕ → List Tree → List Field
first_batch_reply namespace id rows = batch_reply (codes "firstBatch") namespace id rows

-- the reply to a getMore
abbrev pub next_batch_reply : List ℕ → ℕ → List Tree → List Field
next_batch_reply namespace id rows = batch_reply (codes "nextBatch") namespace id rows

-- the reply to a killCursors: the closed cursors, and those that were not found
abbrev pub kill_cursors_reply : List Tree → List Tree → List Field
kill_cursors_reply killed missing = reply_of ((codes "cursorsKilled", array (elements_of killed)) ∷ (codes "cursorsNotFound", array (elements_of missing)) ∷ [])

-- the reply to a createIndexes: the number of indexes before and after
abbrev pub create_indexes_reply : ℕ → ℕ → List Field
create_indexes_reply before after = reply_of ((codes "numIndexesBefore", count before) ∷ (codes "numIndexesAfter", count after) ∷ [])

-- the reply to a dropIndexes: the number of indexes before
abbrev pub drop_indexes_reply : ℕ → List Field
drop_indexes_reply before = reply_of ((codes "nIndexesWas", count before) ∷ [])

-- the field `index`, only if an index is used
abbrev pub index_field : Option (List ℕ) → List Field
index_field None = []
index_field (Some name) = (codes "index", string name) ∷ []

-- the reply to an explain: the stage (index, scan or view), the index, and the number of documents that it covers
abbrev pub explain_reply : List ℕ → Option (List ℕ) → ℕ → List Field
explain_reply stage index documents = reply_of (((codes "stage", string stage) ∷ index_field index) ++ (codes "docs", long_count documents) ∷ [])

-- the state of a view, as viewStats returns it
abbrev pub view_state : Bool → List ℕ
view_state true = codes "live"
view_state false = codes "stale"

-- the reply to a viewStats: the view's state, the number of its rows, and its ticks
abbrev pub view_stats_reply : Bool → ℕ → ℕ → List Field
view_stats_reply is_live rows ticks = reply_of ((codes "state", string (view_state is_live)) ∷ (codes "rows", long_count rows) ∷ (codes "ticks", long_count ticks) ∷ [])
