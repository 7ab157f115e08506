-- What the parts of a step give.
use Rattle.std.specs.Prelude.{◌≡◌, ◌≢◌, ◌⊎◌, ℕ, List, [], Result, Ok, Err, ⊤}
use Rattle.dv_value.specs.Tree.{Field}
use Rattle.dv_refusal.specs.declared.refusal.Refusal.{Refusal}
use Rattle.dv_refusal.specs.declared.refusal.Refusal.TheVariants.{WantOfMemory}
use Rattle.dv_command.specs.Asked.{Asked, Create, Drop, Find}
use Rattle.dv_command.specs.Replies.{drop_reply, refusal_reply, reply_of}
use Rattle.dv_cursor.specs.Cursors.{Cursors}
use Rattle.dv_catalog.specs.Marks.{ArePartlyRead, Marks}
use Rattle.dv_catalog.specs.State as stored
use Rattle.dv_catalog.specs.Views.{created, dropped}
use Rattle.dv_core.specs.Find.{reply_to_find}
use Rattle.dv_core.specs.Load.{IsLoaded, loaded}
use Rattle.dv_core.specs.Marks.{marks_where_read, read_by}
use Rattle.dv_core.specs.State.{State}
use Rattle.dv_core.specs.Step.{replying}
use Rattle.dv_core.specs.Told.{batch_told}
use Rattle.dv_core.specs.declared.outcome.Batch.{Batch}
use Rattle.dv_core.specs.declared.outcome.Outcome.{Outcome}
use Rattle.dv_core.specs.declared.outcome.Outcome.TheVariants.{Reply, Wanting, NoReply}
use Rattle.dv_core.specs.declared.outcome.Told.{Told}
use Rattle.dv_core.specs.declared.outcome.Told.TheVariants as tells

-- a command that is refused: its reply, or that memory runs out for it
abbrev pub Refuses : Refusal → Outcome → Type 0
Refuses refusal (Reply reply) = (reply ≡ refusal_reply refusal) × (refusal ≢ WantOfMemory)
Refuses refusal (Wanting reply) = reply ≡ refusal_reply WantOfMemory
Refuses refusal NoReply = ⊤

-- a command that changes nothing: its reply, or why it is refused
abbrev pub TellsReply : Result (List Field) Refusal → Outcome → Type 0
TellsReply (Ok reply) outcome = outcome ≡ Reply reply
TellsReply (Err refusal) outcome = Refuses refusal outcome

-- the body of the reply with a batch, or why it is refused
abbrev pub reply_told : Result Batch Refusal → Result (List Field) Refusal
reply_told (Ok batch) = Ok (batch_told batch)
reply_told (Err refusal) = Err refusal

-- a command that changes a part of the state: its reply, and what it leaves, which is as defined; or why it is refused, and nothing is
-- changed
abbrev pub GivesAndLeaves : {S : Type 0} → Result (List Field × S) Refusal → S → Result (List Field) Refusal → S → Type 0
GivesAndLeaves defined old (Ok reply) new = defined ≡ Ok (reply, new)
GivesAndLeaves defined old (Err refusal) new = ((defined ≡ Err refusal) ⊎ (refusal ≡ WantOfMemory)) × (new ≡ old)

-- the same of a command that is answered with a batch and changes cursors
abbrev pub GivesBatch : (Cursors → Result (List Field × Cursors) Refusal) → Cursors → Result Batch Refusal → Cursors → Type 0
GivesBatch defined old result new = GivesAndLeaves (defined old) old (reply_told result) new

-- the reply to a create, and the collections and views after it
abbrev pub reply_to_create : Create → stored.State → Result (List Field × stored.State) Refusal
reply_to_create asked state = replying (reply_of []) (created asked.namespace asked.view state)

-- the reply to a drop, and the collections and views after it
abbrev pub reply_to_drop : Drop → stored.State → Result (List Field × stored.State) Refusal
reply_to_drop asked state = replying (drop_reply asked.namespace) (dropped asked.namespace state)

-- two finds get the same reply in each session, whatever cursors there are
abbrev pub AreAnsweredAlike : Find → Find → stored.State → Type 0
AreAnsweredAlike one other state = (session : ℕ) (cursors : Cursors) → reply_to_find session one state cursors ≡ reply_to_find session other state cursors

-- a command for whose reply memory may run out after its changes: it is carried out, whether its reply is returned or not; or it is
-- refused (`Ends`)
abbrev pub TellsOrNot : List Field → Outcome → Type 0
TellsOrNot reply (Reply told) = told ≡ reply
TellsOrNot reply (Wanting told) = ⊥
TellsOrNot reply NoReply = ⊤

-- the outcome that is made of a result: the same, except that there may be no memory for the body of a batch
abbrev pub IsMadeOf : Told → Outcome → Type 0
IsMadeOf (tells.Batch batch) outcome = TellsOrNot (batch_told batch) outcome
IsMadeOf (tells.Outcome other) outcome = outcome ≡ other

abbrev pub Ends : {S : Type 0} → Result (List Field × S) Refusal → S → Outcome → S → Type 0
Ends {S} defined old outcome new =
    ((done : List Field × S) × (defined ≡ Ok done) × (new ≡ done.1) × TellsOrNot done.0 outcome)
    ⊎ ((refusal : Refusal) × ((defined ≡ Err refusal) ⊎ (refusal ≡ WantOfMemory)) × Refuses refusal outcome × (new ≡ old))

-- the marks after a command that reads: those after reading what it reads, or, if memory runs out, those with some of the stale
-- views recomputed
abbrev pub StandRead : {B : Type 0} → Asked → State → Result B Refusal → Marks → Type 0
StandRead asked old (Ok x) after = after ≡ marks_where_read (read_by asked) old
StandRead asked old (Err refusal) after = (after ≡ marks_where_read (read_by asked) old) ⊎ ((refusal ≡ WantOfMemory) × ArePartlyRead (read_by asked) old.catalog.views old.marks after)

-- a document is loaded, or it is refused, perhaps only because memory ran out; then nothing is changed
abbrev pub LoadsOne : {B : Type 0} → List ℕ → List Field → State → Result B Refusal → State → Type 0
LoadsOne text d old (Ok x) new = IsLoaded text d old new
LoadsOne text d old (Err refusal) new = ((loaded text d old ≡ Err refusal) ⊎ (refusal ≡ WantOfMemory)) × (new ≡ old)
