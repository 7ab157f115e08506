-- How commands end for whose reply memory may run out.
use Rattle.std.proofs.Common.{◌≡◌, ℕ, suc, ℤ, Bool, List, [], ◌∷◌, length, map, Result, Ok, Err, IfOk, OnErr, inl, inr, refl, sym, ap, subst}
use Rattle.dv_value.specs.Tree.{Field}
use Rattle.dv_catalog.specs.IndexMaking.{indexes_created, indexes_dropped}
use Rattle.dv_catalog.specs.State.{State}
use Rattle.dv_command.specs.Asked.{CreateIndexes, DropIndexes, KillCursors}
use Rattle.dv_command.specs.Replies.{create_indexes_reply, drop_indexes_reply, kill_cursors_reply}
use Rattle.dv_cursor.specs.Cursors.{Cursors}
use Rattle.dv_value.specs.Results.{◌>>=◌}
use Rattle.dv_refusal.specs.declared.refusal.Refusal.{Refusal}
use Rattle.dv_refusal.specs.declared.refusal.Refusal.TheVariants.{WantOfMemory}
use Rattle.dv_core.specs.declared.outcome.Outcome.{Outcome}
use Rattle.dv_core.specs.declared.outcome.Outcome.TheVariants.{Reply, NoReply}
use Rattle.dv_core.specs.Indexes.{form_asked, index_count, indexed, unindexed}
use Rattle.dv_core.specs.More.{gone_ids, killed, missing_ids, went_each, without_cursor, without_cursors}
use Rattle.dv_core.specs.Inner.StepParts.{Ends, Refuses, TellsOrNot}

-- a reply is returned, or memory ran out for it
pub told_so : {E : Type 0} (reply : List Field) (made : Result (List Field) E) (outcome : Outcome) → IfOk made (λ told. told ≡ reply) → IfOk made (λ told. outcome ≡ Reply told) → OnErr made (outcome ≡ NoReply) → TellsOrNot reply outcome
told_so reply (Ok told) outcome is replies untold = subst (TellsOrNot reply) (sym replies) is
told_so reply (Err fault) outcome is replies untold = subst (TellsOrNot reply) (sym untold) tt

pub done_ends : {S E : Type 0} (defined : Result (List Field × S) Refusal) (old new : S) (reply : List Field) → defined ≡ Ok (reply, new)
    → (made : Result (List Field) E) → IfOk made (λ told. told ≡ reply) → (outcome : Outcome) → IfOk made (λ told. outcome ≡ Reply told) → OnErr made (outcome ≡ NoReply) → Ends defined old outcome new
done_ends defined old new reply is made replied outcome replies untold = inl ((reply, new), is, refl, told_so reply made outcome replied replies untold)

pub wanting_ends : {S : Type 0} (defined : Result (List Field × S) Refusal) (old new : S) (outcome : Outcome) → Refuses WantOfMemory outcome → new ≡ old → Ends defined old outcome new
wanting_ends defined old new outcome refuses same = inr (WantOfMemory, inr refl, refuses, same)

-- ---- indexes

pub indexed_so : (asked : CreateIndexes) (old new : State) → indexes_created asked.namespace (map form_asked asked.indexes) old ≡ Ok new
    → indexed asked old ≡ Ok (create_indexes_reply (index_count asked.namespace old) (index_count asked.namespace new), new)
indexed_so asked old new is = ap (λ (r : Result State Refusal). r >>= λ made. Ok (create_indexes_reply (index_count asked.namespace old) (index_count asked.namespace made), made)) is

pub unindexed_so : (asked : DropIndexes) (old new : State) → indexes_dropped asked.namespace asked.index old ≡ Ok new
    → unindexed asked old ≡ Ok (drop_indexes_reply (index_count asked.namespace old), new)
unindexed_so asked old new is = ap (λ (r : Result State Refusal). r >>= λ left. Ok (drop_indexes_reply (index_count asked.namespace old), left)) is

-- ---- cursors

-- there is an answer for each id
pub went_each-length : (session : ℕ) (namespace : List ℕ) (ids : List ℤ) (cursors : Cursors) → length (went_each session namespace ids cursors) ≡ length ids
went_each-length session namespace [] cursors = refl
went_each-length session namespace (id ∷ ids) cursors = ap suc (went_each-length session namespace ids (without_cursor session namespace id cursors))

pub killed_so : (session : ℕ) (asked : KillCursors) (old new : Cursors) (went : List Bool) → went ≡ went_each session asked.namespace asked.ids old → new ≡ without_cursors session asked.namespace asked.ids old
    → killed session asked old ≡ (kill_cursors_reply (gone_ids asked.ids went) (missing_ids asked.ids went), new)
killed_so session asked old new went is left = λ i. (kill_cursors_reply (gone_ids asked.ids (sym is i)) (missing_ids asked.ids (sym is i)), sym left i)
