-- What carrying out a command gives is a step of the machine.
use Rattle.std.proofs.Common.{◌≡◌, ◌⊎◌, ℕ, Bool, true, false, List, Result, Ok, Err, if◌then◌else◌, inl, inr, refl, sym, ap, subst, ◌∙◌}
use Rattle.dv_value.specs.Tree.{Field}
use Rattle.dv_catalog.specs.Marks.{AreMarkedByDrop, Marks, marks_made, names_of_new}
use Rattle.dv_catalog.specs.Inner.Parts.{StandMade, StandSo}
use Rattle.dv_catalog.specs.State.{is_view}
use Rattle.dv_catalog.specs.State as stored
use Rattle.dv_core.specs.State.{State, marked, standing}
use Rattle.dv_cursor.specs.Cursors.{Cursors}
use Rattle.dv_catalog.specs.Views.{created, dropped}
use Rattle.dv_command.specs.Asked.{Asked, Create, Drop, asked_by, create, drop}
use Rattle.dv_command.specs.Asked as asking
use Rattle.dv_refusal.specs.Refusals.{UnlessWanting}
use Rattle.dv_value.specs.Results.{◌>>=◌}
use Rattle.dv_command.specs.declared.command.Command.{Command}
use Rattle.dv_refusal.specs.declared.refusal.Refusal.{Refusal}
use Rattle.dv_refusal.specs.declared.refusal.Refusal.TheVariants.{OnView, WantOfMemory}
use Rattle.dv_core.specs.declared.outcome.Outcome.{Outcome}
use Rattle.dv_core.specs.declared.outcome.Outcome.TheVariants.{Reply, Wanting, NoReply}
use Rattle.dv_core.specs.declared.outcome.Batch.{Batch}
use Rattle.dv_core.specs.declared.outcome.Told.{Told}
use Rattle.dv_core.specs.declared.outcome.Told.TheVariants as tells
use Rattle.dv_core.specs.Statements.{WriteSteps, Written, carry_out}
use Rattle.dv_core.specs.Marks.{AreMarked, AreMarkedAll, AreMarkedByWrite, AreMarkedForWant, marks_where_read, read_by}
use Rattle.dv_core.specs.Step.{Answer, answered, read_answer, write_answer, on_catalog, on_cursors, answer_to, replying, Cut, MemoryStep, TellsOfWant, Wants}
use Rattle.dv_core.specs.Inner.StepParts.{Ends, GivesAndLeaves, IsMadeOf, Refuses, StandRead, TellsReply, TellsOrNot, reply_told}
use Rattle.dv_core.specs.Told.{outcome_told}
use Rattle.dv_core.specs.Inner.WriteParts.{CarriesOutWrite, CutsWrite, WritesOrCuts, WritesOn, WritesWhere}
use Rattle.dv_core.specs.Writes.{write_by}
use Rattle.dv_core.proofs.Marking.{where_read}

abbrev answer_of : List Field → State → Answer
answer_of reply state = record { reply = reply; state = state }

module _ (old : State) (session : ℕ) (command : Command) where
  -- the marks if the command is refused in this way: those of a command that is carried out, unless memory ran out; and those that
  -- are allowed if memory ran out
  abbrev StandRefused : Result Asked Refusal → Refusal → Marks → Type 0
  StandRefused asked refusal marks = ((refusal ≡ WantOfMemory) ⊎ AreMarkedAll old asked marks) × AreMarkedForWant old asked marks

  -- a command that is refused, perhaps because memory ran out
  refused_steps : (new : State) (refusal : Refusal) (outcome : Outcome) → ((asked_by command >>= answer_to old session) ≡ Err refusal) ⊎ (refusal ≡ WantOfMemory) → Refuses refusal outcome → standing old.marks new ≡ old
      → StandRefused (asked_by command) refusal new.marks → MemoryStep old session command outcome new
  refused_steps new refusal (Reply reply) (inl e) (replies, known) same (inl want, stands) = absurd (known want)
  refused_steps new refusal (Reply reply) (inl e) (replies, known) same (inr marks, stands) = (ap (answered old) e ∙ (λ i. answer_of (sym replies i) (sym same i)), marks)
  refused_steps new refusal (Reply reply) (inr want) (replies, known) same stands = absurd (known want)
  refused_steps new refusal (Wanting reply) why replies same stands = inl ((λ i. answer_of (replies i) (same i)), stands.1)
  refused_steps new refusal NoReply why told same stands = inr (answered old (Err WantOfMemory), inl (refl, stands.1), same)

  -- the marks are unchanged
  same_stand : (asked : Result Asked Refusal) (refusal : Refusal) (marks : Marks) → marks ≡ old.marks → (asked ≡ Err refusal) ⊎ (refusal ≡ WantOfMemory) → StandRefused asked refusal marks
  same_stand (Ok asked) refusal marks same (inl e) = absurd cc
  same_stand (Ok asked) refusal marks same (inr want) = (inl want, inl same)
  same_stand (Err other) refusal marks same why = (inr same, same)

  pub refusal_steps : (refusal : Refusal) (outcome : Outcome) → (asked_by command ≡ Err refusal) ⊎ (refusal ≡ WantOfMemory) → Refuses refusal outcome → MemoryStep old session command outcome old
  refusal_steps refusal outcome why refuses = refused_steps old refusal outcome (refused_so why) refuses refl (same_stand (asked_by command) refusal old.marks refl why)
    where
      refused_so : (asked_by command ≡ Err refusal) ⊎ (refusal ≡ WantOfMemory) → ((asked_by command >>= answer_to old session) ≡ Err refusal) ⊎ (refusal ≡ WantOfMemory)
      refused_so (inl e) = inl (ap (λ (r : Result Asked Refusal). r >>= answer_to old session) e)
      refused_so (inr want) = inr want

  -- by the result of a command
  abbrev pub StandBy : Asked → Result (List Field) Refusal → Marks → Type 0
  StandBy asked (Ok reply) marks = AreMarked old asked marks
  StandBy asked (Err refusal) marks = StandRefused (Ok asked) refusal marks

  module _ (asked : Asked) (asks : asked_by command ≡ Ok asked) where
    does : (result : Result Answer Refusal) → answer_to old session asked ≡ result → (asked_by command >>= answer_to old session) ≡ result
    does result is = ap (λ (r : Result Asked Refusal). r >>= answer_to old session) asks ∙ is

    not_done : (new : State) (refusal : Refusal) (outcome : Outcome) → (answer_to old session asked ≡ Err refusal) ⊎ (refusal ≡ WantOfMemory) → Refuses refusal outcome → standing old.marks new ≡ old → StandRefused (Ok asked) refusal new.marks
        → MemoryStep old session command outcome new
    not_done new refusal outcome why refuses same stands = refused_steps new refusal outcome (refused_so why) refuses same (subst (λ (a : Result Asked Refusal). StandRefused a refusal new.marks) (sym asks) stands)
      where
        refused_so : (answer_to old session asked ≡ Err refusal) ⊎ (refusal ≡ WantOfMemory) → ((asked_by command >>= answer_to old session) ≡ Err refusal) ⊎ (refusal ≡ WantOfMemory)
        refused_so (inl is) = inl (does _ is)
        refused_so (inr want) = inr want

    done_steps : (new : State) (reply : List Field) (state : State) (outcome : Outcome) → answer_to old session asked ≡ Ok (answer_of reply state) → standing old.marks new ≡ state → TellsOrNot reply outcome → AreMarked old asked new.marks
        → MemoryStep old session command outcome new
    done_steps new reply state outcome answers same tells marks = by_outcome outcome tells
      where
        marks_so : AreMarkedAll old (asked_by command) new.marks
        marks_so = subst (λ (a : Result Asked Refusal). AreMarkedAll old a new.marks) (sym asks) marks

        by_outcome : (outcome : Outcome) → TellsOrNot reply outcome → MemoryStep old session command outcome new
        by_outcome (Reply told) tells = (ap (answered old) (does _ answers) ∙ (λ i. answer_of (sym tells i) (sym same i)), marks_so)
        by_outcome (Wanting told) tells = absurd tells
        by_outcome NoReply tells = inl (same ∙ ap (λ (a : Answer). a.state) (sym (ap (answered old) (does _ answers))), marks_so)

    -- ---- a command that changes a part of the state, and the marks

    -- it ends in this way, with the marks of a command that is carried out, or refused
    abbrev EndsSo : {S : Type 0} → Result (List Field × S) Refusal → S → Outcome → S → Marks → Type 0
    EndsSo {S} defined before outcome after marks =
        ((done : List Field × S) × (defined ≡ Ok done) × (after ≡ done.1) × TellsOrNot done.0 outcome × AreMarked old asked marks)
        ⊎ ((refusal : Refusal) × ((defined ≡ Err refusal) ⊎ (refusal ≡ WantOfMemory)) × Refuses refusal outcome × (after ≡ before) × StandRefused (Ok asked) refusal marks)

    -- if it leaves the marks unchanged
    ends_so : {S : Type 0} (defined : Result (List Field × S) Refusal) (before after : S) (outcome : Outcome) (marks : Marks) → Ends defined before outcome after → marks ≡ old.marks → (marks ≡ old.marks → AreMarked old asked marks)
        → EndsSo defined before outcome after marks
    ends_so defined before after outcome marks (inl (done, is, leaves, tells)) same left = inl (done, is, leaves, tells, left same)
    ends_so defined before after outcome marks (inr (refusal, why, refuses, kept)) same left = inr (refusal, why, refuses, kept, (inr (left same), inl same))

    gives_so : {S : Type 0} (defined : Result (List Field × S) Refusal) (before after : S) (told : Result (List Field) Refusal) (outcome : Outcome) (marks : Marks) → GivesAndLeaves defined before told after → TellsReply told outcome → StandBy asked told marks
        → EndsSo defined before outcome after marks
    gives_so defined before after (Ok reply) outcome marks is tells stand = inl ((reply, after), is, refl, subst (TellsOrNot reply) (sym tells) refl, stand)
    gives_so defined before after (Err refusal) outcome marks (why, same) refuses stand = inr (refusal, why, refuses, same, stand)

    pub same_by : (told : Result (List Field) Refusal) (marks : Marks) → marks ≡ old.marks → (marks ≡ old.marks → AreMarked old asked marks) → StandBy asked told marks
    same_by (Ok reply) marks same left = left same
    same_by (Err refusal) marks same left = (inr (left same), inl same)

    -- after reading
    pub read_by_so : (told : Result (List Field) Refusal) (marks : Marks) → StandRead asked old told marks → (marks ≡ marks_where_read (read_by asked) old → AreMarked old asked marks) → StandBy asked told marks
    read_by_so (Ok reply) marks read so = so read
    read_by_so (Err refusal) marks (inl read) so = (inr (so read), where_read (read_by asked) old marks read)
    read_by_so (Err refusal) marks (inr (want, some)) so = (inl want, inr some)

    -- a command that changes collections and views
    catalog_steps : (new : State) (defined : Result (List Field × stored.State) Refusal) (outcome : Outcome) → answer_to old session asked ≡ on_catalog old defined → new.cursors ≡ old.cursors
        → EndsSo defined old.catalog outcome new.catalog new.marks → MemoryStep old session command outcome new
    catalog_steps new defined outcome answers cursors (inl (done, is, leaves, tells, marks)) =
        done_steps new done.0 (record old { catalog = done.1 }) outcome (answers ∙ ap (on_catalog old) is) (λ i. record { catalog = leaves i; cursors = cursors i; marks = old.marks }) tells marks
    catalog_steps new defined outcome answers cursors (inr (refusal, why, refuses, same, stands)) = not_done new refusal outcome (refused_so why) refuses (λ i. record { catalog = same i; cursors = cursors i; marks = old.marks }) stands
      where
        refused_so : (defined ≡ Err refusal) ⊎ (refusal ≡ WantOfMemory) → (answer_to old session asked ≡ Err refusal) ⊎ (refusal ≡ WantOfMemory)
        refused_so (inl is) = inl (answers ∙ ap (on_catalog old) is)
        refused_so (inr want) = inr want

    -- a command that changes cursors
    cursor_steps : (new : State) (defined : Result (List Field × Cursors) Refusal) (outcome : Outcome) → answer_to old session asked ≡ on_cursors old defined → new.catalog ≡ old.catalog
        → EndsSo defined old.cursors outcome new.cursors new.marks → MemoryStep old session command outcome new
    cursor_steps new defined outcome answers catalog (inl (done, is, leaves, tells, marks)) =
        done_steps new done.0 (record old { cursors = done.1 }) outcome (answers ∙ ap (on_cursors old) is) (λ i. record { catalog = catalog i; cursors = leaves i; marks = old.marks }) tells marks
    cursor_steps new defined outcome answers catalog (inr (refusal, why, refuses, same, stands)) = not_done new refusal outcome (refused_so why) refuses (λ i. record { catalog = catalog i; cursors = same i; marks = old.marks }) stands
      where
        refused_so : (defined ≡ Err refusal) ⊎ (refusal ≡ WantOfMemory) → (answer_to old session asked ≡ Err refusal) ⊎ (refusal ≡ WantOfMemory)
        refused_so (inl is) = inl (answers ∙ ap (on_cursors old) is)
        refused_so (inr want) = inr want

    -- from a result, and the marks after it; and from an end that leaves the marks unchanged
    pub catalog_given : (new : State) (defined : Result (List Field × stored.State) Refusal) (told : Result (List Field) Refusal) (outcome : Outcome) → answer_to old session asked ≡ on_catalog old defined → new.cursors ≡ old.cursors
        → GivesAndLeaves defined old.catalog told new.catalog → TellsReply told outcome → StandBy asked told new.marks → MemoryStep old session command outcome new
    catalog_given new defined told outcome answers cursors gives tells stands =
        catalog_steps new defined outcome answers cursors (gives_so defined old.catalog new.catalog told outcome new.marks gives tells stands)

    pub catalog_ended : (new : State) (defined : Result (List Field × stored.State) Refusal) (outcome : Outcome) → answer_to old session asked ≡ on_catalog old defined → new.cursors ≡ old.cursors
        → Ends defined old.catalog outcome new.catalog → new.marks ≡ old.marks → (new.marks ≡ old.marks → AreMarked old asked new.marks) → MemoryStep old session command outcome new
    catalog_ended new defined outcome answers cursors ends same left = catalog_steps new defined outcome answers cursors (ends_so defined old.catalog new.catalog outcome new.marks ends same left)

    pub cursors_given : (new : State) (defined : Result (List Field × Cursors) Refusal) (told : Result (List Field) Refusal) (outcome : Outcome) → answer_to old session asked ≡ on_cursors old defined → new.catalog ≡ old.catalog
        → GivesAndLeaves defined old.cursors told new.cursors → TellsReply told outcome → StandBy asked told new.marks → MemoryStep old session command outcome new
    cursors_given new defined told outcome answers catalog gives tells stands =
        cursor_steps new defined outcome answers catalog (gives_so defined old.cursors new.cursors told outcome new.marks gives tells stands)

    pub cursors_ended : (new : State) (defined : Result (List Field × Cursors) Refusal) (outcome : Outcome) → answer_to old session asked ≡ on_cursors old defined → new.catalog ≡ old.catalog
        → Ends defined old.cursors outcome new.cursors → new.marks ≡ old.marks → (new.marks ≡ old.marks → AreMarked old asked new.marks) → MemoryStep old session command outcome new
    cursors_ended new defined outcome answers catalog ends same left = cursor_steps new defined outcome answers catalog (ends_so defined old.cursors new.cursors outcome new.marks ends same left)

    -- a command that changes at most the marks
    pub read_steps : (new : State) (defined told : Result (List Field) Refusal) (outcome : Outcome) → answer_to old session asked ≡ read_answer old defined → standing old.marks new ≡ old → UnlessWanting (λ reply. reply) defined told → TellsReply told outcome
        → StandBy asked told new.marks → MemoryStep old session command outcome new
    read_steps new defined (Ok reply) outcome answers same is tells marks =
        done_steps new reply old outcome (answers ∙ ap (read_answer old) is) same (subst (TellsOrNot reply) (sym tells) refl) marks
    read_steps new defined (Err refusal) outcome answers same (inl is) refuses stands = not_done new refusal outcome (inl (answers ∙ ap (read_answer old) is)) refuses same stands
    read_steps new defined (Err refusal) outcome answers same (inr want) refuses stands = not_done new refusal outcome (inr want) refuses same stands

  -- ---- a create, and a drop

  -- a refused create leaves the marks unchanged, unless memory runs out
  pub create_stands : (c : Create) (reply : List Field) (told : Result (List Field) Refusal) (before after : stored.State) (made : Result stored.State Refusal) (marks : Marks) → created c.namespace c.view old.catalog ≡ made → GivesAndLeaves (replying reply made) before told after
      → StandMade (names_of_new c.view) (marks_made c.view old.catalog.views old.marks) (marked old) told marks → StandBy (create c) told marks
  create_stands c reply (Ok told) before after (Ok state) marks is gives so = rw is so
  create_stands c reply (Ok told) before after (Err refusal) marks is gives so = absurd cc
  create_stands c reply (Err refusal) before after made marks is gives (inl (want, some)) = (inl want, inr some)
  create_stands c reply (Err refusal) before after (Ok state) marks is (inl e, kept) (inr same) = absurd cc
  create_stands c reply (Err refusal) before after (Err other) marks is (inl e, kept) (inr same) = (inr (rw is same), inl same)
  create_stands c reply (Err refusal) before after made marks is (inr want, kept) (inr same) = (inl want, inl same)

  pub drop_stands : (d : Drop) (reply : List Field) (told : Result (List Field) Refusal) (before after : stored.State) (made : Result stored.State Refusal) (marks : Marks) → dropped d.namespace old.catalog ≡ made → GivesAndLeaves (replying reply made) before told after
      → StandSo (AreMarkedByDrop d.namespace old.catalog old.marks) old.marks told marks → StandBy (drop d) told marks
  drop_stands d reply (Ok told) before after (Ok state) marks is gives so = rw is so
  drop_stands d reply (Ok told) before after (Err refusal) marks is gives so = absurd cc
  drop_stands d reply (Err refusal) before after (Ok state) marks is (inl e, kept) same = absurd cc
  drop_stands d reply (Err refusal) before after (Err other) marks is (inl e, kept) same = (inr (rw is same), inl same)
  drop_stands d reply (Err refusal) before after made marks is (inr want, kept) same = (inl want, inl same)

  -- ---- a write

  module _ (w : asking.Write) (asks : asked_by command ≡ Ok (asking.write w)) (new : State) where
    abbrev writes : WriteSteps
    writes = write_by w

    abbrev done : Written
    done = carry_out writes old.catalog.namespaces

    module _ (on : is_view w.namespace old.catalog.views ≡ false) (views : new.catalog.views ≡ old.catalog.views) (cursors : new.cursors ≡ old.cursors) where
      left_by : (did : Written) → new.catalog.namespaces ≡ did.namespaces → standing old.marks new ≡ record old { catalog = record old.catalog { namespaces = did.namespaces } }
      left_by did leaves = λ i. record { catalog = record { namespaces = leaves i; views = views i }; cursors = cursors i; marks = old.marks }

      carried : answer_to old session (asking.write w) ≡ Ok (write_answer old writes done)
      carried = rw on refl

      marks_so : CarriesOutWrite writes (marked old) (marked new) → AreMarked old (asking.write w) new.marks
      marks_so carries = subst (λ (b : Bool). AreMarkedByWrite b writes old new.marks) (sym on) carries.marked

      write_cut : (left : Written) → CutsWrite writes (marked old) left (marked new) → (answer : Answer) → answer ≡ write_answer old writes left → Wants old command answer new.marks
      write_cut left cuts answer is = inr (subst (λ (a : Result Asked Refusal). Cut old a answer new.marks) (sym asks) (on, (left, cuts.is_cut, is, cuts.marked)))

      write_done : (outcome : Outcome) → WritesOrCuts writes (marked old) outcome (marked new) → MemoryStep old session command outcome new
      write_done (Reply reply) (replies, carries) =
          done_steps (asking.write w) asks new (writes.reply done.n done.changed done.errors) (write_answer old writes done).state (Reply reply) carried (left_by done carries.leaves) replies (marks_so carries)
      write_done (Wanting reply) (left, replies, cuts) = write_cut left cuts (answer_of reply (standing old.marks new)) (λ i. answer_of (replies i) (left_by left cuts.leaves i))
      write_done NoReply (inl carries) =
          done_steps (asking.write w) asks new (writes.reply done.n done.changed done.errors) (write_answer old writes done).state NoReply carried (left_by done carries.leaves) tt (marks_so carries)
      write_done NoReply (inr (left, cuts)) = inr (write_answer old writes left, write_cut left cuts (write_answer old writes left) refl, left_by left cuts.leaves)

    -- a command that is a write does what its write does
    pub write_steps : (outcome : Outcome) → WritesOn writes old outcome new → MemoryStep old session command outcome new
    write_steps outcome does = by_view (is_view w.namespace old.catalog.views) refl does
      where
        by_view : (b : Bool) → is_view w.namespace old.catalog.views ≡ b → WritesWhere b writes old outcome new → MemoryStep old session command outcome new
        by_view true on (refuses, same) =
            let marks : new.marks ≡ old.marks = ap (λ (s : State). s.marks) same in
            not_done (asking.write w) asks new OnView outcome (inl (ap (λ (b : Bool). if b then Err OnView else Ok (write_answer old writes done)) on)) refuses
            (ap (standing old.marks) same)
            (inr (subst (λ (b : Bool). AreMarkedByWrite b writes old new.marks) (sym on) marks), inl marks)
        by_view false on (done, views, cursors) = write_done on views cursors outcome done

-- a write on a collection
pub on_collection : (write : WriteSteps) (old new : State) (outcome : Outcome) → is_view write.namespace old.catalog.views ≡ false → WritesOrCuts write (marked old) outcome (marked new) → new.catalog.views ≡ old.catalog.views → new.cursors ≡ old.cursors
    → WritesOn write old outcome new
on_collection write old new outcome on does views cursors = subst (λ (b : Bool). WritesWhere b write old outcome new) (sym on) (does, views, cursors)

-- ---- the result with a batch

pub read_told : (old : State) (asked : Asked) (reply : Result Batch Refusal) (marks : Marks) → StandRead asked old reply marks → StandRead asked old (reply_told reply) marks
read_told old asked (Ok batch) marks stand = stand
read_told old asked (Err refusal) marks stand = stand

pub made_steps : (old : State) (session : ℕ) (command : Command) (new : State) (what : Told) (outcome : Outcome) → MemoryStep old session command (outcome_told what) new → IsMadeOf what outcome → MemoryStep old session command outcome new
made_steps old session command new (tells.Batch batch) (Reply reply) steps made = subst (λ (body : List Field). MemoryStep old session command (Reply body) new) (sym made) steps
made_steps old session command new (tells.Batch batch) (Wanting reply) steps made = absurd made
made_steps old session command new (tells.Batch batch) NoReply steps made = inl (ap (λ (a : Answer). a.state) (sym steps.0), steps.1)
made_steps old session command new (tells.Outcome other) outcome steps made = subst (λ (o : Outcome). MemoryStep old session command o new) (sym made) steps

pub made_wants : (what : Told) (outcome : Outcome) → IsMadeOf what outcome → TellsOfWant (outcome_told what) → TellsOfWant outcome
made_wants (tells.Batch batch) outcome made wants = absurd wants
made_wants (tells.Outcome other) outcome made wants = subst TellsOfWant (sym made) wants
