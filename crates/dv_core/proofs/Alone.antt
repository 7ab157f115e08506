-- A document that is loaded, and one that is inserted alone.
use Rattle.std.proofs.Common.{◌≡◌, ◌⊎◌, ◌<◌, ◌≤◌, ◌==◌, ◌&&◌, ◌+◌, ℕ, Bool, true, false, not, List, [], ◌∷◌, ◌++◌, length, get_or, take, Result, Ok, Err, if◌then◌else◌, nat_lt, is_some, inl, inr, refl, sym, ap, subst, ◌∙◌, arith}
use Rattle.std.proofs.lemmas.List.Sums.{passes_at_first, split_at_first}
use Rattle.std.specs.List.{after_first, before_first, position_or_len}
use Rattle.dv_value.specs.Tree.{Field}
use Rattle.dv_catalog.specs.Changes.{Change, Effect, apply, changes_of, done_to, put}
use Rattle.dv_catalog.specs.Inner.EffectLaws.{done_so}
use Rattle.dv_catalog.specs.Effects.{put_new}
use Rattle.dv_catalog.specs.Marks.{AreMarkedBy}
use Rattle.dv_catalog.specs.Inner.Parts.{Makes, one_changed}
use Rattle.dv_catalog.specs.State.{Collection, collection_of, is_view, lists_of}
use Rattle.dv_catalog.specs.declared.failure.Stopped.{Stopped}
use Rattle.dv_coll.specs.Collection.{found, id_key}
use Rattle.dv_command.specs.Asked.{Asked, asked_by}
use Rattle.dv_command.specs.Asked as asking
use Rattle.dv_command.specs.Replies.{document_of, write_error, write_reply}
use Rattle.dv_command.specs.declared.asking.WriteKind.TheVariants.{Insert}
use Rattle.dv_command.specs.declared.command.Command.{Command}
use Rattle.dv_path.specs.Names.{has_dot}
use Rattle.dv_command.specs.Namespaces.{is_collection_name, is_database_name, longest_namespace, namespace}
use Rattle.dv_command.specs.Namespaces as names
use Rattle.dv_value.specs.Results.{◌>>=◌}
use Rattle.dv_refusal.specs.declared.refusal.Refusal.{Refusal}
use Rattle.dv_refusal.specs.declared.refusal.Refusal.TheVariants.{BadValue, DuplicateKey, OnView, WantOfMemory}
use Rattle.dv_core.specs.Load.{IsLoaded, insert_alone, left_by, loaded, namespace_in}
use Rattle.dv_core.specs.State.{State}
use Rattle.dv_core.specs.Statements.{WriteSteps, nothing_written, with_result}
use Rattle.dv_core.specs.Step.{Answer, answer_to, answered, carried_out, step, write_answer}
use Rattle.dv_core.specs.Storable.{storable}
use Rattle.dv_core.specs.Writes.{insert_one, write_by}
use Rattle.dv_core.proofs.Done.{changes_done}
use Rattle.dv_core.proofs.Marking.{none_changed}

-- ---- one statement

put_matched : (b : Bool) (d : List Field) (effect : Effect) → (if b then Err DuplicateKey else Ok (record { matched = 1; changes = put d ∷ [] })) ≡ Ok effect → effect.matched ≡ 1
put_matched true d effect is = absurd cc
put_matched false d effect is = cc

one_matched : (stored : Result (List Field) Refusal) (documents : List (List Field)) (effect : Effect) → (stored >>= λ d. put_new d documents) ≡ Ok effect → effect.matched ≡ 1
one_matched (Ok d) documents effect is = put_matched (is_some (found (id_key d) documents)) d effect is
one_matched (Err refusal) documents effect is = absurd cc

module _ (old : State) (namespace : List ℕ) (ordered : Bool) where
  -- an insert alone, by whether it is on a view, and by what its statement does
  abbrev alone_by : Bool → Result Effect Refusal → Result State Refusal
  alone_by b does = if b then Err OnView else (does >>= λ effect. Ok (left_by namespace old effect))

  abbrev write : WriteSteps
  write = write_by (record { kind = Insert; namespace = namespace; entries = []; ordered = ordered })

  abbrev answer_by : Bool → Result Effect Refusal → Answer
  answer_by b does = answered old (if b then Err OnView else Ok (write_answer old write (with_result namespace ordered (nothing_written old.catalog.namespaces) does)))

  pub stored_by : (b : Bool) (does : Result Effect Refusal) (new : State) → alone_by b does ≡ Ok new → ((effect : Effect) → does ≡ Ok effect → effect.matched ≡ 1) → answer_by b does ≡ record { reply = write_reply 1 []; state = new }
  stored_by true does new is one_changed = absurd cc
  stored_by false (Ok effect) new is one_changed =
      let leaves : left_by namespace old effect ≡ new = cc in
      let matched : 0 + effect.matched ≡ 1 = omega (arith, one_changed effect refl) in
      λ i. record { reply = write_reply (matched i) []; state = leaves i }
  stored_by false (Err refusal) new is one_changed = absurd cc

  pub refused_by : (does : Result Effect Refusal) (refusal : Refusal) → alone_by false does ≡ Err refusal → answer_by false does ≡ record { reply = write_reply 0 (document_of (write_error 0 refusal) ∷ []); state = old }
  refused_by (Ok effect) refusal is = absurd cc
  refused_by (Err other) refusal is =
      let same : other ≡ refusal = cc in
      λ i. record { reply = write_reply 0 (document_of (write_error 0 (same i)) ∷ []); state = old }

module _ (old : State) (session : ℕ) (command : Command) (asked : asking.Write) (d : List Field) (asks : asked_by command ≡ Ok (asking.write asked)) where
  abbrev c : Collection
  c = collection_of asked.namespace old.catalog.namespaces

  carried : step old session command ≡ answered old (carried_out old (write_by asked))
  carried = ap (λ (r : Result Asked Refusal). answered old (r >>= answer_to old session)) asks

  module _ (inserts : asked.kind ≡ Insert) (alone : asked.entries ≡ d ∷ []) where
    answers : step old session command ≡ answer_by old asked.namespace asked.ordered (is_view asked.namespace old.catalog.views) (done_to c (insert_one d))
    answers = carried ∙ (λ i. answered old (carried_out old (write_by (record asked { kind = inserts i; entries = alone i }))))

    pub load_stored : (new : State) → insert_alone asked.namespace d old ≡ Ok new → step old session command ≡ record { reply = write_reply 1 []; state = new }
    load_stored new is =
        answers ∙ stored_by old asked.namespace asked.ordered (is_view asked.namespace old.catalog.views) _ new is (λ effect made. one_matched (storable d) c.documents effect (done_so c (insert_one d) effect made).0)

    pub load_refused : (refusal : Refusal) → is_view asked.namespace old.catalog.views ≡ false → insert_alone asked.namespace d old ≡ Err refusal
        → step old session command ≡ record { reply = write_reply 0 (document_of (write_error 0 refusal) ∷ []); state = old }
    load_refused refusal on is =
        answers
        ∙ ap (λ (b : Bool). answer_by old asked.namespace asked.ordered b (done_to c (insert_one d))) on
        ∙ refused_by old asked.namespace asked.ordered _ refusal (rw on at is)

  pub load_on_view : is_view asked.namespace old.catalog.views ≡ true → step old session command ≡ answered old (Err OnView)
  load_on_view on = carried ∙ rw on refl

pub alone_on_view : (old : State) (asked : asking.Write) (d : List Field) → is_view asked.namespace old.catalog.views ≡ true → insert_alone asked.namespace d old ≡ Err OnView
alone_on_view old asked d on = rw on refl

-- ---- the text of a namespace

dot_within : (bs : List ℕ) → has_dot bs ≡ true → position_or_len (λ b. b == 46) bs < length bs
dot_within [] h = absurd cc
dot_within (b ∷ bs) h = grind (arith, dot_within bs)

dot_is : (b : ℕ) → (b == 46) ≡ true → b ≡ 46
dot_is b h = grind arith

joined : (database collection text : List ℕ) (b c : Bool) → is_collection_name collection ≡ b → nat_lt longest_namespace (length (names.dotted database collection)) ≡ c → (if b && not c then Ok (names.dotted database collection) else Err BadValue) ≡ Ok text
    → names.dotted database collection ≡ text
joined database collection text true false named short is = cc
joined database collection text true true named short is = absurd cc
joined database collection text false c named short is = absurd cc

module _ (text : List ℕ) where
  abbrev front : List ℕ
  front = before_first (λ b. b == 46) text

  abbrev rest : List ℕ
  rest = after_first (λ b. b == 46) text

  whole : has_dot text ≡ true → text ≡ names.dotted front rest
  whole dotted =
      let within = dot_within text dotted in
      let dot = dot_is (get_or text (position_or_len (λ b. b == 46) text) 0) (passes_at_first (λ b. b == 46) text 0 within) in
      split_at_first (λ b. b == 46) text 0 within ∙ ap (λ (b : ℕ). front ++ b ∷ rest) dot

  by_parts : (dotted named : Bool) (made : List ℕ) → has_dot text ≡ dotted → (if dotted && named then namespace front rest else Err BadValue) ≡ Ok made → made ≡ text
  by_parts true true made dot is = sym (joined front rest made _ _ refl refl is) ∙ sym (whole dot)
  by_parts true false made dot is = absurd cc
  by_parts false named made dot is = absurd cc

  pub named_so : (made : List ℕ) → namespace_in text ≡ Ok made → made ≡ text
  named_so made is = by_parts (has_dot text) (is_database_name front) made refl is

-- ---- a load, and the marks after it

few_put : (b : Bool) (d : List Field) → length (changes_of (if b then Err DuplicateKey else Ok (record { matched = 1; changes = put d ∷ [] }))) ≤ 1
few_put true d = omega arith
few_put false d = omega arith

module _ (text namespace : List ℕ) (d stored : List Field) (old new : State) (named : namespace_in text ≡ Ok namespace) (on : is_view namespace old.catalog.views ≡ false) (stores : storable d ≡ Ok stored)
    (views : new.catalog.views ≡ old.catalog.views) (cursors : new.cursors ≡ old.cursors) where
  abbrev there : Collection
  there = collection_of namespace old.catalog.namespaces

  abbrev puts : Result Effect Refusal
  puts = done_to there (put_new stored)

  abbrev MarkedBy : List Change → Type 0
  MarkedBy changes = AreMarkedBy namespace changes (lists_of old.catalog.namespaces) old.catalog.views old.marks new.marks

  loads_so : (does : Result Effect Refusal) → puts ≡ does → loaded text d old ≡ (does >>= λ effect. Ok (left_by namespace old effect))
  loads_so does is = rw (named, on, stores, is) refl

  pub load_done : Makes {B = Unit {0}} (λ x. one_changed) namespace (put_new stored) old.catalog.namespaces (Ok tt) new.catalog.namespaces → MarkedBy (changes_of puts) → IsLoaded text d old new
  load_done (changes, does, many, leaves) marked = record {
    so = loads_so _ does ∙ (λ i. Ok (record { catalog = record { namespaces = sym leaves i; views = sym views i }; cursors = sym cursors i; marks = old.marks }));
    marks = rw (← named_so text namespace named, stores) marked;
  }

  kept : (done : ℕ) → done ≡ 0 → new.catalog.namespaces ≡ old.catalog.namespaces → MarkedBy (take done (changes_of puts)) → new ≡ old
  kept done none same marked =
      let first : MarkedBy [] = subst (λ (n : ℕ). MarkedBy (take n (changes_of puts))) none marked in
      let marks = none_changed namespace (lists_of old.catalog.namespaces) old.catalog.views old.marks new.marks first in
      λ i. record { catalog = record { namespaces = same i; views = views i }; cursors = cursors i; marks = marks i }

  pub load_stopped : (stopped : Stopped) → Makes {B = Unit {0}} (λ x. one_changed) namespace (put_new stored) old.catalog.namespaces (Err stopped) new.catalog.namespaces
      → MarkedBy (take stopped.done (changes_of puts)) → ((loaded text d old ≡ Err stopped.refusal) ⊎ (stopped.refusal ≡ WantOfMemory)) × (new ≡ old)
  load_stopped stopped (inl refused) marked = (inl (loads_so _ refused.so), kept stopped.done refused.none refused.kept marked)
  load_stopped stopped (inr cut) marked =
      let few = changes_done there (put_new stored) (λ changes. length changes ≤ 1) (omega arith) (few_put (is_some (found (id_key stored) there.documents)) stored) in
      let none : stopped.done ≡ 0 = none_done few cut.fewer in
      (inr cut.so, kept stopped.done none (cut.made ∙ ap (λ (n : ℕ). apply namespace (take n (changes_of puts)) old.catalog.namespaces) none) marked)
    where
      none_done : {n many : ℕ} → many ≤ 1 → (n ≡ 0) ⊎ (n < many) → n ≡ 0
      none_done few (inl none) = none
      none_done few (inr fewer) = omega arith
