-- The stages of views stay sound, and so the rows under each namespace are valid.
use Rattle.std.proofs.Common.{◌≡◌, inl, inr, not, ℕ, Bool, true, false, cond, if◌then◌else◌, List, [], ◌∷◌, ◌++◌, map, Option, Some, None, Result, Ok, Err, refl, sym, ap, subst, ◌∙◌}
use Rattle.std.specs.List.{AllByRecursion}
use Rattle.std.specs.Str.{bytes_eq}
use Rattle.dv_value.specs.Spelling.{AreElements, AreFields}
use Rattle.dv_value.specs.Tree.{Tree, Field, elements_of, fields_of}
use Rattle.dv_catalog.specs.State.{Namespaces, collection_of, documents_of, indexes_of, has_name, is_collection, is_there, is_view, lists_of, rows_of, with_documents, without_view}
use Rattle.dv_catalog.specs.Changes.{Effect, done_to}
use Rattle.dv_catalog.specs.State as stored
use Rattle.dv_catalog.specs.Views.{made, reads_name, with_view, with_view_by, with_views}
use Rattle.dv_command.specs.Asked.{Asked, ViewOn, create, drop, create_indexes, drop_indexes, asked_by}
use Rattle.dv_pipe.specs.Laws.{AreSpellable}
use Rattle.dv_command.specs.Sound.{IsSoundPipeline}
use Rattle.dv_command.specs.Inner.Sound.{IsSoundViewAsked, IsSoundRequest}
use Rattle.dv_command.specs.declared.command.Command.{Command}
use Rattle.dv_core.specs.Indexes.{form_asked}
use Rattle.dv_core.specs.Load.{insert_alone, left_by, loaded, namespace_in}
use Rattle.dv_core.specs.Sound.{AreSoundDocuments, AreSoundIndexes, AreSoundViews, IsSoundCommand}
use Rattle.dv_core.specs.State.{State}
use Rattle.dv_core.specs.Step.{Answer}
use Rattle.dv_core.specs.declared.outcome.Outcome.{Outcome}
use Rattle.dv_core.specs.Writes.{insert_one}
use Rattle.dv_core.proofs.Bare.{BareStep}
use Rattle.dv_core.proofs.Asking.{AsksSoundly, body_size, documents_valid, soundly_asked}
use Rattle.dv_core.proofs.Changed.{Made, MayWrite, outcome_may}
use Rattle.dv_core.proofs.Made.{created_so, dropped_so}
use Rattle.dv_core.proofs.Named.{Named, apply_leaves}
use Rattle.dv_value.specs.Results.{◌>>=◌}
use Rattle.dv_refusal.specs.declared.refusal.Refusal.{Refusal}
use Rattle.dv_refusal.specs.declared.refusal.Refusal.TheVariants.{NamespaceExists, NamespaceNotFound, OnView, ReadByView}
use Rattle.dv_pipe.specs.StageParsing.{pipeline_of}
use Rattle.dv_pipe.specs.Stages.{Lists, evaluated}
use Rattle.dv_pipe.specs.declared.stage.Stage.{Stage}
use Rattle.dv_views.specs.Forms.{ViewForm, fault_of_new, rows_over, with_rows}
use Rattle.dv_views.specs.declared.fault.ViewFault.{ViewFault}

abbrev Sound : List ViewForm → Type 0
Sound views = AllByRecursion (λ v. IsSoundPipeline v.stages) views

-- ---- views that are created and dropped

one_more : (views : List ViewForm) (v : ViewForm) → Sound views → IsSoundPipeline v.stages → Sound (views ++ v ∷ [])
one_more [] v all sound = (sound, tt)
one_more (w ∷ views) v all sound = (all.0, one_more views v all.1 sound)

kept_or_not : (b : Bool) (v : ViewForm) (rest : List ViewForm) → IsSoundPipeline v.stages → Sound rest → Sound (cond b (v ∷ rest) rest)
kept_or_not true v rest sound all = (sound, all)
kept_or_not false v rest sound all = all

one_less : (namespace : List ℕ) (views : List ViewForm) → Sound views → Sound (without_view namespace views)
one_less namespace [] all = tt
one_less namespace (v ∷ views) all = kept_or_not (not (has_name namespace v)) v (without_view namespace views) all.0 (one_less namespace views all.1)

with_view_sound : (v : ViewForm) (views more : List ViewForm) → with_view v views ≡ Ok more → Sound views → IsSoundPipeline v.stages → Sound more
with_view_sound v views more is all sound = by_fault (fault_of_new views v.name v.source v.stages) is
  where
    by_fault : (fault : Option ViewFault) → with_view_by v views fault ≡ Ok more → Sound more
    by_fault None e = let same : views ++ v ∷ [] ≡ more = cc in subst Sound same (one_more views v all sound)
    by_fault (Some fault) e = absurd cc

module _ (old new : stored.State) (all : Sound old.views) where
  as_before : (state : stored.State) → state ≡ new → Sound state.views → Sound new.views
  as_before state same sound = subst (λ (s : stored.State). Sound s.views) same sound

  with_views_sound : (v : ViewForm) (result : Result (List ViewForm) Refusal) → with_view v old.views ≡ result → IsSoundPipeline v.stages → with_views old result ≡ Ok new → Sound new.views
  with_views_sound v (Ok views) so sound is = let same : record old { views = views } ≡ new = cc in as_before (record old { views = views }) same (with_view_sound v old.views views so all sound)
  with_views_sound v (Err refusal) so sound is = absurd cc

  made_sound : (namespace : List ℕ) (view : Option ViewOn) → IsSoundViewAsked view → made namespace view old ≡ Ok new → Sound new.views
  made_sound namespace None sound is =
      let same : record old { namespaces = with_documents namespace [] old.namespaces } ≡ new = cc in
      as_before (record old { namespaces = with_documents namespace [] old.namespaces }) same all
  made_sound namespace (Some on) sound is = with_views_sound (record { name = namespace; source = on.source; stages = on.stages }) _ refl sound.1 is

  created_sound : (namespace : List ℕ) (view : Option ViewOn) (b : Bool) → IsSoundViewAsked view → (if b then Err NamespaceExists else made namespace view old) ≡ Ok new → Sound new.views
  created_sound namespace view true sound is = absurd cc
  created_sound namespace view false sound is = made_sound namespace view sound is

  dropped_sound : (namespace : List ℕ) (collection : Namespaces) (a b read : Bool)
      → (if a then Ok (record old { namespaces = collection }) else if b then (if read then Err ReadByView else Ok (record old { views = without_view namespace old.views })) else Err NamespaceNotFound) ≡ Ok new → Sound new.views
  dropped_sound namespace collection true b read is = let same : record old { namespaces = collection } ≡ new = cc in as_before (record old { namespaces = collection }) same all
  dropped_sound namespace collection false true true is = absurd cc
  dropped_sound namespace collection false true false is =
      let same : record old { views = without_view namespace old.views } ≡ new = cc in
      as_before (record old { views = without_view namespace old.views }) same (one_less namespace old.views all)
  dropped_sound namespace collection false false read is = absurd cc

-- ---- each step

same_views : (old new : State) → new.catalog ≡ old.catalog → Sound old.catalog.views → Sound new.catalog.views
same_views old new same all = subst (λ (s : stored.State). Sound s.views) (sym same) all

made_views : (old new : State) (size : ℕ) (what : Asked) → IsSoundRequest size what → Made old what new → Sound old.catalog.views → Sound new.catalog.views
made_views old new size (create c) asked made all = created_sound old.catalog new.catalog all c.namespace c.view (is_there c.namespace old.catalog) asked.1 made.0
made_views old new size (drop d) asked made all = dropped_sound old.catalog new.catalog all d.namespace _ (is_collection d.namespace old.catalog.namespaces) (is_view d.namespace old.catalog.views) (reads_name old.catalog.views d.namespace) made.0
made_views old new size (create_indexes c) asked made all = subst Sound (sym (created_so old.catalog new.catalog c.namespace (map form_asked c.indexes) made.0).views) all
made_views old new size (drop_indexes d) asked made all = subst Sound (sym (dropped_so old.catalog new.catalog d.namespace d.index made.0).views) all
made_views old new size what asked made all = same_views old new made.1 all

pub steps_views : AsksSoundly → (old new : State) (session : ℕ) (command : Command) (outcome : Outcome) → IsSoundCommand command → AreSoundViews old → BareStep old session command outcome new → AreSoundViews new
steps_views asks old new session command outcome sound all steps =
    let (answer, may, stands) = outcome_may old new session command outcome steps in
    subst AreSoundViews (sym stands) (stay answer may)
  where
    stay : (answer : Answer) → MayWrite old (asked_by command) answer → AreSoundViews answer.state
    stay answer (inl same) = subst AreSoundViews (sym same) all
    stay answer (inr (inl w)) = subst (λ (a : Answer). AreSoundViews a.state) (sym w.answers) all
    stay answer (inr (inr m)) = made_views old answer.state (body_size command) m.what (soundly_asked asks command m.what sound m.asks) m.made all

-- ---- rows

abbrev pub PipesStayValid : Type 0
PipesStayValid =
    (list : List Tree) (stages : List Stage) (source : List ℕ) (lists : Lists) → AreElements (elements_of list) → pipeline_of list ≡ Ok stages → ((name : List ℕ) → AllByRecursion (λ d. AreFields (fields_of d)) (lists name))
    → AllByRecursion (λ d. AreFields (fields_of d)) (evaluated stages source lists)

abbrev ValidLists : Lists → Type 0
ValidLists lists = (name : List ℕ) → AreSpellable (lists name)

module _ (pipes : PipesStayValid) where
  with_valid : (v : ViewForm) (lists : Lists) → IsSoundPipeline v.stages → ValidLists lists → ValidLists (with_rows v lists)
  with_valid v lists sound valid name = by_name (bytes_eq name v.name)
    where
      by_name : (b : Bool) → AreSpellable (if b then evaluated v.stages v.source lists else lists name)
      by_name true = pipes sound.list v.stages v.source lists sound.valid sound.is valid
      by_name false = valid name

  -- each view reads the lists, with the rows of the older views over them
  over_valid : (views : List ViewForm) (lists : Lists) → Sound views → ValidLists lists → ValidLists (rows_over views lists)
  over_valid [] lists all valid = valid
  over_valid (v ∷ views) lists all valid = over_valid views (with_rows v lists) all.1 (with_valid v lists all.0 valid)

module _ (pipes : PipesStayValid) (state : State) (sound : AreSoundDocuments state) (views : AreSoundViews state) where
  pub rows_valid : (namespace : List ℕ) → AreSpellable (rows_of namespace state.catalog)
  rows_valid namespace = over_valid pipes state.catalog.views (lists_of state.catalog.namespaces) views (λ name. documents_valid (documents_of name state.catalog.namespaces) (sound name).1) namespace

  pub gathered_valid : (stages : List Stage) (source : List ℕ) → IsSoundPipeline stages → AreSpellable (evaluated stages source (λ name. rows_of name state.catalog))
  gathered_valid stages source h = pipes h.list stages source (λ name. rows_of name state.catalog) h.valid h.is rows_valid

-- ---- a load

-- a load leaves indexes, views and cursors unchanged
pub record LeavesOthers (old new : State) : Type 0 where
  pub indexes : (name : List ℕ) → indexes_of name new.catalog.namespaces ≡ indexes_of name old.catalog.namespaces
  pub views : new.catalog.views ≡ old.catalog.views
  pub cursors : new.cursors ≡ old.cursors

alone_leaves : (old new : State) (namespace : List ℕ) (does : Result Effect Refusal) → (does >>= λ effect. Ok (left_by namespace old effect)) ≡ Ok new → LeavesOthers old new
alone_leaves old new namespace (Ok effect) is =
    let same : new ≡ left_by namespace old effect = cc in
    record {
      indexes = λ name. ap (λ (s : State). indexes_of name s.catalog.namespaces) same ∙ apply_leaves namespace effect.changes old.catalog.namespaces name;
      views = ap (λ (s : State). s.catalog.views) same;
      cursors = ap (λ (s : State). s.cursors) same;
    }
alone_leaves old new namespace (Err refusal) is = absurd cc

pub loaded_leaves : (old new : State) (text : List ℕ) (d : List Field) → loaded text d old ≡ Ok new → LeavesOthers old new
loaded_leaves old new text d is = by_name (namespace_in text) is
  where
    by_view : (namespace : List ℕ) (b : Bool) → (if b then Err OnView else (done_to (collection_of namespace old.catalog.namespaces) (insert_one d) >>= λ effect. Ok (left_by namespace old effect))) ≡ Ok new → LeavesOthers old new
    by_view namespace true e = absurd cc
    by_view namespace false e = alone_leaves old new namespace (done_to (collection_of namespace old.catalog.namespaces) (insert_one d)) e

    by_name : (named : Result (List ℕ) Refusal) → (named >>= λ namespace. insert_alone namespace d old) ≡ Ok new → LeavesOthers old new
    by_name (Ok namespace) e = by_view namespace (is_view namespace old.catalog.views) e
    by_name (Err refusal) e = absurd cc

pub loaded_indexes : (old new : State) (text : List ℕ) (d : List Field) → loaded text d old ≡ Ok new → AreSoundIndexes old → AreSoundIndexes new
loaded_indexes old new text d is all name = subst Named (sym ((loaded_leaves old new text d is).indexes name)) (all name)

pub loaded_views : (old new : State) (text : List ℕ) (d : List Field) → loaded text d old ≡ Ok new → AreSoundViews old → AreSoundViews new
loaded_views old new text d is all = subst Sound (sym (loaded_leaves old new text d is).views) all
