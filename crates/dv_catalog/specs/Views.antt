-- How views and collections are created and dropped (MongoDB manual, "create", "drop", "Views"). That a view which another one reads
-- can't be dropped, the limits, and the order of the refusals are this server's own.
use Rattle.std.specs.Prelude.{Bool, ℕ, List, [], ◌∷◌, ◌++◌, Option, Some, None, Result, Ok, Err, if◌then◌else◌}
use Rattle.std.specs.FinMap as finite
use Rattle.dv_pipe.specs.declared.stage.Stage.{Stage}
use Rattle.dv_pipe.specs.Stages.{evaluated}
use Rattle.dv_value.specs.Tree.{Field}
use Rattle.dv_command.specs.Asked.{ViewOn}
use Rattle.dv_refusal.specs.declared.refusal.Refusal.{Refusal}
use Rattle.dv_refusal.specs.declared.refusal.Refusal.TheVariants.{NamespaceExists, NamespaceNotFound, ReadByView, LimitReached, WantOfMemory}
use Rattle.dv_views.specs.declared.fault.ViewFault.{ViewFault}
use Rattle.dv_views.specs.declared.fault.ViewFault.TheVariants as faults
use Rattle.dv_views.specs.Forms.{ViewForm, fault_of_new, is_read_by}
use Rattle.dv_catalog.specs.State.{State, is_view, is_collection, is_there, rows_of, with_documents, without_view}

-- whether some view reads the namespace
abbrev pub reads_name : List ViewForm → List ℕ → Bool
reads_name views namespace = is_read_by views namespace

-- ---- creating and dropping

-- the refusal for the fault of a new view
abbrev pub view_refusal : ViewFault → Refusal
view_refusal faults.Exists = NamespaceExists
view_refusal faults.ReadByView = ReadByView
view_refusal faults.LimitReached = LimitReached
view_refusal faults.NoMemory = WantOfMemory

-- the views with a new one at the end, or its refusal if there is this fault
abbrev pub with_view_by : ViewForm → List ViewForm → Option ViewFault → Result (List ViewForm) Refusal
with_view_by v views None = Ok (views ++ v ∷ [])
with_view_by v views (Some fault) = Err (view_refusal fault)

-- the views with a new one at the end, or its refusal
abbrev pub with_view : ViewForm → List ViewForm → Result (List ViewForm) Refusal
with_view v views = with_view_by v views (fault_of_new views v.name v.source v.stages)

-- the state with these views, or their refusal
abbrev pub with_views : State → Result (List ViewForm) Refusal → Result State Refusal
with_views state (Ok views) = Ok (record state { views = views })
with_views state (Err refusal) = Err refusal

-- creates a view if a pipeline is given, otherwise an empty collection
abbrev pub made : List ℕ → Option ViewOn → State → Result State Refusal
made namespace None state = Ok (record state { namespaces = with_documents namespace [] state.namespaces })
made namespace (Some on) state = with_views state (with_view (record { name = namespace; source = on.source; stages = on.stages }) state.views)

-- the state after a create; refused with 48 if the namespace exists
abbrev pub created : List ℕ → Option ViewOn → State → Result State Refusal
created namespace view state = if is_there namespace state then Err NamespaceExists else made namespace view state

-- The state after a drop. A collection can be dropped though views read it; it is then empty for them. A view that another view reads
-- can't be dropped (904), nor a namespace that doesn't exist (26).
abbrev pub dropped : List ℕ → State → Result State Refusal
dropped namespace state =
    if is_collection namespace state.namespaces then Ok (record state { namespaces = finite.remove state.namespaces namespace })
    else if is_view namespace state.views then (if reads_name state.views namespace then Err ReadByView else Ok (record state { views = without_view namespace state.views }))
    else Err NamespaceNotFound

-- ---- pipelines

-- the rows that a pipeline returns over a namespace
abbrev pub aggregated : List Stage → List ℕ → State → List (List Field)
aggregated stages namespace state = evaluated stages namespace (λ name. rows_of name state)
