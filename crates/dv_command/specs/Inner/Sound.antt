-- What only bodies and proofs need of `Sound`.
use Rattle.std.specs.Prelude.{◌≡◌, ◌≤◌, ℕ, ℤ, List, Option, Some, None, length, Ok, ⊤}
use Rattle.std.specs.List.{AllByRecursion}
use Rattle.std.specs.Str.{IsUtf8}
use Rattle.dv_value.specs.Spelling.{IsValue, AreFields}
use Rattle.dv_value.specs.Tree.{int64, Field, fields_of}
use Rattle.dv_update.specs.Update.{Update}
use Rattle.dv_update.specs.Parsing as updates
use Rattle.dv_command.specs.Asked.{Asked, ViewOn, hello, ping, write, find, aggregate, get_more, kill_cursors, create, drop, create_indexes, drop_indexes, explain, view_stats, statement_limit}
use Rattle.dv_command.specs.Entries.{IndexAsked}
use Rattle.dv_command.specs.Lists.{CommandLists}
use Rattle.dv_command.specs.Namespaces.{longest_namespace}
use Rattle.dv_pipe.specs.Laws.{AreSpellable}
use Rattle.dv_command.specs.Sound.{IsSoundPipeline, IsIndexName}

-- each document in the lists next to a body has an encoding
abbrev pub AreValidLists : CommandLists → Type 0
AreValidLists lists = AllByRecursion (λ list. AreSpellable list.1) lists

-- in UTF-8, and not too long
abbrev pub IsNamespace : List ℕ → Type 0
IsNamespace name = IsUtf8 name × (length name ≤ longest_namespace)

-- a view of a namespace, if one is asked for
abbrev pub IsSoundViewAsked : Option ViewOn → Type 0
IsSoundViewAsked None = ⊤
IsSoundViewAsked (Some view) = IsNamespace view.source × IsSoundPipeline view.stages

-- numbers that fit an int64, so that they can be returned
abbrev pub AreIds : List ℤ → Type 0
AreIds ids = AllByRecursion (λ id. IsValue (int64 id)) ids

abbrev pub AreIndexes : List IndexAsked → Type 0
AreIndexes indexes = AllByRecursion (λ index. IsIndexName index.name) indexes

-- what a body of this many bytes asks for is sound
abbrev pub IsSoundRequest : ℕ → Asked → Type 0
IsSoundRequest size hello = ⊤
IsSoundRequest size ping = ⊤
IsSoundRequest size (write asked) = IsNamespace asked.namespace × AreSpellable asked.entries × (length asked.entries ≤ statement_limit)
IsSoundRequest size (find asked) = IsNamespace asked.namespace
IsSoundRequest size (aggregate asked) = IsNamespace asked.namespace × IsSoundPipeline asked.stages
IsSoundRequest size (get_more asked) = IsNamespace asked.namespace × IsValue (int64 asked.id)
IsSoundRequest size (kill_cursors asked) = IsNamespace asked.namespace × AreIds asked.ids × (length asked.ids ≤ size)
IsSoundRequest size (create asked) = IsNamespace asked.namespace × IsSoundViewAsked asked.view
IsSoundRequest size (drop asked) = IsNamespace asked.namespace
IsSoundRequest size (create_indexes asked) = IsNamespace asked.namespace × AreIndexes asked.indexes
IsSoundRequest size (drop_indexes asked) = IsNamespace asked.namespace
IsSoundRequest size (explain asked) = IsNamespace asked.find.namespace
IsSoundRequest size (view_stats asked) = IsNamespace asked.namespace

-- an update that is parsed from a document with valid fields
pub record IsSoundUpdate (asked : Update) : Type 0 where
  pub document : List Field
  pub valid : AreFields (fields_of document)
  pub is : updates.update_of document ≡ Ok asked
