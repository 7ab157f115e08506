-- What changes of a collection do to its documents.
use Rattle.std.specs.Prelude.{ℕ, List, if◌then◌else◌}
use Rattle.std.specs.Str.{bytes_eq}
use Rattle.dv_change.specs.declared.change.Change.{Change}
use Rattle.dv_change.specs.Changes.{with_changes, forget}
use Rattle.dv_pipe.specs.Sources.{Row}
use Rattle.dv_pipe.specs.Stages.{Lists}
use Rattle.dv_views.specs.Placed.{positioned}

-- a collection's documents after changes
abbrev pub documents_changed : List Change → List Row → List Row
documents_changed changes documents = forget (with_changes (positioned documents) changes)

-- the documents of each namespace after changes of one of them
abbrev pub with_changed : List ℕ → List Change → Lists → Lists
with_changed namespace changes lists name = if bytes_eq namespace name then documents_changed changes (lists name) else lists name
