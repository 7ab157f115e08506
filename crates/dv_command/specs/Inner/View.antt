-- How what is defined is represented in memory.
use Rattle.std.specs.Prelude.{List, [], map, Option, Some, None}
use Rattle.std.specs.Option.{option_map}
use Rattle.std.specs.String.{string_bytes}
use Rattle.dv_path.specs.SortSpec.{Part}
use Rattle.dv_command.specs.Asked.{Asked, Write, Find, Aggregate, GetMore, KillCursors, ViewOn, ViewFields, Create, Drop, CreateIndexes, DropIndexes, Explain, ViewStats}
use Rattle.dv_command.specs.Asked as asking
use Rattle.dv_update.specs.UpdateView as updates
use Rattle.dv_command.specs.Entries.{Deletion, Updating, IndexAsked}
use Rattle.dv_command.specs.declared.asking.Asked as declared
use Rattle.dv_command.specs.declared.asking.Asked.TheVariants.{Hello, Ping, Write as Writes, Find as Finds, Aggregate as Aggregates, GetMore as GetsMore, KillCursors as KillsCursors, Create as Creates, Drop as Drops, CreateIndexes as CreatesIndexes, DropIndexes as DropsIndexes, Explain as Explains, ViewStats as TellsOfView}
use Rattle.dv_command.specs.declared.asking.Write as writing
use Rattle.dv_command.specs.declared.asking.Find as finding
use Rattle.dv_command.specs.declared.asking.Aggregate as aggregating
use Rattle.dv_command.specs.declared.asking.GetMore as getting
use Rattle.dv_command.specs.declared.asking.KillCursors as killing
use Rattle.dv_command.specs.declared.asking.ViewOn as viewing
use Rattle.dv_command.specs.declared.asking.ViewFields as fields
use Rattle.dv_command.specs.declared.asking.Create as creating
use Rattle.dv_command.specs.declared.asking.DropNamespace as dropping
use Rattle.dv_command.specs.declared.asking.CreateIndexes as indexing
use Rattle.dv_command.specs.declared.asking.IndexAsked as indexes
use Rattle.dv_command.specs.declared.asking.DropIndexes as removing
use Rattle.dv_command.specs.declared.asking.Explain as explaining
use Rattle.dv_command.specs.declared.asking.ViewStats as telling
use Rattle.dv_command.specs.declared.entries.Deletion as deletions
use Rattle.dv_command.specs.declared.entries.Updating as updatings

-- without a sort there are no paths
abbrev pub sort_seen : Option (List Part) → List Part
sort_seen None = []
sort_seen (Some parts) = parts

abbrev pub write_seen : writing.Write → Write
write_seen w = record { kind = w.kind; namespace = string_bytes w.namespace; entries = w.entries; ordered = w.ordered }

abbrev pub find_seen : finding.Find → Find
find_seen f = record { namespace = string_bytes f.namespace; filter = f.filter; sort = sort_seen f.sort; skip = f.skip; limit = f.limit; batch_size = f.batch_size; single_batch = f.single_batch }

abbrev pub aggregate_seen : aggregating.Aggregate → Aggregate
aggregate_seen a = record { namespace = string_bytes a.namespace; stages = a.pipeline; batch_size = a.batch_size }

abbrev pub get_more_seen : getting.GetMore → GetMore
get_more_seen g = record { id = g.id; namespace = string_bytes g.namespace; batch_size = g.batch_size }

abbrev pub kill_cursors_seen : killing.KillCursors → KillCursors
kill_cursors_seen k = record { namespace = string_bytes k.namespace; ids = k.ids.items }

abbrev pub view_on_seen : viewing.ViewOn → ViewOn
view_on_seen v = record { source = string_bytes v.source; stages = v.pipeline }

abbrev pub view_fields_seen : fields.ViewFields → ViewFields
view_fields_seen f = record { collection = f.collection.now; list = f.list.now }

abbrev pub create_seen : creating.Create → Create
create_seen c = record { namespace = string_bytes c.namespace; view = option_map view_on_seen c.view }

abbrev pub drop_seen : dropping.DropNamespace → Drop
drop_seen d = record { namespace = string_bytes d.namespace }

abbrev pub index_seen : indexes.IndexAsked → IndexAsked
index_seen i = record { name = i.name; path = i.path; unique = i.unique }

abbrev pub create_indexes_seen : indexing.CreateIndexes → CreateIndexes
create_indexes_seen c = record { namespace = string_bytes c.namespace; indexes = map index_seen c.indexes.items }

abbrev pub drop_indexes_seen : removing.DropIndexes → DropIndexes
drop_indexes_seen d = record { namespace = string_bytes d.namespace; index = string_bytes d.index }

abbrev pub explain_seen : explaining.Explain → Explain
explain_seen e = record { find = find_seen e.find }

abbrev pub view_stats_seen : telling.ViewStats → ViewStats
view_stats_seen v = record { namespace = string_bytes v.namespace }

abbrev pub deletion_seen : deletions.Deletion → Deletion
deletion_seen d = record { filter = d.filter; only_first = d.only_first }

abbrev pub updating_seen : updatings.Updating → Updating
updating_seen u = record { filter = u.filter; update = updates.update u.update; multi = u.multi }

abbrev pub asked_seen : declared.Asked → Asked
asked_seen Hello = asking.hello
asked_seen Ping = asking.ping
asked_seen (Writes w) = asking.write (write_seen w)
asked_seen (Finds f) = asking.find (find_seen f)
asked_seen (Aggregates a) = asking.aggregate (aggregate_seen a)
asked_seen (GetsMore g) = asking.get_more (get_more_seen g)
asked_seen (KillsCursors k) = asking.kill_cursors (kill_cursors_seen k)
asked_seen (Creates c) = asking.create (create_seen c)
asked_seen (Drops d) = asking.drop (drop_seen d)
asked_seen (CreatesIndexes c) = asking.create_indexes (create_indexes_seen c)
asked_seen (DropsIndexes d) = asking.drop_indexes (drop_indexes_seen d)
asked_seen (Explains e) = asking.explain (explain_seen e)
asked_seen (TellsOfView v) = asking.view_stats (view_stats_seen v)
