-- What each command asks for is sound.
use Rattle.std.proofs.Common.{◌≡◌, ℕ, Bool, true, false, List, length, Option, Some, None, Ok, subst, arith}
use Rattle.std.specs.Prelude.{codes}
use Rattle.std.specs.Str.{IsUtf8}
use Rattle.dv_value.specs.Names.{value_under}
use Rattle.dv_value.specs.Spelling.{IsValue, AreFields, spelling}
use Rattle.dv_value.specs.Tree.{Tree, Field, fields_of}
use Rattle.dv_update.specs.Parsing as updates
use Rattle.dv_command.specs.Asked.{Asked, hello, ping, write, find, aggregate, get_more, kill_cursors, create, drop, create_indexes, drop_indexes, explain, view_stats, command_named, asked_alone, asked_as, asked_under, hello_of, ping_of, write_of, find_of, find_in, aggregate_of, cursor_size, get_more_of, kill_cursors_of, create_of, drop_of, create_indexes_of, drop_indexes_of, explain_of, view_stats_of, explained_command, view_fields, view_of, looked_database, checked_database, check_count, write_name, statements_name}
use Rattle.dv_command.specs.declared.asking.WriteKind.{WriteKind}
use Rattle.dv_command.specs.declared.parsing.CommandName.{CommandName}
use Rattle.dv_command.specs.declared.parsing.CommandName.TheVariants.{Alone, Writing}
use Rattle.dv_command.specs.declared.parsing.AloneName.{AloneName}
use Rattle.dv_command.specs.declared.parsing.AloneName.TheVariants as names
use Rattle.dv_command.specs.Fields as reading
use Rattle.dv_command.specs.Fields.{Table, update_under, document_under, check_fields, integer_in, text_under, array_under, boolean_under, integer_under, integers_under, natural_under}
use Rattle.dv_command.specs.Tables.{updating_table, write_table, find_fields, find_table, aggregate_table, get_more_table, kill_cursors_table, create_table, drop_table, create_indexes_table, drop_indexes_table, explain_table, view_stats_table}
use Rattle.dv_command.specs.Lists.{CommandLists, check_alone, check_only, is_alone, list_under, listed_documents}
use Rattle.dv_command.specs.Forms.{filter_of, stages_asked}
use Rattle.dv_command.specs.Forms as forms
use Rattle.dv_command.specs.Entries as entries
use Rattle.dv_command.specs.Entries.{Updating, index_asked}
use Rattle.dv_command.specs.Kinds as kinds
use Rattle.dv_command.specs.Namespaces.{database, namespace}
use Rattle.dv_refusal.specs.Refusals.{update_refusal}
use Rattle.dv_value.specs.Results.{each}
use Rattle.dv_value.specs.Inner.TreeLaws.{under_valid}
use Rattle.dv_command.specs.Inner.Sound.{AreValidLists, IsNamespace, IsSoundRequest, IsSoundUpdate}
use Rattle.dv_command.proofs.Lengths.{FieldsAdd, under_long}
use Rattle.dv_command.proofs.SoundFields.{beside_valid, count_valid, database_valid, document_valid, documents_valid, each_long, either_valid, ends, explained_valid, fields_valid, find_valid, id_valid, indexes_valid, integers_valid, list_long, list_valid, namespace_valid, parsed, pipeline_valid, succeeds, text_valid, update_valid, view_valid}

-- ---- each command

module _ (adds : FieldsAdd) (body : List Field) (lists : CommandLists) (valid : AreFields (fields_of body)) (beside : AreValidLists lists) where
  abbrev IsAsked : Asked → Type 0
  IsAsked asked = IsSoundRequest (length (spelling body)) asked

  abbrev alone : Bool
  alone = is_alone lists

  valid_under : (name : List ℕ) (v : Tree) → value_under name body ≡ Some v → IsValue v
  valid_under name v under = under_valid name body v valid under

  database_sound : (d : List ℕ) → database body ≡ Ok d → IsUtf8 d
  database_sound d is = database_valid (value_under (codes "$db") body) d (valid_under (codes "$db")) is

  looked_valid : (table : Table) (d : List ℕ) → looked_database table body ≡ Ok d → IsUtf8 d
  looked_valid table d is =
      let named = succeeds (database body) _ d is in
      let looked = succeeds (check_fields kinds.command table body) _ d named.rest_is in
      subst IsUtf8 (ends named.given d looked.rest_is) (database_sound named.given named.first_is)

  checked_valid : (table : Table) (d : List ℕ) → checked_database table body alone ≡ Ok d → IsUtf8 d
  checked_valid table d is =
      let looked = succeeds (looked_database table body) _ d is in
      let none = succeeds (check_alone alone) _ d looked.rest_is in
      subst IsUtf8 (ends looked.given d none.rest_is) (looked_valid table looked.given looked.first_is)

  name_valid : (command d c ns : List ℕ) → IsUtf8 d → text_under command body ≡ Ok c → namespace d c ≡ Ok ns → IsNamespace ns
  name_valid command d c ns database_is collection_is is =
      namespace_valid d c ns database_is (text_valid (value_under command body) c (valid_under command) collection_is) is

  write_sound : (kind : WriteKind) (a : Asked) → write_of kind body lists ≡ Ok a → IsAsked a
  write_sound kind a is =
      let command = write_name kind in
      let list = statements_name kind in
      let db = succeeds (looked_database (write_table command list) body) _ a is in
      let only = succeeds (check_only list lists) _ a db.rest_is in
      let collection = succeeds (text_under command body) _ a only.rest_is in
      let entries = succeeds (listed_documents list body lists) _ a collection.rest_is in
      let ordered = succeeds (boolean_under (codes "ordered") true body) _ a entries.rest_is in
      let into = succeeds (namespace db.given collection.given) _ a ordered.rest_is in
      let few = succeeds (check_count entries.given) _ a into.rest_is in
      let asked : Asked = write (record { kind = kind; namespace = into.given; entries = entries.given; ordered = ordered.given }) in
      subst IsAsked {x = asked} (ends asked a few.rest_is) (
        name_valid command db.given collection.given into.given (looked_valid (write_table command list) db.given db.first_is) collection.first_is into.first_is,
        either_valid (value_under list body) (list_under list lists) entries.given (valid_under list) (λ es under. beside_valid list lists es beside under) entries.first_is,
        count_valid entries.given few.given few.first_is,
      )

  find_sound : (a : Asked) → find_of body alone ≡ Ok a → IsAsked a
  find_sound a is =
      let db = succeeds (checked_database find_table body alone) _ a is in
      let asked = succeeds (find_in db.given body) _ a db.rest_is in
      subst IsAsked (ends (find asked.given) a asked.rest_is) (find_valid db.given body asked.given (checked_valid find_table db.given db.first_is) valid asked.first_is)

  aggregate_sound : (a : Asked) → aggregate_of body alone ≡ Ok a → IsAsked a
  aggregate_sound a is =
      let db = succeeds (checked_database aggregate_table body alone) _ a is in
      let collection = succeeds (text_under (codes "aggregate") body) _ a db.rest_is in
      let list = succeeds (array_under (codes "pipeline") body) _ a collection.rest_is in
      let batch_size = succeeds (cursor_size body) _ a list.rest_is in
      let from = succeeds (namespace db.given collection.given) _ a batch_size.rest_is in
      let stages = succeeds (stages_asked list.given) _ a from.rest_is in
      let asked : Asked = aggregate (record { namespace = from.given; stages = stages.given; batch_size = batch_size.given }) in
      subst IsAsked {x = asked} (ends asked a stages.rest_is) (
        name_valid (codes "aggregate") db.given collection.given from.given (checked_valid aggregate_table db.given db.first_is) collection.first_is from.first_is,
        pipeline_valid list.given stages.given (list_valid (value_under (codes "pipeline") body) list.given (valid_under (codes "pipeline")) list.first_is) stages.first_is,
      )

  get_more_sound : (a : Asked) → get_more_of body alone ≡ Ok a → IsAsked a
  get_more_sound a is =
      let db = succeeds (checked_database get_more_table body alone) _ a is in
      let id = succeeds (integer_under (codes "getMore") body) _ a db.rest_is in
      let collection = succeeds (text_under (codes "collection") body) _ a id.rest_is in
      let batch_size = succeeds (natural_under (codes "batchSize") 0 body) _ a collection.rest_is in
      let from = succeeds (namespace db.given collection.given) _ a batch_size.rest_is in
      let asked : Asked = get_more (record { id = id.given; namespace = from.given; batch_size = batch_size.given }) in
      subst IsAsked {x = asked} (ends asked a from.rest_is) (
        name_valid (codes "collection") db.given collection.given from.given (checked_valid get_more_table db.given db.first_is) collection.first_is from.first_is,
        id_valid (value_under (codes "getMore") body) id.given (valid_under (codes "getMore")) id.first_is,
      )

  kill_cursors_sound : (a : Asked) → kill_cursors_of body alone ≡ Ok a → IsAsked a
  kill_cursors_sound a is =
      let db = succeeds (checked_database kill_cursors_table body alone) _ a is in
      let collection = succeeds (text_under (codes "killCursors") body) _ a db.rest_is in
      let ids = succeeds (integers_under (codes "cursors") body) _ a collection.rest_is in
      let list = succeeds (array_under (codes "cursors") body) _ ids.given ids.first_is in
      let from = succeeds (namespace db.given collection.given) _ a ids.rest_is in
      let asked : Asked = kill_cursors (record { namespace = from.given; ids = ids.given }) in
      subst IsAsked {x = asked} (ends asked a from.rest_is) (
        name_valid (codes "killCursors") db.given collection.given from.given (checked_valid kill_cursors_table db.given db.first_is) collection.first_is from.first_is,
        integers_valid list.given ids.given (list_valid (value_under (codes "cursors") body) list.given (valid_under (codes "cursors")) list.first_is) list.rest_is,
        omega (arith, each_long integer_in list.given ids.given list.rest_is, list_long (value_under (codes "cursors") body) list.given (length (spelling body)) (under_long adds (codes "cursors") body) list.first_is),
      )

  create_sound : (a : Asked) → create_of body alone ≡ Ok a → IsAsked a
  create_sound a is =
      let db = succeeds (checked_database create_table body alone) _ a is in
      let collection = succeeds (text_under (codes "create") body) _ a db.rest_is in
      let fields = succeeds (view_fields body) _ a collection.rest_is in
      let name = succeeds (namespace db.given collection.given) _ a fields.rest_is in
      let view = succeeds (view_of db.given fields.given) _ a name.rest_is in
      let asked : Asked = create (record { namespace = name.given; view = view.given }) in
      let are_valid = fields_valid (value_under (codes "viewOn") body) (value_under (codes "pipeline") body) fields.given (valid_under (codes "viewOn")) (valid_under (codes "pipeline")) fields.first_is in
      subst IsAsked {x = asked} (ends asked a view.rest_is) (
        name_valid (codes "create") db.given collection.given name.given (checked_valid create_table db.given db.first_is) collection.first_is name.first_is,
        view_valid db.given fields.given view.given (checked_valid create_table db.given db.first_is) are_valid view.first_is,
      )

  drop_sound : (a : Asked) → drop_of body alone ≡ Ok a → IsAsked a
  drop_sound a is =
      let db = succeeds (checked_database drop_table body alone) _ a is in
      let collection = succeeds (text_under (codes "drop") body) _ a db.rest_is in
      let name = succeeds (namespace db.given collection.given) _ a collection.rest_is in
      let asked : Asked = drop (record { namespace = name.given }) in
      subst IsAsked {x = asked} (ends asked a name.rest_is)
      (name_valid (codes "drop") db.given collection.given name.given (checked_valid drop_table db.given db.first_is) collection.first_is name.first_is)

  create_indexes_sound : (a : Asked) → create_indexes_of body alone ≡ Ok a → IsAsked a
  create_indexes_sound a is =
      let db = succeeds (checked_database create_indexes_table body alone) _ a is in
      let collection = succeeds (text_under (codes "createIndexes") body) _ a db.rest_is in
      let list = succeeds (reading.documents_under (codes "indexes") body) _ a collection.rest_is in
      let name = succeeds (namespace db.given collection.given) _ a list.rest_is in
      let indexes = succeeds (each index_asked list.given) _ a name.rest_is in
      let asked : Asked = create_indexes (record { namespace = name.given; indexes = indexes.given }) in
      subst IsAsked {x = asked} (ends asked a indexes.rest_is) (
        name_valid (codes "createIndexes") db.given collection.given name.given (checked_valid create_indexes_table db.given db.first_is) collection.first_is name.first_is,
        indexes_valid list.given indexes.given (documents_valid (value_under (codes "indexes") body) list.given (valid_under (codes "indexes")) list.first_is) indexes.first_is,
      )

  drop_indexes_sound : (a : Asked) → drop_indexes_of body alone ≡ Ok a → IsAsked a
  drop_indexes_sound a is =
      let db = succeeds (checked_database drop_indexes_table body alone) _ a is in
      let collection = succeeds (text_under (codes "dropIndexes") body) _ a db.rest_is in
      let index = succeeds (text_under (codes "index") body) _ a collection.rest_is in
      let name = succeeds (namespace db.given collection.given) _ a index.rest_is in
      let asked : Asked = drop_indexes (record { namespace = name.given; index = index.given }) in
      subst IsAsked {x = asked} (ends asked a name.rest_is)
      (name_valid (codes "dropIndexes") db.given collection.given name.given (checked_valid drop_indexes_table db.given db.first_is) collection.first_is name.first_is)

  explain_sound : (a : Asked) → explain_of body alone ≡ Ok a → IsAsked a
  explain_sound a is =
      let inside = succeeds (explained_command body) _ a is in
      let db = succeeds (database body) _ a inside.rest_is in
      let looked = succeeds (check_fields kinds.command find_fields inside.given) _ a db.rest_is in
      let others = succeeds (checked_database explain_table body alone) _ a looked.rest_is in
      let asked = succeeds (find_in db.given inside.given) _ a others.rest_is in
      let explained_fields =
      explained_valid (document_under (codes "explain") body) inside.given (λ e under. document_valid (value_under (codes "explain") body) e (valid_under (codes "explain")) under) inside.first_is in
      let made : Asked = explain (record { find = asked.given }) in
      subst IsAsked {x = made} (ends made a asked.rest_is) (find_valid db.given inside.given asked.given (database_sound db.given db.first_is) explained_fields asked.first_is)

  view_stats_sound : (a : Asked) → view_stats_of body alone ≡ Ok a → IsAsked a
  view_stats_sound a is =
      let db = succeeds (checked_database view_stats_table body alone) _ a is in
      let collection = succeeds (text_under (codes "viewStats") body) _ a db.rest_is in
      let name = succeeds (namespace db.given collection.given) _ a collection.rest_is in
      let asked : Asked = view_stats (record { namespace = name.given }) in
      subst IsAsked {x = asked} (ends asked a name.rest_is)
      (name_valid (codes "viewStats") db.given collection.given name.given (checked_valid view_stats_table db.given db.first_is) collection.first_is name.first_is)

  hello_sound : (a : Asked) → hello_of body ≡ Ok a → IsAsked a
  hello_sound a is = subst IsAsked (ends hello a (succeeds (database body) _ a is).rest_is) tt

  ping_sound : (a : Asked) → ping_of body ≡ Ok a → IsAsked a
  ping_sound a is = subst IsAsked (ends ping a (succeeds (database body) _ a is).rest_is) tt

  alone_sound : (name : AloneName) (a : Asked) → asked_alone name body alone ≡ Ok a → IsAsked a
  alone_sound names.Hello a is = hello_sound a is
  alone_sound names.Ping a is = ping_sound a is
  alone_sound names.Find a is = find_sound a is
  alone_sound names.Aggregate a is = aggregate_sound a is
  alone_sound names.GetMore a is = get_more_sound a is
  alone_sound names.KillCursors a is = kill_cursors_sound a is
  alone_sound names.Create a is = create_sound a is
  alone_sound names.Drop a is = drop_sound a is
  alone_sound names.CreateIndexes a is = create_indexes_sound a is
  alone_sound names.DropIndexes a is = drop_indexes_sound a is
  alone_sound names.Explain a is = explain_sound a is
  alone_sound names.ViewStats a is = view_stats_sound a is

  named_sound : (name : Option CommandName) (a : Asked) → asked_as name body lists ≡ Ok a → IsAsked a
  named_sound None a is = absurd cc
  named_sound (Some (Writing kind)) a is = write_sound kind a is
  named_sound (Some (Alone name)) a is = alone_sound name a is

  pub asked_sound : (name : List ℕ) (a : Asked) → asked_under name body lists ≡ Ok a → IsAsked a
  asked_sound name a is = named_sound (command_named name) a is

-- ---- entries of updates

pub updating_sound : (entry : List Field) (asked : Updating) → AreFields (fields_of entry) → entries.updating_of entry ≡ Ok asked → IsSoundUpdate asked.update
updating_sound entry asked valid is =
    let looked = succeeds (check_fields kinds.entry updating_table entry) _ asked is in
    let q = succeeds (document_under (codes "q") entry) _ asked looked.rest_is in
    let u = succeeds (update_under (codes "u") entry) _ asked q.rest_is in
    let multi = succeeds (boolean_under (codes "multi") false entry) _ asked u.rest_is in
    let many = succeeds (entries.check_multi multi.given u.given) _ asked multi.rest_is in
    let filter = succeeds (filter_of q.given) _ asked many.rest_is in
    let update = succeeds (forms.update_asked u.given) _ asked filter.rest_is in
    let made : Updating = record { filter = filter.given; update = update.given; multi = multi.given } in
    let sound : IsSoundUpdate update.given = record {
      document = u.given;
      valid = update_valid (value_under (codes "u") entry) u.given (λ v under. under_valid (codes "u") entry v valid under) u.first_is;
      is = parsed update_refusal (updates.update_of u.given) update.given update.first_is;
    } in
    subst (λ (w : Updating). IsSoundUpdate w.update) {x = made} (ends made asked update.rest_is) sound
