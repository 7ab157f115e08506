use Rattle.std.proofs.Common.{◌≡◌, ◌++◌, ◌∷◌, ◌||◌, [], false, List, ℕ, map, ap, subst, sym, ◌∙◌}
use Rattle.std.specs.List.{AllByRecursion}
use Rattle.std.proofs.lemmas.List.{map-append}
use Rattle.std.specs.String.{string_bytes, string_eq}
use Rattle.indexmap.proofs.CallerLemmas.{insert_entry-new}
use Rattle.dv_pipe.specs.Sources.{lists_of}
use Rattle.dv_pipe.specs.Stages.{is_read}
use Rattle.dv_views.specs.Inner.Body.{Body}
use Rattle.dv_views.specs.Forms.{ViewForm, height_over, heights, is_read_by, names_read}
use Rattle.dv_views.specs.Inner.Ground.{IsBuilt}
use Rattle.dv_views.specs.Inner.Made.{IsAdded, IsNoStale}
use Rattle.dv_views.specs.Inner.Keeping.{kept_seen}
use Rattle.dv_views.specs.Inner.Older.{Entries, views}
use Rattle.dv_views.specs.Inner.Readers.{AreReaders, listing_seen}
use Rattle.dv_views.specs.Inner.Seen.{AreSilent, HaveHeights, IsSoundRegistry, view_seen, entry_view}
use Rattle.dv_views.specs.Views.{View, live}
use Rattle.dv_views.specs.Inner.Views.{AreNamedApart, AreRight, Views, view_form, has_view, view_under}
use Rattle.dv_views.proofs.Entries.{named_apart, none_there, seen_last}
use Rattle.dv_views.proofs.Heights.{forms_of, heights_added}
use Rattle.dv_views.proofs.Refreshing.{is_added, right_added, sound_added, views_all}
use Rattle.dv_views.proofs.Silent.{silent_last}
use Rattle.dv_views.proofs.told_registry.ToldRegistry.add.Goals as goal

pub made-requires-clause-live : goal.made-requires-clause-live
made-requires-clause-live c =
    let es = c.self.inside.views.entries in
    let names = names_read c.args.pipeline c.args.source.now in
    subst (λ (vs : Views). AllByRecursion (λ n. IsNoStale (view_under n vs)) names) (sym (views_all c.len.result es c.len.ensures.len))
    (subst (λ (vs : Views). AllByRecursion (λ n. IsNoStale (view_under n vs)) names) (sym c.self.view_is) c.requires.live)

pub invariant_of-self-2 : goal.invariant_of-self-2
invariant_of-self-2 c =
    let es = c.self.inside.views.entries in
    let key = c.in_ok-name.name in
    let body = c.new-view.result in
    let name = c.args.name.now in
    let source = c.args.source.now in
    let stages = c.args.pipeline in
    let lists = lists_of c.args.sources.now in
    let mark = live (kept_seen c.in_ok-rows.rows) in
    let absent = none_there (string_bytes key) es (rw (c.in_ok-name.ensures.ok, c.self.view_is) c.requires.new) in
    let left = c.in_ok-insert.ensures.entries ∙ insert_entry-new string_eq c.self.inside.views key body absent in
    let view : View = record { name = name; source = source; stages = stages; mark = mark } in
    let same : entry_view (key, body) ≡ view = (λ i. view_seen (c.in_ok-name.ensures.ok i) (c.new-view.ensures i)) ∙ ap (λ (s : List ℕ). record { name = name; source = s; stages = stages; mark = mark }) (c.of-source.ensures ∙ c.in_ok-from_str.ensures.ok) in
    let whole : views c.insert.new.self.entries ≡ views es ++ view ∷ [] = ap views left ∙ seen_last es (key, body) ∙ ap (λ (v : View). views es ++ v ∷ []) same in
    let built : IsBuilt stages source (views es) lists mark = subst (λ (vs : Views). IsBuilt stages source vs lists mark) (views_all c.len.result es c.len.ensures.len) c.in_ok-rows.ensures.built in
    let new : has_view (string_bytes key) (views es) ≡ false = rw (c.in_ok-name.ensures.ok, c.self.view_is) c.requires.new in
    let high : body.height ≡ height_over (heights (forms_of es)) body.stages body.source =
    ap (λ (b : Body). b.height) c.new-view.ensures ∙ c.height_over-height.ensures ∙ ap (λ (vs : Views). height_over (heights (map view_form vs)) stages source) (sym c.self.view_is)
    ∙ (λ i. height_over (heights (forms_of es)) (sym (c.new-view.ensures) i).stages (sym (ap (λ (b : Body). b.source) c.new-view.ensures ∙ c.of-source.ensures ∙ c.in_ok-from_str.ensures.ok) i)) in
    record {
      views =
          subst (λ (vs : Views). IsSoundRegistry vs) (sym whole)
          (sound_added (views es) name source stages mark lists built c.self.invariant.views
          (subst (λ (vs : Views). AreNamedApart vs) whole (named_apart c.insert.new.self.entries c.in_ok-insert.ensures.unique))
          (subst (λ (vs : Views). is_read_by (map view_form vs) name || is_read stages source name ≡ false) (sym c.self.view_is) c.requires.unread));
      heights = subst (λ (fs : Entries _). HaveHeights (heights (forms_of fs)) fs) (sym left) (heights_added es (key, body) new high c.self.invariant.heights);
      silent = subst (λ (fs : Entries _). AreSilent fs) (sym left) (silent_last es (key, body) c.self.invariant.silent (ap (λ (b : Body). b.told) c.new-view.ensures));
      readers =
          subst (λ (fs : Entries _). AreReaders (forms_of fs) (listing_seen c.in_ok-readers.readers.lists.entries)) (sym left)
          (subst (λ (vs : Views). AreReaders (map view_form vs) (listing_seen c.in_ok-readers.readers.lists.entries)) (sym (seen_last es (key, body)))
          (subst (λ (fs : List ViewForm). AreReaders fs (listing_seen c.in_ok-readers.readers.lists.entries)) (sym (map-append view_form (views es) (entry_view (key, body) ∷ []))) (c.in_ok-readers.ensures (string_bytes key))));
    }

pub returns-clause-ok : goal.returns-clause-ok
returns-clause-ok c =
    let es = c.self.inside.views.entries in
    let key = c.in_ok-name.name in
    let body = c.new-view.result in
    let name = c.args.name.now in
    let source = c.args.source.now in
    let stages = c.args.pipeline in
    let lists = lists_of c.args.sources.now in
    let mark = live (kept_seen c.in_ok-rows.rows) in
    let absent = none_there (string_bytes key) es (rw (c.in_ok-name.ensures.ok, c.self.view_is) c.requires.new) in
    let left = c.in_ok-insert.ensures.entries ∙ insert_entry-new string_eq c.self.inside.views key body absent in
    let view : View = record { name = name; source = source; stages = stages; mark = mark } in
    let same : entry_view (key, body) ≡ view = (λ i. view_seen (c.in_ok-name.ensures.ok i) (c.new-view.ensures i)) ∙ ap (λ (s : List ℕ). record { name = name; source = s; stages = stages; mark = mark }) (c.of-source.ensures ∙ c.in_ok-from_str.ensures.ok) in
    let whole : views c.insert.new.self.entries ≡ views es ++ view ∷ [] = ap views left ∙ seen_last es (key, body) ∙ ap (λ (v : View). views es ++ v ∷ []) same in
    let built : IsBuilt stages source (views es) lists mark = subst (λ (vs : Views). IsBuilt stages source vs lists mark) (views_all c.len.result es c.len.ensures.len) c.in_ok-rows.ensures.built in
    subst (λ (vs : Views). IsAdded name source stages vs (views c.insert.new.self.entries)) c.self.view_is
    (subst (λ (ws : Views). IsAdded name source stages (views es) ws) (sym whole) (is_added (views es) name source stages mark lists built))

pub returns-clause-right : goal.returns-clause-right
returns-clause-right c = λ others alike right.
    let es = c.self.inside.views.entries in
    let key = c.in_ok-name.name in
    let body = c.new-view.result in
    let name = c.args.name.now in
    let source = c.args.source.now in
    let stages = c.args.pipeline in
    let lists = lists_of c.args.sources.now in
    let mark = live (kept_seen c.in_ok-rows.rows) in
    let absent = none_there (string_bytes key) es (rw (c.in_ok-name.ensures.ok, c.self.view_is) c.requires.new) in
    let left = c.in_ok-insert.ensures.entries ∙ insert_entry-new string_eq c.self.inside.views key body absent in
    let view : View = record { name = name; source = source; stages = stages; mark = mark } in
    let same : entry_view (key, body) ≡ view = (λ i. view_seen (c.in_ok-name.ensures.ok i) (c.new-view.ensures i)) ∙ ap (λ (s : List ℕ). record { name = name; source = s; stages = stages; mark = mark }) (c.of-source.ensures ∙ c.in_ok-from_str.ensures.ok) in
    let whole : views c.insert.new.self.entries ≡ views es ++ view ∷ [] = ap views left ∙ seen_last es (key, body) ∙ ap (λ (v : View). views es ++ v ∷ []) same in
    let built : IsBuilt stages source (views es) lists mark = subst (λ (vs : Views). IsBuilt stages source vs lists mark) (views_all c.len.result es c.len.ensures.len) c.in_ok-rows.ensures.built in
    subst (λ (ws : Views). AreRight others ws) (sym whole)
    (right_added (views es) name source stages mark lists built c.self.invariant.views c.kept_rows_are_those_from_scratch.ensures c.what_is_not_read_does_not_matter.ensures others alike (subst (AreRight others) (sym c.self.view_is) right))
