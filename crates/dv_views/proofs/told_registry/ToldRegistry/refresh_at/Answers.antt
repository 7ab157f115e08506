use Rattle.std.proofs.Common.{◌≡◌, ℕ, List, true, false, map, take, slice_get, Some, ap, subst, sym, ◌∙◌}
use Rattle.std.specs.List.{AllByRecursion}
use Rattle.std.specs.String.{string_bytes}
use Rattle.indexmap.specs.IndexMap.{set_value_at}
use Rattle.dv_pipe.specs.Sources.{lists_of}
use Rattle.dv_pipe.specs.declared.stage.Stage.{Stage}
use Rattle.dv_views.specs.Inner.Body.{Body}
use Rattle.dv_views.specs.Forms.{IsClosed, ViewForm, heights, is_name_among, names_read}
use Rattle.dv_views.specs.Inner.Ground.{IsBuilt}
use Rattle.dv_views.specs.Inner.Made.{IsNoStale, IsRefreshedAt}
use Rattle.dv_views.specs.Inner.Keeping.{kept_seen}
use Rattle.dv_views.specs.Inner.Older.{views, views_before}
use Rattle.dv_views.specs.Inner.Readers.{AreReaders, listing_seen}
use Rattle.dv_views.specs.Inner.Seen.{HaveHeights, IsSoundRegistry, view_seen}
use Rattle.dv_views.specs.Views.{live}
use Rattle.dv_views.specs.Inner.Views.{AreInOrder, AreRight, Views, view_form, view_under, is_stale}
use Rattle.dv_views.proofs.Heights.{heights_written}
use Rattle.dv_views.proofs.Joining.{fresh_built}
use Rattle.dv_views.proofs.Refreshing.{forms_set, fresh_reads, keeping, left_at, ordered_reads, reads_listed, refreshed_at, replaces, right_refreshed, same_there, sound_set, view_there, views_kept, views_take}
use Rattle.dv_views.proofs.Silent.{silent_kept}
use Rattle.dv_views.proofs.told_registry.ToldRegistry.refresh_at.Goals as goal
use Rattle.dv_views.proofs.told_registry.ToldRegistry.refresh_at.Goals.{then-not-is_stale-via-then-not-is_stale, then-not-is_stale-via-else-not-is_stale+then-not-is_listed}

pub returns-then-not-is_stale-clause-ok : goal.returns-then-not-is_stale-clause-ok
returns-then-not-is_stale-clause-ok c =
    let k = c.in-Some.name.now in
    let b = c.in-Some.view.now in
    let v = view_seen (string_bytes k) b in
    let names = c.args.names.now in
    let there : slice_get c.args.self.now c.args.place ≡ Some v = subst (λ (vs : Views). slice_get vs c.args.place ≡ Some v) c.self.view_is (view_there c.args.place c.self.inside.views.entries k b (sym c.in-Some.ensures.entry)) in
    left_at names c.args.place c.args.self.now v there
    (elim c.then-not-is_stale.branch [
      | then-not-is_stale-via-then-not-is_stale w ↦ λ _. sym c.is_stale.ensures ∙ w.if-not-is_stale.true
      | then-not-is_stale-via-else-not-is_stale+then-not-is_listed w ↦ λ among. absurd (cc (sym among ∙ ap (λ (n : List ℕ). is_name_among n names) (sym w.as_str.ensures.value) ∙ sym w.is_listed.ensures ∙ w.if-not-is_listed.true))
    ])

pub made-requires-clause-read : goal.made-requires-clause-read
made-requires-clause-read c =
    let k = c.in-Some.name.now in
    let b = c.in-Some.view.now in
    let v = view_seen (string_bytes k) b in
    let names = c.args.names.now in
    let lists = lists_of c.args.sources.now in
    let there : slice_get c.args.self.now c.args.place ≡ Some v = subst (λ (vs : Views). slice_get vs c.args.place ≡ Some v) c.self.view_is (view_there c.args.place c.self.inside.views.entries k b (sym c.in-Some.ensures.entry)) in
    let listed : is_name_among v.name names ≡ true = ap (λ (n : List ℕ). is_name_among n names) (sym c.as_str.ensures.value) ∙ sym c.is_listed.ensures ∙ c.if-not-is_listed.false in
    subst (λ (stages : List Stage). AllByRecursion (λ n. AreInOrder (lists n)) (names_read stages c.source.result.now)) (sym c.pipeline.ensures)
    (subst (λ (source : List ℕ). AllByRecursion (λ n. AreInOrder (lists n)) (names_read b.stages source)) (sym c.source.ensures)
    (ordered_reads names lists (names_read b.stages b.source) c.requires.read (reads_listed names c.args.place c.args.self.now v c.requires.closed there listed)))

pub made-requires-clause-live : goal.made-requires-clause-live
made-requires-clause-live c =
    let es = c.self.inside.views.entries in
    let k = c.in-Some.name.now in
    let b = c.in-Some.view.now in
    let v = view_seen (string_bytes k) b in
    let n = c.args.place in
    let names = c.args.names.now in
    let older = views_before n es in
    let there : slice_get c.args.self.now n ≡ Some v = subst (λ (vs : Views). slice_get vs n ≡ Some v) c.self.view_is (view_there n es k b (sym c.in-Some.ensures.entry)) in
    let listed : is_name_among v.name names ≡ true = ap (λ (m : List ℕ). is_name_among m names) (sym c.as_str.ensures.value) ∙ sym c.is_listed.ensures ∙ c.if-not-is_listed.false in
    let fresh : AllByRecursion (λ u. is_name_among u.name names ≡ true → is_stale u.mark ≡ false) older =
    subst (λ (vs : Views). AllByRecursion (λ u. is_name_among u.name names ≡ true → is_stale u.mark ≡ false) vs) (sym (views_take n es))
    (subst (λ (vs : Views). AllByRecursion (λ u. is_name_among u.name names ≡ true → is_stale u.mark ≡ false) (take n vs)) (sym c.self.view_is) c.requires.fresh) in
    subst (λ (stages : List Stage). AllByRecursion (λ m. IsNoStale (view_under m older)) (names_read stages c.source.result.now)) (sym c.pipeline.ensures)
    (subst (λ (source : List ℕ). AllByRecursion (λ m. IsNoStale (view_under m older)) (names_read b.stages source)) (sym c.source.ensures)
    (fresh_reads names older (names_read b.stages b.source) fresh (reads_listed names n c.args.self.now v c.requires.closed there listed)))

pub keep-requires : goal.keep-requires
keep-requires c = c.in_ok-rows.ensures.sound

pub invariant_of-self : goal.invariant_of-self
invariant_of-self c =
    let es = c.self.inside.views.entries in
    let k = c.in-Some.name.now in
    let b = c.in-Some.view.now in
    let v = view_seen (string_bytes k) b in
    let n = c.args.place in
    let names = c.args.names.now in
    let lists = lists_of c.args.sources.now in
    let mark = live (kept_seen c.in_ok-rows.rows) in
    let there : slice_get (views es) n ≡ Some v = view_there n es k b (sym c.in-Some.ensures.entry) in
    let listed : is_name_among v.name names ≡ true = ap (λ (m : List ℕ). is_name_among m names) (sym c.as_str.ensures.value) ∙ sym c.is_listed.ensures ∙ c.if-not-is_listed.false in
    let stale : is_stale v.mark ≡ true = sym c.is_stale.ensures ∙ c.if-not-is_stale.false in
    let same = same_there n es k b c.index_mut-view.result.now (sym c.in-Some.ensures.entry) c.index_mut-view.ensures.value in
    let built : IsBuilt b.stages b.source (take n (views es)) lists mark =
    subst (λ (vs : Views). IsBuilt b.stages b.source vs lists mark) (views_take n es)
    (subst (λ (source : List ℕ). IsBuilt b.stages source (views_before n es) lists mark) c.source.ensures
    (subst (λ (stages : List Stage). IsBuilt stages c.source.result.now (views_before n es) lists mark) c.pipeline.ensures c.in_ok-rows.ensures.built)) in
    let kept = views_kept n es k b c.index_mut-view.result.now c.keep.new.self mark (sym c.in-Some.ensures.entry) same c.keep.ensures in
    let forms : map view_form (views (set_value_at es n c.keep.new.self)) ≡ map view_form (views es) = ap (map view_form) kept ∙ forms_set (keeping v mark) n (views es) (replaces mark v stale n (views es) there) in
    record {
      views =
          subst (λ (vs : Views). IsSoundRegistry vs) (sym kept)
          (sound_set names mark v stale listed n (views es) there c.self.invariant.views (subst (λ (vs : Views). IsClosed names (map view_form vs)) (sym c.self.view_is) c.requires.closed) lists built);
      heights =
          subst (λ (fs : List ViewForm). HaveHeights (heights fs) (set_value_at es n c.keep.new.self)) (sym forms)
          (heights_written (heights (map view_form (views es))) n es c.index_mut-view.result.now c.keep.new.self c.index_mut-view.ensures.value (ap (λ (y : Body). y.height) c.keep.ensures) c.self.invariant.heights);
      silent = silent_kept n es c.index_mut-view.result.now c.keep.new.self c.index_mut-view.ensures.value (ap (λ (y : Body). y.told) c.keep.ensures) c.self.invariant.silent;
      readers = subst (λ (fs : List ViewForm). AreReaders fs (listing_seen c.self.inside.readers.lists.entries)) (sym forms) c.self.invariant.readers;
    }

pub returns-clause-ok : goal.returns-clause-ok
returns-clause-ok c =
    let es = c.self.inside.views.entries in
    let k = c.in-Some.name.now in
    let b = c.in-Some.view.now in
    let v = view_seen (string_bytes k) b in
    let n = c.args.place in
    let names = c.args.names.now in
    let lists = lists_of c.args.sources.now in
    let mark = live (kept_seen c.in_ok-rows.rows) in
    let there : slice_get (views es) n ≡ Some v = view_there n es k b (sym c.in-Some.ensures.entry) in
    let listed : is_name_among v.name names ≡ true = ap (λ (m : List ℕ). is_name_among m names) (sym c.as_str.ensures.value) ∙ sym c.is_listed.ensures ∙ c.if-not-is_listed.false in
    let stale : is_stale v.mark ≡ true = sym c.is_stale.ensures ∙ c.if-not-is_stale.false in
    let same = same_there n es k b c.index_mut-view.result.now (sym c.in-Some.ensures.entry) c.index_mut-view.ensures.value in
    let fresh = fresh_built c.pipeline.result.now c.source.result.now (views_before n es) lists mark c.in_ok-rows.ensures.built in
    subst (λ (vs : Views). IsRefreshedAt n names vs (views (set_value_at es n c.keep.new.self))) c.self.view_is
    (subst (λ (ws : Views). IsRefreshedAt n names (views es) ws) (sym (views_kept n es k b c.index_mut-view.result.now c.keep.new.self mark (sym c.in-Some.ensures.entry) same c.keep.ensures))
    (refreshed_at names mark v stale listed fresh n (views es) there))

pub returns-clause-right : goal.returns-clause-right
returns-clause-right c = λ others alike right.
    let es = c.self.inside.views.entries in
    let k = c.in-Some.name.now in
    let b = c.in-Some.view.now in
    let v = view_seen (string_bytes k) b in
    let n = c.args.place in
    let names = c.args.names.now in
    let lists = lists_of c.args.sources.now in
    let mark = live (kept_seen c.in_ok-rows.rows) in
    let there : slice_get (views es) n ≡ Some v = view_there n es k b (sym c.in-Some.ensures.entry) in
    let listed : is_name_among v.name names ≡ true = ap (λ (m : List ℕ). is_name_among m names) (sym c.as_str.ensures.value) ∙ sym c.is_listed.ensures ∙ c.if-not-is_listed.false in
    let stale : is_stale v.mark ≡ true = sym c.is_stale.ensures ∙ c.if-not-is_stale.false in
    let same = same_there n es k b c.index_mut-view.result.now (sym c.in-Some.ensures.entry) c.index_mut-view.ensures.value in
    let built : IsBuilt b.stages b.source (take n (views es)) lists mark =
    subst (λ (vs : Views). IsBuilt b.stages b.source vs lists mark) (views_take n es)
    (subst (λ (source : List ℕ). IsBuilt b.stages source (views_before n es) lists mark) c.source.ensures
    (subst (λ (stages : List Stage). IsBuilt stages c.source.result.now (views_before n es) lists mark) c.pipeline.ensures c.in_ok-rows.ensures.built)) in
    subst (λ (ws : Views). AreRight others ws) (sym (views_kept n es k b c.index_mut-view.result.now c.keep.new.self mark (sym c.in-Some.ensures.entry) same c.keep.ensures))
    (right_refreshed names mark v stale listed n (views es) there c.self.invariant.views (subst (λ (vs : Views). IsClosed names (map view_form vs)) (sym c.self.view_is) c.requires.closed) lists built
    c.kept_rows_are_those_from_scratch.ensures c.what_is_not_read_does_not_matter.ensures others alike (subst (AreRight others) (sym c.self.view_is) right))
