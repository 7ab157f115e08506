use Rattle.std.proofs.Common.{rules, ◌≡◌, ◌<◌, ◌+◌, length, slice_get, Some, ℕ, List, Option, ap, subst, take, ◌∙◌}
use Rattle.std.proofs.lemmas.List.{take_all}
use Rattle.dv_change.specs.declared.input.Input.TheVariants.{Named}
use Rattle.dv_change.specs.declared.taking.Taken as taking
use Rattle.dv_views.specs.Inner.Keeping.{kept_seen}
use Rattle.dv_views.specs.Inner.Older.{told_found}
use Rattle.dv_views.specs.Inner.Turned.{Turns, coming, coming_to_lists}
use Rattle.dv_views.proofs.Marked.{take_count, take_last, there_at}
use Rattle.dv_views.proofs.Rolling.{turns_list, turns_none}
use Rattle.dv_views.proofs.passing.Passing.taken_by_lists.Goals as goal

pub lists-init : goal.lists-init
lists-init c = record { sound = c.requires; turns = turns_none (kept_seen c.args.live) c.args.told.now.items }

pub lists-preserved : goal.lists-preserved
lists-preserved c =
    let known = told_found c.args.self.now.namespace.now c.args.self.now.all.now c.args.self.now.place c.args.self.now.views.now.entries in
    let so_far = take c.lists.place c.args.lookups.now in
    let name = c.index-lookups-place.result in
    let within : c.lists.place < length c.args.lookups.now = search rules in
    let there : slice_get c.args.lookups.now c.lists.place ≡ Some name = there_at name c.args.lookups.now c.lists.place within c.index-lookups-place.is in
    record {
      sound = c.in_ok-live.ensures.sound;
      turns =
          turns_list (kept_seen c.args.live) (kept_seen c.lists.live) (kept_seen c.in_ok-live.live) c.args.told.now.items c.lists.told.items c.taken_in_told.new.told.items known so_far (take (c.lists.place + 1) c.args.lookups.now) name c.lists.place
          (take_last c.args.lookups.now c.lists.place name there) (take_count c.args.lookups.now c.lists.place within) c.lists.invariant.turns
          (subst (λ (o : Option (List taking.Taken)). Turns (coming (Named c.lists.place) o) (kept_seen c.lists.live) c.lists.told.items (kept_seen c.in_ok-live.live) c.taken_in_told.new.told.items) (c.told-come.ensures ∙ ap known c.as_str.ensures) c.in_ok-live.ensures.turns);
    }

pub returns-clause-turns : goal.returns-clause-turns
returns-clause-turns c =
    let known = told_found c.args.self.now.namespace.now c.args.self.now.all.now c.args.self.now.place c.args.self.now.views.now.entries in
    subst (λ (names : List (List ℕ)). Turns (coming_to_lists 0 names known) (kept_seen c.args.live) c.args.told.now.items (kept_seen c.lists.live) c.lists.told.items) (take_all c.lists.place c.args.lookups.now c.lists-test.false) c.lists.invariant.turns
