use Rattle.std.proofs.Common.{◌++◌, ◌∷◌, [], List, Some, ap, take, sym, subst, ◌∙◌}
use Rattle.std.proofs.lemmas.List.{take_all, take_more}
use Rattle.dv_change.specs.declared.taking.Taken as taking
use Rattle.dv_views.specs.Inner.Keeping.{kept_seen}
use Rattle.dv_views.specs.Inner.Turned.{Turns, coming}
use Rattle.dv_views.proofs.Rolling.{turns_more, turns_none}
use Rattle.dv_views.proofs.keeping.taken_in_each.Goals as goal

pub all-init : goal.all-init
all-init c = record { sound = c.requires.sound; turns = turns_none (kept_seen c.args.rows) c.args.told.now.items }

pub all-preserved : goal.all-preserved
all-preserved c =
    let so_far = take c.all.taken-index c.args.all.now in
    let more = take_more c.args.all.now c.all.taken-index c.taken-item.result c.all-test.true ∙ ap (λ (x : taking.Taken). so_far ++ x ∷ []) (sym c.taken-item.is) in
    record {
      sound = c.in_ok-live.ensures.sound;
      turns = turns_more (kept_seen c.args.rows) (kept_seen c.all.live) (kept_seen c.in_ok-live.live) c.args.told.now.items c.all.told.items c.taken_in.new.told.items c.args.input so_far _ c.taken-item.result more c.all.invariant.turns c.in_ok-live.ensures.turns;
    }

pub returns-clause-turns : goal.returns-clause-turns
returns-clause-turns c =
    subst (λ (ts : List taking.Taken). Turns (coming c.args.input (Some ts)) (kept_seen c.args.rows) c.args.told.now.items (kept_seen c.all.live) c.all.told.items) (take_all c.all.taken-index c.args.all.now c.all-test.false) c.all.invariant.turns
