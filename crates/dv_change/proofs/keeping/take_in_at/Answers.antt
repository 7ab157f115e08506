-- The change is applied to the list at the place.
use Rattle.std.proofs.Common.{◌≡◌, ◌∙◌, ap}
use Rattle.std.specs.Prelude.{Result, Ok, Err, IfOk}
use Rattle.dv_change.specs.Inner.Answered.{ok-one}
use Rattle.dv_change.specs.declared.change.Change.{Change}
use Rattle.dv_change.specs.declared.taking.Taken.{Taken}
use Rattle.dv_change.specs.Changes.{Positioned, at}
use Rattle.dv_change.specs.Inner.Changes.{position_changed, row_in}
use Rattle.dv_change.specs.Inner.Told.{with_old}
use Rattle.dv_change.proofs.Lists.{changed, placed, there}
use Rattle.dv_change.proofs.keeping.take_in_at.Goals as goal

pub take_in-requires : goal.take_in-requires
take_in-requires c = placed (λ m. m.entries) c.args.lists.now c.args.place c.index-lists-place.result c.requires.place c.requires.positioned

pub returns-clause-lists : goal.returns-clause-lists
returns-clause-lists c = ok-one c.take_in.result c.take_in.ensures.rows (λ rows. changed (λ m. m.entries) c.args.lists.now c.args.place c.index-lists-place.result c.take_in.new.rows c.args.change c.requires.place rows)

all-told : {E : Type 0} (r : Result Taken E) (change : Change) (rows others : Positioned) → rows ≡ others → IfOk r (λ taken. taken.pos ≡ position_changed change) → IfOk r (λ taken. taken.old ≡ at (position_changed change) rows) → IfOk r (λ taken. taken.new ≡ row_in change) → IfOk r (λ taken. taken ≡ with_old others change)
all-told (Ok taken) change rows others e p o n = (λ i. record { pos = p i; old = o i; new = n i }) ∙ ap (λ rs. with_old rs change) e
all-told (Err e) change rows others s p o n = tt

pub returns-clause-told : goal.returns-clause-told
returns-clause-told c = all-told c.take_in.result c.args.change _ _ (there (λ m. m.entries) c.args.lists.now c.args.place c.index-lists-place.result c.requires.place) c.take_in.ensures.pos c.take_in.ensures.old c.take_in.ensures.new
