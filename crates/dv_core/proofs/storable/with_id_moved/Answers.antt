use Rattle.std.proofs.Common.{◌≡◌, ◌∷◌, [], refl, rules}
use Rattle.dv_value.specs.Names.{AreNamed}
use Rattle.dv_value.specs.Tree.{Field}
use Rattle.dv_value.specs.View.{tree}
use Rattle.dv_core.proofs.Stored.{IsCopied, nothing_copied, all_copied, IsCopied-id, whole_name, fresh_name}
use Rattle.dv_core.proofs.storable.with_id_moved.Goals as goal

pub others-init : goal.others-init
others-init c =
    let all : c.into_iter-name-iterator.result ≡ c.args.document.now = search rules in
    let named : AreNamed c.args.document.now = search rules in
    rw all (nothing_copied (tree c.args.id.now) c.args.document.now c.add.new.document named (rw (c.in_ok-add.ensures.ok, c.new-copy.ensures, c.in_ok-try_clone.ensures) refl))

pub add-requires-then-ne-clause-whole : goal.add-requires-then-ne-clause-whole
add-requires-then-ne-clause-whole c =
    let field : Field = (c.in-Some.name.now, tree c.in-Some.value.now) in
    let step : c.others.name-iterator ≡ field ∷ c.next.new.self = search rules in
    whole_name c.others.invariant field _ step

pub add-requires-then-ne-clause-fresh : goal.add-requires-then-ne-clause-fresh
add-requires-then-ne-clause-fresh c =
    let field : Field = (c.in-Some.name.now, tree c.in-Some.value.now) in
    let step : c.others.name-iterator ≡ field ∷ c.next.new.self = search rules in
    fresh_name c.others.invariant field _ step c.if-ne.ensures

pub others-preserved : goal.others-preserved
others-preserved c =
    let field : Field = (c.in-Some.name.now, tree c.in-Some.value.now) in
    let step : c.others.name-iterator ≡ field ∷ c.next.new.self = search rules in
    IsCopied-id c.others.invariant field _ step c.if-ne.ensures

pub returns : goal.returns
returns c =
    let over : c.others.name-iterator ≡ [] = search rules in
    all_copied c.others.invariant over
