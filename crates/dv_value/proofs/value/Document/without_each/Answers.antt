use Rattle.std.proofs.Common.{◌≡◌, ◌+◌, ◌++◌, ◌∷◌, [], List, ℕ, Bool, true, false, map, drop, drop_of_length-le, sym, refl, subst, arith}
use Rattle.dv_value.specs.Tree.{Field}
use Rattle.dv_value.specs.View.{tree}
use Rattle.dv_value.specs.Inner.ListLaws.{drop_item}
use Rattle.dv_value.proofs.Removed.{IsCopied, none_copied, copied_whole, copied_fresh, one_copied, one_passed, all_copied, told}
use Rattle.dv_value.proofs.value.Document.without_each.Goals as goal
use Rattle.dv_value.proofs.value.Document.without_each.Goals.{then-is_none+in_ok-try_clone+in_ok-add, else-is_none}

pub fields-init : goal.fields-init
fields-init c = rw c.new-left.ensures (none_copied (map (λ n. n.now) c.args.names.now) c.args.self.now c.len-place-end.ensures.named)

pub add-requires-clause-whole : goal.add-requires-clause-whole
add-requires-clause-whole c =
    let field : Field = (c.field.result.0.now, tree c.field.result.1.now) in
    copied_whole c.fields.invariant field (drop (c.fields.place + 1) c.args.self.now) (drop_item c.args.self.now c.fields.place field c.field.ensures)

pub add-requires-clause-fresh : goal.add-requires-clause-fresh
add-requires-clause-fresh c =
    let field : Field = (c.field.result.0.now, tree c.field.result.1.now) in
    copied_fresh c.fields.invariant field (drop (c.fields.place + 1) c.args.self.now) (drop_item c.args.self.now c.fields.place field c.field.ensures) (told (map (λ n. n.now) c.args.names.now) c.in_ok-gone.gone field.0 c.place_of.result c.is_none.result true c.in_ok-gone.ensures c.place_of.ensures c.is_none.ensures c.if-is_none.true)

pub fields-preserved : goal.fields-preserved
fields-preserved c =
    let field : Field = (c.field.result.0.now, tree c.field.result.1.now) in
    let names : List (List ℕ) = map (λ n. n.now) c.args.names.now in
    let rest = drop (c.fields.place + 1) c.args.self.now in
    let here = drop_item c.args.self.now c.fields.place field c.field.ensures in
    let Copied : List Field → Type 0 = λ copy. IsCopied names c.args.self.now copy rest in
    let tells = λ (b : Bool) (is : c.is_none.result ≡ b). told names c.in_ok-gone.gone field.0 c.place_of.result c.is_none.result b c.in_ok-gone.ensures c.place_of.ensures c.is_none.ensures is in
    elim c.if-is_none.branch [
      | then-is_none+in_ok-try_clone+in_ok-add w ↦
          (let is : c.fields.left ++ field ∷ [] ≡ c.if-is_none.left = rw (w.left-is, w.in_ok-add.ensures.ok, w.in_ok-try_clone.ensures) refl in subst Copied is (one_copied c.fields.invariant field rest here (tells true w.if-is_none.true)))
      | else-is_none w ↦ subst Copied (sym w.left-is) (one_passed c.fields.invariant field rest here (tells false w.if-is_none.false))
    ]

pub returns : goal.returns
returns c = all_copied c.fields.invariant (drop_of_length-le c.args.self.now (let e = c.len-place-end.ensures.len in omega arith))
