use Rattle.std.proofs.Common.{◌≡◌, Some, None, refl, sym, arith}
use Rattle.std.proofs.lemmas.Grind.{common_steps}
use Rattle.dv_value.specs.Names.{place_under}
use Rattle.dv_value.specs.View.{tree}
use Rattle.dv_value.proofs.Changed.{found_has, found_within, nowhere_has_not, with_value_at-found, with_value_under-nowhere}
use Rattle.dv_value.proofs.value.documents.put_over.Goals as goal

pub returns-in_default-clause-back : goal.returns-in_default-clause-back
returns-in_default-clause-back c =
    let none : None ≡ place_under c.args.name.now c.args.shared.now.value = rw c.deref.ensures at c.in_default.ensures in
    rw (nowhere_has_not c.args.name.now c.args.shared.now.value none) refl

pub returns-in_default-clause-ok : goal.returns-in_default-clause-ok
returns-in_default-clause-ok c =
    let none : None ≡ place_under c.args.name.now c.args.shared.now.value = rw c.deref.ensures at c.in_default.ensures in
    sym (with_value_under-nowhere c.args.name.now (tree c.args.value) c.args.shared.now.value (sym none))

pub returns-in-Some-get_mut-clause-back : goal.returns-in-Some-get_mut-clause-back
returns-in-Some-get_mut-clause-back c =
    let found : Some c.in-Some.place ≡ place_under c.args.name.now c.args.shared.now.value = rw c.deref.ensures at c.in-Some.ensures in
    rw (found_has c.args.name.now c.in-Some.place c.args.shared.now.value found) refl

pub copy_with-requires : goal.copy_with-requires
copy_with-requires c =
    let found : Some c.in-Some.place ≡ place_under c.args.name.now c.args.shared.now.value = rw c.deref.ensures at c.in-Some.ensures in
    let within = found_within c.args.name.now c.in-Some.place c.args.shared.now.value found in
    grind (arith, common_steps)

pub returns-clause-back : goal.returns-clause-back
returns-clause-back c =
    let found : Some c.in-Some.place ≡ place_under c.args.name.now c.args.shared.now.value = rw c.deref.ensures at c.in-Some.ensures in
    rw (found_has c.args.name.now c.in-Some.place c.args.shared.now.value found) refl

pub returns-clause-ok : goal.returns-clause-ok
returns-clause-ok c =
    let found : Some c.in-Some.place ≡ place_under c.args.name.now c.args.shared.now.value = rw c.deref.ensures at c.in-Some.ensures in
    let put = with_value_at-found c.args.name.now (tree c.args.value) c.in-Some.place c.args.shared.now.value found in
    grind (arith, common_steps)

pub put_at-requires : goal.put_at-requires
put_at-requires c =
    let found : Some c.in-Some.place ≡ place_under c.args.name.now c.args.shared.now.value = rw c.deref.ensures at c.in-Some.ensures in
    let within = found_within c.args.name.now c.in-Some.place c.args.shared.now.value found in
    grind (arith, common_steps)

pub returns-in-Some-get_mut-clause-ok : goal.returns-in-Some-get_mut-clause-ok
returns-in-Some-get_mut-clause-ok c =
    let found : Some c.in-Some.place ≡ place_under c.args.name.now c.args.shared.now.value = rw c.deref.ensures at c.in-Some.ensures in
    let put = with_value_at-found c.args.name.now (tree c.args.value) c.in-Some.place c.args.shared.now.value found in
    grind (arith, common_steps)
