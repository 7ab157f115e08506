use Rattle.std.proofs.Common.{◌≡◌, ap, refl, ◌+◌, ℕ, length, drop, Err, rules, arith}
use Rattle.dv_value.specs.Spelling.{payload}
use Rattle.dv_value.specs.View.{tree}
use Rattle.dv_update.specs.Apply.{edit_at}
use Rattle.dv_update.specs.Inner.StandIn.{names_length}
use Rattle.dv_update.specs.View.{operation}
use Rattle.dv_update.proofs.StandingIn.{becomes_refused, first_put_refused, first_put}
use Rattle.dv_update.proofs.stand_in.with_first.Goals as goal

pub returns-in_err-document : goal.returns-in_err-document
returns-in_err-document c = λ made alike.
    let path = c.args.edit.now.path in
    let o = operation c.args.edit.now.operation in
    let fault = c.in_err-document.field-0.0 in
    let size : ℕ = c.in-Some.size in
    let told : c.from_residual-in_err-document.result ≡ Err fault = search (rules, c.from_residual-in_err-document.ensures) in
    let some : size ≡ 0 + names_length c.further-rest.result.now + length (payload (tree c.args.value)) = search (rules, c.size_with.ensures) in
    let sum : size ≡ 0 + names_length (drop 300 path) + length (payload (tree c.args.value)) = omega (arith, some, ap names_length c.further-rest.ensures) in
    becomes_refused c.from_residual-in_err-document.result fault (edit_at path o made) told
    (first_put_refused c.what_was_put_is_there.ensures.there c.args.beginning path o (tree c.args.value) c.requires.beginning c.requires.far c.requires.value size (tree c.in_ok-piece.piece) c.in_ok-piece.ensures.piece made c.args.document alike c.requires.free sum fault c.in_err-document.ensures)

pub returns : goal.returns
returns c = λ made alike.
    let path = c.args.edit.now.path in
    let o = operation c.args.edit.now.operation in
    let size : ℕ = c.in-Some.size in
    let some : size ≡ 0 + names_length c.further-rest.result.now + length (payload (tree c.args.value)) = search (rules, c.size_with.ensures) in
    let sum : size ≡ 0 + names_length (drop 300 path) + length (payload (tree c.args.value)) = omega (arith, some, ap names_length c.further-rest.ensures) in
    first_put c.what_was_put_is_there.ensures.there c.args.beginning path o (tree c.args.value) c.requires.beginning c.requires.far c.requires.value size (tree c.in_ok-piece.piece) c.in_ok-piece.ensures.piece made c.args.document alike c.requires.free sum
    c.in_ok-document.document (record { beginning = c.args.beginning; rest = c.further-rest.result; size = size }) refl c.further-rest.ensures refl c.in_ok-document.ensures
