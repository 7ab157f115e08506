use Rattle.std.proofs.Common.{◌≡◌, ◌∙◌, ap, sym, refl, ◌+◌, ℕ, length, drop, Some, None, Err, rules}
use Rattle.dv_value.specs.Spelling.{payload}
use Rattle.dv_value.specs.View.{tree}
use Rattle.dv_update.specs.Apply.{edit_at}
use Rattle.dv_update.specs.Inner.StandIn.{names_length, new_value, parting}
use Rattle.dv_update.specs.View.{operation}
use Rattle.dv_update.proofs.StandingIn.{becomes_refused, next_put_refused, next_put, next_stays}
use Rattle.dv_update.proofs.stand_in.with_next.Goals as goal

pub returns-in_default-2 : goal.returns-in_default-2
returns-in_default-2 c = λ made stands.
    let path = c.args.edit.now.path in
    let o = operation c.args.edit.now.operation in
    let last = c.args.last in
    let parts : parting last.rest.now (drop 300 path) ≡ Some c.in-Some.parting.now = ap (parting last.rest.now) (sym c.further-rest.ensures) ∙ sym c.in-Some.ensures in
    let none : new_value o ≡ None = search (rules, c.in_ok-value.ensures) in
    (made, next_stays last.beginning path o (stands.known.far, c.requires.begins) made c.args.document stands.alike last.rest.now c.in-Some.parting.now last.size stands.known parts c.requires.other none, stands)

pub returns-in_err-document : goal.returns-in_err-document
returns-in_err-document c = λ made stands.
    let path = c.args.edit.now.path in
    let o = operation c.args.edit.now.operation in
    let last = c.args.last in
    let parts : parting last.rest.now (drop 300 path) ≡ Some c.in-Some.parting.now = ap (parting last.rest.now) (sym c.further-rest.ensures) ∙ sym c.in-Some.ensures in
    let value = tree c.in-Some-2.value in
    let new : new_value o ≡ Some value = search (rules, c.in_ok-value.ensures) in
    let size : ℕ = c.in-Some-size_behind.size in
    let sum : size + 5 ≡ last.size + names_length c.in-Some.parting.now + length (payload value) = search (rules, c.size_behind.ensures) in
    let fault = c.in_err-document.field-0.0 in
    let told : c.from_residual-in_err-document.result ≡ Err fault = search (rules, c.from_residual-in_err-document.ensures) in
    becomes_refused c.from_residual-in_err-document.result fault (edit_at path o made) told
    (next_put_refused c.what_was_put_is_there.ensures.there last.beginning path o value (stands.known.far, c.requires.begins) c.requires.far new size (tree c.in_ok-piece.piece) c.in_ok-piece.ensures.piece made c.args.document stands.alike last.rest.now c.in-Some.parting.now last.size stands.known parts sum fault c.in_err-document.ensures)

pub returns : goal.returns
returns c = λ made stands.
    let path = c.args.edit.now.path in
    let o = operation c.args.edit.now.operation in
    let last = c.args.last in
    let parts : parting last.rest.now (drop 300 path) ≡ Some c.in-Some.parting.now = ap (parting last.rest.now) (sym c.further-rest.ensures) ∙ sym c.in-Some.ensures in
    let value = tree c.in-Some-2.value in
    let new : new_value o ≡ Some value = search (rules, c.in_ok-value.ensures) in
    let size : ℕ = c.in-Some-size_behind.size in
    let sum : size + 5 ≡ last.size + names_length c.in-Some.parting.now + length (payload value) = search (rules, c.size_behind.ensures) in
    next_put c.what_was_put_is_there.ensures.there last.beginning path o value (stands.known.far, c.requires.begins) c.requires.far new size (tree c.in_ok-piece.piece) c.in_ok-piece.ensures.piece made c.args.document stands.alike last.rest.now c.in-Some.parting.now last.size stands.known parts sum
    c.in_ok-document.document (record { beginning = last.beginning; rest = c.further-rest.result; size = size }) refl c.further-rest.ensures refl c.in_ok-document.ensures
