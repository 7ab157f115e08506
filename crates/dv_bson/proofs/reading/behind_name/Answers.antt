use Rattle.std.proofs.Common.{◌≡◌, ℕ, ◌+◌, ◌-◌, List, length, take, drop, Ok, ap, ◌∙◌, arith}
use Rattle.std.specs.Str.{IsUtf8}
use Rattle.dv_bson.proofs.Fronts.{known_name, same_bytes}
use Rattle.dv_bson.proofs.reading.behind_name.Goals as goal

pub returns : goal.returns
returns c = λ seen fresh whole.
    let name = c.args.name.now in
    let is : take (length name) c.args.bytes.now ≡ name = same_bytes _ _ _ c.ne.ensures c.if-ne.false ∙ c.as_bytes.ensures.value in
    let text : IsUtf8 name = rw c.as_bytes.ensures.value at c.as_bytes.ensures.utf8 in
    let rest = take (length c.args.bytes.now - (length name + 1)) (drop (length name + 1) c.args.bytes.now) in
    known_name seen c.args.bytes.now name (length name) text fresh whole (omega arith) c.if-bytes-end-ne0.false is ∙ ap (λ (n : List ℕ). Ok (n, rest)) is
