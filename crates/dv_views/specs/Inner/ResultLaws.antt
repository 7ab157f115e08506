-- What holds of a result that is no fault.
use Rattle.std.specs.Prelude.{Result, Ok, Err, IfOk}

pub ok_then : {T E : Type 0} {P Q : T → Type 0} (r : Result T E) → IfOk r P → ((x : T) → P x → Q x) → IfOk r Q
ok_then (Ok x) holds more = more x holds
ok_then (Err e) holds more = tt
