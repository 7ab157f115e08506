-- Lists that begin with others.
use Rattle.std.specs.Prelude.{◌≡◌, List, length, take}

-- `all` begins with `some`
abbrev pub BeginsWith : {A : Type 0} → List A → List A → Type 0
BeginsWith all some = take (length some) all ≡ some
