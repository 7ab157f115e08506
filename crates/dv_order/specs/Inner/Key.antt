-- Of `Key`, what only bodies and proofs need.
use Rattle.std.specs.Prelude.{◌≡◌, refl}
use Rattle.std.proofs.Common.{ap}
use base.Stored.{Gv, gnum, gcons, Coded}
use Rattle.dv_value.specs.Inner.TreeCode.{coded_tree}
use Rattle.dv_order.specs.Key.{KeyTree, no_element, value}

-- a key as a ghost value, one to one
abbrev pub code_key : KeyTree → Gv
code_key no_element = gcons (gnum 0) (gnum 0)
code_key (value v) = gcons (gnum 1) (coded_tree.code v)

pub code_key_inj : (k l : KeyTree) → code_key k ≡ code_key l → k ≡ l
code_key_inj no_element no_element p = refl
code_key_inj (value v) (value w) p = let e : coded_tree.code v ≡ coded_tree.code w = cc in ap value (coded_tree.inj v w e)
code_key_inj k l p = cc

abbrev pub coded_key : Coded KeyTree
coded_key = record { code = code_key; inj = code_key_inj }
