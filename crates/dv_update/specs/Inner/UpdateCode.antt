-- An edit as a ghost value, one to one: so a proof can tell two forms apart.
use Rattle.std.specs.Prelude.{◌≡◌, List, refl}
use Rattle.std.proofs.Common.{ap}
use Rattle.std.specs.Coded.{coded×}
use base.Stored.{Gv, gnum, gcons, gnil, Coded, coded_ℕ, coded_ℤ, coded_list}
use Rattle.dv_value.specs.Inner.TreeCode.{coded_tree}
use Rattle.dv_value.specs.Tree.{Tree}
use Rattle.dv_match.specs.Inner.FilterCode.{code_test, code_test_inj}
use Rattle.dv_update.specs.declared.number.Number.{Number}
use Rattle.dv_update.specs.declared.number.Number.TheVariants.{Int32, Int64}
use Rattle.dv_update.specs.Update.{Operation, assign, take_away, increase, append, pull, Pulled, equal_to, passing, Edit}

abbrev coded_trees : Coded (List Tree)
coded_trees = coded_list coded_tree

abbrev pub code_number : Number → Gv
code_number (Int32 n) = gcons (gnum 0) (coded_ℤ.code n)
code_number (Int64 n) = gcons (gnum 1) (coded_ℤ.code n)

pub code_number_inj : (x y : Number) → code_number x ≡ code_number y → x ≡ y
code_number_inj (Int32 m) (Int32 n) p = let e : coded_ℤ.code m ≡ coded_ℤ.code n = cc in ap Int32 (coded_ℤ.inj m n e)
code_number_inj (Int64 m) (Int64 n) p = let e : coded_ℤ.code m ≡ coded_ℤ.code n = cc in ap Int64 (coded_ℤ.inj m n e)
code_number_inj x y p = cc

abbrev pub code_pulled : Pulled → Gv
code_pulled (equal_to v) = gcons (gnum 0) (coded_tree.code v)
code_pulled (passing t) = gcons (gnum 1) (code_test t)

pub code_pulled_inj : (x y : Pulled) → code_pulled x ≡ code_pulled y → x ≡ y
code_pulled_inj (equal_to v) (equal_to w) p = let e : coded_tree.code v ≡ coded_tree.code w = cc in ap equal_to (coded_tree.inj v w e)
code_pulled_inj (passing s) (passing t) p = let e : code_test s ≡ code_test t = cc in ap passing (code_test_inj s t e)
code_pulled_inj x y p = cc

abbrev pub code_operation : Operation → Gv
code_operation (assign v) = gcons (gnum 0) (coded_tree.code v)
code_operation take_away = gcons (gnum 1) gnil
code_operation (increase n) = gcons (gnum 2) (code_number n)
code_operation (append vs) = gcons (gnum 3) (coded_trees.code vs)
code_operation (pull p) = gcons (gnum 4) (code_pulled p)

pub code_operation_inj : (x y : Operation) → code_operation x ≡ code_operation y → x ≡ y
code_operation_inj (assign v) (assign w) p = let e : coded_tree.code v ≡ coded_tree.code w = cc in ap assign (coded_tree.inj v w e)
code_operation_inj take_away take_away p = refl
code_operation_inj (increase m) (increase n) p = let e : code_number m ≡ code_number n = cc in ap increase (code_number_inj m n e)
code_operation_inj (append vs) (append ws) p = let e : coded_trees.code vs ≡ coded_trees.code ws = cc in ap append (coded_trees.inj vs ws e)
code_operation_inj (pull p) (pull q) e = let same : code_pulled p ≡ code_pulled q = cc in ap pull (code_pulled_inj p q same)
code_operation_inj x y p = cc

abbrev pub coded_operation : Coded Operation
coded_operation = record { code = code_operation; inj = code_operation_inj }

abbrev pub coded_edits : Coded (List Edit)
coded_edits = coded_list (coded× (coded_list (coded_list coded_ℕ)) coded_operation)
