-- An expression's form as a ghost value, one to one, so that a proof can distinguish two forms.
use Rattle.std.specs.Prelude.{◌≡◌, ℕ, List, refl}
use Rattle.std.proofs.Common.{ap, ap₂, ◌∙◌}
use base.Stored.{Gv, gnum, gcons, gnil, Coded, coded_ℕ, coded_list}
use Rattle.dv_value.specs.Inner.TreeCode.{coded_tree}
use Rattle.dv_row.specs.Expressions.{Expression, at_path, constant, made, Computed, nothing, computed}

abbrev coded_name : Coded (List ℕ)
coded_name = coded_list coded_ℕ

abbrev coded_path : Coded (List (List ℕ))
coded_path = coded_list coded_name

abbrev mutual
  pub code_expression : Expression → Gv
  code_expression (at_path path) = gcons (gnum 0) (coded_path.code path)
  code_expression (constant v) = gcons (gnum 1) (coded_tree.code v)
  code_expression (made es) = gcons (gnum 2) (code_computed es)

  pub code_computed : Computed → Gv
  code_computed nothing = gnil
  code_computed (computed name e es) = gcons (gcons (coded_name.code name) (code_expression e)) (code_computed es)

mutual
  pub code_expression_inj : (x y : Expression) → code_expression x ≡ code_expression y → x ≡ y
  code_expression_inj (at_path a) (at_path b) p = let e : coded_path.code a ≡ coded_path.code b = cc in ap at_path (coded_path.inj a b e)
  code_expression_inj (constant v) (constant w) p = let e : coded_tree.code v ≡ coded_tree.code w = cc in ap constant (coded_tree.inj v w e)
  code_expression_inj (made es) (made gs) p = let e : code_computed es ≡ code_computed gs = cc in ap made (code_computed_inj es gs e)
  code_expression_inj x y p = cc

  pub code_computed_inj : (x y : Computed) → code_computed x ≡ code_computed y → x ≡ y
  code_computed_inj nothing nothing p = refl
  code_computed_inj (computed m e es) (computed n f fs) p =
      let names : coded_name.code m ≡ coded_name.code n = cc in
      let firsts : code_expression e ≡ code_expression f = cc in
      let rests : code_computed es ≡ code_computed fs = cc in
      let tails : es ≡ fs = code_computed_inj es fs rests in
      ap₂ (λ name g. computed name g es) (coded_name.inj m n names) (code_expression_inj e f firsts) ∙ ap (computed n f) tails
  code_computed_inj x y p = cc

abbrev pub coded_expression : Coded Expression
coded_expression = record { code = code_expression; inj = code_expression_inj }

abbrev pub coded_computed : Coded Computed
coded_computed = record { code = code_computed; inj = code_computed_inj }
