-- What stands in for a result is refused as the result itself is.
use Rattle.std.proofs.Common.{◌≡◌, ◌∙◌, ap, sym, refl, List, [], ◌∷◌, ℕ, suc, ◌<◌, ◌≤◌, Bool, true, false, not, nat_lt, length, Option, Some, None, Ok, Err, arith, if◌then◌else◌}
use Rattle.std.specs.Option.{option_map}
use Rattle.std.proofs.lemmas.Bool.Decides.{nat_tests}
use Rattle.dv_value.specs.Spelling.{payload, levels, spelling}
use Rattle.dv_value.specs.Tree.{Tree, document, Field, fields_of, list_of_fields}
use Rattle.dv_value.specs.Inner.TreeLaws.{fields_again}
use Rattle.dv_value.specs.Inner.ListLaws.{same-truth}
use Rattle.dv_order.specs.Same.{both_same, is_same}
use Rattle.dv_order.specs.Inner.SameLaws.{same-is}
use Rattle.dv_update.specs.Apply.{leading_id, is_id, checked, document_limit, level_limit}
use Rattle.dv_update.specs.Inner.StandIn.{down_to, fields_down_to, Alike, most_levels}
use Rattle.dv_update.specs.declared.fault.UpdateFault.TheVariants.{IdChanged, TooLarge, TooDeep}
use Rattle.dv_update.proofs.DownTo.{document-marked}
use Rattle.dv_update.proofs.AlikeDown.{length-marked, equal-shallow}

leading-marked : (n : ℕ) (d : List Field) → leading_id (fields_down_to n d) ≡ option_map (down_to n) (leading_id d)
unfolding fields_down_to
leading-marked n [] = refl
leading-marked n (f ∷ fs) = by (is_id f)
  where
    by : (b : Bool) → (if b then Some (down_to n f.1) else None) ≡ option_map (down_to n) (if b then Some f.1 else None)
    by true = refl
    by false = refl

abbrev IsShallow : ℕ → Option Tree → Type 0
IsShallow n o = (v : Tree) → o ≡ Some v → levels v < n

one-same : (n : ℕ) (v x y : Tree) → levels v < n → down_to n x ≡ down_to n y → is_same v x ≡ true → is_same v y ≡ true
one-same n v x y h alike same =
    let here : v ≡ x = same-is v x same in
    let less : levels x < n = omega (arith, ap levels here) in
    let e : y ≡ x = equal-shallow n y x (sym alike) less in
    ap (is_same v) e ∙ same

ids-alike : (n : ℕ) (o x y : Option Tree) → IsShallow n o → option_map (down_to n) x ≡ option_map (down_to n) y → both_same o x ≡ both_same o y
ids-alike n o None None h e = refl
ids-alike n o None (Some y) h e = absurd cc
ids-alike n o (Some x) None h e = absurd cc
ids-alike n None (Some x) (Some y) h e = refl
ids-alike n (Some v) (Some x) (Some y) h e =
    let alike : down_to n x ≡ down_to n y = cc in
    same-truth (is_same v x) (is_same v y) (one-same n v x y (h v refl) alike) (one-same n v y x (h v refl) (sym alike))

leading-shallow : (n : ℕ) (d : List Field) → levels (document (fields_of d)) ≤ n → IsShallow n (leading_id d)
leading-shallow n [] h v e = absurd cc
leading-shallow n (f ∷ fs) h v e = by (is_id f) e
  where
    by : (b : Bool) → (if b then Some f.1 else None) ≡ Some v → levels v < n
    by true is = let same : f.1 ≡ v = cc in omega (arith, ap levels same)
    by false is = absurd cc

module _ (n : ℕ) (high : 100 ≤ n) (old d e : List Field) (within : levels (document (fields_of old)) ≤ 100) (alike : fields_down_to n d ≡ fields_down_to n e) where
  documents : down_to (suc n) (document (fields_of d)) ≡ down_to (suc n) (document (fields_of e))
  documents = document-marked n d ∙ ap (λ fs. document (fields_of fs)) alike ∙ sym (document-marked n e)

  as-long : length (spelling d) ≡ length (spelling e)
  as-long = sym (length-marked (suc n) (document (fields_of d))) ∙ ap (λ t. length (payload t)) documents ∙ length-marked (suc n) (document (fields_of e))

  same-id : both_same (leading_id old) (leading_id d) ≡ both_same (leading_id old) (leading_id e)
  same-id =
      let shallow : IsShallow n (leading_id old) = leading-shallow n old (omega (arith, within, high)) in
      ids-alike n (leading_id old) (leading_id d) (leading_id e) shallow (sym (leading-marked n d) ∙ ap leading_id alike ∙ leading-marked n e)

  fields-equal : (c g : List Field) → document (fields_of c) ≡ document (fields_of g) → c ≡ g
  fields-equal c g same = let e : fields_of c ≡ fields_of g = cc in sym (fields_again c) ∙ ap list_of_fields e ∙ fields_again g

  equal-second : nat_lt level_limit (levels (document (fields_of e))) ≡ false → d ≡ e
  equal-second h =
      let less : levels (document (fields_of e)) ≤ 100 = grind (arith, nat_tests, h) in
      fields-equal d e (equal-shallow (suc n) (document (fields_of d)) (document (fields_of e)) documents (omega (arith, less, high)))

  equal-first : nat_lt level_limit (levels (document (fields_of d))) ≡ false → d ≡ e
  equal-first h =
      let less : levels (document (fields_of d)) ≤ 100 = grind (arith, nat_tests, h) in
      sym (fields-equal e d (equal-shallow (suc n) (document (fields_of e)) (document (fields_of d)) (sym documents) (omega (arith, less, high))))

  both-deep : (a b : Bool) → nat_lt level_limit (levels (document (fields_of d))) ≡ a → nat_lt level_limit (levels (document (fields_of e))) ≡ b → checked old d ≡ checked old e
  both-deep a false p q = ap (checked old) (equal-second q)
  both-deep false true p q = ap (checked old) (equal-first p)
  both-deep true true p q =
      ap (λ c. if not (both_same (leading_id old) (leading_id d)) then Err IdChanged else if nat_lt document_limit (length (spelling d)) then Err TooLarge else if c then Err TooDeep else Ok d) p
      ∙ ap (λ c. if not c then Err IdChanged else if nat_lt document_limit (length (spelling d)) then Err TooLarge else Err TooDeep) same-id
      ∙ ap (λ len. if not (both_same (leading_id old) (leading_id e)) then Err IdChanged else if nat_lt document_limit len then Err TooLarge else Err TooDeep) as-long
      ∙ sym (ap (λ c. if not (both_same (leading_id old) (leading_id e)) then Err IdChanged else if nat_lt document_limit (length (spelling e)) then Err TooLarge else if c then Err TooDeep else Ok e) q)

  checked-alike : checked old d ≡ checked old e
  checked-alike = both-deep (nat_lt level_limit (levels (document (fields_of d)))) (nat_lt level_limit (levels (document (fields_of e)))) refl refl

-- what stands in for a result is refused as the result is; if neither is refused, they are equal
pub alike_checked : (old d e : List Field) → levels (document (fields_of old)) ≤ 100 → Alike d e → checked old d ≡ checked old e
unfolding Alike
alike_checked old d e within alike = checked-alike most_levels (omega arith) old d e within alike
