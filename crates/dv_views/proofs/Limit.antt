-- How many views there are at most.
use Rattle.std.proofs.Common.{◌≡◌, ◌≢◌, ◌≤◌, ◌||◌, ℕ, suc, Bool, true, false, List, length, ap, arith}
use Rattle.std.specs.Prelude.{Some, None, nat_lt}
use Rattle.std.specs.List.{list_any}
use Rattle.std.specs.Str.{bytes_eq}
use Rattle.std.proofs.lemmas.Bool.Decides.{nat_tests}
use Rattle.dv_pipe.specs.Stages.{is_read}
use Rattle.dv_pipe.specs.declared.stage.Stage.{Stage}
use Rattle.dv_views.specs.declared.fault.ViewFault.TheVariants.{LimitReached}
use Rattle.dv_views.specs.Forms.{ViewForm, fault_of_new, height_over, heights, is_read_by, most_height, most_views}
use Rattle.dv_views.proofs.Heights.{first_fault}

few-told : (named read few low : Bool) → few ≡ true → low ≡ true → first_fault named read few low ≢ Some LimitReached
few-told true read few low e f is = cc
few-told false true few low e f is = cc
few-told false false true true e f is = cc
few-told false false true false e f is = cc
few-told false false false low e f is = cc

many-told : (named read few low : Bool) → few ≡ false → first_fault named read few low ≢ None
many-told true read few low e is = cc
many-told false true few low e is = cc
many-told false false true low e is = cc
many-told false false false low e is = cc

low-enough : (height : ℕ) → height ≤ 8 → nat_lt height (suc most_height) ≡ true
low-enough height low = grind (arith, nat_tests)

pub thousandth : (views : List ViewForm) (name source : List ℕ) (stages : List Stage) → length views ≡ 999 → height_over (heights views) stages source ≤ 8 → fault_of_new views name source stages ≢ Some LimitReached
thousandth views name source stages e low =
    few-told (list_any (λ v. bytes_eq name v.name) views) (is_read_by views name || is_read stages source name) (nat_lt (length views) most_views) (nat_lt (height_over (heights views) stages source) (suc most_height))
    (ap (λ n. nat_lt n most_views) e) (low-enough (height_over (heights views) stages source) low)

pub one_more : (views : List ViewForm) (name source : List ℕ) (stages : List Stage) → length views ≡ 1000 → fault_of_new views name source stages ≢ None
one_more views name source stages e =
    many-told (list_any (λ v. bytes_eq name v.name) views) (is_read_by views name || is_read stages source name) (nat_lt (length views) most_views) (nat_lt (height_over (heights views) stages source) (suc most_height))
    (ap (λ n. nat_lt n most_views) e)
