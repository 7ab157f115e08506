-- What only bodies and proofs need of `Front`.
use Rattle.std.specs.Prelude.{◌≡◌, ℕ, Bool, true, false, List, Option, refl}
use Rattle.std.specs.Coded.{Coded, code_by, coded×, coded_list, coded_ℕ, coded_bool, coded_option}
use Rattle.dv_value.specs.Tree.{Field}
use Rattle.dv_value.specs.Inner.TreeCode.{coded_tree}
use Rattle.dv_path.specs.declared.direction.Direction.{Direction}
use Rattle.dv_path.specs.declared.direction.Direction.TheVariants.{Ascending, Descending}
use Rattle.dv_path.specs.SortSpec.{Part}
use Rattle.dv_sort.specs.Sorting.{front}
use Rattle.dv_sort.specs.Front.{Front}

-- ---- a front as a ghost value, one to one

abbrev is_ascending : Direction → Bool
is_ascending Ascending = true
is_ascending Descending = false

abbrev direction_by : Bool → Direction
direction_by true = Ascending
direction_by false = Descending

pub direction-again : (d : Direction) → direction_by (is_ascending d) ≡ d
direction-again Ascending = refl
direction-again Descending = refl

abbrev coded_part : Coded Part
coded_part = coded× (coded_list (coded_list coded_ℕ)) (code_by Bool coded_bool is_ascending direction_by direction-again)

abbrev coded_rows : Coded (List (List Field))
coded_rows = coded_list (coded_list (coded× (coded_list coded_ℕ) coded_tree))

abbrev pub coded_front : Coded Front
coded_front =
    code_by (List Part × (Option ℕ × List (List Field))) (coded× (coded_list coded_part) (coded× (coded_option coded_ℕ) coded_rows))
    (λ f. (f.parts, (f.most, f.rows))) (λ p. record { parts = p.0; most = p.1.0; rows = p.1.1 }) (λ f. refl)
