-- What $group and $lookup return for valid rows is valid, if the stage was read from a valid value.
use Rattle.std.proofs.Common.{◌≡◌, refl, ℕ, ℤ, pos, negsuc, suc, zero, ◌<◌, ◌%◌, ◌/◌, ◌==◌, ◌||◌, ◌&&◌, not, nat_lt, Bool, true, false, List, [], ◌∷◌, map, filter, length, Some, None, Option, Result, Ok, Err, codes, arith, if◌then◌else◌}
use Rattle.std.proofs.lemmas.Bool.Decides.{nat_tests}
use Rattle.std.proofs.lemmas.Str.{IsUtf8-from_ascii}
use Rattle.std.specs.Bool.{⊤}
use Rattle.std.specs.Fmt.{digits, digits_onto, digit_glyph, decimal, signed_decimal}
use Rattle.std.specs.Int.{w32, w64}
use Rattle.std.specs.List.{AllByRecursion, list_all, list_any}
use Rattle.std.specs.Option.{IfSome}
use Rattle.std.specs.Ordering.{is_eq}
use Rattle.std.specs.Prelude.{FitsSigned}
use Rattle.std.specs.Result.{IfOk}
use Rattle.std.specs.Str.{IsAscii, IsUtf8}
use Rattle.dv_value.specs.Names.{begins_with_dollar, has_name, has_zero, value_under, without, with_value_under}
use Rattle.dv_value.specs.Spelling.{IsValue}
use Rattle.dv_value.specs.Tree.{Tree, int32, int64, string, document, null, Field, list_of_fields}
use Rattle.dv_order.specs.Order.{order}
use Rattle.dv_candidates.specs.Candidates.{Candidate, or_null}
use Rattle.dv_row.specs.declared.fault.PipelineFault.{PipelineFault}
use Rattle.dv_row.specs.declared.fault.PipelineFault.TheVariants.{BadSpec}
use Rattle.dv_path.specs.Names.{has_dot}
use Rattle.dv_row.specs.ExpressionParsing.{expression_in}
use Rattle.dv_row.specs.Expressions.{Expression, value_of, with_field_behind}
use Rattle.dv_value.specs.Results.{◌>>=◌, each}
use Rattle.dv_row.specs.Row.{Row}
use Rattle.dv_value.specs.Inner.ValidLaws.{AreValues, valid-elements, either, fits-32, fits-64}
use Rattle.dv_row.specs.Inner.Valid.{IsValid, AreValid, IsSound, listed-fields, valid-fields, bound, unless, any-ok, each-sound, value_under-valid, with_field-valid, with_value_under-valid, without-valid, value_of-valid, expression_in-sound}
use Rattle.dv_gather.specs.declared.accumulator.Accumulator.{Accumulator}
use Rattle.dv_gather.specs.declared.accumulator.Accumulator.TheVariants.{Sum, Min, Max, Push}
use Rattle.dv_gather.specs.declared.extreme.Extreme.{Extreme}
use Rattle.dv_gather.specs.declared.extreme.Extreme.TheVariants.{Least, Greatest}
use Rattle.dv_gather.specs.declared.lookup.Lookup.{Lookup}
use Rattle.dv_gather.specs.Extremes.{is_better, better, extreme_from}
use Rattle.dv_gather.specs.GroupParsing.{accumulator_named, accumulation, accumulator_alone, accumulation_in, field_in, key_form, grouping, group_of, group_in}
use Rattle.dv_gather.specs.Grouping.{Accumulation, Grouping, key_in, keyed, with_present, values_over, accumulated, field_over, with_accumulated, key_of_group, group_row, grouped}
use Rattle.dv_gather.specs.Groups.{documents_under_key, group_keys, groups_of}
use Rattle.dv_gather.specs.Joining.{as_value, is_joined, joined_with}
use Rattle.dv_gather.specs.Lookups.{set_field, joined_documents, looked_up, text_in, target_in, from_option, field_option, as_option, looking, lookup_of, lookup_in}
use Rattle.dv_gather.specs.Sums.{digits as spelled_out, total, is_int64, spelled}
use Rattle.dv_value.specs.Widths.{fits_32, fits_64}

abbrev pub IsSoundAccumulation : Accumulation → Type 0
IsSoundAccumulation a = IsUtf8 a.name × IsSound a.argument

-- a grouping whose own values and names are valid
abbrev pub IsSoundGroup : Grouping → Type 0
IsSoundGroup g = IsSound g.key × AllByRecursion IsSoundAccumulation g.fields

abbrev pub IsSoundLookup : Lookup → Type 0
IsSoundLookup l = IsUtf8 l.target

-- ---- sums

in-front : (b : ℕ) (bs : List ℕ) → b < 128 → IsAscii bs → IsAscii (b ∷ bs)
in-front b bs low ascii zero = low
in-front b bs low ascii (suc i) = ascii i

glyph-ascii : (d : ℕ) → d < 10 → digit_glyph false d < 128
glyph-ascii d low = grind (arith, nat_tests)

digits-ascii : (k n : ℕ) (acc : List ℕ) → IsAscii acc → IsAscii (digits_onto k 10 false n acc)
digits-ascii zero n acc ascii = ascii
digits-ascii (suc k) n acc ascii =
    let front : IsAscii (digit_glyph false (n % 10) ∷ acc) = in-front (digit_glyph false (n % 10)) acc (glyph-ascii (n % 10) (omega arith)) ascii in
    either IsAscii (n / 10 == 0) (digit_glyph false (n % 10) ∷ acc) (digits_onto k 10 false (n / 10) (digit_glyph false (n % 10) ∷ acc)) front (digits-ascii k (n / 10) (digit_glyph false (n % 10) ∷ acc) front)

nothing-ascii : IsAscii []
nothing-ascii i = omega arith

decimal-ascii : (n : ℕ) → IsAscii (decimal n)
unfolding digits
decimal-ascii n = digits-ascii 64 n [] nothing-ascii

signed-ascii : (n : ℤ) → IsAscii (signed_decimal n)
signed-ascii (pos n) = decimal-ascii n
signed-ascii (negsuc n) = in-front 45 (decimal (suc n)) (omega arith) (decimal-ascii (suc n))

low-ascii : (bs : List ℕ) → list_all (λ b. nat_lt b 128) bs ≡ true → IsAscii bs
low-ascii [] e = nothing-ascii
low-ascii (b ∷ bs) e = go (nat_lt b 128) refl e (low-ascii bs)
  where
    below : (b : ℕ) → nat_lt b 128 ≡ true → b < 128
    below b low = grind (arith, nat_tests)

    go : (low : Bool) → nat_lt b 128 ≡ low → low && list_all (λ b. nat_lt b 128) bs ≡ true → (list_all (λ b. nat_lt b 128) bs ≡ true → IsAscii bs) → IsAscii (b ∷ bs)
    go true low rest ascii = in-front b bs (below b low) (ascii rest)
    go false low rest ascii = absurd (let same : false ≡ true = rest in cc)

abbrev sum_name : List ℕ
sum_name = codes "$sum128"

sum_name-ascii : IsAscii sum_name
sum_name-ascii = low-ascii sum_name refl

spelled_out-valid : (n : ℤ) → IsValue (spelled_out n)
spelled_out-valid n = (IsUtf8-from_ascii sum_name sum_name-ascii, refl, refl, IsUtf8-from_ascii (signed_decimal n) (signed-ascii n), tt)

spelled-valid : (narrow : Bool) (n : ℤ) → IsValue (spelled narrow n)
unfolding spelled
spelled-valid narrow n = go narrow (fits_32 n) (fits_64 n) (fits-32 n) (fits-64 n)
  where
    go : (narrow short long : Bool) → (short ≡ true → FitsSigned w32 n) → (long ≡ true → FitsSigned w64 n) → IsValue (if narrow && short then int32 n else if long then int64 n else spelled_out n)
    go true true long fits wide = fits refl
    go true false true fits wide = wide refl
    go true false false fits wide = spelled_out-valid n
    go false short true fits wide = wide refl
    go false short false fits wide = spelled_out-valid n

-- ---- groups

or_null-valid : (c : Candidate) → IfSome c IsValue → IsValue (or_null c)
or_null-valid None value = tt
or_null-valid (Some v) value = value

extreme-valid : (e : Extreme) (best : Tree) (vs : List Tree) → IsValue best → AreValues vs → IsValue (extreme_from e best vs)
extreme-valid e best [] value values = value
extreme-valid e best (v ∷ vs) value values = extreme-valid e (better e v best) vs (either IsValue (is_better e v best) v best values.0 value) values.1

accumulated-valid : (a : Accumulator) (vs : List Tree) → AreValues vs → IsValue (accumulated a vs)
accumulated-valid Sum vs values = spelled-valid (not (list_any is_int64 vs)) (total vs)
accumulated-valid Min vs values = extreme-valid Least null vs tt values
accumulated-valid Max vs values = extreme-valid Greatest null vs tt values
accumulated-valid Push vs values = valid-elements vs values

with_present-valid : (c : Candidate) (vs : List Tree) → IfSome c IsValue → AreValues vs → AreValues (with_present c vs)
with_present-valid None vs value values = values
with_present-valid (Some v) vs value values = (value, values)

values_over-valid : (e : Expression) (ds : List Row) → IsSound e → AreValid ds → AreValues (values_over e ds)
values_over-valid e [] sound valid = tt
values_over-valid e (d ∷ ds) sound valid = with_present-valid (value_of e d) (values_over e ds) (value_of-valid e d sound valid.0) (values_over-valid e ds sound valid.1)

with_accumulated-valid : (fields : List Accumulation) (ds : List Row) (fs : List Field) → AllByRecursion IsSoundAccumulation fields → AreValid ds → IsValid fs → IsValid (with_accumulated fields ds fs)
with_accumulated-valid [] ds fs sounds valid fine = fine
with_accumulated-valid (a ∷ more) ds fs sounds valid fine =
    with_accumulated-valid more ds (with_field_behind a.name (Some (field_over a ds)) fs) sounds.1 valid
    (with_field-valid a.name (Some (field_over a ds)) fs sounds.0.0 (accumulated-valid a.accumulator (values_over a.argument ds) (values_over-valid a.argument ds sounds.0.1 valid)) fine)

key-valid : (g : Grouping) (d : Row) → IsSoundGroup g → IsValid d → IsValue (key_in g d)
key-valid g d sound valid = or_null-valid (value_of g.key d) (value_of-valid g.key d sound.0 valid)

key_of_group-valid : (g : Grouping) (ds : List Row) → IsSoundGroup g → AreValid ds → IsValue (key_of_group g ds)
key_of_group-valid g [] sound valid = tt
key_of_group-valid g (d ∷ ds) sound valid = key-valid g d sound valid.0

id-ascii : IsAscii (codes "_id")
id-ascii = low-ascii (codes "_id") refl

group_row-valid : (g : Grouping) (ds : List Row) → IsSoundGroup g → AreValid ds → IsValid (group_row g ds)
group_row-valid g ds sound valid = with_accumulated-valid g.fields ds ((codes "_id", key_of_group g ds) ∷ []) sound.1 valid (IsUtf8-from_ascii (codes "_id") id-ascii, refl, refl, key_of_group-valid g ds sound valid, tt)

under-valid : (g : Grouping) (k : Tree) (ds : List Row) → AreValid ds → AreValid (documents_under_key k (map (keyed g) ds))
under-valid g k [] valid = tt
under-valid g k (d ∷ ds) valid =
    let rest = under-valid g k ds valid.1 in
    either AreValid (is_eq (order k (key_in g d))) (d ∷ documents_under_key k (map (keyed g) ds)) (documents_under_key k (map (keyed g) ds)) (valid.0, rest) rest

pub grouped-valid : (g : Grouping) (ds : List Row) → IsSoundGroup g → AreValid ds → AreValid (grouped g ds)
unfolding grouped groups_of
grouped-valid g ds sound valid = rows (group_keys (map (keyed g) ds))
  where
    rows : (ks : List Tree) → AreValid (map (group_row g) (map (λ k. documents_under_key k (map (keyed g) ds)) ks))
    rows [] = tt
    rows (k ∷ ks) = (group_row-valid g (documents_under_key k (map (keyed g) ds)) sound (under-valid g k ds valid), rows ks)

abbrev IsFine : Field → Type 0
IsFine f = IsUtf8 f.0 × IsValue f.1

fine : (fs : List Field) → IsValid fs → AllByRecursion IsFine fs
fine [] valid = tt
fine (f ∷ fs) valid = ((valid.0, valid.3), fine fs valid.4)

alone-sound : (name : List ℕ) (fs : List Field) → IsUtf8 name → IsValid fs → IfOk (accumulator_alone name fs) IsSoundAccumulation
alone-sound name [] text valid = tt
alone-sound name (f ∷ []) text valid =
    bound (λ a. ⊤) IsSoundAccumulation (λ a. expression_in true f.1 >>= λ e. Ok (accumulation name a e))
    (λ a h. bound IsSound IsSoundAccumulation (λ e. Ok (accumulation name a e)) (λ e sound. (text, sound)) (expression_in true f.1) (expression_in-sound true f.1 valid.3))
    (accumulator_named f.0) (any-ok (accumulator_named f.0))
alone-sound name (f ∷ g ∷ fs) text valid = tt

accumulation_in-sound : (name : List ℕ) (v : Tree) → IsUtf8 name → IsValue v → IfOk (accumulation_in name v) IsSoundAccumulation
accumulation_in-sound name (document fs) text value = alone-sound name (list_of_fields fs) text (listed-fields fs value)
accumulation_in-sound name v text value = tt

key_form-sound : (c : Option Tree) → IfSome c IsValue → IfOk (key_form c) IsSound
key_form-sound None value = tt
key_form-sound (Some v) value = expression_in-sound true v value

group_of-sound : (fs : List Field) → IsValid fs → IfOk (group_of fs) IsSoundGroup
group_of-sound fs valid =
    let others = without (codes "_id") fs in
    bound IsSound IsSoundGroup (λ key. each field_in others >>= λ fields. Ok (grouping key fields))
    (λ key sound. bound (AllByRecursion IsSoundAccumulation) IsSoundGroup (λ fields. Ok (grouping key fields)) (λ fields sounds. (sound, sounds)) (each field_in others)
    (each-sound IsFine IsSoundAccumulation field_in (λ f holds. accumulation_in-sound f.0 f.1 holds.0 holds.1) others (fine others (without-valid (codes "_id") fs valid))))
    (key_form (value_under (codes "_id") fs)) (key_form-sound (value_under (codes "_id") fs) (value_under-valid (codes "_id") fs valid))

pub group_in-sound : (v : Tree) → IsValue v → IfOk (group_in v) IsSoundGroup
unfolding group_in
group_in-sound (document fs) value = group_of-sound (list_of_fields fs) (listed-fields fs value)
group_in-sound v value = tt

-- ---- lookups

set_field-valid : (name : List ℕ) (v : Tree) (fs : List Field) → IsUtf8 name → IsValue v → IsValid fs → IsValid (set_field name v fs)
set_field-valid name v fs text value valid = either IsValid (has_name name fs) (with_value_under name v fs) (with_field_behind name (Some v) fs) (with_value_under-valid name v fs value valid) (with_field-valid name (Some v) fs text value valid)

found-values : (test : Row → Bool) (others : List Row) → AreValid others → AreValues (map as_value (filter test others))
found-values test [] valid = tt
found-values test (f ∷ fs) valid =
    let Fine : List Row → Type 0 = λ ds. AreValues (map as_value ds) in
    let rest = found-values test fs valid.1 in
    either Fine (test f) (f ∷ filter test fs) (filter test fs) (valid-fields f valid.0, rest) rest

pub looked_up-valid : (l : Lookup) (ds others : List Row) → IsSoundLookup l → AreValid ds → AreValid others → AreValid (looked_up l ds others)
unfolding looked_up
looked_up-valid l [] others sound valid fine = tt
looked_up-valid l (d ∷ ds) others sound valid fine =
    (set_field-valid l.target (joined_documents l others d) d sound (valid-elements (map as_value (joined_with l.local l.foreign others d)) (found-values (is_joined l.local l.foreign d) others fine)) valid.0, looked_up-valid l ds others sound valid.1 fine)

target-sound : (c : Candidate) → IfSome c IsValue → IfOk (text_in c >>= target_in) IsUtf8
target-sound None value = tt
target-sound (Some (string text)) value = unless IsUtf8 (has_dot text || begins_with_dollar text || has_zero text) BadSpec (Ok text) value
target-sound (Some v) value = tt

lookup_of-sound : (options : List Field) → IsValid options → IfOk (lookup_of options) IsSoundLookup
lookup_of-sound options valid =
    let Sound : Result Lookup PipelineFault → Type 0 = λ r. IfOk r IsSoundLookup in
    let local = field_option (codes "localField") options in
    let foreign = field_option (codes "foreignField") options in
    either Sound (length options == 4) (from_option options >>= λ from. local >>= λ l. foreign >>= λ f. as_option options >>= λ target. Ok (looking from l f target)) (Err BadSpec)
    (bound (λ x. ⊤) IsSoundLookup (λ from. local >>= λ l. foreign >>= λ f. as_option options >>= λ target. Ok (looking from l f target))
    (λ from h. bound (λ x. ⊤) IsSoundLookup (λ l. foreign >>= λ f. as_option options >>= λ target. Ok (looking from l f target))
    (λ l h. bound (λ x. ⊤) IsSoundLookup (λ f. as_option options >>= λ target. Ok (looking from l f target))
    (λ f h. bound IsUtf8 IsSoundLookup (λ target. Ok (looking from l f target)) (λ target text. text) (as_option options) (target-sound (value_under (codes "as") options) (value_under-valid (codes "as") options valid)))
    foreign (any-ok foreign)) local (any-ok local)) (from_option options) (any-ok (from_option options)))
    tt

pub lookup_in-sound : (v : Tree) → IsValue v → IfOk (lookup_in v) IsSoundLookup
unfolding lookup_in
lookup_in-sound (document options) value = lookup_of-sound (list_of_fields options) (listed-fields options value)
lookup_in-sound v value = tt
