use Rattle.std.proofs.Common.{◌≡◌, ◌<◌, ◌≤◌, length, true, rules, arith, tests, ap, ◌∙◌, sym, Ok, Some, None, if◌then◌else◌}
use Rattle.std.proofs.lemmas.Str.Parse.{IsNumeralModel, numerals_by_fold, parse_gives, digits_value_short}
use Rattle.std.specs.List.{list_all}
use Rattle.std.specs.Char.{is_ascii_digit}
use Rattle.std.specs.Result.{result_ok}
use Rattle.dv_candidates.specs.Path.{number_behind, is_whole_number, index_of}
use Rattle.dv_candidates.proofs.component.whole_number.Goals as goal

own : IsNumeralModel (λ ds. list_all is_ascii_digit ds ≡ true) (number_behind 0)
own = numerals_by_fold _ (search rules) number_behind (search rules)

pub returns-then-is_whole : goal.returns-then-is_whole
unfolding index_of
returns-then-is_whole c =
    let name = c.args.name.now in
    let whole : is_whole_number name ≡ true = cc in
    let digits : list_all is_ascii_digit name ≡ true = grind (arith, tests) in
    let some : 0 < length name = grind (arith, tests) in
    let few : length name ≤ 10 = grind (arith, tests) in
    let read : c.parse.result ≡ Ok (number_behind 0 name) = parse_gives own 64 name c.parse.result c.parse.ensures.value.0 digits some (omega (arith, digits_value_short own name 10 digits few)) in
    c.ok.ensures.value ∙ ap result_ok read ∙ ap (λ b. if b then Some (number_behind 0 name) else None) (sym whole)
