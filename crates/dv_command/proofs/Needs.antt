-- What a command asks for, with no more of its lists than it needs.
use Rattle.std.proofs.Common.{◌≡◌, ℕ, suc, Bool, true, false, ◌&&◌, nat_lt, if◌then◌else◌, List, [], ◌∷◌, length, map, take, Option, Some, None, Result, Ok, Err, refl, ap, arith}
use Rattle.std.specs.Prelude.{codes, option_map, ⊤}
use Rattle.std.specs.List.{list_all}
use Rattle.std.specs.Str.{bytes_eq}
use Rattle.std.proofs.lemmas.Bool.{lt-ltb, ltb-true, ltb-false}
use Rattle.std.proofs.lemmas.List.{length-take-le, take_all}
use Rattle.dv_value.specs.Names.{value_under}
use Rattle.dv_value.specs.Results.{◌>>=◌}
use Rattle.dv_value.specs.Tree.{Tree, Field}
use Rattle.dv_command.specs.Fields.{boolean_under, text_under}
use Rattle.dv_command.specs.Namespaces.{namespace}
use Rattle.dv_refusal.specs.declared.refusal.Refusal.{Refusal}
use Rattle.dv_refusal.specs.declared.refusal.Refusal.TheVariants.{FailedToParse}
use Rattle.dv_command.specs.declared.asking.WriteKind.{WriteKind}
use Rattle.dv_command.specs.declared.command.Command.{Command}
use Rattle.dv_command.specs.declared.command.Command.TheVariants.{Sections, Invalid}
use Rattle.dv_command.specs.declared.parsing.CommandName.{CommandName}
use Rattle.dv_command.specs.declared.parsing.CommandName.TheVariants.{Alone, Writing}
use Rattle.dv_command.specs.Asked.{Asked, write, asked_alone, asked_as, asked_by, check_count, command_name, command_named, looked_database, statement_limit, statements_name, write_name, write_of}
use Rattle.dv_command.specs.Lists.{CommandLists, check_only, in_either, is_alone, list_under}
use Rattle.dv_command.specs.Inner.Needed.{count_needed, front_needed, needed, needed_of, statements_needed}
use Rattle.dv_command.specs.Tables.{write_table}

-- the same result, followed by the same
same_behind : {A B : Type 0} (first : Result A Refusal) (rest others : A → Result B Refusal) → ((x : A) → rest x ≡ others x) → (first >>= rest) ≡ (first >>= others)
same_behind (Ok x) rest others same = same x
same_behind (Err refusal) rest others same = refl

same_both : {A B : Type 0} (first other : Result A Refusal) (rest others : A → Result B Refusal) → first ≡ other → ((x : A) → rest x ≡ others x) → (first >>= rest) ≡ (other >>= others)
same_both first other rest others e same = rw e (same_behind other rest others same)

-- ---- statements

abbrev front : List (List Field) → List (List Field)
front documents = take (suc statement_limit) documents

counted : (asked : List (List Field) → Asked) (documents : List (List Field)) (many : Bool) → nat_lt statement_limit (length documents) ≡ many
    → (check_count (front documents) >>= λ _. let one : Result Asked Refusal = Ok (asked (front documents)) in one) ≡ (check_count documents >>= λ _. let other : Result Asked Refusal = Ok (asked documents) in other)
counted asked documents true e =
    let long : length (front documents) ≡ suc statement_limit = length-take-le (suc statement_limit) documents (omega (arith, ltb-true _ _ e)) in
    let cut : nat_lt statement_limit (length (front documents)) ≡ true = lt-ltb _ _ (omega (arith, long)) in
    rw (cut, e) refl
counted asked documents false e =
    let all : front documents ≡ documents = take_all (suc statement_limit) documents (omega (arith, ltb-false _ _ e)) in
    rw all refl

either_by : (value : Option Tree) (listed : Option (List (List Field))) (rest : List (List Field) → Result Asked Refusal) → ((documents : List (List Field)) → rest (front documents) ≡ rest documents)
    → (in_either value (option_map front listed) >>= rest) ≡ (in_either value listed >>= rest)
either_by None None rest same = refl
either_by None (Some documents) rest same = same documents
either_by (Some value) None rest same = refl
either_by (Some value) (Some documents) rest same = refl

either_same : (value : Option Tree) (cut listed : Option (List (List Field))) (rest : List (List Field) → Result Asked Refusal) → cut ≡ option_map front listed
    → ((documents : List (List Field)) → rest (front documents) ≡ rest documents) → (in_either value cut >>= rest) ≡ (in_either value listed >>= rest)
either_same value cut listed rest e same = rw e (either_by value listed rest same)

module _ (statements : List ℕ) where
  abbrev cut_list : List ℕ × List (List Field) → List ℕ × List (List Field)
  cut_list = front_needed (statements_needed statements)

  names_same : (lists : CommandLists) → list_all (λ list. bytes_eq statements list.0) (map cut_list lists) ≡ list_all (λ list. bytes_eq statements list.0) lists
  names_same [] = refl
  names_same (list ∷ lists) = ap (λ (b : Bool). bytes_eq statements list.0 && b) (names_same lists)

  only_same : (lists : CommandLists) → check_only statements (map cut_list lists) ≡ check_only statements lists
  only_same lists = ap (λ (b : Bool). let checked : Result ⊤ Refusal = if b then Ok tt else Err FailedToParse in checked) (names_same lists)

  under_by : (here : Bool) (documents : List (List Field)) (others cut : Option (List (List Field))) → cut ≡ option_map front others
      → (if here then Some (take (if here then suc statement_limit else 0) documents) else cut) ≡ option_map front (if here then Some documents else others)
  under_by true documents others cut e = refl
  under_by false documents others cut e = e

  under_cut : (lists : CommandLists) → list_under statements (map cut_list lists) ≡ option_map front (list_under statements lists)
  under_cut [] = refl
  under_cut (list ∷ lists) = under_by (bytes_eq statements list.0) list.1 (list_under statements lists) (list_under statements (map cut_list lists)) (under_cut lists)

write_same : (kind : WriteKind) (body : List Field) (lists : CommandLists) → write_of kind body (map (cut_list (statements_name kind)) lists) ≡ write_of kind body lists
write_same kind body lists =
    let statements = statements_name kind in
    same_behind (looked_database (write_table (write_name kind) statements) body) _ _ (λ database_name.
    same_both (check_only statements (map (cut_list statements) lists)) (check_only statements lists) _ _ (only_same statements lists) (λ _.
    same_behind (text_under (write_name kind) body) _ _ (λ collection.
    either_same (value_under statements body) (list_under statements (map (cut_list statements) lists)) (list_under statements lists) _ (under_cut statements lists) (λ documents.
    same_behind (boolean_under (codes "ordered") true body) _ _ (λ ordered.
    same_behind (namespace database_name collection) _ _ (λ into.
    counted (λ entries. write (record { kind = kind; namespace = into; entries = entries; ordered = ordered })) documents (nat_lt statement_limit (length documents)) refl))))))

-- ---- a command

alone_same : (count : List ℕ → ℕ) (lists : CommandLists) → is_alone (map (front_needed count) lists) ≡ is_alone lists
alone_same count [] = refl
alone_same count (list ∷ lists) = refl

same_as : (command : Option CommandName) (body : List Field) (lists : CommandLists) → asked_as command body (map (front_needed (count_needed command)) lists) ≡ asked_as command body lists
same_as None body lists = refl
same_as (Some (Writing kind)) body lists = write_same kind body lists
same_as (Some (Alone name)) body lists = ap (λ (alone : Bool). asked_alone name body alone) (alone_same (count_needed (Some (Alone name))) lists)

pub same_asked : (command : Command) → asked_by (needed command) ≡ asked_by command
unfolding needed_of
same_asked (Sections body lists) = same_as (command_named (command_name body)) body lists
same_asked (Invalid fault) = refl
