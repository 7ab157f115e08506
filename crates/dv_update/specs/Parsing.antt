-- How an update is parsed: the parsed update, or the first fault in written order; conflicts between paths come last (MongoDB manual,
-- "Update Operators", "Replace Documents"). Which fault is reported, and which names are refused, are this server's own.
use Rattle.std.specs.Prelude.{ℕ, Bool, false, ◌||◌, List, [], ◌∷◌, ◌++◌, Option, Some, None, Result, Ok, Err, codes, if◌then◌else◌}
use Rattle.std.specs.List.{list_any}
use Rattle.std.specs.Str.{bytes_eq}
use Rattle.std.specs.Ordering.{is_gt}
use Rattle.dv_value.specs.Results.{◌>>=◌}
use Rattle.dv_value.specs.Names.{begins_with_dollar}
use Rattle.dv_value.specs.Tree.{Tree, int32, int64, document, array, Fields, no_fields, field, Field, fields_of, list_of_fields, list_of_elements}
use Rattle.dv_path.specs.Names.{has_bad_name}
use Rattle.dv_candidates.specs.Path.{path_of}
use Rattle.dv_match.specs.Filter.{Test}
use Rattle.dv_match.specs.Parsing.{lists_operators, test_in}
use Rattle.dv_match.specs.declared.fault.FilterFault.{FilterFault}
use Rattle.dv_update.specs.declared.number.Number.TheVariants.{Int32, Int64}
use Rattle.dv_update.specs.declared.fault.UpdateFault.{UpdateFault}
use Rattle.dv_update.specs.declared.fault.UpdateFault.TheVariants.{UnknownOperator, Conflict, NotNumber, BadName, BadOperand}
use Rattle.dv_update.specs.declared.operator.Operator.{Operator}
use Rattle.dv_update.specs.declared.operator.Operator.TheVariants.{Set, Unset, Inc, Push, Pull}
use Rattle.dv_update.specs.PathOrder.{path_order, begins}
use Rattle.dv_update.specs.Update.{Operation, assign, take_away, increase, append, pull, equal_to, passing, Edit, Update, replacement, operators}

-- the update operator with this name, if any
unfoldable pub operator_named : List ℕ → Option Operator
operator_named name =
    if bytes_eq name (codes "$set") then Some Set
    else if bytes_eq name (codes "$unset") then Some Unset
    else if bytes_eq name (codes "$inc") then Some Inc
    else if bytes_eq name (codes "$push") then Some Push
    else if bytes_eq name (codes "$pull") then Some Pull
    else None

-- ---- operands

-- the operand of `$inc`: an int32 or int64
abbrev pub number_to_add : Tree → Result Operation UpdateFault
number_to_add (int32 n) = Ok (increase (Int32 n))
number_to_add (int64 n) = Ok (increase (Int64 n))
number_to_add v = Err NotNumber

-- the values in the array of `$each`
abbrev pub members : Tree → Result Operation UpdateFault
members (array vs) = Ok (append (list_of_elements vs))
members v = Err BadOperand

-- `$each` must be the only field of its document
abbrev pub each_alone : Fields → Result Operation UpdateFault
each_alone (field name v no_fields) = if bytes_eq name (codes "$each") then members v else Err UnknownOperator
each_alone fs = Err UnknownOperator

-- one value to append
abbrev pub one_value : Tree → Result Operation UpdateFault
one_value v = Ok (append (v ∷ []))

-- the operand of `$push`: one value, or a document of operators, which must be `$each`
abbrev pub values_to_push : Tree → Result Operation UpdateFault
values_to_push (document fs) = if lists_operators fs then each_alone fs else one_value (document fs)
values_to_push v = one_value v

-- a parsed condition as the operand of `$pull`
abbrev pub condition : Result Test FilterFault → Result Operation UpdateFault
condition (Ok test) = Ok (pull (passing test))
condition (Err e) = Err BadOperand

-- the operand of `$pull`: a document is a condition, as in `$elemMatch`; any other value removes the elements equal to it
abbrev pub values_to_pull : Tree → Result Operation UpdateFault
values_to_pull (document fs) = condition (test_in (document fs))
values_to_pull v = Ok (pull (equal_to v))

-- an operation by its operator and operand
abbrev pub operation_by : Operator → Tree → Result Operation UpdateFault
operation_by Set v = Ok (assign v)
operation_by Unset v = Ok take_away
operation_by Inc v = number_to_add v
operation_by Push v = values_to_push v
operation_by Pull v = values_to_pull v

-- ---- operators

-- a path of an update: no component begins with a dollar sign
abbrev pub plain : Option (List (List ℕ)) → Result (List (List ℕ)) UpdateFault
plain None = Err BadName
plain (Some path) = if list_any begins_with_dollar path then Err BadName else Ok path

-- an edit from a path and an operand; a fault of the path comes first
abbrev pub edit_by : Operator → Field → Result Edit UpdateFault
edit_by operator f = plain (path_of f.0) >>= λ path. operation_by operator f.1 >>= λ operation. Ok (path, operation)

-- the edits of one operator, in written order
abbrev pub edits_by : Operator → List Field → Result (List Edit) UpdateFault
edits_by operator [] = Ok []
edits_by operator (f ∷ fs) = edit_by operator f >>= λ e. edits_by operator fs >>= λ es. Ok (e ∷ es)

-- the edits of one operator, whose operand must be a document
abbrev pub edits_under : Option Operator → Tree → Result (List Edit) UpdateFault
edits_under None v = Err UnknownOperator
edits_under (Some operator) (document fs) = edits_by operator (list_of_fields fs)
edits_under (Some operator) v = Err BadOperand

-- the edits of all operators, in written order
abbrev pub edits_in : List Field → Result (List Edit) UpdateFault
edits_in [] = Ok []
edits_in (f ∷ fs) = edits_under (operator_named f.0) f.1 >>= λ es. edits_in fs >>= λ more. Ok (es ++ more)

-- ---- the order of edits

-- whether two edits conflict: the path of one begins or equals the other's
abbrev pub conflicts : Edit → Edit → Bool
conflicts d e = begins d.0 e.0 || begins e.0 d.0

-- whether any two edits conflict
abbrev pub has_conflict : List Edit → Bool
has_conflict [] = false
has_conflict (e ∷ es) = list_any (conflicts e) es || has_conflict es

-- ordered edits with one more, in front of the first whose path isn't less
abbrev pub placed : Edit → List Edit → List Edit
placed e [] = e ∷ []
placed e (d ∷ ds) = if is_gt (path_order e.0 d.0) then d ∷ placed e ds else e ∷ d ∷ ds

-- the edits in the order of their paths
abbrev pub sorted : List Edit → List Edit
sorted [] = []
sorted (e ∷ es) = placed e (sorted es)

-- an update of these edits in order, or a conflict
abbrev pub in_order : List Edit → Result Update UpdateFault
in_order es = if has_conflict es then Err Conflict else Ok (operators (sorted es))

-- ---- replacements

-- a parsed replacement: no name begins with a dollar sign at the top level, and none contains a dot at any level
abbrev pub replacement_of : List Field → Result Update UpdateFault
replacement_of fs = if has_bad_name fs then Err BadName else Ok (replacement fs)

-- a parsed update: if the first name begins with a dollar sign, it has operators; otherwise it is a replacement
abbrev pub update_of : List Field → Result Update UpdateFault
update_of fs = if lists_operators (fields_of fs) then (edits_in fs >>= in_order) else replacement_of fs
