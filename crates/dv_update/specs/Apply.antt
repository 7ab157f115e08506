-- What an update returns for a document (MongoDB manual, "Update Operators", "Replace Documents", "MongoDB Limits and Thresholds").
-- That `_id` keeps its encoding, and the order of the refusals, are this server's own.
use Rattle.std.specs.Prelude.{ℕ, ℤ, ◌+ℤ◌, nat_lt, ◌&&◌, not, Bool, true, false, List, [], ◌∷◌, ◌++◌, length, Option, Some, None, Result, Ok, Err, codes, if◌then◌else◌}
use Rattle.std.specs.List.{filter}
use Rattle.std.specs.Ordering.{is_eq}
use Rattle.std.specs.Str.{bytes_eq}
use Rattle.dv_value.specs.Tree.{Tree, int32, int64, document, array, Field, fields_of, elements_of, list_of_elements}
use Rattle.dv_value.specs.Names.{value_under}
use Rattle.dv_value.specs.Spelling.{spelling, levels}
use Rattle.dv_order.specs.Order.{order}
use Rattle.dv_candidates.specs.declared.fault.PathFault.{PathFault}
use Rattle.dv_path.specs.Placing as placing
use Rattle.dv_path.specs.Removing.{remove}
use Rattle.dv_path.specs.Slots.{Slot, taken, free, blocked, slot}
use Rattle.dv_match.specs.Match.{passes}
use Rattle.dv_update.specs.declared.number.Number.{Number}
use Rattle.dv_update.specs.declared.number.Number.TheVariants.{Int32, Int64}
use Rattle.dv_update.specs.declared.fault.UpdateFault.{UpdateFault}
use Rattle.dv_update.specs.declared.fault.UpdateFault.TheVariants.{NotViable, NotNumber, Overflow, NotArray, IdChanged, TooLarge, TooDeep}
use Rattle.dv_update.specs.OtherFaults.{of_path}
use Rattle.dv_value.specs.Results.{◌>>=◌}
use Rattle.dv_value.specs.Widths.{fits_32, fits_64}
use Rattle.dv_order.specs.Same.{both_same}
use Rattle.dv_update.specs.Update.{Operation, assign, take_away, increase, append, pull, Pulled, equal_to, passing, Edit, Update, replacement, operators}

-- a path, as its components
abbrev pub Path : Type 0
Path = List (List ℕ)

-- ---- $set

-- a result, with the fault of a path as a fault of the update
abbrev pub told : {X : Type 0} → Result X PathFault → Result X UpdateFault
told (Ok x) = Ok x
told (Err e) = Err (of_path e)

-- the document after a `$set`
abbrev pub set_at : Path → Tree → List Field → Result (List Field) UpdateFault
set_at path v d = told (placing.put d path v)

-- ---- $inc

-- whether the number is an int32
abbrev pub is_narrow : Number → Bool
is_narrow (Int32 n) = true
is_narrow (Int64 n) = false

-- the integer, whatever its width
abbrev pub integer : Number → ℤ
integer (Int32 n) = n
integer (Int64 n) = n

-- the number as a value
abbrev pub number_tree : Number → Tree
number_tree (Int32 n) = int32 n
number_tree (Int64 n) = int64 n

-- the sum as a value: an int32 if both numbers are int32 and it fits, otherwise an int64 if it fits, otherwise refused
abbrev pub sum_as : Bool → ℤ → Result Tree UpdateFault
sum_as narrow n = if narrow && fits_32 n then Ok (int32 n) else if fits_64 n then Ok (int64 n) else Err Overflow

-- the sum of two numbers, as a value
abbrev pub sum : Number → Number → Result Tree UpdateFault
sum m n = sum_as (is_narrow m && is_narrow n) (integer m +ℤ integer n)

-- the value at a place after `$inc`: a number plus the operand; the operand itself if there is no value
abbrev pub increased : Number → Slot → Result Tree UpdateFault
increased n free = Ok (number_tree n)
increased n blocked = Err NotViable
increased n (taken (int32 m)) = sum (Int32 m) n
increased n (taken (int64 m)) = sum (Int64 m) n
increased n (taken v) = Err NotNumber

-- the document after an `$inc`
abbrev pub increase_at : Path → Number → List Field → Result (List Field) UpdateFault
increase_at path n d = increased n (slot d path) >>= λ v. set_at path v d

-- ---- $push

-- the value at a place after `$push`: an array with the values appended; an array of the values if there is no value
abbrev pub appended : List Tree → Slot → Result Tree UpdateFault
appended vs free = Ok (array (elements_of vs))
appended vs blocked = Err NotViable
appended vs (taken (array ws)) = Ok (array (elements_of (list_of_elements ws ++ vs)))
appended vs (taken v) = Err NotArray

-- the document after a `$push`
abbrev pub append_at : Path → List Tree → List Field → Result (List Field) UpdateFault
append_at path vs d = appended vs (slot d path) >>= λ v. set_at path v d

-- ---- $pull

-- whether `$pull` removes the element
abbrev pub is_pulled : Pulled → Tree → Bool
is_pulled (equal_to v) w = is_eq (order w v)
is_pulled (passing test) w = passes test w

-- the elements that `$pull` leaves, in their order
abbrev pub left : Pulled → List Tree → List Tree
left p vs = filter (λ v. not (is_pulled p v)) vs

-- the document after a `$pull` at a place: only an array can be there; if there is no place or no value, nothing changes
abbrev pub pull_from : Path → Pulled → List Field → Slot → Result (List Field) UpdateFault
pull_from path p d (taken (array vs)) = set_at path (array (elements_of (left p (list_of_elements vs)))) d
pull_from path p d (taken v) = Err NotArray
pull_from path p d s = Ok d

-- the document after a `$pull`
abbrev pub pull_at : Path → Pulled → List Field → Result (List Field) UpdateFault
pull_at path p d = pull_from path p d (slot d path)

-- ---- edits, one after the other

-- the document after an edit
abbrev pub edit_at : Path → Operation → List Field → Result (List Field) UpdateFault
edit_at path (assign v) d = set_at path v d
edit_at path take_away d = Ok (remove d path)
edit_at path (increase n) d = increase_at path n d
edit_at path (append vs) d = append_at path vs d
edit_at path (pull p) d = pull_at path p d

-- the document after these edits, or the first fault
abbrev pub edited : List Edit → List Field → Result (List Field) UpdateFault
edited [] d = Ok d
edited (e ∷ es) d = edit_at e.0 e.1 d >>= edited es

-- ---- replacements

-- whether this is the field `_id`
abbrev pub is_id : Field → Bool
is_id f = bytes_eq f.0 (codes "_id")

-- the fields other than `_id`
abbrev pub others : List Field → List Field
others fields = filter (λ f. not (is_id f)) fields

-- the replacement's own `_id`, if it has one, otherwise the document's
abbrev pub chosen : Option Tree → Option Tree → Option Tree
chosen None old = old
chosen (Some v) old = Some v

-- the fields with `_id` in front, if there is one
abbrev pub with_id : Option Tree → List Field → List Field
with_id None fields = fields
with_id (Some v) fields = (codes "_id", v) ∷ fields

-- the result of a replacement: `_id` first, then the other fields of the replacement
abbrev pub replaced : List Field → List Field → List Field
replaced fields d = with_id (chosen (value_under (codes "_id") fields) (value_under (codes "_id") d)) (others fields)

-- ---- limits of the result

-- the `_id` of a document, if it is the first field
abbrev pub leading_id : List Field → Option Tree
leading_id [] = None
leading_id (f ∷ fs) = if is_id f then Some f.1 else None

-- the size limit in bytes
abbrev pub document_limit : ℕ
document_limit = 16777216

-- the limit of nesting levels, the document itself included
abbrev pub level_limit : ℕ
level_limit = 100

-- the result, unless it is refused: first if its leading `_id` doesn't have the encoding of the old document's, then for its size, then
-- for its nesting levels
abbrev pub checked : List Field → List Field → Result (List Field) UpdateFault
checked old new =
    if not (both_same (leading_id old) (leading_id new)) then Err IdChanged
    else if nat_lt document_limit (length (spelling new)) then Err TooLarge
    else if nat_lt level_limit (levels (document (fields_of new))) then Err TooDeep
    else Ok new

-- a document after an update, before it is checked
abbrev pub changed : Update → List Field → Result (List Field) UpdateFault
changed (replacement fields) d = Ok (replaced fields d)
changed (operators edits) d = edited edits d

-- a document after an update, or the first fault
abbrev pub applied : Update → List Field → Result (List Field) UpdateFault
applied update d = changed update d >>= checked d
