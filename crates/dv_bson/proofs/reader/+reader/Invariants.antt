use Rattle.std.proofs.Common.{◌≡◌, ◌*◌, ◌+◌, ◌-◌, ◌<◌, ◌≤◌, true, false, ℕ, [], length, map}
use Rattle.dv_value.specs.Names.{with_values}
use Rattle.dv_value.specs.View.{tree}
use Rattle.dv_bson.specs.Reading.{fields_at, body_at}
use Rattle.dv_bson.specs.Inner.Parts.{numbered}
use Rattle.dv_bson.proofs.reader.+reader.Given as goal

-- A document's or an array's elements are read with a level less, by way of an element and its value.
abbrev pub decreases-document_of : goal.decreases-document_of
decreases-document_of l = 6 * l.levels

abbrev pub decreases-list_of : goal.decreases-list_of
decreases-list_of l = 6 * l.levels

abbrev pub decreases-value_of : goal.decreases-value_of
decreases-value_of l = 6 * l.levels + 1

abbrev pub decreases-field_of : goal.decreases-field_of
decreases-field_of l = 6 * l.levels + 2

abbrev pub decreases-element_of : goal.decreases-element_of
decreases-element_of l = 6 * l.levels + 2

abbrev pub decreases-value_like_next : goal.decreases-value_like_next
decreases-value_like_next l = 6 * l.levels + 2

abbrev pub decreases-begin_like : goal.decreases-begin_like
decreases-begin_like l = 6 * l.levels + 3

abbrev pub decreases-begin : goal.decreases-begin
decreases-begin l = 6 * l.levels + 4

-- Reading the rest, after what was read, gives the same as reading the whole.
abbrev pub invariant-document_of-elements : goal.invariant-document_of-elements
invariant-document_of-elements l = record {
  read : fields_at (body_at (l.levels - 1)) (length l.rest) false l.at l.fields l.rest l.last ≡ body_at l.levels false l.fn.at l.elements l.last;
  in_range : l.at + length l.rest < 16777216;
}

abbrev pub invariant-begin_like-fields : goal.invariant-begin_like-fields
invariant-begin_like-fields l = record {
  read : (last : ℕ) → fields_at (body_at l.levels) (length l.rest) false l.at (with_values l.like (map tree l.values.items)) l.rest last ≡ fields_at (body_at l.levels) (length l.elements) false l.fn.at [] l.elements last;
  as_far : l.at + length l.rest ≡ l.fn.at + length l.elements;
  fits : length l.values.items ≤ length l.like;
}

abbrev pub decreases-begin_like-fields : goal.decreases-begin_like-fields
decreases-begin_like-fields l = length l.rest

abbrev pub decreases-document_of-elements : goal.decreases-document_of-elements
decreases-document_of-elements l = length l.rest

abbrev pub invariant-list_of-elements : goal.invariant-list_of-elements
invariant-list_of-elements l = record {
  read : fields_at (body_at (l.levels - 1)) (length l.rest) true l.at (numbered 0 (map tree l.values.items)) l.rest l.last ≡ body_at l.levels true l.fn.at l.elements l.last;
  in_range : l.at + length l.rest < 16777216;
}

abbrev pub decreases-list_of-elements : goal.decreases-list_of-elements
decreases-list_of-elements l = length l.rest
