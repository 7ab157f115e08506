use Rattle.std.proofs.Common.{◌≡◌, ◌*◌, ◌+◌, ◌-◌, ◌<◌, ◌≤◌, true, false, List, length, map}
use Rattle.dv_value.specs.Tree.{Field}
use Rattle.dv_bson.specs.Reading.{fields_at, body_at}
use Rattle.dv_bson.proofs.walk.+walk.Given as goal

-- A document's or an array's elements are checked with a level less, by way of an element and its value.
abbrev pub decreases-walk_document : goal.decreases-walk_document
decreases-walk_document l = 3 * l.levels

abbrev pub decreases-walk_list : goal.decreases-walk_list
decreases-walk_list l = 3 * l.levels

abbrev pub decreases-behind_value : goal.decreases-behind_value
decreases-behind_value l = 3 * l.levels + 1

abbrev pub decreases-behind_field : goal.decreases-behind_field
decreases-behind_field l = 3 * l.levels + 2

abbrev pub decreases-behind_element : goal.decreases-behind_element
decreases-behind_element l = 3 * l.levels + 2

-- Reading the rest, after fields with these names, gives the same as reading the whole.
abbrev pub invariant-walk_document-elements : goal.invariant-walk_document-elements
invariant-walk_document-elements l = record {
  seen : List Field;
  named : map (λ f. f.0) seen ≡ l.names;
  read : fields_at (body_at (l.levels - 1)) (length l.rest) false l.at seen l.rest l.last ≡ body_at l.levels false l.fn.at l.elements l.last;
  in_range : l.at + length l.rest < 16777216;
}

abbrev pub decreases-walk_document-elements : goal.decreases-walk_document-elements
decreases-walk_document-elements l = length l.rest

abbrev pub invariant-walk_list-elements : goal.invariant-walk_list-elements
invariant-walk_list-elements l = record {
  seen : List Field;
  here : length seen ≡ l.place;
  read : fields_at (body_at (l.levels - 1)) (length l.rest) true l.at seen l.rest l.last ≡ body_at l.levels true l.fn.at l.elements l.last;
  in_range : l.at + length l.rest < 16777216;
  counted : l.place ≤ l.at;
}

abbrev pub decreases-walk_list-elements : goal.decreases-walk_list-elements
decreases-walk_list-elements l = length l.rest
