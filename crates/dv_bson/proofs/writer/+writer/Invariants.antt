use Rattle.std.proofs.Common.{◌+◌, ◌*◌, drop}
use Rattle.dv_value.specs.Tree.{fields_of, elements_of}
use Rattle.dv_value.specs.Inner.Tree.{weight, fields_weight, elements_weight}
use Rattle.dv_value.specs.Spelling.{fields_spelling, elements_spelling}
use Rattle.dv_value.specs.View.{tree}
use Rattle.dv_bson.proofs.Written.{IsLeft}
use Rattle.dv_bson.proofs.writer.+writer.Given as goal

abbrev pub decreases-put_value : goal.decreases-put_value
decreases-put_value l = 3 * weight (tree l.value.now)

abbrev pub decreases-put_element : goal.decreases-put_element
decreases-put_element l = 3 * weight (tree l.value.now) + 1

abbrev pub decreases-put_document : goal.decreases-put_document
decreases-put_document l = 3 * fields_weight (fields_of l.document.now) + 2

abbrev pub decreases-put_list : goal.decreases-put_list
decreases-put_list l = 3 * elements_weight (elements_of l.list.now) + 2

abbrev pub invariant-put_document-loop-place : goal.invariant-put_document-loop-place
invariant-put_document-loop-place l = IsLeft l.at (fields_spelling (fields_of (drop l.place l.document))) l.out (l.start + 4) (fields_spelling (fields_of l.document)) l.initial.out

abbrev pub invariant-put_list-loop-place : goal.invariant-put_list-loop-place
invariant-put_list-loop-place l = IsLeft l.at (elements_spelling l.place (elements_of (drop l.place l.list))) l.out (l.start + 4) (elements_spelling 0 (elements_of l.list)) l.initial.out
