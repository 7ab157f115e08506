use Rattle.std.proofs.Common.{◌≡◌, ◌||◌, ◌&&◌, not, true}
use Rattle.std.specs.List.{AllByRecursion, list_any}
use Rattle.dv_coll.specs.Collection.{HasId, IsAscending}
use Rattle.dv_order.specs.Key.{KeyTree}
use Rattle.dv_keyed.specs.Inner.Pairs.{has_pair}
use Rattle.dv_index.specs.Unique.{are_apart}
use Rattle.dv_index.proofs.Built.{IsElsewhere, some-has}
use Rattle.dv_index.proofs.Taken.{has-some}
use Rattle.dv_index.proofs.making.pairs_of.Given as goal

-- the keys of the documents that are left are still to be added, and none of theirs is there yet
abbrev pub invariant-loop-document : goal.invariant-loop-document
invariant-loop-document l = record {
  keys : (k id : KeyTree) → has_pair k id l.pairs || some-has k id l.path l.document-iterator ≡ some-has k id l.path l.documents;
  identified : AllByRecursion HasId l.document-iterator;
  ascending : IsAscending l.document-iterator;
  unbroken : l.unique ≡ true → are_apart l.path l.documents ≡ are_apart l.path l.document-iterator && not (list_any (has-some l.path l.pairs) l.document-iterator);
  apart : (k i : KeyTree) → has_pair k i l.pairs ≡ true → IsElsewhere i l.document-iterator;
}
