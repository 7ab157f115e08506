-- A find whose first batch is its only one needs no document of a collection after those that the batch may have.
use Rattle.std.proofs.Common.{◌≡◌, ℕ, Bool, true, cond, not, List, [], ◌∷◌, drop, map, Result, Ok, Err, refl, ap, sym, ◌∙◌}
use Rattle.std.specs.List.{AllByRecursion, list_all}
use Rattle.dv_value.specs.Spelling.{Fits}
use Rattle.dv_value.specs.Tree.{Field}
use Rattle.dv_command.specs.Asked.{Find}
use Rattle.dv_command.specs.Replies.{document_of, first_batch_reply}
use Rattle.dv_refusal.specs.declared.refusal.Refusal.{Refusal}
use Rattle.dv_refusal.specs.declared.refusal.Refusal.TheVariants.{TooLarge}
use Rattle.dv_cursor.specs.Batch.{batch}
use Rattle.dv_cursor.specs.Cursors.{Cursors}
use Rattle.dv_catalog.specs.Scan.{limited, matching}
use Rattle.dv_catalog.specs.Inner.ScanLaws.{all_scanned}
use Rattle.dv_catalog.specs.State.{State, rows_of}
use Rattle.dv_sort.specs.Sorting.{stable}
use Rattle.dv_core.specs.Find.{first_batch, reply_to_find}
use Rattle.dv_core.specs.Storable.{is_within_limits}
use Rattle.dv_core.proofs.Stored.{within_limits_fits}

abbrev Rows : Type 0
Rows = List (List Field)

-- ---- what is replied

all_fit : (rows : Rows) → AllByRecursion Fits rows → list_all is_within_limits rows ≡ true
all_fit [] all = refl
all_fit (row ∷ rows) all = rw ((within_limits_fits row).1 all.0) (all_fit rows all.1)

same_reply : (session : ℕ) (namespace : List ℕ) (count : ℕ) (xs ys : Rows) (cursors : Cursors) → AllByRecursion Fits xs → AllByRecursion Fits ys → batch count xs ≡ batch count ys
    → first_batch session namespace count true xs cursors ≡ first_batch session namespace count true ys cursors
same_reply session namespace count xs ys cursors xs_fit ys_fit same =
    let replies : Rows → Result (List Field × Cursors) Refusal = λ rows. Ok (first_batch_reply namespace 0 (map document_of rows), cursors) in
    ap (λ (b : Bool). cond (not b) (Err TooLarge) (replies (batch count xs))) (all_fit xs xs_fit)
    ∙ ap replies same
    ∙ sym (ap (λ (b : Bool). cond (not b) (Err TooLarge) (replies (batch count ys))) (all_fit ys ys_fit))

-- a find that asks for as many rows as are needed
module _ (session : ℕ) (f : Find) (state : State) (cursors : Cursors) (documents : Rows) (are : rows_of f.namespace state ≡ documents) (fit : AllByRecursion Fits documents) where
  pub narrowed : f.single_batch ≡ true → (limit : ℕ) → ((rows : Rows) → batch f.batch_size (limited limit rows) ≡ batch f.batch_size (limited f.limit rows))
      → reply_to_find session (record f { limit = limit }) state cursors ≡ reply_to_find session f state cursors
  narrowed single limit same =
      let rows : Rows = drop f.skip (stable f.sort (matching f.filter documents)) in
      rw (single, are)
      (same_reply session f.namespace f.batch_size (limited limit rows) (limited f.limit rows) cursors
      (all_scanned Fits f.filter f.sort f.skip limit documents fit) (all_scanned Fits f.filter f.sort f.skip f.limit documents fit) (same rows))
