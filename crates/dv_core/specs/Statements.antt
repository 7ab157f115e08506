-- What the statements of a write do, one after the other. When an error ends the write, and what the reply contains, are the MongoDB
-- manual's ("insert": `ordered`, `n`, `writeErrors`); what happens when memory runs out is this server's own.
use Rattle.std.specs.Prelude.{◌≡◌, ℕ, suc, ◌+◌, ◌<◌, ◌⊎◌, not, Bool, true, List, [], ◌∷◌, ◌++◌, take, length, Result, Ok, Err, if◌then◌else◌}
use Rattle.dv_value.specs.Tree.{Tree, Field}
use Rattle.dv_refusal.specs.declared.refusal.Refusal.{Refusal}
use Rattle.dv_command.specs.Replies.{document_of, write_error, cut_error}
use Rattle.dv_catalog.specs.State.{Namespaces, collection_of}
use Rattle.dv_catalog.specs.Changes.{Change, Effect, Statement, apply, changes_of, done_to}

-- what the statements have done so far: how many were carried out or refused; the sum of the documents that they count, and of their
-- changes; the errors of the refused ones; and the collections
pub record Written : Type 0 where
  pub statements : ℕ
  pub n : ℕ
  pub changed : ℕ
  pub errors : List Tree
  pub namespaces : Namespaces

-- nothing was done so far
abbrev pub nothing_written : Namespaces → Written
nothing_written namespaces = record { statements = 0; n = 0; changed = 0; errors = []; namespaces = namespaces }

-- whether the next statement is carried out: an ordered write ends at the first error
abbrev pub is_due : Bool → List Tree → Bool
is_due ordered [] = true
is_due ordered (e ∷ es) = not ordered

-- statements on the documents of a namespace; `ordered` says whether the first refused one ends the write
module _ (namespace : List ℕ) (ordered : Bool) where
  -- what was done after one more statement with this effect or refusal; a refused one changes nothing
  abbrev pub with_result : Written → Result Effect Refusal → Written
  with_result so_far (Ok effect) =
      record { statements = suc so_far.statements; n = so_far.n + effect.matched; changed = so_far.changed + length effect.changes; errors = so_far.errors; namespaces = apply namespace effect.changes so_far.namespaces }
  with_result so_far (Err refusal) =
      record { statements = suc so_far.statements; n = so_far.n; changed = so_far.changed; errors = so_far.errors ++ document_of (write_error so_far.statements refusal) ∷ []; namespaces = so_far.namespaces }

  -- what was done after the next statement, if the write hasn't ended
  abbrev pub with_next : Written → Statement → Written
  with_next so_far statement = if is_due ordered so_far.errors then with_result so_far (done_to (collection_of namespace so_far.namespaces) statement) else so_far

  -- what was done after these statements
  abbrev pub with_all : Written → List Statement → Written
  with_all so_far [] = so_far
  with_all so_far (statement ∷ statements) = with_all (with_next so_far statement) statements

  -- ---- running out of memory

  -- the changes that the next statement would make
  abbrev pub next_changes : Written → Statement → List Change
  next_changes so_far statement = changes_of (done_to (collection_of namespace so_far.namespaces) statement)

  -- what was done if the next statement runs out of memory after its first `made` changes: these remain, and the statement isn't
  -- counted
  abbrev pub cut : ℕ → Written → Statement → Written
  cut made so_far statement =
      record { statements = suc so_far.statements; n = so_far.n; changed = so_far.changed; errors = so_far.errors ++ document_of (cut_error so_far.statements made) ∷ []; namespaces = apply namespace (take made (next_changes so_far statement)) so_far.namespaces }

  -- Memory runs out in one of these statements. Those before it were carried out, and the write had not ended. It has made fewer than
  -- all of its changes, or none if it would make none.
  pub record AreCut (statements : List Statement) (old : Namespaces) (left : Written) : Type 0 where
    pub before : List Statement
    pub statement : Statement
    pub behind : List Statement
    pub made : ℕ
    pub stands : statements ≡ before ++ statement ∷ behind
    pub reached : is_due ordered (with_all (nothing_written old) before).errors ≡ true
    pub fewer : (made ≡ 0) ⊎ (made < length (next_changes (with_all (nothing_written old) before) statement))
    pub left_so : left ≡ cut made (with_all (nothing_written old) before) statement

-- ---- a whole write

-- the namespace of a write, whether an error ends it, its statements, and its reply as a function of the counted documents, the changes
-- and the errors
pub record WriteSteps : Type 0 where
  pub namespace : List ℕ
  pub ordered : Bool
  pub statements : List Statement
  pub reply : ℕ → ℕ → List Tree → List Field

-- what all statements of a write do
abbrev pub carry_out : WriteSteps → Namespaces → Written
carry_out write old = with_all write.namespace write.ordered (nothing_written old) write.statements

-- what a write may leave if memory runs out in one of its statements
abbrev pub IsCutWrite : WriteSteps → Namespaces → Written → Type 0
IsCutWrite write old left = AreCut write.namespace write.ordered write.statements old left
