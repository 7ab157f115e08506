-- The values of an array, the documents among them, and the integers.
use Rattle.std.proofs.Common.{◌≡◌, true, false, List, [], ◌∷◌, length, map, refl, ap, ◌∙◌, suc, ℤ, Result, Ok, Err}
use Rattle.std.specs.List.{list_all}
use Rattle.dv_value.specs.declared.value.Value.{Value}
use Rattle.dv_value.specs.declared.value.Value.TheVariants.{Doc, Int32, Int64}
use Rattle.dv_value.specs.Tree.{elements_of}
use Rattle.dv_value.specs.View.{tree}
use Rattle.dv_command.specs.Fields.{each_document, integer_in, check_read}
use Rattle.dv_value.specs.Results.{◌>>=◌, each}
use Rattle.dv_value.specs.Inner.TreeLaws.{fields_again}
use Rattle.dv_refusal.specs.declared.refusal.Refusal.{Refusal}
use Rattle.dv_refusal.specs.declared.refusal.Refusal.TheVariants.{TypeMismatch}
use Rattle.dv_command.specs.Inner.DocumentsView.{is_document, is_integer, AreDocuments, documents_seen}

pub all_documents : (vs : List Value) → list_all is_document vs ≡ true → AreDocuments vs
all_documents [] e = tt
all_documents (Doc d ∷ vs) e = all_documents vs e
all_documents (v ∷ vs) e = absurd cc

pub documents_all : (vs : List Value) → AreDocuments vs → each_document (elements_of (map tree vs)) ≡ Ok (documents_seen vs)
documents_all [] h = refl
documents_all (Doc d ∷ vs) h = rw (documents_all vs h, fields_again d) refl
documents_all (v ∷ vs) h = absurd h

pub documents_not_all : (vs : List Value) → list_all is_document vs ≡ false → each_document (elements_of (map tree vs)) ≡ Err TypeMismatch
documents_not_all [] e = absurd cc
documents_not_all (Doc d ∷ vs) e = rw (documents_not_all vs e) refl
documents_not_all (v ∷ vs) e = refl

pub length_documents : (vs : List Value) → AreDocuments vs → length (documents_seen vs) ≡ length vs
length_documents [] h = refl
length_documents (Doc d ∷ vs) h = ap suc (length_documents vs h)
length_documents (v ∷ vs) h = absurd h

-- ---- integers

read_more : (n : ℤ) (r : Result (List ℤ) Refusal) → check_read (r >>= λ ns. Ok (n ∷ ns)) ≡ check_read r
read_more n (Ok ns) = refl
read_more n (Err refusal) = refl

pub integers_all : (vs : List Value) → list_all is_integer vs ≡ true → check_read (each integer_in (map tree vs)) ≡ Ok tt
integers_all [] e = refl
integers_all (Int32 n ∷ vs) e = read_more n (each integer_in (map tree vs)) ∙ integers_all vs e
integers_all (Int64 n ∷ vs) e = read_more n (each integer_in (map tree vs)) ∙ integers_all vs e
integers_all (v ∷ vs) e = absurd cc

pub integers_not_all : (vs : List Value) → list_all is_integer vs ≡ false → check_read (each integer_in (map tree vs)) ≡ Err TypeMismatch
integers_not_all [] e = absurd cc
integers_not_all (Int32 n ∷ vs) e = read_more n (each integer_in (map tree vs)) ∙ integers_not_all vs e
integers_not_all (Int64 n ∷ vs) e = read_more n (each integer_in (map tree vs)) ∙ integers_not_all vs e
integers_not_all (v ∷ vs) e = refl
