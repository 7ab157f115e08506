-- What is under namespaces.
use Rattle.std.proofs.Common.{◌≡◌, ℕ, List, Option, Some, None, cond, ap, ◌∙◌}
use Rattle.std.proofs.lemmas.Map.Text.{is_eq-slice_cmp}
use Rattle.std.specs.Cmp.Lexicographic.{nat_list_cmp_total}
use Rattle.std.specs.FinMap as finite
use Rattle.std.specs.Str.{bytes_eq}
use Rattle.dv_value.specs.Inner.ByteLaws.{bytes_eq-symmetric}
use Rattle.dv_catalog.specs.State.{Standing, Namespaces, collection_at, documents_of}

pub same_namespaces : (m n : Namespaces) → ((q : List ℕ) → finite.get m q ≡ finite.get n q) → m ≡ n
same_namespaces = finite.same_map nat_list_cmp_total (finite.slice_cmp-IsAntisymmetric finite.nat_cmp-IsAntisymmetric)

pub get-insert : (m : Namespaces) (name : List ℕ) (s : Standing) (q : List ℕ) → finite.get (finite.insert m name s) q ≡ cond (bytes_eq name q) (Some s) (finite.get m q)
get-insert m name s q =
    finite.get-insert nat_list_cmp_total m name s q
    ∙ ap (λ b. cond b (Some s) (finite.get m q)) (is_eq-slice_cmp q name ∙ bytes_eq-symmetric q name)

pub get-remove : (m : Namespaces) (name q : List ℕ) → finite.get (finite.remove m name) q ≡ cond (bytes_eq name q) None (finite.get m q)
get-remove m name q =
    finite.get-remove nat_list_cmp_total m name q
    ∙ ap (λ b. cond b None (finite.get m q)) (is_eq-slice_cmp q name ∙ bytes_eq-symmetric q name)

pub documents_there : (namespaces : Namespaces) (namespace : List ℕ) (there : Option Standing) → finite.get namespaces namespace ≡ there → documents_of namespace namespaces ≡ (collection_at there).documents
documents_there namespaces namespace there is = ap (λ (s : Option Standing). (collection_at s).documents) is
