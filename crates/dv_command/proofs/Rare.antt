-- A find without a field that most finds don't have.
use Rattle.std.proofs.Common.{◌≡◌, ℕ, Bool, true, false, ◌||◌, List, [], ◌∷◌, Option, None, Some, Result, Ok, if◌then◌else◌, codes, refl, sym, ap, ◌∙◌}
use Rattle.std.specs.Str.{bytes_eq}
use Rattle.std.proofs.lemmas.Slice.Eq.{bytes_eq-Decides}
use Rattle.dv_value.specs.Names.{value_under}
use Rattle.dv_value.specs.Results.{◌>>=◌}
use Rattle.dv_value.specs.Tree.{Tree, Field}
use Rattle.dv_match.specs.Filter.{Members}
use Rattle.dv_refusal.specs.declared.refusal.Refusal.{Refusal}
use Rattle.dv_command.specs.Asked.{find_in, first_batch_size}
use Rattle.dv_command.specs.Fields.{boolean_in, boolean_under, document_in, natural_in, natural_under, optional, text_under}
use Rattle.dv_command.specs.Forms.{filter_under, sort_of, sort_under}
use Rattle.dv_command.specs.Namespaces.{namespace}
use Rattle.dv_command.specs.Inner.Rare.{is_rare, has_rare}

-- there is no value under a rare name if no field has a rare name
absent : (name : List ℕ) (fs : List Field) → is_rare name ≡ true → has_rare fs ≡ false → value_under name fs ≡ None
absent name [] rare none = refl
absent name (f ∷ fs) rare none = by_tests (bytes_eq name f.0) (is_rare f.0) refl refl none (λ all. absent name fs rare all)
  where
    by_tests : (same first : Bool) → bytes_eq name f.0 ≡ same → is_rare f.0 ≡ first → (first || has_rare fs) ≡ false → (has_rare fs ≡ false → value_under name fs ≡ None) → (if same then Some f.1 else value_under name fs) ≡ None
    by_tests same true e is all behind = absurd cc
    by_tests false false e is all behind = behind all
    by_tests true false e is all behind =
        let both : true ≡ false = sym rare ∙ (ap is_rare ((bytes_eq-Decides name f.0).0 e) ∙ is) in
        absurd cc

passes : {A B : Type 0} (first : Result A Refusal) (rest : A → Result B Refusal) (x : A) (end : Result B Refusal) → first ≡ Ok x → rest x ≡ end → (first >>= rest) ≡ end
passes {A = A} first rest x end is behind = ap (λ (r : Result A Refusal). r >>= rest) is ∙ behind

module _ (body : List Field) (none : has_rare body ≡ false) where
  no_number : (name : List ℕ) (default : ℕ) → is_rare name ≡ true → natural_under name default body ≡ Ok default
  no_number name default rare = ap (λ (value : Option Tree). optional default natural_in value) (absent name body rare none)

  -- what a find without such a field asks for
  pub asked_plainly : (database collection from : List ℕ) (filter : Members) → text_under (codes "find") body ≡ Ok collection → namespace database collection ≡ Ok from → filter_under (codes "filter") body ≡ Ok filter
      → find_in database body ≡ Ok (record { namespace = from; filter = filter; sort = []; skip = 0; limit = 0; batch_size = first_batch_size; single_batch = false })
  asked_plainly database collection from filter named placed asked =
      passes (text_under (codes "find") body) _ collection _ named
      (passes (namespace database collection) _ from _ placed
      (passes (filter_under (codes "filter") body) _ filter _ asked
      (passes (sort_under (codes "sort") body) _ [] _ (ap (λ (value : Option Tree). optional [] document_in value >>= sort_of) (absent (codes "sort") body refl none))
      (passes (natural_under (codes "skip") 0 body) _ 0 _ (no_number (codes "skip") 0 refl)
      (passes (natural_under (codes "limit") 0 body) _ 0 _ (no_number (codes "limit") 0 refl)
      (passes (natural_under (codes "batchSize") first_batch_size body) _ first_batch_size _ (no_number (codes "batchSize") first_batch_size refl)
      (passes (boolean_under (codes "singleBatch") false body) _ false _ (ap (λ (value : Option Tree). optional false boolean_in value) (absent (codes "singleBatch") body refl none))
      refl)))))))
