-- The worked examples of loads, computed.
use Rattle.std.proofs.Common.{◌≡◌, List, [], ◌∷◌, Result, Ok, Err, pos, refl, ap, ◌∙◌}
use Rattle.std.specs.Prelude.{codes}
use Rattle.dv_value.specs.Spelling.{framed, element_spelling, payload, counted}
use Rattle.dv_value.specs.Tree.{Field, int64}
use Rattle.dv_catalog.specs.Changes.{Effect, done_to, put, unless_it_breaks, with_put}
use Rattle.dv_catalog.specs.State.{Collection, collection_of}
use Rattle.dv_core.specs.Inner.Examples.{LoadExamples, number, only, holding, with_id_and_a, with_collection}
use Rattle.dv_core.specs.Load.{left_by}
use Rattle.dv_core.specs.State.{State, empty_store_state}
use Rattle.dv_value.specs.Results.{◌>>=◌}
use Rattle.dv_refusal.specs.declared.refusal.Refusal.{Refusal}
use Rattle.dv_refusal.specs.declared.refusal.Refusal.TheVariants.{DuplicateKey}
use Rattle.dv_core.specs.Writes.{insert_one}
use Rattle.dv_core.proofs.Worked.{t_c, nothing_there, put_there, with_only}

module _ (old : State) (documents : List (List Field)) (are : collection_of t_c old.catalog.namespaces ≡ with_only documents) (d : List Field) where
  abbrev left : Collection → Result State Refusal
  left c = done_to c (insert_one d) >>= λ effect. Ok (left_by t_c old effect)

  -- the state after this effect on the documents, or the refusal
  abbrev left_of : Result Effect Refusal → Result State Refusal
  left_of does = does >>= unless_it_breaks (with_only documents) >>= λ effect. Ok (left_by t_c old effect)

  puts : (stored : List Field) (after : List (List Field)) → insert_one d documents ≡ Ok (record { matched = 1; changes = put stored ∷ [] }) → with_put stored documents ≡ after
      → left (collection_of t_c old.catalog.namespaces) ≡ Ok (with_collection t_c after old)
  puts stored after gives leaves =
      ap left are ∙ ap left_of gives ∙ ap (λ (ds : List (List Field)). Ok (with_collection t_c ds old)) (ap (λ (c : Collection). with_put stored c.documents) are ∙ leaves)

  refuses : (refusal : Refusal) → insert_one d documents ≡ Err refusal → left (collection_of t_c old.catalog.namespaces) ≡ Err refusal
  refuses refusal gives = ap left are ∙ ap left_of gives

pub loads : LoadExamples
unfolding framed element_spelling payload counted
loads = record {
  first = puts empty_store_state [] (nothing_there t_c) (only 5) (only 5) (only 5 ∷ []) refl refl;
  equal = refuses (holding (only 5 ∷ [])) (only 5 ∷ []) (put_there (only 5 ∷ [])) ((codes "_id", int64 (pos 5)) ∷ []) DuplicateKey refl;
  id_behind = puts empty_store_state [] (nothing_there t_c) ((codes "a", number 1) ∷ (codes "_id", number 2) ∷ []) (with_id_and_a 2 (number 1)) (with_id_and_a 2 (number 1) ∷ []) refl refl;
  no_id = refl;
  written = refl;
  dotted_collection = refl;
  no_dot = refl;
  no_database = refl;
  no_collection = refl;
  dollar = refl;
  zero_in_database = refl;
  longest = refl;
  too_long = refl;
}
