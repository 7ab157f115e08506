-- An element that is read part by part: what is read of each part, or the fault of the first part that has one.
use Rattle.std.proofs.Common.{◌≡◌, ℕ, ◌+◌, ◌-◌, Bool, List, length, Result, Ok, Err, refl}
use Rattle.dv_value.specs.declared.kind.Kind.{Kind}
use Rattle.dv_value.specs.declared.fault.BsonFault.{BsonFault}
use Rattle.dv_bson.specs.declared.fault.ReadError.{ReadError}
use Rattle.dv_bson.specs.declared.fault.ReadError.TheVariants as errors
use Rattle.dv_value.specs.Tree.{Tree, Field}
use Rattle.dv_bson.specs.Reading.{Fails, Gives, name_at, value_at, Inside}
use Rattle.dv_value.specs.Results.{◌>>=◌}
use Rattle.dv_bson.specs.Inner.Parts.{GivesPart, front_kind_at, field_at}

fails_first : {A B : Type 0} (e : ReadError) (r : Result A BsonFault) (f : A → Result B BsonFault) → Fails e r → Fails e (r >>= f)
fails_first errors.Memory r f failed = tt
fails_first (errors.Fault fault) r f failed = rw failed refl

module _ (inside : Inside) (in_array : Bool) (at : ℕ) (seen : List Field) (bytes : List ℕ) where
  pub fails_kind : (e : ReadError) → Fails e (front_kind_at at bytes) → Fails e (field_at inside in_array at seen bytes)
  unfolding field_at
  fails_kind e failed = fails_first e (front_kind_at at bytes) _ failed

  module _ (kind : Kind × List ℕ) (first : front_kind_at at bytes ≡ Ok kind) where
    pub fails_name : (e : ReadError) → Fails e (name_at in_array seen kind.1) → Fails e (field_at inside in_array at seen bytes)
    unfolding field_at
    fails_name e failed = rw first (fails_first e (name_at in_array seen kind.1) _ failed)

    module _ (name : List ℕ × List ℕ) (second : name_at in_array seen kind.1 ≡ Ok name) where
      pub fails_value : (e : ReadError) → Fails e (value_at inside kind.0 (at + (length bytes - length name.1)) name.1) → Fails e (field_at inside in_array at seen bytes)
      unfolding field_at
      fails_value e failed = rw (first, second) (fails_first e (value_at inside kind.0 (at + (length bytes - length name.1)) name.1) _ failed)

      pub gives_field : (value : Tree × List ℕ) → value_at inside kind.0 (at + (length bytes - length name.1)) name.1 ≡ Ok value → field_at inside in_array at seen bytes ≡ Ok ((name.0, value.0), value.1)
      unfolding field_at
      gives_field value third = rw (first, second, third) refl

      pub gives_element : {X : Type 0} (view : X → Tree × List ℕ) (r : Result X ReadError) → Gives view r (value_at inside kind.0 (at + (length bytes - length name.1)) name.1)
          → Gives (λ x. ((name.0, (view x).0), (view x).1)) r (field_at inside in_array at seen bytes)
      gives_element view (Ok x) given = gives_field (view x) given
      gives_element view (Err e) given = fails_value e given

      pub gives_rest : {X : Type 0} (rest : X → List ℕ) (r : Result X ReadError) → GivesPart rest (λ x. x.1) r (value_at inside kind.0 (at + (length bytes - length name.1)) name.1)
          → GivesPart rest (λ made. made.1) r (field_at inside in_array at seen bytes)
      gives_rest rest (Ok x) given = (((name.0, given.0.0), given.0.1), gives_field given.0 given.1, given.2)
      gives_rest rest (Err e) given = fails_value e given
