-- The byte for a type and a name: the bytes that are read are the encoding of the result, and an encoding is read again.
use Rattle.std.proofs.Common.{◌≡◌, ℕ, ◌⊎◌, Bool, true, false, cond, eqb, List, [], ◌∷◌, ◌++◌, Option, Some, None, Ok, refl, ap, subst, ◌∙◌, inl, inr}
use Rattle.std.proofs.lemmas.Bool.{eqb-true, or_from, or_parts}
use Rattle.dv_value.specs.declared.kind.Kind.{Kind}
use Rattle.dv_value.specs.declared.kind.Kind.TheVariants as kinds
use Rattle.dv_value.specs.declared.fault.BsonFault.TheVariants.{BadLength}
use Rattle.dv_value.specs.Names.{has_zero}
use Rattle.dv_value.specs.Spelling.{type_byte}
use Rattle.dv_bson.specs.Reading.{kind_at, kind_of_byte, kind_or_refused, cut_at_zero, onto_name}
use Rattle.dv_bson.proofs.Steps.{refused_not}

-- ---- the type

chosen : (c : Bool) (k kind : Kind) (o : Option Kind) → cond c (Some k) o ≡ Some kind → ((c ≡ true) × (k ≡ kind)) ⊎ (o ≡ Some kind)
chosen true k kind o e = inl (refl, cc)
chosen false k kind o e = inr e

stands_for : (b m : ℕ) (k kind : Kind) (o : Option Kind) → cond (eqb b m) (Some k) o ≡ Some kind → m ≡ type_byte k → (o ≡ Some kind → b ≡ type_byte kind) → b ≡ type_byte kind
stands_for b m k kind o e is others = elim (chosen (eqb b m) k kind o e) [ inl h ↦ eqb-true b m h.0 ∙ is ∙ ap type_byte h.1 | inr h ↦ others h ]

kind_of_byte_takes : (b : ℕ) (kind : Kind) → kind_of_byte b ≡ Some kind → b ≡ type_byte kind
unfolding kind_of_byte
kind_of_byte_takes b kind e =
    stands_for b 0x02 kinds.Text kind _ e refl
    (λ e. stands_for b 0x03 kinds.Doc kind _ e refl
    (λ e. stands_for b 0x04 kinds.Array kind _ e refl
    (λ e. stands_for b 0x05 kinds.Binary kind _ e refl
    (λ e. stands_for b 0x07 kinds.ObjectId kind _ e refl
    (λ e. stands_for b 0x08 kinds.Bool kind _ e refl
    (λ e. stands_for b 0x09 kinds.Date kind _ e refl
    (λ e. stands_for b 0x0A kinds.Null kind _ e refl
    (λ e. stands_for b 0x10 kinds.Int32 kind _ e refl
    (λ e. stands_for b 0x11 kinds.Timestamp kind _ e refl
    (λ e. stands_for b 0x12 kinds.Int64 kind _ e refl
    (λ e. stands_for b 0x7F kinds.MaxKey kind _ e refl
    (λ e. stands_for b 0xFF kinds.MinKey kind _ e refl (λ e. absurd cc)))))))))))))

known : (b at : ℕ) (o : Option Kind) (kind : Kind) → kind_or_refused b at o ≡ Ok kind → o ≡ Some kind
known b at None kind e = absurd cc
known b at (Some k) kind e = cc

pub kind_takes : (b at : ℕ) (kind : Kind) → kind_at b at ≡ Ok kind → b ≡ type_byte kind
unfolding kind_at
kind_takes b at kind e = kind_of_byte_takes b kind (known b at (kind_of_byte b) kind (refused_not (eqb b 0) BadLength _ kind e).1)

pub kind_again : (kind : Kind) (at : ℕ) → kind_at (type_byte kind) at ≡ Ok kind
unfolding kind_at kind_of_byte
kind_again kinds.Text at = refl
kind_again kinds.Doc at = refl
kind_again kinds.Array at = refl
kind_again kinds.Binary at = refl
kind_again kinds.ObjectId at = refl
kind_again kinds.Bool at = refl
kind_again kinds.Date at = refl
kind_again kinds.Null at = refl
kind_again kinds.Int32 at = refl
kind_again kinds.Timestamp at = refl
kind_again kinds.Int64 at = refl
kind_again kinds.MinKey at = refl
kind_again kinds.MaxKey at = refl

-- ---- the bytes before the first zero

abbrev IsCut : List ℕ → List ℕ × List ℕ → Type 0
IsCut bytes cut = (bytes ≡ cut.0 ++ 0 ∷ cut.1) × (has_zero cut.0 ≡ false)

cut_more : (b : ℕ) (bytes : List ℕ) (c : Bool) (o : Option (List ℕ × List ℕ)) (cut : List ℕ × List ℕ) → eqb b 0 ≡ c → ((x : List ℕ × List ℕ) → o ≡ Some x → IsCut bytes x) → cond c (Some ([], bytes)) (onto_name b o) ≡ Some cut → IsCut (b ∷ bytes) cut
cut_more b bytes true o cut t behind e =
    let is : ([], bytes) ≡ cut = cc in
    subst (λ (x : List ℕ × List ℕ). IsCut (b ∷ bytes) x) is (ap (λ (n : ℕ). n ∷ bytes) (eqb-true b 0 t), refl)
cut_more b bytes false None cut t behind e = absurd cc
cut_more b bytes false (Some x) cut t behind e =
    let is : (b ∷ x.0, x.1) ≡ cut = cc in
    let h = behind x refl in
    subst (λ (x : List ℕ × List ℕ). IsCut (b ∷ bytes) x) is (ap (λ (t : List ℕ). b ∷ t) h.0, or_from (eqb b 0) (has_zero x.0) t h.1)

pub cut_takes : (bytes : List ℕ) (cut : List ℕ × List ℕ) → cut_at_zero bytes ≡ Some cut → (bytes ≡ cut.0 ++ 0 ∷ cut.1) × (has_zero cut.0 ≡ false)
unfolding cut_at_zero
cut_takes [] cut e = absurd cc
cut_takes (b ∷ bytes) cut e = cut_more b bytes (eqb b 0) (cut_at_zero bytes) cut refl (λ x h. cut_takes bytes x h) e

pub cut_again : (name rest : List ℕ) → has_zero name ≡ false → cut_at_zero (name ++ 0 ∷ rest) ≡ Some (name, rest)
unfolding cut_at_zero
cut_again [] rest h = refl
cut_again (b ∷ bs) rest h =
    let p = or_parts (eqb b 0) (has_zero bs) h in
    rw (p.0, cut_again bs rest p.1) refl
