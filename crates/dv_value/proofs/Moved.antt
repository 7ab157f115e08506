-- A document's fields one by one: what a field adds, and that this doesn't depend on its place.
use Rattle.std.proofs.Common.{◌≡◌, ◌+◌, List, [], ◌∷◌, ◌++◌, length, refl, sym, ap, ◌∙◌, arith}
use Rattle.std.specs.List.{All}
use Rattle.std.specs.Str.{IsUtf8}
use Rattle.std.proofs.lemmas.List.Elements.{All-nil, All-cons, All-head, All-tail}
use Rattle.dv_value.specs.Tree.{Field, fields_of}
use Rattle.dv_value.specs.Names.{AreNamed, has_name}
use Rattle.dv_value.specs.Spelling.{payload, spelling, fields_spelling, fields_levels, IsValue, AreFields}
use Rattle.dv_value.specs.Inner.NameLaws.{has_name-append}
use Rattle.dv_value.specs.Inner.Spelled.{length-document}
use Rattle.dv_value.specs.Inner.TreeLaws.{fields_again}
use Rattle.dv_value.specs.Inner.ByteLaws.{bytes_eq-symmetric}
use Rattle.dv_value.proofs.Rest.{fields_length-field}

-- ---- lengths

pub length-nothing : length (spelling []) ≡ 5
unfolding fields_spelling
length-nothing = length-document (fields_of [])

pub length-field : (f : Field) (fs : List Field) → length (spelling (f ∷ fs)) ≡ length (payload f.1) + length f.0 + 2 + length (spelling fs)
length-field f fs = omega (arith, fields_length-field f fs, length-document (fields_of (f ∷ fs)), length-document (fields_of fs))

pub length-moved : (before after : List Field) (f : Field) → length (spelling (f ∷ (before ++ after))) ≡ length (spelling (before ++ f ∷ after))
length-moved [] after f = refl
length-moved (g ∷ before) after f =
    omega (arith, length-moved before after f, length-field f (g ∷ (before ++ after)), length-field g (before ++ after), length-field f (before ++ after), length-field g (before ++ f ∷ after))

-- ---- levels

pub levels-moved : (before after : List Field) (f : Field) → fields_levels (fields_of (f ∷ (before ++ after))) ≡ fields_levels (fields_of (before ++ f ∷ after))
levels-moved [] after f = refl
levels-moved (g ∷ before) after f = omega (arith, levels-moved before after f)

-- ---- names

pub AreNamed-moved : (before after : List Field) (f : Field) → AreNamed (before ++ f ∷ after) → AreNamed (f ∷ (before ++ after))
AreNamed-moved [] after f named = named
AreNamed-moved (g ∷ before) after f named =
    let rest = AreNamed-moved before after f named.2 in
    grind (arith, rest, has_name-append g.0 before (f ∷ after), has_name-append g.0 before after, bytes_eq-symmetric f.0 g.0)

-- ---- validity

abbrev IsSound : Field → Type 0
IsSound f = IsUtf8 f.0 × IsValue f.1

pub each_valid : (fs : List Field) → AreFields (fields_of fs) → All (λ f. IsUtf8 f.0 × IsValue f.1) fs × AreNamed fs
each_valid [] valid = (All-nil IsSound, tt)
each_valid (f ∷ fs) valid =
    let rest = each_valid fs valid.4 in
    (All-cons IsSound f fs (valid.0, valid.3) rest.0, (valid.1, ap (has_name f.0) (sym (fields_again fs)) ∙ valid.2, rest.1))

pub all_valid : (fs : List Field) → All (λ f. IsUtf8 f.0 × IsValue f.1) fs × AreNamed fs → AreFields (fields_of fs)
all_valid [] sound = tt
all_valid (f ∷ fs) sound =
    let here = All-head IsSound f fs sound.0 in
    (here.0, sound.1.0, ap (has_name f.0) (fields_again fs) ∙ sound.1.1, here.1, all_valid fs (All-tail IsSound f fs sound.0, sound.1.2))
