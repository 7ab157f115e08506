-- Each level of a document or an array has five bytes of its own: a length and the closing zero.
use Rattle.std.proofs.Common.{◌≡◌, ℕ, suc, ◌+◌, ◌*◌, ◌≤◌, length, length-append, refl, arith}
use Rattle.dv_value.specs.Tree.{Tree, document, array, Fields, no_fields, field, Elements, no_elements, element}
use Rattle.dv_value.specs.Spelling.{payload, fields_spelling, elements_spelling, levels, fields_levels, elements_levels}
use Rattle.dv_value.specs.Inner.Spelled.{length-document, length-array, length-element, length-element_spelling}

field_bytes : (name : _) (v : Tree) (fs : Fields) → length (fields_spelling (field name v fs)) ≡ length (payload v) + length name + 2 + length (fields_spelling fs)
unfolding fields_spelling
field_bytes name v fs = rw (length-append, length-element_spelling) refl

mutual
  pub levels_within : (v : Tree) → 5 * levels v ≤ length (payload v)
  levels_within (document fs) = omega (arith, length-document fs, fields_within fs)
  levels_within (array vs) = omega (arith, length-array vs, elements_within 0 vs)
  levels_within v = omega arith

  fields_within : (fs : Fields) → 5 * fields_levels fs ≤ length (fields_spelling fs)
  fields_within no_fields = omega arith
  fields_within (field name v fs) = omega (arith, field_bytes name v fs, levels_within v, fields_within fs)

  elements_within : (i : ℕ) (vs : Elements) → 5 * elements_levels vs ≤ length (elements_spelling i vs)
  elements_within i no_elements = omega arith
  elements_within i (element v vs) = omega (arith, length-element i v vs, levels_within v, elements_within (suc i) vs)
