-- What is true of how a key is stored, and which key a `Shown` stands for.
use Rattle.std.specs.Prelude.{◌≤◌, ℕ, List, length, take, ⊤}
use Rattle.std.specs.Str.{IsUtf8}
use Rattle.dv_value.specs.Tree.{Tree, string, document, array, binary, fields_of, elements_of}
use Rattle.dv_order.specs.Order.{canon}
use Rattle.dv_order.specs.Key.{KeyTree, no_element, value}
use Rattle.dv_order.specs.Source.{small_value}
use Rattle.dv_order.specs.declared.shown.Shown as showns
use Rattle.dv_order.specs.declared.shown.Shown.TheVariants as shown
use Rattle.dv_order.specs.declared.source.KeySource as sources
use Rattle.dv_order.specs.declared.source.KeySource.TheVariants.{Short, Middle, Long}

-- the first bytes are a text
abbrev pub IsTextIn : ℕ → List ℕ → Type 0
IsTextIn len bytes = (len ≤ length bytes) × IsUtf8 (take len bytes)

abbrev pub IsSound : sources.KeySource → Type 0
IsSound (Short len bytes) = IsTextIn len bytes
IsSound (Middle len bytes) = IsTextIn len bytes.value
IsSound (Long len bytes) = IsTextIn len bytes.value
IsSound s = ⊤

-- the value does not fit into a few bytes
abbrev pub IsLarge : Tree → Type 0
IsLarge (string s) = ⊤
IsLarge (document fs) = ⊤
IsLarge (array vs) = ⊤
IsLarge (binary subtype bytes) = ⊤
IsLarge v = ⊥

abbrev pub shown_key : showns.Shown → KeyTree
shown_key shown.Nothing = no_element
shown_key (shown.Small s) = value (small_value s)
shown_key (shown.Text s) = value (string s.now)
shown_key (shown.Document d) = value (canon (document (fields_of d.now)))
shown_key (shown.Array vs) = value (canon (array (elements_of vs.now)))
shown_key (shown.Binary subtype bytes) = value (binary subtype bytes.now)
