-- Fields, some of which show other values than their own.
use Rattle.std.specs.Prelude.{◌≡◌, List, [], ◌∷◌, Option, Some, None, ⊤}
use Rattle.dv_value.specs.Tree.{Tree, string, binary, null, Field}

-- a text or a binary: no other value is in it
abbrev pub IsText : Tree → Type 0
IsText (string s) = ⊤
IsText (binary subtype bytes) = ⊤
IsText v = ⊥

-- a field with the value that covers its own, if any
abbrev pub under : Field → Option Tree → Field
under f None = f
under f (Some v) = (f.0, v)

-- fields with the values that they show; those after the last cover show their own values
abbrev pub covered : List Field → List (Option Tree) → List Field
covered [] cs = []
covered (f ∷ fs) [] = f ∷ fs
covered (f ∷ fs) (c ∷ cs) = under f c ∷ covered fs cs

-- a covered field has null as its own value
abbrev pub IsCovered : Field → Option Tree → Type 0
IsCovered f None = ⊤
IsCovered f (Some v) = f.1 ≡ null

-- each field has a cover or none
abbrev pub AreCovered : List Field → List (Option Tree) → Type 0
AreCovered [] [] = ⊤
AreCovered [] (c ∷ cs) = ⊥
AreCovered (f ∷ fs) [] = ⊥
AreCovered (f ∷ fs) (c ∷ cs) = IsCovered f c × AreCovered fs cs
