-- What sections in memory stand for.
use Rattle.std.specs.Prelude.{◌≡◌, ℕ, zero, suc, List, [], ◌∷◌, length, map, Option, Some, None, Result, Ok, Err, ⊤}
use Rattle.dv_message.specs.declared.fault.CloseFault.{CloseFault}
use Rattle.dv_message.specs.declared.fault.CloseFault.TheVariants.{BadLength, BadOpCode, BadFlag, Checksum, BadSection, NoMemory}
use Rattle.dv_message.specs.declared.framed.Framed.{Framed}
use Rattle.dv_message.specs.declared.sections.Section as declared
use Rattle.dv_message.specs.declared.sections.Section.TheVariants.{Body, Named}
use Rattle.dv_message.specs.declared.sections.Sections.{Sections}
use Rattle.dv_message.specs.declared.sections.Sections.TheVariants.{One, Several}
use Rattle.dv_message.specs.Sections.{Section, body, named, section_frame}

-- the documents that lengths frame in the bytes, one after the other, up to where there is none; as many steps as there are bytes
-- are enough
abbrev pub frames_from : Option (List ℕ × List ℕ) → (List ℕ → List (List ℕ)) → List (List ℕ)
frames_from None others = []
frames_from (Some frame) others = frame.0 ∷ others frame.1

unfoldable pub frames_within : ℕ → List ℕ → List (List ℕ)
frames_within zero bytes = []
frames_within (suc steps) bytes = frames_from (section_frame bytes) (frames_within steps)

unfoldable pub frames_in : List ℕ → List (List ℕ)
frames_in bytes = frames_within (length bytes) bytes

abbrev pub framed_seen : Framed → List (List ℕ)
framed_seen framed = frames_in framed.bytes.now

abbrev pub section_seen : declared.Section → Section
section_seen (Body document) = body document.now
section_seen (Named name documents) = named name.now (framed_seen documents)

abbrev pub sections_seen : Sections → List Section
sections_seen (One section) = section_seen section ∷ []
sections_seen (Several sections) = map section_seen sections.items

-- there is no such thing, or memory ran out in looking for it
abbrev pub MissedBy : {Y : Type 0} → CloseFault → Option Y → Type 0
MissedBy BadSection found = found ≡ None
MissedBy NoMemory found = ⊤
MissedBy BadLength found = ⊥
MissedBy BadOpCode found = ⊥
MissedBy BadFlag found = ⊥
MissedBy Checksum found = ⊥

-- what was found is this; or it was missed
abbrev pub FoundAs : {X Y : Type 0} → (X → Y) → Result X CloseFault → Option Y → Type 0
FoundAs view (Ok x) found = found ≡ Some (view x)
FoundAs view (Err fault) found = MissedBy fault found
