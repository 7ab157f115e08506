-- How streams split, as the laws of messages say it.
use Rattle.std.proofs.Common.{◌≡◌, ℕ, ◌<◌, ◌≤◌, ◌⊎◌, List, [], ◌++◌, length, sym, ◌∙◌, refl, inl, inr}
use Rattle.dv_value.specs.Spelling.{IsBytes}
use Rattle.dv_message.specs.declared.fault.CloseFault.{CloseFault}
use Rattle.dv_message.specs.declared.fault.CloseFault.TheVariants.{NoMemory}
use Rattle.dv_message.specs.declared.front.Front as code
use Rattle.dv_message.specs.declared.front.Front.TheVariants.{Closing}
use Rattle.dv_message.specs.Bytes.{IsByteSplit}
use Rattle.dv_message.specs.Message.{Message, StreamFront, unfinished, closing, whole, stream_front, reading, closed, split_behind, split_from, split, continuation}
use Rattle.dv_message.specs.Inner.View.{front_seen}

-- a stream splits as its front shows
abbrev pub SplitByFronts : Type 0
SplitByFronts = (bytes : List ℕ) → split bytes ≡ split_from bytes (stream_front bytes) split

-- what follows a message is the last part of the bytes, and shorter
abbrev pub FollowMessages : Type 0
FollowMessages = (bytes : List ℕ) (message : Message) (following : List ℕ) → stream_front bytes ≡ whole message following → (taken : List ℕ) × (bytes ≡ taken ++ following) × (length following < length bytes)

-- splitting goes on if more bytes follow
abbrev pub GoOn : Type 0
GoOn = (bytes more : List ℕ) → split (bytes ++ more) ≡ continuation (split bytes) more

-- there are no more messages than bytes
abbrev pub AreFew : Type 0
AreFew = (bytes : List ℕ) → length (split bytes).messages ≤ length bytes

-- a stream of bytes splits into messages of bytes
abbrev pub BringBytes : Type 0
BringBytes = (bytes : List ℕ) → IsBytes bytes → IsByteSplit (split bytes)

module _ (by_front : SplitByFronts) where
  pub split_unfinished : (bytes : List ℕ) → stream_front bytes ≡ unfinished → split bytes ≡ record { messages = []; conversation = reading bytes }
  split_unfinished bytes e = by_front bytes ∙ rw e refl

  pub split_closing : (bytes : List ℕ) (fault : CloseFault) → stream_front bytes ≡ closing fault → split bytes ≡ record { messages = []; conversation = closed fault }
  split_closing bytes fault e = by_front bytes ∙ rw e refl

  pub split_whole : (bytes : List ℕ) (message : Message) (following : List ℕ) → stream_front bytes ≡ whole message following → split bytes ≡ split_behind message (split following)
  split_whole bytes message following e = by_front bytes ∙ rw e refl

-- what the code sees is the front, unless memory ran out while its sections were read
pub seen_is : (seen : code.Front) (shown : StreamFront) → (front_seen seen ≡ shown) ⊎ (seen ≡ Closing NoMemory) → (seen ≡ Closing NoMemory → ⊥) → shown ≡ front_seen seen
seen_is seen shown (inl e) other = sym e
seen_is seen shown (inr want) other = absurd (other want)
