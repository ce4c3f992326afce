-- What bytes are that end anywhere in a stream: a stream so far, and what has begun after it.
use Rattle.std.specs.Prelude.{ℕ, ◌≡◌, ◌<◌, ◌≤◌, ◌^◌, ◌⊎◌, if◌then◌else◌, List, [], ◌∷◌, ◌++◌, length, Option, Some, None}
use Rattle.xml_tokens.specs.Tags.{is_empty}
use Rattle.xml_framer.specs.declared.items.Item.{Item}
use Rattle.law_xml.specs.StreamLimits.{IsStreamWithin}
use Rattle.law_xml.specs.Streams.{InForce, StreamTo, position_of}
use Rattle.xml_framer.specs.declared.limits.Limits.{Limits}

-- What is unfinished begins with `<`, or with the first byte of a character that is no ASCII. So no white space stands
-- before it.
abbrev pub BeginsSo : List ℕ → Type 0
BeginsSo [] = Unit {0}
BeginsSo (b ∷ bs) = (b ≡ 60) ⊎ (128 ≤ b)

-- Bytes are a stream of these items within the limits, and then what is unfinished, which begins at this offset. No more of
-- them are a stream within the limits. A limit on bytes is a number of 64 bits.
pub record IsPrefix (limits : Limits) (bytes : List ℕ) (items : List Item) (part : Option ℕ) : Type 0 where
  pub done : List ℕ
  pub hand : List ℕ
  pub now : InForce
  pub bytes_are : bytes ≡ done ++ hand
  pub stream : StreamTo now done items
  pub within : limits.bytes < 2 ^ 64 → IsStreamWithin limits now done items stream
  pub begins : BeginsSo hand
  pub longest : (other : InForce) (front rest : List ℕ) (said : List Item) (more : StreamTo other front said) → bytes ≡ front ++ rest → IsStreamWithin limits other front said more
      → length front ≤ length done
  pub part_is : part ≡ (if is_empty hand then None else Some (position_of (length done)))
