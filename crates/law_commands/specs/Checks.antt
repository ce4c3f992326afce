-- What is told of one direction of a stream, in the grammar's words (RFC 6120, sections 4 and 11). No machine stands here: which
-- bytes are a stream of which items is `StreamTo`, and which byte decides which fault is `FaultRow`.
use Rattle.std.specs.Prelude.{ℕ, ◌≡◌, List, ◌∷◌, ◌++◌, Option, Some, None}
use Rattle.std.specs.List.{AllByRecursion}
use Rattle.law_xml.specs.AllRows.{FaultRow}
use Rattle.law_xml.specs.Prefixes.{IsPrefix}
use Rattle.law_xml.specs.StreamLimits.{IsStreamWithin}
use Rattle.law_xml.specs.Streams.{InForce, StreamTo}
use Rattle.xml_check.specs.Checked.{Told, sound_with, told_items, wrong_with}
use Rattle.xml_check.specs.Lines.{end_line, fault_line, strange_at, truncated_line, why_name}
use Rattle.xml_framer.specs.declared.fault.Why.{Why}
use Rattle.xml_framer.specs.declared.items.Item.{Item}
use Rattle.xml_framer.specs.declared.limits.Limits.{Limits}

-- no byte of these decides a fault
abbrev pub AreFaultless : Limits → List ℕ → Type 0
AreFaultless limits bytes = (front rest : List ℕ) (b at : ℕ) (w : Why) → bytes ≡ front ++ b ∷ rest → ¬ (FaultRow limits front b at w)

-- the first byte that decides a fault, and the items that the bytes before it are a stream of
pub record HasFirstFault (limits : Limits) (bytes : List ℕ) (items : List Item) (at : ℕ) (w : Why) : Type 0 where
  pub front : List ℕ
  pub byte : ℕ
  pub rest : List ℕ
  pub bytes_are : bytes ≡ front ++ byte ∷ rest
  pub faultless : AreFaultless limits front
  pub part : Option ℕ
  pub prefix : IsPrefix limits front items part
  pub decided : FaultRow limits front byte at w

-- What is told of bytes. Of a stream within the limits: its items and `end`. Of a stream that ends in the middle of an item:
-- the items before that one, and where it begins. Of other bytes: the items before the first fault, and the fault. Where a
-- header opens no stream between a client and its server, `told_items` tells that in place of it and of all that follows.
pub data IsToldOf : Limits → List ℕ → Told → Type 0 where
  whole : (limits : Limits) (bytes : List ℕ) (t : Told) (now : InForce) (items : List Item) (stream : StreamTo now bytes items)
      → IsStreamWithin limits now bytes items stream → t ≡ told_items items (sound_with end_line) → IsToldOf limits bytes t
  unfinished : (limits : Limits) (bytes : List ℕ) (t : Told) (items : List Item) (at : ℕ)
      → AreFaultless limits bytes → IsPrefix limits bytes items (Some at) → t ≡ told_items items (wrong_with (truncated_line at)) → IsToldOf limits bytes t
  faulty : (limits : Limits) (bytes : List ℕ) (t : Told) (items : List Item) (at : ℕ) (w : Why)
      → HasFirstFault limits bytes items at w → t ≡ told_items items (wrong_with (fault_line at (why_name w))) → IsToldOf limits bytes t

-- bytes are a stream within the limits, and each of its headers opens a stream between a client and its server
abbrev pub IsClientStream : Limits → List ℕ → Type 0
IsClientStream limits bytes =
    (now : InForce) × (items : List Item) × (stream : StreamTo now bytes items) × IsStreamWithin limits now bytes items stream
    × AllByRecursion (λ i. strange_at i ≡ None) items
