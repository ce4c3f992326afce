-- The table of faults, stated on bytes: no field of a state stands in it. Of several faults that a byte decides, what is too
-- long is told first, then that the bytes are no UTF-8.
use Rattle.std.specs.Prelude.{ℕ, ◌≡◌, List}
use Rattle.xml_framer.specs.declared.fault.Why.{Why}
use Rattle.xml_framer.specs.declared.fault.Why.TheVariants as why
use Rattle.xml_framer.specs.declared.limits.Limits.{Limits}
use Rattle.law_xml.specs.ByteRows.{ByteRow}
use Rattle.law_xml.specs.LongRows.{IsLong}
use Rattle.law_xml.specs.OpenRows.{OpenRow}

-- one byte more isn't too long at any offset
abbrev pub IsShortEnough : Limits → List ℕ → ℕ → Type 0
IsShortEnough limits bytes b = (n : ℕ) → ¬ (IsLong limits bytes b n)

-- A byte after these decides this fault at this offset.
pub data FaultRow : Limits → List ℕ → ℕ → ℕ → Why → Type 0 where
  too_many : (limits : Limits) (bytes : List ℕ) (b at : ℕ) (w : Why) → IsLong limits bytes b at → w ≡ why.TooLong → FaultRow limits bytes b at w
  -- by the bytes of the token alone
  of_token : (limits : Limits) (bytes : List ℕ) (b at : ℕ) (w : Why) → IsShortEnough limits bytes b → ByteRow bytes b at w → FaultRow limits bytes b at w
  -- by what stands before the token, too
  of_context : (limits : Limits) (bytes : List ℕ) (b at : ℕ) (w : Why) → IsShortEnough limits bytes b → OpenRow limits bytes b at w → FaultRow limits bytes b at w
