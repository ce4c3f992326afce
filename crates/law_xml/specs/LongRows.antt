-- What is told as too long, stated on bytes (RFC 6120, section 4.9.3.14): the bytes from the first one of an element, a
-- header's tag or a declaration on are counted. No field of a state stands in it.
use Rattle.std.specs.Prelude.{ℕ, ◌≡◌, ◌≢◌, ◌≤◌, true, List, [], ◌∷◌, ◌++◌, Option, length}
use Rattle.xml_framer.specs.States.{admits_declaration}
use Rattle.xml_framer.specs.declared.items.Item.{Item}
use Rattle.xml_framer.specs.declared.limits.Limits.{Limits}
use Rattle.xml_framer.specs.declared.states.Phase.{Phase}
use Rattle.law_xml.specs.Prefixes.{IsPrefix}
use Rattle.law_xml.specs.Streams.{position_of}

-- What begins outside elements has a limit: it is an element, a tag or a declaration. An end tag has none, nor what `<!`
-- begins, nor a `<?` where no declaration may stand.
pub record HasLimit (p : Phase) (hand : List ℕ) : Type 0 where
  pub second : ℕ
  pub rest : List ℕ
  pub hand_is : hand ≡ 60 ∷ second ∷ rest
  pub no_end : second ≢ 47
  pub no_exclamation : second ≢ 33
  pub declares : second ≡ 63 → admits_declaration p ≡ true

-- Bytes are a stream so far, and as many more of an unfinished element, tag or declaration as the limit admits: one more is
-- too many, and has the offset of the first of them.
pub record IsLong (limits : Limits) (bytes : List ℕ) (b at : ℕ) : Type 0 where
  pub items : List Item
  pub part : Option ℕ
  pub prefix : IsPrefix limits bytes items part
  pub full : limits.bytes ≤ length prefix.hand
  pub limited : HasLimit prefix.now.phase (prefix.hand ++ b ∷ [])
  pub at_is : at ≡ position_of (length prefix.done)
