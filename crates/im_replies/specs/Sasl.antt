-- What a server says of a login (RFC 6120, section 6.4).
use Rattle.std.specs.Prelude.{ℕ, List, codes}
use Rattle.xml_writer.specs.Items.{ItemOut, Whole, written_item}
use Rattle.im_login.specs.Sasl.{carrier, failure_of}

-- a message of the mechanism (section 6.4.3)
abbrev pub challenge_item : List ℕ → ItemOut
challenge_item payload = Whole (carrier (codes "challenge") payload)

abbrev pub challenge_text : List ℕ → List ℕ
challenge_text payload = written_item (challenge_item payload)

-- the end of a login that succeeds, with the last message of the mechanism (section 6.4.6)
abbrev pub success_item : List ℕ → ItemOut
success_item payload = Whole (carrier (codes "success") payload)

abbrev pub success_text : List ℕ → List ℕ
success_text payload = written_item (success_item payload)

-- the end of one that fails, by the name of its condition (sections 6.4.5 and 6.5)
abbrev pub failure_item : List ℕ → ItemOut
failure_item condition = Whole (failure_of condition)

abbrev pub failure_text : List ℕ → List ℕ
failure_text condition = written_item (failure_item condition)
