-- A session's `previd` (XEP-0198 section 5): its number in 16 hexadecimal digits, in lower case. The standard leaves
-- its form to the server, and asks that it name one session.
use Rattle.std.specs.Prelude.{ℕ, List}
use Rattle.base_lemmas.specs.Hexadecimal.{hex16_of}

abbrev pub previd_of : ℕ → List ℕ
previd_of n = hex16_of n
