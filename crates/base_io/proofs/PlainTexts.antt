-- Bytes of ASCII are UTF-8.
use Rattle.std.proofs.Common.{ℕ, List}
use Rattle.std.proofs.lemmas.Str.{IsUtf8-from_ascii}
use Rattle.std.specs.Str.{IsAscii, IsUtf8}

pub ascii_is_text : (bs : List ℕ) → IsAscii bs → IsUtf8 bs
ascii_is_text bs h = IsUtf8-from_ascii bs h
