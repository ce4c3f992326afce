-- What a text's characters are, however it holds them.
use Rattle.std.specs.Prelude.{ℕ, List, string_bytes}
use Rattle.std.specs.Rc.{rc_str_bytes}
use Rattle.base_io.specs.declared.text.Characters.{Characters}
use Rattle.base_io.specs.declared.text.Characters.TheVariants.{Owned, Shared, Short}

abbrev pub bytes_of : Characters → List ℕ
bytes_of (Short s) = s.bytes
bytes_of (Owned s) = string_bytes s
bytes_of (Shared s) = rc_str_bytes s
