-- What ids and addresses of this project's ends tell: numbers, and the name of an account. Other texts tell something too,
-- of which nothing is said.
use Rattle.std.specs.Prelude.{ℕ, ◌==◌, Bool, false, List, Option, Some, None, drop, codes, unwrap_or}
use Rattle.std.specs.List.{after_first, before_first}
use Rattle.std.specs.Str.{bytes_eq}
use Rattle.std.specs.Str.Parse.{digits_value}
use Rattle.mam_archive.specs.Ids.{number_read}

abbrev pub is_dot : ℕ → Bool
is_dot c = c == 46

abbrev pub is_at : ℕ → Bool
is_at c = c == 64

-- the number that decimal digits spell
abbrev pub number_of_digits : List ℕ → ℕ
number_of_digits digits = digits_value 10 digits

-- an origin id has the epoch behind its first dot, and the number of the submission behind its second
abbrev pub epoch_of_id : List ℕ → ℕ
epoch_of_id id = number_of_digits (before_first is_dot (after_first is_dot id))

abbrev pub number_of_id : List ℕ → ℕ
number_of_id id = number_of_digits (after_first is_dot (after_first is_dot id))

-- the id of a query has its number behind one letter
abbrev pub query_of_id : List ℕ → ℕ
query_of_id id = number_of_digits (drop 1 id)

-- the number of the entry whose id a text is
abbrev pub entry_of_id : List ℕ → ℕ
entry_of_id id = unwrap_or (number_read id) 0

-- the local part of a bare address (RFC 7622, section 3.3)
abbrev pub local_part_of : List ℕ → List ℕ
local_part_of address = before_first is_at address

-- the type is that of an error
abbrev pub is_error : Option (List ℕ) → Bool
is_error None = false
is_error (Some kind) = bytes_eq kind (codes "error")
