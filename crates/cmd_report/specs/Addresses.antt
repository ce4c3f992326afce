-- The addresses (RFC 7622) and ids that a schedule's names make. A device's name is its resource.
use Rattle.std.specs.Prelude.{ℕ, List, ◌∷◌, ◌++◌, codes}
use Rattle.std.specs.Fmt.{decimal}

-- the one domain
abbrev pub domain : List ℕ
domain = codes "chat.example"

abbrev pub bare_address : List ℕ → List ℕ
bare_address account = account ++ 64 ∷ domain

abbrev pub full_address : List ℕ → List ℕ → List ℕ
full_address account device = bare_address account ++ 47 ∷ device

-- the origin id (XEP-0359) of the n-th message of a device in an epoch
abbrev pub origin_of : List ℕ → ℕ → ℕ → List ℕ
origin_of device epoch n = device ++ 46 ∷ decimal epoch ++ 46 ∷ decimal n
