-- The normal form of an address in the profile of this project (RFC 7622 sections 3.1 to 3.4).
use Rattle.std.specs.Prelude.{◌≡◌, ℕ, ◌≤◌, not, ◌&&◌, List, [], ◌∷◌, ◌++◌, length, IfSome, Option, Some, None, Result, Ok, Err}
use Rattle.std.specs.Char.{is_ascii_uppercase}
use Rattle.std.specs.List.{AllPass}
use Rattle.im_jid.specs.declared.fault.JidFault.{JidFault}
use Rattle.im_jid.specs.Cuts.{bare_of, local_of, domain_of, resource_of}
use Rattle.im_jid.specs.Forms.{is_local_byte, local_form, domain_form, resource_form}

-- the parts in normal form, one after another, or the first refusal from the left
abbrev pub joined : Result (List ℕ) JidFault → Result (List ℕ) JidFault → Result (List ℕ) JidFault → Result (List ℕ) JidFault
joined (Err e) domain resource = Err e
joined (Ok local) (Err e) resource = Err e
joined (Ok local) (Ok domain) (Err e) = Err e
joined (Ok local) (Ok domain) (Ok resource) = Ok (local ++ domain ++ resource)

abbrev pub followed_by_at : Result (List ℕ) JidFault → Result (List ℕ) JidFault
followed_by_at (Ok local) = Ok (local ++ 64 ∷ [])
followed_by_at (Err e) = Err e

abbrev pub after_slash : Result (List ℕ) JidFault → Result (List ℕ) JidFault
after_slash (Ok resource) = Ok (47 ∷ resource)
after_slash (Err e) = Err e

-- the local part in normal form with its `@`, and nothing where there is no local part
abbrev pub local_front : Option (List ℕ) → Result (List ℕ) JidFault
local_front None = Ok []
local_front (Some given) = followed_by_at (local_form given)

-- the resource in normal form with its `/`, and nothing where there is no resource
abbrev pub resource_back : Option (List ℕ) → Result (List ℕ) JidFault
resource_back None = Ok []
resource_back (Some given) = after_slash (resource_form given)

-- The normal form of a text as an address, or why it has none. From bytes to bytes.
abbrev pub normal : List ℕ → Result (List ℕ) JidFault
normal text = joined (local_front (local_of text)) (domain_form (domain_of text)) (resource_back (resource_of text))

-- a part's bytes
abbrev pub IsPartLength : List ℕ → Type 0
IsPartLength part = (1 ≤ length part) × (length part ≤ 1023)

-- What a text in normal form has: the length of each part, and a local part of lower-case ASCII.
pub record IsAddress (text : List ℕ) : Type 0 where
  pub domain : IsPartLength (domain_of text)
  pub local : IfSome (local_of text) IsPartLength
  pub lower_local : IfSome (local_of text) (AllPass (λ b. is_local_byte b && not (is_ascii_uppercase b)))
  pub resource : IfSome (resource_of text) IsPartLength

-- The parts, put together: the local part with its `@`, and the resource with its `/`.
abbrev pub local_text : Option (List ℕ) → List ℕ
local_text None = []
local_text (Some local) = local ++ 64 ∷ []

abbrev pub resource_text : Option (List ℕ) → List ℕ
resource_text None = []
resource_text (Some resource) = 47 ∷ resource

abbrev pub bare_text : Option (List ℕ) → List ℕ → List ℕ
bare_text local domain = local_text local ++ domain

abbrev pub address_text : Option (List ℕ) → List ℕ → Option (List ℕ) → List ℕ
address_text local domain resource = local_text local ++ domain ++ resource_text resource

-- each part is its own normal form
pub record AreNormalParts (local : Option (List ℕ)) (domain : List ℕ) (resource : Option (List ℕ)) : Type 0 where
  pub local_stays : IfSome local (λ part. local_form part ≡ Ok part)
  pub domain_stays : domain_form domain ≡ Ok domain
  pub resource_stays : IfSome resource (λ part. resource_form part ≡ Ok part)

-- The parts put together are an address in normal form, and its parts are these.
pub record IsJoined (local : Option (List ℕ)) (domain : List ℕ) (resource : Option (List ℕ)) : Type 0 where
  pub normal_form : normal (address_text local domain resource) ≡ Ok (address_text local domain resource)
  pub local_is : local_of (address_text local domain resource) ≡ local
  pub domain_is : domain_of (address_text local domain resource) ≡ domain
  pub resource_is : resource_of (address_text local domain resource) ≡ resource
  pub bare_is : bare_of (address_text local domain resource) ≡ bare_text local domain
