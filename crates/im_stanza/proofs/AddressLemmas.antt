-- The addresses of a stanza, read and as relations.
use Rattle.std.proofs.Common.{◌≡◌, ℕ, List, Option, Some, None, Result, Ok, Err, refl, sym, ◌∙◌, ap, ◌⊎◌, inl, inr}
use Rattle.im_jid.specs.Normal.{normal}
use Rattle.im_jid.specs.declared.fault.JidFault.{JidFault}
use Rattle.im_stanza.specs.Readings.{Addresses, given_address, address_of, both_addresses, with_addresses}
use Rattle.im_stanza.specs.Stanzas.{IsAddressOf, IsBadAddress}
use Rattle.im_stanza.specs.declared.stanzas.Stanza.{Stanza}
use Rattle.im_stanza.specs.declared.fault.StanzaFault.{StanzaFault}
use Rattle.im_stanza.specs.declared.fault.StanzaFault.TheVariants.{BadFrom}

given_ok : (r : Result (List ℕ) JidFault) (address : Option (List ℕ)) → given_address r ≡ Ok address → (form : List ℕ) × (r ≡ Ok form) × (address ≡ Some form)
given_ok (Ok form) address e = (form, refl, cc)
given_ok (Err why) address e = absurd cc

given_err : (r : Result (List ℕ) JidFault) (why : JidFault) → given_address r ≡ Err why → r ≡ Err why
given_err (Ok form) why e = absurd cc
given_err (Err other) why e = cc

pub address_is : (value : Option (List ℕ)) (address : Option (List ℕ)) → address_of value ≡ Ok address → IsAddressOf value address
address_is None address e = cc
address_is (Some value) address e = given_ok (normal value) address e

pub address_read : (value : Option (List ℕ)) (address : Option (List ℕ)) → IsAddressOf value address → address_of value ≡ Ok address
address_read None address is = ap Ok (sym is)
address_read (Some value) address is = ap given_address is.1 ∙ ap Ok (sym is.2)

pub bad_is : (value : Option (List ℕ)) (why : JidFault) → address_of value ≡ Err why → IsBadAddress value
bad_is None why e = absurd cc
bad_is (Some value) why e = record { value = value; why = why; there = refl; refused = given_err (normal value) why e }

pub bad_read : (value : Option (List ℕ)) (bad : IsBadAddress value) → address_of value ≡ Err bad.why
bad_read value bad = ap address_of bad.there ∙ ap given_address bad.refused

-- what each answer of `both_addresses` tells
pub both_ok : (from to : Result (Option (List ℕ)) JidFault) (bad_to : Option (List ℕ) → StanzaFault) (both : Addresses) → both_addresses from to bad_to ≡ Ok both → (from ≡ Ok both.0) × (to ≡ Ok both.1)
both_ok (Err e) to bad_to both is = absurd cc
both_ok (Ok from) (Err e) bad_to both is = absurd cc
both_ok (Ok from) (Ok to) bad_to both is = let p : (from, to) ≡ both = cc in (λ i. Ok (p i).0, λ i. Ok (p i).1)

pub both_err : (from to : Result (Option (List ℕ)) JidFault) (bad_to : Option (List ℕ) → StanzaFault) (why : StanzaFault) → both_addresses from to bad_to ≡ Err why
    → ((e : JidFault) × (from ≡ Err e) × (why ≡ BadFrom)) ⊎ ((address : Option (List ℕ)) × (e : JidFault) × (from ≡ Ok address) × (to ≡ Err e) × (why ≡ bad_to address))
both_err (Err e) to bad_to why is = inl (e, refl, cc)
both_err (Ok from) (Err e) bad_to why is = inr (from, e, refl, refl, cc)
both_err (Ok from) (Ok to) bad_to why is = absurd cc

pub with_ok : (stanza : Addresses → Stanza) (r : Result Addresses StanzaFault) (s : Stanza) → with_addresses stanza r ≡ Ok s → (both : Addresses) × (r ≡ Ok both) × (stanza both ≡ s)
with_ok stanza (Ok both) s is = (both, refl, cc)
with_ok stanza (Err e) s is = absurd cc

pub with_err : (stanza : Addresses → Stanza) (r : Result Addresses StanzaFault) (why : StanzaFault) → with_addresses stanza r ≡ Err why → r ≡ Err why
with_err stanza (Ok both) why is = absurd cc
with_err stanza (Err e) why is = cc
