-- The bare address of an account leads to it.
use Rattle.std.proofs.Common.{◌≡◌, ℕ, zero, suc, List, [], ◌∷◌, ◌++◌, Some, None, Ok, slice_get, bytes_eq, refl, sym, ap, subst, ◌∙◌, inl, inr, arith}
use Rattle.std.proofs.lemmas.Bool.{cases_Bool}
use Rattle.std.proofs.lemmas.List.{append-nil, append_assoc}
use Rattle.std.proofs.lemmas.Option.{none-some, same_Some}
use Rattle.base_lemmas.proofs.Bytes.{bytes_eq-from_same, bytes_eq-self, same-from_bytes_eq}
use Rattle.base_io.specs.Names.{position_of}
use Rattle.im_jid.proofs.NormalAgain.{are_joined}
use Rattle.im_jid.specs.Cuts.{domain_of, local_of, resource_of}
use Rattle.im_jid.specs.Forms.{domain_form}
use Rattle.im_jid.specs.Normal.{address_text}
use Rattle.srv_login.proofs.AccountLists.{accounts_right}
use Rattle.srv_login.specs.Accounts.{accounts_fault, bare_text, names_of}
use Rattle.srv_login.specs.declared.account.Account.{Account}
use Rattle.srv_route.specs.Destinations.{Bare, destination_at}

-- names of accounts differ
abbrev Differ : List Account → Type 0
Differ accounts = (i j : ℕ) (a b : Account) → slice_get accounts i ≡ Some a → slice_get accounts j ≡ Some b → a.name ≡ b.name → i ≡ j

own_position : (accounts : List Account) (i : ℕ) (a : Account) → Differ accounts → slice_get accounts i ≡ Some a → position_of a.name (names_of accounts) ≡ Some i
own_position [] i a differ there = absurd (none-some a there)
own_position (x ∷ accounts) zero a differ there = rw (bytes_eq-from_same a.name x.name (ap (λ (y : Account). y.name) (sym (same_Some x a there)))) refl
own_position (x ∷ accounts) (suc i) a differ there =
    elim (cases_Bool (bytes_eq a.name x.name)) [
      | inl same ↦ absurd (omega (arith, differ (suc i) 0 a x there refl (same-from_bytes_eq a.name x.name same)))
      | inr other ↦
          let rest = own_position accounts i a (λ j k b c here also e. omega (arith, differ (suc j) (suc k) b c here also e)) there in
          rw (other, rest) refl
    ]

own_text : (name domain : List ℕ) → address_text (Some name) domain None ≡ bare_text name domain
own_text name domain = append-nil ((name ++ 64 ∷ []) ++ domain) ∙ append_assoc name (64 ∷ []) domain

pub own_address : (domain : List ℕ) (accounts : List Account) (a : Account) (i : ℕ) → domain_form domain ≡ Ok domain → accounts_fault accounts ≡ None → slice_get accounts i ≡ Some a →
    destination_at domain accounts (bare_text a.name domain) ≡ Bare i
own_address domain accounts a i normal right there =
    let are = (accounts_right accounts).0 right in
    let joined = are_joined (Some a.name) domain None (record { local_stays = are.names i a there; domain_stays = normal; resource_stays = tt }) in
    let position = own_position accounts i a are.differ there in
    let text = own_text a.name domain in
    let domain_is : domain_of (bare_text a.name domain) ≡ domain = subst (λ t. domain_of t ≡ domain) text joined.domain_is in
    let local_is : local_of (bare_text a.name domain) ≡ Some a.name = subst (λ t. local_of t ≡ Some a.name) text joined.local_is in
    let resource_is : resource_of (bare_text a.name domain) ≡ None = subst (λ t. resource_of t ≡ None) text joined.resource_is in
    rw (domain_is, local_is, resource_is, bytes_eq-self domain, position) refl
