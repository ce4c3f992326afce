-- Names of schedules are parts of addresses, and their passwords can be used.
use Rattle.std.proofs.Common.{◌≡◌, ◌≤◌, ◌==◌, ℕ, Bool, true, false, List, [], ◌∷◌, ◌++◌, length, map, Some, None, Ok, ap, refl, subst, append_assoc, ◌∙◌, arith}
use Rattle.std.proofs.lemmas.Bool.{and_from, and_parts, le-leb, leb-true, lt-ltb}
use Rattle.std.proofs.lemmas.Bool.Decides.{nat_tests}
use Rattle.std.proofs.lemmas.List.{append-nil}
use Rattle.std.specs.Prelude.{IsTrue, ◌&&◌, ◌||◌, nat_le, nat_lt}
use Rattle.std.specs.Char.{to_ascii_lowercase}
use Rattle.std.specs.List.{list_all}
use Rattle.cl_core.specs.Making.{account_of, fresh, made}
use Rattle.cmd_network.specs.Starting.{password_of}
use Rattle.im_jid.proofs.NormalAgain.{are_joined}
use Rattle.im_jid.proofs.PlainParts.{domain_form-plain, resource_form-printable}
use Rattle.im_jid.specs.Cuts.{local_of, resource_of}
use Rattle.im_jid.specs.Forms.{domain_form, fitting, is_local_byte, local_form, resource_form}
use Rattle.im_jid.specs.Normal.{address_text, normal}
use Rattle.im_jid.specs.Plain.{is_printable}
use Rattle.cmd_report.specs.Addresses.{bare_address, domain}
use Rattle.cmd_schedule.specs.Grammar.{is_digit, is_lower, is_name}
use Rattle.auth_scram.specs.Exchange.{is_plain, is_printable_ascii}

-- ---- the bytes of a name

abbrev is_name_byte : ℕ → Bool
is_name_byte b = is_lower b || is_digit b

record AreNameBytes (name : List ℕ) : Type 0 where
  each : list_all is_name_byte name ≡ true
  some : (length name == 0) ≡ false
  few : length name ≤ 32

true_or : (x y : Bool) → x ≡ true → (x || y) ≡ true
true_or true y is = refl
true_or false y is = absurd (cc is)

name_bytes : (name : List ℕ) → is_name name ≡ true → AreNameBytes name
name_bytes [] is = absurd (cc is)
name_bytes (c ∷ cs) is =
    let a = and_parts (is_lower c && nat_le (length cs) 31) (list_all is_name_byte cs) is in
    let b = and_parts (is_lower c) (nat_le (length cs) 31) a.0 in
    let short : length cs ≤ 31 = leb-true (length cs) 31 b.1 in
    record {
      each = and_from (is_name_byte c) (list_all is_name_byte cs) (true_or (is_lower c) (is_digit c) b.0) a.1;
      some = grind (arith, nat_tests);
      few = omega (arith, short);
    }

record IsPlainByte (b : ℕ) : Type 0 where
  local : is_local_byte b ≡ true
  lower : to_ascii_lowercase b ≡ b
  printable : is_printable b ≡ true
  ascii : is_printable_ascii b ≡ true

plain_byte : (b : ℕ) → is_name_byte b ≡ true → IsPlainByte b
plain_byte b is = record {
  local = grind (arith, nat_tests);
  lower = grind (arith, nat_tests);
  printable = grind (arith, nat_tests);
  ascii = grind (arith, nat_tests);
}

record ArePlain (name : List ℕ) : Type 0 where
  local : list_all is_local_byte name ≡ true
  lower : map to_ascii_lowercase name ≡ name
  printable : list_all is_printable name ≡ true
  ascii : list_all is_printable_ascii name ≡ true

plain_bytes : (name : List ℕ) → list_all is_name_byte name ≡ true → ArePlain name
plain_bytes [] all = record { local = refl; lower = refl; printable = refl; ascii = refl }
plain_bytes (b ∷ name) all =
    let parts = and_parts (is_name_byte b) (list_all is_name_byte name) all in
    let one = plain_byte b parts.0 in
    let rest = plain_bytes name parts.1 in
    record {
      local = and_from (is_local_byte b) (list_all is_local_byte name) one.local rest.local;
      lower = ap (λ c. c ∷ map to_ascii_lowercase name) one.lower ∙ ap (λ cs. b ∷ cs) rest.lower;
      printable = and_from (is_printable b) (list_all is_printable name) one.printable rest.printable;
      ascii = and_from (is_printable_ascii b) (list_all is_printable_ascii name) one.ascii rest.ascii;
    }

fits : (part : List ℕ) → length part ≤ 32 → fitting part ≡ Ok part
fits part few = (let small : nat_le (length part) 1023 ≡ true = le-leb (length part) 1023 (omega (arith, few)) in rw small refl)

-- ---- a name as a part of an address

-- as a local part (RFC 7622, section 3.3)
pub local_stays : (name : List ℕ) → is_name name ≡ true → local_form name ≡ Ok name
local_stays name is =
    let bytes = name_bytes name is in
    let plain = plain_bytes name bytes.each in
    rw (bytes.some, plain.local, plain.lower) (fits name bytes.few)

-- as a resource (RFC 7622, section 3.4)
pub resource_stays : (name : List ℕ) → is_name name ≡ true → resource_form name ≡ Ok name
resource_stays name is =
    let bytes = name_bytes name is in
    resource_form-printable name bytes.some (plain_bytes name bytes.each).printable ∙ fits name bytes.few

-- the domain (RFC 7622, section 3.2)
pub domain_stays : domain_form domain ≡ Ok domain
domain_stays = domain_form-plain domain refl refl

-- an account's bare address, and its parts
record IsAddressOf (account : List ℕ) (text : List ℕ) : Type 0 where
  normal_form : normal text ≡ Ok text
  local_is : local_of text ≡ Some account
  resource_is : resource_of text ≡ None

joined_address : (account : List ℕ) → is_name account ≡ true → IsAddressOf account (address_text (Some account) domain None)
joined_address account is =
    let whole = are_joined (Some account) domain None (record { local_stays = local_stays account is; domain_stays = domain_stays; resource_stays = tt }) in
    record { normal_form = whole.normal_form; local_is = whole.local_is; resource_is = whole.resource_is }

spelled_address : (account : List ℕ) → address_text (Some account) domain None ≡ bare_address account
spelled_address account = append-nil ((account ++ 64 ∷ []) ++ domain) ∙ append_assoc account (64 ∷ []) domain

address : (account : List ℕ) → is_name account ≡ true → IsAddressOf account (bare_address account)
address account is = subst (IsAddressOf account) (spelled_address account) (joined_address account is)

pub normal_address : (account : List ℕ) → IsTrue (is_name account) → normal (bare_address account) ≡ Ok (bare_address account)
normal_address account is = (address account is).normal_form

-- ---- passwords

pub plain_password : (account : List ℕ) → IsTrue (is_name account) → is_plain (password_of account) ≡ true
plain_password account is =
    let plain = plain_bytes account (name_bytes account is).each in
    and_from (nat_lt 0 (length (password_of account))) (list_all is_printable_ascii (password_of account)) (lt-ltb 0 (length (password_of account)) (omega arith)) plain.ascii

-- ---- clients

pub client_made : (name account : List ℕ) → IsTrue (is_name name) → IsTrue (is_name account)
    → made (bare_address account) (password_of account) name ≡ Ok (fresh (account_of (bare_address account) account (password_of account) name))
client_made name account named owned =
    let of = address account owned in
    rw (of.local_is, of.resource_is, plain_password account owned, resource_stays name named)
