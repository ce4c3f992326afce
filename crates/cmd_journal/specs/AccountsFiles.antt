-- Accounts files: what one says, and its text.
use Rattle.std.specs.Prelude.{ℕ, nat_le, Bool, ◌&&◌, false, not, List, [], ◌∷◌, ◌++◌, IsTrue, length, codes, Result, Ok, Err}
use Rattle.std.specs.Fmt.{decimal}
use Rattle.std.specs.List.{flat_map, list_all}
use Rattle.std.specs.Str.{bytes_eq}
use Rattle.base_io.specs.Names.{is_among}
use Rattle.im_jid.specs.Forms.{domain_form, local_form}
use Rattle.im_jid.specs.declared.fault.JidFault.{JidFault}
use Rattle.cmd_journal.specs.declared.accounts_file.Registration.{Registration}
use Rattle.cmd_schedule.specs.Grammar.{may_keep}
use Rattle.cmd_schedule.specs.declared.schedule.Version.{Version}
use Rattle.cmd_schedule.specs.declared.schedule.Version.TheVariants.{One, Two}

-- the form of the file, the domain, and the accounts in order
pub record AccountsView : Type 0 where
  pub version : Version
  pub domain : List ℕ
  pub accounts : List Registration

abbrev pub is_form : Result (List ℕ) JidFault → List ℕ → Bool
is_form (Ok form) text = bytes_eq form text
is_form (Err fault) text = false

-- a domain in normal form (RFC 7622, section 3.2)
abbrev pub is_domain : List ℕ → Bool
is_domain name = is_form (domain_form name) name

-- a local part in normal form (RFC 7622, section 3.3)
abbrev pub is_account_name : List ℕ → Bool
is_account_name name = is_form (local_form name) name

-- printable ASCII, and no space
abbrev pub is_password_byte : ℕ → Bool
is_password_byte b = nat_le 33 b && nat_le b 126

-- 1 to 100 such characters
abbrev pub is_password : List ℕ → Bool
is_password text = nat_le 1 (length text) && nat_le (length text) 100 && list_all is_password_byte text

-- an account that may stand behind those with these names
abbrev pub may_register : List (List ℕ) → Registration → Bool
may_register above r = is_account_name r.name && not (is_among r.name above) && is_password r.password

-- each account may stand where it stands
abbrev pub AreRegistered : List (List ℕ) → List Registration → Type 0
AreRegistered above [] = Unit {0}
AreRegistered above (r ∷ rs) = IsTrue (may_register above r) × AreRegistered (above ++ r.name ∷ []) rs

pub record IsAccountsFile (file : AccountsView) : Type 0 where
  pub keeps : IsTrue (may_keep file.version)
  pub domain : IsTrue (is_domain file.domain)
  pub accounts : AreRegistered [] file.accounts

-- ---- its text: each line is ended by LF

abbrev pub registration_text : Registration → List ℕ
registration_text r = codes "account " ++ r.name ++ 32 ∷ r.password

abbrev pub registrations_text : List Registration → List ℕ
registrations_text rs = flat_map (λ r. registration_text r ++ 10 ∷ []) rs

abbrev pub domain_text : List ℕ → List ℕ
domain_text domain = codes "domain " ++ domain

-- the lines above the accounts
abbrev pub preamble_text : Version → List ℕ → List ℕ
preamble_text One domain = codes "xmpp-accounts 1" ++ 10 ∷ (domain_text domain ++ 10 ∷ [])
preamble_text (Two keep) domain = codes "xmpp-accounts 2" ++ 10 ∷ (domain_text domain ++ 10 ∷ (codes "keep " ++ decimal keep ++ 10 ∷ []))

abbrev pub accounts_text : AccountsView → List ℕ
accounts_text file = preamble_text file.version file.domain ++ registrations_text file.accounts
