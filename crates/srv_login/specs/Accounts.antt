-- The accounts of a server, and how one is found by its name.
use Rattle.std.specs.Prelude.{◌≡◌, ℕ, ◌+◌, ◌^◌, ◌<◌, ◌≤◌, ◌==◌, Bool, false, not, List, [], ◌∷◌, ◌++◌, length, map, slice_get, Option, Some, None, Result, Ok, Err, if◌then◌else◌}
use Rattle.std.specs.Option.{option_or}
use Rattle.std.specs.Str.{bytes_eq}
use Rattle.base_io.specs.Names.{is_among}
use Rattle.im_jid.specs.Forms.{local_form}
use Rattle.im_jid.specs.declared.fault.JidFault.{JidFault}
use Rattle.srv_login.specs.declared.account.Account.{Account}
use Rattle.srv_login.specs.declared.accounts.Found.{Found}
use Rattle.srv_login.specs.declared.accounts_fault.AccountsFault.{AccountsFault}
use Rattle.srv_login.specs.declared.accounts_fault.AccountsFault.TheVariants.{BadName, Twice, NoIterations}
use Rattle.auth_scram.specs.Exchange.{CredentialsView, credentials_of, salt_of}

-- the bare address of an account (RFC 7622, section 3.1)
abbrev pub bare_text : List ℕ → List ℕ → List ℕ
bare_text name domain = name ++ 64 ∷ domain

-- the account of a name and a password at a domain: 4,096 iterations, and the salt of its bare address
abbrev pub account_of : List ℕ → List ℕ → List ℕ → Account
account_of name domain password = record {
  name = name;
  credentials = credentials_of password (salt_of (bare_text name domain)) 4096;
}

abbrev pub names_of : List Account → List (List ℕ)
names_of accounts = map (λ (account : Account). account.name) accounts

-- ---- an account by its name

-- its place, and what the server keeps of its password
pub record FoundView : Type 0 where
  pub position : ℕ
  pub credentials : CredentialsView

-- the first account of that name among those that begin at a place
abbrev pub account_from : ℕ → List ℕ → List Account → Option FoundView
account_from position name [] = None
account_from position name (a ∷ more) =
    if bytes_eq name a.name then Some (record { position = position; credentials = a.credentials }) else account_from (position + 1) name more

abbrev pub account_named : List ℕ → List Account → Option FoundView
account_named name accounts = account_from 0 name accounts

abbrev pub found_view : Found → FoundView
found_view found = record { position = found.position; credentials = found.credentials.now }

-- ---- what is wrong with a list of accounts

abbrev pub is_form : Result (List ℕ) JidFault → List ℕ → Bool
is_form (Ok form) text = bytes_eq form text
is_form (Err fault) text = false

-- a local part in normal form (RFC 7622, section 3.3)
abbrev pub is_normal_local : List ℕ → Bool
is_normal_local name = is_form (local_form name) name

-- what is wrong with an account behind others, where something is
abbrev pub fault_of : List Account → Account → Option AccountsFault
fault_of before a =
    if not (is_normal_local a.name) then Some (BadName (length before))
    else (if is_among a.name (names_of before) then Some (Twice (length before))
    else (if a.credentials.iterations == 0 then Some (NoIterations (length before)) else None))

-- the first that is wrong behind others
abbrev pub first_fault : List Account → List Account → Option AccountsFault
first_fault before [] = None
first_fault before (a ∷ more) = option_or (fault_of before a) (first_fault (before ++ a ∷ []) more)

abbrev pub accounts_fault : List Account → Option AccountsFault
accounts_fault accounts = first_fault [] accounts

-- The same as a relation: each name is a local part in normal form, no two accounts have one name, and each account
-- counts an iteration.
pub record AreAccounts (accounts : List Account) : Type 0 where
  pub names : (i : ℕ) (a : Account) → slice_get accounts i ≡ Some a → local_form a.name ≡ Ok a.name
  pub differ : (i j : ℕ) (a b : Account) → slice_get accounts i ≡ Some a → slice_get accounts j ≡ Some b → a.name ≡ b.name → i ≡ j
  pub counted : (i : ℕ) (a : Account) → slice_get accounts i ≡ Some a → 1 ≤ a.credentials.iterations

-- ---- how accounts are kept

-- the index has their names, none of them is wrong, and there are few enough that a place has 32 bits
pub record IsIndexed (index : List (List ℕ)) (accounts : List Account) : Type 0 where
  pub named : index ≡ names_of accounts
  pub right : accounts_fault accounts ≡ None
  pub few : length accounts < 2 ^ 32
