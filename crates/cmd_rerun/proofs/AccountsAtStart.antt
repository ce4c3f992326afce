-- Nothing is wrong with what a server of an accounts file begins with.
use Rattle.std.proofs.Common.{◌≡◌, ◌≤◌, ◌==◌, ℕ, Bool, true, false, cond, not, List, [], ◌∷◌, ◌++◌, length, map, Option, Some, None, Result, Ok, Err, ap, refl, subst, sym, ◌∙◌, arith}
use Rattle.std.proofs.lemmas.Bool.{and_from, and_parts, le-leb, leb-true, lt-ltb}
use Rattle.std.proofs.lemmas.List.{length-map, map_push}
use Rattle.std.specs.Prelude.{IsTrue, ◌&&◌, nat_le, nat_lt}
use Rattle.std.specs.List.{list_all}
use Rattle.std.specs.Option.{option_or}
use Rattle.base_io.specs.Names.{is_among}
use Rattle.im_jid.specs.Forms.{domain_form, local_form}
use Rattle.im_jid.specs.declared.fault.JidFault.{JidFault}
use Rattle.cmd_journal.specs.AccountsFiles.{AccountsView, AreRegistered, IsAccountsFile, is_account_name, is_password, is_password_byte, may_register}
use Rattle.cmd_journal.specs.AccountsFiles as file
use Rattle.cmd_journal.specs.declared.accounts_file.Registration.{Registration}
use Rattle.srv_login.specs.Accounts.{accounts_fault, fault_of, first_fault, is_normal_local, names_of}
use Rattle.srv_login.specs.Accounts as login
use Rattle.srv_login.specs.declared.account.Account.{Account}
use Rattle.srv_login.specs.declared.accounts_fault.AccountsFault.TheVariants.{BadName, NoIterations, Twice}
use Rattle.cmd_rerun.specs.Reruns.{account_at, accounts_at, has_password}
use Rattle.cmd_schedule.specs.Grammar.{may_keep}
use Rattle.cmd_schedule.specs.Schedules.{keep_of}
use Rattle.cmd_schedule.specs.declared.schedule.TheConstants.{MOST_KEPT}
use Rattle.cmd_schedule.specs.declared.schedule.Version.{Version}
use Rattle.cmd_schedule.specs.declared.schedule.Version.TheVariants.{One, Two}
use Rattle.auth_scram.specs.Exchange.{is_plain, is_printable_ascii}
use Rattle.srv_core.specs.Configs.{config_fault, is_normal_domain}

-- ---- passwords

printable : (b : ℕ) → is_password_byte b ≡ true → is_printable_ascii b ≡ true
printable b is =
    let parts = and_parts (nat_le 33 b) (nat_le b 126) is in
    let low : 33 ≤ b = leb-true 33 b parts.0 in
    and_from (nat_le 32 b) (nat_le b 126) (le-leb 32 b (omega (arith, low))) parts.1

all_printable : (text : List ℕ) → list_all is_password_byte text ≡ true → list_all is_printable_ascii text ≡ true
all_printable [] all = refl
all_printable (b ∷ text) all =
    let parts = and_parts (is_password_byte b) (list_all is_password_byte text) all in
    and_from (is_printable_ascii b) (list_all is_printable_ascii text) (printable b parts.0) (all_printable text parts.1)

pub plain_password : (text : List ℕ) → is_password text ≡ true → is_plain text ≡ true
plain_password text is =
    let a = and_parts (nat_le 1 (length text) && nat_le (length text) 100) (list_all is_password_byte text) is in
    let some : 1 ≤ length text = leb-true 1 (length text) (and_parts (nat_le 1 (length text)) (nat_le (length text) 100) a.0).0 in
    and_from (nat_lt 0 (length text)) (list_all is_printable_ascii text) (lt-ltb 0 (length text) (omega (arith, some))) (all_printable text a.1)

-- ---- names

same_form : (r : Result (List ℕ) JidFault) (text : List ℕ) → file.is_form r text ≡ login.is_form r text
same_form (Ok form) text = refl
same_form (Err fault) text = refl

nothing_wrong : {F : Type 0} (normal among none : Bool) (x y z : F) → normal ≡ true → among ≡ false → none ≡ false
    → cond (not normal) (Some x) (cond among (Some y) (cond none (Some z) None)) ≡ None
nothing_wrong normal among none x y z p q r = rw (p, q, r) refl

not_true : (b : Bool) → not b ≡ true → b ≡ false
not_true true e = absurd (cc e)
not_true false e = refl

-- what a registration that may stand here says
record MayStand (above : List (List ℕ)) (r : Registration) : Type 0 where
  normal : is_account_name r.name ≡ true
  new : is_among r.name above ≡ false
  password : is_password r.password ≡ true

may_stand : (above : List (List ℕ)) (r : Registration) → IsTrue (may_register above r) → MayStand above r
may_stand above r may =
    let a = and_parts (is_account_name r.name && not (is_among r.name above)) (is_password r.password) may in
    let b = and_parts (is_account_name r.name) (not (is_among r.name above)) a.0 in
    record { normal = b.0; new = not_true (is_among r.name above) b.1; password = a.1 }

pub passwords : (above : List (List ℕ)) (rs : List Registration) → AreRegistered above rs → list_all has_password rs ≡ true
passwords above [] are = refl
passwords above (r ∷ rs) are =
    and_from (has_password r) (list_all has_password rs) (may_stand above r are.0).password (passwords (above ++ r.name ∷ []) rs are.1)

account_right : (domain : List ℕ) (before : List Account) (r : Registration) → MayStand (names_of before) r → fault_of before (account_at domain r) ≡ None
account_right domain before r may =
    nothing_wrong (is_normal_local r.name) (is_among r.name (names_of before)) ((account_at domain r).credentials.iterations == 0)
    (BadName (length before)) (Twice (length before)) (NoIterations (length before)) (sym (same_form (local_form r.name) r.name) ∙ may.normal) may.new refl

accounts_right : (domain : List ℕ) (before : List Account) (rs : List Registration) → AreRegistered (names_of before) rs → first_fault before (accounts_at domain rs) ≡ None
accounts_right domain before [] are = refl
accounts_right domain before (r ∷ rs) are =
    let names : names_of before ++ r.name ∷ [] ≡ names_of (before ++ account_at domain r ∷ []) = sym (map_push (λ (a : Account). a.name) before (account_at domain r)) in
    ap (λ (f : Option _). option_or f (first_fault (before ++ account_at domain r ∷ []) (accounts_at domain rs))) (account_right domain before r (may_stand (names_of before) r are.0))
    ∙ accounts_right domain (before ++ account_at domain r ∷ []) rs (subst (λ above. AreRegistered above rs) names are.1)

pub no_fault : (view : AccountsView) (accounts : List Account) → IsAccountsFile view → accounts ≡ accounts_at view.domain view.accounts → config_fault view.domain accounts ≡ None
no_fault view accounts is are =
    let normal : is_normal_domain view.domain ≡ true = sym (same_form (domain_form view.domain) view.domain) ∙ is.domain in
    let right : accounts_fault accounts ≡ None = ap accounts_fault are ∙ accounts_right view.domain [] view.accounts is.accounts in
    rw (normal, right) refl

-- ---- numbers

pub as_many : (domain : List ℕ) (rs : List Registration) → length (accounts_at domain rs) ≡ length rs
as_many domain rs = length-map rs (account_at domain)

pub some_kept : (version : Version) → IsTrue (may_keep version) → 1 ≤ keep_of version
some_kept One may = omega arith
some_kept (Two keep) may = leb-true 1 keep (and_parts (nat_le 1 keep) (nat_le keep MOST_KEPT) may).0
