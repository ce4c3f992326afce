-- What a server begins with keeps to it.
use Rattle.std.proofs.Common.{◌≡◌, ℕ, zero, suc, ◌<◌, ◌^◌, ◌/◌, true, List, [], ◌∷◌, ◌++◌, Result, Ok, Err, refl, subst, arith, lit<}
use Rattle.std.proofs.Math.Nat.{mod-lt}
use Rattle.std.proofs.lemmas.Slice.Eq.{bytes_eq-Decides}
use Rattle.std.specs.Int.{byte_at, bytes_high_first, to_be_bytes, w32}
use Rattle.std.specs.List.{AllByRecursion}
use Rattle.std.specs.Prelude.{slice_index}
use Rattle.base64.specs.GeneralPurpose.{IsBytes}
use Rattle.sha2.proofs.Facts256.{length-sha256}
use Rattle.sha2.specs.Sha256.{digest_bytes, sha256}
use Rattle.im_jid.specs.Forms.{domain_form, local_form}
use Rattle.im_jid.specs.declared.fault.JidFault.{JidFault}
use Rattle.srv_login.specs.Accounts.{account_of, bare_text, is_form, is_normal_local}
use Rattle.srv_login.specs.declared.account.Account.{Account}
use Rattle.srv_core.specs.Configs.{archives_of, is_normal_domain, server_state_at_start}
use Rattle.law_limits.proofs.ServerLoginsKept.{all_bytes, first_bytes, take_shorter}
use Rattle.law_limits.specs.Keeps.{AccountKeeps, ArchiveKeeps, ServerKeeps}
use Rattle.law_limits.proofs.SizesOfAddresses.{domain_said, local_said}
use Rattle.law_limits.specs.Texts.{Said}
use Rattle.auth_primitives.proofs.ByteSteps.{IsBytes-append as bytes_append, IsBytes-cons as bytes_cons}

-- ---- digests are bytes

bytes_nil : IsBytes []
bytes_nil i = lit< tt

pub byte_at_small : (k n : ℕ) → byte_at k n < 256
byte_at_small zero n = mod-lt n (lit< tt)
byte_at_small (suc k) n = mod-lt (n / 256 ^ suc k) (lit< tt)

pub high_first : (k n : ℕ) → IsBytes (bytes_high_first k n)
high_first zero n = bytes_nil
high_first (suc k) n = bytes_cons (byte_at k n) (bytes_high_first k n) (byte_at_small k n) (high_first k n)

pub digest : (h : List ℕ) (n : ℕ) → IsBytes (digest_bytes h n)
unfolding digest_bytes
digest h zero = bytes_nil
digest h (suc n) = bytes_append (digest_bytes h n) (to_be_bytes w32 (slice_index h n)) (digest h n) (high_first 4 (slice_index h n))

pub hash_bytes : (m : List ℕ) → IsBytes (sha256 m)
unfolding sha256
hash_bytes m = digest _ 8

-- ---- names

form_said : (r : Result (List ℕ) JidFault) (t : List ℕ) → ((p : List ℕ) → r ≡ Ok p → Said 6138 p) → is_form r t ≡ true → Said 6138 t
form_said (Ok form) t said is = subst (Said 6138) ((bytes_eq-Decides form t).0 is) (said form refl)
form_said (Err e) t said is = absurd cc

pub account_kept : (name domain password : List ℕ) → is_normal_local name ≡ true → AccountKeeps (account_of name domain password)
account_kept name domain password normal =
    let bare = bare_text name domain in
    let long = length-sha256 bare in
    let less = take_shorter 16 (sha256 bare) in
    record {
      name = form_said (local_form name) name (λ p is. local_said name p is) normal;
      salt = first_bytes 16 (sha256 bare) (all_bytes (sha256 bare) (hash_bytes bare));
      short = omega (arith, long, less);
      count = omega arith;
    }

archives_kept : (domain : List ℕ) (keep : ℕ) (accounts : List Account) → keep < 2 ^ 64 → AllByRecursion ArchiveKeeps (archives_of domain keep accounts)
archives_kept domain keep [] small = tt
archives_kept domain keep (a ∷ more) small = (record { entries = tt; few = omega arith; keep = small }, archives_kept domain keep more small)

pub start_kept : (domain : List ℕ) (accounts : List Account) (keep : ℕ) → is_normal_domain domain ≡ true → AllByRecursion AccountKeeps accounts → keep < 2 ^ 64 → ServerKeeps (server_state_at_start domain accounts keep)
start_kept domain accounts keep normal each small =
    record { domain = form_said (domain_form domain) domain (λ p is. domain_said domain p is) normal; accounts = each; archives = archives_kept domain keep accounts small; sessions = tt; conns = tt }
