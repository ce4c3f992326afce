-- A declared device: its addresses are in normal form, its account is that of the server, and its client has it.
use Rattle.std.proofs.Common.{◌≡◌, ◌≢◌, ℕ, suc, ◌+◌, true, ◌&&◌, ◌||◌, List, [], ◌∷◌, length, Option, Some, None, Ok, refl, sym, ap, ap₂, subst, append-nil, ◌∙◌, inl, inr, arith}
use Rattle.std.proofs.lemmas.Bool.{and_from, and_parts, cases_Bool, false≢true, lt-ltb, or_left}
use Rattle.std.proofs.lemmas.Bool.Decides.{nat_tests}
use Rattle.std.proofs.lemmas.Option.{slice_get-map}
use Rattle.std.proofs.lemmas.Slice.Eq.{bytes_eq-Decides}
use Rattle.std.specs.List.{list_all, slice_get}
use Rattle.std.specs.Option.{option_map, unwrap_or}
use Rattle.std.specs.Prelude.{IsSome, nat_le, nat_lt}
use Rattle.std.specs.Str.{bytes_eq}
use Rattle.base_lemmas.proofs.Lists.{list_all-weaker}
use Rattle.cl_core.specs.Making.{account_of}
use Rattle.sim_3_images.proofs.OwnedDevices.{IsDeclared}
use Rattle.sim_3_images.specs.Devices.{account_position, identity_at}
use Rattle.sim_3_items.specs.Identities.{IsNormal, own_account}
use Rattle.sim_3_items.specs.Servers.{IsDeviceServed}
use Rattle.sim_3_items.proofs.FullAddresses.{full_normal}
use Rattle.cmd_network.proofs.Names.{domain_stays, local_stays, resource_stays}
use Rattle.cmd_network.specs.Starting.{account_at_start, accounts_at_start, password_of}
use Rattle.base_io.specs.Names.{is_among, position_of}
use Rattle.im_jid.proofs.NormalAgain.{are_joined}
use Rattle.im_jid.specs.Normal.{normal}
use Rattle.srv_login.specs.Accounts.{account_from}
use Rattle.srv_login.specs.declared.account.Account.{Account}
use Rattle.cmd_report.specs.Addresses.{bare_address, domain}
use Rattle.cmd_schedule.specs.Contents.{Owned, accounts_of}
use Rattle.cmd_schedule.specs.Grammar.{is_digit, is_lower, is_name}
use Rattle.cmd_schedule.specs.Schedules.{WireView}
use Rattle.auth_scram.specs.Exchange.{is_plain, is_printable_ascii}
use Rattle.srv_core.specs.Configs.{archives_of, empty_kept, server_state_at_start}
use Rattle.cmd_world.specs.Histories.{common_steps}
use Rattle.law_limits.proofs.NamesWithin.{domain_is}

-- ---- names

printable : (b : ℕ) → (is_lower b || is_digit b) ≡ true → is_printable_ascii b ≡ true
printable b h = grind (arith, nat_tests)

pub name_plain : (name : List ℕ) → is_name name ≡ true → is_plain name ≡ true
name_plain [] h = absurd (cc h)
name_plain (c ∷ cs) h =
    let a = and_parts (is_lower c && nat_le (length cs) 31) (list_all (λ d. is_lower d || is_digit d) cs) h in
    let b = and_parts (is_lower c) (nat_le (length cs) 31) a.0 in
    and_from (nat_lt 0 (length (c ∷ cs))) (list_all is_printable_ascii (c ∷ cs)) (lt-ltb 0 (length (c ∷ cs)) (omega arith))
    (and_from (is_printable_ascii c) (list_all is_printable_ascii cs) (printable c (or_left (is_lower c) (is_digit c) b.0)) (list_all-weaker (λ d. is_lower d || is_digit d) is_printable_ascii printable cs a.1))

not_empty : (name : List ℕ) → is_name name ≡ true → name ≢ []
not_empty name is same = false≢true (subst (λ n. is_name n ≡ true) same is)

-- ---- addresses

normal_domain : normal domain ≡ Ok domain
normal_domain =
    let whole = are_joined None domain None (record { local_stays = tt; domain_stays = domain_stays; resource_stays = tt }) in
    subst (λ t. normal t ≡ Ok t) (append-nil domain) whole.normal_form

pub is_normal : (schedule : WireView) (position : ℕ) (o : Owned) → IsDeclared (accounts_of (common_steps schedule)) o → IsNormal (identity_at schedule position o)
is_normal schedule position o is = record {
  domain = normal_domain;
  resource = resource_stays o.device is.device;
  chosen = not_empty o.device is.device;
  full = full_normal o.account o.device is.account is.device;
}

-- ---- the client

pub is_own : (schedule : WireView) (position : ℕ) (o : Owned) → IsDeclared (accounts_of (common_steps schedule)) o
    → account_of (bare_address o.account) o.account (password_of o.account) o.device ≡ own_account (identity_at schedule position o)
is_own schedule position o is =
    ap (λ (d : List ℕ). record { bare = bare_address o.account; resource = o.device; login = record { name = o.account; domain = d; password = password_of o.account } }) (domain_is o.account is.account)

-- ---- the server

record IsPlaced (name : List ℕ) (names : List (List ℕ)) : Type 0 where
  position : ℕ
  is : position_of name names ≡ Some position
  there : slice_get names position ≡ Some name
  found : (at : ℕ) → account_from at name (accounts_at_start names) ≡ Some (record { position = at + position; credentials = (account_at_start name).credentials })

placed : (name : List ℕ) (names : List (List ℕ)) → is_among name names ≡ true → IsPlaced name names
placed name [] known = absurd (false≢true known)
placed name (other ∷ names) known =
    elim (cases_Bool (bytes_eq name other)) [
      | inl here ↦
          let same : name ≡ other = (bytes_eq-Decides name other).0 here in
          record {
            position = 0;
            is = rw here refl;
            there = ap Some (sym same);
            found = λ at. rw here (ap₂ (λ p n. Some (record { position = p; credentials = (account_at_start n).credentials })) (omega arith) (sym same));
          }
      | inr differs ↦
          let rest = placed name names (rw differs at known) in
          record {
            position = suc rest.position;
            is = rw (differs, rest.is) refl;
            there = rest.there;
            found = λ at. rw differs (rest.found (at + 1) ∙ ap (λ p. Some (record { position = p; credentials = (account_at_start name).credentials })) (omega arith));
          }
    ]

pub is_served : (schedule : WireView) (position : ℕ) (o : Owned) (keep : ℕ) → IsDeclared (accounts_of (common_steps schedule)) o
    → IsDeviceServed (identity_at schedule position o) (server_state_at_start domain (accounts_at_start (accounts_of (common_steps schedule))) keep)
is_served schedule position o keep is =
    let names = accounts_of (common_steps schedule) in
    let here = placed o.account names is.among in
    let same : account_position o.account names ≡ here.position = ap (λ (p : Option ℕ). unwrap_or p 0) here.is in
    let there : slice_get names (account_position o.account names) ≡ Some o.account = ap (slice_get names) same ∙ here.there in
    let account : slice_get (accounts_at_start names) (account_position o.account names) ≡ Some (account_at_start o.account) =
    slice_get-map account_at_start names (account_position o.account names) ∙ ap (option_map account_at_start) there in
    let archive : slice_get (archives_of domain keep (accounts_at_start names)) (account_position o.account names) ≡ Some (empty_kept domain keep o.account) =
    slice_get-map (λ (a : Account). empty_kept domain keep a.name) (accounts_at_start names) (account_position o.account names) ∙ ap (option_map (λ (a : Account). empty_kept domain keep a.name)) account in
    record {
      domain = refl;
      account = account;
      found = here.found 0 ∙ ap (λ p. Some (record { position = p; credentials = (account_at_start o.account).credentials })) (zero_plus here.position ∙ sym same);
      archive = subst IsSome (sym archive) refl;
    }
  where
    zero_plus : (n : ℕ) → 0 + n ≡ n
    zero_plus n = omega arith
