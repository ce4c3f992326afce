-- What a schedule begins with keeps to the limits.
use Rattle.std.proofs.Common.{◌≡◌, ℕ, ◌≤◌, ◌<◌, ◌^◌, true, ◌&&◌, ◌||◌, List, [], ◌∷◌, ◌++◌, length, refl, subst, sym, arith, inl, inr}
use Rattle.std.proofs.lemmas.Bool.{and_parts, cases_Bool, leb-true}
use Rattle.std.proofs.lemmas.Slice.Eq.{bytes_eq-Decides}
use Rattle.std.specs.List.{AllByRecursion, flat_map, list_all}
use Rattle.std.specs.Prelude.{IsTrue, nat_le}
use Rattle.std.specs.Str.{bytes_eq}
use Rattle.sim_3_images.specs.Relayable.{ClientFits, ServerFits}
use Rattle.cmd_network.proofs.Names.{domain_stays, local_stays}
use Rattle.cmd_network.specs.Starting.{accounts_at_start, password_of}
use Rattle.base_io.specs.Names.{is_among}
use Rattle.sim_3_images.specs.ItemStarts.{item_device}
use Rattle.sim_3_images.specs.EncodingsOwed.{StartKeeps}
use Rattle.cmd_report.specs.Addresses.{domain}
use Rattle.cmd_schedule.specs.Contents.{Owned, accounts_of, owned_in}
use Rattle.cmd_schedule.specs.Grammar.{is_digit, is_lower, is_name, may_keep}
use Rattle.cmd_schedule.specs.Schedules.{WireView, common_at, keep_of, steps_of, wire_steps_of}
use Rattle.cmd_schedule.specs.LineLists.{IsLineList}
use Rattle.cmd_schedule.specs.WireGrammar.{AreRunnable, WireAbove, above_by, may_run, nothing_above}
use Rattle.cmd_schedule.specs.declared.schedule.Line.{Line}
use Rattle.cmd_schedule.specs.declared.schedule.Step.TheVariants as step
use Rattle.cmd_schedule.specs.declared.schedule.TheConstants.{MOST_KEPT}
use Rattle.cmd_schedule.specs.declared.schedule.Version.{Version}
use Rattle.cmd_schedule.specs.declared.schedule.Version.TheVariants.{One, Two}
use Rattle.cmd_schedule.specs.declared.schedule.WireLine.{WireLine}
use Rattle.cmd_schedule.specs.declared.schedule.WireStep.{WireStep}
use Rattle.cmd_schedule.specs.declared.schedule.WireStep.TheVariants as wire
use Rattle.law_limits.proofs.NamesWithin.{account_within}
use Rattle.srv_core.specs.Configs.{is_normal_domain}
use Rattle.law_limits.proofs.StartKept.{account_kept, start_kept}
use Rattle.law_limits.specs.Keeps.{AccountKeeps}
use Rattle.cmd_world.proofs.Declares.{are_accounts, are_names}
use Rattle.cmd_world.proofs.Traces.{may_run_all}
use Rattle.cmd_world.specs.Declaring.{AreNames}
use Rattle.cmd_world.specs.Histories.{common_steps}
use Rattle.base_lemmas.proofs.Bytes.{bytes_eq-self}

-- ---- names

normal_domain : is_normal_domain domain ≡ true
normal_domain = rw domain_stays ((bytes_eq-Decides domain domain).1 refl)

name_short : (name : List ℕ) → is_name name ≡ true → length name ≤ 32
name_short [] h = absurd (cc h)
name_short (c ∷ cs) h =
    let p = and_parts (is_lower c && nat_le (length cs) 31) (list_all (λ d. is_lower d || is_digit d) cs) h in
    let q = and_parts (is_lower c) (nat_le (length cs) 31) p.0 in
    let few = leb-true (length cs) 31 q.1 in
    omega (arith, few)

-- ---- the server

accounts_keep : (names : List (List ℕ)) → AreNames names → AllByRecursion AccountKeeps (accounts_at_start names)
accounts_keep [] are = tt
accounts_keep (name ∷ names) are = (account_kept name domain (password_of name) (let same = bytes_eq-self name in rw (local_stays name are.0) same), accounts_keep names are.1)

keep_small : (version : Version) → IsTrue (may_keep version) → keep_of version < 2 ^ 64
keep_small One may = omega arith
keep_small (Two keep) may = let few = leb-true keep MOST_KEPT (and_parts (nat_le 1 keep) (nat_le keep MOST_KEPT) may).1 in omega (arith, few)

-- ---- the clients

abbrev Named : Owned → Type 0
Named o = (is_name o.account ≡ true) × (is_name o.device ≡ true)

device_fits : (o : Owned) → Named o → ClientFits (item_device o).client
device_fits o named = record {
  within = record { account = account_within o.account (password_of o.account) o.device named.0 named.1; log = record { entries = tt; page = tt }; epoch = omega arith; session = tt; phase = tt };
  no_end = tt;
  relayable = record { name = name_short o.account named.0; queue = tt };
}

devices_fit : (os : List Owned) → AllByRecursion Named os → AllByRecursion (λ o. ClientFits (item_device o).client) os
devices_fit [] h = tt
devices_fit (o ∷ os) h = (device_fits o h.0, devices_fit os h.1)

abbrev AreKnown : WireAbove → Type 0
AreKnown above = AreNames above.names.accounts

pub named_among : (name : List ℕ) (names : List (List ℕ)) → AreNames names → is_among name names ≡ true → is_name name ≡ true
named_among name [] are is = absurd (cc is)
named_among name (other ∷ names) are is =
    elim (cases_Bool (bytes_eq name other)) [
      | inl same ↦ subst (λ n. is_name n ≡ true) (sym ((bytes_eq-Decides name other).0 same)) are.0
      | inr apart ↦ named_among name names are.1 (rw apart at is)
    ]

names_push : (names : List (List ℕ)) (name : List ℕ) → AreNames names → is_name name ≡ true → AreNames (names ++ name ∷ [])
names_push [] name are is = (is, tt)
names_push (other ∷ names) name are is = (are.0, names_push names name are.1 is)

abbrev lines_of : List WireLine → List Line
lines_of lines = flat_map (λ (line : WireLine). common_at line.number line.step) lines

owned_more : (n : ℕ) (s : WireStep) (above : WireAbove) (rest : List Line) → AreKnown above → IsTrue (may_run above s) → (AreKnown (above_by s above) → AllByRecursion Named (owned_in (steps_of rest)))
    → AllByRecursion Named (owned_in (steps_of (common_at n s ++ rest)))
owned_more n (wire.Common (step.Account name)) above rest known may more = more (names_push above.names.accounts name known (and_parts _ _ (and_parts _ _ may).0).1)
owned_more n (wire.Common (step.Device name account)) above rest known may more =
    let outer = and_parts _ _ may in
    let inner = and_parts _ _ outer.0 in
    ((named_among account above.names.accounts known outer.1, (and_parts _ _ inner.0).1), more known)
owned_more n (wire.Common (step.Say device to text)) above rest known may more = more known
owned_more n (wire.Common (step.Private device to text)) above rest known may more = more known
owned_more n (wire.Common (step.Catchup device most)) above rest known may more = more known
owned_more n (wire.Common (step.Tick ms)) above rest known may more = more known
owned_more n (wire.Dial device) above rest known may more = more known
owned_more n (wire.Forget device) above rest known may more = more known
owned_more n (wire.Close device) above rest known may more = more known
owned_more n (wire.Up k count) above rest known may more = more known
owned_more n (wire.Down k count) above rest known may more = more known
owned_more n (wire.Cut k up down) above rest known may more = more known
owned_more n (wire.Pass k times) above rest known may more = more known
owned_more n (wire.Run times) above rest known may more = more known

owned_named : (lines : List WireLine) (above : WireAbove) → AreKnown above → AreRunnable above (wire_steps_of lines) → AllByRecursion Named (owned_in (steps_of (lines_of lines)))
owned_named [] above known run = tt
owned_named (line ∷ lines) above known run = owned_more line.number line.step above (lines_of lines) known run.0 (λ now. owned_named lines (above_by line.step above) now run.1)

-- ---- a schedule

pub start_keeps : (schedule : WireView) → IsLineList schedule → StartKeeps ServerFits ClientFits schedule
start_keeps schedule is =
    let run = may_run_all schedule is in
    let names = are_names (accounts_of (common_steps schedule)) (are_accounts schedule run) in
    record {
      server_state = (start_kept domain (accounts_at_start (accounts_of (common_steps schedule))) (keep_of schedule.version) normal_domain (accounts_keep (accounts_of (common_steps schedule)) names) (keep_small schedule.version is.keeps), tt);
      clients = devices_fit (owned_in (common_steps schedule)) (owned_named schedule.lines nothing_above tt run);
    }
