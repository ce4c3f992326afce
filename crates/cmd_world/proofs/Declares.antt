-- What lines declare one after another is what their steps declare together, and it is right where they may stand.
use Rattle.std.proofs.Common.{◌≡◌, ◌≤◌, ◌<◌, ◌+◌, ◌==◌, ℕ, Bool, true, false, cond, not, List, [], ◌∷◌, ◌++◌, length, map, Option, Some, None, ap, refl, sym, subst, append_assoc, ◌∙◌, inl, inr, arith}
use Rattle.std.proofs.lemmas.Bool.{and_parts, cases_Bool, false≢true, leb-true, ltb-true}
use Rattle.std.proofs.lemmas.List.{append-nil, length-append, length-map, map_push}
use Rattle.std.proofs.lemmas.Slice.Eq.{bytes_eq-Decides}
use Rattle.std.specs.Prelude.{IsTrue, ◌&&◌, nat_le, nat_lt}
use Rattle.std.specs.List.{flat_map}
use Rattle.std.specs.Option.{option_or}
use Rattle.std.specs.Str.{bytes_eq}
use Rattle.cmd_network.proofs.Names.{domain_stays, local_stays}
use Rattle.cmd_network.specs.Devices.{DeviceState}
use Rattle.cmd_network.specs.Starting.{account_at_start, accounts_at_start, device_at_start}
use Rattle.base_io.specs.Names.{is_among}
use Rattle.srv_login.specs.Accounts.{fault_of, first_fault, is_normal_local, names_of}
use Rattle.srv_login.specs.declared.account.Account.{Account}
use Rattle.srv_login.specs.declared.accounts_fault.AccountsFault.TheVariants.{BadName, NoIterations, Twice}
use Rattle.cmd_report.specs.Addresses.{domain}
use Rattle.cmd_schedule.specs.Contents.{Owned, accounts_of, owned_in}
use Rattle.cmd_schedule.specs.Grammar.{is_name, may_keep}
use Rattle.cmd_schedule.specs.Schedules.{WireView, common_at, keep_of, steps_of, wire_steps_of}
use Rattle.cmd_schedule.specs.WireGrammar.{AreRunnable, WireAbove, above_by, may_run, nothing_above}
use Rattle.cmd_schedule.specs.declared.schedule.Line.{Line}
use Rattle.cmd_schedule.specs.declared.schedule.Step.{Step}
use Rattle.cmd_schedule.specs.declared.schedule.Step.TheVariants as step
use Rattle.cmd_schedule.specs.declared.schedule.TheConstants.{MOST_KEPT}
use Rattle.cmd_schedule.specs.declared.schedule.Version.{Version}
use Rattle.cmd_schedule.specs.declared.schedule.Version.TheVariants.{One, Two}
use Rattle.cmd_schedule.specs.declared.schedule.WireLine.{WireLine}
use Rattle.cmd_schedule.specs.declared.schedule.WireStep.{WireStep}
use Rattle.cmd_schedule.specs.declared.schedule.WireStep.TheVariants as wire
use Rattle.srv_core.specs.Configs.{config_fault, is_normal_domain}
use Rattle.cmd_world.specs.Declaring.{AreAccounts, AreNames, Begun, MayAdd, MayAllDeclare, MayDeclare, all_declared, begun_of, declares, declares_common, nothing_begun}
use Rattle.cmd_world.specs.Histories.{common_steps, owned_at_start}

-- ---- all of them together

abbrev lines_of : List WireLine → List Line
lines_of lines = flat_map (λ (line : WireLine). common_at line.number line.step) lines

-- with what steps declare
abbrev with_all : List Step → Begun → Begun
with_all steps b = begun_of (b.accounts ++ accounts_of steps) (b.names ++ map (λ (o : Owned). o.device) (owned_in steps)) (b.devices ++ map owned_at_start (owned_in steps))

with_none : (b : Begun) → with_all [] b ≡ b
with_none b =
    ap (λ (x : List (List ℕ)). begun_of x (b.names ++ []) (b.devices ++ [])) (append-nil b.accounts)
    ∙ ap (λ (x : List (List ℕ)). begun_of b.accounts x (b.devices ++ [])) (append-nil b.names)
    ∙ ap (λ (x : List DeviceState). begun_of b.accounts b.names x) (append-nil b.devices)

common_more : (n : ℕ) (s : Step) (b : Begun) (rest : List Line) → with_all (steps_of rest) (declares_common s b) ≡ with_all (steps_of (common_at n (wire.Common s) ++ rest)) b
common_more n (step.Account name) b rest =
    ap (λ (x : List (List ℕ)). begun_of x (b.names ++ map (λ (o : Owned). o.device) (owned_in (steps_of rest))) (b.devices ++ map owned_at_start (owned_in (steps_of rest))))
    (append_assoc b.accounts (name ∷ []) (accounts_of (steps_of rest)))
common_more n (step.Device name account) b rest =
    ap (λ (x : List (List ℕ)). begun_of (b.accounts ++ accounts_of (steps_of rest)) x ((b.devices ++ device_at_start name account ∷ []) ++ map owned_at_start (owned_in (steps_of rest))))
    (append_assoc b.names (name ∷ []) (map (λ (o : Owned). o.device) (owned_in (steps_of rest))))
    ∙ ap (λ (x : List DeviceState). begun_of (b.accounts ++ accounts_of (steps_of rest)) (b.names ++ name ∷ map (λ (o : Owned). o.device) (owned_in (steps_of rest))) x)
    (append_assoc b.devices (device_at_start name account ∷ []) (map owned_at_start (owned_in (steps_of rest))))
common_more n (step.Say device to text) b rest = refl
common_more n (step.Private device to text) b rest = refl
common_more n (step.Catchup device most) b rest = refl
common_more n (step.Tick milliseconds) b rest = refl

more : (n : ℕ) (s : WireStep) (b : Begun) (rest : List Line) → with_all (steps_of rest) (declares s b) ≡ with_all (steps_of (common_at n s ++ rest)) b
more n (wire.Common s) b rest = common_more n s b rest
more n (wire.Dial device) b rest = refl
more n (wire.Forget device) b rest = refl
more n (wire.Close device) b rest = refl
more n (wire.Up k count) b rest = refl
more n (wire.Down k count) b rest = refl
more n (wire.Cut k up down) b rest = refl
more n (wire.Pass k times) b rest = refl
more n (wire.Run times) b rest = refl

all_more : (lines : List WireLine) (b : Begun) → all_declared lines b ≡ with_all (steps_of (lines_of lines)) b
all_more [] b = sym (with_none b)
all_more (line ∷ lines) b = all_more lines (declares line.step b) ∙ more line.number line.step b (lines_of lines)

pub begun_is : (schedule : WireView) → all_declared schedule.lines nothing_begun
    ≡ begun_of (accounts_of (common_steps schedule)) (map (λ (o : Owned). o.device) (owned_in (common_steps schedule))) (map owned_at_start (owned_in (common_steps schedule)))
begun_is schedule = all_more schedule.lines nothing_begun

-- ---- devices

named_among : (name : List ℕ) (names : List (List ℕ)) → AreNames names → is_among name names ≡ true → IsTrue (is_name name)
named_among name [] each known = absurd (false≢true known)
named_among name (other ∷ names) each known =
    elim (cases_Bool (bytes_eq name other)) [
      | inl same ↦ subst (λ n. IsTrue (is_name n)) (sym ((bytes_eq-Decides name other).0 same)) each.0
      | inr differs ↦ named_among name names each.1 (rw differs at known)
    ]

names_push : (names : List (List ℕ)) (name : List ℕ) → AreNames names → IsTrue (is_name name) → AreNames (names ++ name ∷ [])
names_push [] name each is = (is, tt)
names_push (other ∷ names) name each is = (each.0, names_push names name each.1 is)

not_true : (b : Bool) → not b ≡ true → b ≡ false
not_true true e = absurd (cc e)
not_true false e = refl

-- what is asked of an account's line, and of a device's
record IsNewAccount (above : WireAbove) (name : List ℕ) : Type 0 where
  few : length above.names.accounts < 100
  named : is_name name ≡ true
  new : is_among name above.names.accounts ≡ false

record IsNewDevice (above : WireAbove) (name account : List ℕ) : Type 0 where
  named : is_name name ≡ true
  new : is_among name above.names.devices ≡ false
  owned : is_among account above.names.accounts ≡ true

new_account : (above : WireAbove) (name : List ℕ) → IsTrue (may_run above (wire.Common (step.Account name))) → IsNewAccount above name
new_account above name may =
    let a = and_parts (nat_lt (length above.names.accounts) 100 && is_name name) (not (is_among name above.names.accounts)) may in
    let b = and_parts (nat_lt (length above.names.accounts) 100) (is_name name) a.0 in
    record { few = ltb-true (length above.names.accounts) 100 b.0; named = b.1; new = not_true (is_among name above.names.accounts) a.1 }

new_device : (above : WireAbove) (name account : List ℕ) → IsTrue (may_run above (wire.Common (step.Device name account))) → IsNewDevice above name account
new_device above name account may =
    let a = and_parts (nat_lt (length above.names.devices) 100 && is_name name && not (is_among name above.names.devices)) (is_among account above.names.accounts) may in
    let b = and_parts (nat_lt (length above.names.devices) 100 && is_name name) (not (is_among name above.names.devices)) a.0 in
    let c = and_parts (nat_lt (length above.names.devices) 100) (is_name name) b.0 in
    record { named = c.1; new = not_true (is_among name above.names.devices) b.1; owned = a.1 }

-- the names of devices are those that stand above, and the accounts that stand above have names
record IsBelow (above : WireAbove) (b : Begun) : Type 0 where
  same : b.names ≡ above.names.devices
  named : AreNames above.names.accounts

below_common : (s : Step) (above : WireAbove) (b : Begun) → IsBelow above b → IsTrue (may_run above (wire.Common s)) → IsBelow (above_by (wire.Common s) above) (declares_common s b)
below_common (step.Account name) above b is may = record { same = is.same; named = names_push above.names.accounts name is.named (new_account above name may).named }
below_common (step.Device name account) above b is may = record { same = ap (λ (ns : List (List ℕ)). ns ++ name ∷ []) is.same; named = is.named }
below_common (step.Say device to text) above b is may = is
below_common (step.Private device to text) above b is may = is
below_common (step.Catchup device most) above b is may = is
below_common (step.Tick milliseconds) above b is may = is

below : (s : WireStep) (above : WireAbove) (b : Begun) → IsBelow above b → IsTrue (may_run above s) → IsBelow (above_by s above) (declares s b)
below (wire.Common s) above b is may = below_common s above b is may
below (wire.Dial device) above b is may = record { same = is.same; named = is.named }
below (wire.Forget device) above b is may = is
below (wire.Close device) above b is may = is
below (wire.Up k count) above b is may = is
below (wire.Down k count) above b is may = is
below (wire.Cut k up down) above b is may = is
below (wire.Pass k times) above b is may = record { same = is.same; named = is.named }
below (wire.Run times) above b is may = record { same = is.same; named = is.named }

may_add : (s : Step) (above : WireAbove) (b : Begun) → IsBelow above b → IsTrue (may_run above (wire.Common s)) → MayAdd s b
may_add (step.Account name) above b is may = tt
may_add (step.Device name account) above b is may =
    let new = new_device above name account may in
    (new.named, named_among account above.names.accounts is.named new.owned, ap (is_among name) is.same ∙ new.new)
may_add (step.Say device to text) above b is may = tt
may_add (step.Private device to text) above b is may = tt
may_add (step.Catchup device most) above b is may = tt
may_add (step.Tick milliseconds) above b is may = tt

may_declare : (s : WireStep) (above : WireAbove) (b : Begun) → IsBelow above b → IsTrue (may_run above s) → MayDeclare s b
may_declare (wire.Common s) above b is may = may_add s above b is may
may_declare (wire.Dial device) above b is may = tt
may_declare (wire.Forget device) above b is may = tt
may_declare (wire.Close device) above b is may = tt
may_declare (wire.Up k count) above b is may = tt
may_declare (wire.Down k count) above b is may = tt
may_declare (wire.Cut k up down) above b is may = tt
may_declare (wire.Pass k times) above b is may = tt
may_declare (wire.Run times) above b is may = tt

may_from : (lines : List WireLine) (above : WireAbove) (b : Begun) → IsBelow above b → AreRunnable above (wire_steps_of lines) → MayAllDeclare lines b
may_from [] above b is run = tt
may_from (line ∷ lines) above b is run =
    (may_declare line.step above b is run.0, may_from lines (above_by line.step above) (declares line.step b) (below line.step above b is run.0) run.1)

pub may_all : (lines : List WireLine) → AreRunnable nothing_above (wire_steps_of lines) → MayAllDeclare lines nothing_begun
may_all lines run = may_from lines nothing_above nothing_begun (record { same = refl; named = tt }) run

-- ---- accounts

accounts_common : (n : ℕ) (s : Step) (above : WireAbove) (rest : List Line) → IsTrue (may_run above (wire.Common s))
    → AreAccounts (above_by (wire.Common s) above).names.accounts (accounts_of (steps_of rest)) → AreAccounts above.names.accounts (accounts_of (steps_of (common_at n (wire.Common s) ++ rest)))
accounts_common n (step.Account name) above rest may are = (let new = new_account above name may in (new.few, new.named, new.new, are))
accounts_common n (step.Device name account) above rest may are = are
accounts_common n (step.Say device to text) above rest may are = are
accounts_common n (step.Private device to text) above rest may are = are
accounts_common n (step.Catchup device most) above rest may are = are
accounts_common n (step.Tick milliseconds) above rest may are = are

accounts_more : (n : ℕ) (s : WireStep) (above : WireAbove) (rest : List Line) → IsTrue (may_run above s)
    → AreAccounts (above_by s above).names.accounts (accounts_of (steps_of rest)) → AreAccounts above.names.accounts (accounts_of (steps_of (common_at n s ++ rest)))
accounts_more n (wire.Common s) above rest may are = accounts_common n s above rest may are
accounts_more n (wire.Dial device) above rest may are = are
accounts_more n (wire.Forget device) above rest may are = are
accounts_more n (wire.Close device) above rest may are = are
accounts_more n (wire.Up k count) above rest may are = are
accounts_more n (wire.Down k count) above rest may are = are
accounts_more n (wire.Cut k up down) above rest may are = are
accounts_more n (wire.Pass k times) above rest may are = are
accounts_more n (wire.Run times) above rest may are = are

accounts_from : (lines : List WireLine) (above : WireAbove) → AreRunnable above (wire_steps_of lines) → AreAccounts above.names.accounts (accounts_of (steps_of (lines_of lines)))
accounts_from [] above run = tt
accounts_from (line ∷ lines) above run = accounts_more line.number line.step above (lines_of lines) run.0 (accounts_from lines (above_by line.step above) run.1)

pub are_accounts : (schedule : WireView) → AreRunnable nothing_above (wire_steps_of schedule.lines) → AreAccounts [] (accounts_of (common_steps schedule))
are_accounts schedule run = accounts_from schedule.lines nothing_above run

pub names_from : (before names : List (List ℕ)) → AreAccounts before names → AreNames names
names_from before [] are = tt
names_from before (name ∷ names) are = (are.1, names_from (before ++ name ∷ []) names are.3)

pub are_names : (names : List (List ℕ)) → AreAccounts [] names → AreNames names
are_names names are = names_from [] names are

few_from : (before names : List (List ℕ)) → AreAccounts before names → length before ≤ 100 → length before + length names ≤ 100
few_from before [] are few = omega (arith, few)
few_from before (name ∷ names) are few =
    let one : length (before ++ name ∷ []) ≡ length before + 1 = length-append before (name ∷ []) in
    let rest : length (before ++ name ∷ []) + length names ≤ 100 = few_from (before ++ name ∷ []) names are.3 (omega (arith, one, are.0)) in
    omega (arith, one, rest)

pub are_few : (names : List (List ℕ)) → AreAccounts [] names → length names ≤ 100
are_few names are = (let few : 0 + length names ≤ 100 = few_from [] names are (omega arith) in omega (arith, few))

-- ---- the server's accounts

nothing_wrong : {F : Type 0} (normal among none : Bool) (x y z : F) → normal ≡ true → among ≡ false → none ≡ false
    → cond (not normal) (Some x) (cond among (Some y) (cond none (Some z) None)) ≡ None
nothing_wrong normal among none x y z p q r = rw (p, q, r) refl

normal_local : (name : List ℕ) → IsTrue (is_name name) → is_normal_local name ≡ true
normal_local name is = rw (local_stays name is) ((bytes_eq-Decides name name).1 refl)

account_right : (before : List Account) (name : List ℕ) → IsTrue (is_name name) → is_among name (names_of before) ≡ false → fault_of before (account_at_start name) ≡ None
account_right before name is new =
    nothing_wrong (is_normal_local name) (is_among name (names_of before)) ((account_at_start name).credentials.iterations == 0)
    (BadName (length before)) (Twice (length before)) (NoIterations (length before)) (normal_local name is) new refl

accounts_right : (before : List Account) (names : List (List ℕ)) → AreAccounts (names_of before) names → first_fault before (accounts_at_start names) ≡ None
accounts_right before [] are = refl
accounts_right before (name ∷ names) are =
    let push : names_of before ++ name ∷ [] ≡ names_of (before ++ account_at_start name ∷ []) = sym (map_push (λ (a : Account). a.name) before (account_at_start name)) in
    ap (λ (f : Option _). option_or f (first_fault (before ++ account_at_start name ∷ []) (accounts_at_start names))) (account_right before name are.1 are.2)
    ∙ accounts_right (before ++ account_at_start name ∷ []) names (subst (λ above. AreAccounts above names) push are.3)

normal_domain : is_normal_domain domain ≡ true
normal_domain = rw domain_stays ((bytes_eq-Decides domain domain).1 refl)

pub no_fault : (names : List (List ℕ)) (accounts : List Account) (of : List ℕ) → AreAccounts [] names → accounts ≡ accounts_at_start names → of ≡ domain → config_fault of accounts ≡ None
no_fault names accounts of are same at = (let right = accounts_right [] names are in rw (at, same, normal_domain, right) refl)

pub as_many : (names : List (List ℕ)) → length (accounts_at_start names) ≡ length names
as_many names = length-map names account_at_start

pub some_kept : (version : Version) → IsTrue (may_keep version) → 1 ≤ keep_of version
some_kept One may = omega arith
some_kept (Two keep) may = leb-true 1 keep (and_parts (nat_le 1 keep) (nat_le keep MOST_KEPT) may).0
