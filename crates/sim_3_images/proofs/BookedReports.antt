-- The report of such a world: its archives are those of its takes.
use Rattle.std.proofs.Common.{◌≡◌, ◌≤◌, ◌<◌, ℕ, zero, suc, zero-add, ◌+◌, Bool, true, false, not, ◌||◌, cond, List, [], ◌∷◌, ◌++◌, length, Option, Some, None, map, refl, sym, ap, subst, ◌∙◌, arith}
use Rattle.std.proofs.lemmas.List.{length-map}
use Rattle.base_lemmas.proofs.Bytes.{bytes_eq-self}
use Rattle.base_lemmas.proofs.Lists.{AllByRecursion-weaker}
use Rattle.std.proofs.lemmas.Bool.{and_from, false≢true}
use Rattle.std.proofs.lemmas.List.Folds.{list_all-append}
use Rattle.std.proofs.lemmas.Option.{none-some, same_Some, slice_get-map}
use Rattle.std.specs.Prelude.{IfSome}
use Rattle.std.specs.List.{AllByRecursion, after_first, before_first, filter, list_all, slice_get}
use Rattle.std.specs.List.Sorted.{IsNonDecreasing}
use Rattle.std.specs.Option.{option_and_then, option_map, unwrap_or}
use Rattle.std.specs.Str.{bytes_eq}
use Rattle.mam_archive.specs.Entries.{EntryView, newest}
use Rattle.srv_state.specs.State.{Kept, ServerState, archive_at, bare_address}
use Rattle.cmd_network.specs.Starting.{account_at_start, accounts_at_start}
use Rattle.base_io.proofs.NamePositions.{stands_there}
use Rattle.base_io.specs.Names.{is_among, position_of}
use Rattle.im_jid.specs.Cuts.{domain_of, is_at, is_slash, local_of, resource_of}
use Rattle.srv_login.specs.Accounts.{bare_text, names_of}
use Rattle.srv_login.specs.declared.account.Account.{Account}
use Rattle.cmd_report.proofs.TakenArchives.{length-numbered_from}
use Rattle.cmd_report.specs.Addresses as report
use Rattle.cmd_report.specs.Addresses.{domain}
use Rattle.cmd_report.specs.Lawful.{EachPair, IsOfSchedule}
use Rattle.cmd_report.specs.LawfulRuns.{IsNewestOf}
use Rattle.cmd_report.specs.EntryLines.{EntryLineView}
use Rattle.cmd_report.specs.Lines.{entry_line}
use Rattle.cmd_report.specs.Reports.{AccountView, DeviceView}
use Rattle.cmd_report.specs.Takes.{numbered_from}
use Rattle.srv_route.specs.Destinations.{RemoteDomain, account_in, at_user, destination_of}
use Rattle.cmd_schedule.specs.Contents.{accounts_of, owned_in}
use Rattle.cmd_schedule.specs.Schedules.{WireView, keep_of, seen_of}
use Rattle.cmd_schedule.proofs.Lists.{all_map, map-map}
use Rattle.cmd_schedule.specs.declared.schedule.Version.{Version}
use Rattle.srv_core.specs.Configs.{empty_kept, server_state_at_start}
use Rattle.mam_archive.specs.declared.archive.TheConstants.{GREATEST_NUMBER}
use Rattle.law_server.proofs.NumbersWithin.{IsWithin}
use Rattle.law_server.specs.Taken as server
use Rattle.law_server.specs.Taken.{IsFromSender, IsTo, account_of, all_appended, entries_for}
use Rattle.cmd_world.specs.Declaring.{AreAccounts, AreNames}
use Rattle.cmd_world.specs.Histories.{common_steps}
use Rattle.cmd_world.specs.WorldReports.{account_line, account_lines, account_where, device_line_of, report_of}
use Rattle.cmd_world.specs.Worlds.{ByteWorld}
use Rattle.sim_3_images.proofs.AccountNames.{entries_same, name_at, name_there, named, plain_at, with_names}
use Rattle.sim_3_images.proofs.AddressParts.{after_first-joined, before_first-joined, local_is}
use Rattle.sim_3_images.proofs.AppendedEntries.{all_kept}
use Rattle.sim_3_images.proofs.ArchiveStamps.{stamps_rise}
use Rattle.sim_3_images.proofs.OwnersKept.{owners_of}
use Rattle.sim_3_images.proofs.Booked.{IsBooked, line_at}
use Rattle.sim_3_images.specs.ReportTakes.{HasArchivesOfTakes, IsNoLater, IsOfAccounts, IsOfLine, Taken, concerns, history_of, line_of}

-- the server of a schedule with these accounts, before the first move
abbrev pub first_server_state : List (List ℕ) → ℕ → ServerState (List ℕ)
first_server_state names keep = server_state_at_start domain (accounts_at_start names) keep

-- the names of a schedule's accounts
abbrev pub names_in : WireView → List (List ℕ)
names_in schedule = accounts_of (common_steps schedule)

-- ---- addresses

bare_is : (names : List (List ℕ)) (keep position : ℕ) → bare_address position (first_server_state names keep) ≡ report.bare_address (name_at names position)
bare_is names keep position = ap (λ name. bare_text name domain) (name_there names position)

no_slash : (name : List ℕ) → list_all (λ b. not (is_slash b)) name ≡ true → list_all (λ b. not (is_slash b)) (report.bare_address name) ≡ true
no_slash name plain = list_all-append (λ b. not (is_slash b)) name (64 ∷ domain) ∙ and_from (list_all (λ b. not (is_slash b)) name) (list_all (λ b. not (is_slash b)) (64 ∷ domain)) plain refl

from_is : (names : List (List ℕ)) (keep : ℕ) (t : server.Taken) → AreNames names → IsFromSender (first_server_state names keep) t
    → t.entry.from ≡ report.full_address (name_at names t.sender) (after_first is_slash t.entry.from)
from_is names keep t are is =
    let sender = name_at names t.sender in
    let whole : t.entry.from ≡ report.full_address sender is.resource = is.from ∙ ap (λ bare. bare ++ 47 ∷ is.resource) (bare_is names keep t.sender) in
    let device : after_first is_slash t.entry.from ≡ is.resource =
    ap (after_first is_slash) whole ∙ after_first-joined is_slash (report.bare_address sender) 47 is.resource (no_slash sender (plain_at names t.sender are).slash) refl in
    whole ∙ ap (report.full_address sender) (sym device)

pub names_same : (names : List (List ℕ)) → names_of (accounts_at_start names) ≡ names
names_same [] = refl
names_same (name ∷ names) = ap (λ ns. name ∷ ns) (names_same names)

-- the text begins with the name of the account at a place, and that is one of these
record IsNamed (names : List (List ℕ)) (to : List ℕ) (position : ℕ) : Type 0 where
  line : before_first is_at to ≡ name_at names position
  there : position < length names

name_found : (names : List (List ℕ)) (to name : List ℕ) (position : ℕ) → before_first is_at to ≡ name → position_of name names ≡ Some position → IsNamed names to position
name_found names to name position begins is =
    let there : IfSome (Some position) (λ i. (i < length names) × (slice_get names i ≡ Some name)) =
    subst (λ (o : Option ℕ). IfSome o (λ i. (i < length names) × (slice_get names i ≡ Some name))) is (stands_there name names) in
    record { line = begins ∙ sym (ap (λ (o : Option (List ℕ)). unwrap_or o []) there.1); there = there.0 }

user_is : (o : Option ℕ) (resource : Option (List ℕ)) (account : ℕ) → account_of (at_user o resource) ≡ Some account → o ≡ Some account
user_is None resource account is = absurd (none-some account is)
user_is (Some position) None account is = is
user_is (Some position) (Some resource) account is = is

local_named : (names : List (List ℕ)) (to : List ℕ) (o : Option (List ℕ)) (account : ℕ) → local_of to ≡ o → option_and_then (λ name. position_of name (names_of (accounts_at_start names))) o ≡ Some account → IsNamed names to account
local_named names to None account local is = absurd (none-some account is)
local_named names to (Some name) account local is = name_found names to name account (local_is to name local) (subst (λ ns. position_of name ns ≡ Some account) (names_same names) is)

here_named : (names : List (List ℕ)) (to : List ℕ) (b : Bool) (account : ℕ) → account_of (cond b (at_user (account_in to (accounts_at_start names)) (resource_of to)) RemoteDomain) ≡ Some account → IsNamed names to account
here_named names to true account is = local_named names to (local_of to) account refl (user_is (account_in to (accounts_at_start names)) (resource_of to) account is)
here_named names to false account is = absurd (none-some account is)

given_named : (names : List (List ℕ)) (keep : ℕ) (t : server.Taken) (given : Option (List ℕ)) → AreNames names → t.sender < length names → t.entry.to ≡ unwrap_or given (bare_address t.sender (first_server_state names keep))
    → account_of (destination_of domain (accounts_at_start names) t.sender given) ≡ Some t.addressee → IsNamed names t.entry.to t.addressee
given_named names keep t None are there to names_it =
    let sender = name_at names t.sender in
    let same = same_Some t.sender t.addressee names_it in
    record {
      line =
          ap (before_first is_at) (to ∙ bare_is names keep t.sender) ∙ before_first-joined is_at sender 64 domain (plain_at names t.sender are).at refl ∙ ap (name_at names) same;
      there = subst (λ position. position < length names) same there;
    }
given_named names keep t (Some address) are there to names_it =
    subst (λ text. IsNamed names text t.addressee) (sym to) (here_named names address (bytes_eq (domain_of address) domain) t.addressee names_it)

sender_there : (names : List (List ℕ)) (keep : ℕ) (t : server.Taken) → IsFromSender (first_server_state names keep) t → t.sender < length names
sender_there names keep t is = subst (λ n. t.sender < n) (length-map names account_at_start) is.exists

is_named : (names : List (List ℕ)) (keep : ℕ) (t : server.Taken) → AreNames names → IsTo (first_server_state names keep) t → IsFromSender (first_server_state names keep) t → IsNamed names t.entry.to t.addressee
is_named names keep t are to from = given_named names keep t to.given are (sender_there names keep t from) to.to to.addressee

of_line : (version : Version) (names : List (List ℕ)) (keep : ℕ) (t : server.Taken) → AreNames names → IsTo (first_server_state names keep) t → IsFromSender (first_server_state names keep) t
    → IsOfLine (line_of version (with_names names t)) (with_names names t)
of_line version names keep t are to from = record { from = from_is names keep t are from; account = (is_named names keep t are to from).line }

all_of_lines : (version : Version) (names : List (List ℕ)) (keep : ℕ) (takes : List server.Taken) → AreNames names → AllByRecursion (IsTo (first_server_state names keep)) takes → AllByRecursion (IsFromSender (first_server_state names keep)) takes
    → AllByRecursion (λ (t : Taken). IsOfLine (line_of version t) t) (map (with_names names) takes)
all_of_lines version names keep [] are to from = tt
all_of_lines version names keep (t ∷ takes) are to from = (of_line version names keep t are to.0 from.0, all_of_lines version names keep takes are to.1 from.1)

-- ---- accounts

among_names : (names : List (List ℕ)) (position : ℕ) → position < length names → is_among (name_at names position) names ≡ true
among_names [] position there = absurd (omega (arith, there))
among_names (name ∷ names) zero there = rw (bytes_eq-self name) refl
among_names (name ∷ names) (suc position) there = or_there (bytes_eq (name_at names position) name) (is_among (name_at names position) names) (among_names names position (omega (arith, there)))
  where
    or_there : (x y : Bool) → y ≡ true → (x || y) ≡ true
    or_there true y h = refl
    or_there false y h = h

all_of_accounts : (schedule : WireView) (takes : List server.Taken) → AreNames (names_in schedule) → AllByRecursion (IsTo (first_server_state (names_in schedule) (keep_of schedule.version))) takes
    → AllByRecursion (IsFromSender (first_server_state (names_in schedule) (keep_of schedule.version))) takes → AllByRecursion (IsOfAccounts (seen_of schedule)) (map (with_names (names_in schedule)) takes)
all_of_accounts schedule [] are to from = tt
all_of_accounts schedule (t ∷ takes) are to from =
    let names = names_in schedule in
    let keep = keep_of schedule.version in (
      record {
        sender = among_names names t.sender (sender_there names keep t from.0);
        addressee = among_names names t.addressee (is_named names keep t are to.0 from.0).there;
      },
      all_of_accounts schedule takes are to.1 from.1,
    )

-- ---- moments

all_no_later : (names : List (List ℕ)) (t : server.Taken) (us : List server.Taken) → AllByRecursion (λ (u : server.Taken). t.entry.stamp ≤ u.entry.stamp) us → AllByRecursion (IsNoLater (with_names names t)) (map (with_names names) us)
all_no_later names t us all = all_map (IsNoLater (with_names names t)) (with_names names) us all

in_order : (names : List (List ℕ)) (ts : List server.Taken) → EachPair (λ (t u : server.Taken). t.entry.stamp ≤ u.entry.stamp) ts → EachPair IsNoLater (map (with_names names) ts)
in_order names [] order = tt
in_order names (t ∷ ts) order = (all_no_later names t ts order.0, in_order names ts order.1)

-- ---- archives

archive_first : (names : List (List ℕ)) (keep position : ℕ) (name : List ℕ) → slice_get names position ≡ Some name → archive_at position (first_server_state names keep) ≡ Some (empty_kept domain keep name)
archive_first names keep position name is =
    slice_get-map (λ (a : Account). empty_kept domain keep a.name) (accounts_at_start names) position
    ∙ ap (option_map (λ (a : Account). empty_kept domain keep a.name)) (slice_get-map account_at_start names position ∙ ap (option_map account_at_start) is)

is_newest : (keep : ℕ) (name : List ℕ) (es : List EntryView) (takes : List Taken) → es ≡ map (λ (t : Taken). t.entry) (filter (concerns name) takes)
    → IsNewestOf keep (history_of name takes) (account_line name (all_appended es (empty_kept domain keep name)))
is_newest keep name es takes same =
    let none : length (empty_kept domain keep name).entries ≤ keep = omega arith in
    let kept = all_kept es (empty_kept domain keep name) none in
    let history : numbered_from 1 es ≡ history_of name takes = ap (numbered_from 1) same in
    record {
      entries = ap (λ (k : Kept). map entry_line k.entries) kept ∙ ap (λ (h : List EntryView). map entry_line (newest keep h)) history;
      last = ap (λ (k : Kept). k.last) kept ∙ zero-add (length es) ∙ sym (length-numbered_from 1 es) ∙ ap length history;
    }

where_kept : (P : AccountView → Type 0) (name : List ℕ) (o : Option Kept) (kept : Kept) (more : List AccountView) → o ≡ Some kept → P (account_line name kept) → AllByRecursion P more → AllByRecursion P (account_where name o ++ more)
where_kept P name None kept more is here rest = absurd (none-some kept is)
where_kept P name (Some k) kept more is here rest = (subst (λ (x : Kept). P (account_line name x)) (sym (same_Some k kept is)) here, rest)

lines_newest : (names : List (List ℕ)) (keep : ℕ) (archives : List Kept) (takes : List server.Taken) → AreAccounts [] names → AreNames names
    → ((position : ℕ) → slice_get archives position ≡ option_map (all_appended (entries_for position takes)) (archive_at position (first_server_state names keep)))
    → (position : ℕ) (rest : List (List ℕ)) → ((i : ℕ) (name : List ℕ) → slice_get rest i ≡ Some name → slice_get names (position + i) ≡ Some name)
    → AllByRecursion (λ a. IsNewestOf keep (history_of a.name (map (with_names names) takes)) a) (account_lines position rest archives)
lines_newest names keep archives takes accounts are got position [] following = tt
lines_newest names keep archives takes accounts are got position (name ∷ rest) following =
    let same : position + 0 ≡ position = omega arith in
    let here : slice_get names position ≡ Some name = ap (slice_get names) (sym same) ∙ following 0 name refl in
    let es = entries_for position takes in
    let kept : slice_get archives position ≡ Some (all_appended es (empty_kept domain keep name)) = got position ∙ ap (option_map (all_appended es)) (archive_first names keep position name here) in
    where_kept (λ a. IsNewestOf keep (history_of a.name (map (with_names names) takes)) a) name (slice_get archives position) (all_appended es (empty_kept domain keep name))
    (account_lines (position + 1) rest archives) kept
    (is_newest keep name es (map (with_names names) takes) (entries_same names position name accounts (named names position name are here) here takes))
    (lines_newest names keep archives takes accounts are got (position + 1) rest (λ i other is. ap (slice_get names) (let next : position + 1 + i ≡ position + suc i = omega arith in next) ∙ following (suc i) other is))

where_named : (name : List ℕ) (o : Option Kept) (kept : Kept) (more : List AccountView) → o ≡ Some kept → map (λ (a : AccountView). a.name) (account_where name o ++ more) ≡ name ∷ map (λ (a : AccountView). a.name) more
where_named name None kept more is = absurd (none-some kept is)
where_named name (Some k) kept more is = refl

names_told : (names : List (List ℕ)) (keep : ℕ) (archives : List Kept) (takes : List server.Taken)
    → ((position : ℕ) → slice_get archives position ≡ option_map (all_appended (entries_for position takes)) (archive_at position (first_server_state names keep)))
    → (position : ℕ) (rest : List (List ℕ)) → ((i : ℕ) (name : List ℕ) → slice_get rest i ≡ Some name → slice_get names (position + i) ≡ Some name)
    → map (λ (a : AccountView). a.name) (account_lines position rest archives) ≡ rest
names_told names keep archives takes got position [] following = refl
names_told names keep archives takes got position (name ∷ rest) following =
    let same : position + 0 ≡ position = omega arith in
    let here : slice_get names position ≡ Some name = ap (slice_get names) (sym same) ∙ following 0 name refl in
    let es = entries_for position takes in
    let kept : slice_get archives position ≡ Some (all_appended es (empty_kept domain keep name)) = got position ∙ ap (option_map (all_appended es)) (archive_first names keep position name here) in
    where_named name (slice_get archives position) (all_appended es (empty_kept domain keep name)) (account_lines (position + 1) rest archives) kept
    ∙ ap (λ (ns : List (List ℕ)). name ∷ ns)
    (names_told names keep archives takes got (position + 1) rest (λ i other is. ap (slice_get names) (let next : position + 1 + i ≡ position + suc i = omega arith in next) ∙ following (suc i) other is))

counted_where : (name : List ℕ) (o : Option Kept) (more : List AccountView) → AllByRecursion (λ (a : AccountView). a.count ≡ length a.entries) more → AllByRecursion (λ (a : AccountView). a.count ≡ length a.entries) (account_where name o ++ more)
counted_where name None more rest = rest
counted_where name (Some kept) more rest = (sym (length-map kept.entries entry_line), rest)

counted : (position : ℕ) (names : List (List ℕ)) (archives : List Kept) → AllByRecursion (λ (a : AccountView). a.count ≡ length a.entries) (account_lines position names archives)
counted position [] archives = tt
counted position (name ∷ names) archives = counted_where name (slice_get archives position) (account_lines (position + 1) names archives) (counted (position + 1) names archives)

within_where : (name : List ℕ) (o : Option Kept) (more : List AccountView) → IsWithin o → AllByRecursion (λ (a : AccountView). a.last ≤ GREATEST_NUMBER) more → AllByRecursion (λ (a : AccountView). a.last ≤ GREATEST_NUMBER) (account_where name o ++ more)
within_where name None more is rest = rest
within_where name (Some kept) more is rest = (is, rest)

lines_within : (position : ℕ) (names : List (List ℕ)) (archives : List Kept) → ((account : ℕ) → IsWithin (slice_get archives account)) → AllByRecursion (λ (a : AccountView). a.last ≤ GREATEST_NUMBER) (account_lines position names archives)
lines_within position [] archives each = tt
lines_within position (name ∷ names) archives each = within_where name (slice_get archives position) (account_lines (position + 1) names archives) (each position) (lines_within (position + 1) names archives each)

-- ---- the report

rising : (keep : ℕ) (takes : List Taken) → EachPair IsNoLater takes → (a : AccountView) → IsNewestOf keep (history_of a.name takes) a → IsNonDecreasing (map (λ (e : EntryLineView). e.stamp) a.entries)
rising keep takes order a is = subst (λ (es : List EntryLineView). IsNonDecreasing (map (λ (e : EntryLineView). e.stamp) es)) (sym is.entries) (stamps_rise keep a.name takes order)

-- the lines of accounts are those of the schedule's, with the newest of their histories
record AreRight (schedule : WireView) (takes : List Taken) (accounts : List AccountView) : Type 0 where
  names : map (λ (a : AccountView). a.name) accounts ≡ names_in schedule
  counts : AllByRecursion (λ (a : AccountView). a.count ≡ length a.entries) accounts
  archives : AllByRecursion (λ a. IsNewestOf (keep_of schedule.version) (history_of a.name takes) a) accounts
  numbers : AllByRecursion (λ (a : AccountView). a.last ≤ GREATEST_NUMBER) accounts

are_right : (schedule : WireView) (w : ByteWorld) → AreAccounts [] (names_in schedule) → AreNames (names_in schedule)
    → (is : IsBooked schedule.version (names_in schedule) (first_server_state (names_in schedule) (keep_of schedule.version)) w) → AreRight schedule (map (with_names (names_in schedule)) is.takes) (account_lines 0 w.accounts w.server.server_state.archives)
are_right schedule w accounts are is =
    let names = names_in schedule in
    let keep = keep_of schedule.version in
    let archives = w.server.server_state.archives in
    let right : AreRight schedule (map (with_names names) is.takes) (account_lines 0 names archives) = record {
      names = names_told names keep archives is.takes is.archives 0 names (λ i name there. ap (slice_get names) (zero-add i) ∙ there);
      counts = counted 0 names archives;
      numbers = lines_within 0 names archives is.sound.archives;
      archives = lines_newest names keep archives is.takes accounts are is.archives 0 names (λ i name there. ap (slice_get names) (zero-add i) ∙ there);
    } in
    subst (λ (ns : List (List ℕ)). AreRight schedule (map (with_names names) is.takes) (account_lines 0 ns archives)) (sym is.names_are) right

of_schedule : (schedule : WireView) (w : ByteWorld) (takes : List Taken) → AreRight schedule takes (account_lines 0 w.accounts w.server.server_state.archives) → owners_of w ≡ owned_in (common_steps schedule) → IsOfSchedule (seen_of schedule) (report_of w)
of_schedule schedule w takes right owners = record {
  mode = refl;
  accounts = right.names;
  devices = map-map (device_line_of w) (λ (d : DeviceView). record { device = d.name; account = d.account }) w.devices ∙ owners;
  counts = right.counts;
  conns = λ direct. absurd (false≢true (sym direct));
}

pub reported : (schedule : WireView) (w : ByteWorld) → AreAccounts [] (names_in schedule) → AreNames (names_in schedule)
    → IsBooked schedule.version (names_in schedule) (first_server_state (names_in schedule) (keep_of schedule.version)) w → owners_of w ≡ owned_in (common_steps schedule) → HasArchivesOfTakes schedule (report_of w)
reported schedule w accounts are is owners =
    let names = names_in schedule in
    let keep = keep_of schedule.version in
    let takes = map (with_names names) is.takes in
    let right = are_right schedule w accounts are is in
    let moments = in_order names is.takes is.order in (
      takes,
      record {
        whole = of_schedule schedule w takes right owners;
        lines = is.lines_are ∙ ap (λ version. map (line_at version) is.takes) is.version_is ∙ sym (map-map (with_names names) (line_of schedule.version) is.takes);
        each = all_of_lines schedule.version names keep is.takes are is.addressees is.senders;
        exist = all_of_accounts schedule is.takes are is.addressees is.senders;
        moments = moments;
        archives = right.archives;
        numbers = right.numbers;
        stamps = AllByRecursion-weaker (λ a. IsNewestOf keep (history_of a.name takes) a) (λ (a : AccountView). IsNonDecreasing (map (λ (e : EntryLineView). e.stamp) a.entries)) (rising keep takes moments)
            (account_lines 0 w.accounts w.server.server_state.archives) right.archives;
      },
    )
