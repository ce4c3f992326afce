-- What a run is after one step more.
use Rattle.std.proofs.Common.{◌≡◌, ◌≢◌, ℕ, ◌+◌, ◌<◌, ◌≤◌, Bool, true, false, cond, not, ◌&&◌, List, [], ◌∷◌, ◌++◌, Option, Some, None, IsTrue, nat_lt, nat_le, length, get_or, set, map, refl, sym, ap, ◌∙◌, subst, arith, inl, inr}
use Rattle.std.proofs.lemmas.Bool.{and_parts, cases_eq, false≢true, leb-true, not-true, or_parts}
use Rattle.std.proofs.lemmas.List.{append-nil, get_or-map, get_or-set_other, get_or-set_same, length-append, length-map, length-set, map_push}
use Rattle.std.proofs.lemmas.List.Sums.{sum_by-cons}
use Rattle.std.proofs.lemmas.List.Elements.{All-push, All-weaker, filter-append}
use Rattle.std.specs.List.{filter}
use Rattle.std.proofs.lemmas.Option.{get_or_from_slice_get, slice_get_within}
use Rattle.std.proofs.Math.Seq.{map-set_same}
use Rattle.std.specs.List.{All, slice_get}
use Rattle.std.specs.Option.{option_map_or}
use Rattle.std.specs.Str.{bytes_eq}
use Rattle.mam_archive.specs.Entries.{AreKept, EntryView, newest}
use Rattle.mam_log.specs.LogPages.{LogPage}
use Rattle.mam_log.specs.Views.{LogView}
use Rattle.cmd_replay.proofs.CatchUps.{catch_up_logged, log_after_in_order}
use Rattle.cmd_replay.proofs.InOrder.{logged_number, rises_higher}
use Rattle.cmd_replay.proofs.Deliveries.{among_placed, delivered_takes, named_at, names_apart, not_placed, once_among, once_push}
use Rattle.cmd_schedule.proofs.Prefixes.{among_push, along_push, devices_push, home_push, sent_few}
use Rattle.cmd_replay.proofs.KeptHistories.{archive_kept}
use Rattle.cmd_report.proofs.TakenArchives.{archive_few, length-numbered_from}
use Rattle.cmd_direct.proofs.Prefixes.{pages_push, takes_few, takes_push}
use Rattle.cmd_report.specs.Takes.{Take, archive_of, concerns, entry_of}
use Rattle.cmd_schedule.proofs.Moments.{moment_push}
use Rattle.cmd_schedule.specs.Contents.{accounts_of, along, device_name, devices_of, home_of, is_said_by, moment_after, sent_by, ticked}
use Rattle.cmd_schedule.specs.Schedules.{keep_of}
use Rattle.cmd_schedule.specs.declared.schedule.Version.{Version}
use Rattle.cmd_direct.specs.Direct.{catch_up, kept_after, pages_after, pages_of, said_at, said_line, take_at, taken, takes_of}
use Rattle.cmd_report.specs.Addresses.{bare_address}
use Rattle.cmd_report.specs.Lines.{take_line}
use Rattle.cmd_schedule.specs.Grammar.{is_name, is_text, may_stand}
use Rattle.base_io.specs.Names.{is_among, position_of}
use Rattle.cmd_replay.specs.Homes.{Home, delivered, empty_home, home_at, names_of}
use Rattle.cmd_replay.specs.Messages.{homes_after, said_by, sent_of, take_by, takes_after}
use Rattle.cmd_replay.specs.Runs.{HasCaughtUp, HasDeclared, HasFollowed, HasSent, HasTicked, IsAfter, IsDevice, IsReady, IsReadyDevice, IsUnused, MayFollow}
use Rattle.cmd_schedule.specs.Standing.{AreOnce, declared_in}
use Rattle.cmd_replay.specs.Turns.{IsInOrder, IsLogOf, caught_up}
use Rattle.cmd_report.specs.declared.report.SaidLine.{SaidLine}
use Rattle.cmd_report.specs.declared.report.SaidMark.TheVariants.{Acknowledged}
use Rattle.cmd_report.specs.declared.report.TakeLine.{TakeLine}
use Rattle.cmd_replay.specs.declared.run.Run.{Run}
use Rattle.cmd_replay.specs.Devices.{DeviceState}
use Rattle.cmd_schedule.specs.declared.schedule.Step.{Step}
use Rattle.cmd_schedule.specs.declared.schedule.Step.TheVariants.{Account, Device as DeviceStep, Say, Private, Catchup, Tick}
use Rattle.base_lemmas.proofs.Bytes.{bytes_eq-self, bytes_eq-from_other}

-- further takes only add to an archive
longer : (account : List ℕ) (takes more : List Take) → length (archive_of account takes) ≤ length (archive_of account (takes ++ more))
longer account takes more =
    omega (
      arith,
      length-numbered_from 1 (map entry_of (filter (concerns account) takes)),
      length-numbered_from 1 (map entry_of (filter (concerns account) (takes ++ more))),
      length-map (filter (concerns account) takes) entry_of,
      length-map (filter (concerns account) (takes ++ more)) entry_of,
      ap length (filter-append (concerns account) takes more),
      length-append (filter (concerns account) takes) (filter (concerns account) more),
    )

-- so a log in order stays so
order_after : (account : List ℕ) (takes more : List Take) (log : LogView) → IsInOrder (length (archive_of account takes)) log.entries →
    IsInOrder (length (archive_of account (takes ++ more))) log.entries
order_after account takes more log order = record {
  ids = order.ids;
  rise = rises_higher 0 (length (archive_of account takes)) (length (archive_of account (takes ++ more))) (map logged_number log.entries) (longer account takes more) order.rise;
}

-- a step that does not move the clock
no_tick : (before : List Step) (step : Step) → ticked step ≡ 0 → moment_after (before ++ step ∷ []) ≡ moment_after before
no_tick before step none = let more : moment_after (before ++ step ∷ []) ≡ moment_after before + ticked step = moment_push before step in omega (arith, more, none)

module _ (version : Version) where
  -- a device after one step more, by what the step does to it
  pub device_after : (all before : List Step) (step : Step) (old new : DeviceState) → new.name ≡ old.name → new.account ≡ old.account → new.home ≡ old.home →
      home_of (before ++ step ∷ []) old.name ≡ home_of before old.name →
      new.said.items ≡ old.said.items ++ said_at old.name before step →
      IsLogOf (pages_after (keep_of version) all old.name before (pages_of (keep_of version) all old.name before) step) new.log →
      IsInOrder (length (archive_of old.account (takes_of all (before ++ step ∷ [])))) new.log.entries →
      IsDevice (keep_of version) all before old → IsDevice (keep_of version) all (before ++ step ∷ []) new
  device_after all before step old new named owned housed home said log order is = record {
    account = owned ∙ is.account ∙ sym home ∙ ap (home_of (before ++ step ∷ [])) (sym named);
    position = ap (λ a. position_of a (accounts_of all)) owned ∙ is.position ∙ ap Some (sym housed);
    said = said ∙ ap (λ t. t ++ said_at old.name before step) is.said ∙ sym (along_push (said_at old.name) [] before step)
        ∙ ap (λ n. along (said_at n) [] (before ++ step ∷ [])) (sym named);
    log = subst (λ pages. IsLogOf pages new.log) (sym (pages_push (keep_of version) all before old.name step) ∙ ap (λ n. pages_of (keep_of version) all n (before ++ step ∷ [])) (sym named)) log;
    in_order = subst (λ a. IsInOrder (length (archive_of a (takes_of all (before ++ step ∷ [])))) new.log.entries) (sym owned) order;
  }

  one_counted : {A : Type 0} (hit : Bool) (x : A) → length (cond hit (x ∷ []) []) ≡ cond hit 1 0
  one_counted true x = refl
  one_counted false x = refl

  said_one : (name : List ℕ) (before : List Step) (step : Step) → length (said_at name before step) ≡ cond (is_said_by name step) 1 0
  said_one name before (Say device to text) = one_counted (bytes_eq name device) _
  said_one name before (Account other) = refl
  said_one name before (DeviceStep other account) = refl
  said_one name before (Private device to text) = one_counted (bytes_eq name device) _
  said_one name before (Catchup other most) = refl
  said_one name before (Tick ms) = refl

  -- a device's lines are as many as it sent
  said_count : (name : List ℕ) (before steps : List Step) → length (along (said_at name) before steps) ≡ sent_by name steps
  said_count name before [] = refl
  said_count name before (step ∷ steps) =
      length-append (said_at name before step) (along (said_at name) (before ++ step ∷ []) steps)
      ∙ ap (λ n. n + length (along (said_at name) (before ++ step ∷ []) steps)) (said_one name before step)
      ∙ ap (λ n. cond (is_said_by name step) 1 0 + n) (said_count name (before ++ step ∷ []) steps)
      ∙ sym (sum_by-cons (λ s. cond (is_said_by name s) 1 0) step steps)

  device_sent : (all before : List Step) (device : DeviceState) → IsDevice (keep_of version) all before device → sent_of device ≡ sent_by device.name before
  device_sent all before device is = ap length is.said ∙ said_count device.name [] before

  -- a device of another name, or one that the step does not name
  pub device_stays : (all before : List Step) (step : Step) (device : DeviceState) →
      home_of (before ++ step ∷ []) device.name ≡ home_of before device.name → said_at device.name before step ≡ [] →
      pages_after (keep_of version) all device.name before (pages_of (keep_of version) all device.name before) step ≡ pages_of (keep_of version) all device.name before →
      IsDevice (keep_of version) all before device → IsDevice (keep_of version) all (before ++ step ∷ []) device
  device_stays all before step device home said pages is =
      device_after all before step device device refl refl refl home
      (sym (append-nil device.said.items) ∙ ap (λ t. device.said.items ++ t) (sym said))
      (subst (λ ps. IsLogOf ps device.log) (sym pages) is.log)
      (subst (λ ts. IsInOrder (length (archive_of device.account ts)) device.log.entries) (sym (takes_push all before step))
      (order_after device.account (takes_of all before) (take_at all before step) device.log is.in_order))
      is

  -- a name that no step used, and that this one does not use
  pub unused_stays : (all before : List Step) (step : Step) (name : List ℕ) → said_at name before step ≡ [] →
      pages_after (keep_of version) all name before (pages_of (keep_of version) all name before) step ≡ pages_of (keep_of version) all name before → IsUnused (keep_of version) all before name → IsUnused (keep_of version) all (before ++ step ∷ []) name
  unused_stays all before step name said pages is = record {
    said = along_push (said_at name) [] before step ∙ ap (λ t. along (said_at name) [] before ++ t) said ∙ append-nil (along (said_at name) [] before) ∙ is.said;
    pages = pages_push (keep_of version) all before name step ∙ pages ∙ is.pages;
  }

  -- the device at a place has a name that was declared
  pub name_known : (all before : List Step) (run : Run) (k : ℕ) (d : DeviceState) → IsAfter version all before run → k < length run.devices.items →
      is_among (get_or run.devices.items k d).name (devices_of before) ≡ true
  name_known all before run k d is within =
      let same : get_or (devices_of before) k [] ≡ (get_or run.devices.items k d).name =
      ap (λ ns. get_or ns k []) (sym is.names) ∙ get_or-map (λ (e : DeviceState). e.name) run.devices.items k d [] within in
      let size : length (devices_of before) ≡ length run.devices.items = ap length (sym is.names) ∙ length-map run.devices.items (λ (e : DeviceState). e.name) in
      ap (λ n. is_among n (devices_of before)) (sym same) ∙ once_among (devices_of before) k [] is.once (omega arith)

  -- the device at another place has another name
  pub name_elsewhere : (all before : List Step) (run : Run) (k i : ℕ) (d : DeviceState) (name : List ℕ) → IsAfter version all before run → k < length run.devices.items →
      position_of name run.index ≡ Some i → k ≢ i → (get_or run.devices.items k d).name ≢ name
  name_elsewhere all before run k i d name is within at apart same =
      let here : get_or (devices_of before) k [] ≡ (get_or run.devices.items k d).name =
      ap (λ ns. get_or ns k []) (sym is.names) ∙ get_or-map (λ (e : DeviceState). e.name) run.devices.items k d [] within in
      let size : length (devices_of before) ≡ length run.devices.items = ap length (sym is.names) ∙ length-map run.devices.items (λ (e : DeviceState). e.name) in
      names_apart (devices_of before) k i name [] is.once (omega arith) (ap (position_of name) (sym is.index) ∙ at) apart (here ∙ same)

  -- the device at a name's place has the name
  pub name_here : (all before : List Step) (run : Run) (i : ℕ) (device : DeviceState) (name : List ℕ) → IsAfter version all before run →
      position_of name run.index ≡ Some i → slice_get run.devices.items i ≡ Some device → device.name ≡ name
  name_here all before run i device name is at there =
      let within = slice_get_within run.devices.items i device there in
      let read : get_or run.devices.items i device ≡ device = get_or_from_slice_get run.devices.items i device device there in
      let stands = named_at name (devices_of before) i (ap (position_of name) (sym is.index) ∙ at) in
      sym (ap (λ (d : DeviceState). d.name) read)
      ∙ sym (get_or-map (λ (e : DeviceState). e.name) run.devices.items i device [] within)
      ∙ ap (λ ns. get_or ns i []) is.names
      ∙ get_or_from_slice_get (devices_of before) i name [] stands.1

  pub device_here : (all before : List Step) (run : Run) (i : ℕ) (device : DeviceState) → IsAfter version all before run →
      slice_get run.devices.items i ≡ Some device → IsDevice (keep_of version) all before device
  device_here all before run i device is there =
      subst (λ (d : DeviceState). IsDevice (keep_of version) all before d) (get_or_from_slice_get run.devices.items i device device there)
      (is.devices i device (slice_get_within run.devices.items i device there))

  -- the names of the accounts
  pub homes_named : (takes : List Take) (accounts : List (List ℕ)) → names_of (map (home_at (keep_of version) takes) accounts) ≡ accounts
  homes_named takes [] = refl
  homes_named takes (a ∷ accounts) = ap (λ t. a ∷ t) (homes_named takes accounts)

  pub run_names : (all before : List Step) (run : Run) → IsAfter version all before run → names_of run.accounts.homes ≡ accounts_of all
  run_names all before run is = ap names_of is.homes ∙ homes_named (takes_of all before) (accounts_of all)

  -- the account at a device's place
  pub home_is : (all before : List Step) (run : Run) (device : DeviceState) (d : Home) → IsAfter version all before run → IsDevice (keep_of version) all before device →
      get_or run.accounts.homes device.home d ≡ home_at (keep_of version) (takes_of all before) device.account
  home_is all before run device d is one =
      let stands = named_at device.account (accounts_of all) device.home one.position in
      ap (λ homes. get_or homes device.home d) is.homes
      ∙ get_or-map (home_at (keep_of version) (takes_of all before)) (accounts_of all) device.home [] d stands.0
      ∙ ap (home_at (keep_of version) (takes_of all before)) (get_or_from_slice_get (accounts_of all) device.home device.account [] stands.1)

  pub archive_small : (all before : List Step) (account : List ℕ) → length (archive_of account (takes_of all before)) ≤ length before
  archive_small all before account = omega (arith, archive_few account (takes_of all before), takes_few all before)

  -- a run in the middle of a schedule is ready for a step
  pub ready_after : (all before : List Step) (run : Run) → length before < 100000 → moment_after before ≤ 100000000000000 → IsAfter version all before run → IsReady run
  ready_after all before run few early is = record { names = is.index ∙ sym is.names; devices = devices; few = small; early = rw is.moment early }
    where
      devices : All (IsReadyDevice run.accounts.homes) run.devices.items
      devices = All-weaker (IsDevice (keep_of version) all before) (IsReadyDevice run.accounts.homes) (λ (device : DeviceState) one. record {
        sent = let count = device_sent all before device one in omega (arith, sent_few device.name before);
        home = let stands = named_at device.account (accounts_of all) device.home one.position in
            omega (arith, ap length is.homes, length-map (accounts_of all) (home_at (keep_of version) (takes_of all before)));
        closed = one.log.closed;
        in_order = λ (d : Home). subst (λ n. IsInOrder n device.log.entries) (sym (ap (λ (h : Home). h.last) (home_is all before run device d is one))) one.in_order;
      }) run.devices.items is.devices

      small : All (λ (home : Home). home.last < 4294967294) run.accounts.homes
      small k d within =
          let size : length run.accounts.homes ≡ length (accounts_of all) = ap length is.homes ∙ length-map (accounts_of all) (home_at (keep_of version) (takes_of all before)) in
          let here : (get_or run.accounts.homes k d).last ≡ length (archive_of (get_or (accounts_of all) k []) (takes_of all before)) =
          ap (λ homes. (get_or homes k d).last) is.homes
          ∙ ap (λ (h : Home). h.last) (get_or-map (home_at (keep_of version) (takes_of all before)) (accounts_of all) k [] d (omega arith)) in
          omega (arith, here, archive_small all before (get_or (accounts_of all) k []))

  -- a name that no line has declared is not the name of one that was
  unlike : (name other : List ℕ) (names : List (List ℕ)) → is_among name names ≡ false → is_among other names ≡ true → name ≢ other
  unlike name other names absent there same = false≢true (sym absent ∙ ap (λ n. is_among n names) same ∙ there)

  -- what a step that declares no device leaves of the names
  no_device : (before : List Step) (step : Step) → device_name step ≡ [] → devices_of (before ++ step ∷ []) ≡ devices_of before
  no_device before step none = devices_push before step ∙ ap (λ t. devices_of before ++ t) none ∙ append-nil (devices_of before)

  home_known : (before : List Step) (step : Step) (name : List ℕ) → is_among name (devices_of before) ≡ true → home_of (before ++ step ∷ []) name ≡ home_of before name
  home_known before step name known = home_push before step name ∙ ap (λ b. cond b (home_of before name) (home_of (step ∷ []) name)) known

  -- a step that takes no message
  no_take : (all before : List Step) (step : Step) → take_at all before step ≡ [] → takes_of all (before ++ step ∷ []) ≡ takes_of all before
  no_take all before step none = takes_push all before step ∙ ap (λ t. takes_of all before ++ t) none ∙ append-nil (takes_of all before)

  after_account : (all before : List Step) (name : List ℕ) (run : Run) → IsAfter version all before run → IsAfter version all (before ++ Account name ∷ []) run
  after_account all before name run is = record {
    version_is = is.version_is;
    keeps = is.keeps;
    moment = is.moment ∙ sym (no_tick before (Account name) refl);
    homes = is.homes ∙ ap (λ ts. map (home_at (keep_of version) ts) (accounts_of all)) (sym (no_take all before (Account name) refl));
    takes = is.takes ∙ ap (map (take_line version)) (sym (no_take all before (Account name) refl));
    index = is.index ∙ sym (no_device before (Account name) refl);
    names = is.names ∙ sym (no_device before (Account name) refl);
    devices = λ k d within. device_stays all before (Account name) (get_or run.devices.items k d)
        (home_known before (Account name) (get_or run.devices.items k d).name (name_known all before run k d is within)) refl refl (is.devices k d within);
    once = subst AreOnce (sym (no_device before (Account name) refl)) is.once;
    unused = λ other absent. unused_stays all before (Account name) other refl refl
        (is.unused other (ap (is_among other) (sym (no_device before (Account name) refl)) ∙ absent));
  }

  order_of_none : (last : ℕ) (log : LogView) → log.entries ≡ [] → IsInOrder last log.entries
  order_of_none last log none = subst (λ es. IsInOrder last es) (sym none) (record { ids = tt; rise = tt })

  after_device : (all before : List Step) (name account : List ℕ) (run next : Run) → IsAfter version all before run → is_among name (devices_of before) ≡ false →
      HasDeclared run next name account → IsAfter version all (before ++ DeviceStep name account ∷ []) next
  after_device all before name account run next is fresh made = record {
    version_is = made.frame.version ∙ is.version_is;
    keeps = made.frame.keep ∙ is.keeps;
    moment = made.frame.moment ∙ is.moment ∙ sym (no_tick before step refl);
    homes = made.homes ∙ is.homes ∙ ap (λ ts. map (home_at (keep_of version) ts) (accounts_of all)) (sym (no_take all before step refl));
    takes = made.takes ∙ is.takes ∙ ap (map (take_line version)) (sym (no_take all before step refl));
    index = made.index ∙ ap (λ t. t ++ name ∷ []) is.index ∙ sym (devices_push before step);
    names = ap (map (λ (d : DeviceState). d.name)) made.devices ∙ map_push (λ (d : DeviceState). d.name) run.devices.items made.new
        ∙ ap (λ t. t ++ made.new.name ∷ []) is.names ∙ ap (λ n. devices_of before ++ n ∷ []) made.named ∙ sym (devices_push before step);
    devices = subst (λ (ds : List DeviceState). All (IsDevice (keep_of version) all (before ++ step ∷ [])) ds) (sym made.devices)
        (All-push (IsDevice (keep_of version) all (before ++ step ∷ [])) run.devices.items made.new others newest);
    once = subst AreOnce (sym (devices_push before step)) (once_push (devices_of before) name is.once fresh);
    unused = λ other absent. unused_stays all before step other refl refl
        (is.unused other (or_parts (is_among other (devices_of before)) (is_among other (device_name step)) (sym (among_push other before step) ∙ absent)).0);
  }
    where
      step : Step
      step = DeviceStep name account

      others : All (IsDevice (keep_of version) all (before ++ DeviceStep name account ∷ [])) run.devices.items
      others k d within = device_stays all before (DeviceStep name account) (get_or run.devices.items k d)
          (home_known before (DeviceStep name account) (get_or run.devices.items k d).name (name_known all before run k d is within)) refl refl (is.devices k d within)

      unsaid : IsUnused (keep_of version) all (before ++ DeviceStep name account ∷ []) name
      unsaid = unused_stays all before (DeviceStep name account) name refl refl (is.unused name fresh)

      owner : home_of (before ++ DeviceStep name account ∷ []) name ≡ account
      owner = home_push before (DeviceStep name account) name
          ∙ ap (λ b. cond b (home_of before name) (home_of (DeviceStep name account ∷ []) name)) fresh
          ∙ ap (λ b. cond b account []) (bytes_eq-self name)

      newest : IsDevice (keep_of version) all (before ++ DeviceStep name account ∷ []) made.new
      newest = record {
        account = made.owned ∙ sym owner ∙ ap (home_of (before ++ DeviceStep name account ∷ [])) (sym made.named);
        position = ap (λ a. position_of a (accounts_of all)) made.owned ∙ ap (position_of account) (sym (run_names all before run is)) ∙ made.placed;
        said = made.said ∙ sym unsaid.said ∙ ap (λ n. along (said_at n) [] (before ++ DeviceStep name account ∷ [])) (sym made.named);
        log = subst (λ pages. IsLogOf pages made.new.log) (sym unsaid.pages ∙ ap (λ n. pages_of (keep_of version) all n (before ++ DeviceStep name account ∷ [])) (sym made.named))
            (record { entries = ap (λ (l : LogView). l.entries) made.log; tiles = ap (λ (l : LogView). l.tiles) made.log; closed = ap (λ (l : LogView). l.page) made.log });
        in_order = order_of_none (length (archive_of made.new.account (takes_of all (before ++ DeviceStep name account ∷ [])))) made.new.log (ap (λ (l : LogView). l.entries) made.log);
      }

  -- the step says this: `say` and `private` do the same to archives and takes
  pub record Says (step : Step) (name to text : List ℕ) : Type 0 where
    pub takes : (all before : List Step) → take_at all before step ≡ taken all before name to text
    pub said : (device : List ℕ) (before : List Step) → said_at device before step ≡ said_line device before name to text
    pub pages : (keep : ℕ) (all before : List Step) (device : List ℕ) (pages : List LogPage) → pages_after keep all device before pages step ≡ pages
    pub no_device : device_name step ≡ []
    pub no_tick : ticked step ≡ 0

  -- what a message does to the accounts and the takes is what the definitions say
  message_taken : (all before : List Step) (step : Step) (device : DeviceState) (name to text : List ℕ) (homes : List Home) (lines : List TakeLine) → 1 ≤ keep_of version →
      AreOnce (accounts_of all) → Says step name to text → IsDevice (keep_of version) all before device → device.name ≡ name →
      homes ≡ map (home_at (keep_of version) (takes_of all before)) (accounts_of all) → lines ≡ map (take_line version) (takes_of all before) →
      (homes_after (keep_of version) (moment_after before) device to text homes ≡ map (home_at (keep_of version) (takes_of all (before ++ step ∷ []))) (accounts_of all))
      × (takes_after version (moment_after before) device to text homes lines ≡ map (take_line version) (takes_of all (before ++ step ∷ [])))
  message_taken all before step device name to text homes lines some once says is named held told = go (position_of to (accounts_of all)) refl
    where
      spot : position_of to (names_of homes) ≡ position_of to (accounts_of all)
      spot = ap (λ hs. position_of to (names_of hs)) held ∙ ap (position_of to) (homes_named (takes_of all before) (accounts_of all))

      take_with : List ℕ → List ℕ → ℕ → Take
      take_with sender account count =
          record { device = sender; account = account; epoch = 1; n = count + 1; to = to; text = text; moment = moment_after before }

      take_is : take_with name (home_of before name) (sent_by name before) ≡ take_by (moment_after before) device to text
      take_is =
          ap (λ n. take_with n (home_of before n) (sent_by n before)) (sym named)
          ∙ ap (λ a. take_with device.name a (sent_by device.name before)) (sym is.account)
          ∙ ap (take_with device.name device.account) (sym (device_sent all before device is))

      go : (position : Option ℕ) → position_of to (accounts_of all) ≡ position →
          (homes_after (keep_of version) (moment_after before) device to text homes ≡ map (home_at (keep_of version) (takes_of all (before ++ step ∷ []))) (accounts_of all))
          × (takes_after version (moment_after before) device to text homes lines ≡ map (take_line version) (takes_of all (before ++ step ∷ [])))
      go None none =
          let lost : take_at all before step ≡ [] = says.takes all before ∙ rw (not_placed to (accounts_of all) none) refl in
          let same : takes_of all (before ++ step ∷ []) ≡ takes_of all before = no_take all before step lost in (
            ap (λ p. option_map_or (λ position. delivered (keep_of version) device.home position (entry_of (take_by (moment_after before) device to text)) homes) p homes) (spot ∙ none)
                ∙ held ∙ ap (λ ts. map (home_at (keep_of version) ts) (accounts_of all)) (sym same),
            ap (λ p. option_map_or (λ position. lines ++ take_line version (take_by (moment_after before) device to text) ∷ []) p lines) (spot ∙ none)
                ∙ told ∙ ap (map (take_line version)) (sym same),
          )
      go (Some position) there =
          let one : take_at all before step ≡ take_by (moment_after before) device to text ∷ [] =
          says.takes all before
          ∙ ap (λ b. cond b (take_with name (home_of before name) (sent_by name before) ∷ []) []) (among_placed to (accounts_of all) position there)
          ∙ ap (λ t. t ∷ []) take_is in
          let more : takes_of all (before ++ step ∷ []) ≡ takes_of all before ++ take_by (moment_after before) device to text ∷ [] =
          takes_push all before step ∙ ap (λ ts. takes_of all before ++ ts) one in (
            ap (λ p. option_map_or (λ position. delivered (keep_of version) device.home position (entry_of (take_by (moment_after before) device to text)) homes) p homes) (spot ∙ there)
                ∙ ap (delivered (keep_of version) device.home position (entry_of (take_by (moment_after before) device to text))) held
                ∙ delivered_takes (keep_of version) (accounts_of all) (takes_of all before) (take_by (moment_after before) device to text) device.home position some once is.position there
                ∙ ap (λ ts. map (home_at (keep_of version) ts) (accounts_of all)) (sym more),
            ap (λ p. option_map_or (λ position. lines ++ take_line version (take_by (moment_after before) device to text) ∷ []) p lines) (spot ∙ there)
                ∙ ap (λ ls. ls ++ take_line version (take_by (moment_after before) device to text) ∷ []) told
                ∙ sym (map_push (take_line version) (takes_of all before) (take_by (moment_after before) device to text))
                ∙ ap (map (take_line version)) (sym more),
          )

  -- the devices after a step that names the one at a place
  pub devices_after : (all before : List Step) (step : Step) (run : Run) (position : ℕ) (old new : DeviceState) → IsAfter version all before run →
      slice_get run.devices.items position ≡ Some old → IsDevice (keep_of version) all (before ++ step ∷ []) new →
      ((k : ℕ) (d : DeviceState) → k < length run.devices.items → k ≢ position → IsDevice (keep_of version) all (before ++ step ∷ []) (get_or run.devices.items k d)) →
      All (IsDevice (keep_of version) all (before ++ step ∷ [])) (set run.devices.items position new)
  devices_after all before step run position old new is there one others k d within =
      let inside = slice_get_within run.devices.items position old there in
      let size = length-set run.devices.items position new in
      elim (cases_eq k position) [
        | inl same ↦ subst (λ (v : DeviceState). IsDevice (keep_of version) all (before ++ step ∷ []) v) (sym (ap (λ j. get_or (set run.devices.items position new) j d) same ∙ get_or-set_same run.devices.items position new d inside)) one
        | inr apart ↦ subst (λ (v : DeviceState). IsDevice (keep_of version) all (before ++ step ∷ []) v) (sym (get_or-set_other run.devices.items position k new d apart)) (others k d (omega arith) apart)
      ]

  names_after : (run : Run) (position : ℕ) (old new : DeviceState) → slice_get run.devices.items position ≡ Some old → new.name ≡ old.name →
      map (λ (d : DeviceState). d.name) (set run.devices.items position new) ≡ map (λ (d : DeviceState). d.name) run.devices.items
  names_after run position old new there named =
      map-set_same (λ (d : DeviceState). d.name) run.devices.items position new old (named ∙ ap (λ (d : DeviceState). d.name) (sym (get_or_from_slice_get run.devices.items position old old there)))

  after_say : (all before : List Step) (step : Step) (name to text : List ℕ) (run next : Run) → 1 ≤ keep_of version → AreOnce (accounts_of all) → Says step name to text → IsAfter version all before run →
      is_among name (devices_of before) ≡ true → HasSent run next name to text → IsAfter version all (before ++ step ∷ []) next
  after_say all before step name to text run next some once says is known sent = record {
    version_is = sent.frame.version ∙ is.version_is;
    keeps = sent.frame.keep ∙ is.keeps;
    moment = sent.frame.moment ∙ is.moment ∙ sym (no_tick before step says.no_tick);
    homes = sent.homes
        ∙ ap (λ k. homes_after k run.clock.moment sent.old to text run.accounts.homes) is.keeps
        ∙ ap (λ m. homes_after (keep_of version) m sent.old to text run.accounts.homes) is.moment ∙ done.0;
    takes = sent.takes
        ∙ ap (λ v. takes_after v run.clock.moment sent.old to text run.accounts.homes run.takes.items) is.version_is
        ∙ ap (λ m. takes_after version m sent.old to text run.accounts.homes run.takes.items) is.moment ∙ done.1;
    index = sent.index ∙ is.index ∙ sym (no_device before step says.no_device);
    names = ap (map (λ (d : DeviceState). d.name)) sent.devices ∙ names_after run sent.position sent.old sent.new sent.there sent.said.name ∙ is.names ∙ sym (no_device before step says.no_device);
    devices = subst (λ (ds : List DeviceState). All (IsDevice (keep_of version) all (before ++ step ∷ [])) ds) (sym sent.devices)
        (devices_after all before step run sent.position sent.old sent.new is sent.there one others);
    once = subst AreOnce (sym (no_device before step says.no_device)) is.once;
    unused = λ other absent.
        let fresh : is_among other (devices_of before) ≡ false = ap (is_among other) (sym (no_device before step says.no_device)) ∙ absent in
        let apart : bytes_eq other name ≡ false = bytes_eq-from_other other name (unlike other name (devices_of before) fresh known) in
        unused_stays all before step other (says.said other before ∙ rw apart refl) (says.pages (keep_of version) all before other _) (is.unused other fresh);
  }
    where
      was : IsDevice (keep_of version) all before sent.old
      was = device_here all before run sent.position sent.old is sent.there

      named : sent.old.name ≡ name
      named = name_here all before run sent.position sent.old name is sent.named sent.there

      done : (homes_after (keep_of version) (moment_after before) sent.old to text run.accounts.homes ≡ map (home_at (keep_of version) (takes_of all (before ++ step ∷ []))) (accounts_of all))
          × (takes_after version (moment_after before) sent.old to text run.accounts.homes run.takes.items ≡ map (take_line version) (takes_of all (before ++ step ∷ [])))
      done = message_taken all before step sent.old name to text run.accounts.homes run.takes.items some once says was named is.homes is.takes

      hit : bytes_eq sent.old.name name ≡ true
      hit = ap (λ n. bytes_eq n name) named ∙ bytes_eq-self name

      said_is : said_by sent.old to text ∷ [] ≡ said_at sent.old.name before step
      said_is = ap (λ m. said_of m ∷ []) (device_sent all before sent.old was) ∙ ap (λ b. cond b (said_of (sent_by sent.old.name before) ∷ []) []) (sym hit) ∙ sym (says.said sent.old.name before)
        where
          said_of : ℕ → SaidLine
          said_of m = record { epoch = 1; n = m + 1; state = Acknowledged; to = to; text = text }

      one : IsDevice (keep_of version) all (before ++ step ∷ []) sent.new
      one = device_after all before step sent.old sent.new sent.said.name sent.said.account sent.said.home
          (home_known before step sent.old.name (ap (λ n. is_among n (devices_of before)) named ∙ known))
          (sent.said.said ∙ ap (λ t. sent.old.said.items ++ t) said_is)
          (subst (λ ps. IsLogOf ps sent.new.log) (sym (says.pages (keep_of version) all before sent.old.name (pages_of (keep_of version) all sent.old.name before)))
          (subst (λ l. IsLogOf (pages_of (keep_of version) all sent.old.name before) l) (sym sent.said.log) was.log))
          (subst (λ (l : LogView). IsInOrder (length (archive_of sent.old.account (takes_of all (before ++ step ∷ [])))) l.entries) (sym sent.said.log)
          (subst (λ ts. IsInOrder (length (archive_of sent.old.account ts)) sent.old.log.entries) (sym (takes_push all before step))
          (order_after sent.old.account (takes_of all before) (take_at all before step) sent.old.log was.in_order)))
          was

      others : (k : ℕ) (d : DeviceState) → k < length run.devices.items → k ≢ sent.position → IsDevice (keep_of version) all (before ++ step ∷ []) (get_or run.devices.items k d)
      others k d within apart =
          let far : bytes_eq (get_or run.devices.items k d).name name ≡ false =
          bytes_eq-from_other (get_or run.devices.items k d).name name (name_elsewhere all before run k sent.position d name is within sent.named apart) in
          device_stays all before step (get_or run.devices.items k d)
          (home_known before step (get_or run.devices.items k d).name (name_known all before run k d is within))
          (says.said (get_or run.devices.items k d).name before ∙ rw far refl) (says.pages (keep_of version) all before (get_or run.devices.items k d).name _) (is.devices k d within)

  after_catch_up : (all before : List Step) (name : List ℕ) (most : ℕ) (run next : Run) → length before < 100000 → 1 ≤ keep_of version → most ≤ 100 → IsAfter version all before run →
      is_among name (devices_of before) ≡ true → HasCaughtUp run next name most → IsAfter version all (before ++ Catchup name most ∷ []) next
  after_catch_up all before name most run next few some cap is known made = record {
    version_is = made.frame.version ∙ is.version_is;
    keeps = made.frame.keep ∙ is.keeps;
    moment = made.frame.moment ∙ is.moment ∙ sym (no_tick before (Catchup name most) refl);
    homes = made.homes ∙ is.homes ∙ ap (λ ts. map (home_at (keep_of version) ts) (accounts_of all)) (sym (no_take all before (Catchup name most) refl));
    takes = made.takes ∙ is.takes ∙ ap (map (take_line version)) (sym (no_take all before (Catchup name most) refl));
    index = made.index ∙ is.index ∙ sym (no_device before (Catchup name most) refl);
    names = ap (map (λ (d : DeviceState). d.name)) made.devices ∙ names_after run made.position made.old made.new made.there made.same.0 ∙ is.names ∙ sym (no_device before (Catchup name most) refl);
    devices = subst (λ (ds : List DeviceState). All (IsDevice (keep_of version) all (before ++ Catchup name most ∷ [])) ds) (sym made.devices)
        (devices_after all before (Catchup name most) run made.position made.old made.new is made.there one others);
    once = subst AreOnce (sym (no_device before (Catchup name most) refl)) is.once;
    unused = λ other absent.
        let fresh : is_among other (devices_of before) ≡ false = ap (is_among other) (sym (no_device before (Catchup name most) refl)) ∙ absent in
        let apart : bytes_eq other name ≡ false = bytes_eq-from_other other name (unlike other name (devices_of before) fresh known) in
        unused_stays all before (Catchup name most) other refl (rw apart refl) (is.unused other fresh);
  }
    where
      was : IsDevice (keep_of version) all before made.old
      was = device_here all before run made.position made.old is made.there

      named : made.old.name ≡ name
      named = name_here all before run made.position made.old name is made.named made.there

      hit : bytes_eq made.old.name name ≡ true
      hit = ap (λ n. bytes_eq n name) named ∙ bytes_eq-self name

      history : List EntryView
      history = archive_of made.old.account (takes_of all before)

      known_kept : AreKept (keep_of version) (length (archive_of made.old.account (takes_of all before))) (newest (keep_of version) (archive_of made.old.account (takes_of all before)))
      known_kept = archive_kept (keep_of version) made.old.account (takes_of all before) some (omega (arith, archive_small all before made.old.account))

      home : get_or run.accounts.homes made.old.home (empty_home []) ≡ home_at (keep_of version) (takes_of all before) made.old.account
      home = home_is all before run made.old (empty_home []) is was

      log_is : made.new.log ≡ caught_up most (length (archive_of made.old.account (takes_of all before))) (newest (keep_of version) (archive_of made.old.account (takes_of all before))) made.old.log
      log_is = made.log (empty_home []) ∙ ap (λ (h : Home). caught_up most h.last h.entries made.old.log) home

      pages_are : pages_after (keep_of version) all made.old.name before (pages_of (keep_of version) all made.old.name before) (Catchup name most)
          ≡ catch_up (length (newest (keep_of version) (archive_of made.old.account (takes_of all before))) + 1) most
          (kept_after (keep_of version) made.old.account (takes_of all before)) (pages_of (keep_of version) all made.old.name before)
      pages_are = rw hit (ap (λ a. catch_up (length (newest (keep_of version) (archive_of a (takes_of all before))) + 1) most
          (kept_after (keep_of version) a (takes_of all before)) (pages_of (keep_of version) all made.old.name before)) (sym was.account))

      logged : IsLogOf (pages_after (keep_of version) all made.old.name before (pages_of (keep_of version) all made.old.name before) (Catchup name most)) made.new.log
      logged = subst (λ l. IsLogOf (pages_after (keep_of version) all made.old.name before (pages_of (keep_of version) all made.old.name before) (Catchup name most)) l) (sym log_is)
          (subst (λ ps. IsLogOf ps (caught_up most (length (archive_of made.old.account (takes_of all before))) (newest (keep_of version) (archive_of made.old.account (takes_of all before))) made.old.log)) (sym pages_are)
          (catch_up_logged (length (newest (keep_of version) (archive_of made.old.account (takes_of all before))) + 1) (keep_of version) most
          (length (archive_of made.old.account (takes_of all before))) (bare_address made.old.account)
          (newest (keep_of version) (archive_of made.old.account (takes_of all before))) (pages_of (keep_of version) all made.old.name before) made.old.log
          known_kept cap was.log was.in_order))

      orders : IsInOrder (length (archive_of made.old.account (takes_of all (before ++ Catchup name most ∷ [])))) made.new.log.entries
      orders = subst (λ ts. IsInOrder (length (archive_of made.old.account ts)) made.new.log.entries) (sym (no_take all before (Catchup name most) refl))
          (subst (λ (l : LogView). IsInOrder (length (archive_of made.old.account (takes_of all before))) l.entries) (sym log_is)
          (log_after_in_order (length (newest (keep_of version) (archive_of made.old.account (takes_of all before))) + 1) (keep_of version) most
          (length (archive_of made.old.account (takes_of all before))) (newest (keep_of version) (archive_of made.old.account (takes_of all before))) made.old.log
          known_kept was.in_order))

      one : IsDevice (keep_of version) all (before ++ Catchup name most ∷ []) made.new
      one = device_after all before (Catchup name most) made.old made.new made.same.0 made.same.1 made.same.2
          (home_known before (Catchup name most) made.old.name (ap (λ n. is_among n (devices_of before)) named ∙ known))
          (made.same.3 ∙ sym (append-nil made.old.said.items))
          logged orders was

      others : (k : ℕ) (d : DeviceState) → k < length run.devices.items → k ≢ made.position → IsDevice (keep_of version) all (before ++ Catchup name most ∷ []) (get_or run.devices.items k d)
      others k d within apart =
          let far : bytes_eq (get_or run.devices.items k d).name name ≡ false =
          bytes_eq-from_other (get_or run.devices.items k d).name name (name_elsewhere all before run k made.position d name is within made.named apart) in
          device_stays all before (Catchup name most) (get_or run.devices.items k d)
          (home_known before (Catchup name most) (get_or run.devices.items k d).name (name_known all before run k d is within))
          refl (rw far refl) (is.devices k d within)

  after_tick : (all before : List Step) (ms : ℕ) (run next : Run) → IsAfter version all before run → HasTicked run next ms → IsAfter version all (before ++ Tick ms ∷ []) next
  after_tick all before ms run next is did = subst (λ (r : Run). IsAfter version all (before ++ Tick ms ∷ []) r) (sym did) (record {
    version_is = is.version_is;
    keeps = is.keeps;
    moment = ap (λ m. m + ms) is.moment ∙ sym (moment_push before (Tick ms));
    homes = is.homes ∙ ap (λ ts. map (home_at (keep_of version) ts) (accounts_of all)) (sym (no_take all before (Tick ms) refl));
    takes = is.takes ∙ ap (map (take_line version)) (sym (no_take all before (Tick ms) refl));
    index = is.index ∙ sym (no_device before (Tick ms) refl);
    names = is.names ∙ sym (no_device before (Tick ms) refl);
    devices = λ k d within. device_stays all before (Tick ms) (get_or run.devices.items k d)
        (home_known before (Tick ms) (get_or run.devices.items k d).name (name_known all before run k d is within)) refl refl (is.devices k d within);
    once = subst AreOnce (sym (no_device before (Tick ms) refl)) is.once;
    unused = λ other absent. unused_stays all before (Tick ms) other refl refl
        (is.unused other (ap (is_among other) (sym (no_device before (Tick ms) refl)) ∙ absent));
  })

  -- what a step may say, of a run in the middle of a schedule
  pub may_follow : (all before : List Step) (run : Run) (step : Step) → IsAfter version all before run →
      ((name : List ℕ) → is_among name (accounts_of before) ≡ true → is_among name (accounts_of all) ≡ true) →
      IsTrue (may_stand (declared_in before) step) → MayFollow run step
  may_follow all before run (Account name) is later right = tt
  may_follow all before run (DeviceStep name account) is later right =
      let parts = and_parts (nat_lt (length (devices_of before)) 100 && is_name name && not (is_among name (devices_of before))) (is_among account (accounts_of before)) right in
      let first = and_parts (nat_lt (length (devices_of before)) 100 && is_name name) (not (is_among name (devices_of before))) parts.0 in (
        ap (is_among name) is.index ∙ not-true (is_among name (devices_of before)) first.1,
        ap (is_among account) (run_names all before run is) ∙ later account parts.1,
      )
  may_follow all before run (Say device to text) is later right =
      let parts = and_parts (is_among device (devices_of before) && is_name to) (is_text text) right in
      ap (is_among device) is.index ∙ (and_parts (is_among device (devices_of before)) (is_name to) parts.0).0
  may_follow all before run (Private device to text) is later right =
      let parts = and_parts (is_among device (devices_of before) && is_name to) (is_text text) right in
      ap (is_among device) is.index ∙ (and_parts (is_among device (devices_of before)) (is_name to) parts.0).0
  may_follow all before run (Tick ms) is later right = leb-true ms 1000000000 right
  may_follow all before run (Catchup device most) is later right =
      let parts = and_parts (is_among device (devices_of before) && nat_le 1 most) (nat_le most 100) right in
      let first = and_parts (is_among device (devices_of before)) (nat_le 1 most) parts.0 in
      (ap (is_among device) is.index ∙ first.0, leb-true 1 most first.1, leb-true most 100 parts.1)

  say_says : (name to text : List ℕ) → Says (Say name to text) name to text
  say_says name to text = record { takes = λ all before. refl; said = λ device before. refl; pages = λ keep all before device pages. refl; no_device = refl; no_tick = refl }

  private_says : (name to text : List ℕ) → Says (Private name to text) name to text
  private_says name to text = record { takes = λ all before. refl; said = λ device before. refl; pages = λ keep all before device pages. refl; no_device = refl; no_tick = refl }

  pub after_followed : (all before : List Step) (run next : Run) (step : Step) → length before < 100000 → 1 ≤ keep_of version → AreOnce (accounts_of all) →
      IsAfter version all before run → MayFollow run step → HasFollowed run next step → IsAfter version all (before ++ step ∷ []) next
  after_followed all before run next (Account name) few some once is may did = subst (λ (r : Run). IsAfter version all (before ++ Account name ∷ []) r) (sym did) (after_account all before name run is)
  after_followed all before run next (DeviceStep name account) few some once is may did = after_device all before name account run next is (ap (is_among name) (sym is.index) ∙ may.0) did
  after_followed all before run next (Say device to text) few some once is may did =
      after_say all before (Say device to text) device to text run next some once (say_says device to text) is (ap (is_among device) (sym is.index) ∙ may) did
  after_followed all before run next (Private device to text) few some once is may did =
      after_say all before (Private device to text) device to text run next some once (private_says device to text) is (ap (is_among device) (sym is.index) ∙ may) did
  after_followed all before run next (Catchup device most) few some once is may did =
      after_catch_up all before device most run next few some may.2 is (ap (is_among device) (sym is.index) ∙ may.0) did
  after_followed all before run next (Tick ms) few some once is may did = after_tick all before ms run next is did
