-- A run in the middle of a schedule: what its parts are after the first steps, and what one step does to them.
use Rattle.std.specs.Prelude.{◌≡◌, ℕ, ◌+◌, ◌<◌, ◌≤◌, true, false, List, [], ◌∷◌, ◌++◌, Some, None, length, map, slice_set, slice_index_or, slice_get}
use Rattle.std.specs.List.{All}
use Rattle.cmd_schedule.specs.Contents.{accounts_of, along, devices_of, home_of, moment_after}
use Rattle.cmd_schedule.specs.Schedules.{keep_of}
use Rattle.cmd_schedule.specs.declared.schedule.Version.{Version}
use Rattle.cmd_report.specs.Takes.{archive_of}
use Rattle.cmd_direct.specs.Direct.{pages_of, said_at, takes_of}
use Rattle.cmd_report.specs.Lines.{take_line}
use Rattle.base_io.specs.Names.{is_among, position_of}
use Rattle.cmd_replay.specs.Homes.{Home, home_at, names_of}
use Rattle.cmd_replay.specs.Messages.{HasSaid, homes_after, sent_of, takes_after}
use Rattle.cmd_schedule.specs.Standing.{AreOnce}
use Rattle.cmd_replay.specs.Turns.{IsInOrder, IsLogOf, caught_up}
use Rattle.cmd_replay.specs.declared.run.Run.{Run}
use Rattle.cmd_replay.specs.Devices.{DeviceState, empty_log}
use Rattle.cmd_schedule.specs.declared.schedule.Step.{Step}
use Rattle.cmd_schedule.specs.declared.schedule.Step.TheVariants.{Account, Device as DeviceStep, Say, Private, Catchup, Tick}

-- a device after the first steps of a schedule whose archives keep so many
pub record IsDevice (keep : ℕ) (all before : List Step) (device : DeviceState) : Type 0 where
  pub account : device.account ≡ home_of before device.name
  pub position : position_of device.account (accounts_of all) ≡ Some device.home
  pub said : device.said.items ≡ along (said_at device.name) [] before
  pub log : IsLogOf (pages_of keep all device.name before) device.log
  pub in_order : IsInOrder (length (archive_of device.account (takes_of all before))) device.log.entries

-- no step was of a device with this name
pub record IsUnused (keep : ℕ) (all before : List Step) (name : List ℕ) : Type 0 where
  pub said : along (said_at name) [] before ≡ []
  pub pages : pages_of keep all name before ≡ []

-- a run after the first steps of a schedule of this version
pub record IsAfter (version : Version) (all before : List Step) (run : Run) : Type 0 where
  pub version_is : run.clock.version ≡ version
  pub keeps : run.accounts.keep ≡ keep_of version
  pub moment : run.clock.moment ≡ moment_after before
  pub homes : run.accounts.homes ≡ map (home_at (keep_of version) (takes_of all before)) (accounts_of all)
  pub takes : run.takes.items ≡ map (take_line version) (takes_of all before)
  pub index : run.index ≡ devices_of before
  pub names : map (λ (device : DeviceState). device.name) run.devices.items ≡ devices_of before
  pub devices : All (IsDevice (keep_of version) all before) run.devices.items
  pub once : AreOnce (devices_of before)
  pub unused : (name : List ℕ) → is_among name (devices_of before) ≡ false → IsUnused (keep_of version) all before name

-- what a step asks of a device: its count can grow, its account is there, and its log is in order, no newer than the archive
pub record IsReadyDevice (homes : List Home) (device : DeviceState) : Type 0 where
  pub sent : sent_of device < 100000
  pub home : device.home < length homes
  pub closed : device.log.page ≡ None
  pub in_order : (d : Home) → IsInOrder (slice_index_or homes device.home d).last device.log.entries

-- what a step asks of a run
pub record IsReady (run : Run) : Type 0 where
  pub names : run.index ≡ map (λ (device : DeviceState). device.name) run.devices.items
  pub devices : All (IsReadyDevice run.accounts.homes) run.devices.items
  pub few : All (λ (home : Home). home.last < 4294967294) run.accounts.homes
  pub early : run.clock.moment ≤ 100000000000000

-- the step speaks of what the run has
abbrev pub MayFollow : Run → Step → Type 0
MayFollow run (Account name) = Unit {0}
MayFollow run (DeviceStep name account) = (is_among name run.index ≡ false) × (is_among account (names_of run.accounts.homes) ≡ true)
MayFollow run (Say device to text) = is_among device run.index ≡ true
MayFollow run (Private device to text) = is_among device run.index ≡ true
MayFollow run (Catchup device most) = (is_among device run.index ≡ true) × (1 ≤ most) × (most ≤ 100)
MayFollow run (Tick ms) = ms ≤ 1000000000

-- what no step but `tick` changes, and no step at all
pub record HasKept (before after : Run) : Type 0 where
  pub version : after.clock.version ≡ before.clock.version
  pub keep : after.accounts.keep ≡ before.accounts.keep
  pub moment : after.clock.moment ≡ before.clock.moment

-- a device was declared
pub record HasDeclared (before after : Run) (name account : List ℕ) : Type 0 where
  pub frame : HasKept before after
  pub new : DeviceState
  pub devices : after.devices.items ≡ before.devices.items ++ new ∷ []
  pub index : after.index ≡ before.index ++ name ∷ []
  pub homes : after.accounts.homes ≡ before.accounts.homes
  pub takes : after.takes.items ≡ before.takes.items
  pub named : new.name ≡ name
  pub owned : new.account ≡ account
  pub placed : position_of account (names_of before.accounts.homes) ≡ Some new.home
  pub said : new.said.items ≡ []
  pub log : new.log ≡ empty_log

-- a device said something
pub record HasSent (before after : Run) (name to text : List ℕ) : Type 0 where
  pub frame : HasKept before after
  pub position : ℕ
  pub old : DeviceState
  pub new : DeviceState
  pub named : position_of name before.index ≡ Some position
  pub there : slice_get before.devices.items position ≡ Some old
  pub devices : after.devices.items ≡ slice_set before.devices.items position new
  pub index : after.index ≡ before.index
  pub said : HasSaid old new to text
  pub homes : after.accounts.homes ≡ homes_after before.accounts.keep before.clock.moment old to text before.accounts.homes
  pub takes : after.takes.items ≡ takes_after before.clock.version before.clock.moment old to text before.accounts.homes before.takes.items

-- the device with another log
abbrev pub HasLog : DeviceState → DeviceState → Type 0
HasLog old new = (new.name ≡ old.name) × (new.account ≡ old.account) × (new.home ≡ old.home) × (new.said.items ≡ old.said.items)

-- a device caught up on its account's archive
pub record HasCaughtUp (before after : Run) (name : List ℕ) (most : ℕ) : Type 0 where
  pub frame : HasKept before after
  pub position : ℕ
  pub old : DeviceState
  pub new : DeviceState
  pub named : position_of name before.index ≡ Some position
  pub there : slice_get before.devices.items position ≡ Some old
  pub devices : after.devices.items ≡ slice_set before.devices.items position new
  pub index : after.index ≡ before.index
  pub homes : after.accounts.homes ≡ before.accounts.homes
  pub takes : after.takes.items ≡ before.takes.items
  pub same : HasLog old new
  pub log : (d : Home) → new.log ≡ caught_up most (slice_index_or before.accounts.homes old.home d).last (slice_index_or before.accounts.homes old.home d).entries old.log

-- the clock moved on, and nothing else
abbrev pub HasTicked : Run → Run → ℕ → Type 0
HasTicked before after ms = after ≡ record before { clock = record before.clock { moment = before.clock.moment + ms } }

-- what the step did to the run
abbrev pub HasFollowed : Run → Run → Step → Type 0
HasFollowed before after (Account name) = after ≡ before
HasFollowed before after (DeviceStep name account) = HasDeclared before after name account
HasFollowed before after (Say device to text) = HasSent before after device to text
HasFollowed before after (Private device to text) = HasSent before after device to text
HasFollowed before after (Catchup device most) = HasCaughtUp before after device most
HasFollowed before after (Tick ms) = HasTicked before after ms
