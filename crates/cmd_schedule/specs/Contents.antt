-- What the steps of a schedule declare and say, whichever way it is run.
use Rattle.std.specs.Prelude.{ℕ, ◌+◌, Bool, false, List, [], ◌∷◌, ◌++◌, count_by, if◌then◌else◌}
use Rattle.std.specs.List.{flat_map}
use Rattle.std.specs.Str.{bytes_eq}
use Rattle.base_io.specs.Names.{is_among}
use Rattle.cmd_schedule.specs.declared.schedule.Step.{Step}
use Rattle.cmd_schedule.specs.declared.schedule.Step.TheVariants.{Account, Device, Say, Private, Catchup, Tick}
use Rattle.cmd_schedule.specs.Schedules.{ScheduleView, steps_of}

-- what each step adds, below the steps before it
abbrev pub along : {A : Type 0} → (List Step → Step → List A) → List Step → List Step → List A
along f before [] = []
along f before (step ∷ steps) = f before step ++ along f (before ++ step ∷ []) steps

abbrev pub account_name : Step → List (List ℕ)
account_name (Account name) = name ∷ []
account_name _ = []

-- the accounts that steps declare
abbrev pub accounts_of : List Step → List (List ℕ)
accounts_of steps = flat_map account_name steps

abbrev pub device_name : Step → List (List ℕ)
device_name (Device name account) = name ∷ []
device_name _ = []

-- the devices that steps declare
abbrev pub devices_of : List Step → List (List ℕ)
devices_of steps = flat_map device_name steps

-- the account of a device, as its line says
abbrev pub home_of : List Step → List ℕ → List ℕ
home_of [] device = []
home_of (Device name account ∷ steps) device = if bytes_eq device name then account else home_of steps device
home_of (_ ∷ steps) device = home_of steps device

abbrev pub is_said_by : List ℕ → Step → Bool
is_said_by device (Say name to text) = bytes_eq device name
is_said_by device (Private name to text) = bytes_eq device name
is_said_by device _ = false

-- how many messages the device sent
abbrev pub sent_by : List ℕ → List Step → ℕ
sent_by device steps = count_by (is_said_by device) steps

-- the account exists: some line of the schedule declares it
abbrev pub is_account : ScheduleView → List ℕ → Bool
is_account schedule name = is_among name (accounts_of (steps_of schedule.lines))

-- a device and its account
pub record Owned : Type 0 where
  pub device : List ℕ
  pub account : List ℕ

abbrev pub owned_at : Step → List Owned
owned_at (Device name account) = record { device = name; account = account } ∷ []
owned_at _ = []

-- the devices with their accounts, in declared order
abbrev pub owned_in : List Step → List Owned
owned_in steps = flat_map owned_at steps

-- the step asks this device to catch up
abbrev pub is_catchup_of : List ℕ → Step → Bool
is_catchup_of device (Catchup name most) = bytes_eq device name
is_catchup_of device _ = false

-- by how much the step moves the clock on (milliseconds)
abbrev pub ticked : Step → ℕ
ticked (Tick ms) = ms
ticked _ = 0

-- the moment after these steps: the clock begins at 0
abbrev pub moment_after : List Step → ℕ
moment_after [] = 0
moment_after (step ∷ steps) = ticked step + moment_after steps
