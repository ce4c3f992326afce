-- What the lines of a schedule declare, one after another.
use Rattle.std.specs.Prelude.{◌≡◌, ℕ, ◌<◌, false, List, [], ◌∷◌, ◌++◌, IsTrue, length}
use Rattle.cmd_network.specs.Devices.{DeviceState}
use Rattle.cmd_network.specs.Starting.{device_at_start}
use Rattle.base_io.specs.Names.{is_among}
use Rattle.cmd_schedule.specs.Grammar.{is_name}
use Rattle.cmd_schedule.specs.declared.schedule.Step.{Step}
use Rattle.cmd_schedule.specs.declared.schedule.Step.TheVariants as step
use Rattle.cmd_schedule.specs.declared.schedule.WireLine.{WireLine}
use Rattle.cmd_schedule.specs.declared.schedule.WireStep.{WireStep}
use Rattle.cmd_schedule.specs.declared.schedule.WireStep.TheVariants as wire

-- the names of accounts and of devices so far, and the devices
pub record Begun : Type 0 where
  pub accounts : List (List ℕ)
  pub names : List (List ℕ)
  pub devices : List DeviceState

abbrev pub begun_of : List (List ℕ) → List (List ℕ) → List DeviceState → Begun
begun_of accounts names devices = record { accounts = accounts; names = names; devices = devices }

abbrev pub nothing_begun : Begun
nothing_begun = begun_of [] [] []

-- with what a line declares
abbrev pub declares_common : Step → Begun → Begun
declares_common (step.Account name) b = record b { accounts = b.accounts ++ name ∷ [] }
declares_common (step.Device name account) b = record b { names = b.names ++ name ∷ []; devices = b.devices ++ device_at_start name account ∷ [] }
declares_common _ b = b

abbrev pub declares : WireStep → Begun → Begun
declares (wire.Common step) b = declares_common step b
declares _ b = b

abbrev pub all_declared : List WireLine → Begun → Begun
all_declared [] b = b
all_declared (line ∷ lines) b = all_declared lines (declares line.step b)

-- ---- what is asked of them

-- a device's name is new, and it and its account have names
abbrev pub MayAdd : Step → Begun → Type 0
MayAdd (step.Device name account) b = IsTrue (is_name name) × IsTrue (is_name account) × (is_among name b.names ≡ false)
MayAdd _ b = Unit {0}

abbrev pub MayDeclare : WireStep → Begun → Type 0
MayDeclare (wire.Common step) b = MayAdd step b
MayDeclare _ b = Unit {0}

abbrev pub MayAllDeclare : List WireLine → Begun → Type 0
MayAllDeclare [] b = Unit {0}
MayAllDeclare (line ∷ lines) b = MayDeclare line.step b × MayAllDeclare lines (declares line.step b)

abbrev pub AreNames : List (List ℕ) → Type 0
AreNames [] = Unit {0}
AreNames (name ∷ names) = IsTrue (is_name name) × AreNames names

-- behind others: each is a name, none is twice, and there are at most 100
abbrev pub AreAccounts : List (List ℕ) → List (List ℕ) → Type 0
AreAccounts before [] = Unit {0}
AreAccounts before (name ∷ names) =
    (length before < 100) × IsTrue (is_name name) × (is_among name before ≡ false) × AreAccounts (before ++ name ∷ []) names
