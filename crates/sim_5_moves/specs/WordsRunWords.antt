-- The words that a device's connections bring to a server that runs, and the flags of the device's session.
use Rattle.std.specs.Prelude.{◌≡◌, ℕ, Bool, true, false, List, [], ◌∷◌, Some, pos, slice_get}
use Rattle.srv_state.specs.State.{ServerState}
use Rattle.sim_3_items.specs.Identities.{Identity}
use Rattle.sim_2_links.specs.Words.{Bind, St, Up, UpWord}
use Rattle.sm_live.specs.Sessions.{Session, session_named}
use Rattle.cmd_schedule.specs.Contents.{Owned}
use Rattle.sim_5_devices.specs.Labels.{Binds, SessionStep}
use Rattle.xml_writer.specs.Items.{ItemOut}

-- the device is one of these, and its account one of those names
pub record IsDeviceOf (owned : List Owned) (names : List (List ℕ)) (who : Identity) (o : Owned) : Type 0 where
  pub there : slice_get owned who.position ≡ Some o
  pub account : slice_get names who.account ≡ Some o.account
  pub resource : who.resource ≡ o.device

-- no stanza
abbrev pub IsSilent : UpWord ItemOut → Type 0
IsSilent (Up (St z)) = ⊥
IsSilent word = Unit {0}

-- nor a binding
abbrev pub IsUnbinding : UpWord ItemOut → Type 0
IsUnbinding (Up (St z)) = ⊥
IsUnbinding Bind = ⊥
IsUnbinding word = Unit {0}

-- the session that the server has of a device, where it has one, is not available and wants no copies
abbrev pub IsBare : ℕ → List ℕ → ServerState ItemOut → Type 0
IsBare account resource h = (s : Session ItemOut) → session_named account resource h.sessions ≡ Some s → (s.shown.available ≡ false) × (s.shown.carbons ≡ false) × (s.shown.priority ≡ pos 0)

-- a session is bound
abbrev pub binds_between : List SessionStep → Bool
binds_between [] = false
binds_between (Binds ∷ xs) = true
binds_between (x ∷ xs) = binds_between xs
