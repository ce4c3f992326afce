-- What the laws of `stanza_events` say.
use Rattle.std.specs.Prelude.{◌≡◌, ◌≢◌, ◌⊎◌, ℕ, true, List, [], ◌∷◌, ◌++◌, Some, map, slice_get}
use Rattle.sim_3_items.specs.Labels.{Takes, gives_all}
use Rattle.sim_2_events.specs.Lists.{Stanzas}
use Rattle.sim_5_devices.specs.Labels.{DoesInterleaved}
use Rattle.sim_1_applications.specs.Devices.{AppWorld, Device, Sessions, Take, last_of}
use Rattle.sim_1_applications.specs.Devices.Row.{NoRow}
use Rattle.sim_1_applications.specs.Devices.Stage.{Named}
use Rattle.sim_1_applications.specs.Events.{around, hears_of, is_among, reply, taking}
use Rattle.sim_1_applications.specs.Stanzas.{Down, Submission, Up}
use Rattle.sim_1_applications.specs.Stanzas.Up.{Message}
use Rattle.sim_5_moves.specs.Handled.{AreHandled, EndsAs, IsHeardOf, IsRepliedTo, IsSteppedTo, IsTakenOf, IsToldOf, served_as, take_at, takes_with}

abbrev pub MessagesAreEvents : Type 0
MessagesAreEvents =
    (ends : ℕ → Sessions) (x : AppWorld) (i : ℕ) (d : Device) (m : Submission) (last : Sessions) → slice_get x.devices i ≡ Some d → is_among m.to x.accounts ≡ true
    → IsTakenOf (take_at x i d m) (last_of (takes_with x i d m) d.account) i d last
    → ((j : ℕ) (e : Device) → slice_get x.devices j ≡ Some e → j ≢ i → IsToldOf (take_at x i d m) (last_of (takes_with x i d m) e.account) j e (ends j))
    → AreHandled (EndsAs ends) x i (record d { sessions = last }) (takes_with x i d m)

abbrev pub RepliesAreEvents : Type 0
RepliesAreEvents =
    (ends : ℕ → Sessions) (x : AppWorld) (i : ℕ) (d : Device) (z : Up) (last : Sessions) → slice_get x.devices i ≡ Some d → taking x.accounts x.clock i d.account (z ∷ []) ≡ []
    → IsRepliedTo (reply (around x d) z) z d.sessions last
    → ((j : ℕ) (e : Device) → slice_get x.devices j ≡ Some e → j ≢ i → IsSteppedTo e.sessions (ends j))
    → AreHandled (EndsAs ends) x i (served_as (around x d) z last d) x.takes

abbrev pub LabelsAreHandledBeside : Type 0 → Type 0
LabelsAreHandledBeside A =
    (r : Stanzas A) (zs : List A) (t : Take) (number j : ℕ) (e : Device) (last : Sessions) → DoesInterleaved r (gives_all zs) e.sessions last → (hears_of t j e ≡ true → e.sessions.now.stage ≢ Named)
    → IsHeardOf (hears_of t j e) number (map r.down zs) last → IsToldOf t number j e last

abbrev pub LabelsAreHandledOwn : Type 0 → Type 0
LabelsAreHandledOwn A =
    (r : Stanzas A) (z : A) (zs : List A) (t : Take) (number i : ℕ) (d : Device) (last : Sessions) → r.up z ≡ Message t.said → DoesInterleaved r (Takes z ∷ gives_all zs) d.sessions last
    → IsHeardOf (hears_of t i d) number (map r.down zs) last → IsTakenOf t number i d last

abbrev pub LabelsAreHandledReplied : Type 0 → Type 0
LabelsAreHandledReplied A =
    (r : Stanzas A) (z : A) (zs : List A) (reply : List Down) (d last : Sessions) → DoesInterleaved r (Takes z ∷ gives_all zs) d last
    → (map r.down zs ≡ reply) ⊎ ((missing : Down) × (more : List Down) × (reply ≡ map r.down zs ++ missing ∷ more) × (last.row ≡ NoRow)) → IsRepliedTo reply (r.up z) d last
