-- Where the flags of a name show the same sessions behind a step, no session of that name has come.
use Rattle.std.proofs.Common.{◌≡◌, ℕ, false, true, List, [], Option, None, Some, refl, sym, ◌∙◌}
use Rattle.std.proofs.lemmas.Bool.{false≢true}
use Rattle.std.proofs.lemmas.Option.{none-some}
use Rattle.srv_state.specs.State.{ServerState}
use Rattle.sm_live.specs.Sessions.{Session, session_named}
use Rattle.sim_5_moves.specs.Silent.{AreFlagsKept}
use Rattle.sim_3_items.specs.Served.{FlagsRepresent}
use Rattle.sim_1_applications.specs.Devices.{NoRow, Present, Sessions, Unread, new_device}
use Rattle.sim_1_applications.specs.Devices as sessions
use Rattle.xml_writer.specs.Items.{ItemOut}

-- two devices whose sessions want different flags
abbrev none_yet : Sessions
none_yet = (new_device []).sessions

abbrev fresh_one : sessions.Session
fresh_one = none_yet.now

abbrev without_flags : Sessions
without_flags = record none_yet { row = Unread }

abbrev with_flags : Sessions
with_flags = record none_yet { row = Present; now = record fresh_one { available = true } }

module _ (account : ℕ) (resource : List ℕ) (h next : ServerState ItemOut) (keeps : (d : Sessions) → FlagsRepresent account resource h d → FlagsRepresent account resource next d) where
  module _ (none : session_named account resource h.sessions ≡ None) where
    nothing_represents : (d : Sessions) → FlagsRepresent account resource h d
    nothing_represents d = λ live t found. absurd (none-some t (sym none ∙ found))

    no_one : (s : Session ItemOut) → session_named account resource next.sessions ≡ Some s → ⊥
    no_one s found =
        let un : s.shown.available ≡ false = (keeps without_flags (nothing_represents without_flags) (λ e. let no_way : ⊥ = cc in no_way) s found).0 in
        let is : s.shown.available ≡ true = (keeps with_flags (nothing_represents with_flags) (λ e. let no_way : ⊥ = cc in no_way) s found).0 in
        false≢true (sym un ∙ is)

    none_still : session_named account resource next.sessions ≡ None
    none_still = by (session_named account resource next.sessions) refl
      where
        by : (o : Option (Session ItemOut)) → session_named account resource next.sessions ≡ o → session_named account resource next.sessions ≡ None
        by None is = is
        by (Some s) is = absurd (no_one s is)

  pub kept_flags : AreFlagsKept account resource h next
  kept_flags = record { shown = keeps; none = none_still }
