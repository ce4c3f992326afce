-- What the laws of `flags_kept` say.
use Rattle.std.specs.Prelude.{◌≡◌, ℕ, List}
use Rattle.srv_state.specs.State.{ServerState}
use Rattle.sim_3_items.specs.Identities.{Identity, Login}
use Rattle.sim_3_items.specs.Servers.{ServerRepresents}
use Rattle.sim_3_items.specs.Items.{stanzas_read}
use Rattle.sim_2_links.specs.Events.{seen}
use Rattle.sim_2_links.specs.Links.{LinkKept}
use Rattle.sim_2_links.specs.Views.{View}
use Rattle.sim_2_events.specs.Lists.{IsDevice}
use Rattle.sim_5_devices.specs.Labels.{SessionStep, SessionSteps}
use Rattle.sim_3_items.specs.Served.{FlagsRepresent}
use Rattle.sim_1_applications.specs.Devices.{Sessions}
use Rattle.sim_5_devices.specs.Told.{IsAcked, SameUps}
use Rattle.xml_writer.specs.Items.{ItemOut}

abbrev pub FlagsStayFlags : Type 0
FlagsStayFlags =
    (who : Identity) (logins : ℕ → Login) (h : ServerState ItemOut) (v next : View ItemOut) (d there end : Sessions) (xs : List SessionStep) → ServerRepresents who logins h v → ServerRepresents who logins h next → LinkKept next
    → IsDevice stanzas_read (seen v) d → IsDevice stanzas_read (seen next) end → SessionSteps xs d there → end.row ≡ there.row → FlagsRepresent who.account who.resource h d → FlagsRepresent who.account who.resource h there

abbrev pub FlagsStayPuts : Type 0
FlagsStayPuts =
    (xs : List SessionStep) (d last : Sessions) → SessionSteps xs d last → SameUps d last

abbrev pub FlagsStayAcked : Type 0
FlagsStayAcked =
    (xs : List SessionStep) (d last : Sessions) → SessionSteps xs d last → IsAcked d → IsAcked last
