-- A stanza goes up, whichever it is.
use Rattle.std.proofs.Common.{◌≡◌, ℕ, ◌+◌, List, ◌∷◌, Some, refl, sym, ap, subst, ◌∙◌, slice_get, inl, inr}
use Rattle.std.proofs.lemmas.Bool.{cases_Bool}
use Rattle.sim_5_moves.specs.Ground.{IsGround}
use Rattle.sim_3_images.specs.Devices.{identity_at}
use Rattle.sim_3_items.specs.Identities.{Identity}
use Rattle.sim_3_items.specs.Pipes.{by_number}
use Rattle.sim_3_items.specs.WordItems.{up_item}
use Rattle.base_io.specs.Names.{is_among}
use Rattle.sim_3_items.specs.Ups.{up_stanza}
use Rattle.sim_3_items.specs.ItemMoves.{Up, moved}
use Rattle.sim_3_items.specs.ItemPipes.{ItemWire}
use Rattle.sim_3_items.specs.ItemWorlds.{ItemWorld}
use Rattle.sim_2_links.specs.Words.{St, Up as UpTraffic}
use Rattle.cmd_schedule.specs.Contents.{Owned}
use Rattle.cmd_schedule.specs.Schedules.{WireView}
use Rattle.cmd_schedule.specs.LineLists.{IsLineList}
use Rattle.sim_4_links_follow.specs.Taking.{IsFirst}
use Rattle.sim_5_moves.proofs.ServersComing.{Coming}
use Rattle.sim_5_moves.proofs.ServersMessages.{message_is_handled}
use Rattle.sim_5_moves.proofs.ServersReplies.{IsReply, reply_is_handled}
use Rattle.sim_5_moves.proofs.Sources.{is_asked, nobody_reply, served_reply}
use Rattle.sim_5_moves.proofs.Worlds.{handled_runs}
use Rattle.sim_1_applications.specs.Devices.{AppWorld}
use Rattle.sim_1_applications.specs.Stanzas as stanzas
use Rattle.sim_1_applications.specs.Stanzas.{Carbons, Message, Presence, Query}
use Rattle.sim_5_moves.specs.Handled.{takes_with}
use Rattle.sim_4_links_follow.specs.Given.{IsOfSession}
use Rattle.sim_4_links_follow.specs.Steps.{IsOfWord, ItemGoesUp, UpDoes, takes_it, takes_nothing}
use Rattle.sim_5_moves.specs.Running.{AreSmall, Bounds, DeviceSimulates, IsOwned, MoveSimulates, WorldSimulates, names_of}
use Rattle.xml_writer.specs.Items.{ItemOut}

module _ (c : Coming) where
  abbrev Runs : Type 0
  Runs = MoveSimulates c.schedule c.b c.says (Up c.position) c.w c.x c.runs

  replied : (y : stanzas.Up) → IsReply c y → Runs
  replied y is = handled_runs c c.x.takes (reply_is_handled c y is)

  by : (y : stanzas.Up) → up_stanza c.z ≡ y → Runs
  by Carbons reads = replied Carbons (served_reply c Carbons reads refl tt)
  by Presence reads = replied Presence (served_reply c Presence reads refl tt)
  by (Message m) reads = elim (cases_Bool (is_among m.to (names_of c.schedule))) [
    | inl exists ↦ handled_runs c (takes_with c.x c.wire.device (c.runs.simulation.devices c.wire.device c.o c.owned).device m) (message_is_handled c m reads exists)
    | inr nobody ↦ replied (Message m) (nobody_reply c m reads nobody)
  ]
  by (Query r) reads = replied (Query r) (served_reply c (Query r) reads refl (is_asked c r reads))

  pub stanza_runs : Runs
  stanza_runs = by (up_stanza c.z) refl

-- ---- the word of an item that goes up

module _ (schedule : WireView) (right : IsLineList schedule) (b : Bounds) (small : AreSmall b) (says : ℕ) (w : ItemWorld) (x : AppWorld) (runs : WorldSimulates schedule b says w x) (ground : IsGround schedule x) (position : ℕ) (wire : ItemWire) (i : ItemOut) (items : List ItemOut)
    (there : slice_get w.wires position ≡ Some wire) (pipe : wire.up.items ≡ i ∷ items) (o : Owned) (owned : IsOwned schedule wire.device o)
    (g : ItemGoesUp (identity_at schedule wire.device o) (runs.simulation.devices wire.device o owned).logins w (runs.simulation.devices wire.device o owned).view position wire i) (z : ItemOut) (word : g.has.word ≡ UpTraffic (St z)) where
  abbrev who : Identity
  who = identity_at schedule wire.device o

  abbrev old : DeviceSimulates schedule w x wire.device o
  old = runs.simulation.devices wire.device o owned

  same : z ≡ i
  same = ap (up_item who (old.logins (position + 1))) (sym word) ∙ g.has.is

  session : IsOfSession who w.server z
  session = subst (IsOfWord who w.server) word g.session

  coming : Coming
  coming = record {
    schedule = schedule;
    right = right;
    b = b;
    small = small;
    says = says;
    w = w;
    x = x;
    runs = runs;
    ground = ground;
    position = position;
    wire = wire;
    z = z;
    items = items;
    there = there;
    pipe = pipe ∙ ap (λ y. y ∷ items) (sym same);
    o = o;
    owned = owned;
    first = subst (IsFirst who old.logins w.server (by_number w.wires) old.view (position + 1)) word g.has.first;
    session = session;
    here = subst (UpDoes who who old.logins position w (moved (Up position) w) old.view takes_it) word g.does session;
    beside = λ whom others u is. subst (UpDoes who whom others position w (moved (Up position) w) u takes_nothing) word (g.beside whom others u is) session;
  }

  pub stanza_goes_up : MoveSimulates schedule b says (Up position) w x runs
  unfolding coming
  stanza_goes_up = stanza_runs coming
