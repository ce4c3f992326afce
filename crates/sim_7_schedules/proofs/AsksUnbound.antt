-- Where a device asks for a session, the server has none on the connection.
use Rattle.std.proofs.Common.{◌≡◌, ℕ, ◌+◌, Bool, true, false, ◌||◌, List, [], ◌∷◌, None, Some, codes, refl, sym, ap, subst, ◌∙◌, ◌⊎◌, inl, inr}
use Rattle.std.proofs.lemmas.Bool.{false≢true}
use Rattle.std.specs.List.{slice_get}
use Rattle.std.specs.Option.{option_map}
use Rattle.std.specs.Str.{bytes_eq}
use Rattle.srv_state.specs.State.{ServerState}
use Rattle.srv_state.specs.Words.{is_stanza}
use Rattle.sim_3_items.specs.Identities.{Identity}
use Rattle.sim_3_items.specs.Pipes.{by_number}
use Rattle.sim_3_items.specs.WordItems.{up_item}
use Rattle.sim_3_images.specs.Devices.{identity_at}
use Rattle.sim_3_items.specs.ItemPipes.{ItemWire}
use Rattle.sim_3_items.specs.ItemWorlds.{ItemWorld}
use Rattle.sim_2_links.proofs.Expected.{expected_up}
use Rattle.sim_2_links.specs.Stages.{Ending}
use Rattle.sim_2_links.specs.Views.{on_phase}
use Rattle.sim_2_links.specs.Words.{Ack, Auth, Bind, Challenge, Enable, Foot, Hdr, Phase, Ready, Req, Resp, Restart, ResumeAt, Sasl, St, Start, Up, UpWord}
use Rattle.sim_4_links_follow.proofs.HandMoves.{kept_here}
use Rattle.sim_4_links_follow.proofs.Leavings.{unseated}
use Rattle.sim_4_links_follow.proofs.StanzaRows.{stanza_comes}
use Rattle.sim_4_links_follow.specs.Steps.{ItemGoesUp}
use Rattle.sim_4_links_follow.specs.Taking.{IsFirst}
use Rattle.sm_live.specs.Sessions.{session_at}
use Rattle.sim_5_moves.proofs.Goes.{goes_up}
use Rattle.sim_5_moves.proofs.UpBuilt.{stanza_built}
use Rattle.sim_5_moves.specs.Running.{DeviceSimulates, IsOwned, WorldSimulates, history_for}
use Rattle.im_payload.specs.Shapes.{attr_or_empty}
use Rattle.im_requests.specs.Sessions.{bind_item, carbons_item}
use Rattle.cmd_schedule.specs.Contents.{Owned}
use Rattle.cmd_schedule.specs.Schedules.{WireView}
use Rattle.law_server.proofs.SessionsRendered.{at_rendered}
use Rattle.law_server.specs.Rendered.{session_rendered}
use Rattle.sim_3_items.specs.Built.{IsUp}
use Rattle.sim_1_applications.specs.Devices.{AppWorld}
use Rattle.xml_trees.specs.Trees.{name_of}
use Rattle.sim_7_schedules.proofs.Moves.{small}
use Rattle.sim_7_schedules.specs.Simulation.{Simulates, bounds}
use Rattle.sim_7_schedules.specs.LateWords.{AsksAreUnbound, IsAsk}
use Rattle.cmd_world.specs.Worlds as bytes
use Rattle.xml_writer.specs.Items.{Closing, ItemOut, Opening, Whole, written_item}

-- ---- items

abbrev stands : ItemOut → Bool
stands (Whole e) = is_stanza e
stands (Opening h) = false
stands Closing = false

abbrev asks : ItemOut → Bool
asks (Whole e) = is_stanza e || bytes_eq (name_of e) (codes "resume")
asks (Opening h) = false
asks Closing = false

abbrev id_in : ItemOut → List ℕ
id_in (Whole e) = attr_or_empty (codes "id") e
id_in (Opening h) = []
id_in Closing = []

asks_so : (i : ItemOut) → IsAsk i → asks i ≡ true
asks_so i (inl (resource, is)) = ap asks is
asks_so i (inr (previd, h, is)) = ap asks is

no_ask : (a i : ItemOut) → asks a ≡ false → a ≡ i → IsAsk i → ⊥
no_ask a i none is ask = false≢true (sym none ∙ ap asks is ∙ asks_so i ask)

-- no stanza of a session does
no_carbons : (resource : List ℕ) → bind_item resource ≡ carbons_item → ⊥
no_carbons resource same = false≢true (sym (ap (λ i. bytes_eq (id_in i) (codes "bind")) same))

-- ---- words

module _ (s : WireView) (says : ℕ) (w : ItemWorld) (x : AppWorld) (runs : WorldSimulates s bounds says w x) (position : ℕ) (wire : ItemWire) (i : ItemOut) (rest : List ItemOut) (there : slice_get w.wires position ≡ Some wire) (pipe : wire.up.items ≡ i ∷ rest) (o : Owned) (owned : IsOwned s wire.device o)
    (ask : IsAsk i) where
  abbrev who : Identity
  who = identity_at s wire.device o

  abbrev old : DeviceSimulates s w x wire.device o
  old = runs.simulation.devices wire.device o owned

  abbrev h : ServerState ItemOut
  h = w.server

  abbrev First : UpWord ItemOut → Type 0
  First word = IsFirst who old.logins h (by_number w.wires) old.view (position + 1) word

  abbrev Unbound : Type 0
  Unbound = session_at (position + 1) h.sessions ≡ None

  by_phase : (word : UpWord ItemOut) (p : First word) (q : Phase) → p.conn.phase ≡ q → ((e : Ending) (gone : Bool) → on_phase q e gone ≡ None) → Unbound
  by_phase word p q at none =
      unseated who old.logins h old.view (kept_here who old.logins h (by_number w.wires) old.view (position + 1) word p) p.server (position + 1) p.conn p.is
      (ap (λ f. on_phase f p.conn.ending p.conn.gone) at ∙ none p.conn.ending p.conn.gone)

  by_header : (p : First Hdr) → (p.conn.phase ≡ Start) ⊎ (p.conn.phase ≡ Restart) → Unbound
  by_header p (inl at) = by_phase Hdr p Start at (λ e gone. refl)
  by_header p (inr at) = by_phase Hdr p Restart at (λ e gone. refl)

  no_stanza : (z : ItemOut) → First (Up (St z)) → z ≡ i → IsAsk i → ⊥
  no_stanza z p same (inl (resource, is)) =
      let built : IsUp o z = stanza_built who old.logins h (by_number w.wires) old.view (position + 1) z p o (history_for s x.takes o) old.built in
      no_carbons resource (subst (IsUp o) (same ∙ is) built)
  no_stanza z p same (inr (previd, n, is)) =
      let stanza = (stanza_comes who old.logins h (by_number w.wires) old.view (position + 1) z p).stanza in
      false≢true (sym (ap stands (sym stanza.whole ∙ same ∙ is)) ∙ stanza.stanza)

  by_word : (word : UpWord ItemOut) (p : First word) → up_item who (old.logins (position + 1)) word ≡ i → Unbound
  by_word Hdr p same = by_header p (expected_up old.view (position + 1) p.conn Hdr p.rest (kept_here who old.logins h (by_number w.wires) old.view (position + 1) Hdr p) p.is p.first)
  by_word Auth p same = by_phase Auth p Sasl (expected_up old.view (position + 1) p.conn Auth p.rest (kept_here who old.logins h (by_number w.wires) old.view (position + 1) Auth p) p.is p.first) (λ e gone. refl)
  by_word Resp p same = by_phase Resp p Challenge (expected_up old.view (position + 1) p.conn Resp p.rest (kept_here who old.logins h (by_number w.wires) old.view (position + 1) Resp p) p.is p.first) (λ e gone. refl)
  by_word (ResumeAt q n) p same =
      by_phase (ResumeAt q n) p Ready (expected_up old.view (position + 1) p.conn (ResumeAt q n) p.rest (kept_here who old.logins h (by_number w.wires) old.view (position + 1) (ResumeAt q n) p) p.is p.first) (λ e gone. refl)
  by_word Bind p same = by_phase Bind p Ready (expected_up old.view (position + 1) p.conn Bind p.rest (kept_here who old.logins h (by_number w.wires) old.view (position + 1) Bind p) p.is p.first) (λ e gone. refl)
  by_word Enable p same = absurd (no_ask (up_item who (old.logins (position + 1)) Enable) i refl same ask)
  by_word (Up (St z)) p same = absurd (no_stanza z p same ask)
  by_word (Up Req) p same = absurd (no_ask (up_item who (old.logins (position + 1)) (Up Req)) i refl same ask)
  by_word (Up (Ack n)) p same = absurd (no_ask (up_item who (old.logins (position + 1)) (Up (Ack n))) i refl same ask)
  by_word Foot p same = absurd (no_ask Closing i refl same ask)

  g : ItemGoesUp who old.logins w old.view position wire i
  g = goes_up s bounds small says w x runs position wire i rest there pipe wire.device o old refl

  ask_unbound : Unbound
  ask_unbound = by_word g.has.word g.has.first g.has.is

pub asks_unbound : (s : WireView) (W : bytes.ByteWorld) (x : AppWorld) → Simulates s W x → AsksAreUnbound W
asks_unbound s W x here = record {
  items = here.items;
  encodes = here.encodes;
  unbound = λ position wire i rest there pipe ask.
      let owner = here.runs.simulation.wires position wire there in
      let none = ask_unbound s here.says here.items x here.runs position wire i rest there pipe owner.0 owner.1 ask in
      ap (λ (g : ServerState (List ℕ)). session_at (position + 1) g.sessions) here.encodes.encoding.server_state ∙ at_rendered written_item (position + 1) here.items.server.sessions ∙ ap (option_map (session_rendered written_item)) none;
}
