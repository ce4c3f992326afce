-- A stanza that comes is handled.
use Rattle.std.proofs.Common.{◌≡◌, ℕ, true, refl, sym, ap, ◌∙◌}
use Rattle.std.proofs.lemmas.Option.{same_Some}
use Rattle.srv_state.specs.State.{ServerState}
use Rattle.sim_3_items.specs.Identities.{Identity, Login}
use Rattle.sim_3_items.specs.ItemPipes.{ItemWire}
use Rattle.sim_2_links.proofs.Expected.{expected_up}
use Rattle.sim_2_links.specs.Promises.{HasThere}
use Rattle.sim_2_links.specs.Views.{Table, View}
use Rattle.sim_2_links.specs.Words.{AtSession, St, Up}
use Rattle.sm_live.specs.Sessions.{Session, told}
use Rattle.sim_5_moves.specs.Replied.{following}
use Rattle.sim_4_links_follow.proofs.HandMoves.{kept_here, open_here}
use Rattle.sim_4_links_follow.specs.Taking.{IsFirst, on_item}
use Rattle.sim_5_moves.proofs.ServerWordsStanzas.{handled_is}
use Rattle.sim_5_moves.specs.Coming.{IsHandled}
use Rattle.sim_4_links_follow.specs.Given.{IsOfSession}
use Rattle.sim_4_links_follow.proofs.Found.{found_on}
use Rattle.sim_4_links_follow.proofs.Servings.{IsLive, live_of}
use Rattle.xml_writer.specs.Items.{ItemOut}

module _ (who : Identity) (logins : ℕ → Login) (h : ServerState ItemOut) (wires : Table ItemWire) (v : View ItemOut) (k : ℕ) (z : ItemOut) (p : IsFirst who logins h wires v k (Up (St z))) (x : IsOfSession who h z) where
  abbrev there : HasThere v k p.conn.phase true
  there = expected_up v k p.conn (Up (St z)) p.rest (kept_here who logins h wires v k (Up (St z)) p) p.is p.first

  live : IsLive who h there.0
  live = live_of who logins h v there.0 p.server there.1

  same : live.session ≡ x.session
  same = same_Some live.session x.session (sym live.named ∙ x.named)

  handled : IsHandled k x.stanza.elem x.session h
  handled = record {
    conn = _;
    account = who.account;
    open_one = open_here who logins h wires v k (Up (St z)) p (AtSession there.0.number) there.2;
    ready = refl;
    seat = found_on h.next k who.account who.resource h.sessions x.session p.server.server_state.sessions x.named (ap (λ (s : Session ItemOut). s.shown.conn) (sym same) ∙ live.row.conn ∙ there.3);
    stanza = x.stanza.stanza;
    short = x.stanza.short;
    fair = x.stanza.fair (told x.session) h;
  }

  pub stanza_step : on_item k z h ≡ following x.stanza.elem x.session h
  stanza_step = ap (λ i. on_item k i h) x.stanza.whole ∙ handled_is k x.stanza.elem x.session h handled
