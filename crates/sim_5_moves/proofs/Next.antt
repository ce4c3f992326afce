-- A stanza is the first word on its way down to a device: what is known of it, and of the client.
use Rattle.std.proofs.Common.{◌≡◌, ℕ, ◌+◌, option_map, true, All, List, [], ◌∷◌, ◌++◌, map, Option, Some, refl, sym, ap, subst, ◌∙◌}
use Rattle.std.proofs.lemmas.List.{append_cancel_left, map-append}
use Rattle.std.proofs.lemmas.Option.{same_Some}
use Rattle.mam_archive.specs.Entries.{EntryView}
use Rattle.sim_4_links_follow.proofs.Turning.{own_session}
use Rattle.cl_handlers.specs.declared.phase.Phase.TheVariants as phase
use Rattle.sim_3_items.specs.Clients.{IsOwn, client_phase}
use Rattle.sim_3_items.specs.Identities.{Identity, Login}
use Rattle.sim_3_items.specs.Reading.{IsNextDown}
use Rattle.sim_3_items.specs.Downs.{down_stanza}
use Rattle.sim_3_items.specs.Items.{stanzas_read}
use Rattle.sim_3_items.specs.ItemPipes.{ItemWire}
use Rattle.sim_3_items.specs.ItemWorlds.{ItemDevice}
use Rattle.sim_2_links.proofs.Expected.{expected_down}
use Rattle.sim_2_links.proofs.Numbers.{reached_rises}
use Rattle.sim_2_links.proofs.Reached.{link_kept}
use Rattle.sim_2_links.proofs.Seen.{move_seen}
use Rattle.sim_2_links.specs.Events.{Heard, IsSeenAs, LinkEvent, May, Seen, SeenSession, own_number, seen}
use Rattle.sim_2_links.specs.LinkMoves.{read_if}
use Rattle.sim_2_links.specs.Links.{LinkKept}
use Rattle.sim_2_links.specs.Machine.{LinkMoves, ReadsStanza}
use Rattle.sim_2_links.specs.Stages.{Conn}
use Rattle.sim_2_links.specs.Views.{Own, Table, View, alter, has, with_at}
use Rattle.sim_2_links.specs.Wires.{left_down, send_up}
use Rattle.sim_2_links.specs.Words.{Down, InOnline, St, down_stanzas}
use Rattle.sim_2_events.specs.Lists.{IsDevice, IsOnline, IsSession}
use Rattle.sm_outbox.specs.Sessions.{SessionView}
use Rattle.cmd_schedule.specs.Contents.{Owned}
use Rattle.sim_3_items.specs.Built.{IsDown}
use Rattle.sim_1_applications.specs.Devices.{Sessions}
use Rattle.sim_1_applications.specs.Stanzas.{Down as DownStanza}
use Rattle.sim_5_moves.specs.Going.{AllBuilt}
use Rattle.xml_writer.specs.Items.{ItemOut}
use Rattle.sim_5_moves.proofs.UpBuilt.{all_after}

-- what the links say: the client's session, and what the server put in it
pub record IsNextStanza (v : View ItemOut) (d : ItemDevice) (z : ItemOut) : Type 0 where
  pub own : Own ItemOut
  pub is_own : v.own ≡ Some own
  pub session : SessionView ItemOut
  pub has : d.client.session ≡ Some session
  pub shown : IsOwn own session
  pub online : d.client.phase ≡ phase.Online
  pub seen_one : SeenSession ItemOut
  pub there : (seen v).sessions own.number ≡ Some seen_one
  pub rest : List ItemOut
  pub put : seen_one.down_put ≡ seen_one.down_got ++ z ∷ rest

may_hear : (z : ItemOut) (s next : Seen ItemOut) (p : ℕ) (e : Option (LinkEvent ItemOut)) → e ≡ Some (Heard p z) → IsSeenAs e s next → May (Heard p z) s
may_hear z s next p e is so = (let at = subst (λ e. IsSeenAs e s next) is so in at.0)

module _ (who : Identity) (logins : ℕ → Login) (d : ItemDevice) (wires : Table ItemWire) (v : View ItemOut) (k : ℕ) (z : ItemOut) (p : IsNextDown who logins d wires v k (Down (St z))) where
  abbrev kept : LinkKept v
  kept = link_kept v p.shown.reached

  abbrev after : Conn ItemOut
  after = record p.conn { wires = send_up [] (left_down p.rest p.conn.wires) }

  abbrev next_by : Own ItemOut → View ItemOut
  next_by o = record v {
    conns = with_at k after v.conns;
    own = Some (record o { handled = o.handled + 1 });
    sessions = alter (λ q t. read_if (has (Some o.number) q) z (down_stanzas p.rest) t) v.sessions;
  }

  reads_it : (o : Own ItemOut) → v.own ≡ Some o → p.conn.client ≡ InOnline o.number → LinkMoves (ReadsStanza k z) v (next_by o)
  reads_it o own client = record { conn = p.conn; here = p.here; is = p.is; rest = p.rest; first = p.first; own = o; is_own = own; client = client; gives = refl }

  pub next_stanza : IsNextStanza v d z
  next_stanza =
      let expected = expected_down v k p.conn (Down (St z)) p.rest kept p.here p.is p.first in
      let o = expected.0 in
      let held = own_session who logins d v o p.shown.client expected.1 in
      let told = move_seen (ReadsStanza k z) v (next_by o) (reads_it o expected.1 expected.2) kept (reached_rises v p.shown.reached) in
      let may = may_hear z (seen v) (seen (next_by o)) o.number told.0 (told.1 ∙ ap of_it expected.1) told.2 in
      record {
        own = o;
        is_own = expected.1;
        session = held.0;
        has = held.1;
        shown = held.2;
        online = p.shown.client.phase k p.conn p.here p.is ∙ ap (client_phase who (logins k)) expected.2;
        seen_one = may.1.0;
        rest = may.1.1;
        there = may.1.2;
        put = may.1.3;
      }
    where
      of_it : Option (Own ItemOut) → Option (LinkEvent ItemOut)
      of_it o = option_map (λ p. Heard p z) (own_number o)

-- ---- the same of the sessions

-- the client is online, and the stanza comes next
pub record IsNextRead (o : Owned) (history : List EntryView) (z : ItemOut) (d : Sessions) : Type 0 where
  pub online : d.online ≡ true
  pub rest : List DownStanza
  pub first : d.now.down_rest ≡ down_stanza z ∷ rest
  pub built : IsDown o history z

all_at : (P : ItemOut → Type 0) (got : List ItemOut) (z : ItemOut) (rest put : List ItemOut) → put ≡ got ++ z ∷ rest → All P put → P z
all_at P got z rest put is all = all_after P got z rest (subst (All P) is all)

module _ (v : View ItemOut) (cd : ItemDevice) (z : ItemOut) (n : IsNextStanza v cd z) (d : Sessions) (device : IsDevice stanzas_read (seen v) d) where
  online_here : (d.online ≡ true) × IsSession stanzas_read n.seen_one d.now
  online_here =
      let at = subst (λ own. IsOnline (seen v) d.online (own_number own)) n.is_own device.online in
      let same = same_Some at.1.0 n.seen_one (sym at.1.1 ∙ n.there) in
      (at.0, device.now n.own.number n.seen_one n.there (subst (λ (t : SeenSession ItemOut). t.epoch ≡ Some v.epoch) same at.1.2))

  pub next_read : (o : Owned) (history : List EntryView) → AllBuilt o history (seen v) → IsNextRead o history z d
  next_read o history built =
      let s = online_here.1 in
      let t = n.seen_one in
      let whole : d.now.down_got ++ down_stanza z ∷ map down_stanza n.rest ≡ d.now.down_got ++ d.now.down_rest =
      ap (λ got. got ++ down_stanza z ∷ map down_stanza n.rest) (sym s.down_got) ∙ sym (map-append down_stanza t.down_got (z ∷ n.rest)) ∙ ap (map down_stanza) (sym n.put) ∙ s.down_put in
      record {
        online = online_here.0;
        rest = map down_stanza n.rest;
        first = sym (append_cancel_left d.now.down_got (down_stanza z ∷ map down_stanza n.rest) d.now.down_rest whole);
        built = all_at (IsDown o history) t.down_got z n.rest t.down_put n.put (built n.own.number t n.there).down;
      }
