-- The server takes a word of the session that it has on a connection.
use Rattle.std.proofs.Common.{◌≡◌, ℕ, ◌≤◌, Bool, List, Some, length, map, refl, sym, ap, subst, ◌∙◌}
use Rattle.std.specs.List.{All}
use Rattle.std.specs.Option.{option_map}
use Rattle.sm_acks.specs.declared.end.TheConstants.{MOST_UNACKNOWLEDGED}
use Rattle.srv_state.specs.State.{ServerState}
use Rattle.srv_state.specs.Steps.{acted}
use Rattle.srv_state.specs.Streams.{standing_of}
use Rattle.srv_state.specs.Words.{word_of}
use Rattle.srv_state.specs.declared.connection.Phase.TheVariants as phase
use Rattle.srv_state.specs.declared.connection.Standing.{Standing}
use Rattle.srv_state.specs.declared.connection.Tries.TheVariants as tries
use Rattle.srv_state.specs.declared.word.Word.{Word}
use Rattle.sim_3_items.specs.Counted.{IsForClient}
use Rattle.sim_3_items.specs.Frames.{KeepsClient, SameClient}
use Rattle.sim_3_items.specs.Identities.{Identity, Login}
use Rattle.sim_3_items.specs.Pipes.{IsWire, PipesRepresent}
use Rattle.sim_3_items.specs.Sent.{sent, sent_under}
use Rattle.sim_3_items.specs.Servers.{IsRow}
use Rattle.sim_3_items.specs.WordItems.{down_item, is_after_login}
use Rattle.xml_framer.specs.declared.items.Item.TheVariants as item
use Rattle.sim_3_items.specs.ItemMoves.{step_of}
use Rattle.sim_3_items.specs.ItemPipes.{ItemWire, handed_up, put_down}
use Rattle.sim_3_items.specs.ItemWorlds.{itself}
use Rattle.sim_2_links.specs.Promises.{HasThere}
use Rattle.sim_2_links.specs.Stages.{Conn}
use Rattle.sim_2_links.specs.Views.{Row, Table, View, with_at}
use Rattle.sim_2_links.specs.Wires.{left_up, send_down}
use Rattle.sim_2_links.specs.Words.{AtSession, DownWord, Phase, UpWord, down_stanzas}
use Rattle.sm_live.specs.Sessions.{Session, is_named, session_at, session_of, told}
use Rattle.sim_4_links_follow.proofs.HandMoves.{row_here, wire_here}
use Rattle.sim_4_links_follow.specs.Taking.{IsFirst, on_item}
use Rattle.srv_core.specs.Ready.{at_bound, at_ready_or_bound}
use Rattle.xml_trees.specs.Trees.{Elem}
use Rattle.sim_4_links_follow.proofs.Emitted.{puts_are_for, puts_at, puts_here}
use Rattle.sim_4_links_follow.proofs.Flows.{taken_flowing}
use Rattle.sim_4_links_follow.proofs.Found.{found_on}
use Rattle.sim_3_images.proofs.RuleKept.{numbered_here}
use Rattle.sim_4_links_follow.proofs.Placed.{keeps_at, shown_sent}
use Rattle.sim_4_links_follow.proofs.Servings.{IsLive, live_of}
use Rattle.sim_4_links_follow.proofs.Taken.{wire_taken}
use Rattle.xml_writer.specs.Items.{ItemOut, Whole}

module _ (who : Identity) (logins : ℕ → Login) (h : ServerState ItemOut) (wires : Table ItemWire) (v : View ItemOut) (k : ℕ) (word : UpWord ItemOut) (p : IsFirst who logins h wires v k word) where
  -- the connection as the word was taken and others were put
  abbrev pub taken : Phase → List (DownWord ItemOut) → Conn ItemOut
  taken at puts = record p.conn { phase = at; wires = send_down puts (left_up p.rest p.conn.wires) }

  pub taken_pipes : (at : Phase) (puts : List (DownWord ItemOut)) (items : List ItemOut) (next : View ItemOut) → ((j : ℕ) → next.conns j ≡ with_at k (taken at puts) v.conns j)
      → items ≡ map (down_item who (logins k) k (is_after_login p.conn.client)) puts → All IsForClient (down_stanzas puts) → PipesRepresent who logins (sent (puts_at k items) (with_at k (handed_up p.wire) wires)) next
  taken_pipes at puts items next conns same stanzas =
      let here : sent_under k (puts_at k items) (handed_up p.wire) ≡ put_down (map (down_item who (logins k) k (is_after_login p.conn.client)) puts) (handed_up p.wire)
      = puts_here k items (handed_up p.wire) ∙ ap (λ l. put_down l (handed_up p.wire)) same in
      shown_sent who logins wires v next k (taken at puts) p.wire (handed_up p.wire) (puts_at k items) p.pipes conns (puts_are_for k items)
      (subst (IsWire who (logins k) k (taken at puts)) (sym here) (wire_taken who (logins k) k p.conn p.wire (wire_here who logins h wires v k word p) word p.rest puts at p.first stanzas))

  pub taken_client : (at : Phase) (puts : List (DownWord ItemOut)) (next : View ItemOut) → next.here ≡ v.here → next.own ≡ v.own → next.epoch ≡ v.epoch → next.conns ≡ with_at k (taken at puts) v.conns → SameClient v next
  taken_client at puts next here own epoch conns = record {
    here = here;
    own = own;
    epoch = epoch;
    conns = subst (λ t. (j : ℕ) → KeepsClient (v.conns j) (t j)) (sym conns) (keeps_at v.conns k p.conn (taken at puts) p.is refl (λ ended. taken_flowing p.rest puts p.conn.wires ∙ ended));
  }

  -- ---- its session

  module _ (counts : Bool) (there : HasThere v k p.conn.phase counts) where
    abbrev pub row : Row ItemOut
    row = there.0

    pub live : IsLive who h row
    live = live_of who logins h v row p.server there.1

    abbrev pub session : Session ItemOut
    session = live.session

    pub counts_so : session.shown.counted ≡ counts
    counts_so = live.row.counted ∙ there.4

    pub seat : session_at k h.sessions ≡ Some session
    seat = found_on h.next k who.account who.resource h.sessions session p.server.server_state.sessions live.named (live.row.conn ∙ there.3)

    pub numbered : session_of session.shown.number h.sessions ≡ Some session
    numbered = numbered_here (is_named who.account who.resource) h.next 1 h.sessions session p.server.server_state.sessions.ascending live.named

    pub few : length row.queue ≤ MOST_UNACKNOWLEDGED
    few = subst (λ q. length q ≤ MOST_UNACKNOWLEDGED) live.row.waiting (p.server.server_state.sessions.few session.shown.number session numbered)

    pub few_wait : (s : Session ItemOut) → IsRow row s → length s.waiting ≤ MOST_UNACKNOWLEDGED
    few_wait s is = subst (λ q. length q ≤ MOST_UNACKNOWLEDGED) (sym is.waiting) few

    abbrev pub seated : Standing
    seated = standing_of (record { entropy = (logins k).yours; phase = phase.Ready who.account; tries = tries.Three })

    -- the row of the table is that of a session
    pub session_row : (e : Elem) (w : Word) → word_of e ≡ w → on_item k (Whole e) h ≡ acted itself (at_bound itself k w (told session) seated h) (step_of h)
    session_row e w is =
        row_here who logins h wires v k word p (AtSession row.number) (item.Element e) there.2
        ∙ ap (λ u. acted itself (at_ready_or_bound itself k who.account u (option_map told (session_at k h.sessions)) seated h) (step_of h)) is
        ∙ ap (λ o. acted itself (at_ready_or_bound itself k who.account w (option_map told o) seated h) (step_of h)) seat
