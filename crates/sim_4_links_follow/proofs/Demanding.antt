-- Behind what the server did a request for the count goes out (XEP-0198, section 4).
use Rattle.std.proofs.Common.{◌≡◌, ◌≢◌, ℕ, ◌≤◌, true, List, [], ◌∷◌, ◌++◌, Option, Some, None, length, refl, sym, ap, subst, ◌∙◌}
use Rattle.std.proofs.lemmas.List.{append-nil}
use Rattle.std.proofs.lemmas.List.Elements.{All-nil}
use Rattle.std.specs.Option.{option_map}
use Rattle.sm_acks.specs.declared.end.TheConstants.{MOST_UNACKNOWLEDGED}
use Rattle.srv_state.specs.State.{Out, Put, ServerState, with_sessions}
use Rattle.sim_3_items.specs.Counted.{IsForClient}
use Rattle.sim_3_items.specs.Labels.{Label}
use Rattle.sim_3_items.specs.Identities.{Identity, Login}
use Rattle.sim_3_items.specs.Sent.{sent, sent_under}
use Rattle.sim_3_items.specs.Servers.{ServerFollows, ServerRepresents}
use Rattle.sim_3_items.specs.ItemPipes.{ItemWire, put_down}
use Rattle.sim_2_links.proofs.Prompt.{same_flow_down}
use Rattle.sim_2_links.specs.Machine.{Demands}
use Rattle.sim_2_links.specs.Stages.{Conn}
use Rattle.sim_2_links.specs.Views.{Row, Table, View, with_at}
use Rattle.sim_2_links.specs.Wires.{send_down}
use Rattle.sim_2_links.specs.Words.{Down, Req}
use Rattle.sm_live.specs.Sessions.{asks, is_named, with_session}
use Rattle.im_replies.specs.Management.{request_item}
use Rattle.sim_4_links_follow.proofs.Former.{has_wire, keeps_both, pipes_as}
use Rattle.sim_4_links_follow.proofs.SessionRows.{asked_row, asks_keeps}
use Rattle.sim_4_links_follow.proofs.Emitted.{one_here, puts_are_for, sent_both}
use Rattle.sim_3_images.proofs.RuleKept.{numbered_here}
use Rattle.sim_4_links_follow.proofs.MoreMoves.{does_both, then_reaches}
use Rattle.sim_4_links_follow.proofs.Placed.{keeps_at, shown_at}
use Rattle.sim_4_links_follow.proofs.Servings.{known_same, live_of, row_represents, session_represents}
use Rattle.sim_4_links_follow.proofs.Taken.{wire_put}
use Rattle.xml_writer.specs.Items.{ItemOut}

-- the pipes are the same ones
pub follows_on : (who : Identity) (logins : ℕ → Login) (server_state : ServerState ItemOut) (wires same : Table ItemWire) (v : View ItemOut) (done : List (Label ItemOut)) → ((j : ℕ) → same j ≡ wires j) → ServerFollows who logins server_state wires v done → ServerFollows who logins server_state same v done
follows_on who logins server_state wires same v done alike f = record {
  moves = f.moves;
  next = f.next;
  leads = f.leads;
  does = f.does;
  server = f.server;
  pipes = pipes_as who logins wires same f.next alike f.pipes;
  client = f.client;
}

-- these are put out, and then those
pub sent_more : (outs more : List (Out ItemOut)) (wires : Table ItemWire) (j : ℕ) → sent (outs ++ more) wires j ≡ sent more (sent outs wires) j
sent_more outs more wires j = go (wires j)
  where
    go : (o : Option ItemWire) → option_map (sent_under j (outs ++ more)) o ≡ option_map (sent_under j more) (option_map (sent_under j outs) o)
    go None = refl
    go (Some u) = ap Some (sent_both j outs more u)

module _ (who : Identity) (logins : ℕ → Login) (server_state : ServerState ItemOut) (wires : Table ItemWire) (v : View ItemOut) (done : List (Label ItemOut)) (k : ℕ) (f : ServerFollows who logins server_state wires v done) (row : Row ItemOut) (c : Conn ItemOut) (is_row : f.next.row ≡ Some row)
    (on : row.on ≡ Some k) (counted : row.counted ≡ true) (is : f.next.conns k ≡ Some c) where
  abbrev asked : ServerState ItemOut
  asked = with_sessions (with_session row.number (asks true) server_state.sessions) server_state

  abbrev d : Conn ItemOut
  d = record c { wires = send_down (Down Req ∷ []) c.wires }

  abbrev last : View ItemOut
  last = record f.next { conns = with_at k d f.next.conns }

  few : length row.queue ≤ MOST_UNACKNOWLEDGED
  few =
      let live = live_of who logins server_state f.next row f.server is_row in
      let numbered = numbered_here (is_named who.account who.resource) server_state.next 1 server_state.sessions live.session f.server.server_state.sessions.ascending live.named in
      subst (λ q. length q ≤ MOST_UNACKNOWLEDGED) live.row.waiting (f.server.server_state.sessions.few live.session.shown.number live.session numbered)

  asked_represents : ServerRepresents who logins asked f.next
  asked_represents =
      subst (λ o. ServerRepresents who logins asked (record f.next { row = o })) (sym is_row)
      (session_represents who logins server_state f.next row row (asks true) f.next.sessions (known_same f.next) f.server is_row (asks_keeps true) (asked_row true row) (λ s its. subst (λ q. length q ≤ MOST_UNACKNOWLEDGED) (sym its.waiting) few))

  pub demanded : ServerFollows who logins asked (sent (Put k request_item ∷ []) wires) v done
  demanded =
      let has = has_wire who logins wires f.next k c f.pipes is in
      record {
        moves = f.moves ++ Demands k ∷ [];
        next = last;
        leads = then_reaches f.moves (Demands k ∷ []) v f.next last f.leads (last, record { conn = c; is = is; row = row; is_row = is_row; on = on; counted = counted; gives = refl }, refl);
        does = does_both f.moves (Demands k ∷ []) done [] f.does refl ∙ append-nil done;
        server = row_represents who logins asked f.next asked_represents k c is d f.next.row f.next.sessions (known_same f.next) refl asked_represents.row;
        pipes =
            shown_at who logins wires (sent (Put k request_item ∷ []) wires) f.next last k d (put_down (request_item ∷ []) has.wire) f.pipes (λ j. refl)
            (ap (option_map (sent_under k (Put k request_item ∷ []))) has.there ∙ ap Some (one_here k (put_down (request_item ∷ [])) has.wire)) (λ j other. left_so j other (wires j))
            (wire_put who (logins k) k c has.wire has.is (Down Req ∷ []) (All-nil IsForClient));
        client = record {
          here = f.client.here;
          own = f.client.own;
          epoch = f.client.epoch;
          conns = λ j. keeps_both (v.conns j) (f.next.conns j) (last.conns j) (f.client.conns j) (keeps_at f.next.conns k c d is refl (λ ended. same_flow_down (Down Req ∷ []) c.wires ∙ ended) j);
        };
      }
    where
      left_so : (j : ℕ) → k ≢ j → (o : Option ItemWire) → option_map (sent_under j (Put k request_item ∷ [])) o ≡ o
      left_so j other None = refl
      left_so j other (Some u) = ap Some (puts_are_for k (request_item ∷ []) j u other)
