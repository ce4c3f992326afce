-- The rows of a login and of acknowledgement leave the other devices as they are.
use Rattle.std.proofs.Common.{◌≡◌, ℕ, ◌≤◌, true, false, List, [], ◌∷◌, Some, length, refl, sym, ap, subst, ◌∙◌, ◌⊎◌, inl, inr}
use Rattle.std.specs.Option.{option_map}
use Rattle.sm_acks.specs.Counters.{ahead}
use Rattle.sm_acks.specs.declared.end.TheConstants.{MOST_UNACKNOWLEDGED}
use Rattle.srv_state.specs.State.{ServerState, with_conn, with_sessions}
use Rattle.srv_state.specs.Steps.{in_phase}
use Rattle.srv_state.specs.declared.connection.Phase.{Phase as ServerPhase}
use Rattle.srv_state.specs.declared.connection.Phase.TheVariants as phase
use Rattle.srv_state.specs.declared.connection.Tries.TheVariants as tries
use Rattle.sm_resumption.specs.declared.answers.TheConstants.{RESUMABLE_SECONDS}
use Rattle.sim_3_items.specs.Identities.{Identity, Login, exchange_of}
use Rattle.sim_3_items.specs.Pipes.{PipesRepresent}
use Rattle.sim_3_items.specs.Sent.{sent}
use Rattle.sim_3_items.specs.Servers.{ServerRepresents, phase_shown}
use Rattle.sim_3_items.specs.WordItems.{features_item, told_count, up_item}
use Rattle.sim_3_items.specs.ItemPipes.{ItemWire, handed_up}
use Rattle.sim_2_links.proofs.Expected.{expected_up}
use Rattle.sim_2_links.specs.Promises.{HasThere}
use Rattle.sim_2_links.specs.Views.{Table, View, with_at}
use Rattle.sim_2_links.specs.Words.{Ack, Auth, Enable, Hdr, Req, Resp, Restart, Start, Up, UpWord}
use Rattle.sm_live.specs.Sessions.{Session, acknowledged, asks, enables, is_named, session_of, with_session}
use Rattle.im_replies.specs.Management.{ack_item, resumable_item}
use Rattle.im_replies.specs.Sasl.{challenge_item, success_item}
use Rattle.im_replies.specs.Streams.{header_item}
use Rattle.auth_scram.specs.Exchange.{server_final_message}
use Rattle.sim_4_links_follow.proofs.HandMoves.{kept_here, open_here, wire_here}
use Rattle.sim_4_links_follow.proofs.LoginRows.{auth_step, response_step, restart_step, start_step}
use Rattle.sim_4_links_follow.proofs.ServersOthers.{not_its, nothing_moves, phase_stays, pipes_stay, session_stays}
use Rattle.sim_4_links_follow.proofs.SessionRows.{acknowledged_keeps, asks_keeps, count_step, enable_step, enables_keeps, fewer, request_step}
use Rattle.sim_4_links_follow.proofs.Sessions.{few_wait, live, numbered}
use Rattle.sim_4_links_follow.specs.Taking.{AreApart, IsFirst, IsOfLogin, IsOfManagement, StepFollows, on_item}
use Rattle.sim_4_links_follow.proofs.Emitted.{puts_are_for, puts_at}
use Rattle.sim_4_links_follow.proofs.Found.{change_here, of_changed}
use Rattle.sim_3_images.proofs.RuleKept.{changes_one, found_is}
use Rattle.xml_writer.specs.Items.{ItemOut}

module _ (who whom : Identity) (logins others : ℕ → Login) (h : ServerState ItemOut) (wires : Table ItemWire) (v u : View ItemOut) (k : ℕ) (apart : AreApart who whom) (represents : ServerRepresents whom others h u) (pipes : PipesRepresent whom others wires u) where
  -- the pipes of the other device, whatever is put there
  left_pipes : (word : UpWord ItemOut) (p : IsFirst who logins h wires v k word) (items : List ItemOut) → PipesRepresent whom others (sent (puts_at k items) (with_at k (handed_up p.wire) wires)) u
  left_pipes word p items = pipes_stay who whom others h wires u apart represents pipes k p.wire (puts_at k items) p.there (wire_here who logins h wires v k word p).of (puts_are_for k items)

  -- a connection comes to another phase
  goes_stays : (word : UpWord ItemOut) (p : IsFirst who logins h wires v k word) (at : ServerPhase) (items : List ItemOut) → StepFollows whom others wires u k p.wire (record { server_state = with_conn k (in_phase at) h; outs = puts_at k items }) []
  goes_stays word p at items =
      nothing_moves whom others (with_conn k (in_phase at) h) (sent (puts_at k items) (with_at k (handed_up p.wire) wires)) u
      (phase_stays who whom others h wires u apart represents pipes k (in_phase at) (record { entropy = (logins k).yours; phase = phase_shown who (logins k) p.conn.phase; tries = tries.Three })
      (not_its who whom others h wires u apart represents pipes k p.wire p.there (wire_here who logins h wires v k word p).of) (open_here who logins h wires v k word p p.conn.phase refl))
      (left_pipes word p items)

  header_stays : (p : IsFirst who logins h wires v k Hdr) → (p.conn.phase ≡ Start) ⊎ (p.conn.phase ≡ Restart) → StepFollows whom others wires u k p.wire (on_item k (up_item who (logins k) Hdr) h) []
  header_stays p (inl is) = subst (λ t. StepFollows whom others wires u k p.wire t []) (sym (start_step who logins h wires v k p is)) (goes_stays Hdr p phase.Login (header_item who.domain k (logins k).yours ∷ features_item false ∷ []))
  header_stays p (inr is) = subst (λ t. StepFollows whom others wires u k p.wire t []) (sym (restart_step who logins h wires v k p is)) (goes_stays Hdr p (phase.Ready who.account) (header_item who.domain k (logins k).yours ∷ features_item true ∷ []))

  pub login_stays : (word : UpWord ItemOut) (p : IsFirst who logins h wires v k word) → IsOfLogin word → StepFollows whom others wires u k p.wire (on_item k (up_item who (logins k) word) h) []
  login_stays Hdr p is = header_stays p (expected_up v k p.conn Hdr p.rest (kept_here who logins h wires v k Hdr p) p.is p.first)
  login_stays Auth p is =
      subst (λ t. StepFollows whom others wires u k p.wire t []) (sym (auth_step who logins h wires v k p (expected_up v k p.conn Auth p.rest (kept_here who logins h wires v k Auth p) p.is p.first)))
      (goes_stays Auth p (phase.Challenge (record { account = who.account; exchange = exchange_of who (logins k) })) (challenge_item (exchange_of who (logins k)).message ∷ []))
  login_stays Resp p is =
      subst (λ t. StepFollows whom others wires u k p.wire t []) (sym (response_step who logins h wires v k p (expected_up v k p.conn Resp p.rest (kept_here who logins h wires v k Resp p) p.is p.first)))
      (goes_stays Resp p (phase.Restart who.account) (success_item (server_final_message (logins k).reply.verifier) ∷ []))
  login_stays _ p is = absurd is

  -- ---- acknowledgement

  request_stays : (p : IsFirst who logins h wires v k (Up Req)) → HasThere v k p.conn.phase true → StepFollows whom others wires u k p.wire (on_item k (up_item who (logins k) (Up Req)) h) []
  request_stays p there =
      subst (λ t. StepFollows whom others wires u k p.wire t []) (sym (request_step who logins h wires v k p there))
      (nothing_moves whom others h (sent (puts_at k (ack_item (told_count there.0.handled) ∷ [])) (with_at k (handed_up p.wire) wires)) u represents (left_pipes (Up Req) p (ack_item (told_count there.0.handled) ∷ [])))

  enable_stays : (p : IsFirst who logins h wires v k Enable) → HasThere v k p.conn.phase false → StepFollows whom others wires u k p.wire (on_item k (up_item who (logins k) Enable) h) []
  enable_stays p there =
      let here = live who logins h wires v k Enable p false there in
      let s : Session ItemOut = here.session in
      let its : session_of there.0.number h.sessions ≡ Some s = subst (λ m. session_of m h.sessions ≡ Some s) here.row.number (numbered who logins h wires v k Enable p false there) in
      subst (λ t. StepFollows whom others wires u k p.wire t []) (sym (enable_step who logins h wires v k p there))
      (nothing_moves whom others (with_sessions (with_session there.0.number (enables true) h.sessions) h) (sent (puts_at k (resumable_item there.0.number RESUMABLE_SECONDS ∷ [])) (with_at k (handed_up p.wire) wires)) u
      (session_stays who whom others h wires u apart represents pipes there.0.number (enables true) s enables_keeps its (found_is (is_named who.account who.resource) h.sessions s here.named) (few_wait who logins h wires v k Enable p false there s here.row))
      (left_pipes Enable p (resumable_item there.0.number RESUMABLE_SECONDS ∷ [])))

  count_stays : (n : ℕ) (p : IsFirst who logins h wires v k (Up (Ack n))) → HasThere v k p.conn.phase true → StepFollows whom others wires u k p.wire (on_item k (up_item who (logins k) (Up (Ack n))) h) []
  count_stays n p there =
      let here = live who logins h wires v k (Up (Ack n)) p true there in
      let s : Session ItemOut = here.session in
      let m : ℕ = there.0.number in
      let f : Session ItemOut → Session ItemOut = acknowledged (told_count n) in
      let after : ServerState ItemOut = with_sessions (with_session m f h.sessions) h in
      let its : session_of m h.sessions ≡ Some s = subst (λ i. session_of i h.sessions ≡ Some s) here.row.number (numbered who logins h wires v k (Up (Ack n)) p true there) in
      let named = found_is (is_named who.account who.resource) h.sessions s here.named in
      let few : length (f s).waiting ≤ MOST_UNACKNOWLEDGED = fewer (ahead (told_count n) s.acked) MOST_UNACKNOWLEDGED s.waiting (few_wait who logins h wires v k (Up (Ack n)) p true there s here.row) in
      let acked : ServerRepresents whom others after u = session_stays who whom others h wires u apart represents pipes m f s (acknowledged_keeps (told_count n)) its named few in
      let now : session_of m after.sessions ≡ Some (f s) = of_changed m m f h.sessions (acknowledged_keeps (told_count n)) ∙ ap (option_map (changes_one m f)) its ∙ ap Some (change_here m f s here.row.number) in
      subst (λ t. StepFollows whom others wires u k p.wire t []) (sym (count_step who logins h wires v k n p there))
      (nothing_moves whom others (with_sessions (with_session m (asks false) after.sessions) after) (sent (puts_at k []) (with_at k (handed_up p.wire) wires)) u
      (session_stays who whom others after wires u apart acked pipes m (asks false) (f s) (asks_keeps false) now named few)
      (left_pipes (Up (Ack n)) p []))

  pub management_stays : (word : UpWord ItemOut) (p : IsFirst who logins h wires v k word) → IsOfManagement word → StepFollows whom others wires u k p.wire (on_item k (up_item who (logins k) word) h) []
  management_stays Enable p is = enable_stays p (expected_up v k p.conn Enable p.rest (kept_here who logins h wires v k Enable p) p.is p.first)
  management_stays (Up Req) p is = request_stays p (expected_up v k p.conn (Up Req) p.rest (kept_here who logins h wires v k (Up Req) p) p.is p.first)
  management_stays (Up (Ack n)) p is = count_stays n p (expected_up v k p.conn (Up (Ack n)) p.rest (kept_here who logins h wires v k (Up (Ack n)) p) p.is p.first)
  management_stays _ p is = absurd is

  pub others_stay : (word : UpWord ItemOut) (p : IsFirst who logins h wires v k word) → IsOfLogin word ⊎ IsOfManagement word → StepFollows whom others wires u k p.wire (on_item k (up_item who (logins k) word) h) []
  others_stay word p (inl is) = login_stays word p is
  others_stay word p (inr is) = management_stays word p is
