-- The rows of a login: a header, `auth`, `response`, and the header behind it.
use Rattle.std.proofs.Common.{◌≡◌, ℕ, Bool, true, false, List, [], ◌∷◌, Some, Ok, codes, map, refl, sym, ap, subst, ◌∙◌, ◌⊎◌, inl, inr}
use Rattle.std.proofs.lemmas.List.Elements.{All-nil}
use Rattle.std.specs.Option.{option_and_then, option_map}
use Rattle.srv_state.specs.Logins.{answering, beginning, finishing, negotiation_at, negotiation_of}
use Rattle.srv_state.specs.State.{ServerState, Step, with_conn}
use Rattle.srv_state.specs.Steps.{acted, in_phase}
use Rattle.srv_state.specs.Streams.{answering_header, standing_of}
use Rattle.srv_state.specs.declared.connection.Phase.{Phase as ServerPhase}
use Rattle.srv_state.specs.declared.connection.Phase.TheVariants as phase
use Rattle.srv_state.specs.declared.connection.Stage.TheVariants as stage
use Rattle.srv_state.specs.declared.connection.Standing.{Standing}
use Rattle.srv_state.specs.declared.connection.Tries.TheVariants as tries
use Rattle.sim_3_items.specs.Counted.{IsForClient}
use Rattle.sim_3_items.specs.Identities.{Identity, IsLogin, Login, exchange_of}
use Rattle.sim_3_items.specs.Servers.{IsDeviceServed, phase_shown}
use Rattle.sim_3_items.specs.WordItems.{down_item, features_item, is_after_login, up_item}
use Rattle.xml_framer.specs.declared.items.Item.TheVariants as item
use Rattle.law_xml.specs.Spells.{as_written}
use Rattle.cl_login.specs.LoginRows.{client_header}
use Rattle.sim_3_items.specs.ItemMoves.{step_of}
use Rattle.sim_3_items.specs.ItemPipes.{ItemWire}
use Rattle.sim_3_items.specs.ItemWorlds.{itself}
use Rattle.sim_2_links.proofs.Expected.{expected_up}
use Rattle.sim_2_links.specs.Stages.{server_hand}
use Rattle.sim_2_links.specs.Views.{Table, View}
use Rattle.sim_2_links.specs.Words.{Auth, Chal, Challenge, Feat, Hdr, Head, Phase, Ready, Resp, Restart, Sasl, Start, Succ, UpWord}
use Rattle.srv_login.specs.Accounts.{account_named}
use Rattle.srv_login.specs.Headers.{header_answer}
use Rattle.srv_login.specs.Negotiations.{auth_answer, begun_by, begun_of, begun_with, ended_of, ended_with, final_answer}
use Rattle.srv_login.specs.declared.header_judgement.HeaderAnswer.TheVariants.{Opens}
use Rattle.srv_login.specs.declared.negotiation.AuthAnswer.TheVariants as auth
use Rattle.srv_login.specs.declared.negotiation.Negotiation.{Negotiation}
use Rattle.xml_names.specs.declared.headers.Header.{Header}
use Rattle.im_payload.specs.Names.{sasl}
use Rattle.law_payloads.proofs.SaslReads.{auth_written, carrier_written}
use Rattle.im_replies.specs.Sasl.{challenge_item, success_item}
use Rattle.im_replies.specs.Streams.{header_item}
use Rattle.im_login.specs.Sasl.{auth_of, carrier}
use Rattle.auth_scram.specs.Exchange.{added_nonce, server_final_message}
use Rattle.srv_core.specs.Table.{at_word}
use Rattle.sim_4_links_follow.proofs.HandMoves.{hand_follows, kept_here, open_here, row_here, wire_here}
use Rattle.sim_4_links_follow.proofs.ReadWords.{auth_word, header_opens, response_word}
use Rattle.sim_4_links_follow.proofs.Standing.{client_at_restart, client_at_start}
use Rattle.sim_4_links_follow.specs.Taking.{IsFirst, IsOfLogin, IsTaken, StepFollows, on_item}
use Rattle.sim_4_links_follow.proofs.Emitted.{puts_at}
use Rattle.xml_trees.specs.Trees.{Elem}
use Rattle.xml_writer.specs.Items.{ItemOut}

-- ---- what the server answers

auth_is : (who : Identity) (x : Login) (h : ServerState ItemOut) → IsLogin who x → IsDeviceServed who h
    → auth_answer (auth_of (codes "SCRAM-SHA-256") x.client.message) x.yours h.accounts ≡ auth.Begins (record { account = who.account; exchange = exchange_of who x })
unfolding sasl
auth_is who x h login served =
    ap (begun_of (added_nonce x.yours) h.accounts) (auth_written (codes "SCRAM-SHA-256") x.client.message login.auth)
    ∙ ap (begun_with (added_nonce x.yours) h.accounts) login.is_read
    ∙ ap (λ name. begun_by x.first (added_nonce x.yours) (account_named name h.accounts)) login.name
    ∙ ap (begun_by x.first (added_nonce x.yours)) served.found

final_is : (who : Identity) (x : Login) → IsLogin who x
    → final_answer (carrier (codes "response") x.reply.message) (record { account = who.account; exchange = exchange_of who x }) ≡ Ok (record { account = who.account; message = server_final_message x.reply.verifier })
final_is who x login =
    let n : Negotiation = record { account = who.account; exchange = exchange_of who x } in
    ap (ended_of n) (carrier_written (codes "response") x.reply.message login.response) ∙ ap (ended_with who.account) login.accepts

-- ---- the rows

module _ (who : Identity) (logins : ℕ → Login) (h : ServerState ItemOut) (wires : Table ItemWire) (v : View ItemOut) (k : ℕ) where
  abbrev standing : Phase → Standing
  standing at = standing_of (record { entropy = (logins k).yours; phase = phase_shown who (logins k) at; tries = tries.Three })

  abbrev hello : Header
  hello = as_written (client_header who.domain)

  abbrev pub goes : ServerPhase → List ItemOut → Step ItemOut
  goes at items = record { server_state = with_conn k (in_phase at) h; outs = puts_at k items }

  module _ (p : IsFirst who logins h wires v k Hdr) where
    opens_here : header_answer h.domain hello ≡ Opens
    opens_here = ap (λ d. header_answer d hello) p.server.served.domain ∙ header_opens who.domain p.normal.domain

    pub start_step : p.conn.phase ≡ Start → on_item k (up_item who (logins k) Hdr) h ≡ goes phase.Login (header_item who.domain k (logins k).yours ∷ features_item false ∷ [])
    start_step is =
        row_here who logins h wires v k Hdr p Start (item.Header 0 hello) is
        ∙ ap (λ a. acted itself (answering_header itself k (standing Start) a h) (step_of h)) opens_here
        ∙ ap (λ d. goes phase.Login (header_item d k (logins k).yours ∷ features_item false ∷ [])) p.server.served.domain

    pub restart_step : p.conn.phase ≡ Restart → on_item k (up_item who (logins k) Hdr) h ≡ goes (phase.Ready who.account) (header_item who.domain k (logins k).yours ∷ features_item true ∷ [])
    restart_step is =
        row_here who logins h wires v k Hdr p Restart (item.Header 0 hello) is
        ∙ ap (λ a. acted itself (answering_header itself k (standing Restart) a h) (step_of h)) opens_here
        ∙ ap (λ d. goes (phase.Ready who.account) (header_item d k (logins k).yours ∷ features_item true ∷ [])) p.server.served.domain

    headers : (b : Bool) → is_after_login p.conn.client ≡ b
        → (header_item who.domain k (logins k).yours ∷ features_item b ∷ []) ≡ map (down_item who (logins k) k (is_after_login p.conn.client)) (Head ∷ Feat ∷ [])
    headers b following = ap (λ c. header_item who.domain k (logins k).yours ∷ features_item c ∷ []) (sym following)

    start_follows : p.conn.phase ≡ Start → IsTaken who logins h wires v k p.wire Hdr
    start_follows is =
        subst (λ t. StepFollows who logins wires v k p.wire t []) (sym (start_step is))
        (hand_follows who logins h wires v k Hdr p Sasl (Head ∷ Feat ∷ []) phase.Login (header_item who.domain k (logins k).yours ∷ features_item false ∷ []) (ap (λ q. server_hand q Hdr) is) refl
        (headers false (ap is_after_login (client_at_start v k p.conn (kept_here who logins h wires v k Hdr p) p.is is))) (All-nil IsForClient))

    restart_follows : p.conn.phase ≡ Restart → IsTaken who logins h wires v k p.wire Hdr
    restart_follows is =
        subst (λ t. StepFollows who logins wires v k p.wire t []) (sym (restart_step is))
        (hand_follows who logins h wires v k Hdr p Ready (Head ∷ Feat ∷ []) (phase.Ready who.account) (header_item who.domain k (logins k).yours ∷ features_item true ∷ []) (ap (λ q. server_hand q Hdr) is) refl
        (headers true (ap is_after_login (client_at_restart v k p.conn (kept_here who logins h wires v k Hdr p) p.is p.rest is p.first))) (All-nil IsForClient))

    pub header_follows : (p.conn.phase ≡ Start) ⊎ (p.conn.phase ≡ Restart) → IsTaken who logins h wires v k p.wire Hdr
    header_follows (inl is) = start_follows is
    header_follows (inr is) = restart_follows is

  abbrev pub negotiation : Negotiation
  negotiation = record { account = who.account; exchange = exchange_of who (logins k) }

  module _ (p : IsFirst who logins h wires v k Auth) (is : p.conn.phase ≡ Sasl) where
    abbrev first_message : Elem
    first_message = auth_of (codes "SCRAM-SHA-256") (logins k).client.message

    pub auth_step : on_item k (up_item who (logins k) Auth) h ≡ goes (phase.Challenge negotiation) (challenge_item (exchange_of who (logins k)).message ∷ [])
    auth_step =
        row_here who logins h wires v k Auth p Sasl (item.Element first_message) is
        ∙ ap (λ w. acted itself (at_word itself k w stage.Login (standing Sasl) h) (step_of h)) (auth_word (codes "SCRAM-SHA-256") (logins k).client.message)
        ∙ ap (λ a. acted itself (beginning itself k tries.Three a) (step_of h)) (auth_is who (logins k) h (wire_here who logins h wires v k Auth p).login p.server.served)

    pub auth_follows : IsTaken who logins h wires v k p.wire Auth
    auth_follows =
        subst (λ t. StepFollows who logins wires v k p.wire t []) (sym auth_step)
        (hand_follows who logins h wires v k Auth p Challenge (Chal ∷ []) (phase.Challenge negotiation) (challenge_item (exchange_of who (logins k)).message ∷ []) (ap (λ q. server_hand q Auth) is) refl refl (All-nil IsForClient))

  module _ (p : IsFirst who logins h wires v k Resp) (is : p.conn.phase ≡ Challenge) where
    abbrev last_message : Elem
    last_message = carrier (codes "response") (logins k).reply.message

    negotiating : negotiation_at k h ≡ Some negotiation
    negotiating = ap (option_and_then negotiation_of) (open_here who logins h wires v k Resp p Challenge is)

    pub response_step : on_item k (up_item who (logins k) Resp) h ≡ goes (phase.Restart who.account) (success_item (server_final_message (logins k).reply.verifier) ∷ [])
    response_step =
        row_here who logins h wires v k Resp p Challenge (item.Element last_message) is
        ∙ ap (λ w. acted itself (at_word itself k w stage.Challenge (standing Challenge) h) (step_of h)) (response_word (logins k).reply.message)
        ∙ ap (λ o. acted itself (answering itself k tries.Three (option_map (final_answer last_message) o)) (step_of h)) negotiating
        ∙ ap (λ a. acted itself (finishing itself k tries.Three a) (step_of h)) (final_is who (logins k) (wire_here who logins h wires v k Resp p).login)

    pub response_follows : IsTaken who logins h wires v k p.wire Resp
    response_follows =
        subst (λ t. StepFollows who logins wires v k p.wire t []) (sym response_step)
        (hand_follows who logins h wires v k Resp p Restart (Succ ∷ []) (phase.Restart who.account) (success_item (server_final_message (logins k).reply.verifier) ∷ []) (ap (λ q. server_hand q Resp) is) refl refl (All-nil IsForClient))

pub login_follows : (who : Identity) (logins : ℕ → Login) (h : ServerState ItemOut) (wires : Table ItemWire) (v : View ItemOut) (k : ℕ) (word : UpWord ItemOut) (p : IsFirst who logins h wires v k word)
    → IsOfLogin word → IsTaken who logins h wires v k p.wire word
login_follows who logins h wires v k Hdr p hand = header_follows who logins h wires v k p (expected_up v k p.conn Hdr p.rest (kept_here who logins h wires v k Hdr p) p.is p.first)
login_follows who logins h wires v k Auth p hand = auth_follows who logins h wires v k p (expected_up v k p.conn Auth p.rest (kept_here who logins h wires v k Auth p) p.is p.first)
login_follows who logins h wires v k Resp p hand = response_follows who logins h wires v k p (expected_up v k p.conn Resp p.rest (kept_here who logins h wires v k Resp p) p.is p.first)
login_follows who logins h wires v k _ p hand = absurd hand
