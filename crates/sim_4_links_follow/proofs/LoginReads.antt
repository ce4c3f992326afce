-- The client reads the words of a login, which are one move each.
use Rattle.std.proofs.Common.{◌≡◌, ℕ, true, false, List, [], ◌∷◌, Option, Some, None, Ok, codes, map, refl, sym, ap, subst, ◌∙◌, ◌⊎◌, inl, inr}
use Rattle.std.proofs.lemmas.List.Elements.{All-nil}
use Rattle.std.specs.List.{All}
use Rattle.cl_login.specs.LoginRows.{begun, checked, challenged, offered, replied, succeeded}
use Rattle.cl_handlers.specs.Clients.{ClientStep, ClientView}
use Rattle.cl_handlers.specs.LoginSteps.{follows}
use Rattle.cl_handlers.specs.SessionRows.{features2_with, resumes_or_binds}
use Rattle.cl_handlers.specs.Speech.{in_items}
use Rattle.cl_handlers.specs.declared.account.Account.{Account}
use Rattle.sim_3_items.specs.Clients.{IsOwn, IsOwnRepresented, client_phase}
use Rattle.sim_3_items.specs.Counted.{IsForServer}
use Rattle.sim_3_items.specs.Identities.{Identity, IsLogin, Login, exchange_of}
use Rattle.sim_3_items.specs.Reading.{HearingFollows, IsNextDown, IsRead, client_step_on, noted}
use Rattle.sim_3_items.specs.WordItems.{features_item, is_after_login, up_item}
use Rattle.im_login.proofs.FeatureLaws.{features_again}
use Rattle.im_login.specs.Features.{features_elem}
use Rattle.im_login.specs.declared.features.Features.{Features}
use Rattle.sim_3_items.specs.ItemPipes.{ItemWire}
use Rattle.sim_3_items.specs.ItemWorlds.{ItemDevice, silent_client_step}
use Rattle.sim_2_links.specs.LinkMoves.{told_if}
use Rattle.sim_2_links.specs.Machine.{AsksToBind, AsksToResume, ReadsHand}
use Rattle.sim_2_links.specs.Stages.{Goes, IsEarly, client_hand}
use Rattle.sim_2_links.specs.Views.{Own, Table, View, alter, has, with_at}
use Rattle.sim_2_links.specs.Words.{Auth, Bind, Chal, Client, DownWord, Feat, Hdr, Head, InAuth, InBind, InFeatures1, InFeatures2, InHeader1, InHeader2, InResponse, InResume, Resp, ResumeAt, Succ, UpWord, up_stanzas}
use Rattle.sm_outbox.specs.Sessions.{SessionView}
use Rattle.im_payload.specs.Names.{sasl}
use Rattle.law_payloads.proofs.SaslReads.{carrier_written}
use Rattle.im_requests.specs.Sessions.{bind_item, resume_item}
use Rattle.sm_resumption.specs.Previds.{previd_of}
use Rattle.im_login.specs.Readings.{carrier_read}
use Rattle.im_login.specs.Sasl.{carrier}
use Rattle.auth_scram.specs.Exchange.{ClientView as Exchange, added_nonce, begun_client, expecting, server_final_message}
use Rattle.xml_trees.specs.Trees.{Elem}
use Rattle.sim_4_links_follow.proofs.Servings.{known_altered, known_same}
use Rattle.xml_writer.specs.Items.{ItemOut, Whole}
use Rattle.sim_4_links_follow.proofs.Turning.{header_at, on_element}
use Rattle.sim_4_links_follow.proofs.Working.{SameItems, heard, kept_here, phase_here, same_items, wire_here, works_on}
use Rattle.sim_4_links_follow.proofs.Rests.{after_success}

abbrev pub login_features : Features
login_features = record { scram_sha_256 = true; bind = false; stream_management = false }

abbrev pub session_features : Features
session_features = record { scram_sha_256 = false; bind = true; stream_management = true }

module _ (who : Identity) (logins : ℕ → Login) (d : ItemDevice) (wires : Table ItemWire) (v : View ItemOut) (k : ℕ) where
  abbrev now : ClientStep ItemOut ItemOut
  now = silent_client_step d.client

  abbrev x : Login
  x = logins k

  -- the move of a word of the handshake
  pub hand_follows : (word : DownWord ItemOut) (p : IsNextDown who logins d wires v k word) (client : Client) (puts : List (UpWord ItemOut)) (t : ClientStep ItemOut ItemOut) → IsEarly p.conn.client
      → client_hand None p.conn.client word ≡ Goes client puts → t.client ≡ record d.client { phase = client_phase who (logins k) client } → t.out.put ≡ map (up_item who (logins k)) puts → noted t.out.notes ≡ []
      → All IsForServer (up_stanzas puts) → SameItems who logins d wires v k word p client → HearingFollows who logins d wires v k p.wire t
  hand_follows word p client puts t early hand is put notes stanzas items =
      let next : View ItemOut = record v { conns = with_at k (heard who logins d wires v k word p client puts) v.conns } in
      works_on who logins d wires v k word p t client puts (ReadsHand k ∷ []) next (tt, tt) (ap (λ (c : ClientView ItemOut). c.account) is) (ap (λ (c : ClientView ItemOut). c.epoch) is ∙ p.shown.client.epoch)
      (subst (IsOwnRepresented v.own) (ap (λ (c : ClientView ItemOut). c.session) (sym is)) p.shown.client.own) (ap (λ (c : ClientView ItemOut). c.phase) is) put stanzas items
      (next, record { conn = p.conn; here = p.here; is = p.is; word = word; rest = p.rest; first = p.first; early = early; client = client; puts = puts; hand = hand; gives = refl }, refl) (sym notes) refl (λ j. refl) refl refl (known_same v)

  -- ---- headers

  module _ (p : IsNextDown who logins d wires v k Head) where
    first_header : p.conn.client ≡ InHeader1 → IsRead who logins d wires v k p.conn p.wire Head
    first_header is =
        subst (HearingFollows who logins d wires v k p.wire) (sym (ap (header_at d) (phase_here who logins d wires v k Head p InHeader1 is)))
        (hand_follows Head p InFeatures1 [] (header_at d (client_phase who x InHeader1)) (subst IsEarly (sym is) tt) (ap (λ c. client_hand None c Head) is) refl refl refl (All-nil IsForServer)
        (same_items who logins d wires v k Head p InHeader1 InFeatures1 is refl))

    second_header : p.conn.client ≡ InHeader2 → IsRead who logins d wires v k p.conn p.wire Head
    second_header is =
        subst (HearingFollows who logins d wires v k p.wire) (sym (ap (header_at d) (phase_here who logins d wires v k Head p InHeader2 is)))
        (hand_follows Head p InFeatures2 [] (header_at d (client_phase who x InHeader2)) (subst IsEarly (sym is) tt) (ap (λ c. client_hand None c Head) is) refl refl refl (All-nil IsForServer)
        (same_items who logins d wires v k Head p InHeader2 InFeatures2 is refl))

    pub header_read : (p.conn.client ≡ InHeader1) ⊎ (p.conn.client ≡ InHeader2) → IsRead who logins d wires v k p.conn p.wire Head
    header_read (inl is) = first_header is
    header_read (inr is) = second_header is

  -- ---- features

  module _ (p : IsNextDown who logins d wires v k Feat) where
    login : IsLogin who x
    login = (wire_here who logins d wires v k Feat p).login

    first_client_step : p.conn.client ≡ InFeatures1 → client_step_on (features_item (is_after_login p.conn.client)) d ≡ follows in_items now (begun (Ok x.client))
    first_client_step is =
        ap (λ c. client_step_on (features_item (is_after_login c)) d) is
        ∙ on_element d (features_elem login_features) (client_phase who x InFeatures1) (phase_here who logins d wires v k Feat p InFeatures1 is)
        ∙ ap (λ r. follows in_items now (offered d.client.account.login (added_nonce x.mine) (features_elem login_features) r)) (features_again login_features)
        ∙ ap (λ (a : Account). follows in_items now (begun (begun_client a.login.name a.login.password (added_nonce x.mine)))) p.shown.client.account
        ∙ ap (λ r. follows in_items now (begun r)) login.begins

    first_features : p.conn.client ≡ InFeatures1 → IsRead who logins d wires v k p.conn p.wire Feat
    first_features is =
        subst (HearingFollows who logins d wires v k p.wire) (sym (first_client_step is))
        (hand_follows Feat p InAuth (Auth ∷ []) (follows in_items now (begun (Ok x.client))) (subst IsEarly (sym is) tt) (ap (λ c. client_hand None c Feat) is) refl refl refl (All-nil IsForServer)
        (same_items who logins d wires v k Feat p InFeatures1 InAuth is refl))

    second_client_step : p.conn.client ≡ InFeatures2 → client_step_on (features_item (is_after_login p.conn.client)) d ≡ resumes_or_binds in_items now d.client.session
    second_client_step is =
        ap (λ c. client_step_on (features_item (is_after_login c)) d) is
        ∙ on_element d (features_elem session_features) (client_phase who x InFeatures2) (phase_here who logins d wires v k Feat p InFeatures2 is)
        ∙ ap (features2_with in_items now (features_elem session_features)) (features_again session_features)

    -- without a session it asks for one
    binds_follow : p.conn.client ≡ InFeatures2 → v.own ≡ None → IsOwnRepresented v.own d.client.session → HearingFollows who logins d wires v k p.wire (resumes_or_binds in_items now None)
    binds_follow is none own =
        let next : View ItemOut = record v { conns = with_at k (heard who logins d wires v k Feat p InBind (Bind ∷ [])) v.conns } in
        works_on who logins d wires v k Feat p (resumes_or_binds in_items now None) InBind (Bind ∷ []) (AsksToBind k ∷ []) next (tt, tt) refl p.shown.client.epoch own refl
        (ap (λ (a : Account). bind_item a.resource ∷ []) p.shown.client.account) (All-nil IsForServer) (same_items who logins d wires v k Feat p InFeatures2 InBind is refl)
        (next, record { conn = p.conn; here = p.here; is = p.is; rest = p.rest; first = p.first; client = is; none = none; gives = refl }, refl) refl refl (λ j. refl) refl refl (known_same v)

    -- with one it asks to resume it
    resumes_follow : (o : Own ItemOut) (s : SessionView ItemOut) → p.conn.client ≡ InFeatures2 → v.own ≡ Some o → IsOwnRepresented v.own d.client.session → IsOwn o s → HearingFollows who logins d wires v k p.wire (resumes_or_binds in_items now (Some s))
    resumes_follow o s is some own both =
        let next : View ItemOut =
        record v { conns = with_at k (heard who logins d wires v k Feat p (InResume o.number) (ResumeAt o.number o.handled ∷ [])) v.conns; sessions = alter (λ q t. told_if (has (Some o.number) q) t) v.sessions } in
        works_on who logins d wires v k Feat p (resumes_or_binds in_items now (Some s)) (InResume o.number) (ResumeAt o.number o.handled ∷ []) (AsksToResume k ∷ []) next (tt, tt) refl p.shown.client.epoch own refl
        (ap (λ previd. resume_item previd s.waiting.handled ∷ []) both.previd ∙ ap (λ n. resume_item (previd_of o.number) n ∷ []) both.handled) (All-nil IsForServer)
        (same_items who logins d wires v k Feat p InFeatures2 (InResume o.number) is refl)
        (next, record { conn = p.conn; here = p.here; is = p.is; rest = p.rest; first = p.first; client = is; own = o; is_own = some; gives = refl }, refl) refl refl (λ j. refl) refl refl
        (known_altered (λ q t. told_if (has (Some o.number) q) t) v)

    asks_follow : p.conn.client ≡ InFeatures2 → (o : Option (Own ItemOut)) (s : Option (SessionView ItemOut)) → v.own ≡ o → d.client.session ≡ s → IsOwnRepresented o s → HearingFollows who logins d wires v k p.wire (resumes_or_binds in_items now s)
    asks_follow is None None own session shown = binds_follow is own p.shown.client.own
    asks_follow is (Some o) (Some s) own session shown = resumes_follow o s is own p.shown.client.own shown
    asks_follow is None (Some s) own session shown = absurd shown
    asks_follow is (Some o) None own session shown = absurd shown

    second_features : p.conn.client ≡ InFeatures2 → IsRead who logins d wires v k p.conn p.wire Feat
    second_features is = subst (HearingFollows who logins d wires v k p.wire) (sym (second_client_step is)) (asks_follow is v.own d.client.session refl refl p.shown.client.own)

    pub features_follow : (p.conn.client ≡ InFeatures1) ⊎ (p.conn.client ≡ InFeatures2) → IsRead who logins d wires v k p.conn p.wire Feat
    features_follow (inl is) = first_features is
    features_follow (inr is) = second_features is

  -- ---- the challenge, and the success

  module _ (p : IsNextDown who logins d wires v k Chal) (is : p.conn.client ≡ InAuth) where
    abbrev challenge : Elem
    challenge = carrier (codes "challenge") (exchange_of who x).message

    abbrev replies : ClientStep ItemOut ItemOut
    replies = follows in_items now (replied x.client (Ok x.reply))

    challenge_client_step : client_step_on (Whole challenge) d ≡ replies
    unfolding sasl
    challenge_client_step =
        let login = (wire_here who logins d wires v k Chal p).login in
        on_element d challenge (client_phase who x InAuth) (phase_here who logins d wires v k Chal p InAuth is)
        ∙ ap (λ r. follows in_items now (challenged x.client challenge r)) (carrier_written (codes "challenge") (exchange_of who x).message login.challenge)
        ∙ ap (λ r. follows in_items now (replied x.client r)) login.replies

    pub challenge_read : IsRead who logins d wires v k p.conn p.wire Chal
    challenge_read =
        subst (HearingFollows who logins d wires v k p.wire) (sym challenge_client_step)
        (hand_follows Chal p InResponse (Resp ∷ []) replies (subst IsEarly (sym is) tt) (ap (λ c. client_hand None c Chal) is) refl refl refl (All-nil IsForServer)
        (same_items who logins d wires v k Chal p InAuth InResponse is refl))

  module _ (p : IsNextDown who logins d wires v k Succ) (is : p.conn.client ≡ InResponse) where
    abbrev exchange : Exchange
    exchange = expecting x.client (Ok x.reply)

    abbrev final : List ℕ
    final = server_final_message x.reply.verifier

    abbrev success : Elem
    success = carrier (codes "success") final

    abbrev restarts : ClientStep ItemOut ItemOut
    restarts = follows in_items now (checked who.domain (Ok tt))

    success_client_step : client_step_on (Whole success) d ≡ restarts
    unfolding sasl
    success_client_step =
        let login = (wire_here who logins d wires v k Succ p).login in
        on_element d success (client_phase who x InResponse) (phase_here who logins d wires v k Succ p InResponse is)
        ∙ ap (λ (a : Account). follows in_items now (succeeded a.login.domain exchange success (carrier_read (codes "success") success))) p.shown.client.account
        ∙ ap (λ r. follows in_items now (succeeded who.domain exchange success r)) (carrier_written (codes "success") final login.success)
        ∙ ap (λ r. follows in_items now (checked who.domain r)) login.checks

    pub success_read : IsRead who logins d wires v k p.conn p.wire Succ
    success_read =
        subst (HearingFollows who logins d wires v k p.wire) (sym success_client_step)
        (hand_follows Succ p InHeader2 (Hdr ∷ []) restarts (subst IsEarly (sym is) tt) (ap (λ c. client_hand None c Succ) is) refl refl refl (All-nil IsForServer)
        (after_success who x k p.conn v p.rest (kept_here who logins d wires v k Succ p) p.is is p.first))
