-- A client that reads a word stays on its connection, but where the word ends the stream.
use Rattle.std.proofs.Common.{◌≡◌, ℕ, true, false, List, Option, Some, None, Ok, codes, is_ok, not, if◌then◌else◌, refl, ap, ◌∙◌, inl, inr, arith}
use Rattle.std.proofs.Math.Nat.{mod-lt}
use Rattle.auth_scram.specs.Exchange.{ClientView as Exchange, added_nonce, begun_client, expecting, server_final_message}
use Rattle.base_lemmas.proofs.HexDigits.{length-hex16_of}
use Rattle.cl_core.specs.Steps.{online_in, told_row}
use Rattle.cl_handlers.specs.AckRows.{acknowledges, counts_too_high, request_row}
use Rattle.cl_handlers.specs.ClientSteps.{is_apart}
use Rattle.cl_handlers.specs.Clients.{ClientStep}
use Rattle.cl_handlers.specs.LoginSteps.{follows, other_element}
use Rattle.cl_handlers.specs.SessionRows.{asks, attaches, begins, begins_epoch, enabling_with, failed_row, features2_with, resumed_in, resumes_or_binds, resuming_with}
use Rattle.cl_handlers.specs.Speech.{in_items}
use Rattle.cl_handlers.specs.declared.account.Account.{Account}
use Rattle.cl_handlers.specs.declared.phase.Phase.TheVariants as phase
use Rattle.cl_login.specs.LoginRows.{begun, challenged, checked, offered, replied, succeeded}
use Rattle.im_extensions.specs.Bind.{bind_result_elem}
use Rattle.im_extensions.specs.StreamManagement.{ack_elem, enabled_elem, resumed_elem, sm_failed_elem}
use Rattle.im_extensions.specs.declared.stream_management.Ack.{Ack as AckWord}
use Rattle.im_extensions.specs.declared.stream_management.Enabled.{Enabled as EnabledWord}
use Rattle.im_extensions.specs.declared.stream_management.Resumed.{Resumed as ResumedWord}
use Rattle.im_login.proofs.FeatureLaws.{features_again}
use Rattle.im_login.specs.Features.{features_elem}
use Rattle.im_login.specs.Readings.{carrier_read}
use Rattle.im_login.specs.Sasl.{carrier}
use Rattle.im_payload.specs.Bare.{bare}
use Rattle.im_payload.specs.Names.{management, sasl}
use Rattle.im_requests.specs.Sessions.{enable_item}
use Rattle.im_stanza.specs.Written.{iq_elem}
use Rattle.im_stanza.specs.declared.conditions.Condition.TheVariants.{ItemNotFound}
use Rattle.im_stanza.specs.declared.kinds.IqKind.TheVariants.{Result}
use Rattle.law_payloads.proofs.ManagementWritten.{ack_written, enabled_written, resumed_written}
use Rattle.law_payloads.proofs.RequestReads.{result_written}
use Rattle.law_payloads.proofs.SaslReads.{carrier_written}
use Rattle.sim_2_links.proofs.Promised.{down_count_within, resumed_within}
use Rattle.sim_2_links.specs.Views.{Own, Table, View}
use Rattle.sim_2_links.specs.Words.{Ack, Bound, Chal, Client, Down, DownWord, Enabled, Failed, Feat, Head, InAuth, InBind, InEnable, InFeatures1, InFeatures2, InHeader1, InHeader2, InOnline, InResponse, InResume, Req, Resumed, Succ}
use Rattle.sim_3_items.specs.Clients.{IsOwn, client_phase}
use Rattle.sim_3_items.specs.Identities.{Identity, Login, exchange_of, full_of}
use Rattle.sim_3_items.specs.ItemPipes.{ItemWire}
use Rattle.sim_3_items.specs.ItemWorlds.{ItemDevice, silent_client_step}
use Rattle.sim_3_items.specs.Reading.{IsNextDown, client_step_on}
use Rattle.sim_3_items.specs.WordItems.{down_item, features_item, is_after_login, told_count}
use Rattle.sim_4_links_follow.proofs.AllReads.{expected}
use Rattle.sim_4_links_follow.proofs.Counted.{not_too_high}
use Rattle.sim_4_links_follow.proofs.SessionReads.{some_digits}
use Rattle.sim_4_links_follow.proofs.Turning.{header_at, on_element, own_session}
use Rattle.sim_4_links_follow.proofs.Working.{kept_here, never_apart, phase_here, wire_here}
use Rattle.sim_4_links_follow.proofs.LoginReads.{login_features, session_features}
use Rattle.sm_outbox.specs.Sessions.{SessionView}
use Rattle.sm_outbox.specs.Waiting.{too_high}
use Rattle.sm_resumption.specs.Previds.{previd_of}
use Rattle.sm_resumption.specs.declared.answers.TheConstants.{RESUMABLE_SECONDS}
use Rattle.xml_trees.specs.Trees.{Elem, child, no_nodes}
use Rattle.xml_writer.specs.Items.{ItemOut, Whole}

module _ (who : Identity) (logins : ℕ → Login) (d : ItemDevice) (wires : Table ItemWire) (v : View ItemOut) (k : ℕ) where
  abbrev now : ClientStep ItemOut ItemOut
  now = silent_client_step d.client

  abbrev x : Login
  x = logins k

  abbrev At : DownWord ItemOut → Type 0
  At word = IsNextDown who logins d wires v k word

  abbrev item : (word : DownWord ItemOut) → At word → ItemOut
  item word p = down_item who (logins k) k (is_after_login p.conn.client) word

  -- the client works on behind this
  abbrev pub Stays : ItemOut → Type 0
  Stays z = is_apart (client_step_on z d).client.phase ≡ false

  by_step : (z : ItemOut) (t : ClientStep ItemOut ItemOut) (client : Client) → client_step_on z d ≡ t → t.client.phase ≡ client_phase who x client → Stays z
  by_step z t client is at = ap (λ (u : ClientStep ItemOut ItemOut). is_apart u.client.phase) is ∙ ap is_apart at ∙ never_apart who x client

  -- ---- a login

  header_stays : (p : At Head) → Stays (item Head p)
  header_stays p =
      elim (expected who logins d wires v k Head p) [
        | inl is ↦ by_step (item Head p) (header_at d (client_phase who x InHeader1)) InFeatures1 (ap (header_at d) (phase_here who logins d wires v k Head p InHeader1 is)) refl
        | inr is ↦ by_step (item Head p) (header_at d (client_phase who x InHeader2)) InFeatures2 (ap (header_at d) (phase_here who logins d wires v k Head p InHeader2 is)) refl
      ]

  module _ (p : At Feat) where
    first_step : p.conn.client ≡ InFeatures1 → client_step_on (features_item (is_after_login p.conn.client)) d ≡ follows in_items now (begun (Ok x.client))
    first_step is =
        ap (λ c. client_step_on (features_item (is_after_login c)) d) is
        ∙ on_element d (features_elem login_features) (client_phase who x InFeatures1) (phase_here who logins d wires v k Feat p InFeatures1 is)
        ∙ ap (λ r. follows in_items now (offered d.client.account.login (added_nonce x.mine) (features_elem login_features) r)) (features_again login_features)
        ∙ ap (λ (a : Account). follows in_items now (begun (begun_client a.login.name a.login.password (added_nonce x.mine)))) p.shown.client.account
        ∙ ap (λ r. follows in_items now (begun r)) (wire_here who logins d wires v k Feat p).login.begins

    second_step : p.conn.client ≡ InFeatures2 → client_step_on (features_item (is_after_login p.conn.client)) d ≡ resumes_or_binds in_items now d.client.session
    second_step is =
        ap (λ c. client_step_on (features_item (is_after_login c)) d) is
        ∙ on_element d (features_elem session_features) (client_phase who x InFeatures2) (phase_here who logins d wires v k Feat p InFeatures2 is)
        ∙ ap (features2_with in_items now (features_elem session_features)) (features_again session_features)

    asks_stay : (s : Option (SessionView ItemOut)) → is_apart (resumes_or_binds in_items now s).client.phase ≡ false
    asks_stay None = refl
    asks_stay (Some s) = refl

    features_stay : Stays (item Feat p)
    features_stay =
        elim (expected who logins d wires v k Feat p) [
          | inl is ↦ by_step (item Feat p) (follows in_items now (begun (Ok x.client))) InAuth (first_step is) refl
          | inr is ↦ ap (λ (u : ClientStep ItemOut ItemOut). is_apart u.client.phase) (second_step is) ∙ asks_stay d.client.session
        ]

  module _ (p : At Chal) where
    abbrev challenge : Elem
    challenge = carrier (codes "challenge") (exchange_of who x).message

    abbrev replies : ClientStep ItemOut ItemOut
    replies = follows in_items now (replied x.client (Ok x.reply))

    challenge_step : client_step_on (Whole challenge) d ≡ replies
    unfolding sasl
    challenge_step =
        let login = (wire_here who logins d wires v k Chal p).login in
        on_element d challenge (client_phase who x InAuth) (phase_here who logins d wires v k Chal p InAuth (expected who logins d wires v k Chal p))
        ∙ ap (λ r. follows in_items now (challenged x.client challenge r)) (carrier_written (codes "challenge") (exchange_of who x).message login.challenge)
        ∙ ap (λ r. follows in_items now (replied x.client r)) login.replies

    challenge_stays : Stays (item Chal p)
    challenge_stays = by_step (item Chal p) replies InResponse challenge_step refl

  module _ (p : At Succ) where
    abbrev exchange : Exchange
    exchange = expecting x.client (Ok x.reply)

    abbrev final : List ℕ
    final = server_final_message x.reply.verifier

    abbrev success : Elem
    success = carrier (codes "success") final

    abbrev restarts : ClientStep ItemOut ItemOut
    restarts = follows in_items now (checked who.domain (Ok tt))

    success_step : client_step_on (Whole success) d ≡ restarts
    unfolding sasl
    success_step =
        let login = (wire_here who logins d wires v k Succ p).login in
        on_element d success (client_phase who x InResponse) (phase_here who logins d wires v k Succ p InResponse (expected who logins d wires v k Succ p))
        ∙ ap (λ (a : Account). follows in_items now (succeeded a.login.domain exchange success (carrier_read (codes "success") success))) p.shown.client.account
        ∙ ap (λ r. follows in_items now (succeeded who.domain exchange success r)) (carrier_written (codes "success") final login.success)
        ∙ ap (λ r. follows in_items now (checked who.domain r)) login.checks

    success_stays : Stays (item Succ p)
    success_stays = by_step (item Succ p) restarts InHeader2 success_step refl

  -- ---- a session

  module _ (p : At Failed) where
    abbrev refused : Elem
    refused = sm_failed_elem (record { condition = ItemNotFound })

    failed_stays : Stays (item Failed p)
    failed_stays =
        let e = expected who logins d wires v k Failed p in
        by_step (item Failed p) (failed_row in_items now) InBind (on_element d refused (client_phase who x (InResume e.0.number)) (phase_here who logins d wires v k Failed p (InResume e.0.number) e.2)) refl

  module _ (m : ℕ) (p : At (Bound m)) where
    abbrev bound : Elem
    bound = iq_elem (record { from = None; to = None; id = codes "bind"; kind = Result; payload = child (bind_result_elem (record { jid = full_of who })) no_nodes })

    abbrev enables : ClientStep ItemOut ItemOut
    enables = asks in_items (begins_epoch in_items now) enable_item phase.Enabling

    bound_step : client_step_on (Whole bound) d ≡ enables
    bound_step =
        on_element d bound (client_phase who x InBind) (phase_here who logins d wires v k (Bound m) p InBind (expected who logins d wires v k (Bound m) p).1)
        ∙ ap (λ r. if is_ok r then enables else other_element now bound) (result_written (record { jid = full_of who }) p.shown.normal.full)

    bound_stays : Stays (item (Bound m) p)
    bound_stays = by_step (item (Bound m) p) enables InEnable bound_step refl

  module _ (m : ℕ) (p : At (Enabled m)) where
    abbrev word : EnabledWord
    word = record { id = previd_of m; resume = true; max = Some RESUMABLE_SECONDS }

    abbrev starts : ClientStep ItemOut ItemOut
    starts = begins in_items now (previd_of m)

    enabled_step : client_step_on (Whole (enabled_elem word)) d ≡ starts
    enabled_step =
        on_element d (enabled_elem word) (client_phase who x InEnable) (phase_here who logins d wires v k (Enabled m) p InEnable (expected who logins d wires v k (Enabled m) p).1)
        ∙ ap (enabling_with in_items now (enabled_elem word)) (enabled_written word (omega arith))
        ∙ ap (λ b. if not b then starts else other_element now (enabled_elem word)) (some_digits (previd_of m) (length-hex16_of m))

    enabled_stays : Stays (item (Enabled m) p)
    enabled_stays = by_step (item (Enabled m) p) starts (InOnline m) enabled_step refl

  module _ (q h : ℕ) (p : At (Resumed q h)) (o : Own ItemOut) (own : v.own ≡ Some o) (number : o.number ≡ q) (is : p.conn.client ≡ InResume q) where
    abbrev told : ResumedWord
    told = record { previd = previd_of q; h = told_count h }

    abbrev has_session : (s : SessionView ItemOut) × (d.client.session ≡ Some s) × IsOwn o s
    has_session = own_session who logins d v o p.shown.client own

    abbrev s : SessionView ItemOut
    s = has_session.0

    abbrev goes_on : ClientStep ItemOut ItemOut
    goes_on = attaches in_items (acknowledges in_items now s (told_count h))

    abbrev high_step : ClientStep ItemOut ItemOut
    high_step = counts_too_high in_items now (too_high s.waiting (told_count h))

    resumed_step : client_step_on (Whole (resumed_elem told)) d ≡ goes_on
    resumed_step =
        on_element d (resumed_elem told) (client_phase who x (InResume q)) (phase_here who logins d wires v k (Resumed q h) p (InResume q) is)
        ∙ ap (resuming_with in_items now (resumed_elem told)) (resumed_written told (mod-lt h (omega arith)))
        ∙ ap (λ n. resumed_in in_items now n (told_count h)) has_session.1
        ∙ ap (λ b. if b then high_step else goes_on)
        (not_too_high o s h (resumed_within v k q h p.conn o p.rest (kept_here who logins d wires v k (Resumed q h) p) p.here p.is own p.first) has_session.2)

    resumed_stays : Stays (item (Resumed q h) p)
    resumed_stays = by_step (item (Resumed q h) p) goes_on (InOnline q) resumed_step refl

  -- ---- acknowledgement

  module _ (p : At (Down Req)) (o : Own ItemOut) (own : v.own ≡ Some o) (is : p.conn.client ≡ InOnline o.number) where
    abbrev asked : (s : SessionView ItemOut) × (d.client.session ≡ Some s) × IsOwn o s
    asked = own_session who logins d v o p.shown.client own

    abbrev request : Elem
    request = bare management (codes "r")

    request_step : client_step_on (Whole request) d ≡ request_row in_items now asked.0
    request_step =
        on_element d request (client_phase who x (InOnline o.number)) (phase_here who logins d wires v k (Down Req) p (InOnline o.number) is)
        ∙ ap (λ n. online_in in_items now n request) asked.1

    request_stays : Stays (item (Down Req) p)
    request_stays = by_step (item (Down Req) p) (request_row in_items now asked.0) (InOnline o.number) request_step (phase_here who logins d wires v k (Down Req) p (InOnline o.number) is)

  module _ (h : ℕ) (p : At (Down (Ack h))) (o : Own ItemOut) (own : v.own ≡ Some o) (is : p.conn.client ≡ InOnline o.number) where
    abbrev counted : (s : SessionView ItemOut) × (d.client.session ≡ Some s) × IsOwn o s
    counted = own_session who logins d v o p.shown.client own

    abbrev ack : AckWord
    ack = record { h = told_count h }

    abbrev count_goes : ClientStep ItemOut ItemOut
    count_goes = acknowledges in_items now counted.0 (told_count h)

    abbrev count_high : ClientStep ItemOut ItemOut
    count_high = counts_too_high in_items now (too_high counted.0.waiting (told_count h))

    count_step : client_step_on (Whole (ack_elem ack)) d ≡ count_goes
    count_step =
        on_element d (ack_elem ack) (client_phase who x (InOnline o.number)) (phase_here who logins d wires v k (Down (Ack h)) p (InOnline o.number) is)
        ∙ ap (λ n. online_in in_items now n (ack_elem ack)) counted.1
        ∙ ap (told_row in_items now counted.0) (ack_written ack (mod-lt h (omega arith)))
        ∙ ap (λ b. if b then count_high else count_goes)
        (not_too_high o counted.0 h (down_count_within v k h p.conn o p.rest (kept_here who logins d wires v k (Down (Ack h)) p) p.here p.is own p.first) counted.2)

    count_stays : Stays (item (Down (Ack h)) p)
    count_stays = by_step (item (Down (Ack h)) p) count_goes (InOnline o.number) count_step (phase_here who logins d wires v k (Down (Ack h)) p (InOnline o.number) is)

  -- ---- each of them

  -- it is no stanza, and ends no stream
  abbrev pub IsPlainWord : DownWord ItemOut → Type 0
  IsPlainWord Head = Unit {0}
  IsPlainWord Feat = Unit {0}
  IsPlainWord Chal = Unit {0}
  IsPlainWord Succ = Unit {0}
  IsPlainWord Failed = Unit {0}
  IsPlainWord (Bound m) = Unit {0}
  IsPlainWord (Enabled m) = Unit {0}
  IsPlainWord (Resumed q h) = Unit {0}
  IsPlainWord (Down Req) = Unit {0}
  IsPlainWord (Down (Ack h)) = Unit {0}
  IsPlainWord _ = ⊥

  pub plain_stays : (word : DownWord ItemOut) (p : IsNextDown who logins d wires v k word) → IsPlainWord word → is_apart (client_step_on (down_item who (logins k) k (is_after_login p.conn.client) word) d).client.phase ≡ false
  plain_stays Head p plain = header_stays p
  plain_stays Feat p plain = features_stay p
  plain_stays Chal p plain = challenge_stays p
  plain_stays Succ p plain = success_stays p
  plain_stays Failed p plain = failed_stays p
  plain_stays (Bound m) p plain = bound_stays m p
  plain_stays (Enabled m) p plain = enabled_stays m p
  plain_stays (Resumed q h) p plain = let e = expected who logins d wires v k (Resumed q h) p in resumed_stays q h p e.0 e.1 e.2 e.3
  plain_stays (Down Req) p plain = let e = expected who logins d wires v k (Down Req) p in request_stays p e.0 e.1 e.2
  plain_stays (Down (Ack h)) p plain = let e = expected who logins d wires v k (Down (Ack h)) p in count_stays h p e.0 e.1 e.2
  plain_stays _ p plain = absurd plain
