-- What the rows of the client's table put has each property that their own items have, and those that wait; the account
-- stays. A footer is put where a count is too high alone, as the last.
use Rattle.std.proofs.Common.{◌≡◌, ℕ, suc, zero, ◌&&◌, bytes_eq, Bool, true, false, List, [], ◌∷◌, ◌++◌, codes, drop, is_some, length, nat_le, Option, Some, None, IfSome, Result, Ok, Err, ◌⊎◌, inl, inr, refl, sym, ap, ◌∙◌, append_assoc, append-nil, if◌then◌else◌}
use Rattle.std.specs.List.{AllByRecursion}
use Rattle.sm_acks.specs.Counters.{ahead}
use Rattle.sm_acks.specs.declared.end.TooHigh.{TooHigh as TooHighCount}
use Rattle.cl_core.specs.PageRows.{answer_to, answered_page, begins_page, error_of_page, goes_on as goes_on_page, iq_by, is_not_found, is_ping, next_queryid, numbered, only_fin, page_answered, page_done, page_ended, requests, restarts, result_of_page}
use Rattle.cl_core.specs.Steps.{connected_step, element_row, handles, item_step, online_in, stanza_row, told_row}
use Rattle.cl_core.specs.UserCalls.{catches_up, catches_up_in, says, submission_of, submits}
use Rattle.cl_login.specs.LoginRows as rows
use Rattle.cl_login.specs.Puts.{Row}
use Rattle.cl_login.specs.declared.account.ClientAccount.{ClientAccount}
use Rattle.cl_login.specs.declared.answers.Next.{Next}
use Rattle.cl_login.specs.declared.answers.Next.TheVariants as next
use Rattle.cl_login.specs.declared.login_state.LoginState.{LoginState}
use Rattle.cl_login.specs.declared.login_state.LoginState.TheVariants as state
use Rattle.cl_handlers.specs.AckRows.{ack_row, acknowledges, counts_too_high, request_row}
use Rattle.cl_handlers.specs.Clients.{ClientStep, ClientView}
use Rattle.cl_handlers.specs.LoginSteps.{follows, goes_on, header_row, login_row, other_element}
use Rattle.cl_handlers.specs.MessageRows.{bounce_of, error_within, held_by, held_row, is_own_or_absent, live_in, logged, message_row, message_with, other_message, own_id, refuses, result_row, result_to, tells_where}
use Rattle.cl_handlers.specs.SessionRows.{attaches, begins, binding_row, binds, can_resume, enabling_row, enabling_with, failed_row, features2_row, features2_with, is_stanza, queue_in, resent, resumed_in, resumed_row, resumes_or_binds, resuming_row, resuming_with, tells_bound}
use Rattle.cl_handlers.specs.Speech.{in_items, spread_all, uttered_where}
use Rattle.cl_handlers.specs.ClientSteps.{ends, has_to_put, is_apart, is_online, put_in, puts, tells, with_log}
use Rattle.cl_handlers.specs.declared.events.CatchUpFault.{CatchUpFault}
use Rattle.cl_handlers.specs.declared.events.Event.{Event}
use Rattle.cl_handlers.specs.declared.events.Event.TheVariants.{PageDone}
use Rattle.cl_handlers.specs.declared.events.PeerFault.{PeerFault}
use Rattle.cl_handlers.specs.declared.phase.Phase.{Phase}
use Rattle.cl_handlers.specs.declared.phase.Phase.TheVariants as phase
use Rattle.im_extensions.specs.Readings.{enabled_read, resumption_read}
use Rattle.im_extensions.specs.StreamManagement.{ack_read, is_management}
use Rattle.im_extensions.specs.declared.forwarding.Forwarded.{Forwarded}
use Rattle.im_extensions.specs.declared.stream_management.Ack.{Ack}
use Rattle.im_extensions.specs.declared.stream_management.Enabled.{Enabled}
use Rattle.im_login.specs.Features.{features_read}
use Rattle.im_login.specs.declared.features.Features.{Features}
use Rattle.xml_framer.specs.declared.items.Item.{Item}
use Rattle.xml_framer.specs.declared.items.Item.TheVariants as heard
use Rattle.law_xml.proofs.PlainElements.{append_each}
use Rattle.mam_log.specs.LogCalls.{with_restart}
use Rattle.mam_log.specs.LogPages.{last_id}
use Rattle.mam_log.specs.Views.{OpenPage, after_fin, end_of, page_for, with_begun, with_result, without_page}
use Rattle.mam_log.specs.declared.fin.FinFault.{FinFault}
use Rattle.mam_log.specs.declared.fin.PageOutcome.{PageOutcome}
use Rattle.mam_log.specs.declared.fin.PageOutcome.TheVariants.{More, Complete}
use Rattle.mam_log.specs.declared.log_entry.LogEntry.{LogEntry}
use Rattle.im_mam.specs.Readings.{result_read}
use Rattle.im_mam.specs.declared.archive_answers.MamResult.{MamResult}
use Rattle.xml_names.specs.declared.headers.Header.{Header}
use Rattle.sm_outbox.specs.Sessions.{SessionView}
use Rattle.sm_outbox.specs.Submissions.{said_of, with_said}
use Rattle.sm_outbox.specs.Waiting.{is_full, is_too_high, too_high}
use Rattle.sm_outbox.specs.declared.said.Said.{Said}
use Rattle.mam_pages.specs.declared.fin.Fin.{Fin}
use Rattle.im_payload.specs.Names.{archive}
use Rattle.im_payload.specs.declared.fault.ExtFault.{ExtFault}
use Rattle.im_replies.specs.Management.{ack_item, request_item}
use Rattle.im_replies.specs.Streams.{too_high_item}
use Rattle.im_requests.specs.Messages.{page_item}
use Rattle.im_requests.specs.Sessions.{available_item, bind_item, carbons_item, enable_item, resume_item}
use Rattle.im_login.specs.Readings.{carrier_read}
use Rattle.auth_scram.specs.Exchange.{ClientView as Exchange, ReplyView, begun_client, check_of, reply_of}
use Rattle.auth_scram.specs.declared.fault.ScramFault.{ScramFault}
use Rattle.im_stanza.specs.Names.{streams_ns}
use Rattle.im_stanza.specs.Readings.{stanza_of}
use Rattle.im_stanza.specs.Views.{IqView, MessageView}
use Rattle.im_stanza.specs.declared.errors.StanzaError.{StanzaError}
use Rattle.im_stanza.specs.declared.fault.StanzaErrorFault.{StanzaErrorFault}
use Rattle.im_stanza.specs.declared.fault.StanzaFault.{StanzaFault}
use Rattle.im_stanza.specs.declared.kinds.IqKind.{IqKind}
use Rattle.im_stanza.specs.declared.kinds.IqKind.TheVariants as iq
use Rattle.im_stanza.specs.declared.stanzas.Stanza.{Stanza}
use Rattle.im_stanza.specs.declared.stanzas.Stanza.TheVariants.{Message, Presence, Iq}
use Rattle.xml_trees.specs.Readers.{elements_of, first_named, is_named}
use Rattle.xml_trees.specs.Trees.{Elem, name_of}
use Rattle.xml_writer.specs.Items.{Closing, ItemOut, Opening, Whole}

abbrev pub Items : Type 0
Items = ClientStep ItemOut ItemOut

-- What is said of the items that the rows put of their own: elements that are neither a message nor an `auth`, and headers.
pub record IsOfOwn (P : ItemOut → Type 0) : Type 0 where
  pub element : (e : Elem) → bytes_eq (name_of e) (codes "message") ≡ false → bytes_eq (name_of e) (codes "auth") ≡ false → P (Whole e)
  pub header : (h : Header) → P (Opening h)

-- of an `auth`, where a login may come to one
abbrev pub IsBegun : (ItemOut → Type 0) → ClientAccount → Phase → Type 0
IsBegun P a p = (nonce : List ℕ) → p ≡ phase.Login (state.Features1 nonce) → IfSome (rows.begun (begun_client a.name a.password nonce)).put P

-- of what waits
abbrev pub HasEach : (ItemOut → Type 0) → Option (SessionView ItemOut) → Type 0
HasEach P o = IfSome o (λ (s : SessionView ItemOut). AllByRecursion P s.waiting.queue)

-- of all that is put, or of all but the footer, where the connection is left
abbrev pub ArePut : (ItemOut → Type 0) → Bool → List ItemOut → Type 0
ArePut P apart more = AllByRecursion P more ⊎ ((item : ItemOut) × (more ≡ item ∷ Closing ∷ []) × P item × (apart ≡ true))

pub record Step (P : ItemOut → Type 0) (t u : Items) : Type 0 where
  pub more : List ItemOut
  pub put : u.out.put ≡ t.out.put ++ more
  pub each : ArePut P (is_apart u.client.phase) more
  pub account : u.client.account ≡ t.client.account
  pub queue : HasEach P u.client.session

-- a step that puts nothing where the session isn't attached
pub record Asked (P : ItemOut → Type 0) (t u : Items) : Type 0 where
  pub step : Step P t u
  pub quiet : is_online t.client.phase ≡ false → step.more ≡ []

-- ---- where nothing is said of items

all_dropped : {A : Type 0} (P : A → Type 0) (n : ℕ) (xs : List A) → AllByRecursion P xs → AllByRecursion P (drop n xs)
all_dropped P zero xs h = h
all_dropped P (suc n) [] h = tt
all_dropped P (suc n) (x ∷ xs) h = all_dropped P n xs h.1

went_put : (t : Items) (n : Next) → (goes_on t n).out.put ≡ t.out.put
went_put t (next.Goes s) = refl
went_put t next.LoggedIn = refl
went_put t (next.Ends why) = refl

went_account : (t : Items) (n : Next) → (goes_on t n).client.account ≡ t.client.account
went_account t (next.Goes s) = refl
went_account t next.LoggedIn = refl
went_account t (next.Ends why) = refl

-- nothing is put where the session isn't attached
abbrev pub when_online : Bool → List ItemOut → List ItemOut
when_online true more = more
when_online false more = []

online_put : (b : Bool) (put all more : List ItemOut) → all ≡ put ++ more → (if b then all else put) ≡ put ++ when_online b more
online_put true put all more is = is
online_put false put all more is = sym (append-nil put)

held_account : (c : ClientView ItemOut) (live : Forwarded) (o : Option (List ℕ)) → (held_by c live o).account ≡ c.account
held_account c live None = refl
held_account c live (Some id) = refl

-- ---- rows

module _ (P : ItemOut → Type 0) (of_own : IsOfOwn P) where
  step_either : (t : Items) (c : Bool) (u v : Items) → Step P t u → Step P t v → Step P t (if c then u else v)
  step_either t true u v here there = here
  step_either t false u v here there = there

  nothing_put : (t u : Items) → u.out.put ≡ t.out.put → HasEach P u.client.session → u.client.account ≡ t.client.account → Step P t u
  nothing_put t u same queue account = record { more = []; put = same ∙ sym (append-nil t.out.put); each = inl tt; account = account; queue = queue }

  some_put : (t u : Items) (more : List ItemOut) → u.out.put ≡ t.out.put ++ more → AllByRecursion P more → HasEach P u.client.session → u.client.account ≡ t.client.account → Step P t u
  some_put t u more put all queue account = record { more = more; put = put; each = inl all; account = account; queue = queue }

  -- ---- the connection is left

  ends_puts : (t : Items) (fault : PeerFault) → HasEach P t.client.session → Step P t (ends t fault)
  ends_puts t fault h = nothing_put t (ends t fault) refl h refl

  -- ---- logins

  abbrev IsOpenRow : Row → Type 0
  IsOpenRow row = IfSome row.put P

  row_either : (c : Bool) (x y : Row) → IsOpenRow x → IsOpenRow y → IsOpenRow (if c then x else y)
  row_either true x y here there = here
  row_either false x y here there = there

  offered_open : (a : ClientAccount) (nonce : List ℕ) (e : Elem) (read : Result Features ExtFault) → IsOpenRow (rows.begun (begun_client a.name a.password nonce)) → IsOpenRow (rows.offered a nonce e read)
  offered_open a nonce e (Ok features) begun = row_either features.scram_sha_256 _ _ begun tt
  offered_open a nonce e (Err why) begun = tt

  replied_open : (exchange : Exchange) (r : Result ReplyView ScramFault) → IsOpenRow (rows.replied exchange r)
  replied_open exchange (Ok reply) = of_own.element _ refl refl
  replied_open exchange (Err why) = tt

  challenged_open : (exchange : Exchange) (e : Elem) (read : Result (List ℕ) ExtFault) → IsOpenRow (rows.challenged exchange e read)
  challenged_open exchange e (Ok payload) = replied_open exchange (reply_of exchange payload)
  challenged_open exchange e (Err why) = tt

  checked_open : (domain : List ℕ) (r : Result (Unit {0}) ScramFault) → IsOpenRow (rows.checked domain r)
  checked_open domain (Ok x) = of_own.header (rows.client_header domain)
  checked_open domain (Err why) = tt

  succeeded_open : (domain : List ℕ) (exchange : Exchange) (e : Elem) (read : Result (List ℕ) ExtFault) → IsOpenRow (rows.succeeded domain exchange e read)
  succeeded_open domain exchange e (Ok payload) = checked_open domain (check_of exchange payload)
  succeeded_open domain exchange e (Err why) = tt

  element_open : (a : ClientAccount) (s : LoginState) (e : Elem) → IsBegun P a (phase.Login s) → IsOpenRow (rows.element_row a s e)
  element_open a (state.Header1 nonce) e begun = tt
  element_open a (state.Features1 nonce) e begun = offered_open a nonce e (features_read e) (begun nonce refl)
  element_open a (state.Authing exchange) e begun = challenged_open exchange e (carrier_read (codes "challenge") e)
  element_open a (state.Responding exchange) e begun = succeeded_open a.domain exchange e (carrier_read (codes "success") e)
  element_open a state.Header2 e begun = tt

  header_open : (s : LoginState) → IsOpenRow (rows.header_row s)
  header_open (state.Header1 nonce) = tt
  header_open (state.Features1 nonce) = tt
  header_open (state.Authing exchange) = tt
  header_open (state.Responding exchange) = tt
  header_open state.Header2 = tt

  went_queue : (t : Items) (n : Next) → HasEach P t.client.session → HasEach P (goes_on t n).client.session
  went_queue t (next.Goes s) h = h
  went_queue t next.LoggedIn h = h
  went_queue t (next.Ends why) h = h

  where_open : (o : Option ItemOut) → IfSome o P → AllByRecursion P (uttered_where in_items o)
  where_open None h = tt
  where_open (Some item) h = (h, tt)

  followed_puts : (t : Items) (row : Row) → HasEach P t.client.session → IsOpenRow row → Step P t (follows in_items t row)
  followed_puts t row h open_row =
      let said = puts t (uttered_where in_items row.put) in
      some_put t (follows in_items t row) (uttered_where in_items row.put) (went_put said row.next) (where_open row.put open_row) (went_queue said row.next h) (went_account said row.next)

  header_puts : (t : Items) (p : Phase) → HasEach P t.client.session → Step P t (header_row in_items t p)
  header_puts t phase.Apart h = nothing_put t t refl h refl
  header_puts t (phase.Login s) h = followed_puts t (rows.header_row s) h (header_open s)
  header_puts t phase.Online h = nothing_put t t refl h refl
  header_puts t phase.Features2 h = ends_puts t _ h
  header_puts t phase.Resuming h = ends_puts t _ h
  header_puts t phase.Binding h = ends_puts t _ h
  header_puts t phase.Enabling h = ends_puts t _ h

  login_puts : (t : Items) (s : LoginState) (e : Elem) → IsBegun P t.client.account.login (phase.Login s) → HasEach P t.client.session → Step P t (login_row in_items t s e)
  login_puts t s e begun h = followed_puts t _ h (element_open t.client.account.login s e begun)

  other_puts : (t : Items) (e : Elem) → HasEach P t.client.session → Step P t (other_element t e)
  other_puts t e h = ends_puts t _ h

  -- ---- acknowledgements

  request_puts : (t : Items) (s : SessionView ItemOut) → HasEach P t.client.session → Step P t (request_row in_items t s)
  request_puts t s h = some_put t (request_row in_items t s) (ack_item s.waiting.handled ∷ []) refl (of_own.element _ refl refl, tt) h refl

  -- the footer is the last that is put
  too_high_puts : (t : Items) (fault : TooHighCount) → Step P t (counts_too_high in_items t fault)
  too_high_puts t fault =
      record {
        more = too_high_item fault.h fault.send_count ∷ Closing ∷ [];
        put = append_assoc t.out.put (too_high_item fault.h fault.send_count ∷ []) (Closing ∷ []);
        each = inr (too_high_item fault.h fault.send_count, refl, of_own.element _ refl refl, refl);
        account = refl;
        queue = tt;
      }

  acked_puts : (t : Items) (s : SessionView ItemOut) (count : ℕ) → AllByRecursion P s.waiting.queue → Step P t (acknowledges in_items t s count)
  acked_puts t s count h = nothing_put t (acknowledges in_items t s count) refl (all_dropped P (ahead count s.waiting.acked) s.waiting.queue h) refl

  ack_puts : (t : Items) (s : SessionView ItemOut) (count : ℕ) → AllByRecursion P s.waiting.queue → Step P t (ack_row in_items t s count)
  ack_puts t s count h = step_either t (is_too_high s.waiting count) _ _ (too_high_puts t (too_high s.waiting count)) (acked_puts t s count h)

  -- ---- from the second features to the session

  bound_puts : (t : Items) → HasEach P t.client.session → Step P t (binds in_items t)
  bound_puts t h = some_put t (binds in_items t) (bind_item t.client.account.resource ∷ []) refl (of_own.element _ refl refl, tt) h refl

  resumed_or_bound : (t : Items) (o : Option (SessionView ItemOut)) → HasEach P t.client.session → Step P t (resumes_or_binds in_items t o)
  resumed_or_bound t None h = bound_puts t h
  resumed_or_bound t (Some s) h = some_put t (resumes_or_binds in_items t (Some s)) (resume_item s.previd s.waiting.handled ∷ []) refl (of_own.element _ refl refl, tt) h refl

  featured_puts : (t : Items) (e : Elem) (read : Result Features ExtFault) → HasEach P t.client.session → Step P t (features2_with in_items t e read)
  featured_puts t e (Ok features) h = step_either t features.bind _ _ (resumed_or_bound t t.client.session h) (ends_puts t _ h)
  featured_puts t e (Err why) h = other_puts t e h

  features2_puts : (t : Items) (e : Elem) → HasEach P t.client.session → Step P t (features2_row in_items t e)
  features2_puts t e h = featured_puts t e (features_read e) h

  spread_open : (queue : List ItemOut) → AllByRecursion P queue → AllByRecursion P (spread_all in_items queue)
  spread_open [] h = tt
  spread_open (item ∷ queue) h = (h.0, spread_open queue h.1)

  resent_open : (queue : List ItemOut) → AllByRecursion P queue → AllByRecursion P (resent in_items queue)
  resent_open [] h = tt
  resent_open (item ∷ queue) h = append_each P (spread_all in_items (item ∷ queue)) (request_item ∷ []) (spread_open (item ∷ queue) h) (of_own.element _ refl refl, tt)

  resumed_puts : (t : Items) (s : SessionView ItemOut) (count : ℕ) → AllByRecursion P s.waiting.queue → Step P t (resumed_row in_items t s count)
  resumed_puts t s count h =
      let rest = all_dropped P (ahead count s.waiting.acked) s.waiting.queue h in
      let told = acknowledges in_items t s count in
      step_either t (is_too_high s.waiting count) _ _ (too_high_puts t (too_high s.waiting count))
      (some_put t (attaches in_items told) (resent in_items (queue_in told.client.session)) refl (resent_open (queue_in told.client.session) rest) rest refl)

  resumed_in_puts : (t : Items) (o : Option (SessionView ItemOut)) (count : ℕ) → HasEach P t.client.session → HasEach P o → Step P t (resumed_in in_items t o count)
  resumed_in_puts t None count h of = nothing_put t t refl h refl
  resumed_in_puts t (Some s) count h of = resumed_puts t s count of

  failed_puts : (t : Items) → Step P t (failed_row in_items t)
  failed_puts t = some_put t (failed_row in_items t) (bind_item t.client.account.resource ∷ []) refl (of_own.element _ refl refl, tt) tt refl

  resuming_with_puts : (t : Items) (e : Elem) (read : Result (List ℕ × ℕ) ExtFault) → HasEach P t.client.session → Step P t (resuming_with in_items t e read)
  resuming_with_puts t e (Ok told) h = resumed_in_puts t t.client.session told.1 h h
  resuming_with_puts t e (Err why) h = step_either t (is_management (codes "failed") e) _ _ (failed_puts t) (other_puts t e h)

  resuming_puts : (t : Items) (e : Elem) → HasEach P t.client.session → Step P t (resuming_row in_items t e)
  resuming_puts t e h = resuming_with_puts t e (resumption_read (codes "resumed") e) h

  binding_puts : (t : Items) (e : Elem) → HasEach P t.client.session → Step P t (binding_row in_items t e)
  binding_puts t e h = step_either t (tells_bound (stanza_of e)) _ _ (some_put t _ (enable_item ∷ []) refl (of_own.element _ refl refl, tt) h refl) (other_puts t e h)

  enabled_puts : (t : Items) (e : Elem) (read : Result Enabled ExtFault) → HasEach P t.client.session → Step P t (enabling_with in_items t e read)
  enabled_puts t e (Ok enabled) h =
      step_either t (can_resume enabled) _ _
      (some_put t (begins in_items t enabled.id) (carbons_item ∷ available_item ∷ []) (append_assoc t.out.put (carbons_item ∷ []) (available_item ∷ [])) (of_own.element _ refl refl, (of_own.element _ refl refl, tt)) (of_own.element _ refl refl, (of_own.element _ refl refl, tt)) refl)
      (other_puts t e h)
  enabled_puts t e (Err why) h = step_either t (is_stanza e) _ _ (nothing_put t t refl h refl) (other_puts t e h)

  enabling_puts : (t : Items) (e : Elem) → HasEach P t.client.session → Step P t (enabling_row in_items t e)
  enabling_puts t e h = enabled_puts t e (enabled_read e) h

  -- ---- what waits in a session

  queued_open : (s : SessionView ItemOut) (item : ItemOut) → AllByRecursion P s.waiting.queue → P item → AllByRecursion P (s.waiting.queue ++ item ∷ [])
  queued_open s item h one = append_each P s.waiting.queue (item ∷ []) h (one, tt)

  online_open : (b : Bool) (more : List ItemOut) → AllByRecursion P more → AllByRecursion P (when_online b more)
  online_open true more h = h
  online_open false more h = tt

  put_puts : (t : Items) (s : SessionView ItemOut) (item : ItemOut) (kind : Bool) → AllByRecursion P s.waiting.queue → P item → Step P t (put_in in_items t s item kind)
  put_puts t s item kind h one =
      let b = is_online t.client.phase in
      some_put t (put_in in_items t s item kind) (when_online b (item ∷ [])) (online_put b t.out.put (t.out.put ++ item ∷ []) (item ∷ []) refl) (online_open b (item ∷ []) (one, tt)) (queued_open s item h one) refl

  has_to_put_puts : (t : Items) (o : Option (SessionView ItemOut)) (item : ItemOut) → HasEach P t.client.session → HasEach P o → P item → Step P t (has_to_put in_items t o item)
  has_to_put_puts t None item h of one = nothing_put t t refl h refl
  has_to_put_puts t (Some s) item h of one = step_either t (is_full s.waiting) _ _ (ends_puts t _ h) (put_puts t s item false of one)

  requested_asked : (t : Items) (s : SessionView ItemOut) (item : ItemOut) (kind : Bool) → AllByRecursion P s.waiting.queue → P item → Asked P t (requests in_items t s item kind)
  requested_asked t s item kind h one =
      let b = is_online t.client.phase in
      let more = item ∷ request_item ∷ [] in
      let put_all = online_open b more (one, (of_own.element _ refl refl, tt)) in
      record {
        step = record {
          more = when_online b more;
          put = online_put b t.out.put ((t.out.put ++ item ∷ []) ++ request_item ∷ []) more (append_assoc t.out.put (item ∷ []) (request_item ∷ []));
          each = inl put_all;
          account = refl;
          queue = queued_open s item h one;
        };
        quiet = λ e. ap (λ c. when_online c more) e;
      }

  -- a step from a turn that has put the same
  from_same : (t u v : Items) → u.out.put ≡ t.out.put → u.client.account ≡ t.client.account → Step P u v → Step P t v
  from_same t u v same own step = record { more = step.more; put = step.put ∙ ap (λ put. put ++ step.more) same; each = step.each; account = step.account ∙ own; queue = step.queue }

  asked_same : (t u v : Items) → u.out.put ≡ t.out.put → u.client.phase ≡ t.client.phase → u.client.account ≡ t.client.account → Asked P u v → Asked P t v
  asked_same t u v same at own asked =
      let step = asked.step in
      record {
        step = record { more = step.more; put = step.put ∙ ap (λ put. put ++ step.more) same; each = step.each; account = step.account ∙ own; queue = step.queue };
        quiet = λ e. asked.quiet (ap is_online at ∙ e);
      }

  -- ---- messages

  refused_puts : (t : Items) (fault : CatchUpFault) → HasEach P t.client.session → Step P t (refuses t fault)
  refused_puts t fault h = nothing_put t (refuses t fault) refl h refl

  result_to_puts : (t : Items) (o : Option OpenPage) (entry : LogEntry) → HasEach P t.client.session → Step P t (result_to t o entry)
  result_to_puts t None entry h = nothing_put t t refl h refl
  result_to_puts t (Some page) entry h =
      step_either t (nat_le page.max (length page.results)) _ _ (refused_puts t _ h) (nothing_put t (with_log t (with_result t.client.log entry)) refl h refl)

  result_puts : (t : Items) (read : Result MamResult ExtFault) → HasEach P t.client.session → Step P t (result_row t read)
  result_puts t (Ok r) h = result_to_puts t (page_for r.queryid t.client.log.page) (logged r.id r.forwarded.stamp r.forwarded.message) h
  result_puts t (Err why) h = nothing_put t t refl h refl

  held_queue : (c : ClientView ItemOut) (live : Forwarded) (o : Option (List ℕ)) → HasEach P c.session → HasEach P (held_by c live o).session
  held_queue c live None h = h
  held_queue c live (Some id) h = h

  told_puts : (t u : Items) (o : Option Event) → u.out.put ≡ t.out.put → HasEach P u.client.session → u.client.account ≡ t.client.account → Step P t (tells_where u o)
  told_puts t u None same h own = nothing_put t u same h own
  told_puts t u (Some event) same h own = nothing_put t (tells u event) same h own

  other_message_puts : (t : Items) (m : MessageView) → HasEach P t.client.session → Step P t (other_message t m)
  other_message_puts t m h =
      let live = live_in t.client.account.bare m in
      told_puts t (held_row t live) (bounce_of t.client m) refl (held_queue t.client live (own_id t.client.account.bare (elements_of live.message.payload)) h) (held_account t.client live (own_id t.client.account.bare (elements_of live.message.payload)))

  with_puts : (t : Items) (m : MessageView) (o : Option Elem) → HasEach P t.client.session → Step P t (message_with t m o)
  with_puts t m None h = other_message_puts t m h
  with_puts t m (Some given) h = step_either t (is_own_or_absent t.client.account.bare m.from) _ _ (result_puts t (result_read given) h) (other_message_puts t m h)

  message_puts : (t : Items) (m : MessageView) → HasEach P t.client.session → Step P t (message_row t m)
  message_puts t m h = with_puts t m (first_named archive (codes "result") m.payload) h

  -- ---- pages and requests

  begun_page_asked : (t : Items) (s : SessionView ItemOut) (max : ℕ) → AllByRecursion P s.waiting.queue → Asked P t (begins_page in_items t s max)
  begun_page_asked t s max h =
      let now = with_log (numbered t) (with_begun t.client.log (next_queryid t) max) in
      asked_same t now _ refl refl refl (requested_asked now s (page_item (next_queryid t) (last_id t.client.log.entries) max) false h (of_own.element _ refl refl))

  gone_on_puts : (t : Items) (o : Option (SessionView ItemOut)) (max : ℕ) → HasEach P t.client.session → HasEach P o → Step P t (goes_on_page in_items t o max)
  gone_on_puts t None max h of = nothing_put t t refl h refl
  gone_on_puts t (Some s) max h of = step_either t (is_full s.waiting) _ _ (ends_puts t _ h) (begun_page_asked t s max of).step

  done_puts : (t : Items) (page : OpenPage) (fin : Fin) (outcome : PageOutcome) → HasEach P t.client.session → Step P t (page_done in_items t page fin outcome)
  done_puts t page fin Complete h = nothing_put t (page_done in_items t page fin Complete) refl h refl
  done_puts t page fin More h =
      let now = tells (with_log t (after_fin t.client.log fin)) (PageDone More) in
      from_same t now _ refl refl (gone_on_puts now t.client.session page.max h h)

  ended_puts : (t : Items) (page : OpenPage) (fin : Fin) (outcome : Result PageOutcome FinFault) → HasEach P t.client.session → Step P t (page_ended in_items t page fin outcome)
  ended_puts t page fin (Ok outcome) h = done_puts t page fin outcome h
  ended_puts t page fin (Err why) h = refused_puts t _ h

  result_of_puts : (t : Items) (page : OpenPage) (o : Option Fin) → HasEach P t.client.session → Step P t (result_of_page in_items t page o)
  result_of_puts t page (Some fin) h = ended_puts t page fin (end_of t.client.log page fin) h
  result_of_puts t page None h = refused_puts t _ h

  restart_puts : (t : Items) (o : Option (SessionView ItemOut)) (max : ℕ) → HasEach P t.client.session → HasEach P o → Step P t (restarts in_items t o max)
  restart_puts t None max h of = nothing_put t t refl h refl
  restart_puts t (Some s) max h of =
      let now = with_log (numbered t) (with_restart t.client.log (next_queryid t)) in
      step_either t (is_full s.waiting) _ _ (nothing_put t (ends (with_log t (without_page t.client.log)) _) refl h refl)
      (from_same t now _ refl refl (requested_asked now s (page_item (next_queryid t) None max) false of (of_own.element _ refl refl)).step)

  error_of_puts : (t : Items) (page : OpenPage) (r : Result StanzaError StanzaErrorFault) → HasEach P t.client.session → Step P t (error_of_page in_items t page r)
  error_of_puts t page (Ok error) h = step_either t (is_not_found error.condition && is_some page.after) _ _ (restart_puts t t.client.session page.max h h) (refused_puts t _ h)
  error_of_puts t page (Err why) h = refused_puts t _ h

  answered_puts : (t : Items) (q : IqView) (page : OpenPage) (kind : IqKind) → HasEach P t.client.session → Step P t (answered_page in_items t q page kind)
  answered_puts t q page iq.Result h = result_of_puts t page (only_fin (elements_of q.payload)) h
  answered_puts t q page iq.Error h = error_of_puts t page (error_within q.payload) h
  answered_puts t q page iq.Get h = nothing_put t t refl h refl
  answered_puts t q page iq.Set h = nothing_put t t refl h refl

  page_answered_puts : (t : Items) (q : IqView) (o : Option OpenPage) → HasEach P t.client.session → Step P t (page_answered in_items t q o)
  page_answered_puts t q None h = nothing_put t t refl h refl
  page_answered_puts t q (Some page) h = step_either t (is_own_or_absent t.client.account.bare q.from) _ _ (answered_puts t q page q.kind h) (nothing_put t t refl h refl)

  answer_open : (q : IqView) (ping : Bool) → P (answer_to q ping)
  answer_open q true = of_own.element _ refl refl
  answer_open q false = of_own.element _ refl refl

  by_puts : (t : Items) (q : IqView) (kind : IqKind) → HasEach P t.client.session → Step P t (iq_by in_items t q kind)
  by_puts t q iq.Get h = has_to_put_puts t t.client.session (answer_to q (is_ping (elements_of q.payload))) h h (answer_open q (is_ping (elements_of q.payload)))
  by_puts t q iq.Set h = has_to_put_puts t t.client.session (answer_to q false) h h (answer_open q false)
  by_puts t q iq.Result h = page_answered_puts t q (page_for q.id t.client.log.page) h
  by_puts t q iq.Error h = page_answered_puts t q (page_for q.id t.client.log.page) h

  -- ---- online

  stanza_puts : (t : Items) (r : Result Stanza StanzaFault) → HasEach P t.client.session → Step P t (stanza_row in_items t r)
  stanza_puts t (Ok (Message m)) h = message_puts t m h
  stanza_puts t (Ok (Iq q)) h = by_puts t q q.kind h
  stanza_puts t (Ok (Presence p)) h = nothing_put t t refl h refl
  stanza_puts t (Err fault) h = nothing_put t t refl h refl

  told_count : (t : Items) (s : SessionView ItemOut) (r : Result Ack ExtFault) → HasEach P t.client.session → AllByRecursion P s.waiting.queue → Step P t (told_row in_items t s r)
  told_count t s (Ok ack) h of = ack_puts t s ack.h of
  told_count t s (Err why) h of = nothing_put t t refl h refl

  online_puts : (t : Items) (o : Option (SessionView ItemOut)) (e : Elem) → HasEach P t.client.session → HasEach P o → Step P t (online_in in_items t o e)
  online_puts t None e h of = nothing_put t t refl h refl
  online_puts t (Some s) e h of =
      let now = handles in_items t s e in
      step_either t (is_stanza e) _ _ (from_same t now _ refl refl (stanza_puts now (stanza_of e) of))
      (step_either t (is_management (codes "r") e) _ _ (request_puts t s h) (told_count t s (ack_read e) h of))

  -- ---- items

  element_puts : (t : Items) (p : Phase) (e : Elem) → IsBegun P t.client.account.login p → HasEach P t.client.session → Step P t (element_row in_items t p e)
  element_puts t phase.Apart e begun h = nothing_put t t refl h refl
  element_puts t (phase.Login s) e begun h = login_puts t s e begun h
  element_puts t phase.Features2 e begun h = features2_puts t e h
  element_puts t phase.Resuming e begun h = resuming_puts t e h
  element_puts t phase.Binding e begun h = binding_puts t e h
  element_puts t phase.Enabling e begun h = enabling_puts t e h
  element_puts t phase.Online e begun h = online_puts t t.client.session e h h

  pub connected_puts : (t : Items) (item : Item) → IsBegun P t.client.account.login t.client.phase → HasEach P t.client.session → Step P t (connected_step in_items t item)
  connected_puts t (heard.Header at header) begun h = header_puts t t.client.phase h
  connected_puts t (heard.Element e) begun h = step_either t (is_named streams_ns (codes "error") e) _ _ (ends_puts t _ h) (element_puts t t.client.phase e begun h)
  connected_puts t heard.Footer begun h = ends_puts t _ h

  pub item_puts : (t : Items) (item : Item) → IsBegun P t.client.account.login t.client.phase → HasEach P t.client.session → Step P t (item_step in_items t item)
  item_puts t item begun h = step_either t (is_apart t.client.phase) _ _ (nothing_put t t refl h refl) (connected_puts t item begun h)

  -- ---- what the user asks for

  submitted_puts : (t : Items) (o : Option (SessionView ItemOut)) (item : ItemOut) (said : Said) → HasEach P t.client.session → HasEach P o → P item → Asked P t (submits in_items t o item said)
  unfolding nothing_put
  submitted_puts t None item said h of one = record { step = nothing_put t t refl h refl; quiet = λ e. refl }
  submitted_puts t (Some s) item said h of one =
      let now = record t { client = record t.client { n = said.n; said = with_said t.client.said said } } in
      asked_same t now _ refl refl refl (requested_asked now s item true of one)

  pub says_puts : (t : Items) (to text : List ℕ) (private : Bool) → HasEach P t.client.session → P (submission_of t.client to text private) → Asked P t (says in_items t to text private)
  says_puts t to text private h one = submitted_puts t t.client.session (submission_of t.client to text private) (said_of t.client.epoch t.client.n to text private) h h one

  caught_up_puts : (t : Items) (o : Option (SessionView ItemOut)) (max : ℕ) → HasEach P t.client.session → HasEach P o → Asked P t (catches_up_in in_items t o max)
  unfolding nothing_put
  caught_up_puts t None max h of = record { step = nothing_put t t refl h refl; quiet = λ e. refl }
  caught_up_puts t (Some s) max h of = begun_page_asked t s max of

  pub catches_up_puts : (t : Items) (max : ℕ) → HasEach P t.client.session → Asked P t (catches_up in_items t max)
  catches_up_puts t max h = caught_up_puts t t.client.session max h h
