-- The rows up to a session go through.
use Rattle.std.proofs.Common.{◌≡◌, ℕ, Bool, true, false, List, [], ◌∷◌, ◌++◌, Option, Some, None, Result, Ok, Err, map, codes, nat_lt, ◌+◌, ◌%◌, ◌^◌, ◌==◌, if◌then◌else◌, refl, sym, ap, ap₂, ◌∙◌}
use Rattle.std.proofs.lemmas.Grind.{flat_map-append}
use Rattle.std.proofs.lemmas.List.{drop-map, length-map}
use Rattle.std.specs.List.{flat_map}
use Rattle.std.specs.Option.{option_map}
use Rattle.sm_acks.specs.Counters.{ahead}
use Rattle.sm_acks.specs.declared.end.TooHigh.{TooHigh}
use Rattle.law_client.specs.Rendered.{IsRendered, client_rendered, note_rendered, session_rendered, turn_rendered, waiting_rendered}
use Rattle.cl_login.specs.LoginRows as rows
use Rattle.cl_login.specs.Puts.{Row}
use Rattle.cl_login.specs.declared.answers.Next.{Next}
use Rattle.cl_login.specs.declared.answers.Next.TheVariants as next
use Rattle.cl_handlers.specs.AckRows.{acknowledges, counts_too_high}
use Rattle.cl_handlers.specs.Clients.{ClientStep}
use Rattle.cl_handlers.specs.LoginSteps.{follows, goes_on, header_row}
use Rattle.cl_handlers.specs.SessionRows.{asks, attaches, begins, begins_epoch, binding_row, binds, can_resume, enabling_row, enabling_with, failed_row, features2_row, features2_with, is_stanza, queue_in, resent, resumed_in, resumes_or_binds, resuming_row, resuming_with, tells_bound}
use Rattle.cl_handlers.specs.Speech.{Note, Speech, Acknowledged, Counted, Ended, Epoch, Put, Stated, spread_all, uttered, uttered_where}
use Rattle.cl_handlers.specs.ClientSteps.{drops, dropped, ends, goes, notes, puts, tells, with_session}
use Rattle.cl_handlers.specs.declared.events.Event.TheVariants.{Acked, Bound, ResumeFailed, Resumed}
use Rattle.cl_handlers.specs.declared.events.PeerFault.TheVariants.{TooHigh as TooHighFault}
use Rattle.cl_handlers.specs.declared.phase.Phase.{Phase}
use Rattle.cl_handlers.specs.declared.phase.Phase.TheVariants as phase
use Rattle.im_extensions.specs.Readings.{enabled_read, resumption_read}
use Rattle.im_extensions.specs.StreamManagement.{is_management}
use Rattle.im_extensions.specs.declared.stream_management.Enabled.{Enabled}
use Rattle.im_login.specs.Features.{features_read}
use Rattle.im_login.specs.declared.features.Features.{Features}
use Rattle.sm_outbox.specs.Sessions.{SessionView}
use Rattle.sm_outbox.specs.Submissions.{acknowledged, next_number}
use Rattle.sm_outbox.specs.Waiting.{Waiting, acked, is_full, is_too_high, submissions_to, too_high}
use Rattle.im_payload.specs.declared.fault.ExtFault.{ExtFault}
use Rattle.im_replies.specs.Management.{request_item}
use Rattle.im_replies.specs.Streams.{too_high_item}
use Rattle.im_requests.specs.Sessions.{available_item, bind_item, carbons_item, enable_item, resume_item}
use Rattle.im_stanza.specs.Readings.{stanza_of}
use Rattle.xml_trees.specs.Trees.{Elem}
use Rattle.xml_writer.specs.Items.{Closing, ItemOut}

-- ---- choices

pub rendered_either : {A B X Y : Type 0} (f : A → B) (g : X → List Y) (k : List (Note A) → List (Note B)) (c : Bool) (x y : ClientStep B Y) (t u : ClientStep A X) → x ≡ turn_rendered f g k t → y ≡ turn_rendered f g k u
    → (if c then x else y) ≡ turn_rendered f g k (if c then t else u)
rendered_either f g k true x y t u here there = here
rendered_either f g k false x y t u here there = there

-- ---- what goes out

pub put_rendered : {A B X Y : Type 0} {p : Speech A X} {q : Speech B Y} {f : A → B} {g : X → List Y} {k : List (Note A) → List (Note B)} (h : IsRendered p q f g k) (t : ClientStep A X) (more : List X) → puts (turn_rendered f g k t) (flat_map g more) ≡ turn_rendered f g k (puts t more)
put_rendered {f = f} {g = g} {k = k} h t more =
    ap (λ put. record { client = client_rendered f t.client; out = record { put = put; events = t.out.events; notes = k t.out.notes } }) (sym (flat_map-append g t.out.put more))

pub uttered_rendered : {A B X Y : Type 0} {p : Speech A X} {q : Speech B Y} {f : A → B} {g : X → List Y} {k : List (Note A) → List (Note B)} (h : IsRendered p q f g k) (item : ItemOut) → uttered q item ≡ flat_map g (uttered p item)
uttered_rendered {p = p} {q = q} h item = ap q.spread (h.say item) ∙ h.spread (p.say item)

pub said_rendered : {A B X Y : Type 0} {p : Speech A X} {q : Speech B Y} {f : A → B} {g : X → List Y} {k : List (Note A) → List (Note B)} (h : IsRendered p q f g k) (t : ClientStep A X) (item : ItemOut) → puts (turn_rendered f g k t) (uttered q item) ≡ turn_rendered f g k (puts t (uttered p item))
said_rendered {p = p} {f = f} {g = g} {k = k} h t item = ap (puts (turn_rendered f g k t)) (uttered_rendered h item) ∙ put_rendered h t (uttered p item)

said_where_rendered : {A B X Y : Type 0} {p : Speech A X} {q : Speech B Y} {f : A → B} {g : X → List Y} {k : List (Note A) → List (Note B)} (h : IsRendered p q f g k) (t : ClientStep A X) (item : Option ItemOut) → puts (turn_rendered f g k t) (uttered_where q item) ≡ turn_rendered f g k (puts t (uttered_where p item))
said_where_rendered h t None = put_rendered h t []
said_where_rendered h t (Some item) = said_rendered h t item

spread_rendered : {A B X Y : Type 0} {p : Speech A X} {q : Speech B Y} {f : A → B} {g : X → List Y} {k : List (Note A) → List (Note B)} (h : IsRendered p q f g k) (queue : List A) → spread_all q (map f queue) ≡ flat_map g (spread_all p queue)
spread_rendered h [] = refl
spread_rendered {p = p} {q = q} {f = f} {g = g} h (stanza ∷ queue) =
    ap₂ (λ x y. x ++ y) (h.spread stanza) (spread_rendered h queue) ∙ sym (flat_map-append g (p.spread stanza) (spread_all p queue))

pub noted_rendered : {A B X Y : Type 0} {p : Speech A X} {q : Speech B Y} {f : A → B} {g : X → List Y} {k : List (Note A) → List (Note B)} (h : IsRendered p q f g k) (t : ClientStep A X) (one : Note A) → notes q (turn_rendered f g k t) (note_rendered f one) ≡ turn_rendered f g k (notes p t one)
noted_rendered {f = f} {g = g} {k = k} h t one =
    ap (λ ns. record { client = client_rendered f t.client; out = record { put = flat_map g t.out.put; events = t.out.events; notes = ns } }) (h.note t.out.notes one)

-- ---- logins

went_rendered : {A B X Y : Type 0} {p : Speech A X} {q : Speech B Y} {f : A → B} {g : X → List Y} {k : List (Note A) → List (Note B)} (h : IsRendered p q f g k) (t : ClientStep A X) (n : Next) → goes_on (turn_rendered f g k t) n ≡ turn_rendered f g k (goes_on t n)
went_rendered h t (next.Goes state) = refl
went_rendered h t next.LoggedIn = refl
went_rendered h t (next.Ends why) = refl

pub followed_rendered : {A B X Y : Type 0} {p : Speech A X} {q : Speech B Y} {f : A → B} {g : X → List Y} {k : List (Note A) → List (Note B)} (h : IsRendered p q f g k) (t : ClientStep A X) (row : Row) → follows q (turn_rendered f g k t) row ≡ turn_rendered f g k (follows p t row)
followed_rendered {p = p} h t row = ap (λ u. goes_on u row.next) (said_where_rendered h t row.put) ∙ went_rendered h (puts t (uttered_where p row.put)) row.next

pub headed_rendered : {A B X Y : Type 0} {p : Speech A X} {q : Speech B Y} {f : A → B} {g : X → List Y} {k : List (Note A) → List (Note B)} (h : IsRendered p q f g k) (t : ClientStep A X) (at : Phase) → header_row q (turn_rendered f g k t) at ≡ turn_rendered f g k (header_row p t at)
headed_rendered h t phase.Apart = refl
headed_rendered h t (phase.Login state) = followed_rendered h t (rows.header_row state)
headed_rendered h t phase.Online = refl
headed_rendered h t phase.Features2 = refl
headed_rendered h t phase.Resuming = refl
headed_rendered h t phase.Binding = refl
headed_rendered h t phase.Enabling = refl

-- ---- the features behind the login

asked_rendered : {A B X Y : Type 0} {p : Speech A X} {q : Speech B Y} {f : A → B} {g : X → List Y} {k : List (Note A) → List (Note B)} (h : IsRendered p q f g k) (t : ClientStep A X) (item : ItemOut) (at : Phase) → asks q (turn_rendered f g k t) item at ≡ turn_rendered f g k (asks p t item at)
asked_rendered h t item at = ap (λ u. goes u at) (said_rendered h t item)

resumed_or_bound_rendered : {A B X Y : Type 0} {p : Speech A X} {q : Speech B Y} {f : A → B} {g : X → List Y} {k : List (Note A) → List (Note B)} (h : IsRendered p q f g k) (t : ClientStep A X) (o : Option (SessionView A)) → resumes_or_binds q (turn_rendered f g k t) (option_map (session_rendered f) o) ≡ turn_rendered f g k (resumes_or_binds p t o)
resumed_or_bound_rendered h t None = asked_rendered h t (bind_item t.client.account.resource) phase.Binding
resumed_or_bound_rendered {p = p} {q = q} h t (Some s) =
    let item = resume_item s.previd s.waiting.handled in
    ap (λ u. asks q u item phase.Resuming) (noted_rendered h t (Stated s.waiting.handled)) ∙ asked_rendered h (notes p t (Stated s.waiting.handled)) item phase.Resuming

featured_rendered : {A B X Y : Type 0} {p : Speech A X} {q : Speech B Y} {f : A → B} {g : X → List Y} {k : List (Note A) → List (Note B)} (h : IsRendered p q f g k) (t : ClientStep A X) (e : Elem) (read : Result Features ExtFault) → features2_with q (turn_rendered f g k t) e read ≡ turn_rendered f g k (features2_with p t e read)
featured_rendered {f = f} {g = g} {k = k} h t e (Ok features) =
    rendered_either f g k features.bind _ _ _ _ (resumed_or_bound_rendered h t t.client.session) refl
featured_rendered h t e (Err why) = refl

pub features2_rendered : {A B X Y : Type 0} {p : Speech A X} {q : Speech B Y} {f : A → B} {g : X → List Y} {k : List (Note A) → List (Note B)} (h : IsRendered p q f g k) (t : ClientStep A X) (e : Elem) → features2_row q (turn_rendered f g k t) e ≡ turn_rendered f g k (features2_row p t e)
features2_rendered h t e = featured_rendered h t e (features_read e)

-- ---- counts

pub full_rendered : {A B : Type 0} (f : A → B) (w : Waiting A) → is_full (waiting_rendered f w) ≡ is_full w
full_rendered f w = ap (λ n. n == 10000) (length-map w.queue f)

high_rendered : {A B : Type 0} (f : A → B) (w : Waiting A) (h : ℕ) → is_too_high (waiting_rendered f w) h ≡ is_too_high w h
high_rendered f w h = ap (λ n. nat_lt n (ahead h w.acked)) (length-map w.queue f)

too_high_rendered : {A B : Type 0} (f : A → B) (w : Waiting A) (h : ℕ) → too_high (waiting_rendered f w) h ≡ too_high w h
too_high_rendered f w h = ap (λ n. record { h = h; send_count = (w.acked + n) % 2 ^ 32 }) (length-map w.queue f)

acked_rendered : {A B : Type 0} (f : A → B) (w : Waiting A) (h : ℕ) → acked (waiting_rendered f w) h ≡ waiting_rendered f (acked w h)
acked_rendered {B = B} f w h =
    ap (λ (queue : List B). record { acked = h; handled = w.handled; queue = queue; submissions = (acked w h).submissions }) (drop-map f (ahead h w.acked) w.queue)

pub dropped_rendered : {A B X Y : Type 0} {p : Speech A X} {q : Speech B Y} {f : A → B} {g : X → List Y} {k : List (Note A) → List (Note B)} (h : IsRendered p q f g k) (t : ClientStep A X) → drops q (turn_rendered f g k t) ≡ turn_rendered f g k (drops p t)
dropped_rendered h t = noted_rendered h (record t { client = dropped t.client }) Ended

pub counted_too_high_rendered : {A B X Y : Type 0} {p : Speech A X} {q : Speech B Y} {f : A → B} {g : X → List Y} {k : List (Note A) → List (Note B)} (h : IsRendered p q f g k) (t : ClientStep A X) (fault : TooHigh) → counts_too_high q (turn_rendered f g k t) fault ≡ turn_rendered f g k (counts_too_high p t fault)
counted_too_high_rendered {p = p} {q = q} h t fault =
    let error = too_high_item fault.h fault.send_count in
    ap (λ u. ends (drops q (puts u (uttered q Closing))) (TooHighFault fault)) (said_rendered h t error)
    ∙ ap (λ u. ends (drops q u) (TooHighFault fault)) (said_rendered h (puts t (uttered p error)) Closing)
    ∙ ap (λ u. ends u (TooHighFault fault)) (dropped_rendered h (puts (puts t (uttered p error)) (uttered p Closing)))

pub acknowledged_rendered : {A B X Y : Type 0} {p : Speech A X} {q : Speech B Y} {f : A → B} {g : X → List Y} {k : List (Note A) → List (Note B)} (h : IsRendered p q f g k) (t : ClientStep A X) (s : SessionView A) (count : ℕ) → acknowledges q (turn_rendered f g k t) (session_rendered f s) count ≡ turn_rendered f g k (acknowledges p t s count)
acknowledged_rendered {q = q} {f = f} {g = g} {k = k} h t s count =
    let settled = record t { client = record t.client { said = acknowledged (submissions_to s.waiting count) t.client.said } } in
    let told = tells (with_session settled s (acked s.waiting count)) (Acked (ahead count s.waiting.acked)) in
    ap (λ w. notes q (tells (with_session (turn_rendered f g k settled) (session_rendered f s) w) (Acked (ahead count s.waiting.acked))) (Acknowledged (ahead count s.waiting.acked))) (acked_rendered f s.waiting count)
    ∙ noted_rendered h told (Acknowledged (ahead count s.waiting.acked))

pub ack_either : {A B X Y : Type 0} {p : Speech A X} {q : Speech B Y} {f : A → B} {g : X → List Y} {k : List (Note A) → List (Note B)} (h : IsRendered p q f g k) (t : ClientStep A X) (s : SessionView A) (count : ℕ) (x : ClientStep B Y) (u : ClientStep A X) → x ≡ turn_rendered f g k u
    → (if is_too_high (waiting_rendered f s.waiting) count then counts_too_high q (turn_rendered f g k t) (too_high (waiting_rendered f s.waiting) count) else x) ≡ turn_rendered f g k (if is_too_high s.waiting count then counts_too_high p t (too_high s.waiting count) else u)
ack_either {p = p} {q = q} {f = f} {g = g} {k = k} h t s count x u same =
    ap₂ (λ b fault. if b then counts_too_high q (turn_rendered f g k t) fault else x) (high_rendered f s.waiting count) (too_high_rendered f s.waiting count)
    ∙ rendered_either f g k (is_too_high s.waiting count) _ _ _ _ (counted_too_high_rendered h t (too_high s.waiting count)) same

-- ---- resumptions

queue_rendered : {A B : Type 0} (f : A → B) (o : Option (SessionView A)) → queue_in (option_map (session_rendered f) o) ≡ map f (queue_in o)
queue_rendered f None = refl
queue_rendered f (Some s) = refl

resent_rendered : {A B X Y : Type 0} {p : Speech A X} {q : Speech B Y} {f : A → B} {g : X → List Y} {k : List (Note A) → List (Note B)} (h : IsRendered p q f g k) (queue : List A) → resent q (map f queue) ≡ flat_map g (resent p queue)
resent_rendered h [] = refl
resent_rendered {p = p} {q = q} {f = f} {g = g} h (stanza ∷ queue) =
    ap₂ (λ x y. x ++ y) (spread_rendered h (stanza ∷ queue)) (uttered_rendered h request_item) ∙ sym (flat_map-append g (spread_all p (stanza ∷ queue)) (uttered p request_item))

attached_rendered : {A B X Y : Type 0} {p : Speech A X} {q : Speech B Y} {f : A → B} {g : X → List Y} {k : List (Note A) → List (Note B)} (h : IsRendered p q f g k) (t : ClientStep A X) → attaches q (turn_rendered f g k t) ≡ turn_rendered f g k (attaches p t)
attached_rendered {p = p} {q = q} {f = f} {g = g} {k = k} h t =
    ap (λ more. tells (puts (goes (turn_rendered f g k t) phase.Online) more) Resumed) (ap (resent q) (queue_rendered f t.client.session) ∙ resent_rendered h (queue_in t.client.session))
    ∙ ap (λ u. tells u Resumed) (put_rendered h (goes t phase.Online) (resent p (queue_in t.client.session)))

resumed_rendered : {A B X Y : Type 0} {p : Speech A X} {q : Speech B Y} {f : A → B} {g : X → List Y} {k : List (Note A) → List (Note B)} (h : IsRendered p q f g k) (t : ClientStep A X) (o : Option (SessionView A)) (count : ℕ) → resumed_in q (turn_rendered f g k t) (option_map (session_rendered f) o) count ≡ turn_rendered f g k (resumed_in p t o count)
resumed_rendered h t None count = refl
resumed_rendered {p = p} {q = q} h t (Some s) count =
    ack_either h t s count _ (attaches p (acknowledges p t s count)) (ap (attaches q) (acknowledged_rendered h t s count) ∙ attached_rendered h (acknowledges p t s count))

failed_rendered : {A B X Y : Type 0} {p : Speech A X} {q : Speech B Y} {f : A → B} {g : X → List Y} {k : List (Note A) → List (Note B)} (h : IsRendered p q f g k) (t : ClientStep A X) → failed_row q (turn_rendered f g k t) ≡ turn_rendered f g k (failed_row p t)
failed_rendered {p = p} {q = q} h t =
    ap (λ u. binds q (tells u ResumeFailed)) (dropped_rendered h t) ∙ asked_rendered h (tells (drops p t) ResumeFailed) (bind_item t.client.account.resource) phase.Binding

resuming_with_rendered : {A B X Y : Type 0} {p : Speech A X} {q : Speech B Y} {f : A → B} {g : X → List Y} {k : List (Note A) → List (Note B)} (h : IsRendered p q f g k) (t : ClientStep A X) (e : Elem) (read : Result (List ℕ × ℕ) ExtFault) → resuming_with q (turn_rendered f g k t) e read ≡ turn_rendered f g k (resuming_with p t e read)
resuming_with_rendered h t e (Ok told) = resumed_rendered h t t.client.session told.1
resuming_with_rendered {f = f} {g = g} {k = k} h t e (Err why) = rendered_either f g k (is_management (codes "failed") e) _ _ _ _ (failed_rendered h t) refl

pub resuming_rendered : {A B X Y : Type 0} {p : Speech A X} {q : Speech B Y} {f : A → B} {g : X → List Y} {k : List (Note A) → List (Note B)} (h : IsRendered p q f g k) (t : ClientStep A X) (e : Elem) → resuming_row q (turn_rendered f g k t) e ≡ turn_rendered f g k (resuming_row p t e)
resuming_rendered h t e = resuming_with_rendered h t e (resumption_read (codes "resumed") e)

-- ---- a resource, and a session

pub binding_rendered : {A B X Y : Type 0} {p : Speech A X} {q : Speech B Y} {f : A → B} {g : X → List Y} {k : List (Note A) → List (Note B)} (h : IsRendered p q f g k) (t : ClientStep A X) (e : Elem) → binding_row q (turn_rendered f g k t) e ≡ turn_rendered f g k (binding_row p t e)
binding_rendered {p = p} {q = q} {f = f} {g = g} {k = k} h t e =
    let risen = record t { client = record t.client { epoch = next_number t.client.epoch; n = 0 } } in
    rendered_either f g k (tells_bound (stanza_of e)) _ _ _ _
    (ap (λ u. asks q u enable_item phase.Enabling) (noted_rendered h risen (Epoch (next_number t.client.epoch))) ∙ asked_rendered h (begins_epoch p t) enable_item phase.Enabling) refl

-- a session with these two stanzas
abbrev begun_with : {A X : Type 0} → ClientStep A X → List ℕ → A → A → ClientStep A X
begun_with t previd first second =
    record t { client = record t.client { session = Some (record { previd = previd; waiting = record { acked = 0; handled = 0; queue = first ∷ second ∷ []; submissions = false ∷ false ∷ [] } }); phase = phase.Online } }

begun_rendered : {A B X Y : Type 0} {p : Speech A X} {q : Speech B Y} {f : A → B} {g : X → List Y} {k : List (Note A) → List (Note B)} (h : IsRendered p q f g k) (t : ClientStep A X) (previd : List ℕ) → begins q (turn_rendered f g k t) previd ≡ turn_rendered f g k (begins p t previd)
begun_rendered {p = p} {q = q} {f = f} {g = g} {k = k} h t previd =
    let first = p.say carbons_item in
    let second = p.say available_item in
    let start = begun_with t previd first second in
    let out = λ (u : ClientStep _ _). tells (puts (puts u (uttered q carbons_item)) (uttered q available_item)) (Bound t.client.epoch) in
    let counted = notes p start Counted in
    let noted = notes p (notes p counted (Put first)) (Put second) in
    ap₂ (λ x y. out (notes q (notes q (notes q (begun_with (turn_rendered f g k t) previd x y) Counted) (Put x)) (Put y))) (h.say carbons_item) (h.say available_item)
    ∙ ap (λ u. out (notes q (notes q u (Put (f first))) (Put (f second)))) (noted_rendered h start Counted)
    ∙ ap (λ u. out (notes q u (Put (f second)))) (noted_rendered h counted (Put first))
    ∙ ap out (noted_rendered h (notes p counted (Put first)) (Put second))
    ∙ ap (λ u. tells (puts u (uttered q available_item)) (Bound t.client.epoch)) (said_rendered h noted carbons_item)
    ∙ ap (λ u. tells u (Bound t.client.epoch)) (said_rendered h (puts noted (uttered p carbons_item)) available_item)

enabling_with_rendered : {A B X Y : Type 0} {p : Speech A X} {q : Speech B Y} {f : A → B} {g : X → List Y} {k : List (Note A) → List (Note B)} (h : IsRendered p q f g k) (t : ClientStep A X) (e : Elem) (read : Result Enabled ExtFault) → enabling_with q (turn_rendered f g k t) e read ≡ turn_rendered f g k (enabling_with p t e read)
enabling_with_rendered {f = f} {g = g} {k = k} h t e (Ok told) = rendered_either f g k (can_resume told) _ _ _ _ (begun_rendered h t told.id) refl
enabling_with_rendered {f = f} {g = g} {k = k} h t e (Err why) = rendered_either f g k (is_stanza e) _ _ _ _ refl refl

pub enabling_rendered : {A B X Y : Type 0} {p : Speech A X} {q : Speech B Y} {f : A → B} {g : X → List Y} {k : List (Note A) → List (Note B)} (h : IsRendered p q f g k) (t : ClientStep A X) (e : Elem) → enabling_row q (turn_rendered f g k t) e ≡ turn_rendered f g k (enabling_row p t e)
enabling_rendered h t e = enabling_with_rendered h t e (enabled_read e)
