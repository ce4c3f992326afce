-- A law of parts holds of items, and of calls.
use Rattle.std.proofs.Common.{◌≡◌, ℕ, ◌==◌, Bool, true, false, List, [], ◌∷◌, Option, Some, None, Result, Err, codes, is_ok, nat_le, length, take, if◌then◌else◌, arith, refl}
use Rattle.std.proofs.lemmas.Bool.Decides.{nat_tests}
use Rattle.std.proofs.lemmas.Option.{same_Some}
use Rattle.cl_core.specs.Feeds.{Fed, bytes_in, read, with_fault}
use Rattle.cl_core.specs.PageRows.{requests}
use Rattle.cl_core.specs.Steps.{connected_step, element_row, item_step, items_run, stream_condition}
use Rattle.cl_core.specs.UserCalls.{catch_up_answer, catch_up_in, catches_up_in, dials, is_bad_text, outbox_bound, say_answer, say_in, submits as submits_row}
use Rattle.law_client.proofs.LoginWalk.{binding_by, chosen, enabling_to, ended, features2_by, followed, headed, left_by, put, resuming_to}
use Rattle.law_client.proofs.OnlineWalk.{online_by, page_begun}
use Rattle.law_client.proofs.Parts.{IsLaw, drops_left, keeps_said, outs, submits}
use Rattle.law_client.specs.Calls.{Bytes, Call, CatchUp, Close, Cut, Dial, Forget, Gone, Say, called, calls_run, caught_up_by, cut_in, said_by}
use Rattle.law_client.specs.Standing.{stanza_of_said}
use Rattle.cl_login.specs.LoginRows.{begin_row, element_row as login_element}
use Rattle.cl_handlers.specs.Clients.{ClientStep, ClientView}
use Rattle.cl_handlers.specs.Speech.{Speech, uttered}
use Rattle.cl_handlers.specs.ClientSteps.{drops, ends, is_apart, left, puts, puts_footer, queues}
use Rattle.cl_handlers.specs.declared.events.PeerFault.TheVariants.{Closed, Framing, Stream}
use Rattle.cl_handlers.specs.declared.phase.Phase.{Phase}
use Rattle.cl_handlers.specs.declared.phase.Phase.TheVariants as phase
use Rattle.xml_framer.specs.States.{State}
use Rattle.xml_framer.specs.declared.fault.Fault.{Fault}
use Rattle.xml_framer.specs.declared.items.Item.{Item}
use Rattle.xml_framer.specs.declared.items.Item.TheVariants.{Header, Element, Footer}
use Rattle.sm_outbox.specs.Sessions.{SessionView}
use Rattle.sm_outbox.specs.Submissions.{said_of}
use Rattle.sm_outbox.specs.Waiting.{is_full}
use Rattle.sm_outbox.specs.declared.said.Said.{Said}
use Rattle.im_stanza.specs.Names.{streams_ns}
use Rattle.xml_trees.specs.Readers.{is_named}
use Rattle.xml_trees.specs.Trees.{Elem}
use Rattle.xml_writer.specs.Items.{Closing}

-- ---- items

element_by : {A X : Type 0} {speech : Speech A X} {P : ClientStep A X → ClientStep A X → Type 0} → IsLaw speech P → (t : ClientStep A X) (p : Phase) (e : Elem) → t.client.phase ≡ p → P t (element_row speech t p e)
element_by law t phase.Apart e is = law.stays t
element_by law t (phase.Login state) e is = followed law t (login_element t.client.account.login state e)
element_by law t phase.Features2 e is = features2_by law t e
element_by law t phase.Resuming e is = resuming_to law t e
element_by law t phase.Binding e is = binding_by law t e is
element_by law t phase.Enabling e is = enabling_to law t e is
element_by law t phase.Online e is = online_by law t t.client.session e refl

connected_by : {A X : Type 0} {speech : Speech A X} {P : ClientStep A X → ClientStep A X → Type 0} → IsLaw speech P → (t : ClientStep A X) (item : Item) → P t (connected_step speech t item)
connected_by law t (Header at header) = headed law t t.client.phase
connected_by {speech = speech} {P = P} law t (Element e) =
    chosen P (is_named streams_ns (codes "error") e) t (ends t (Stream (stream_condition e))) (element_row speech t t.client.phase e)
    (λ _. ended law t (Stream (stream_condition e))) (λ _. element_by law t t.client.phase e refl)
connected_by law t Footer = ended law t Closed

item_by : {A X : Type 0} {speech : Speech A X} {P : ClientStep A X → ClientStep A X → Type 0} → IsLaw speech P → (t : ClientStep A X) (item : Item) → P t (item_step speech t item)
item_by {speech = speech} {P = P} law t item = chosen P (is_apart t.client.phase) t t (connected_step speech t item) (λ _. law.stays t) (λ _. connected_by law t item)

pub items_by : {A X : Type 0} {speech : Speech A X} {P : ClientStep A X → ClientStep A X → Type 0} → IsLaw speech P → (items : List Item) (t : ClientStep A X) → P t (items_run speech t items)
items_by law [] t = law.stays t
items_by {speech = speech} law (item ∷ items) t =
    law.joins t (item_step speech t item) (items_run speech (item_step speech t item) items) (item_by law t item) (items_by law items (item_step speech t item))

-- ---- pieces of bytes

faulted : {A X : Type 0} {speech : Speech A X} {P : ClientStep A X → ClientStep A X → Type 0} → IsLaw speech P → (t : ClientStep A X) (fault : Option Fault) → P t (with_fault t fault)
faulted law t None = law.stays t
faulted {P = P} law t (Some fault) = chosen P (is_apart t.client.phase) t t (ends t (Framing fault)) (λ _. law.stays t) (λ _. ended law t (Framing fault))

piece_by : {A X : Type 0} {speech : Speech A X} {P : ClientStep A X → ClientStep A X → Type 0} → IsLaw speech P → (t : ClientStep A X) (framer : Option State) (piece : List ℕ) → P t (bytes_in speech t framer piece).turn
piece_by law t None piece = law.stays t
piece_by {speech = speech} law t (Some state) piece =
    let run = items_run speech t (read state piece).items in
    law.joins t run (with_fault run (read state piece).state.fault) (items_by law (read state piece).items t) (faulted law run (read state piece).state.fault)

cut_by : {A X : Type 0} {speech : Speech A X} {P : ClientStep A X → ClientStep A X → Type 0} → IsLaw speech P → (f : Fed A X) (framer : Option State) (piece : List ℕ) (done : ℕ) → P f.turn (cut_in speech f framer piece done).turn
cut_by law f None piece done = law.stays f.turn
cut_by {speech = speech} law f (Some state) piece done =
    let run = items_run speech f.turn (take done (read state piece).items) in
    law.joins f.turn run (left run) (items_by law (take done (read state piece).items) f.turn) (left_by law run)

-- ---- ends of sessions

given_up : {A X : Type 0} {speech : Speech A X} {P : ClientStep A X → ClientStep A X → Type 0} → IsLaw speech P → (t : ClientStep A X) → P t (drops speech (left t))
given_up {speech = speech} law t = law.parts t (drops speech (left t)) (drops_left refl)

footed : {A X : Type 0} {speech : Speech A X} {P : ClientStep A X → ClientStep A X → Type 0} → IsLaw speech P → (t : ClientStep A X) → P t (puts_footer speech t)
footed {speech = speech} {P = P} law t = chosen P (is_apart t.client.phase) t t (puts t (uttered speech Closing)) (λ _. law.stays t) (λ _. put law t (uttered speech Closing))

-- ---- submissions, and catch-ups

-- where the user may add a stanza, the queue isn't full
position_left : (n : ℕ) → nat_le 1000 n ≡ false → (n == 10000) ≡ false
position_left n low = grind (arith, nat_tests)

-- what an Ok of `say` needs
record MaySay {A : Type 0} (o : Option (SessionView A)) : Type 0 where
  pub session : SessionView A
  pub stands : o ≡ Some session
  pub position : is_full session.waiting ≡ false

ok_low : {V E : Type 0} (b : Bool) (fault : E) (x : Result V E) → is_ok (if b then Err fault else x) ≡ true → b ≡ false
ok_low true fault x ok = absurd (cc ok)
ok_low false fault x ok = refl

may_say_in : {A : Type 0} (c : ClientView A) (o : Option (SessionView A)) → is_ok (say_in c o) ≡ true → MaySay o
may_say_in c None ok = absurd (cc ok)
may_say_in c (Some s) ok = record { session = s; stands = refl; position = position_left (length s.waiting.queue) (ok_low (nat_le outbox_bound (length s.waiting.queue)) _ _ ok) }

ok_after : {V E : Type 0} (b : Bool) (fault : E) (x : Result V E) → is_ok (if b then Err fault else x) ≡ true → is_ok x ≡ true
ok_after true fault x ok = absurd (cc ok)
ok_after false fault x ok = ok

may_say : {A : Type 0} (c : ClientView A) (text : List ℕ) → is_ok (say_answer c text) ≡ true → MaySay c.session
may_say c text ok = may_say_in c c.session (ok_after (is_bad_text text) _ (say_in c c.session) ok)

may_ask_in : {A : Type 0} (c : ClientView A) (o : Option (SessionView A)) → is_ok (catch_up_in c o) ≡ true → MaySay o
may_ask_in c None ok = absurd (cc ok)
may_ask_in c (Some s) ok = record { session = s; stands = refl; position = position_left (length s.waiting.queue) (ok_low (nat_le outbox_bound (length s.waiting.queue)) _ _ ok) }

submitted_in : {A X : Type 0} {speech : Speech A X} {P : ClientStep A X → ClientStep A X → Type 0} → IsLaw speech P → (t : ClientStep A X) (o : Option (SessionView A)) (said : Said) → t.client.session ≡ o → MaySay o
    → P t (submits_row speech t o (stanza_of_said speech t.client.account said) said)
submitted_in law t None said is may = law.stays t
submitted_in {speech = speech} law t (Some s) said is may =
    let stanza = stanza_of_said speech t.client.account said in
    let waiting = queues speech (keeps_said t said) s stanza true in
    let position : is_full s.waiting ≡ false = rw (same_Some _ _ may.stands) may.position in
    law.joins t waiting (requests speech (keeps_said t said) s stanza true) (law.parts t waiting (submits s said is position refl))
    (law.parts waiting (requests speech (keeps_said t said) s stanza true) (outs refl refl))

said_to : {A X : Type 0} {speech : Speech A X} {P : ClientStep A X → ClientStep A X → Type 0} → IsLaw speech P → (f : Fed A X) (to text : List ℕ) (private : Bool) (b : Bool) → (b ≡ true → MaySay f.turn.client.session) → P f.turn (said_by speech f to text private b).turn
said_to law f to text private false may = law.stays f.turn
said_to law f to text private true may = submitted_in law f.turn f.turn.client.session (said_of f.turn.client.epoch f.turn.client.n to text private) refl (may refl)

caught_up_in : {A X : Type 0} {speech : Speech A X} {P : ClientStep A X → ClientStep A X → Type 0} → IsLaw speech P → (t : ClientStep A X) (o : Option (SessionView A)) (max : ℕ) → t.client.session ≡ o → MaySay o → P t (catches_up_in speech t o max)
caught_up_in law t None max is may = law.stays t
caught_up_in law t (Some s) max is may = page_begun law t s max is (rw (same_Some _ _ may.stands) may.position)

caught_up : {A X : Type 0} {speech : Speech A X} {P : ClientStep A X → ClientStep A X → Type 0} → IsLaw speech P → (f : Fed A X) (max : ℕ) (b : Bool) → (b ≡ true → MaySay f.turn.client.session) → P f.turn (caught_up_by speech f max b).turn
caught_up law f max false may = law.stays f.turn
caught_up law f max true may = caught_up_in law f.turn f.turn.client.session max refl (may refl)

-- ---- calls

pub call_by : {A X : Type 0} {speech : Speech A X} {P : ClientStep A X → ClientStep A X → Type 0} → IsLaw speech P → (call : Call) (f : Fed A X) → P f.turn (called speech call f).turn
call_by {speech = speech} law (Dial entropy) f =
    law.joins f.turn (left f.turn) (dials speech entropy f).turn (left_by law f.turn) (followed law (left f.turn) (begin_row f.turn.client.account.login.domain entropy))
call_by law (Bytes piece) f = piece_by law f.turn f.framer piece
call_by law (Cut piece done) f = cut_by law f f.framer piece done
call_by law Gone f = left_by law f.turn
call_by law Forget f = given_up law f.turn
call_by {speech = speech} law Close f =
    law.joins f.turn (puts_footer speech f.turn) (drops speech (left (puts_footer speech f.turn))) (footed law f.turn) (given_up law (puts_footer speech f.turn))
call_by law (Say to text private) f = said_to law f to text private (is_ok (say_answer f.turn.client text)) (λ ok. may_say f.turn.client text ok)
call_by law (CatchUp max) f = caught_up law f max (is_ok (catch_up_answer f.turn.client)) (λ ok. may_ask_in f.turn.client f.turn.client.session ok)

pub calls_by : {A X : Type 0} {speech : Speech A X} {P : ClientStep A X → ClientStep A X → Type 0} → IsLaw speech P → (calls : List Call) (f : Fed A X) → P f.turn (calls_run speech calls f).turn
calls_by law [] f = law.stays f.turn
calls_by {speech = speech} law (call ∷ calls) f =
    law.joins f.turn (called speech call f).turn (calls_run speech calls (called speech call f)).turn (call_by law call f) (calls_by law calls (called speech call f))
