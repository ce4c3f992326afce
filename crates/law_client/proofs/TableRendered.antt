-- The whole table and the calls go through: what comes of items is the same, however what is put is written.
use Rattle.std.proofs.Common.{◌≡◌, ℕ, Bool, true, false, List, [], ◌∷◌, Option, Some, None, Ok, Err, codes, is_ok, is_some, nat_le, take, if◌then◌else◌, refl, sym, ap, append-nil, ◌∙◌}
use Rattle.std.proofs.lemmas.List.{length-map}
use Rattle.std.specs.Option.{option_map}
use Rattle.cl_core.specs.Feeds.{Fed, bytes_in, fed, kept_while, read, with_fault}
use Rattle.cl_core.specs.Steps.{connected_step, element_row, item_step, items_run}
use Rattle.cl_core.specs.UserCalls.{catch_up_answer, catch_up_in, catches_up_in, closes, dials, forgets, is_bad_text, outbox_bound, say_answer, say_in, submission_of, submits}
use Rattle.cl_core.specs.declared.faults.CatchUpStart.TheVariants as start
use Rattle.cl_core.specs.declared.faults.SayFault.TheVariants as say
use Rattle.law_client.proofs.OnlineRendered.{online_rendered, page_begun_rendered, requested_rendered}
use Rattle.law_client.proofs.RowsRendered.{binding_rendered, dropped_rendered, enabling_rendered, features2_rendered, followed_rendered, headed_rendered, rendered_either, resuming_rendered, said_rendered}
use Rattle.law_client.specs.Calls.{Bytes, Call, CatchUp, Close, Cut, Dial, Forget, Gone, Say, called, calls_run, caught_up_by, cut_in, said_by}
use Rattle.law_client.specs.Rendered.{IsRendered, client_rendered, fed_rendered, session_rendered, turn_rendered}
use Rattle.cl_login.specs.LoginRows.{begin_row, element_row as login_element}
use Rattle.cl_handlers.specs.Clients.{ClientStep, ClientView}
use Rattle.cl_handlers.specs.Speech.{Note, Speech, in_bytes, in_items}
use Rattle.cl_handlers.specs.ClientSteps.{is_apart, left, puts_footer}
use Rattle.cl_handlers.specs.declared.phase.Phase.{Phase}
use Rattle.cl_handlers.specs.declared.phase.Phase.TheVariants as phase
use Rattle.xml_framer.specs.Limits.{client_limits}
use Rattle.xml_framer.specs.States.{State, from_start}
use Rattle.xml_framer.specs.declared.fault.Fault.{Fault}
use Rattle.xml_framer.specs.declared.items.Item.{Item}
use Rattle.xml_framer.specs.declared.items.Item.TheVariants.{Header, Element, Footer}
use Rattle.sm_outbox.specs.Sessions.{SessionView}
use Rattle.sm_outbox.specs.Submissions.{next_number, said_of, with_said}
use Rattle.sm_outbox.specs.declared.said.Said.{Said}
use Rattle.im_stanza.specs.Names.{streams_ns}
use Rattle.xml_trees.specs.Readers.{is_named}
use Rattle.xml_trees.specs.Trees.{Elem}
use Rattle.xml_writer.specs.Items.{Closing, ItemOut, written_item}

-- ---- items

element_rendered : {A B X Y : Type 0} {p : Speech A X} {q : Speech B Y} {f : A → B} {g : X → List Y} {k : List (Note A) → List (Note B)} (h : IsRendered p q f g k) (t : ClientStep A X) (at : Phase) (e : Elem) → element_row q (turn_rendered f g k t) at e ≡ turn_rendered f g k (element_row p t at e)
element_rendered h t phase.Apart e = refl
element_rendered h t (phase.Login state) e = followed_rendered h t (login_element t.client.account.login state e)
element_rendered h t phase.Features2 e = features2_rendered h t e
element_rendered h t phase.Resuming e = resuming_rendered h t e
element_rendered h t phase.Binding e = binding_rendered h t e
element_rendered h t phase.Enabling e = enabling_rendered h t e
element_rendered h t phase.Online e = online_rendered h t t.client.session e

connected_rendered : {A B X Y : Type 0} {p : Speech A X} {q : Speech B Y} {f : A → B} {g : X → List Y} {k : List (Note A) → List (Note B)} (h : IsRendered p q f g k) (t : ClientStep A X) (item : Item) → connected_step q (turn_rendered f g k t) item ≡ turn_rendered f g k (connected_step p t item)
connected_rendered h t (Header at header) = headed_rendered h t t.client.phase
connected_rendered {f = f} {g = g} {k = k} h t (Element e) = rendered_either f g k (is_named streams_ns (codes "error") e) _ _ _ _ refl (element_rendered h t t.client.phase e)
connected_rendered h t Footer = refl

item_rendered : {A B X Y : Type 0} {p : Speech A X} {q : Speech B Y} {f : A → B} {g : X → List Y} {k : List (Note A) → List (Note B)} (h : IsRendered p q f g k) (t : ClientStep A X) (item : Item) → item_step q (turn_rendered f g k t) item ≡ turn_rendered f g k (item_step p t item)
item_rendered {f = f} {g = g} {k = k} h t item = rendered_either f g k (is_apart t.client.phase) _ _ _ _ refl (connected_rendered h t item)

pub items_rendered : {A B X Y : Type 0} {p : Speech A X} {q : Speech B Y} {f : A → B} {g : X → List Y} {k : List (Note A) → List (Note B)} (h : IsRendered p q f g k) (items : List Item) (t : ClientStep A X) → items_run q (turn_rendered f g k t) items ≡ turn_rendered f g k (items_run p t items)
items_rendered h [] t = refl
items_rendered {p = p} {q = q} h (item ∷ items) t = ap (λ u. items_run q u items) (item_rendered h t item) ∙ items_rendered h items (item_step p t item)

-- ---- pieces of bytes

faulted_rendered : {A B X Y : Type 0} {p : Speech A X} {q : Speech B Y} {f : A → B} {g : X → List Y} {k : List (Note A) → List (Note B)} (h : IsRendered p q f g k) (t : ClientStep A X) (fault : Option Fault) → with_fault (turn_rendered f g k t) fault ≡ turn_rendered f g k (with_fault t fault)
faulted_rendered h t None = refl
faulted_rendered {f = f} {g = g} {k = k} h t (Some fault) = rendered_either f g k (is_apart t.client.phase) _ _ _ _ refl refl

piece_rendered : {A B X Y : Type 0} {p : Speech A X} {q : Speech B Y} {f : A → B} {g : X → List Y} {k : List (Note A) → List (Note B)} (h : IsRendered p q f g k) (t : ClientStep A X) (framer : Option State) (piece : List ℕ) → bytes_in q (turn_rendered f g k t) framer piece ≡ fed_rendered f g k (bytes_in p t framer piece)
piece_rendered h t None piece = refl
piece_rendered {p = p} h t (Some state) piece =
    let run = read state piece in
    ap (λ u. kept_while (with_fault u run.state.fault) run.state) (items_rendered h run.items t) ∙ ap (λ u. kept_while u run.state) (faulted_rendered h (items_run p t run.items) run.state.fault)

cut_rendered : {A B X Y : Type 0} {p : Speech A X} {q : Speech B Y} {f : A → B} {g : X → List Y} {k : List (Note A) → List (Note B)} (h : IsRendered p q f g k) (fed : Fed A X) (framer : Option State) (piece : List ℕ) (done : ℕ) → cut_in q (fed_rendered f g k fed) framer piece done ≡ fed_rendered f g k (cut_in p fed framer piece done)
cut_rendered h fed None piece done = refl
cut_rendered h fed (Some state) piece done = ap (λ u. record { framer = None; turn = left u }) (items_rendered h (take done (read state piece).items) fed.turn)

-- ---- connections

dialed_rendered : {A B X Y : Type 0} {p : Speech A X} {q : Speech B Y} {f : A → B} {g : X → List Y} {k : List (Note A) → List (Note B)} (h : IsRendered p q f g k) (entropy : List ℕ) (fed : Fed A X) → dials q entropy (fed_rendered f g k fed) ≡ fed_rendered f g k (dials p entropy fed)
dialed_rendered h entropy fed =
    ap (λ u. record { framer = Some (from_start client_limits); turn = u }) (followed_rendered h (left fed.turn) (begin_row fed.turn.client.account.login.domain entropy))

forgotten_rendered : {A B X Y : Type 0} {p : Speech A X} {q : Speech B Y} {f : A → B} {g : X → List Y} {k : List (Note A) → List (Note B)} (h : IsRendered p q f g k) (fed : Fed A X) → forgets q (fed_rendered f g k fed) ≡ fed_rendered f g k (forgets p fed)
forgotten_rendered h fed = ap (λ u. record { framer = None; turn = u }) (dropped_rendered h (left fed.turn))

footed_rendered : {A B X Y : Type 0} {p : Speech A X} {q : Speech B Y} {f : A → B} {g : X → List Y} {k : List (Note A) → List (Note B)} (h : IsRendered p q f g k) (t : ClientStep A X) → puts_footer q (turn_rendered f g k t) ≡ turn_rendered f g k (puts_footer p t)
footed_rendered {f = f} {g = g} {k = k} h t = rendered_either f g k (is_apart t.client.phase) _ _ _ _ refl (said_rendered h t Closing)

closed_rendered : {A B X Y : Type 0} {p : Speech A X} {q : Speech B Y} {f : A → B} {g : X → List Y} {k : List (Note A) → List (Note B)} (h : IsRendered p q f g k) (fed : Fed A X) → closes q (fed_rendered f g k fed) ≡ fed_rendered f g k (closes p fed)
closed_rendered {p = p} {q = q} h fed =
    ap (λ u. forgets q (record { framer = fed.framer; turn = u })) (footed_rendered h fed.turn) ∙ forgotten_rendered h (record fed { turn = puts_footer p fed.turn })

-- ---- submissions, and catch-ups

say_in_rendered : {A B : Type 0} (f : A → B) (c : ClientView A) (o : Option (SessionView A)) → say_in (client_rendered f c) (option_map (session_rendered f) o) ≡ say_in c o
say_in_rendered f c None = refl
say_in_rendered f c (Some s) = ap (λ n. if nat_le outbox_bound n then Err say.OutboxFull else Ok (next_number c.n)) (length-map s.waiting.queue f)

pub answer_rendered : {A B : Type 0} (f : A → B) (c : ClientView A) (text : List ℕ) → say_answer (client_rendered f c) text ≡ say_answer c text
answer_rendered f c text = ap (λ answer. if is_bad_text text then Err say.BadText else answer) (say_in_rendered f c c.session)

pub start_rendered : {A B : Type 0} (f : A → B) (c : ClientView A) (o : Option (SessionView A)) → catch_up_in (client_rendered f c) (option_map (session_rendered f) o) ≡ catch_up_in c o
start_rendered f c None = refl
start_rendered f c (Some s) = ap (λ n. if nat_le outbox_bound n then Err start.OutboxFull else (if is_some c.log.page then Err start.Underway else Ok tt)) (length-map s.waiting.queue f)

submitted_rendered : {A B X Y : Type 0} {p : Speech A X} {q : Speech B Y} {f : A → B} {g : X → List Y} {k : List (Note A) → List (Note B)} (h : IsRendered p q f g k) (t : ClientStep A X) (o : Option (SessionView A)) (item : ItemOut) (said : Said) → submits q (turn_rendered f g k t) (option_map (session_rendered f) o) (q.say item) said ≡ turn_rendered f g k (submits p t o (p.say item) said)
submitted_rendered h t None item said = refl
submitted_rendered {p = p} {q = q} {f = f} {g = g} {k = k} h t (Some s) item said =
    ap (λ stanza. submits q (turn_rendered f g k t) (Some (session_rendered f s)) stanza said) (h.say item)
    ∙ requested_rendered h (record t { client = record t.client { n = said.n; said = with_said t.client.said said } }) s (p.say item) true

said_rendered_to : {A B X Y : Type 0} {p : Speech A X} {q : Speech B Y} {f : A → B} {g : X → List Y} {k : List (Note A) → List (Note B)} (h : IsRendered p q f g k) (fed : Fed A X) (to text : List ℕ) (private taken : Bool) → said_by q (fed_rendered f g k fed) to text private taken ≡ fed_rendered f g k (said_by p fed to text private taken)
said_rendered_to h fed to text private false = refl
said_rendered_to h fed to text private true =
    ap (λ u. record { framer = fed.framer; turn = u })
    (submitted_rendered h fed.turn fed.turn.client.session (submission_of fed.turn.client to text private) (said_of fed.turn.client.epoch fed.turn.client.n to text private))

asked_rendered_in : {A B X Y : Type 0} {p : Speech A X} {q : Speech B Y} {f : A → B} {g : X → List Y} {k : List (Note A) → List (Note B)} (h : IsRendered p q f g k) (t : ClientStep A X) (o : Option (SessionView A)) (most : ℕ) → catches_up_in q (turn_rendered f g k t) (option_map (session_rendered f) o) most ≡ turn_rendered f g k (catches_up_in p t o most)
asked_rendered_in h t None most = refl
asked_rendered_in h t (Some s) most = page_begun_rendered h t s most

caught_up_rendered : {A B X Y : Type 0} {p : Speech A X} {q : Speech B Y} {f : A → B} {g : X → List Y} {k : List (Note A) → List (Note B)} (h : IsRendered p q f g k) (fed : Fed A X) (most : ℕ) (taken : Bool) → caught_up_by q (fed_rendered f g k fed) most taken ≡ fed_rendered f g k (caught_up_by p fed most taken)
caught_up_rendered h fed most false = refl
caught_up_rendered h fed most true = ap (λ u. record { framer = fed.framer; turn = u }) (asked_rendered_in h fed.turn fed.turn.client.session most)

-- ---- calls

call_rendered : {A B X Y : Type 0} {p : Speech A X} {q : Speech B Y} {f : A → B} {g : X → List Y} {k : List (Note A) → List (Note B)} (h : IsRendered p q f g k) (call : Call) (fed : Fed A X) → called q call (fed_rendered f g k fed) ≡ fed_rendered f g k (called p call fed)
call_rendered h (Dial entropy) fed = dialed_rendered h entropy fed
call_rendered h (Bytes piece) fed = piece_rendered h fed.turn fed.framer piece
call_rendered h (Cut piece done) fed = cut_rendered h fed fed.framer piece done
call_rendered h Gone fed = refl
call_rendered h Forget fed = forgotten_rendered h fed
call_rendered h Close fed = closed_rendered h fed
call_rendered {q = q} {f = f} {g = g} {k = k} h (Say to text private) fed =
    ap (λ answer. said_by q (fed_rendered f g k fed) to text private (is_ok answer)) (answer_rendered f fed.turn.client text)
    ∙ said_rendered_to h fed to text private (is_ok (say_answer fed.turn.client text))
call_rendered {q = q} {f = f} {g = g} {k = k} h (CatchUp most) fed =
    ap (λ answer. caught_up_by q (fed_rendered f g k fed) most (is_ok answer)) (start_rendered f fed.turn.client fed.turn.client.session)
    ∙ caught_up_rendered h fed most (is_ok (catch_up_answer fed.turn.client))

pub calls_rendered : {A B X Y : Type 0} {p : Speech A X} {q : Speech B Y} {f : A → B} {g : X → List Y} {k : List (Note A) → List (Note B)} (h : IsRendered p q f g k) (calls : List Call) (fed : Fed A X) → calls_run q calls (fed_rendered f g k fed) ≡ fed_rendered f g k (calls_run p calls fed)
calls_rendered h [] fed = refl
calls_rendered {p = p} {q = q} h (call ∷ calls) fed = ap (calls_run q calls) (call_rendered h call fed) ∙ calls_rendered h calls (called p call fed)

-- ---- items as their bytes

pub bytes_rendered : IsRendered in_items in_bytes written_item written_item (λ _. [])
bytes_rendered = record { say = λ item. refl; spread = λ stanza. sym (append-nil (written_item stanza)); note = λ notes one. refl }
