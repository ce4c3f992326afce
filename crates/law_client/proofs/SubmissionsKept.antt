-- The submissions that wait are those in the queue of the session.
use Rattle.std.proofs.Common.{◌≡◌, [], Option, Some, None, length, map, refl, sym, ap, subst}
use Rattle.law_client.proofs.Parts.{IsLaw, Part, acks, bound, drops_binding, drops_left, enabled, goes_free, goes_with, goes_without, handled, logs, numbers, opens, outs, states, submits, waits}
use Rattle.law_client.proofs.Standings.{stands_by}
use Rattle.law_client.specs.Standing.{Stands, SubmissionsWait, WaitIn, is_binding, stanza_of_said}
use Rattle.cl_handlers.specs.Clients.{ClientStep, ClientView}
use Rattle.cl_handlers.specs.Speech.{Speech}
use Rattle.sm_outbox.proofs.QueuedSubmissions.{acked_queued, as_many, other_queued, said_queued}
use Rattle.sm_outbox.specs.Directions.{AreQueued}
use Rattle.sm_outbox.specs.Sessions.{SessionView}
use Rattle.sm_outbox.specs.Submissions.{SaidView}
use Rattle.sm_outbox.specs.Waiting.{Waiting, count_true, counted_in}
use Rattle.sm_outbox.specs.declared.said.Said.{Said}

-- a session stands where one is needed, and the submissions wait in it
pub record IsKeeping {A X : Type 0} (speech : Speech A X) (c : ClientView A) : Type 0 where
  pub stands : Stands c
  pub wait : SubmissionsWait speech c

abbrev Keeps : {A X : Type 0} → Speech A X → ClientStep A X → ClientStep A X → Type 0
Keeps speech t u = IsKeeping speech t.client → IsKeeping speech u.client

queued_in : {A : Type 0} (stanza : Said → A) (o : Option (SessionView A)) (s : SessionView A) (said : SaidView) → o ≡ Some s → WaitIn stanza o said → AreQueued stanza s.waiting said
queued_in stanza o s said is wait = subst (λ p. WaitIn stanza p said) is wait

none_waits : {A : Type 0} (stanza : Said → A) (o : Option (SessionView A)) (said : SaidView) → o ≡ None → WaitIn stanza o said → said.waiting ≡ []
none_waits stanza o said is wait = subst (λ p. WaitIn stanza p said) is wait

counted_queued : {A : Type 0} (stanza : Said → A) (w : Waiting A) (said : SaidView) → AreQueued stanza w said → AreQueued stanza (counted_in w) said
counted_queued stanza w said are = record { kinds = are.kinds; stanzas = are.stanzas }

waits_by : {A X : Type 0} (speech : Speech A X) (t u : ClientStep A X) → Part speech t u → IsKeeping speech t.client → SubmissionsWait speech u.client
waits_by speech t u (outs is same) k = subst (SubmissionsWait speech) (sym is) k.wait
waits_by {A = A} {X = X} speech t u (states s at is) k = subst (λ (v : ClientStep A X). SubmissionsWait speech v.client) (sym is) k.wait
waits_by {A = A} {X = X} speech t u (goes_free p needs binds is) k = subst (λ (v : ClientStep A X). SubmissionsWait speech v.client) (sym is) k.wait
waits_by {A = A} {X = X} speech t u (goes_with p binds some is) k = subst (λ (v : ClientStep A X). SubmissionsWait speech v.client) (sym is) k.wait
waits_by {A = A} {X = X} speech t u (goes_without p needs none is) k = subst (λ (v : ClientStep A X). SubmissionsWait speech v.client) (sym is) k.wait
waits_by {A = A} {X = X} speech t u (bound at is) k = subst (λ (v : ClientStep A X). SubmissionsWait speech v.client) (sym is) k.wait
waits_by {A = A} {X = X} speech t u (enabled previd at is) k =
    let stanza = stanza_of_said speech t.client.account in
    let none : t.client.said.waiting ≡ [] = none_waits stanza t.client.session t.client.said (k.stands.unbound (ap is_binding at)) k.wait in
    subst (λ (v : ClientStep A X). SubmissionsWait speech v.client) (sym is) (record { kinds = refl; stanzas = ap (map stanza) (sym none) })
waits_by {A = A} {X = X} speech t u (drops_left is) k = subst (λ (v : ClientStep A X). SubmissionsWait speech v.client) (sym is) refl
waits_by {A = A} {X = X} speech t u (drops_binding is) k = subst (λ (v : ClientStep A X). SubmissionsWait speech v.client) (sym is) refl
waits_by {A = A} {X = X} speech t u (waits s z at position is) k =
    let stanza = stanza_of_said speech t.client.account in
    subst (λ (v : ClientStep A X). SubmissionsWait speech v.client) (sym is) (other_queued stanza z s.waiting t.client.said (queued_in stanza t.client.session s t.client.said at k.wait))
waits_by {A = A} {X = X} speech t u (submits s said at position is) k =
    let stanza = stanza_of_said speech t.client.account in
    subst (λ (v : ClientStep A X). SubmissionsWait speech v.client) (sym is) (said_queued stanza said s.waiting t.client.said (queued_in stanza t.client.session s t.client.said at k.wait))
waits_by {A = A} {X = X} speech t u (acks s h at low is) k =
    let stanza = stanza_of_said speech t.client.account in
    subst (λ (v : ClientStep A X). SubmissionsWait speech v.client) (sym is) (acked_queued stanza h s.waiting t.client.said (queued_in stanza t.client.session s t.client.said at k.wait))
waits_by {A = A} {X = X} speech t u (handled s e at is) k =
    let stanza = stanza_of_said speech t.client.account in
    subst (λ (v : ClientStep A X). SubmissionsWait speech v.client) (sym is) (counted_queued stanza s.waiting t.client.said (queued_in stanza t.client.session s t.client.said at k.wait))
waits_by {A = A} {X = X} speech t u (logs log part is) k = subst (λ (v : ClientStep A X). SubmissionsWait speech v.client) (sym is) k.wait
waits_by {A = A} {X = X} speech t u (opens s queryid max at is) k = subst (λ (v : ClientStep A X). SubmissionsWait speech v.client) (sym is) k.wait
waits_by {A = A} {X = X} speech t u (numbers number is) k = subst (λ (v : ClientStep A X). SubmissionsWait speech v.client) (sym is) k.wait

pub keeping_law : {A X : Type 0} (speech : Speech A X) → IsLaw speech (Keeps speech)
keeping_law speech = record {
  stays = λ t k. k;
  joins = λ t u v first rest k. rest (first k);
  parts = λ t u part k. record { stands = stands_by t u part k.stands; wait = waits_by speech t u part k };
}

-- as many wait as there are submissions in the queue
pub as_many_wait : {A X : Type 0} (speech : Speech A X) (c : ClientView A) (s : SessionView A) → c.session ≡ Some s → SubmissionsWait speech c → count_true s.waiting.submissions ≡ length c.said.waiting
as_many_wait speech c s is wait = as_many (stanza_of_said speech c.account) s.waiting c.said (queued_in (stanza_of_said speech c.account) c.session s c.said is wait)
