-- A law of parts holds of the rows up to a session.
use Rattle.std.proofs.Common.{◌≡◌, ℕ, Bool, true, false, List, Option, Some, None, Result, Ok, Err, IsSome, codes, is_some, if◌then◌else◌, refl, ap}
use Rattle.law_client.proofs.Parts.{IsLaw, acks, bound, drops_binding, drops_left, enabled, goes_free, goes_with, goes_without, outs, states}
use Rattle.cl_login.specs.Puts.{Row}
use Rattle.cl_login.specs.declared.answers.Next.{Next}
use Rattle.cl_login.specs.declared.answers.Next.TheVariants as next
use Rattle.cl_login.specs.LoginRows as rows
use Rattle.cl_handlers.specs.AckRows.{acknowledges, counts_too_high}
use Rattle.cl_handlers.specs.Clients.{ClientStep}
use Rattle.cl_handlers.specs.LoginSteps.{follows, goes_on, header_row, other_element, peer_fault}
use Rattle.cl_handlers.specs.SessionRows.{attaches, begins, begins_epoch, binding_row, binds, can_resume, enabling_row, enabling_with, failed_row, features2_row, features2_with, is_stanza, resumed_in, resumes_or_binds, resuming_row, resuming_with, tells_bound}
use Rattle.cl_handlers.specs.Speech.{Speech, Stated, uttered_where}
use Rattle.cl_handlers.specs.ClientSteps.{drops, ends, goes, left, notes, puts, tells}
use Rattle.cl_handlers.specs.declared.events.Event.{Event}
use Rattle.cl_handlers.specs.declared.events.PeerFault.{PeerFault}
use Rattle.cl_handlers.specs.declared.events.PeerFault.TheVariants as peer
use Rattle.cl_handlers.specs.declared.phase.Phase.{Phase}
use Rattle.cl_handlers.specs.declared.phase.Phase.TheVariants as phase
use Rattle.sm_acks.specs.declared.end.TooHigh.{TooHigh}
use Rattle.im_extensions.specs.Readings.{enabled_read, resumption_read}
use Rattle.im_extensions.specs.StreamManagement.{is_management}
use Rattle.im_extensions.specs.declared.stream_management.Enabled.{Enabled}
use Rattle.im_login.specs.Features.{features_read}
use Rattle.im_login.specs.declared.features.Features.{Features}
use Rattle.sm_outbox.specs.Sessions.{SessionView}
use Rattle.sm_outbox.specs.Waiting.{is_too_high, too_high}
use Rattle.im_payload.specs.declared.fault.ExtFault.{ExtFault}
use Rattle.im_stanza.specs.Readings.{stanza_of}
use Rattle.xml_trees.specs.Trees.{Elem}

-- ---- choices

pub chosen : {A X : Type 0} (P : ClientStep A X → ClientStep A X → Type 0) (c : Bool) (t a b : ClientStep A X) → (c ≡ true → P t a) → (c ≡ false → P t b) → P t (if c then a else b)
chosen P true t a b here there = here refl
chosen P false t a b here there = there refl

-- ---- what goes out, and ends of connections

pub told : {A X : Type 0} {speech : Speech A X} {P : ClientStep A X → ClientStep A X → Type 0} → IsLaw speech P → (t : ClientStep A X) (event : Event) → P t (tells t event)
told law t event = law.parts t (tells t event) (outs refl refl)

pub put : {A X : Type 0} {speech : Speech A X} {P : ClientStep A X → ClientStep A X → Type 0} → IsLaw speech P → (t : ClientStep A X) (more : List X) → P t (puts t more)
put law t more = law.parts t (puts t more) (outs refl refl)

pub left_by : {A X : Type 0} {speech : Speech A X} {P : ClientStep A X → ClientStep A X → Type 0} → IsLaw speech P → (t : ClientStep A X) → P t (left t)
left_by law t = law.parts t (left t) (goes_free phase.Apart refl refl refl)

pub ended : {A X : Type 0} {speech : Speech A X} {P : ClientStep A X → ClientStep A X → Type 0} → IsLaw speech P → (t : ClientStep A X) (fault : PeerFault) → P t (ends t fault)
ended law t fault = law.joins t (left t) (ends t fault) (left_by law t) (law.parts (left t) (ends t fault) (outs refl refl))

-- ---- the login

went_on : {A X : Type 0} {speech : Speech A X} {P : ClientStep A X → ClientStep A X → Type 0} → IsLaw speech P → (t : ClientStep A X) (n : Next) → P t (goes_on t n)
went_on law t (next.Goes state) = law.parts t (goes t (phase.Login state)) (goes_free (phase.Login state) refl refl refl)
went_on law t next.LoggedIn = law.parts t (goes t phase.Features2) (goes_free phase.Features2 refl refl refl)
went_on law t (next.Ends why) = ended law t (peer_fault why)

pub followed : {A X : Type 0} {speech : Speech A X} {P : ClientStep A X → ClientStep A X → Type 0} → IsLaw speech P → (t : ClientStep A X) (row : Row) → P t (follows speech t row)
followed {speech = speech} law t row =
    law.joins t (puts t (uttered_where speech row.put)) (follows speech t row) (put law t (uttered_where speech row.put)) (went_on law (puts t (uttered_where speech row.put)) row.next)

pub headed : {A X : Type 0} {speech : Speech A X} {P : ClientStep A X → ClientStep A X → Type 0} → IsLaw speech P → (t : ClientStep A X) (p : Phase) → P t (header_row speech t p)
headed law t phase.Apart = law.stays t
headed law t (phase.Login state) = followed law t (rows.header_row state)
headed law t phase.Online = law.stays t
headed law t phase.Features2 = ended law t peer.Unexpected
headed law t phase.Resuming = ended law t peer.Unexpected
headed law t phase.Binding = ended law t peer.Unexpected
headed law t phase.Enabling = ended law t peer.Unexpected

-- ---- the features behind the login

bound_by : {A X : Type 0} {speech : Speech A X} {P : ClientStep A X → ClientStep A X → Type 0} → IsLaw speech P → (t : ClientStep A X) → t.client.session ≡ None → P t (binds speech t)
bound_by {speech = speech} law t none =
    law.joins t (goes t phase.Binding) (binds speech t) (law.parts t (goes t phase.Binding) (goes_without phase.Binding refl none refl)) (law.parts (goes t phase.Binding) (binds speech t) (outs refl refl))

resumed_or_bound : {A X : Type 0} {speech : Speech A X} {P : ClientStep A X → ClientStep A X → Type 0} → IsLaw speech P → (t : ClientStep A X) (o : Option (SessionView A)) → t.client.session ≡ o → P t (resumes_or_binds speech t o)
resumed_or_bound law t None is = bound_by law t is
resumed_or_bound {speech = speech} law t (Some s) is =
    let stated = notes speech t (Stated s.waiting.handled) in
    law.joins t stated (resumes_or_binds speech t (Some s)) (law.parts t stated (states s is refl))
    (law.joins stated (goes stated phase.Resuming) (resumes_or_binds speech t (Some s)) (law.parts stated (goes stated phase.Resuming) (goes_with phase.Resuming refl (ap is_some is) refl))
    (law.parts (goes stated phase.Resuming) (resumes_or_binds speech t (Some s)) (outs refl refl)))

featured : {A X : Type 0} {speech : Speech A X} {P : ClientStep A X → ClientStep A X → Type 0} → IsLaw speech P → (t : ClientStep A X) (e : Elem) (read : Result Features ExtFault) → P t (features2_with speech t e read)
featured {speech = speech} {P = P} law t e (Ok features) =
    chosen P features.bind t (resumes_or_binds speech t t.client.session) (ends t peer.NoFeature) (λ _. resumed_or_bound law t t.client.session refl) (λ _. ended law t peer.NoFeature)
featured law t e (Err why) = ended law t _

pub features2_by : {A X : Type 0} {speech : Speech A X} {P : ClientStep A X → ClientStep A X → Type 0} → IsLaw speech P → (t : ClientStep A X) (e : Elem) → P t (features2_row speech t e)
features2_by law t e = featured law t e (features_read e)

-- ---- resumptions

pub counted_too_high : {A X : Type 0} {speech : Speech A X} {P : ClientStep A X → ClientStep A X → Type 0} → IsLaw speech P → (t : ClientStep A X) (fault : TooHigh) → P t (counts_too_high speech t fault)
counted_too_high {speech = speech} law t fault =
    law.joins t (left (drops speech t)) (counts_too_high speech t fault) (law.parts t (left (drops speech t)) (drops_left refl)) (law.parts (left (drops speech t)) (counts_too_high speech t fault) (outs refl refl))

attached : {A X : Type 0} {speech : Speech A X} {P : ClientStep A X → ClientStep A X → Type 0} → IsLaw speech P → (t : ClientStep A X) → IsSome t.client.session → P t (attaches speech t)
attached {speech = speech} law t some =
    law.joins t (goes t phase.Online) (attaches speech t) (law.parts t (goes t phase.Online) (goes_with phase.Online refl some refl)) (law.parts (goes t phase.Online) (attaches speech t) (outs refl refl))

resumed_by : {A X : Type 0} {speech : Speech A X} {P : ClientStep A X → ClientStep A X → Type 0} → IsLaw speech P → (t : ClientStep A X) (o : Option (SessionView A)) (h : ℕ) → t.client.session ≡ o → P t (resumed_in speech t o h)
resumed_by law t None h is = law.stays t
resumed_by {speech = speech} {P = P} law t (Some s) h is =
    chosen P (is_too_high s.waiting h) t (counts_too_high speech t (too_high s.waiting h)) (attaches speech (acknowledges speech t s h)) (λ _. counted_too_high law t (too_high s.waiting h))
    (λ low. law.joins t (acknowledges speech t s h) (attaches speech (acknowledges speech t s h)) (law.parts t (acknowledges speech t s h) (acks s h is low refl)) (attached law (acknowledges speech t s h) refl))

failed_by : {A X : Type 0} {speech : Speech A X} {P : ClientStep A X → ClientStep A X → Type 0} → IsLaw speech P → (t : ClientStep A X) → P t (failed_row speech t)
failed_by {speech = speech} law t =
    let dropped = goes (drops speech t) phase.Binding in
    law.joins t dropped (failed_row speech t) (law.parts t dropped (drops_binding refl)) (law.parts dropped (failed_row speech t) (outs refl refl))

resuming_by : {A X : Type 0} {speech : Speech A X} {P : ClientStep A X → ClientStep A X → Type 0} → IsLaw speech P → (t : ClientStep A X) (e : Elem) (read : Result (List ℕ × ℕ) ExtFault) → P t (resuming_with speech t e read)
resuming_by law t e (Ok told) = resumed_by law t t.client.session told.1 refl
resuming_by {speech = speech} {P = P} law t e (Err why) = chosen P (is_management (codes "failed") e) t (failed_row speech t) (other_element t e) (λ _. failed_by law t) (λ _. ended law t _)

pub resuming_to : {A X : Type 0} {speech : Speech A X} {P : ClientStep A X → ClientStep A X → Type 0} → IsLaw speech P → (t : ClientStep A X) (e : Elem) → P t (resuming_row speech t e)
resuming_to law t e = resuming_by law t e (resumption_read (codes "resumed") e)

-- ---- a resource, and a session

pub binding_by : {A X : Type 0} {speech : Speech A X} {P : ClientStep A X → ClientStep A X → Type 0} → IsLaw speech P → (t : ClientStep A X) (e : Elem) → t.client.phase ≡ phase.Binding → P t (binding_row speech t e)
binding_by {speech = speech} {P = P} law t e is =
    let begun = goes (begins_epoch speech t) phase.Enabling in
    chosen P (tells_bound (stanza_of e)) t _ (other_element t e)
    (λ _. law.joins t begun _ (law.parts t begun (bound is refl)) (law.parts begun _ (outs refl refl)))
    (λ _. ended law t _)

enabling_by : {A X : Type 0} {speech : Speech A X} {P : ClientStep A X → ClientStep A X → Type 0} → IsLaw speech P → (t : ClientStep A X) (e : Elem) (read : Result Enabled ExtFault) → t.client.phase ≡ phase.Enabling → P t (enabling_with speech t e read)
enabling_by {speech = speech} {P = P} law t e (Ok told) is =
    chosen P (can_resume told) t (begins speech t told.id) (other_element t e) (λ _. law.parts t (begins speech t told.id) (enabled told.id is refl)) (λ _. ended law t _)
enabling_by {P = P} law t e (Err why) is = chosen P (is_stanza e) t t (other_element t e) (λ _. law.stays t) (λ _. ended law t _)

pub enabling_to : {A X : Type 0} {speech : Speech A X} {P : ClientStep A X → ClientStep A X → Type 0} → IsLaw speech P → (t : ClientStep A X) (e : Elem) → t.client.phase ≡ phase.Enabling → P t (enabling_row speech t e)
enabling_to law t e is = enabling_by law t e (enabled_read e) is
