-- Counts that the server states, where a session may stand.
use Rattle.std.proofs.Common.{◌≡◌, ℕ, Bool, true, false, List, Option, Some, None, IsSome, ap, refl, sym, ◌∙◌, if◌then◌else◌}
use Rattle.sm_acks.specs.declared.end.TooHigh.{TooHigh}
use Rattle.cl_handlers.specs.AckRows.{acknowledges, counts_too_high}
use Rattle.cl_handlers.specs.Acks.{ack_in, acknowledges_in, resent_in, too_high_in}
use Rattle.cl_handlers.specs.Clients.{ClientStep}
use Rattle.cl_handlers.specs.SessionRows.{attaches, queue_in, resumed_in}
use Rattle.cl_handlers.specs.Speech.{in_bytes}
use Rattle.sm_outbox.specs.Sessions.{SessionView}
use Rattle.sm_outbox.specs.Waiting.{Waiting, is_too_high, too_high}

abbrev T : Type 0
T = ClientStep (List ℕ) ℕ

abbrev S : Type 0
S = SessionView (List ℕ)

-- ---- the judgement of a count

pub high_in : (w : Waiting (List ℕ)) (h : ℕ) (fault : TooHigh) → is_too_high w h ≡ true → fault ≡ too_high w h → Some fault ≡ (if is_too_high w h then Some (too_high w h) else None)
high_in w h fault high is = rw (high, is) refl

pub fits_in : (w : Waiting (List ℕ)) (h : ℕ) → is_too_high w h ≡ false → None ≡ (if is_too_high w h then Some (too_high w h) else None)
fits_in w h fits = rw fits refl

pub never_high : (w : Waiting (List ℕ)) (h : ℕ) → is_too_high w h ≡ true → (if is_too_high w h then Some (too_high w h) else None) ≡ None → ⊥
never_high w h high none = by (is_too_high w h) high none
  where
    by : (c : Bool) → c ≡ true → (if c then Some (too_high w h) else None) ≡ None → ⊥
    by true high none = cc none
    by false high none = cc high

-- ---- what comes of it

high_row : (high : Bool) (t other : T) (fault found : TooHigh) → (if high then Some fault else None) ≡ Some found → counts_too_high in_bytes t found ≡ (if high then counts_too_high in_bytes t fault else other)
high_row true t other fault found e = let is : found ≡ fault = cc e in ap (counts_too_high in_bytes t) is
high_row false t other fault found e = absurd (cc e)

taken_row : (high : Bool) (taken other : T) (fault : TooHigh) → (if high then Some fault else None) ≡ None → taken ≡ (if high then other else taken)
taken_row true taken other fault e = absurd (cc e)
taken_row false taken other fault e = refl

pub ack_high : (t now : T) (o : Option S) (h : ℕ) (fault : TooHigh) → too_high_in o h ≡ Some fault → now ≡ counts_too_high in_bytes t fault → now ≡ ack_in in_bytes t o h
ack_high t now None h fault high is = absurd (cc high)
ack_high t now (Some s) h fault high is = is ∙ high_row (is_too_high s.waiting h) t (acknowledges in_bytes t s h) (too_high s.waiting h) fault high

pub ack_taken : (t now : T) (o : Option S) (h : ℕ) → too_high_in o h ≡ None → now ≡ acknowledges_in in_bytes t o h → now ≡ ack_in in_bytes t o h
ack_taken t now None h fits is = is
ack_taken t now (Some s) h fits is = is ∙ taken_row (is_too_high s.waiting h) (acknowledges in_bytes t s h) (counts_too_high in_bytes t (too_high s.waiting h)) (too_high s.waiting h) fits

-- ---- resumptions

pub resumed_high : (t now : T) (o : Option S) (h : ℕ) (fault : TooHigh) → too_high_in o h ≡ Some fault → now ≡ counts_too_high in_bytes t fault → now ≡ resumed_in in_bytes t o h
resumed_high t now None h fault high is = absurd (cc high)
resumed_high t now (Some s) h fault high is = is ∙ high_row (is_too_high s.waiting h) t (attaches in_bytes (acknowledges in_bytes t s h)) (too_high s.waiting h) fault high

-- what waits behind the acknowledgement is what is put again
pub queue_after : (t acked : T) (o : Option S) (h : ℕ) → t.client.session ≡ o → acked ≡ acknowledges_in in_bytes t o h → resent_in o h ≡ queue_in acked.client.session
queue_after t acked None h there is = sym (ap (λ (u : T). queue_in u.client.session) is ∙ ap queue_in there)
queue_after t acked (Some s) h there is = sym (ap (λ (u : T). queue_in u.client.session) is)

pub attached : (t acked now : T) (o : Option S) (h : ℕ) → IsSome o → too_high_in o h ≡ None → acked ≡ acknowledges_in in_bytes t o h → now ≡ attaches in_bytes acked → now ≡ resumed_in in_bytes t o h
attached t acked now None h some fits is done = absurd (cc some)
attached t acked now (Some s) h some fits is done =
    done ∙ ap (attaches in_bytes) is ∙ taken_row (is_too_high s.waiting h) (attaches in_bytes (acknowledges in_bytes t s h)) (counts_too_high in_bytes t (too_high s.waiting h)) (too_high s.waiting h) fits
