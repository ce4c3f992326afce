-- What is noted down of a session (XEP-0198, sections 3 to 5), and what a session has then.
use Rattle.std.specs.Prelude.{◌≡◌, ℕ, ◌+◌, ◌%◌, ◌^◌, ◌≤◌, List, [], ◌∷◌, ◌++◌, Option, Some, None, IsSomeAnd, length, drop}
use Rattle.std.specs.Option.{option_map}
use Rattle.cl_handlers.specs.Clients.{ClientStep}
use Rattle.cl_handlers.specs.Speech as speech
use Rattle.cl_handlers.specs.Speech.{Note}
use Rattle.sm_outbox.specs.Sessions.{SessionView}

-- how many of the server's stanzas were handled, modulo 2 ^ 32, and the stanzas that wait
pub record Ends (A : Type 0) : Type 0 where
  pub handled : ℕ
  pub queue : List A

abbrev pub ends_of : {A : Type 0} → SessionView A → Ends A
ends_of s = record { handled = s.waiting.handled; queue = s.waiting.queue }

-- ---- what comes of a note

abbrev pub handles_one : {A : Type 0} → Ends A → Ends A
handles_one e = record e { handled = (e.handled + 1) % 2 ^ 32 }

abbrev pub puts_one : {A : Type 0} → A → Ends A → Ends A
puts_one stanza e = record e { queue = e.queue ++ stanza ∷ [] }

abbrev pub lets_go : {A : Type 0} → ℕ → Ends A → Ends A
lets_go count e = record e { queue = drop count e.queue }

abbrev pub after_note : {A : Type 0} → Note A → Option (Ends A) → Option (Ends A)
after_note (speech.Epoch epoch) o = o
after_note speech.Counted o = Some (record { handled = 0; queue = [] })
after_note (speech.Handled tree) o = option_map handles_one o
after_note (speech.Put stanza) o = option_map (puts_one stanza) o
after_note (speech.Stated h) o = o
after_note (speech.Acknowledged count) o = option_map (lets_go count) o
after_note speech.Ended o = None

-- a count that is stated is that of the stanzas that were handled, and no more are acknowledged than wait
abbrev pub IsDue : {A : Type 0} → Note A → Option (Ends A) → Type 0
IsDue (speech.Stated h) o = IsSomeAnd o (λ e. e.handled ≡ h)
IsDue (speech.Acknowledged count) o = IsSomeAnd o (λ e. count ≤ length e.queue)
IsDue _ o = Unit {0}

-- the notes lead, one after the other, from the one to the other
abbrev pub Lead : {A : Type 0} → List (Note A) → Option (Ends A) → Option (Ends A) → Type 0
Lead [] first last = last ≡ first
Lead (note ∷ notes) first last = IsDue note first × Lead notes (after_note note first) last

-- behind the notes stand others, which lead from the session that stood to the one that stands
pub record IsNoted {A X : Type 0} (old new : ClientStep A X) : Type 0 where
  pub more : List (Note A)
  pub notes : new.out.notes ≡ old.out.notes ++ more
  pub lead : Lead more (option_map ends_of old.client.session) (option_map ends_of new.client.session)
