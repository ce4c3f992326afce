-- What the user calls: dial, gone, forget, close, say, catch_up.
use Rattle.std.specs.Prelude.{ℕ, nat_lt, nat_le, Bool, true, ◌||◌, not, List, Option, Some, None, Result, Ok, Err, length, if◌then◌else◌, is_some}
use Rattle.cl_handlers.specs.Clients.{ClientStep, ClientView}
use Rattle.cl_core.specs.Feeds.{Fed}
use Rattle.cl_handlers.specs.LoginSteps.{follows}
use Rattle.cl_core.specs.PageRows.{begins_page, requests}
use Rattle.cl_handlers.specs.Speech.{Speech}
use Rattle.cl_handlers.specs.ClientSteps.{drops, left, puts_footer}
use Rattle.cl_core.specs.declared.faults.CatchUpStart.{CatchUpStart}
use Rattle.cl_core.specs.declared.faults.CatchUpStart.TheVariants as start
use Rattle.cl_core.specs.declared.faults.SayFault.{SayFault}
use Rattle.cl_core.specs.declared.faults.SayFault.TheVariants as say
use Rattle.cl_login.specs.LoginRows.{begin_row}
use Rattle.xml_framer.specs.Limits.{client_limits}
use Rattle.xml_framer.specs.States.{from_start}
use Rattle.sm_outbox.specs.Sessions.{SessionView}
use Rattle.sm_outbox.specs.Submissions.{next_number, origin_of, said_of, with_said}
use Rattle.sm_outbox.specs.declared.said.Said.{Said}
use Rattle.im_requests.specs.Messages.{submission_item}
use Rattle.xml_tokens.specs.Characters.{are_characters}
use Rattle.xml_writer.specs.Items.{ItemOut}

-- ---- connections

-- an earlier connection is left, and a header goes out on the new one
abbrev pub dials : {A X : Type 0} → Speech A X → List ℕ → Fed A X → Fed A X
dials speech entropy f = record {
  framer = Some (from_start client_limits);
  turn = follows speech (left f.turn) (begin_row f.turn.client.account.login.domain entropy);
}

abbrev pub leaves : {A X : Type 0} → Fed A X → Fed A X
leaves f = record { framer = None; turn = left f.turn }

-- the session ends too
abbrev pub forgets : {A X : Type 0} → Speech A X → Fed A X → Fed A X
forgets speech f = record { framer = None; turn = drops speech (left f.turn) }

-- the footer goes out where a connection stands (RFC 6120, section 4.4), and the session ends
abbrev pub closes : {A X : Type 0} → Speech A X → Fed A X → Fed A X
closes speech f = forgets speech (record f { turn = puts_footer speech f.turn })

-- ---- submissions

-- so many stanzas may wait where the user adds one
abbrev pub outbox_bound : ℕ
outbox_bound = 1000

-- empty, longer than 10,000 bytes, or with a character that XML lacks (XML 1.0, section 2.2)
abbrev pub is_bad_text : List ℕ → Bool
is_bad_text text = nat_lt (length text) 1 || (nat_lt 10000 (length text) || not (are_characters text))

abbrev pub say_in : {A : Type 0} → ClientView A → Option (SessionView A) → Result ℕ SayFault
say_in c None = Err say.NotBound
say_in c (Some s) = if nat_le outbox_bound (length s.waiting.queue) then Err say.OutboxFull else Ok (next_number c.n)

-- the number of the submission, or why there is none, in this order
abbrev pub say_answer : {A : Type 0} → ClientView A → List ℕ → Result ℕ SayFault
say_answer c text = if is_bad_text text then Err say.BadText else say_in c c.session

abbrev pub submission_of : {A : Type 0} → ClientView A → List ℕ → List ℕ → Bool → ItemOut
submission_of c to text private = submission_item (origin_of c.account.resource c.epoch (next_number c.n)) to text private

abbrev pub submits : {A X : Type 0} → Speech A X → ClientStep A X → Option (SessionView A) → A → Said → ClientStep A X
submits speech t None stanza said = t
submits speech t (Some s) stanza said =
    requests speech (record t { client = record t.client { n = said.n; said = with_said t.client.said said } }) s stanza true

abbrev pub says : {A X : Type 0} → Speech A X → ClientStep A X → List ℕ → List ℕ → Bool → ClientStep A X
says speech t to text private =
    submits speech t t.client.session (speech.say (submission_of t.client to text private)) (said_of t.client.epoch t.client.n to text private)

-- ---- catching up

abbrev pub catch_up_in : {A : Type 0} → ClientView A → Option (SessionView A) → Result (Unit {0}) CatchUpStart
catch_up_in c None = Err start.NotBound
catch_up_in c (Some s) =
    if nat_le outbox_bound (length s.waiting.queue) then Err start.OutboxFull
    else (if is_some c.log.page then Err start.Underway else Ok tt)

abbrev pub catch_up_answer : {A : Type 0} → ClientView A → Result (Unit {0}) CatchUpStart
catch_up_answer c = catch_up_in c c.session

abbrev pub catches_up_in : {A X : Type 0} → Speech A X → ClientStep A X → Option (SessionView A) → ℕ → ClientStep A X
catches_up_in speech t None max = t
catches_up_in speech t (Some s) max = begins_page speech t s max

abbrev pub catches_up : {A X : Type 0} → Speech A X → ClientStep A X → ℕ → ClientStep A X
catches_up speech t max = catches_up_in speech t t.client.session max
