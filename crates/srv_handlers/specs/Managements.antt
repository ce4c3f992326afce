-- The rows on the acknowledgement of stanzas (XEP-0198, sections 3 and 4).
use Rattle.std.specs.Prelude.{ℕ, Bool, true, false, if◌then◌else◌, List, [], ◌∷◌, Option, Some, None, Result, Ok, Err}
use Rattle.std.specs.Option.{option_map}
use Rattle.sm_acks.specs.declared.end.TooHigh.{TooHigh}
use Rattle.sm_live.specs.Sessions.{ack_answer, session_of}
use Rattle.sm_live.specs.declared.told.SessionInfo.{SessionInfo}
use Rattle.im_replies.specs.Management.{ack_item, enabled_item, refused_item, resumable_item}
use Rattle.im_replies.specs.Streams.{too_high_item}
use Rattle.srv_state.specs.State.{ServerState}
use Rattle.srv_state.specs.Steps.{Act, Acknowledge, Ask, Enable, Say}
use Rattle.srv_state.specs.Streams.{parting}
use Rattle.sm_resumption.specs.declared.answers.TheConstants.{RESUMABLE_SECONDS}
use Rattle.im_stanza.specs.declared.conditions.Condition.{Condition}
use Rattle.im_stanza.specs.declared.conditions.Condition.TheVariants.{UnexpectedRequest}
use Rattle.xml_writer.specs.Items.{ItemOut}

abbrev pub refusing : {A : Type 0} → (ItemOut → A) → ℕ → Condition → List (Act A)
refusing say k condition = Say k (say (refused_item condition)) ∷ []

-- ---- Bound: `enable`, `r` and `a`

abbrev pub enabled_as : ℕ → Bool → ItemOut
enabled_as n true = resumable_item n RESUMABLE_SECONDS
enabled_as n false = enabled_item

-- `enable` (section 3), which comes once
abbrev pub at_enable : {A : Type 0} → (ItemOut → A) → ℕ → Bool → SessionInfo → List (Act A)
at_enable say k resume t =
    if t.counted then refusing say k UnexpectedRequest else Enable t.number resume ∷ Say k (say (enabled_as t.number resume)) ∷ []

-- `r` (section 4)
abbrev pub at_request : {A : Type 0} → (ItemOut → A) → ℕ → SessionInfo → List (Act A)
at_request say k t = if t.counted then Say k (say (ack_item t.handled)) ∷ [] else refusing say k UnexpectedRequest

-- a count that is too high ends the stream
abbrev pub acknowledging : {A : Type 0} → (ItemOut → A) → ℕ → ℕ → ℕ → Option (Result ℕ TooHigh) → List (Act A)
acknowledging say k n h None = []
acknowledging say k n h (Some (Ok more)) = Acknowledge n h ∷ Ask n false ∷ []
acknowledging say k n h (Some (Err why)) = parting say k (say (too_high_item why.h why.send_count))

-- `a` (section 4)
abbrev pub at_ack : {A : Type 0} → (ItemOut → A) → ℕ → ℕ → SessionInfo → ServerState A → List (Act A)
at_ack say k h t server_state =
    if t.counted then acknowledging say k t.number h (option_map (ack_answer h) (session_of t.number server_state.sessions))
    else refusing say k UnexpectedRequest
