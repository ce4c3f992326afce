-- The row on resumption (XEP-0198, section 5).
use Rattle.std.specs.Prelude.{ℕ, nat_le, Bool, true, false, List, [], ◌∷◌, Option, Some, None, Result, Ok, Err, length}
use Rattle.sm_live.specs.Sessions.{Session, resent, resume_answer, session_resumed}
use Rattle.im_replies.specs.Management.{request_item, resumed_item}
use Rattle.im_replies.specs.Streams.{error_item, too_high_item}
use Rattle.im_replies.specs.declared.conditions.StreamCondition.TheVariants as stream
use Rattle.sm_resumption.specs.declared.answers.ResumeFault.{ResumeFault}
use Rattle.sm_resumption.specs.declared.answers.ResumeFault.TheVariants.{TooHigh, UnknownPrevid}
use Rattle.sm_resumption.specs.declared.answers.ResumeOk.{ResumeOk}
use Rattle.srv_handlers.specs.Managements.{refusing}
use Rattle.srv_state.specs.State.{ServerState}
use Rattle.srv_state.specs.Steps.{Act, Ask, Close, Resume, Say}
use Rattle.srv_state.specs.Streams.{parting_where}
use Rattle.srv_state.specs.declared.limits.TheConstants.{ASKS_AT}
use Rattle.im_stanza.specs.declared.conditions.Condition.TheVariants.{ItemNotFound}
use Rattle.xml_writer.specs.Items.{Closing, ItemOut}

abbrev pub resent_where : {A : Type 0} → ℕ → Option (Session A) → List A
resent_where h None = []
resent_where h (Some t) = resent h t

-- each, in order, and then more
abbrev pub saying : {A : Type 0} → ℕ → List A → List (Act A) → List (Act A)
saying k [] more = more
saying k (a ∷ items) more = Say k a ∷ saying k items more

-- an `r`, where as many stanzas wait
abbrev pub asking : {A : Type 0} → (ItemOut → A) → ℕ → ℕ → Bool → List (Act A)
asking say k n true = Ask n true ∷ Say k (say request_item) ∷ []
asking say k n false = []

-- The session is on this connection, or ends where the count is too high; the connection that it had is told so. What still
-- waits goes out in order.
abbrev pub resuming : {A : Type 0} → (ItemOut → A) → ℕ → ℕ → List ℕ → ℕ → Result ResumeOk ResumeFault → List A → List (Act A)
resuming say k account previd h (Err UnknownPrevid) waiting = refusing say k ItemNotFound
resuming say k account previd h (Err (TooHigh stated send_count former)) waiting =
    Resume previd account h k
    ∷ Say k (say (too_high_item stated send_count)) ∷ Say k (say Closing) ∷ Close k
    ∷ parting_where say former (say (error_item stream.Conflict)) []
resuming say k account previd h (Ok resumed) waiting =
    Resume previd account h k ∷ Ask resumed.number false
    ∷ parting_where say resumed.former (say (error_item stream.Conflict))
    (Say k (say (resumed_item resumed.number resumed.handled)) ∷ saying k waiting (asking say k resumed.number (nat_le ASKS_AT (length waiting))))

abbrev pub at_resume : {A : Type 0} → (ItemOut → A) → ℕ → ℕ → List ℕ → ℕ → ServerState A → List (Act A)
at_resume say k account previd h server_state =
    resuming say k account previd h (resume_answer h (session_resumed previd account server_state.sessions)) (resent_where h (session_resumed previd account server_state.sessions))
