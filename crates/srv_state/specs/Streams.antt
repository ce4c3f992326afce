-- How a stream begins and ends (RFC 6120, sections 4.3 to 4.9).
use Rattle.std.specs.Prelude.{ℕ, Bool, true, false, List, [], ◌∷◌, Option, Some, None}
use Rattle.std.specs.Option.{option_map}
use Rattle.srv_login.specs.Headers.{header_answer}
use Rattle.srv_login.specs.declared.header_judgement.HeaderAnswer.{HeaderAnswer}
use Rattle.srv_login.specs.declared.header_judgement.HeaderAnswer.TheVariants.{Opens, Refused}
use Rattle.srv_login.specs.declared.header_judgement.HeaderFault.{HeaderFault}
use Rattle.srv_login.specs.declared.header_judgement.HeaderFault.TheVariants as header
use Rattle.xml_names.specs.declared.headers.Header.{Header}
use Rattle.im_replies.specs.Streams.{error_item, header_item, login_features_item, session_features_item}
use Rattle.im_replies.specs.declared.conditions.StreamCondition.{StreamCondition}
use Rattle.im_replies.specs.declared.conditions.StreamCondition.TheVariants as stream
use Rattle.srv_state.specs.State.{ServerState, conn_at}
use Rattle.srv_state.specs.Steps.{Act, Close, Enter, Say}
use Rattle.srv_state.specs.declared.connection.Connection.{Connection}
use Rattle.srv_state.specs.declared.connection.Phase.{Phase}
use Rattle.srv_state.specs.declared.connection.Phase.TheVariants as phase
use Rattle.srv_state.specs.declared.connection.Stage.{Stage}
use Rattle.srv_state.specs.declared.connection.Stage.TheVariants as stage
use Rattle.srv_state.specs.declared.connection.Standing.{Standing}
use Rattle.srv_state.specs.declared.word.Word.{Word}
use Rattle.srv_state.specs.declared.word.Word.TheVariants as word
use Rattle.xml_writer.specs.Items.{Closing, ItemOut}

-- ---- where a connection stands

abbrev pub stage_of : Phase → Stage
stage_of phase.Start = stage.Start
stage_of phase.Login = stage.Login
stage_of (phase.Challenge n) = stage.Challenge
stage_of (phase.Restart account) = stage.Restart account
stage_of (phase.Ready account) = stage.Ready account

abbrev pub standing_of : Connection → Standing
standing_of c = record { stage = stage_of c.phase; tries = c.tries; entropy = c.entropy }

abbrev pub standing_at : {A : Type 0} → ℕ → ServerState A → Option Standing
standing_at k h = option_map standing_of (conn_at k h)

-- ---- ends

-- the footer, and the connection is shut (section 4.4)
abbrev pub closing : {A : Type 0} → (ItemOut → A) → ℕ → List (Act A)
closing say k = Say k (say Closing) ∷ Close k ∷ []

-- the same behind these words
abbrev pub parting : {A : Type 0} → (ItemOut → A) → ℕ → A → List (Act A)
parting say k error = Say k error ∷ closing say k

-- the same of a connection where there is one, and then more
abbrev pub parting_where : {A : Type 0} → (ItemOut → A) → Option ℕ → A → List (Act A) → List (Act A)
parting_where say None error more = more
parting_where say (Some k) error more = Say k error ∷ Say k (say Closing) ∷ Close k ∷ more

abbrev pub ending_in : {A : Type 0} → (ItemOut → A) → ℕ → StreamCondition → Stage → List ℕ → ServerState A → List (Act A)
ending_in say k condition stage.Start entropy h = Say k (say (header_item h.domain k entropy)) ∷ parting say k (say (error_item condition))
ending_in say k condition s entropy h = parting say k (say (error_item condition))

-- a stream error ends the stream, behind the header where that wasn't put (section 4.9.1)
abbrev pub ending : {A : Type 0} → (ItemOut → A) → ℕ → StreamCondition → Standing → ServerState A → List (Act A)
ending say k condition st h = ending_in say k condition st.stage st.entropy h

-- ---- headers

abbrev pub header_condition : HeaderFault → StreamCondition
header_condition header.InvalidNamespace = stream.InvalidNamespace
header_condition header.UnsupportedVersion = stream.UnsupportedVersion
header_condition header.HostUnknown = stream.HostUnknown

-- the stream opens: the header, and what can be negotiated (section 4.3.2)
abbrev pub opening : {A : Type 0} → (ItemOut → A) → ℕ → List ℕ → Stage → ServerState A → List (Act A)
opening say k entropy (stage.Restart account) h =
    Say k (say (header_item h.domain k entropy)) ∷ Say k (say session_features_item) ∷ Enter k (phase.Ready account) ∷ []
opening say k entropy s h = Say k (say (header_item h.domain k entropy)) ∷ Say k (say login_features_item) ∷ Enter k phase.Login ∷ []

abbrev pub answering_header : {A : Type 0} → (ItemOut → A) → ℕ → Standing → HeaderAnswer → ServerState A → List (Act A)
answering_header say k st Opens h = opening say k st.entropy st.stage h
answering_header say k st (Refused why) h = ending say k (header_condition why) st h

abbrev pub awaits_header : Stage → Bool
awaits_header stage.Start = true
awaits_header (stage.Restart account) = true
awaits_header s = false

abbrev pub header_in : {A : Type 0} → (ItemOut → A) → ℕ → Header → Standing → Bool → ServerState A → List (Act A)
header_in say k header st true h = answering_header say k st (header_answer h.domain header) h
header_in say k header st false h = ending say k stream.UnsupportedStanzaType st h

-- Start, Restart: a header. Elsewhere it is out of place
abbrev pub at_header : {A : Type 0} → (ItemOut → A) → ℕ → Header → Standing → ServerState A → List (Act A)
at_header say k header st h = header_in say k header st (awaits_header st.stage) h

-- ---- rows of any phase

abbrev pub field_condition : Bool → StreamCondition
field_condition true = stream.BadFormat
field_condition false = stream.UnsupportedStanzaType

-- an element that its phase doesn't await
abbrev pub at_any : {A : Type 0} → (ItemOut → A) → ℕ → Word → Standing → ServerState A → List (Act A)
at_any say k word.BadField st h = ending say k stream.BadFormat st h
at_any say k (word.Auth e bad) st h = ending say k (field_condition bad) st h
at_any say k (word.Response e bad) st h = ending say k (field_condition bad) st h
at_any say k word.StreamError st h = closing say k
at_any say k w st h = ending say k stream.UnsupportedStanzaType st h
