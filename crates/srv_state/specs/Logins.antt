-- The rows of a login (RFC 6120, section 6; RFC 5802).
use Rattle.std.specs.Prelude.{ℕ, Bool, List, [], ◌∷◌, Option, Some, None, Result, Ok, Err}
use Rattle.std.specs.Option.{option_and_then, option_map}
use Rattle.srv_login.specs.Negotiations.{LoginView, auth_answer, condition_name, final_answer}
use Rattle.srv_login.specs.declared.negotiation.AuthAnswer.{AuthAnswer}
use Rattle.srv_login.specs.declared.negotiation.AuthAnswer.TheVariants as auth
use Rattle.srv_login.specs.declared.negotiation.Negotiation.{Negotiation}
use Rattle.srv_login.specs.declared.sasl_condition.SaslCondition.{SaslCondition}
use Rattle.srv_login.specs.declared.sasl_condition.SaslCondition.TheVariants.{Aborted}
use Rattle.im_replies.specs.Sasl.{challenge_item, failure_item, success_item}
use Rattle.im_replies.specs.Streams.{error_item}
use Rattle.im_replies.specs.declared.conditions.StreamCondition.TheVariants.{NotAuthorized, PolicyViolation}
use Rattle.srv_state.specs.State.{ServerState, conn_at}
use Rattle.srv_state.specs.Steps.{Act, Enter, Fail, Say}
use Rattle.srv_state.specs.Streams.{at_any, ending, parting}
use Rattle.srv_state.specs.declared.connection.Connection.{Connection}
use Rattle.srv_state.specs.declared.connection.Phase.{Phase}
use Rattle.srv_state.specs.declared.connection.Phase.TheVariants as phase
use Rattle.srv_state.specs.declared.connection.Standing.{Standing}
use Rattle.srv_state.specs.declared.connection.Tries.{Tries}
use Rattle.srv_state.specs.declared.connection.Tries.TheVariants as tries
use Rattle.srv_state.specs.declared.word.Word.{Word}
use Rattle.srv_state.specs.declared.word.Word.TheVariants as word
use Rattle.xml_trees.specs.Trees.{Elem}
use Rattle.xml_writer.specs.Items.{ItemOut}

-- ---- failures (section 6.4.5)

-- the third of a stream ends it
abbrev pub failing : {A : Type 0} → (ItemOut → A) → ℕ → SaslCondition → Tries → List (Act A)
failing say k why tries.Three = Say k (say (failure_item (condition_name why))) ∷ Fail k tries.Two ∷ []
failing say k why tries.Two = Say k (say (failure_item (condition_name why))) ∷ Fail k tries.One ∷ []
failing say k why tries.One = Say k (say (failure_item (condition_name why))) ∷ parting say k (say (error_item PolicyViolation))

-- ---- the messages of a login

-- the challenge, or why there is none (section 6.4.2)
abbrev pub beginning : {A : Type 0} → (ItemOut → A) → ℕ → Tries → AuthAnswer → List (Act A)
beginning say k left (auth.Begins n) = Say k (say (challenge_item n.exchange.message)) ∷ Enter k (phase.Challenge n) ∷ []
beginning say k left (auth.Fails why) = failing say k why left

-- the success, or why there is none (sections 6.4.3 and 6.4.6)
abbrev pub finishing : {A : Type 0} → (ItemOut → A) → ℕ → Tries → Result LoginView SaslCondition → List (Act A)
finishing say k left (Ok login) = Say k (say (success_item login.message)) ∷ Enter k (phase.Restart login.account) ∷ []
finishing say k left (Err why) = failing say k why left

-- Login: `auth`
abbrev pub at_auth : {A : Type 0} → (ItemOut → A) → ℕ → Elem → Standing → ServerState A → List (Act A)
at_auth say k e st h = beginning say k st.tries (auth_answer e st.entropy h.accounts)

-- the exchange in hand
abbrev pub negotiation_in : Phase → Option Negotiation
negotiation_in (phase.Challenge n) = Some n
negotiation_in p = None

abbrev pub negotiation_of : Connection → Option Negotiation
negotiation_of c = negotiation_in c.phase

abbrev pub negotiation_at : {A : Type 0} → ℕ → ServerState A → Option Negotiation
negotiation_at k h = option_and_then negotiation_of (conn_at k h)

abbrev pub answering : {A : Type 0} → (ItemOut → A) → ℕ → Tries → Option (Result LoginView SaslCondition) → List (Act A)
answering say k left None = []
answering say k left (Some answer) = finishing say k left answer

-- Challenge: `response`
abbrev pub at_response : {A : Type 0} → (ItemOut → A) → ℕ → Elem → Standing → ServerState A → List (Act A)
at_response say k e st h = answering say k st.tries (option_map (final_answer e) (negotiation_at k h))

-- ---- the phases

-- Login, Challenge: `abort` (section 6.4.4), a stanza, and what no phase awaits
abbrev pub at_login_other : {A : Type 0} → (ItemOut → A) → ℕ → Word → Standing → ServerState A → List (Act A)
at_login_other say k word.Abort st h = failing say k Aborted st.tries
at_login_other say k (word.Stanza long read) st h = ending say k NotAuthorized st h
at_login_other say k w st h = at_any say k w st h

abbrev pub at_login : {A : Type 0} → (ItemOut → A) → ℕ → Word → Standing → ServerState A → List (Act A)
at_login say k (word.Auth e bad) st h = at_auth say k e st h
at_login say k w st h = at_login_other say k w st h

abbrev pub at_challenge : {A : Type 0} → (ItemOut → A) → ℕ → Word → Standing → ServerState A → List (Act A)
at_challenge say k (word.Response e bad) st h = at_response say k e st h
at_challenge say k w st h = at_login_other say k w st h
