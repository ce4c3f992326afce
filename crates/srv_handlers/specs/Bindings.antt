-- The row on the binding of a resource (RFC 6120, section 7).
use Rattle.std.specs.Prelude.{ℕ, List, [], ◌∷◌, Option, Some, None, Result, Ok, codes}
use Rattle.std.specs.Option.{option_map}
use Rattle.std.specs.Result.{result_ok}
use Rattle.base_lemmas.specs.Hexadecimal.{hex16_of}
use Rattle.im_jid.specs.Forms.{resource_form}
use Rattle.im_jid.specs.declared.fault.JidFault.{JidFault}
use Rattle.sm_live.specs.Sessions.{ended_of, session_named}
use Rattle.im_payload.specs.Names.{binding}
use Rattle.im_payload.specs.Shapes.{child_text_or_empty}
use Rattle.im_replies.specs.Requests.{bound_item, iq_error_item}
use Rattle.im_replies.specs.Streams.{error_item}
use Rattle.im_replies.specs.declared.conditions.StreamCondition.TheVariants.{Conflict}
use Rattle.sm_resumption.specs.declared.answers.Ended.{Ended}
use Rattle.srv_state.specs.State.{ServerState, full_address}
use Rattle.srv_state.specs.Steps.{Act, Bind, Say}
use Rattle.srv_state.specs.Streams.{parting_where}
use Rattle.im_stanza.specs.declared.conditions.Condition.TheVariants.{BadRequest}
use Rattle.im_stanza.specs.declared.errors.ErrorKind.TheVariants.{Modify}
use Rattle.im_stanza.specs.declared.errors.StanzaError.{StanzaError}
use Rattle.xml_trees.specs.Trees.{Elem}
use Rattle.xml_writer.specs.Items.{ItemOut}

-- the resource that is asked for, empty where the choice is the server's (sections 7.6 and 7.7)
abbrev pub asked_resource : Elem → List ℕ
asked_resource bind = child_text_or_empty binding (codes "resource") bind

-- the resource of a session: where none is asked for, `r` and the digits of its number
abbrev pub chosen : ℕ → List ℕ → Result (List ℕ) JidFault
chosen number [] = Ok (114 ∷ hex16_of number)
chosen number (b ∷ bs) = resource_form (b ∷ bs)

-- the connection of a session that ended
abbrev pub former_of : Option Ended → Option ℕ
former_of None = None
former_of (Some ended) = ended.conn

abbrev pub bad_request : StanzaError
bad_request = record { kind = Modify; condition = BadRequest }

-- the session is bound; the older one with its name ends, and its connection is told so first (section 7.7.2.2). Neither
-- answer has an address of its own
abbrev pub binding_as : {A : Type 0} → (ItemOut → A) → ℕ → ℕ → List ℕ → Option (List ℕ) → ServerState A → List (Act A)
binding_as say k account id None h = Say k (say (iq_error_item (record { from = None; to = None; id = id }) bad_request)) ∷ []
binding_as say k account id (Some resource) h =
    Bind account resource k
    ∷ parting_where say (former_of (option_map ended_of (session_named account resource h.sessions))) (say (error_item Conflict))
    (Say k (say (bound_item id (full_address account resource h))) ∷ [])

-- Ready: an `iq` of type `set` with a child `bind`
abbrev pub at_bind : {A : Type 0} → (ItemOut → A) → ℕ → ℕ → List ℕ → Elem → ServerState A → List (Act A)
at_bind say k account id bind h = binding_as say k account id (result_ok (chosen h.next (asked_resource bind))) h
