-- Forwarded messages (XEP-0297, section 3) with their delays (XEP-0203, section 4).
use Rattle.std.specs.Prelude.{◌≡◌, ℕ, Bool, true, List, [], ◌∷◌, Option, Some, None, Result, Ok, Err, codes, is_some, unwrap_or}
use Rattle.std.specs.Option.{option_and_then}
use Rattle.im_payload.specs.Bare.{bare}
use Rattle.im_payload.specs.Checks.{Check}
use Rattle.im_payload.specs.Names.{delays, forwarding}
use Rattle.im_payload.specs.Moments.{IsStampOf, moment_in}
use Rattle.im_stanza.specs.Stanzas.{attr_named}
use Rattle.im_payload.specs.declared.fault.Field.TheVariants as field
use Rattle.im_extensions.specs.declared.forwarding.Forwarded.{Forwarded}
use Rattle.xml_trees.specs.Attributes.{attribute}
use Rattle.xml_trees.specs.Readers.{child_of, is_named}
use Rattle.xml_trees.specs.Tidied.{tidied, tidied_nodes}
use Rattle.xml_trees.specs.Trees.{Elem, element, no_nodes, child}
use Rattle.im_stanza.specs.Names.{client_ns}
use Rattle.im_stanza.specs.Readings.{stanza_of}
use Rattle.im_stanza.specs.Views.{MessageView}
use Rattle.im_stanza.specs.Written.{message_elem}
use Rattle.im_stanza.specs.declared.stanzas.Stanza.{Stanza}
use Rattle.im_stanza.specs.declared.stanzas.Stanza.TheVariants.{Message, Presence, Iq}
use Rattle.im_stanza.specs.declared.fault.StanzaFault.{StanzaFault}

abbrev pub is_forwarded : Elem → Bool
is_forwarded e = is_named forwarding (codes "forwarded") e

-- the moment of a delay, which may be known for one that is absent
abbrev pub delay_moment : Option ℕ → Option Elem → Option ℕ
delay_moment absent None = absent
delay_moment absent (Some delay) = moment_in (attr_named (codes "stamp") delay)

-- that of the first child `delay`
abbrev pub moment_of_delay : Option ℕ → Elem → Option ℕ
moment_of_delay absent e = delay_moment absent (child_of delays (codes "delay") e)

-- a stanza where it is a message
abbrev pub only_message : Result Stanza StanzaFault → Option MessageView
only_message (Ok (Message m)) = Some m
only_message (Ok (Presence p)) = None
only_message (Ok (Iq q)) = None
only_message (Err fault) = None

-- the message that an element is
abbrev pub message_read : Option Elem → Option MessageView
message_read given = option_and_then (λ e. only_message (stanza_of e)) given

-- that of the first child `message`
abbrev pub message_in : Elem → Option MessageView
message_in e = message_read (child_of client_ns (codes "message") e)

-- What is forwarded in an element: when its message was sent, by its delay, and the message. `absent` is the moment where
-- there is no delay, which may be none.
pub record Forwards (absent : Option ℕ) (e : Elem) (v : Forwarded) : Type 0 where
  pub stamp : moment_of_delay absent e ≡ Some v.stamp
  pub message : message_in e ≡ Some v.message

-- the delay is judged before the message
abbrev pub forward_checks : Option ℕ → Elem → List Check
forward_checks absent e = (is_some (moment_of_delay absent e), field.Stamp) ∷ (is_some (message_in e), field.Stanza) ∷ []

-- `forwarded`, with a delay
pub record IsForwarded (e : Elem) (v : Forwarded) : Type 0 where
  pub named : is_forwarded e ≡ true
  pub inside : Forwards None e v

abbrev pub forwarded_checks : Elem → List Check
forwarded_checks e = forward_checks None e

-- the first child `forwarded` of a payload; where there is none, an empty one
abbrev pub the_forwarded : Elem → Elem
the_forwarded e = unwrap_or (child_of forwarding (codes "forwarded") e) (bare forwarding (codes "forwarded"))

-- what is written
abbrev pub delay_elem : List ℕ → Elem
delay_elem stamp = element delays (codes "delay") (attribute [] (codes "stamp") stamp ∷ []) no_nodes

abbrev pub forwarded_elem : List ℕ → Elem → Elem
forwarded_elem stamp message = element forwarding (codes "forwarded") [] (child (delay_elem stamp) (child message no_nodes))

-- The stamp is that of the moment, and the message the tree of the message, which is read as the message with its payload
-- tidied.
pub record WritesForwarded (v : Forwarded) (e : Elem) : Type 0 where
  pub stamp : List ℕ
  pub spelled : IsStampOf v.stamp stamp
  pub shape : e ≡ forwarded_elem stamp (tidied (message_elem v.message))
  pub read : stanza_of (tidied (message_elem v.message)) ≡ Ok (Message (record v.message { payload = tidied_nodes v.message.payload }))
