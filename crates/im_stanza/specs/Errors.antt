-- Stanza errors and stream errors (RFC 6120 sections 8.3 and 4.9).
use Rattle.std.specs.Prelude.{◌≡◌, ℕ, List, [], ◌∷◌, Option, Some, None, Result, Ok, Err, codes, if◌then◌else◌}
use Rattle.std.specs.Str.{bytes_eq}
use Rattle.xml_trees.specs.Readers.{child_of}
use Rattle.xml_trees.specs.Trees.{Elem, element, Nodes, no_nodes, child, nodes_of}
use Rattle.im_stanza.specs.Conditions.{condition_in, condition_name, condition_named, IsPlain}
use Rattle.im_stanza.specs.Kinds.{IsKindOf}
use Rattle.im_stanza.specs.Names.{client_ns, stanza_errors_ns, streams_ns, stream_errors_ns}
use Rattle.im_stanza.specs.Stanzas.{attr_named}
use Rattle.im_stanza.specs.declared.errors.ErrorKind.{ErrorKind}
use Rattle.im_stanza.specs.declared.errors.ErrorKind.TheVariants.{Auth, Cancel, Continue, Modify, Wait}
use Rattle.im_stanza.specs.declared.errors.StanzaError.{StanzaError}
use Rattle.im_stanza.specs.declared.fault.StanzaErrorFault.{StanzaErrorFault}
use Rattle.im_stanza.specs.declared.fault.StanzaErrorFault.TheVariants.{NoError}

-- the `type` of an error (RFC 6120 section 8.3.2)
abbrev pub error_type : ErrorKind → List ℕ
error_type Auth = codes "auth"
error_type Cancel = codes "cancel"
error_type Continue = codes "continue"
error_type Modify = codes "modify"
error_type Wait = codes "wait"

-- an error whose `type` is absent or unknown cancels
abbrev pub IsErrorKind : Option (List ℕ) → ErrorKind → Type 0
IsErrorKind = IsKindOf error_type Cancel

abbrev pub error_kind_named : List ℕ → ErrorKind
error_kind_named name =
    if bytes_eq name (codes "auth") then Auth
    else (if bytes_eq name (codes "continue") then Continue
    else (if bytes_eq name (codes "modify") then Modify
    else (if bytes_eq name (codes "wait") then Wait
    else Cancel)))

-- the kind of an error with this `type`
abbrev pub error_kind : Option (List ℕ) → ErrorKind
error_kind None = Cancel
error_kind (Some name) = error_kind_named name

-- The error in a stanza (RFC 6120 section 8.3.2): that of its first child `error`, whose condition is named by its first
-- child in the namespace of conditions other than `text`.
pub record IsStanzaError (tree : Elem) (e : StanzaError) : Type 0 where
  pub error : Elem
  pub first : child_of client_ns (codes "error") tree ≡ Some error
  pub kind : IsErrorKind (attr_named (codes "type") error) e.kind
  pub condition : condition_in stanza_errors_ns (nodes_of error) ≡ Some (condition_name e.condition)
  pub plain : IsPlain e.condition

-- there is no `error` child with a condition: the first one has none, or there is none
abbrev pub HasNoError : Elem → Type 0
HasNoError tree = (e : Elem) → child_of client_ns (codes "error") tree ≡ Some e → condition_in stanza_errors_ns (nodes_of e) ≡ None

-- the error in a stanza, or that there is none, as one value
abbrev pub error_with : ErrorKind → Option (List ℕ) → Result StanzaError StanzaErrorFault
error_with kind None = Err NoError
error_with kind (Some name) = Ok (record { kind = kind; condition = condition_named name })

abbrev pub error_in : Option Elem → Result StanzaError StanzaErrorFault
error_in None = Err NoError
error_in (Some e) = error_with (error_kind (attr_named (codes "type") e)) (condition_in stanza_errors_ns (nodes_of e))

abbrev pub stanza_error_of : Elem → Result StanzaError StanzaErrorFault
stanza_error_of tree = error_in (child_of client_ns (codes "error") tree)

-- the element `error` of a stanza
abbrev pub error_elem : StanzaError → Elem
error_elem e =
    element client_ns (codes "error") (record { ns = []; name = codes "type"; value = error_type e.kind } ∷ [])
    (child (element stanza_errors_ns (condition_name e.condition) [] no_nodes) no_nodes)

abbrev pub trees_where : Option Elem → Nodes
trees_where None = no_nodes
trees_where (Some tree) = child tree no_nodes

-- A stream error (RFC 6120 section 4.9.2): its condition, and what an application adds.
abbrev pub stream_error_elem : List ℕ → Option Elem → Elem
stream_error_elem condition extra =
    element streams_ns (codes "error") [] (child (element stream_errors_ns condition [] no_nodes) (trees_where extra))
