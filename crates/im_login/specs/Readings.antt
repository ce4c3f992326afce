-- What the readers of SASL's elements answer, as functions of the element.
use Rattle.std.specs.Prelude.{ℕ, List, [], Option, Some, None, Result, Ok, Err, codes, if◌then◌else◌}
use Rattle.std.specs.Str.{bytes_eq}
use Rattle.base64.specs.Engines.{standard}
use Rattle.base64.specs.GeneralPurpose.{decode_of}
use Rattle.base64.specs.declared.decode.DecodeError.{DecodeError}
use Rattle.im_payload.specs.Names.{sasl}
use Rattle.im_payload.specs.Readings.{or_bad, where_this}
use Rattle.im_payload.specs.declared.fault.ExtFault.{ExtFault}
use Rattle.im_payload.specs.declared.fault.ExtFault.TheVariants.{Bad}
use Rattle.im_payload.specs.declared.fault.Field.TheVariants as field
use Rattle.im_login.specs.Sasl.{is_sasl, mechanism_of}
use Rattle.im_stanza.specs.Conditions.{condition_in}
use Rattle.xml_trees.specs.Readers.{text_of}
use Rattle.xml_trees.specs.Trees.{Elem, nodes_of}

abbrev pub decoded : Result (List ℕ) DecodeError → Result (List ℕ) ExtFault
decoded (Ok bytes) = Ok bytes
decoded (Err why) = Err (Bad field.Payload)

-- the bytes that a text stands for
unfoldable pub payload_read : List ℕ → Result (List ℕ) ExtFault
payload_read given = if bytes_eq given (codes "=") then Ok [] else decoded (decode_of standard given)

-- those of the text directly in an element of this name
abbrev pub carrier_read : List ℕ → Elem → Result (List ℕ) ExtFault
carrier_read name e = where_this (is_sasl name e) (payload_read (text_of (nodes_of e)))

-- `auth`: the mechanism and the bytes; the mechanism is judged first
abbrev pub auth_with : Option (List ℕ) → Result (List ℕ) ExtFault → Result (List ℕ × List ℕ) ExtFault
auth_with None payload = Err (Bad field.Mechanism)
auth_with (Some mechanism) (Err fault) = Err fault
auth_with (Some mechanism) (Ok payload) = Ok (mechanism, payload)

abbrev pub auth_read : Elem → Result (List ℕ × List ℕ) ExtFault
auth_read e = where_this (is_sasl (codes "auth") e) (auth_with (mechanism_of e) (payload_read (text_of (nodes_of e))))

-- `failure`: the condition
abbrev pub failure_read : Elem → Result (List ℕ) ExtFault
failure_read e = where_this (is_sasl (codes "failure") e) (or_bad field.Condition (condition_in sasl (nodes_of e)))
