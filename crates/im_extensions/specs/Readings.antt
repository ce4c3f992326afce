-- What the readers of payloads answer, as functions of the element.
use Rattle.std.specs.Prelude.{ℕ, ◌^◌, List, Option, Some, None, Result, Ok, Err, codes}
use Rattle.std.specs.Option.{option_map}
use Rattle.im_extensions.specs.Bind.{is_bind}
use Rattle.im_extensions.specs.Ids.{is_origin_id, is_stanza_id}
use Rattle.im_extensions.specs.StreamManagement.{count_of, failed_condition, is_management}
use Rattle.im_extensions.specs.declared.bind.BindRequest.{BindRequest}
use Rattle.im_extensions.specs.declared.ids.OriginId.{OriginId}
use Rattle.im_extensions.specs.declared.ids.StanzaId.{StanzaId}
use Rattle.im_extensions.specs.declared.stream_management.Enabled.{Enabled}
use Rattle.im_jid.specs.Normal.{normal}
use Rattle.im_jid.specs.declared.fault.JidFault.{JidFault}
use Rattle.im_payload.specs.Names.{binding}
use Rattle.im_payload.specs.Readings.{where_this}
use Rattle.im_payload.specs.Shapes.{attr_or_empty, child_text, child_text_or_empty, flag, optional_number}
use Rattle.im_payload.specs.declared.fault.ExtFault.{ExtFault}
use Rattle.im_payload.specs.declared.fault.ExtFault.TheVariants.{Bad}
use Rattle.im_payload.specs.declared.fault.Field.TheVariants as field
use Rattle.im_stanza.specs.Conditions.{condition_named}
use Rattle.im_stanza.specs.Stanzas.{attr_named}
use Rattle.im_stanza.specs.declared.conditions.Condition.{Condition}
use Rattle.xml_trees.specs.Trees.{Elem}

-- `enabled`
abbrev pub enabled_with : Elem → Option (Option ℕ) → Result Enabled ExtFault
enabled_with e None = Err (Bad field.Max)
enabled_with e (Some max) = Ok (record { id = attr_or_empty (codes "id") e; resume = flag (attr_named (codes "resume") e); max = max })

abbrev pub enabled_read : Elem → Result Enabled ExtFault
enabled_read e = where_this (is_management (codes "enabled") e) (enabled_with e (optional_number (2 ^ 32) (attr_named (codes "max") e)))

-- `resume` and `resumed`: the id and the count; the id is judged first
abbrev pub resumption_with : Option (List ℕ) → Option ℕ → Result (List ℕ × ℕ) ExtFault
resumption_with None h = Err (Bad field.Previd)
resumption_with (Some previd) None = Err (Bad field.H)
resumption_with (Some previd) (Some h) = Ok (previd, h)

abbrev pub resumption_read : List ℕ → Elem → Result (List ℕ × ℕ) ExtFault
resumption_read name e = where_this (is_management name e) (resumption_with (attr_named (codes "previd") e) (count_of e))

-- `failed`: the condition
abbrev pub failed_with : Option (List ℕ) → Result Condition ExtFault
failed_with None = Err (Bad field.Condition)
failed_with (Some name) = Ok (condition_named name)

abbrev pub failed_read : Elem → Result Condition ExtFault
failed_read e = where_this (is_management (codes "failed") e) (failed_with (failed_condition e))

-- `bind` of a server: the address that the text of the first child `jid` spells
abbrev pub bound_with : Option (Result (List ℕ) JidFault) → Result (List ℕ) ExtFault
bound_with None = Err (Bad field.Jid)
bound_with (Some (Err why)) = Err (Bad field.Jid)
bound_with (Some (Ok jid)) = Ok jid

abbrev pub bind_result_read : Elem → Result (List ℕ) ExtFault
bind_result_read e = where_this (is_bind e) (bound_with (option_map normal (child_text binding (codes "jid") e)))

-- `bind` of a client
abbrev pub bind_request_read : Elem → Result BindRequest ExtFault
bind_request_read e = where_this (is_bind e) (Ok (record { resource = child_text_or_empty binding (codes "resource") e }))

-- `stanza-id` and `origin-id`
abbrev pub stanza_id_with : Option (List ℕ) → Option (List ℕ) → Result StanzaId ExtFault
stanza_id_with None by = Err (Bad field.Id)
stanza_id_with (Some id) None = Err (Bad field.Jid)
stanza_id_with (Some id) (Some by) = Ok (record { id = id; by = by })

abbrev pub stanza_id_read : Elem → Result StanzaId ExtFault
stanza_id_read e = where_this (is_stanza_id e) (stanza_id_with (attr_named (codes "id") e) (attr_named (codes "by") e))

abbrev pub origin_id_with : Option (List ℕ) → Result OriginId ExtFault
origin_id_with None = Err (Bad field.Id)
origin_id_with (Some id) = Ok (record { id = id })

abbrev pub origin_id_read : Elem → Result OriginId ExtFault
origin_id_read e = where_this (is_origin_id e) (origin_id_with (attr_named (codes "id") e))
