-- What an item is to the client.
use Rattle.std.specs.Prelude.{ℕ, List, [], Option, Some, None, codes, unwrap_or, if◌then◌else◌}
use Rattle.std.specs.Option.{option_and_then, option_map, option_or}
use Rattle.sim_3_items.specs.Told.{entry_of_id, epoch_of_id, is_error, number_of_digits, number_of_id, query_of_id}
use Rattle.im_mam.specs.ResultSets.{set_text}
use Rattle.im_payload.specs.Names.{archive, carbons, forwarding, stanza_ids}
use Rattle.im_payload.specs.Shapes.{attr_or_empty, flag}
use Rattle.sim_1_applications.specs.Stanzas.{Down}
use Rattle.sim_1_applications.specs.Stanzas.Down.{Accepted, Bounced, Fin, Live, NotFound, Res}
use Rattle.im_stanza.specs.Names.{client_ns}
use Rattle.im_stanza.specs.Stanzas.{attr_named}
use Rattle.xml_trees.specs.Readers.{child_of, is_named}
use Rattle.xml_trees.specs.Trees.{Elem}
use Rattle.xml_writer.specs.Items.{Closing, ItemOut, Opening, Whole}

-- ---- messages

-- the message in a carbon
abbrev pub message_within : Elem → Option Elem
message_within carbon = option_and_then (child_of client_ns (codes "message")) (child_of forwarding (codes "forwarded") carbon)

-- the carbon in a message
abbrev pub carbon_in : Elem → Option Elem
carbon_in e = option_or (child_of carbons (codes "received") e) (child_of carbons (codes "sent") e)

-- a message as it was sent: what a copy has of it, or this one itself
abbrev pub message_sent : Elem → Elem
message_sent e = unwrap_or (option_and_then message_within (carbon_in e)) e

-- the id that a message has in an archive (XEP-0359, section 3)
abbrev pub archived_id : Elem → List ℕ
archived_id e = unwrap_or (option_and_then (attr_named (codes "id")) (child_of stanza_ids (codes "stanza-id") e)) []

abbrev pub result_read_of : Elem → Option Elem → Down
result_read_of e None = Live (entry_of_id (archived_id (message_sent e)))
result_read_of e (Some result) = Res (query_of_id (attr_or_empty (codes "queryid") result)) (entry_of_id (attr_or_empty (codes "id") result))

-- one that came back has the id of the submission
abbrev pub bounced : List ℕ → Down
bounced id = Bounced (epoch_of_id id) (number_of_id id)

abbrev pub message_read_of : Option (List ℕ) → Elem → Down
message_read_of kind e = if is_error kind then bounced (attr_or_empty (codes "id") e) else result_read_of e (child_of archive (codes "result") e)

-- ---- answers

abbrev pub end_told : List ℕ → Elem → Down
end_told id fin =
    Fin (query_of_id id) (flag (attr_named (codes "complete") fin)) (option_map entry_of_id (set_text (codes "last") fin))
    (number_of_digits (unwrap_or (set_text (codes "count") fin) []))

abbrev pub answer_read_of : List ℕ → Option (List ℕ) → Option Elem → Down
answer_read_of id kind (Some fin) = end_told id fin
answer_read_of id kind None = if is_error kind then NotFound (query_of_id id) else Accepted

-- ---- items

abbrev pub down_elem : Elem → Down
down_elem e =
    if is_named client_ns (codes "message") e then message_read_of (attr_named (codes "type") e) e
    else answer_read_of (attr_or_empty (codes "id") e) (attr_named (codes "type") e) (child_of archive (codes "fin") e)

abbrev pub down_stanza : ItemOut → Down
down_stanza (Whole e) = down_elem e
down_stanza (Opening h) = Accepted
down_stanza Closing = Accepted
