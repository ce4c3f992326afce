-- What an item is to the server.
use Rattle.std.specs.Prelude.{ℕ, List, [], Option, Some, None, codes, unwrap_or, if◌then◌else◌}
use Rattle.std.specs.Option.{option_map}
use Rattle.im_extensions.specs.Given.{is_private}
use Rattle.sim_3_items.specs.Told.{entry_of_id, epoch_of_id, local_part_of, number_of_digits, number_of_id, query_of_id}
use Rattle.im_mam.specs.ResultSets.{set_text}
use Rattle.im_payload.specs.Names.{archive}
use Rattle.im_payload.specs.Shapes.{attr_or_empty, child_text_or_empty}
use Rattle.sim_1_applications.specs.Stanzas.{Request, Submission, Up}
use Rattle.sim_1_applications.specs.Stanzas.Up.{Carbons, Message, Presence, Query}
use Rattle.im_stanza.specs.Names.{client_ns}
use Rattle.xml_trees.specs.Readers.{child_of, is_named}
use Rattle.xml_trees.specs.Trees.{Elem, nodes_of}
use Rattle.xml_writer.specs.Items.{Closing, ItemOut, Opening, Whole}

abbrev pub submission_with : List ℕ → List ℕ → Elem → Submission
submission_with id to e = record {
  epoch = epoch_of_id id;
  n = number_of_id id;
  to = local_part_of to;
  text = child_text_or_empty client_ns (codes "body") e;
  private = is_private (nodes_of e);
}

abbrev pub submission_of : Elem → Submission
submission_of e = submission_with (attr_or_empty (codes "id") e) (attr_or_empty (codes "to") e) e

-- a request by the id of its `iq`, and its query
abbrev pub request_of : List ℕ → Elem → Request
request_of id query = record {
  number = query_of_id id;
  after = option_map entry_of_id (set_text (codes "after") query);
  max = number_of_digits (unwrap_or (set_text (codes "max") query) []);
}

abbrev pub asked : List ℕ → Option Elem → Up
asked id None = Carbons
asked id (Some query) = Query (request_of id query)

abbrev pub up_elem : Elem → Up
up_elem e =
    if is_named client_ns (codes "message") e then Message (submission_of e)
    else (if is_named client_ns (codes "iq") e then asked (attr_or_empty (codes "id") e) (child_of archive (codes "query") e) else Presence)

abbrev pub up_stanza : ItemOut → Up
up_stanza (Whole e) = up_elem e
up_stanza (Opening h) = Presence
up_stanza Closing = Presence
