-- What a client puts is read as what it means.
use Rattle.std.proofs.Common.{◌≡◌, ℕ, Bool, true, false, List, [], ◌∷◌, ◌++◌, Option, Some, None, unwrap_or, option_map, codes, decimal, refl, ap, ◌∙◌}
use Rattle.std.specs.Option.{IfSome}
use Rattle.mam_archive.specs.Ids.{id_of}
use Rattle.im_extensions.specs.Given.{is_private}
use Rattle.sim_3_items.proofs.TextsTold.{entry_again, epoch_again, n_again, name_again, number_again, query_again}
use Rattle.sim_3_items.specs.Meant.{Fits, IsEntryNumber, IsOrigin, IsRequest, requested, submitted}
use Rattle.sim_3_items.specs.Told.{entry_of_id, epoch_of_id, local_part_of, number_of_digits, number_of_id}
use Rattle.sim_3_items.specs.Ups.{up_stanza}
use Rattle.im_mam.specs.ResultSets.{set_text}
use Rattle.sm_outbox.specs.Submissions.{origin_of}
use Rattle.im_payload.specs.Shapes.{attr_or_empty}
use Rattle.im_requests.specs.Messages.{chat_elem, page_elem, queryid_text, submission_nodes}
use Rattle.im_requests.specs.Sessions.{available_item, carbons_item}
use Rattle.cmd_schedule.specs.Grammar.{is_name}
use Rattle.sim_1_applications.specs.Stanzas.{Request, Submission}
use Rattle.sim_1_applications.specs.Stanzas.Up.{Carbons, Message, Presence, Query}
use Rattle.im_stanza.proofs.WrittenAttrs.{id_written, to_written}
use Rattle.im_stanza.specs.Kinds.{message_type}
use Rattle.im_stanza.specs.Written.{unless_empty}
use Rattle.im_stanza.specs.declared.kinds.MessageKind.TheVariants.{Chat}
use Rattle.xml_trees.proofs.TidyReads.{text_of-text_node}
use Rattle.xml_trees.specs.Trees.{Nodes}

pub carbons_read : up_stanza carbons_item ≡ Carbons
carbons_read = refl

pub presence_read : up_stanza available_item ≡ Presence
presence_read = refl

-- ---- submissions

pub empty_again : (id : List ℕ) → unwrap_or (unless_empty id) [] ≡ id
empty_again [] = refl
empty_again (c ∷ cs) = refl

module _ (id to : List ℕ) (nodes : Nodes) where
  id_again : attr_or_empty (codes "id") (chat_elem id to nodes) ≡ id
  id_again = ap (λ (o : Option (List ℕ)). unwrap_or o []) (id_written None (unless_empty id) (Some to) (Some (message_type Chat)) (unless_empty [])) ∙ empty_again id

  to_again : attr_or_empty (codes "to") (chat_elem id to nodes) ≡ to
  to_again = ap (λ (o : Option (List ℕ)). unwrap_or o []) (to_written None (unless_empty id) (Some to) (Some (message_type Chat)) (unless_empty []))

private_again : (id text : List ℕ) (private : Bool) → is_private (submission_nodes id text private) ≡ private
private_again id text true = refl
private_again id text false = refl

module _ (resource domain : List ℕ) (m : Submission) (is : IsOrigin resource m.epoch m.n) (named : is_name m.to ≡ true) where
  abbrev origin : List ℕ
  origin = origin_of resource m.epoch m.n

  abbrev address : List ℕ
  address = m.to ++ 64 ∷ domain

  abbrev nodes : Nodes
  nodes = submission_nodes origin m.text m.private

  pub submission_read : up_stanza (submitted resource domain m) ≡ Message m
  submission_read =
      let epoch = ap epoch_of_id (id_again origin address nodes) ∙ epoch_again resource m.epoch m.n is in
      let n = ap number_of_id (id_again origin address nodes) ∙ n_again resource m.epoch m.n is in
      let to = ap local_part_of (to_again origin address nodes) ∙ name_again m.to domain named in
      let text = text_of-text_node m.text in
      let private = private_again origin m.text m.private in
      λ i. Message (record { epoch = epoch i; n = n i; to = to i; text = text i; private = private i })

-- ---- requests

module _ (queryid : List ℕ) (max : ℕ) where
  position_again : (after : Option ℕ) → IfSome after IsEntryNumber → option_map entry_of_id (set_text (codes "after") (page_elem queryid (option_map id_of after) max)) ≡ after
  position_again None is = refl
  position_again (Some n) is = ap (λ t. Some (entry_of_id t)) (text_of-text_node (id_of n)) ∙ ap Some (entry_again n is)

  max_again : (after : Option ℕ) → Fits max → number_of_digits (unwrap_or (set_text (codes "max") (page_elem queryid (option_map id_of after) max)) []) ≡ max
  max_again None fits = ap number_of_digits (text_of-text_node (decimal max)) ∙ number_again max fits
  max_again (Some n) fits = ap number_of_digits (text_of-text_node (decimal max)) ∙ number_again max fits

pub request_read : (r : Request) → IsRequest r → up_stanza (requested r) ≡ Query r
request_read r is =
    let number = query_again r.number is.number_fits in
    let after = position_again (queryid_text r.number) r.max r.after is.position in
    let max = max_again (queryid_text r.number) r.max r.after is.max_fits in
    λ i. Query (record { number = number i; after = after i; max = max i })
