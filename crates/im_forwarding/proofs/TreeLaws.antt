-- What is passed on is a tree.
use Rattle.std.proofs.Common.{◌≡◌, ℕ, Bool, true, false, List, [], ◌∷◌, Option, Some, None, codes, refl, sym, ap, ◌∙◌, subst}
use Rattle.std.specs.Prelude.{cond}
use Rattle.mam_archive.specs.Entries.{EntryView}
use Rattle.mam_archive.specs.Ids.{id_of}
use Rattle.mam_archive.specs.declared.entry.Body.{Body}
use Rattle.im_extensions.specs.Carbons.{carbon_elem}
use Rattle.im_extensions.specs.Forwarding.{forwarded_elem}
use Rattle.im_extensions.specs.Given.{is_given_by}
use Rattle.im_extensions.specs.Ids.{stanza_id_elem}
use Rattle.im_forwarding.specs.Copies.{CopyView, copied_elem, copy_elem, copy_message}
use Rattle.im_forwarding.specs.Passed.{id_node, passed_elem, passed_message, passed_nodes}
use Rattle.im_forwarding.specs.Results.{AskerView, archived_elem, archived_message, archived_result, body_elem, entry_elem, entry_nodes, origin_node}
use Rattle.im_mam.specs.ArchiveAnswers.{result_elem}
use Rattle.im_messages.specs.Ids.{without_ids}
use Rattle.im_payload.proofs.WhereLemmas.{attr_stays}
use Rattle.im_payload.proofs.Written.{after_text}
use Rattle.im_payload.specs.Names.{archive}
use Rattle.im_stamp.specs.Dates.{stamp_at}
use Rattle.im_stanza.proofs.WrittenAttrs.{attrs_stay}
use Rattle.im_stanza.proofs.WrittenLaws.{message_stays}
use Rattle.im_stanza.specs.Names.{client_ns, xml_ns}
use Rattle.im_stanza.specs.Views.{MessageView}
use Rattle.im_stanza.specs.Written.{attr_where, attrs_written, message_elem, unless_empty}
use Rattle.xml_trees.proofs.TidyLaws.{tidied_IsTree, tidied_after_AreTidy, tidied_stays}
use Rattle.xml_trees.proofs.TidySteps.{two_steps}
use Rattle.xml_trees.specs.Attributes.{attribute, sorted_attributes}
use Rattle.xml_trees.specs.Tidied.{inner_tidied, texts_joined, tidied, tidied_nodes}
use Rattle.xml_trees.specs.Trees.{AreTidy, Elem, IsTree, Nodes, NoTextFirst, element, no_nodes, child, text, joined}

-- what tidying leaves as it is keeps the rule
stays_IsTree : (e : Elem) → tidied e ≡ e → IsTree e
stays_IsTree e stays = subst IsTree stays (tidied_IsTree e)

message_IsTree : (m : MessageView) → AreTidy m.payload → IsTree (message_elem m)
message_IsTree m tidy = stays_IsTree (message_elem m) (message_stays m tidy)

-- ---- a message that is passed on

-- a child that is kept was a tree already
kept_child : (given : Bool) (e : Elem) (was kept : Nodes) → tidied e ≡ e → inner_tidied kept ≡ kept → inner_tidied (cond given kept (child e kept)) ≡ cond given kept (child e kept)
kept_child true e was kept tree rest = rest
kept_child false e was kept tree rest = λ i. child (tree i) (rest i)

kept_stay : (by : List ℕ) (ks : Nodes) → AreTidy ks → inner_tidied (without_ids by ks) ≡ without_ids by ks
kept_stay by no_nodes tidy = refl
kept_stay by (child e rest) tidy = kept_child (is_given_by by e) e rest (without_ids by rest) (tidied_stays e tidy.0) (kept_stay by rest tidy.1)
kept_stay by (text t rest) tidy = ap (text t) (kept_stay by rest tidy.2)

kept_AreTidy : (by : List ℕ) (ks : Nodes) → AreTidy ks → AreTidy (texts_joined [] (without_ids by ks))
kept_AreTidy by ks tidy =
    subst AreTidy (sym (two_steps [] (without_ids by ks)) ∙ ap (texts_joined []) (kept_stay by ks tidy)) (tidied_after_AreTidy [] (without_ids by ks))

no_text_after : (ks : Nodes) (e : Elem) → NoTextFirst ks → NoTextFirst (joined ks (child e no_nodes))
no_text_after no_nodes e first = tt
no_text_after (child f rest) e first = tt
no_text_after (text t rest) e first = first

with_child : (ks : Nodes) (e : Elem) → AreTidy ks → IsTree e → AreTidy (joined ks (child e no_nodes))
with_child no_nodes e tidy tree = (tree, tt)
with_child (child f rest) e tidy tree = (tidy.0, with_child rest e tidy.1 tree)
with_child (text t rest) e tidy tree = (tidy.0, no_text_after rest e tidy.1, with_child rest e tidy.2 tree)

with_none : (ks : Nodes) → AreTidy ks → AreTidy (joined ks no_nodes)
with_none no_nodes tidy = tt
with_none (child f rest) tidy = (tidy.0, with_none rest tidy.1)
with_none (text t rest) tidy = (tidy.0, only_them rest tidy.1, with_none rest tidy.2)
  where
    only_them : (ks : Nodes) → NoTextFirst ks → NoTextFirst (joined ks no_nodes)
    only_them no_nodes first = tt
    only_them (child e more) first = tt
    only_them (text u more) first = first

passed_AreTidy : (by : List ℕ) (number : Option ℕ) (payload : Nodes) → AreTidy payload → AreTidy (passed_nodes by number payload)
passed_AreTidy by None payload tidy = with_none (texts_joined [] (without_ids by payload)) (kept_AreTidy by payload tidy)
passed_AreTidy by (Some number) payload tidy =
    let id = stanza_id_elem (record { id = id_of number; by = by }) in
    with_child (texts_joined [] (without_ids by payload)) id (kept_AreTidy by payload tidy) (stays_IsTree id refl)

pub passed_IsTree : (by : List ℕ) (number : Option ℕ) (m : MessageView) → AreTidy m.payload → IsTree (passed_elem by number m)
passed_IsTree by number m tidy = message_IsTree (passed_message by number m) (passed_AreTidy by number m.payload tidy)

-- ---- a copy

copied_stays : (sent : Bool) (stamp : List ℕ) (message : Elem) → IsTree message → tidied (carbon_elem sent (forwarded_elem stamp message)) ≡ carbon_elem sent (forwarded_elem stamp message)
copied_stays sent stamp message tree = ap (λ e. carbon_elem sent (forwarded_elem stamp e)) (tidied_stays message tree)

pub copy_IsTree : (c : CopyView) (full : List ℕ) → AreTidy c.message.payload → IsTree (copy_elem c full)
copy_IsTree c full tidy =
    let inside = stays_IsTree (copied_elem c) (copied_stays c.sent (stamp_at c.moment) (passed_elem c.by c.number c.message) (passed_IsTree c.by c.number c.message tidy)) in
    message_IsTree (copy_message c full) (inside, tt)

-- ---- a result

body_stays : (b : Body) → tidied (body_elem b) ≡ body_elem b
body_stays b = λ i. element client_ns (codes "body") (attr_stays xml_ns (codes "lang") (unless_empty b.lang) i) (after_text b.text i)

origin_stays : (origin : List ℕ) → tidied_nodes (origin_node origin) ≡ origin_node origin
origin_stays [] = refl
origin_stays (c ∷ cs) = refl

entry_stays : (bodies : List Body) (origin : List ℕ) → tidied_nodes (entry_nodes bodies origin) ≡ entry_nodes bodies origin
entry_stays [] origin = origin_stays origin
entry_stays (b ∷ bs) origin = λ i. child (body_stays b i) (entry_stays bs origin i)

archived_IsTree : (e : EntryView) → IsTree (archived_elem e)
archived_IsTree e = message_IsTree (archived_message e) (subst AreTidy (entry_stays e.bodies e.origin) (tidied_after_AreTidy [] (entry_nodes e.bodies e.origin)))

queryid_stays : (queryid id : List ℕ) → sorted_attributes (attribute [] (codes "id") id ∷ attr_where [] (codes "queryid") (unless_empty queryid)) ≡ attribute [] (codes "id") id ∷ attr_where [] (codes "queryid") (unless_empty queryid)
queryid_stays [] id = refl
queryid_stays (c ∷ cs) id = refl

result_stays : (queryid id stamp : List ℕ) (message : Elem) → IsTree message → tidied (result_elem queryid id (forwarded_elem stamp message)) ≡ result_elem queryid id (forwarded_elem stamp message)
result_stays queryid id stamp message tree = λ i. element archive (codes "result") (queryid_stays queryid id i) (child (forwarded_elem stamp (tidied_stays message tree i)) no_nodes)

pub entry_IsTree : (a : AskerView) (e : EntryView) → IsTree (entry_elem a e)
entry_IsTree a e =
    stays_IsTree (entry_elem a e)
    (λ i. element client_ns (codes "message") (attrs_stay (Some a.by) None (Some a.full) None None i) (child (result_stays a.queryid (id_of e.number) (stamp_at e.stamp) (archived_elem e) (archived_IsTree e) i) no_nodes))
