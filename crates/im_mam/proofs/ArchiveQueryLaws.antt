-- The query of an archive: what is read is exact, and what is written is a tree and read back.
use Rattle.std.proofs.Common.{◌≡◌, ◌≢◌, ℕ, ◌<◌, ◌≤◌, ◌^◌, true, List, [], ◌∷◌, Option, Some, None, is_none, is_some, option_map, codes, refl, sym, ap, ◌∙◌, subst, arith, append-nil}
use Rattle.std.specs.Fmt.{decimal}
use Rattle.std.specs.Result.{result_ok}
use Rattle.im_payload.proofs.CheckLemmas.{right_after, right_refused, right_test, right_value, same_value, wrong_front}
use Rattle.im_extensions.proofs.ForwardingLaws.{moment_low, stamp_again}
use Rattle.im_payload.proofs.Numbers.{optional_fits, written_number}
use Rattle.im_payload.proofs.WhereLemmas.{attr_stays, more_stays}
use Rattle.im_payload.proofs.Written.{after_text}
use Rattle.im_payload.specs.Names.{archive, data_forms, result_sets}
use Rattle.im_mam.specs.ArchiveQuery.{IsFiltered, IsLimited, IsMamQuery, IsStampWhere, WritesMamQuery, form_checks, form_elem, has_known_fields, is_for_archive, is_query, limit_elem, max_in, optional_address, optional_moment, place_item, position_in, position_of, query_checks, query_elem, set_checks}
use Rattle.im_payload.specs.Checks.{IsExactBy, IsFirstWrong, first_wrong}
use Rattle.im_mam.specs.DataForms.{field_value, field_where, form_of, form_type_elem, value_in}
use Rattle.im_payload.specs.Faults.{IsFault}
use Rattle.im_payload.specs.Moments.{moment_in}
use Rattle.im_mam.specs.ResultSets.{elem_text, set_child, set_item_where, set_text}
use Rattle.im_payload.specs.Shapes.{attr_or_empty, number_below, optional_number}
use Rattle.im_mam.specs.declared.archive_query.MamQuery.{MamQuery}
use Rattle.im_payload.specs.declared.fault.ExtFault.{ExtFault}
use Rattle.im_payload.specs.declared.fault.ExtFault.TheVariants.{NotThis, Bad, NoMemory}
use Rattle.im_payload.specs.declared.fault.Field.TheVariants as field
use Rattle.xml_trees.proofs.TidyReads.{text_of-text_node}
use Rattle.xml_trees.specs.Attributes.{attribute}
use Rattle.xml_trees.specs.Readers.{child_of, text_of}
use Rattle.xml_trees.specs.Tidied.{text_node, tidied, tidied_nodes}
use Rattle.xml_trees.specs.Trees.{Elem, element, no_nodes, child, joined}
use Rattle.mam_pages.specs.declared.query.PagePosition.{PagePosition}
use Rattle.mam_pages.specs.declared.query.PagePosition.TheVariants.{First, After, Before, Last}
use Rattle.im_stanza.specs.Errors.{trees_where}
use Rattle.im_stanza.specs.Written.{IsNormal, unless_empty}
use Rattle.im_mam.proofs.FinLaws.{item_stays}

-- ---- what is written is a tree

field_stays : (name : List ℕ) (given : Option (List ℕ)) → option_map tidied (field_where name given) ≡ field_where name given
field_stays name None = refl
field_stays name (Some t) = ap Some (λ i. element data_forms (codes "field") (attribute [] (codes "var") name ∷ []) (child (element data_forms (codes "value") [] (after_text t i)) no_nodes))

form_type_stays : tidied_nodes (child (form_type_elem archive) no_nodes) ≡ child (form_type_elem archive) no_nodes
form_type_stays = refl

form_stays : (peer start end : Option (List ℕ)) → tidied (form_elem peer start end) ≡ form_elem peer start end
form_stays peer start end =
    let one = child (form_type_elem archive) no_nodes in
    let two = joined one (trees_where (field_where (codes "with") peer)) in
    let three = joined two (trees_where (field_where (codes "start") start)) in
    let two_stay = more_stays one (field_where (codes "with") peer) form_type_stays (field_stays (codes "with") peer) in
    let three_stay = more_stays two (field_where (codes "start") start) two_stay (field_stays (codes "start") start) in
    let all = more_stays three (field_where (codes "end") end) three_stay (field_stays (codes "end") end) in
    ap (element data_forms (codes "x") (attribute [] (codes "type") (codes "submit") ∷ [])) all

position_stays : (position : PagePosition) → option_map tidied (place_item position) ≡ place_item position
position_stays First = refl
position_stays (After id) = item_stays (codes "after") (Some id)
position_stays (Before id) = item_stays (codes "before") (Some id)
position_stays Last = refl

limit_stays : (position : PagePosition) (max : Option ℕ) → tidied (limit_elem position max) ≡ limit_elem position max
limit_stays position max =
    let one = more_stays no_nodes (place_item position) refl (position_stays position) in
    ap (element result_sets (codes "set") []) (more_stays (trees_where (place_item position)) (set_item_where (codes "max") (option_map decimal max)) one (item_stays (codes "max") (option_map decimal max)))

query_stays : (v : MamQuery) (e : Elem) → WritesMamQuery v e → tidied e ≡ e
query_stays v e w =
    let form : tidied w.form ≡ w.form = ap tidied w.form_is.shape ∙ form_stays v.query.peer w.form_is.start w.form_is.end ∙ sym w.form_is.shape in
    ap tidied w.shape
    ∙ (λ i. element archive (codes "query") (attr_stays [] (codes "queryid") (unless_empty v.queryid) i) (child (form i) (child (limit_stays v.query.position v.query.max i) no_nodes)))
    ∙ sym w.shape

pub query_tree : (v : MamQuery) (e tree : Elem) → WritesMamQuery v e → tree ≡ tidied e → WritesMamQuery v tree
query_tree v e tree w is = subst (WritesMamQuery v) (sym (is ∙ query_stays v e w)) w

-- ---- and read back

-- the form

module _ (start end : Option (List ℕ)) where
  peer_again : (peer : Option (List ℕ)) → value_in (codes "with") (form_elem peer start end) ≡ peer
  peer_again (Some p) = ap Some (text_of-text_node p)
  peer_again None = without start end
    where
      without : (start end : Option (List ℕ)) → value_in (codes "with") (form_elem None start end) ≡ None
      without None None = refl
      without None (Some t) = refl
      without (Some s) None = refl
      without (Some s) (Some t) = refl

start_again : (peer start end : Option (List ℕ)) → value_in (codes "start") (form_elem peer start end) ≡ start
start_again None None None = refl
start_again None None (Some t) = refl
start_again (Some p) None None = refl
start_again (Some p) None (Some t) = refl
start_again None (Some s) end = ap Some (text_of-text_node s)
start_again (Some p) (Some s) end = ap Some (text_of-text_node s)

end_again : (peer start end : Option (List ℕ)) → value_in (codes "end") (form_elem peer start end) ≡ end
end_again None None None = refl
end_again None None (Some t) = ap Some (text_of-text_node t)
end_again None (Some s) None = refl
end_again None (Some s) (Some t) = ap Some (text_of-text_node t)
end_again (Some p) None None = refl
end_again (Some p) None (Some t) = ap Some (text_of-text_node t)
end_again (Some p) (Some s) None = refl
end_again (Some p) (Some s) (Some t) = ap Some (text_of-text_node t)

known_again : (peer start end : Option (List ℕ)) → has_known_fields (Some (form_elem peer start end)) ≡ true
known_again None None None = refl
known_again None None (Some t) = refl
known_again None (Some s) None = refl
known_again None (Some s) (Some t) = refl
known_again (Some p) None None = refl
known_again (Some p) None (Some t) = refl
known_again (Some p) (Some s) None = refl
known_again (Some p) (Some s) (Some t) = refl

address_again : (peer : Option (List ℕ)) → IsNormal peer → optional_address peer ≡ Some peer
address_again None stays = refl
address_again (Some p) stays = ap (λ r. option_map Some (result_ok r)) stays

moment_again : (given : Option (List ℕ)) (ms : Option ℕ) (text : Option (List ℕ)) → optional_moment given ≡ Some ms → IsStampWhere ms text → optional_moment text ≡ Some ms
moment_again given None None is spelled = refl
moment_again given None (Some t) is spelled = absurd spelled
moment_again given (Some ms) None is spelled = absurd spelled
moment_again given (Some ms) (Some t) is spelled = ap (option_map Some) (stamp_again ms t (given_low given ms is) spelled)
  where
    inside : (o : Option ℕ) (n : ℕ) → option_map Some o ≡ Some (Some n) → o ≡ Some n
    inside None n is = absurd (let p = is in cc)
    inside (Some m) n is = same_value (Some m) (Some n) is

    given_low : (given : Option (List ℕ)) (ms : ℕ) → optional_moment given ≡ Some (Some ms) → ms ≤ 253402207200000
    given_low None ms is = absurd (let p = same_value None (Some ms) is in cc)
    given_low (Some t) ms is = moment_low (Some t) ms (inside (moment_in (Some t)) ms is)

-- the set

abbrev limit_text : List ℕ → PagePosition → Option ℕ → Option (List ℕ)
limit_text name position max = option_map elem_text (child_of result_sets name (limit_elem position max))

position_again : (position : PagePosition) (max : Option ℕ) → position ≢ Before [] → position_of (limit_text (codes "after") position max) (limit_text (codes "before") position max) ≡ Some position
position_again First None some = refl
position_again First (Some m) some = refl
position_again (After id) None some = ap (λ t. Some (After t)) (text_of-text_node id)
position_again (After id) (Some m) some = ap (λ t. Some (After t)) (text_of-text_node id)
position_again (Before []) max some = absurd (some refl)
position_again (Before (c ∷ cs)) None some = ap (λ t. Some (Before t)) (append-nil (c ∷ cs))
position_again (Before (c ∷ cs)) (Some m) some = ap (λ t. Some (Before t)) (append-nil (c ∷ cs))
position_again Last None some = refl
position_again Last (Some m) some = refl

before_some : (after before : Option (List ℕ)) → position_of after before ≡ Some (Before []) → ⊥
before_some None None is = let p = is in cc
before_some (Some id) None is = let p = is in cc
before_some None (Some []) is = let p = is in cc
before_some None (Some (c ∷ cs)) is = let p = is in cc
before_some (Some a) (Some b) is = let p = is in cc

spelled_max : (m : ℕ) → m < 2 ^ 32 → optional_number (2 ^ 32) (Some (text_of (text_node (decimal m)))) ≡ Some (Some m)
spelled_max m low = ap (λ t. option_map Some (number_below (2 ^ 32) t)) (text_of-text_node (decimal m)) ∙ ap (option_map Some) (written_number (2 ^ 32) m (omega arith) low)

max_again : (position : PagePosition) (max : Option ℕ) → ((m : ℕ) → max ≡ Some m → m < 2 ^ 32) → optional_number (2 ^ 32) (limit_text (codes "max") position max) ≡ Some max
max_again First None low = refl
max_again (After id) None low = refl
max_again (Before id) None low = refl
max_again Last None low = refl
max_again First (Some m) low = spelled_max m (low m refl)
max_again (After id) (Some m) low = spelled_max m (low m refl)
max_again (Before id) (Some m) low = spelled_max m (low m refl)
max_again Last (Some m) low = spelled_max m (low m refl)

index_again : (position : PagePosition) (max : Option ℕ) → is_none (child_of result_sets (codes "index") (limit_elem position max)) ≡ true
index_again First None = refl
index_again (After id) None = refl
index_again (Before id) None = refl
index_again Last None = refl
index_again First (Some m) = refl
index_again (After id) (Some m) = refl
index_again (Before id) (Some m) = refl
index_again Last (Some m) = refl

-- the query

queryid_again : (queryid : List ℕ) (form set : Elem) → queryid ≡ attr_or_empty (codes "queryid") (query_elem queryid form set)
queryid_again [] form set = refl
queryid_again (c ∷ cs) form set = refl

query_again : (e : Elem) (v : MamQuery) (start end : Option (List ℕ)) → IsMamQuery e v → IsStampWhere v.query.start start → IsStampWhere v.query.end end
    → IsMamQuery (query_elem v.queryid (form_elem v.query.peer start end) (limit_elem v.query.position v.query.max)) v
query_again e v start end is at_start at_end =
    let filtered = is.filtered in
    let limited = is.limited in record {
      named = refl;
      queryid = queryid_again v.queryid (form_elem v.query.peer start end) (limit_elem v.query.position v.query.max);
      filtered = record {
        for_archive = refl;
        known = known_again v.query.peer start end;
        peer_is = ap optional_address (peer_again start end v.query.peer) ∙ address_again v.query.peer filtered.peer_stays;
        peer_stays = filtered.peer_stays;
        start_is = ap optional_moment (start_again v.query.peer start end) ∙ moment_again (field_value (codes "start") e) v.query.start start filtered.start_is at_start;
        end_is = ap optional_moment (end_again v.query.peer start end) ∙ moment_again (field_value (codes "end") e) v.query.end end filtered.end_is at_end;
      };
      limited = record {
        position_is = position_again v.query.position v.query.max (λ before. before_some (set_text (codes "after") e) (set_text (codes "before") e) (limited.position_is ∙ ap Some before));
        max_is = max_again v.query.position v.query.max (λ m there. optional_fits (2 ^ 32) (set_text (codes "max") e) m (limited.max_is ∙ ap Some there));
        no_index = index_again v.query.position v.query.max;
      };
    }

query_back : (e written : Elem) (v : MamQuery) → IsMamQuery e v → WritesMamQuery v written → IsMamQuery written v
query_back e written v is w =
    let shape = w.shape ∙ ap (λ form. query_elem v.queryid form (limit_elem v.query.position v.query.max)) w.form_is.shape in
    subst (λ t. IsMamQuery t v) (sym shape) (query_again e v w.form_is.start w.form_is.end is w.form_is.start_spelled w.form_is.end_spelled)

query_one : (e : Elem) (v w : MamQuery) → IsMamQuery e v → IsMamQuery e w → v ≡ w
query_one e v w a b i =
    record {
      queryid = (a.queryid ∙ sym b.queryid) i;
      query = record {
        peer = same_value v.query.peer w.query.peer (sym a.filtered.peer_is ∙ b.filtered.peer_is) i;
        start = same_value v.query.start w.query.start (sym a.filtered.start_is ∙ b.filtered.start_is) i;
        end = same_value v.query.end w.query.end (sym a.filtered.end_is ∙ b.filtered.end_is) i;
        position = same_value v.query.position w.query.position (sym a.limited.position_is ∙ b.limited.position_is) i;
        max = same_value v.query.max w.query.max (sym a.limited.max_is ∙ b.limited.max_is) i;
      };
    }

-- ---- no field of it is wrong

pub form_right : (e : Elem) (peer : Option (List ℕ)) (start end : Option ℕ) → IsFiltered e peer start end → first_wrong (form_checks e) ≡ None
form_right e peer start end is =
    let ends = (is_some (optional_moment (field_value (codes "end") e)), field.End) ∷ [] in
    let starts = (is_some (optional_moment (field_value (codes "start") e)), field.Start) ∷ ends in
    let peers = (is_some (optional_address (field_value (codes "with") e)), field.Peer) ∷ starts in
    let others = (has_known_fields (form_of e), field.UnknownField) ∷ peers in
    right_test (is_for_archive (form_of e)) field.FormType others is.for_archive
    (right_test (has_known_fields (form_of e)) field.UnknownField peers is.known
    (right_value (optional_address (field_value (codes "with") e)) peer field.Peer starts is.peer_is
    (right_value (optional_moment (field_value (codes "start") e)) start field.Start ends is.start_is
    (right_value (optional_moment (field_value (codes "end") e)) end field.End [] is.end_is refl))))

set_right : (e : Elem) (position : PagePosition) (max : Option ℕ) → IsLimited e position max → first_wrong (set_checks e) ≡ None
set_right e position max is =
    let index = (is_none (set_child (codes "index") e), field.UnknownField) ∷ [] in
    right_value (position_in e) position field.PagePosition ((is_some (max_in e), field.Max) ∷ index) is.position_is
    (right_value (max_in e) max field.Max index is.max_is (right_test (is_none (set_child (codes "index") e)) field.UnknownField [] is.no_index refl))

query_right : (e : Elem) (v : MamQuery) → IsMamQuery e v → first_wrong (query_checks e) ≡ None
query_right e v is =
    right_after (form_checks e) (set_checks e) (form_right e v.query.peer v.query.start v.query.end is.filtered) ∙ set_right e v.query.position v.query.max is.limited

pub query_exact : IsExactBy is_query query_checks IsMamQuery WritesMamQuery
query_exact = record {
  one = query_one;
  refused = λ e v fault is. right_refused (is_query e) (query_checks e) fault is.named (query_right e v is);
  read_back = λ e written v tree is w. query_back e written v is w;
}

-- ---- faults of its parts

pub form_fault : (e : Elem) (fault : ExtFault) → is_query e ≡ true → IsFault true (IsFirstWrong (form_checks e)) fault → IsFault (is_query e) (IsFirstWrong (query_checks e)) fault
form_fault e NotThis named wrong = absurd (let p = wrong in cc)
form_fault e (Bad f) named wrong = (named, wrong_front (form_checks e) (set_checks e) f wrong.1)
form_fault e NoMemory named wrong = tt

pub set_fault : (e : Elem) (fault : ExtFault) → is_query e ≡ true → first_wrong (form_checks e) ≡ None → IsFault true (IsFirstWrong (set_checks e)) fault → IsFault (is_query e) (IsFirstWrong (query_checks e)) fault
set_fault e NotThis named right wrong = absurd (let p = wrong in cc)
set_fault e (Bad f) named right wrong = (named, right_after (form_checks e) (set_checks e) right ∙ wrong.1)
set_fault e NoMemory named right wrong = tt
