-- What the server answers to a request for a page is read as what it means.
use Rattle.std.proofs.Common.{◌≡◌, ℕ, suc, ◌-◌, Bool, true, false, List, [], ◌∷◌, length, Option, Some, None, unwrap_or, option_map, codes, decimal, refl, ap, ◌∙◌, arith, if◌then◌else◌}
use Rattle.std.specs.List.{AllByRecursion, slice_get}
use Rattle.std.specs.Option.{IfSome}
use Rattle.mam_archive.specs.Entries.{EntryView}
use Rattle.mam_archive.specs.Ids.{id_of}
use Rattle.im_forwarding.specs.Queries.{no_such_place}
use Rattle.im_forwarding.specs.Results.{AskerView, entry_elem, entry_item, fin_item}
use Rattle.sim_3_items.proofs.TextsTold.{entry_again, number_again, query_again}
use Rattle.sim_3_items.specs.Downs.{down_elem, down_stanza}
use Rattle.sim_3_items.specs.Meant.{Fits, IsEntryNumber, IsPage}
use Rattle.sim_3_items.specs.Told.{entry_of_id, is_error, number_of_digits, query_of_id}
use Rattle.im_mam.specs.ArchiveAnswers.{fin_elem, fin_elem_with, fin_elem_without_index}
use Rattle.im_mam.specs.ResultSets.{set_text}
use Rattle.mam_pages.specs.Cuts.{CutView, fin_of}
use Rattle.mam_pages.specs.declared.fin.Fin.{Fin as End}
use Rattle.im_payload.specs.Names.{archive}
use Rattle.im_payload.specs.Shapes.{attr_or_empty, flag}
use Rattle.im_payload.specs.Writing.{flag_text}
use Rattle.im_replies.specs.Requests.{EnvelopeView, iq_error_item, result_item}
use Rattle.im_requests.specs.Messages.{queryid_text}
use Rattle.sim_1_applications.specs.Answers.{last_in}
use Rattle.sim_1_applications.specs.Stanzas.Down.{Accepted, Fin, NotFound, Res}
use Rattle.im_stanza.proofs.WrittenAttrs.{id_written, type_written}
use Rattle.im_stanza.specs.Answering.{iq_error_elem}
use Rattle.im_stanza.specs.Kinds.{iq_type}
use Rattle.im_stanza.specs.Stanzas.{attr_named}
use Rattle.im_stanza.specs.Written.{attr_where}
use Rattle.im_stanza.specs.declared.kinds.IqKind.TheVariants as iq
use Rattle.xml_trees.proofs.TidyReads.{text_of-text_node}
use Rattle.xml_trees.specs.Trees.{Elem, Nodes, child, element, no_nodes, nodes_of}

-- ---- one entry

pub entry_read : (a : AskerView) (e : EntryView) (q : ℕ) → a.queryid ≡ queryid_text q → Fits q → IsEntryNumber e.number → down_stanza (entry_item a e) ≡ Res q e.number
entry_read a e q is fits entry =
    let query = query_again q fits in
    let number = entry_again e.number entry in
    ap (λ id. down_elem (entry_elem (record a { queryid = id }) e)) is ∙ (λ i. Res (query i) (number i))

-- ---- the end

complete_again : (complete : Bool) (nodes : Nodes) → flag (attr_named (codes "complete") (element archive (codes "fin") (attr_where [] (codes "complete") (flag_text complete)) nodes)) ≡ complete
complete_again true nodes = refl
complete_again false nodes = refl

-- with the place of its first entry, where that is told
abbrev ended : Option ℕ → Bool → Option (List ℕ) → Option (List ℕ) → ℕ → Elem
ended index complete first last count = fin_elem_with index (record { complete = complete; first = first; first_index = 0; last = last; count = count })

module _ (complete : Bool) (index : Option ℕ) (count : ℕ) where
  last_again : (first last : Option (List ℕ)) → set_text (codes "last") (ended index complete first last count) ≡ last
  last_again None None = refl
  last_again None (Some t) = ap Some (text_of-text_node t)
  last_again (Some id) None = refl
  last_again (Some id) (Some t) = ap Some (text_of-text_node t)

  count_again : (first last : Option (List ℕ)) → set_text (codes "count") (ended index complete first last count) ≡ Some (decimal count)
  count_again None None = ap Some (text_of-text_node (decimal count))
  count_again None (Some t) = ap Some (text_of-text_node (decimal count))
  count_again (Some id) None = ap Some (text_of-text_node (decimal count))
  count_again (Some id) (Some t) = ap Some (text_of-text_node (decimal count))

pub last_position : (ns : List ℕ) → slice_get ns (length ns - 1) ≡ last_in ns
last_position [] = refl
last_position (n ∷ []) = refl
last_position (n ∷ m ∷ ns) =
    let whole : length (n ∷ m ∷ ns) - 1 ≡ suc (length (m ∷ ns) - 1) = omega arith in
    ap (slice_get (n ∷ m ∷ ns)) whole ∙ last_position (m ∷ ns)

last_fits : (ns : List ℕ) → AllByRecursion IsEntryNumber ns → IfSome (last_in ns) IsEntryNumber
last_fits [] all = tt
last_fits (n ∷ []) all = all.0
last_fits (n ∷ m ∷ ns) all = last_fits (m ∷ ns) all.1

ids_again : (o : Option ℕ) → IfSome o IsEntryNumber → option_map entry_of_id (option_map id_of o) ≡ o
ids_again None is = refl
ids_again (Some n) is = ap Some (entry_again n is)

module _ (a : EnvelopeView) (cut : CutView) (q : ℕ) (is : a.id ≡ queryid_text q) (fits : Fits q) (page : IsPage cut) where
  abbrev end : End
  end = fin_of cut

  end_with : (index : Option ℕ) → down_stanza (result_item a (child (fin_elem_with index end) no_nodes)) ≡ Fin q cut.complete (last_in cut.numbers) cut.count
  end_with index =
      let id = ap (λ (o : Option (List ℕ)). unwrap_or o []) (id_written a.from (Some a.id) a.to (Some (iq_type iq.Result)) None) ∙ is in
      let query = ap query_of_id id ∙ query_again q fits in
      let complete = complete_again cut.complete (nodes_of (fin_elem_with index end)) in
      let last =
      ap (option_map entry_of_id) (last_again cut.complete index cut.count end.first end.last)
      ∙ ap (λ o. option_map entry_of_id (option_map id_of o)) (last_position cut.numbers) ∙ ids_again (last_in cut.numbers) (last_fits cut.numbers page.entries) in
      let count = ap (λ (o : Option (List ℕ)). number_of_digits (unwrap_or o [])) (count_again cut.complete index cut.count end.first end.last) ∙ number_again cut.count page.count_fits in
      λ i. Fin (query i) (complete i) (last i) (count i)

  pub end_read : down_stanza (fin_item a cut) ≡ Fin q cut.complete (last_in cut.numbers) cut.count
  end_read = by cut.backward
    where
      by : (backward : Bool) → down_stanza (result_item a (child (if backward then fin_elem_without_index end else fin_elem end) no_nodes)) ≡ Fin q cut.complete (last_in cut.numbers) cut.count
      by true = end_with None
      by false = end_with (Some cut.first_index)

-- ---- a place that isn't there

pub not_found_read : (a : EnvelopeView) (q : ℕ) → a.id ≡ queryid_text q → Fits q → down_stanza (iq_error_item a no_such_place) ≡ NotFound q
not_found_read a q is fits =
    let e = iq_error_elem a.from a.to a.id no_such_place in
    let id = ap (λ (o : Option (List ℕ)). unwrap_or o []) (id_written a.from (Some a.id) a.to (Some (iq_type iq.Error)) None) ∙ is in
    ap (λ kind. if is_error kind then NotFound (query_of_id (attr_or_empty (codes "id") e)) else Accepted) (type_written a.from (Some a.id) a.to (Some (iq_type iq.Error)) None)
    ∙ ap (λ t. NotFound (query_of_id t)) id ∙ ap NotFound (query_again q fits)
