-- The end of a page: what is read is exact, and what is written is a tree and read back.
use Rattle.std.proofs.Common.{◌≡◌, ℕ, ◌<◌, ◌^◌, Bool, true, false, List, [], ◌∷◌, Option, Some, None, is_some, unwrap_or, option_and_then, option_map, codes, refl, sym, ap, ◌∙◌, subst, arith}
use Rattle.std.specs.Fmt.{decimal}
use Rattle.im_payload.proofs.CheckLemmas.{right_refused, right_value, same_value}
use Rattle.im_payload.proofs.Numbers.{spelled_fits, written_number}
use Rattle.im_payload.proofs.WhereLemmas.{attr_stays, more_stays}
use Rattle.im_payload.proofs.Written.{after_text}
use Rattle.im_mam.specs.ArchiveAnswers.{IsFin, fin_checks, fin_elem, fin_elem_with, fin_elem_without_index, first_item_where, index_in, is_fin, number_or_zero, page_elem}
use Rattle.im_payload.specs.Names.{archive, result_sets}
use Rattle.im_payload.specs.Checks.{IsExactBy, first_wrong}
use Rattle.im_mam.specs.ResultSets.{elem_text, set_child, set_item, set_item_where, set_text}
use Rattle.im_payload.specs.Shapes.{flag, number_below}
use Rattle.im_stanza.specs.Stanzas.{attr_named}
use Rattle.im_payload.specs.Writing.{flag_text}
use Rattle.mam_pages.specs.declared.fin.Fin.{Fin}
use Rattle.im_payload.specs.declared.fault.Field.TheVariants as field
use Rattle.xml_trees.specs.Tidied.{tidied}
use Rattle.xml_trees.specs.Trees.{Elem, element, no_nodes, child, joined}
use Rattle.xml_trees.proofs.TidyReads.{text_of-text_node}
use Rattle.im_stanza.specs.Errors.{trees_where}
use Rattle.im_stanza.specs.Written.{attr_where}

-- ---- what is written is a tree

first_stays : (first : Option (List ℕ)) (index : Option ℕ) → option_map tidied (first_item_where first index) ≡ first_item_where first index
first_stays None index = refl
first_stays (Some id) index = ap Some (λ i. element result_sets (codes "first") (attr_stays [] (codes "index") (option_map decimal index) i) (after_text id i))

pub item_stays : (name : List ℕ) (given : Option (List ℕ)) → option_map tidied (set_item_where name given) ≡ set_item_where name given
item_stays name None = refl
item_stays name (Some t) = ap Some (λ i. element result_sets name [] (after_text t i))

page_stays : (index : Option ℕ) (v : Fin) → tidied (page_elem index v) ≡ page_elem index v
page_stays index v =
    let first = first_item_where v.first index in
    let last = set_item_where (codes "last") v.last in
    let count = Some (set_item (codes "count") (decimal v.count)) in
    let two = more_stays (trees_where first) last (more_stays no_nodes first refl (first_stays v.first index)) (item_stays (codes "last") v.last) in
    let all = more_stays (joined (trees_where first) (trees_where last)) count two (item_stays (codes "count") (Some (decimal v.count))) in
    ap (element result_sets (codes "set") []) all

pub fin_with_stays : (index : Option ℕ) (v : Fin) → tidied (fin_elem_with index v) ≡ fin_elem_with index v
fin_with_stays index v = λ i. element archive (codes "fin") (attr_stays [] (codes "complete") (flag_text v.complete) i) (child (page_stays index v i) no_nodes)

pub fin_stays : (v : Fin) → tidied (fin_elem v) ≡ fin_elem v
fin_stays v = fin_with_stays (Some v.first_index) v

-- ---- and read back

flag_again : (b : Bool) → b ≡ flag (attr_named (codes "complete") (element archive (codes "fin") (attr_where [] (codes "complete") (flag_text b)) no_nodes))
flag_again true = refl
flag_again false = refl

-- a number that is written is read
number_again : (n : ℕ) → n < 2 ^ 64 → number_or_zero (Some (decimal n)) ≡ Some n
number_again n low = ap (λ o. option_map (λ m. unwrap_or m 0) (option_map Some o)) (written_number (2 ^ 64) n (omega arith) low)

number_low : (given : Option (List ℕ)) (n : ℕ) → number_or_zero given ≡ Some n → n < 2 ^ 64
number_low None n is = let same : 0 ≡ n = same_value 0 n is in omega (arith, same)
number_low (Some ds) n is = spelled_fits (2 ^ 64) ds n (inside (number_below (2 ^ 64) ds) n is)
  where
    inside : (o : Option ℕ) (n : ℕ) → option_map (λ m. unwrap_or m 0) (option_map Some o) ≡ Some n → o ≡ Some n
    inside None n is = absurd (let p = is in cc)
    inside (Some m) n is = is

abbrev written : Bool → Option (List ℕ) → ℕ → Option (List ℕ) → ℕ → Elem
written complete first index last count = fin_elem (record { complete = complete; first = first; first_index = index; last = last; count = count })

module _ (complete : Bool) (index count : ℕ) where
  first_again : (first last : Option (List ℕ)) → first ≡ set_text (codes "first") (written complete first index last count)
  first_again None None = refl
  first_again None (Some t) = refl
  first_again (Some id) last = ap Some (sym (text_of-text_node id))

  last_again : (first last : Option (List ℕ)) → last ≡ set_text (codes "last") (written complete first index last count)
  last_again None None = refl
  last_again None (Some t) = ap Some (sym (text_of-text_node t))
  last_again (Some id) None = refl
  last_again (Some id) (Some t) = ap Some (sym (text_of-text_node t))

  count_again : (first last : Option (List ℕ)) → set_text (codes "count") (written complete first index last count) ≡ Some (decimal count)
  count_again None None = ap Some (text_of-text_node (decimal count))
  count_again None (Some t) = ap Some (text_of-text_node (decimal count))
  count_again (Some id) None = ap Some (text_of-text_node (decimal count))
  count_again (Some id) (Some t) = ap Some (text_of-text_node (decimal count))

  index_again : (first last : Option (List ℕ)) → (first ≡ None → index ≡ 0) → index < 2 ^ 64 → number_or_zero (index_in (written complete first index last count)) ≡ Some index
  index_again None None none low = ap Some (sym (none refl))
  index_again None (Some t) none low = ap Some (sym (none refl))
  index_again (Some id) last none low = number_again index low

-- without a first item there is no place of it
no_index : (item : Option Elem) (n : ℕ) → option_map elem_text item ≡ None → number_or_zero (option_and_then (attr_named (codes "index")) item) ≡ Some n → n ≡ 0
no_index None n none is = sym (same_value 0 n is)
no_index (Some e) n none is = absurd (let p = none in cc)

fin_right : (e : Elem) (v : Fin) → IsFin e v → first_wrong (fin_checks e) ≡ None
fin_right e v is = right_value _ v.first_index field.Count ((is_some (number_or_zero (set_text (codes "count") e)), field.Count) ∷ []) is.index (right_value _ v.count field.Count [] is.count refl)

fin_one : (e : Elem) (v w : Fin) → IsFin e v → IsFin e w → v ≡ w
fin_one e v w a b i =
    record {
      complete = (a.complete ∙ sym b.complete) i;
      first = (a.first ∙ sym b.first) i;
      first_index = same_value v.first_index w.first_index (sym a.index ∙ b.index) i;
      last = (a.last ∙ sym b.last) i;
      count = same_value v.count w.count (sym a.count ∙ b.count) i;
    }

fin_again : (e : Elem) (v : Fin) → IsFin e v → IsFin (fin_elem v) v
fin_again e v is =
    record {
      named = refl;
      complete = flag_again v.complete;
      first = first_again v.complete v.first_index v.count v.first v.last;
      index = index_again v.complete v.first_index v.count v.first v.last (λ none. no_index (set_child (codes "first") e) v.first_index (sym is.first ∙ none) is.index) (number_low (index_in e) v.first_index is.index);
      last = last_again v.complete v.first_index v.count v.first v.last;
      count = ap number_or_zero (count_again v.complete v.first_index v.count v.first v.last) ∙ number_again v.count (number_low (set_text (codes "count") e) v.count is.count);
    }

pub fin_exact : IsExactBy is_fin fin_checks IsFin (λ v e. e ≡ fin_elem v)
fin_exact = record {
  one = fin_one;
  refused = λ e v fault is. right_refused (is_fin e) (fin_checks e) fault is.named (fin_right e v is);
  read_back = λ e written v tree is w. subst (λ t. IsFin t v) (sym w) (fin_again e v is);
}

-- ---- without the place of the first item

pub no_index_told : (v : Fin) → index_in (fin_elem_without_index v) ≡ None
no_index_told v = by v.complete v.first v.last v.count
  where
    by : (complete : Bool) (first last : Option (List ℕ)) (count : ℕ) → index_in (fin_elem_without_index (record { complete = complete; first = first; first_index = 0; last = last; count = count })) ≡ None
    by complete None None count = refl
    by complete None (Some t) count = refl
    by complete (Some id) last count = refl
