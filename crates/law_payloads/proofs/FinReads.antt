-- The end of a page is read as the grammar says, and what is written is read as it was.
use Rattle.std.proofs.Common.{◌≡◌, ℕ, ◌<◌, ◌^◌, Bool, true, false, List, [], ◌∷◌, Option, Some, None, is_some, unwrap_or, option_map, Ok, codes, refl, sym, ap, ◌∙◌, arith}
use Rattle.std.specs.Fmt.{decimal}
use Rattle.std.specs.Option.{IfSome}
use Rattle.im_mam.proofs.FinLaws.{fin_exact}
use Rattle.im_mam.specs.ArchiveAnswers.{IsFin, fin_checks, fin_elem, fin_elem_with, fin_elem_without_index, index_in, is_fin, number_or_zero}
use Rattle.im_mam.specs.Readings.{fin_read, fin_with}
use Rattle.im_mam.specs.ResultSets.{set_text}
use Rattle.mam_pages.specs.declared.fin.Fin.{Fin}
use Rattle.im_payload.proofs.Numbers.{written_number}
use Rattle.im_payload.specs.Checks.{IsFirstWrong, first_wrong}
use Rattle.im_payload.specs.Readings.{where_this}
use Rattle.im_payload.specs.Shapes.{flag}
use Rattle.im_payload.specs.declared.fault.Field.TheVariants as field
use Rattle.law_payloads.proofs.Judged.{Fits, by_checks}
use Rattle.law_payloads.specs.Answers.{IsAnswer}
use Rattle.im_stanza.specs.Stanzas.{attr_named}
use Rattle.xml_trees.proofs.TidyReads.{text_of-text_node}
use Rattle.xml_trees.specs.Trees.{Elem}

fin_fits : (e : Elem) (b : Bool) (index count : Option ℕ) → is_fin e ≡ b → number_or_zero (index_in e) ≡ index → number_or_zero (set_text (codes "count") e) ≡ count
    → Fits b (IsFirstWrong (fin_checks e)) (IsFin e) (where_this b (fin_with e index count))
fin_fits e false index count named at is = refl
fin_fits e true None count named at is = (refl, λ i. first_wrong ((is_some (at i), field.Count) ∷ (is_some (number_or_zero (set_text (codes "count") e)), field.Count) ∷ []))
fin_fits e true (Some index) None named at is = (refl, λ i. first_wrong ((is_some (at i), field.Count) ∷ (is_some (is i), field.Count) ∷ []))
fin_fits e true (Some index) (Some count) named at is = record { named = named; complete = refl; first = refl; index = at; last = refl; count = is }

pub fin_answers : (e : Elem) → IsAnswer (fin_read e) (is_fin e) (IsFirstWrong (fin_checks e)) (IsFin e)
fin_answers e = by_checks fin_exact e (fin_read e) (fin_fits e (is_fin e) (number_or_zero (index_in e)) (number_or_zero (set_text (codes "count") e)) refl refl refl)

-- ---- what is written

abbrev fin : Bool → Option (List ℕ) → ℕ → Option (List ℕ) → ℕ → Fin
fin complete first index last count = record { complete = complete; first = first; first_index = index; last = last; count = count }

-- with the place of its first item, where that is told
module _ (index : Option ℕ) (count : ℕ) (index_low : IfSome index (λ i. i < 2 ^ 64)) (count_low : count < 2 ^ 64) where
  abbrev written : Bool → Option (List ℕ) → Option (List ℕ) → Elem
  written complete first last = fin_elem_with index (fin complete first 0 last count)

  complete_again : (complete : Bool) (first last : Option (List ℕ)) → complete ≡ flag (attr_named (codes "complete") (written complete first last))
  complete_again true first last = refl
  complete_again false first last = refl

  first_again : (complete : Bool) (first last : Option (List ℕ)) → first ≡ set_text (codes "first") (written complete first last)
  first_again complete None None = refl
  first_again complete None (Some t) = refl
  first_again complete (Some id) last = ap Some (sym (text_of-text_node id))

  last_again : (complete : Bool) (first last : Option (List ℕ)) → last ≡ set_text (codes "last") (written complete first last)
  last_again complete None None = refl
  last_again complete None (Some t) = ap Some (sym (text_of-text_node t))
  last_again complete (Some id) None = refl
  last_again complete (Some id) (Some t) = ap Some (sym (text_of-text_node t))

  count_again : (complete : Bool) (first last : Option (List ℕ)) → set_text (codes "count") (written complete first last) ≡ Some (decimal count)
  count_again complete None None = ap Some (text_of-text_node (decimal count))
  count_again complete None (Some t) = ap Some (text_of-text_node (decimal count))
  count_again complete (Some id) None = ap Some (text_of-text_node (decimal count))
  count_again complete (Some id) (Some t) = ap Some (text_of-text_node (decimal count))

  first_position : (index : Option ℕ) → IfSome index (λ i. i < 2 ^ 64) → (complete : Bool) (id : List ℕ) (last : Option (List ℕ)) →
      number_or_zero (index_in (fin_elem_with index (fin complete (Some id) 0 last count))) ≡ Some (unwrap_or index 0)
  first_position None low complete id last = refl
  first_position (Some i) low complete id last = (ap (λ o. option_map (λ m. unwrap_or m 0) (option_map Some o)) (written_number (2 ^ 64) i (omega arith) low))

  index_again : (complete : Bool) (first last : Option (List ℕ)) → (first ≡ None → unwrap_or index 0 ≡ 0) → number_or_zero (index_in (written complete first last)) ≡ Some (unwrap_or index 0)
  index_again complete None None none = ap Some (sym (none refl))
  index_again complete None (Some t) none = ap Some (sym (none refl))
  index_again complete (Some id) last none = first_position index index_low complete id last

  fin_is : (complete : Bool) (first last : Option (List ℕ)) → (first ≡ None → unwrap_or index 0 ≡ 0) → IsFin (written complete first last) (fin complete first (unwrap_or index 0) last count)
  fin_is complete first last none = record {
    named = refl;
    complete = complete_again complete first last;
    first = first_again complete first last;
    index = index_again complete first last none;
    last = last_again complete first last;
    count = ap number_or_zero (count_again complete first last) ∙ (ap (λ o. option_map (λ m. unwrap_or m 0) (option_map Some o)) (written_number (2 ^ 64) count (omega arith) count_low));
  }

pub fin_written : (v : Fin) → v.first_index < 2 ^ 64 → v.count < 2 ^ 64 → (v.first ≡ None → v.first_index ≡ 0) → fin_read (fin_elem v) ≡ Ok v
fin_written v index_low count_low none = ((fin_answers (fin_elem v)).ok v).1 (fin_is (Some v.first_index) v.count index_low count_low v.complete v.first v.last none)

pub fin_written_without_index : (v : Fin) → v.count < 2 ^ 64 → fin_read (fin_elem_without_index v) ≡ Ok (record v { first_index = 0 })
fin_written_without_index v count_low =
    ((fin_answers (fin_elem_without_index v)).ok (record v { first_index = 0 })).1 (fin_is None v.count tt count_low v.complete v.first v.last (λ none. refl))
