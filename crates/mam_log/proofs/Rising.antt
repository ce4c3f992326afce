-- Ids that rise, each above all before it: none of them repeats.
use Rattle.std.proofs.Common.{◌≡◌, ℕ, ◌+◌, ◌-◌, ◌<◌, ◌≤◌, false, List, [], ◌∷◌, ◌++◌, Some, None, Ordering, Less, Equal, Greater, length, take, get_or, append_assoc, append-nil, arith, inl, inr, refl, sym, ap, subst, ◌∙◌}
use Rattle.std.proofs.lemmas.Bool.{cases_Bool, false≢true}
use Rattle.std.proofs.lemmas.List.{length-map}
use Rattle.std.proofs.lemmas.Map.Text.{is_eq-slice_cmp}
use Rattle.std.proofs.lemmas.Option.{none-some, slice_get_past}
use Rattle.std.proofs.lemmas.Slice.Eq.{bytes_eq-Decides}
use Rattle.std.specs.Cmp.Lexicographic.{slice_cmp}
use Rattle.std.specs.List.{list_any, slice_get}
use Rattle.std.specs.Ordering.{is_eq, nat_cmp}
use Rattle.std.specs.Str.{bytes_eq}
use Rattle.mam_archive.proofs.Keys.{at_is_text, below-trans, below_from_greater, same_from_equal}
use Rattle.mam_archive.specs.Chained.{IsBelow, IsGap, is_text_of}
use Rattle.mam_log.proofs.Orders.{gap_after, gap_text, is_known, text-push}
use Rattle.mam_log.proofs.Repeats.{ids_more}
use Rattle.mam_log.specs.LogPages.{ids_of}
use Rattle.mam_log.specs.Orders.{AreBelow, AreUpTo, IsOrderOf, Rise, text_at, texts_at}
use Rattle.mam_log.specs.Views.{first_repeat}
use Rattle.mam_log.specs.declared.log_entry.LogEntry.{LogEntry}

below_other : (p q : List ℕ) → IsBelow p q → bytes_eq p q ≡ false
below_other p q low =
    let test : is_eq (slice_cmp nat_cmp p q) ≡ bytes_eq p q = is_eq-slice_cmp p q in
    sym (rw low at test)

-- the last text in order is the greatest
pub up_to_last : (positions : List ℕ) (texts : List (List ℕ)) (q : List ℕ) (count : ℕ) → count ≡ length positions → 1 ≤ count → IsOrderOf positions texts →
    slice_get (texts_at texts positions) (count - 1) ≡ Some q → AreUpTo q texts
up_to_last positions texts q count whole some order is p low = gap_text positions texts p count order (gap_after positions texts p q count whole some order is low)

up_to_more : (ids : List (List ℕ)) (q id : List ℕ) → IsBelow q id → AreUpTo q ids → AreUpTo id (ids ++ id ∷ [])
up_to_more ids q id low up p high = text-push ids id p ∙ rw (below_other id p high, up p (below-trans q id p low high)) refl

-- the result's id is the greatest so far
pub rises_on : (known : List (List ℕ)) (rs : List LogEntry) (at : ℕ) (d : LogEntry) (q id : List ℕ) → at < length rs → id ≡ (get_or rs at d).id → IsBelow q id →
    AreUpTo q (known ++ ids_of (take at rs)) → AreUpTo id (known ++ ids_of (take (at + 1) rs))
rises_on known rs at d q id low here above up =
    let taken = ids_of (take at rs) in
    let more : (known ++ taken) ++ id ∷ [] ≡ known ++ ids_of (take (at + 1) rs) =
    append_assoc known taken (id ∷ []) ∙ ap (λ t. known ++ t) (sym (ids_more rs at d id low here)) in
    subst (λ t. AreUpTo id t) more (up_to_more (known ++ taken) q id above up)

-- where none of the texts is above one, all are below what is above that
below_from_up_to : (texts : List (List ℕ)) (q id : List ℕ) → IsBelow q id → AreUpTo q texts → AreBelow id texts
below_from_up_to texts q id low up p there = either (slice_cmp nat_cmp p q) refl
  where
    either : (o : Ordering) → slice_cmp nat_cmp p q ≡ o → IsBelow p id
    either Less less = below-trans p q id less low
    either Equal same = subst (λ t. IsBelow t id) (sym (same_from_equal p q same)) low
    either Greater above = absurd (false≢true (sym (up p (below_from_greater p q above)) ∙ there))

rise-push : (texts ps : List (List ℕ)) (p : List ℕ) → Rise texts ps → AreBelow p (texts ++ ps) → Rise texts (ps ++ p ∷ [])
rise-push texts [] p rise low = (subst (AreBelow p) (append-nil texts) low, tt)
rise-push texts (q ∷ ps) p rise low = (rise.0, rise-push (texts ++ q ∷ []) ps p rise.1 (subst (AreBelow p) (sym (append_assoc texts (q ∷ []) ps)) low))

-- the result's id is above all before it
pub rise_more : (known : List (List ℕ)) (rs : List LogEntry) (at : ℕ) (d : LogEntry) (q id : List ℕ) → at < length rs → id ≡ (get_or rs at d).id → IsBelow q id →
    AreUpTo q (known ++ ids_of (take at rs)) → Rise known (ids_of (take at rs)) → Rise known (ids_of (take (at + 1) rs))
rise_more known rs at d q id low here above up rise =
    let taken = ids_of (take at rs) in
    subst (Rise known) (sym (ids_more rs at d id low here)) (rise-push known taken id rise (below_from_up_to (known ++ taken) q id above up))

unknown : (id : List ℕ) (ids : List (List ℕ)) → AreBelow id ids → list_any (λ other. bytes_eq id other) ids ≡ false
unknown id ids low = is_known id ids ∙ elim (cases_Bool (is_text_of id ids)) [
  | inl there ↦ absurd (false≢true (sym (below_other id id (low id there)) ∙ (bytes_eq-Decides id id).1 refl))
  | inr none ↦ none
]

-- none that rises repeats
pub fresh_from_rise : (known ids : List (List ℕ)) → Rise known ids → first_repeat known ids ≡ None
fresh_from_rise known [] rise = refl
fresh_from_rise known (id ∷ ids) rise = rw (unknown id known rise.0) (fresh_from_rise (known ++ id ∷ []) ids rise.1)

-- a text above all others has its gap at the end
pub gap_above : (positions : List ℕ) (texts : List (List ℕ)) (p : List ℕ) → IsOrderOf positions texts → AreBelow p texts → IsGap (texts_at texts positions) p (length positions)
gap_above positions texts p order low =
    let size : length (texts_at texts positions) ≡ length positions = length-map positions (text_at texts) in
    record {
      bound = omega arith;
      below = λ i q front here. low q (sym (order.every q) ∙ at_is_text (texts_at texts positions) i q here);
      above = λ i q following here. absurd (none-some q (sym (slice_get_past (texts_at texts positions) i (omega arith)) ∙ here));
    }
