-- What the server of the machine answers is the page of the archive.
use Rattle.std.proofs.Common.{◌≡◌, ℕ, suc, ◌+◌, ◌-◌, ◌≤◌, min, Bool, true, false, cond, List, [], ◌∷◌, ◌++◌, Option, Some, None, length, take, map, sym, ap, ◌∙◌, subst, arith, inl, inr}
use Rattle.std.proofs.lemmas.Bool.{and_from, and_left, cases_lt, le-leb, lt-leb}
use Rattle.std.proofs.lemmas.List.{length-drop}
use Rattle.std.specs.Option.{option_map}
use Rattle.std.specs.Prelude.{◌&&◌, nat_le}
use Rattle.mam_archive.proofs.NumberedEntries.{FollowFrom, follow_drop}
use Rattle.mam_archive.specs.Entries.{AreKept, EntryView}
use Rattle.mam_archive.specs.Ids.{id_of}
use Rattle.cmd_direct.proofs.NextPages.{kept_follow, page_after_kept, page_after_purged, page_of_first}
use Rattle.cmd_direct.specs.Direct.{query_after}
use Rattle.cmd_direct.specs.NextPages.{cut_at, kept_after, purged}
use Rattle.mam_pages.specs.Kept.{kept_by}
use Rattle.mam_pages.specs.PageOf.{page_of}
use Rattle.sim_1_applications.proofs.ByNumbers.{take_numbers}
use Rattle.sim_1_applications.specs.Answers.{edge, following, is_position, last_in, page_answer_of, page_from, size}
use Rattle.sim_1_applications.specs.Devices.{first_of}
use Rattle.sim_1_applications.specs.Stanzas.Down.{Res, Fin, NotFound}
use Rattle.sim_1_applications.proofs.Rendered.{numbers_follow}
use Rattle.sim_1_applications.specs.Pages.{IsGiven, stanzas_of}

abbrev number_of : EntryView → ℕ
number_of e = e.number

-- what an archive that keeps its newest entries has purged
old_is : (keep last : ℕ) (kept : List EntryView) → length kept ≡ min last keep → purged last kept ≡ last - keep
old_is keep last kept size = omega arith

rest_of : (k m l size old : ℕ) → size ≡ min l k → old ≡ l - k → l - k ≤ m → m ≤ l → size - (m - old) ≡ l - m
rest_of k m l size old is purged_is low high = omega arith

-- the numbers of a cut behind n
cut_numbers : (keep n last most : ℕ) (kept : List EntryView) → AreKept keep last kept → length kept ≡ min last keep → last - keep ≤ n → n ≤ last →
    map number_of (take most (kept_after n last kept)) ≡ following n (size n last most)
cut_numbers keep n last most kept known long low high =
    let old = old_is keep last kept long in
    let first : purged last kept + 1 + (n - purged last kept) ≡ suc n = omega arith in
    let follow : FollowFrom (suc n) (kept_after n last kept) = subst (λ k. FollowFrom k (kept_after n last kept)) first (follow_drop (n - purged last kept) (purged last kept + 1) kept (kept_follow keep last kept known)) in
    let many : length (kept_after n last kept) ≡ last - n = length-drop (n - purged last kept) kept ∙ rest_of keep n last (length kept) (purged last kept) long old low high in
    take_numbers number_of most n (last - n) (kept_after n last kept) (numbers_follow n (kept_after n last kept) follow ∙ ap (following n) many)

cut_stanzas : (keep n last most q : ℕ) (kept : List EntryView) → 1 ≤ keep → AreKept keep last kept → length kept ≡ min last keep → last - keep ≤ n → n ≤ last →
    map (Res q) (following n (size n last most)) ++ Fin q (nat_le (last - n) most) (last_in (following n (size n last most))) (last + 1 - first_of keep last) ∷ [] ≡ stanzas_of q (Some (cut_at n most last kept))
cut_stanzas keep n last most q kept some known long low high =
    let old = old_is keep last kept long in
    let many : length (kept_after n last kept) ≡ last - n = length-drop (n - purged last kept) kept ∙ rest_of keep n last (length kept) (purged last kept) long old low high in
    let count : last + 1 - first_of keep last ≡ length kept = counted keep last (length kept) some long in
    ap (λ ns. map (Res q) ns ++ Fin q (nat_le (last - n) most) (last_in ns) (last + 1 - first_of keep last) ∷ []) (sym (cut_numbers keep n last most kept known long low high))
    ∙ ap (λ k. map (Res q) (map number_of (take most (kept_after n last kept))) ++ Fin q (nat_le k most) (last_in (map number_of (take most (kept_after n last kept)))) (last + 1 - first_of keep last) ∷ []) (sym many)
    ∙ ap (λ c. map (Res q) (map number_of (take most (kept_after n last kept))) ++ Fin q (nat_le (length (kept_after n last kept)) most) (last_in (map number_of (take most (kept_after n last kept)))) c ∷ []) count
  where
    counted : (k l size2 : ℕ) → 1 ≤ k → size2 ≡ min l k → l + 1 - (l - k + 1) ≡ size2
    counted k l size2 one is = omega arith

answered_at : (q first last most : ℕ) (after : Option ℕ) (placed : Bool) → is_position first last after ≡ placed →
    page_answer_of first last (record { number = q; after = after; max = most }) ≡ cond placed (page_from (edge first after) first last (record { number = q; after = after; max = most })) (NotFound q ∷ [])
answered_at q first last most after placed is = ap (λ b. cond b (page_from (edge first after) first last (record { number = q; after = after; max = most })) (NotFound q ∷ [])) is

pub answers_pages : (keep last q most : ℕ) (after : Option ℕ) (owner : List ℕ) (kept : List EntryView) → 1 ≤ keep → AreKept keep last kept → length kept ≡ min last keep → most ≤ 100 → IsGiven last after →
    page_answer_of (first_of keep last) last (record { number = q; after = after; max = most }) ≡ stanzas_of q (page_of (kept_by owner kept) (query_after (option_map id_of after) most))
answers_pages keep last q most None owner kept some known long cap given =
    let old = old_is keep last kept long in
    let edge_is : first_of keep last - 1 ≡ last - keep = omega arith in
    ap (λ e. page_from e (first_of keep last) last (record { number = q; after = None; max = most })) edge_is
    ∙ cut_stanzas keep (last - keep) last most q kept some known long (omega arith) (omega arith)
    ∙ sym (ap (stanzas_of q) (page_of_first (last - keep) last most owner kept cap (omega arith)))
answers_pages keep last q most (Some n) owner kept some known long cap given =
    let old = old_is keep last kept long in
    let low = given.0 in
    let high = given.1 in
    elim (cases_lt (last - keep) n) [
      | inl new ↦
          let placed : (nat_le (first_of keep last) n && nat_le n last) ≡ true = and_from _ _ (le-leb (first_of keep last) n (omega arith)) (le-leb n last given.1) in
          answered_at q (first_of keep last) last most (Some n) true placed
          ∙ cut_stanzas keep n last most q kept some known long (omega arith) given.1
          ∙ sym (ap (stanzas_of q) (page_after_kept keep n last most owner kept known cap (omega arith) given.1))
      | inr gone ↦
          let lost : (nat_le (first_of keep last) n && nat_le n last) ≡ false = and_left _ _ (lt-leb (first_of keep last) n (omega arith)) in
          answered_at q (first_of keep last) last most (Some n) false lost
          ∙ sym (ap (stanzas_of q) (page_after_purged keep n last most owner kept known given.0 (omega arith)))
    ]
