-- What is sent of a page is read as its stanzas.
use Rattle.std.proofs.Common.{◌≡◌, ℕ, zero, suc, ◌+◌, ◌-◌, ◌≤◌, List, [], ◌∷◌, ◌++◌, Option, Some, None, length, take, map, refl, sym, ap, subst, ◌∙◌, arith, inl, inr}
use Rattle.std.proofs.lemmas.Bool.{cases_lt}
use Rattle.std.proofs.lemmas.Option.{slice_get_within}
use Rattle.std.specs.List.{AllByRecursion, slice_get}
use Rattle.std.specs.Option.{IfSome, option_map}
use Rattle.mam_archive.specs.Entries.{AreKept, EntryView, entry_numbered}
use Rattle.mam_archive.specs.Ids.{id_of}
use Rattle.srv_state.specs.State.{Kept, ServerState}
use Rattle.srv_state.specs.Steps.{Act, Send}
use Rattle.cmd_direct.proofs.NextPages.{entry_is, get_in_drop, get_in_take, kept_follow, page_after_kept, page_after_purged, page_of_first}
use Rattle.cmd_direct.specs.Direct.{query_after}
use Rattle.cmd_direct.specs.NextPages.{cut_at, kept_after, purged}
use Rattle.im_forwarding.specs.Queries.{no_such_place}
use Rattle.im_forwarding.specs.Results.{AskerView, entry_item, fin_item}
use Rattle.sim_5_moves.proofs.Sends.{sends_here}
use Rattle.sim_5_moves.specs.Sent.{as_it_is, read_at}
use Rattle.sim_3_items.proofs.PagesDown.{end_read, entry_read, not_found_read}
use Rattle.sim_3_items.specs.Downs.{down_stanza}
use Rattle.sim_3_items.specs.Meant.{Fits, IsEntryNumber, IsPage}
use Rattle.sm_live.specs.declared.told.SessionInfo.{SessionInfo}
use Rattle.mam_pages.specs.Cuts.{CutView}
use Rattle.mam_pages.specs.Kept.{kept_by}
use Rattle.mam_pages.specs.PageOf.{page_of}
use Rattle.srv_handlers.specs.Requests.{asker_of, envelope_of, paging, sending_entries, sending_entry}
use Rattle.im_replies.specs.Requests.{iq_error_item}
use Rattle.im_requests.specs.Messages.{queryid_text}
use Rattle.sim_1_applications.specs.Stanzas.Down.{Res}
use Rattle.sim_1_applications.specs.Pages.{IsGiven, stanzas_of}
use Rattle.im_stanza.specs.Views.{IqView}
use Rattle.xml_writer.specs.Items.{ItemOut}
use Rattle.law_limits.proofs.RequestsKept.{index_few}

-- ---- a page of what an archive keeps

abbrev number_of : EntryView → ℕ
number_of e = e.number

-- a number is that of an entry that is found
pub record IsThere (entries : List EntryView) (n : ℕ) : Type 0 where
  pub number : IsEntryNumber n
  pub entry : EntryView
  pub found : entry_numbered n entries ≡ Some entry
  pub numbered : entry.number ≡ n

pub record IsCut (entries : List EntryView) (cut : CutView) : Type 0 where
  pub all : AllByRecursion (IsThere entries) cut.numbers
  pub count : Fits cut.count
  pub index : Fits cut.first_index

numbers_there : (all xs : List EntryView) → ((i : ℕ) (e : EntryView) → slice_get xs i ≡ Some e → IsThere all e.number) → AllByRecursion (IsThere all) (map number_of xs)
numbers_there all [] each = tt
numbers_there all (x ∷ xs) each = (each zero x refl, numbers_there all xs (λ i e at. each (suc i) e at))

module _ (keep last : ℕ) (kept : List EntryView) (known : AreKept keep last kept) where
  there : (i : ℕ) (e : EntryView) → slice_get kept i ≡ Some e → IsThere kept e.number
  there i e at =
      let most : last ≤ 4294967295 = known.most in
      let number : e.number + length kept ≡ last + 1 + i = known.numbers.each i e at in
      let within = slice_get_within kept i e at in
      record {
        number = record { some = omega (arith, known.within, number); fits = omega (arith, most, number, within) };
        entry = e;
        found = entry_is (purged last kept + 1) kept (kept_follow keep last kept known) i e at;
        numbered = refl;
      }

  cut_there : (n most : ℕ) → IsCut kept (cut_at n most last kept)
  cut_there n most =
      let highest : last ≤ 4294967295 = known.most in
      record {
        all = numbers_there kept (take most (kept_after n last kept)) (λ i e at. there (n - purged last kept + i) e (get_in_drop (n - purged last kept) kept i e (get_in_take most (kept_after n last kept) i e at)));
        count = omega (arith, highest, known.within);
        index = omega (arith, highest, known.within, index_few kept (take most (kept_after n last kept)));
      }

  pub page_there : (owner : List ℕ) (after : Option ℕ) (most : ℕ) → most ≤ 100 → IsGiven last after → IfSome (page_of (kept_by owner kept) (query_after (option_map id_of after) most)) (IsCut kept)
  page_there owner None most few given = subst (λ o. IfSome o (IsCut kept)) (sym (page_of_first 0 last most owner kept few (omega arith))) (cut_there 0 most)
  page_there owner (Some n) most few given = elim (cases_lt (purged last kept) n) [
    | inl new ↦ subst (λ o. IfSome o (IsCut kept)) (sym (page_after_kept keep n last most owner kept known few new given.1)) (cut_there n most)
    | inr gone ↦ subst (λ o. IfSome o (IsCut kept)) (sym (page_after_purged keep n last most owner kept known given.0 (omega (arith, gone)))) tt
  ]

-- ---- what is sent of it

module _ (n q : ℕ) (asker : AskerView) (is : asker.queryid ≡ queryid_text q) (fits : Fits q) (entries : List EntryView) where
  entries_read : (numbers : List ℕ) (more : List (Act ItemOut)) → AllByRecursion (IsThere entries) numbers →
      read_at n (sending_entries as_it_is n asker entries numbers more) ≡ map (Res q) numbers ++ read_at n more
  entries_read [] more all = refl
  entries_read (k ∷ ks) more all =
      let this = all.0 in
      let rest = sending_entries as_it_is n asker entries ks more in
      let number : IsEntryNumber this.entry.number = subst IsEntryNumber (sym this.numbered) this.number in
      let one : down_stanza (entry_item asker this.entry) ≡ Res q k = entry_read asker this.entry q is fits number ∙ ap (Res q) this.numbered in
      ap (λ o. read_at n (sending_entry as_it_is n asker o rest)) this.found ∙ ap (map down_stanza) (sends_here n (entry_item asker this.entry) rest)
      ∙ (λ i. one i ∷ entries_read ks more all.1 i)

pub numbers_fit : (entries : List EntryView) (ns : List ℕ) → AllByRecursion (IsThere entries) ns → AllByRecursion IsEntryNumber ns
numbers_fit entries [] all = tt
numbers_fit entries (n ∷ ns) all = (all.0.number, numbers_fit entries ns all.1)

module _ (q : IqView) (t : SessionInfo) (queryid : List ℕ) (kept : Kept) (h : ServerState ItemOut) (number : ℕ) (fits : Fits number) (id : q.id ≡ queryid_text number) (same : queryid ≡ queryid_text number) where
  pub page_read : (cut : Option CutView) → IfSome cut (IsCut kept.entries) → read_at t.number (paging as_it_is q t queryid kept cut h) ≡ stanzas_of number cut
  page_read None is =
      let item = iq_error_item (envelope_of q t h) no_such_place in
      ap (map down_stanza) (sends_here t.number item []) ∙ ap (λ z. z ∷ []) (not_found_read (envelope_of q t h) number id fits)
  page_read (Some cut) is =
      let item = fin_item (envelope_of q t h) cut in
      let page : IsPage cut = record { entries = numbers_fit kept.entries cut.numbers is.all; count_fits = is.count } in
      let end = ap (map down_stanza) (sends_here t.number item []) ∙ ap (λ z. z ∷ []) (end_read (envelope_of q t h) cut number id fits page) in
      entries_read t.number number (asker_of t queryid h) same fits kept.entries cut.numbers (Send t.number item ∷ []) is.all ∙ ap (λ zs. map (Res number) cut.numbers ++ zs) end
