-- What goes to the session is built as it is read.
use Rattle.std.proofs.Common.{◌≡◌, ℕ, zero, suc, ◌+◌, ◌-◌, ◌==◌, List, [], ◌∷◌, Ok, Option, Some, None, length, refl, sym, ap, subst, ◌∙◌, inl, inr}
use Rattle.std.proofs.lemmas.Bool.{cases_Bool}
use Rattle.std.proofs.lemmas.Option.{none-some}
use Rattle.std.specs.List.{AllByRecursion, slice_get}
use Rattle.std.specs.Option.{IfSome}
use Rattle.mam_archive.specs.Entries.{EntryView, entry_numbered, newest}
use Rattle.srv_state.specs.State.{Kept, ServerState}
use Rattle.srv_state.specs.Steps.{Act, Send}
use Rattle.cmd_direct.proofs.NextPages.{entry_is, get_in_drop}
use Rattle.im_forwarding.specs.Queries.{no_such_place}
use Rattle.im_forwarding.specs.Results.{AskerView, entry_item, fin_item}
use Rattle.sim_5_moves.proofs.Pages.{IsCut, IsThere, numbers_fit}
use Rattle.sim_5_moves.proofs.AnswersReplies.{carbons_does, iq_in, iq_of_switch, page, page_is_there, presence_does, request_does}
use Rattle.sim_5_moves.proofs.Sends.{sends_here}
use Rattle.sim_5_moves.specs.Sent.{as_it_is, does_on, sends_to}
use Rattle.sim_3_items.proofs.ItemsDown.{accepted_read}
use Rattle.sim_3_items.proofs.PagesDown.{end_read, entry_read, not_found_read}
use Rattle.sim_3_items.specs.Meant.{Fits, IsEntryNumber, IsPage}
use Rattle.im_jid.specs.Normal.{normal}
use Rattle.sm_live.specs.Sessions.{Session, told}
use Rattle.sm_live.specs.declared.told.SessionInfo.{SessionInfo}
use Rattle.mam_pages.specs.Cuts.{CutView}
use Rattle.im_replies.specs.Requests.{EnvelopeView, iq_error_item, result_item}
use Rattle.sim_5_moves.proofs.ServerStates.{around, own_bare, own_full}
use Rattle.sim_5_moves.specs.Replied.{IsReplyCase, IsSessionOf, around_of}
use Rattle.srv_handlers.specs.Requests.{asker_of, envelope_of, paging, sending_entries, sending_entry}
use Rattle.im_requests.specs.Messages.{queryid_text}
use Rattle.cmd_schedule.specs.Contents.{Owned}
use Rattle.sim_3_items.specs.Built.{IsAnswer, IsDown, IsDownAs, asker_for}
use Rattle.sim_3_items.specs.Served.{ServerSimulates}
use Rattle.sim_1_applications.specs.Devices.{Take}
use Rattle.sim_1_applications.specs.Stanzas.{Carbons, Message, Presence, Query, Up}
use Rattle.sim_1_applications.proofs.Rendered.{history_follows}
use Rattle.sim_1_applications.specs.Reported.{history_at}
use Rattle.im_stanza.specs.Views.{IqView}
use Rattle.xml_trees.specs.Trees.{Elem, no_nodes}
use Rattle.xml_writer.specs.Items.{ItemOut}

-- what is found stands somewhere
find_position : (n : ℕ) (xs : List EntryView) (e : EntryView) → entry_numbered n xs ≡ Some e → (i : ℕ) × (slice_get xs i ≡ Some e)
find_position n [] e is = absurd (none-some e is)
find_position n (x ∷ xs) e is = elim (cases_Bool (x.number == n)) [
  | inl here ↦ (zero, rw here at is)
  | inr other ↦ let rest = find_position n xs e (rw other at is) in (suc rest.0, rest.1)
]

-- an entry that is kept is one of the history
module _ (keep : ℕ) (owned : List Owned) (takes : List Take) (account : List ℕ) where
  in_history : (n : ℕ) (e : EntryView) → entry_numbered n (newest keep (history_at owned takes account)) ≡ Some e → entry_numbered e.number (history_at owned takes account) ≡ Some e
  in_history n e is =
      let history = history_at owned takes account in
      let old = length history - keep in
      let position = find_position n (newest keep history) e is in
      entry_is 1 history (history_follows owned takes account) (old + position.0) e (get_in_drop old history position.0 e position.1)

module _ (keep : ℕ) (owned : List Owned) (names : List (List ℕ)) (takes : List Take) (h : ServerState ItemOut) (o : Owned) (s : Session ItemOut) (runs : ServerSimulates keep owned names takes h) (session : IsSessionOf o names h s) where
  abbrev history : List EntryView
  history = history_at owned takes o.account

  abbrev n : ℕ
  n = s.shown.number

  abbrev t : SessionInfo
  t = told s

  answers : (q : IqView) → q.to ≡ None → IsAnswer q.id (envelope_of q t h)
  answers q nobody = record {
    from = nobody;
    to = subst (λ form. normal form ≡ Ok form) (sym (own_full keep owned names takes h runs o s session)) session.address;
    id_is = refl;
  }

  accepted_built : IsDown o history (result_item (envelope_of iq_of_switch t h) no_nodes)
  accepted_built =
      let a = envelope_of iq_of_switch t h in
      subst (λ d. IsDownAs o history d (result_item a no_nodes)) (sym (accepted_read a)) (a, answers iq_of_switch refl, refl)

  module _ (q : IqView) (number : ℕ) (nobody : q.to ≡ None) (id : q.id ≡ queryid_text number) (fits : Fits number) where
    abbrev a : EnvelopeView
    a = envelope_of q t h

    answer : IsAnswer (queryid_text number) a
    answer = subst (λ text. IsAnswer text a) id (answers q nobody)

    lost_built : IsDown o history (iq_error_item a no_such_place)
    lost_built = subst (λ d. IsDownAs o history d (iq_error_item a no_such_place)) (sym (not_found_read a number id fits)) (a, answer, refl)

    end_built : (cut : CutView) → IsCut (newest keep history) cut → IsDown o history (fin_item a cut)
    end_built cut is =
        let page : IsPage cut = record { entries = numbers_fit (newest keep history) cut.numbers is.all; count_fits = is.count } in
        subst (λ d. IsDownAs o history d (fin_item a cut)) (sym (end_read a cut number id fits page))
        (record { envelope = a; answer = answer; cut = cut; page = page; index = is.index; told = (refl, refl, refl); is = refl })

    abbrev asker : AskerView
    asker = asker_of t (queryid_text number) h

    asker_is : asker ≡ asker_for o number
    asker_is = λ i. record { by = own_bare keep owned names takes h runs o s session i; full = own_full keep owned names takes h runs o s session i; queryid = queryid_text number }

    entry_built : (k : ℕ) (e : EntryView) → entry_numbered k (newest keep history) ≡ Some e → IsEntryNumber e.number → IsDown o history (entry_item asker e)
    entry_built k e found entry =
        subst (λ d. IsDownAs o history d (entry_item asker e)) (sym (entry_read asker e number refl fits entry))
        (record { entry = e; there = in_history keep owned takes o.account k e found; numbered = entry; is = ap (λ x. entry_item x e) asker_is })

    entries_built : (numbers : List ℕ) (more : List (Act ItemOut)) → AllByRecursion (IsThere (newest keep history)) numbers → AllByRecursion (IsDown o history) (sends_to n more) →
        AllByRecursion (IsDown o history) (sends_to n (sending_entries as_it_is n asker (newest keep history) numbers more))
    entries_built [] more all built = built
    entries_built (k ∷ ks) more all built =
        let this = all.0 in
        let rest = sending_entries as_it_is n asker (newest keep history) ks more in
        let entry : IsEntryNumber this.entry.number = subst IsEntryNumber (sym this.numbered) this.number in
        let sent = ap (λ x. sends_to n (sending_entry as_it_is n asker x rest)) this.found ∙ sends_here n (entry_item asker this.entry) rest in
        subst (AllByRecursion (IsDown o history)) (sym sent) (entry_built k this.entry this.found entry, entries_built ks more all.1 built)

    page_built : (kept : Kept) → kept.entries ≡ newest keep history → (cut : Option CutView) → IfSome cut (IsCut (newest keep history)) →
        AllByRecursion (IsDown o history) (sends_to n (paging as_it_is q t (queryid_text number) kept cut h))
    page_built kept same None is = subst (AllByRecursion (IsDown o history)) (sym (sends_here n (iq_error_item a no_such_place) [])) (lost_built, tt)
    page_built kept same (Some cut) is =
        let last : AllByRecursion (IsDown o history) (sends_to n (Send n (fin_item a cut) ∷ [])) = subst (AllByRecursion (IsDown o history)) (sym (sends_here n (fin_item a cut) [])) (end_built cut is, tt) in
        subst (λ entries. AllByRecursion (IsDown o history) (sends_to n (sending_entries as_it_is n asker entries cut.numbers (Send n (fin_item a cut) ∷ [])))) (sym same)
        (entries_built cut.numbers (Send n (fin_item a cut) ∷ []) is.all last)

module _ (keep : ℕ) (owned : List Owned) (names : List (List ℕ)) (takes : List Take) (h : ServerState ItemOut) (o : Owned) (s : Session ItemOut) where
  pub sent_built : (x : Up) (e : Elem) → IsReplyCase keep owned names takes h o s x e → AllByRecursion (IsDown o (history_at owned takes o.account)) (sends_to s.shown.number (does_on e (told s) h))
  sent_built Carbons e is =
      let z = result_item (envelope_of iq_of_switch (told s) h) no_nodes in
      let sent = ap (sends_to s.shown.number) (carbons_does (told s) h e (sym is.built)) ∙ sends_here s.shown.number z [] in
      subst (AllByRecursion (IsDown o (history_at owned takes o.account))) (sym sent) (accepted_built keep owned names takes h o s is.runs is.session, tt)
  sent_built Presence e is =
      subst (AllByRecursion (IsDown o (history_at owned takes o.account))) (sym (ap (sends_to s.shown.number) (presence_does (told s) h e (sym is.built)))) tt
  sent_built (Message m) e is = absurd is.replied
  sent_built (Query r) e is =
      let known = around keep owned names takes h is.runs o s is.session is.some is.few in
      let a = around_of keep names takes o.account in
      subst (AllByRecursion (IsDown o (history_at owned takes o.account))) (sym (ap (sends_to s.shown.number) (request_does a (told s) h r known is.replied e (sym is.built.0))))
      (page_built keep owned names takes h o s is.runs is.session (iq_in r) r.number refl refl is.replied.number_fits known.kept refl (page a (told s) h r known is.replied) (page_is_there a (told s) h r known is.replied))
