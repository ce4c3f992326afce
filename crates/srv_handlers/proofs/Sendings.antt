-- Stanzas of a page, one behind the other.
use Rattle.std.proofs.Common.{◌≡◌, ℕ, List, [], ◌∷◌, ◌++◌, Option, Some, None, append_assoc, ap, refl, sym, ◌∙◌}
use Rattle.std.proofs.lemmas.List.{map_push}
use Rattle.mam_archive.specs.Entries.{EntryView, entry_numbered}
use Rattle.srv_state.specs.OutgoingStanzas.{send_of, sends_of}
use Rattle.srv_state.specs.State.{Kept, ServerState}
use Rattle.srv_state.specs.Steps.{Act}
use Rattle.srv_state.specs.declared.outgoing_stanza.OutgoingStanza.{OutgoingStanza}
use Rattle.im_forwarding.specs.Results.{AskerView}
use Rattle.sm_live.specs.declared.told.SessionInfo.{SessionInfo}
use Rattle.mam_pages.specs.Cuts.{CutView}
use Rattle.srv_handlers.specs.Pages.{page_sent}
use Rattle.srv_handlers.specs.Requests.{asker_of, envelope_of, paging, sending_entries, sending_entry}
use Rattle.im_stanza.specs.Views.{IqView}
use Rattle.xml_writer.specs.Items.{ItemOut, written_item}

-- one stanza more
pub sends_push : (outgoing_stanzas : List OutgoingStanza) (p : OutgoingStanza) → sends_of (outgoing_stanzas ++ p ∷ []) ≡ sends_of outgoing_stanzas ++ send_of p ∷ []
sends_push outgoing_stanzas p = map_push send_of outgoing_stanzas p

-- what is sent of one entry goes before all else
pub entry_before : (n : ℕ) (asker : AskerView) (found : Option EntryView) (more : List (Act (List ℕ)))
    → sending_entry written_item n asker found more ≡ sending_entry written_item n asker found [] ++ more
entry_before n asker None more = refl
entry_before n asker (Some e) more = refl

-- one entry was sent, and others are ahead
pub entry_first : (n : ℕ) (asker : AskerView) (entries : List EntryView) (number : ℕ) (numbers : List ℕ) (front now : List (Act (List ℕ)))
    → now ≡ front ++ sending_entry written_item n asker (entry_numbered number entries) []
    → now ++ sending_entries written_item n asker entries numbers [] ≡ front ++ sending_entries written_item n asker entries (number ∷ numbers) []
entry_first n asker entries number numbers front now is =
    let this = sending_entry written_item n asker (entry_numbered number entries) [] in
    let rest = sending_entries written_item n asker entries numbers [] in
    ap (λ l. l ++ rest) is ∙ append_assoc front this rest ∙ ap (λ l. front ++ l) (sym (entry_before n asker (entry_numbered number entries) rest))

-- what is sent of entries goes before all else
pub entries_before : (n : ℕ) (asker : AskerView) (entries : List EntryView) (numbers : List ℕ) (more : List (Act (List ℕ)))
    → sending_entries written_item n asker entries numbers [] ++ more ≡ sending_entries written_item n asker entries numbers more
entries_before n asker entries [] more = refl
entries_before n asker entries (number ∷ numbers) more =
    let found = entry_numbered number entries in
    let rest = sending_entries written_item n asker entries numbers [] in
    ap (λ l. l ++ more) (entry_before n asker found rest)
    ∙ append_assoc (sending_entry written_item n asker found []) rest more
    ∙ ap (λ l. sending_entry written_item n asker found [] ++ l) (entries_before n asker entries numbers more)
    ∙ sym (entry_before n asker found (sending_entries written_item n asker entries numbers more))

-- what a page sends to the session that asked
pub page_paged : (q : IqView) (t : SessionInfo) (queryid : List ℕ) (kept : Kept) (cut : Option CutView) (h : ServerState (List ℕ))
    → page_sent written_item t.number (asker_of t queryid h) (envelope_of q t h) kept.entries cut ≡ paging written_item q t queryid kept cut h
page_paged q t queryid kept None h = refl
page_paged q t queryid kept (Some cut) h = refl
