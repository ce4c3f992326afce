-- What a stanza that is no message changes at the server: sessions alone, and of the one that it is of its flags.
use Rattle.std.proofs.Common.{◌≡◌, ℕ, ◌==◌, true, false, List, [], ◌∷◌, Option, Some, None, length, pos, refl, sym, ap, subst, ◌∙◌, inl, inr, if◌then◌else◌}
use Rattle.std.proofs.lemmas.Bool.{cases_Bool}
use Rattle.std.specs.List.{AllByRecursion, slice_get}
use Rattle.mam_archive.specs.Entries.{EntryView, entry_numbered}
use Rattle.srv_state.specs.State.{Kept, ServerState, Step}
use Rattle.srv_state.specs.Steps.{Act, Copy, Handle, Send, act, acted, in_sessions}
use Rattle.im_forwarding.specs.Results.{AskerView, fin_item}
use Rattle.sim_5_moves.proofs.AnswersReplies.{carbons_does, iq_in, iq_of_switch, page, presence_does, request_does}
use Rattle.sim_5_moves.specs.Sent.{as_it_is, does_on}
use Rattle.sim_3_items.specs.ItemMoves.{step_of, takes_reported}
use Rattle.sim_3_items.specs.ItemWorlds.{itself}
use Rattle.sm_live.specs.Sessions.{Session, asks, copies, handles, presents, told, waits, with_session}
use Rattle.sm_live.specs.declared.told.SessionInfo.{SessionInfo}
use Rattle.mam_pages.specs.Cuts.{CutView}
use Rattle.im_replies.specs.Requests.{result_item}
use Rattle.sim_5_moves.proofs.ServerStates.{around}
use Rattle.sim_5_moves.proofs.Walks.{Goes, IsSend, IsSteady, all_changed, all_weaker, counting_first, then_counted, then_sends, then_sessions}
use Rattle.sim_5_moves.specs.Replied.{IsReplyCase, around_of, following}
use Rattle.srv_handlers.specs.Requests.{asker_of, envelope_of, paging, sending_entries, sending_entry}
use Rattle.im_requests.specs.Messages.{queryid_text}
use Rattle.cmd_schedule.specs.Contents.{Owned}
use Rattle.sim_3_items.specs.Served.{IsOfDevice, ServerSimulates}
use Rattle.sim_1_applications.specs.Devices.{Take}
use Rattle.sim_1_applications.specs.Stanzas.{Carbons, Message, Presence, Query, Up}
use Rattle.im_stanza.specs.Views.{IqView}
use Rattle.xml_trees.specs.Trees.{Elem, no_nodes}
use Rattle.xml_writer.specs.Items.{ItemOut}

-- what the stanza makes of its session
abbrev pub alters : Up → Session ItemOut → Session ItemOut
alters Carbons s = copies true s
alters Presence s = presents true (pos 0) s
alters (Message m) s = s
alters (Query r) s = s

-- ---- a page is sent

module _ (n : ℕ) (asker : AskerView) (entries : List EntryView) (more : List (Act ItemOut)) (all : AllByRecursion IsSend more) where
  entry_sent : (o : Option EntryView) (rest : List (Act ItemOut)) → AllByRecursion IsSend rest → AllByRecursion IsSend (sending_entry as_it_is n asker o rest)
  entry_sent None rest sends = sends
  entry_sent (Some e) rest sends = (tt, sends)

  entries_sent : (ks : List ℕ) → AllByRecursion IsSend (sending_entries as_it_is n asker entries ks more)
  entries_sent [] = all
  entries_sent (k ∷ ks) = entry_sent (entry_numbered k entries) (sending_entries as_it_is n asker entries ks more) (entries_sent ks)

page_sent : (q : IqView) (t : SessionInfo) (queryid : List ℕ) (kept : Kept) (cut : Option CutView) (h : ServerState ItemOut) → AllByRecursion IsSend (paging as_it_is q t queryid kept cut h)
page_sent q t queryid kept None h = (tt, tt)
page_sent q t queryid kept (Some cut) h = entries_sent t.number (asker_of t queryid h) kept.entries (Send t.number (fin_item (envelope_of q t h) cut) ∷ []) (tt, tt) cut.numbers

-- ---- the steps

module _ (P Q : Session ItemOut → Type 0) (before : IsSteady P) (after : IsSteady Q) (x : Up) (n : ℕ)
    (here : (s : Session ItemOut) → (s.shown.number == n) ≡ true → P s → Q (alters x s)) (elsewhere : (s : Session ItemOut) → (s.shown.number == n) ≡ false → P s → Q s) where
  switched : (s next : Step ItemOut) → Goes P s next → Goes Q s (in_sessions (with_session n (alters x)) next)
  switched s next goes = then_sessions P Q (with_session n (alters x)) (all_changed P Q n (alters x) here elsewhere) s next goes

  -- where it alters nothing
  unswitched : ((s : Session ItemOut) → alters x s ≡ s) → (s next : Step ItemOut) → Goes P s next → Goes Q s next
  unswitched same s next goes = record {
    domain = goes.domain;
    accounts = goes.accounts;
    archives = goes.archives;
    sessions = all_weaker P Q weaker next.server_state.sessions goes.sessions;
    told = goes.told;
  }
    where
      weaker : (t : Session ItemOut) → P t → Q t
      weaker t is = elim (cases_Bool (t.shown.number == n)) [
        | inl own ↦ subst Q (same t) (here t own is)
        | inr other ↦ elsewhere t other is
      ]

module _ (P Q : Session ItemOut → Type 0) (before : IsSteady P) (after : IsSteady Q)
    (keep : ℕ) (owned : List Owned) (names : List (List ℕ)) (takes : List Take) (h : ServerState ItemOut) (o : Owned) (s : Session ItemOut) (all : AllByRecursion P h.sessions) where
  abbrev n : ℕ
  n = s.shown.number

  abbrev first : Step ItemOut
  first = if s.shown.counted then act itself (Handle n) (step_of h) else step_of h

  first_goes : Goes P (step_of h) first
  first_goes = then_counted P before s.shown.counted n (step_of h) all

  after_is : (e : Elem) (acts : List (Act ItemOut)) → does_on e (told s) h ≡ acts → following e s h ≡ acted itself acts first
  after_is e acts is = counting_first s.shown.counted n (does_on e (told s) h) (step_of h) ∙ ap (λ a. acted itself a first) is

  pub after_goes : (x : Up) (e : Elem) → IsReplyCase keep owned names takes h o s x e
      → ((t : Session ItemOut) → (t.shown.number == n) ≡ true → P t → Q (alters x t)) → ((t : Session ItemOut) → (t.shown.number == n) ≡ false → P t → Q t) → Goes Q (step_of h) (following e s h)
  after_goes Carbons e is here elsewhere =
      let z = result_item (envelope_of iq_of_switch (told s) h) no_nodes in
      subst (Goes Q (step_of h)) (sym (after_is e _ (carbons_does (told s) h e (sym is.built))))
      (then_sends Q after (Send n z ∷ []) (tt, tt) (step_of h) (act itself (Copy n true) first) (switched P Q before after Carbons n here elsewhere (step_of h) first first_goes))
  after_goes Presence e is here elsewhere =
      subst (Goes Q (step_of h)) (sym (after_is e _ (presence_does (told s) h e (sym is.built)))) (switched P Q before after Presence n here elsewhere (step_of h) first first_goes)
  after_goes (Message m) e is here elsewhere = absurd is.replied
  after_goes (Query r) e is here elsewhere =
      let known = around keep owned names takes h is.runs o s is.session is.some is.few in
      let a = around_of keep names takes o.account in
      let cut = page a (told s) h r known is.replied in
      let acts = paging as_it_is (iq_in r) (told s) (queryid_text r.number) known.kept cut h in
      subst (Goes Q (step_of h)) (sym (after_is e acts (request_does a (told s) h r known is.replied e (sym is.built.0))))
      (then_sends Q after acts (page_sent (iq_in r) (told s) (queryid_text r.number) known.kept cut h) (step_of h) first
      (unswitched P Q before after (Query r) n here elsewhere (λ t. refl) (step_of h) first first_goes))

-- ---- the server runs on

module _ (keep : ℕ) (owned : List Owned) (names : List (List ℕ)) where
  abbrev pub Owns : Session ItemOut → Type 0
  Owns s = IsOfDevice owned names s

  pub same_owner : (s t : Session ItemOut) → t.shown.account ≡ s.shown.account → t.shown.resource ≡ s.shown.resource → Owns s → Owns t
  same_owner s t account resource is = record {
    position = is.position;
    device = is.device;
    there = is.there;
    account = ap (slice_get names) account ∙ is.account;
    resource = resource ∙ is.resource;
  }

  owns_steady : IsSteady Owns
  owns_steady = record {
    waiting = λ z s is. same_owner s (waits z s) refl refl is;
    asked = λ on s is. same_owner s (asks on s) refl refl is;
    handled = λ s is. same_owner s (handles s) refl refl is;
  }

  altered_owner : (x : Up) (s : Session ItemOut) → Owns s → Owns (alters x s)
  altered_owner Carbons s is = same_owner s (copies true s) refl refl is
  altered_owner Presence s is = same_owner s (presents true (pos 0) s) refl refl is
  altered_owner (Message m) s is = is
  altered_owner (Query r) s is = is

  pub runs_on : (takes : List Take) (h next : ServerState ItemOut) → next.domain ≡ h.domain → next.accounts ≡ h.accounts → next.archives ≡ h.archives → AllByRecursion Owns next.sessions → ServerSimulates keep owned names takes h → ServerSimulates keep owned names takes next
  runs_on takes h next domain accounts archives sessions runs = record {
    configured = record { domain = domain ∙ runs.configured.domain; accounts = accounts ∙ runs.configured.accounts };
    archives = λ position name there. ap (λ (all : List Kept). slice_get all position) archives ∙ runs.archives position name there;
    many = ap length archives ∙ runs.many;
    sessions = sessions;
  }

  module _ (takes : List Take) (h : ServerState ItemOut) (o : Owned) (s : Session ItemOut) (x : Up) (e : Elem) (is : IsReplyCase keep owned names takes h o s x e) where
    owns_goes : Goes Owns (step_of h) (following e s h)
    owns_goes = after_goes Owns Owns owns_steady owns_steady keep owned names takes h o s is.runs.sessions x e is (λ t here own. altered_owner x t own) (λ t other own. own)

    pub still_runs : ServerSimulates keep owned names takes (following e s h).server_state
    still_runs = runs_on takes h (following e s h).server_state owns_goes.domain owns_goes.accounts owns_goes.archives owns_goes.sessions is.runs

    pub tells_nothing : (moment : ℕ) → takes_reported moment (following e s h).outs ≡ []
    tells_nothing moment = owns_goes.told moment
