-- Sessions that end and begin, and connections.
use Rattle.std.proofs.Common.{◌≡◌, ℕ, ◌+◌, ◌-◌, ◌≤◌, ◌^◌, Bool, true, false, List, [], ◌∷◌, ◌++◌, Option, Some, None, map, length, drop, is_some, refl, sym, ap, ap₂, subst, ◌∙◌, arith, append-nil, if◌then◌else◌}
use Rattle.std.proofs.Math.Nat.{min-eq_left}
use Rattle.std.proofs.lemmas.Grind.{flat_map-append}
use Rattle.std.proofs.lemmas.List.{length_push, map-append}
use Rattle.cl_core.specs.UserCalls.{closes, dials, forgets}
use Rattle.law_client.specs.Calls.{first_client}
use Rattle.cl_login.specs.LoginRows.{begin_row}
use Rattle.cl_login.specs.declared.answers.Next.{Next}
use Rattle.cl_login.specs.declared.answers.Next.TheVariants as next
use Rattle.cl_handlers.specs.Clients.{ClientStep, ClientView}
use Rattle.cl_handlers.specs.LoginSteps.{goes_on}
use Rattle.cl_handlers.specs.SessionRows.{begins, begins_epoch, failed_row}
use Rattle.cl_handlers.specs.Speech.{in_items, uttered, uttered_where}
use Rattle.cl_handlers.specs.ClientSteps.{dropped, drops, is_apart, left, puts}
use Rattle.cl_handlers.specs.declared.account.Account.{Account}
use Rattle.cl_handlers.specs.declared.phase.Phase.{Phase}
use Rattle.cl_handlers.specs.declared.phase.Phase.TheVariants as phase
use Rattle.cmd_network.specs.DeviceLines as device
use Rattle.sim_3_items.specs.ItemMoves.{fed_of}
use Rattle.sim_3_items.specs.ItemWorlds.{silent_client_step}
use Rattle.sim_2_events.specs.Lists.{knows, no_sessions}
use Rattle.sim_5_devices.proofs.LogReadingsSteps.{dropped_represents}
use Rattle.sim_5_devices.specs.Shown.{LogRepresents}
use Rattle.mam_archive.specs.Entries.{EntryView}
use Rattle.sm_outbox.specs.Sessions.{SessionView}
use Rattle.sm_outbox.specs.Submissions.{in_state}
use Rattle.sm_outbox.specs.declared.said.SaidState.TheVariants as state
use Rattle.cmd_report.specs.declared.report.SaidMark.TheVariants.{Undecided, Waiting}
use Rattle.sim_3_items.specs.Submitted.{IsWaiting, SubmissionsRepresent, is_message, outstanding}
use Rattle.sim_1_applications.specs.Devices.{Reading, Sessions, new_device, up_put}
use Rattle.sim_1_applications.specs.Events.{goes_offline, put_up, reads_bound}
use Rattle.sim_1_applications.specs.Stanzas.{Carbons, Presence, messages}
use Rattle.sim_1_applications.specs.Reported.{mark_of, said_among, said_in}
use Rattle.sim_5_devices.proofs.Lines.{lines, lines_as, lines_in, marked, marked_lines}
use Rattle.sim_5_devices.proofs.Shown.{nothing_waiting, past_lines, report_parts, stands}
use Rattle.sim_5_devices.specs.Told.{IsBinding, IsEntering}
use Rattle.xml_writer.specs.Items.{Closing, ItemOut}
use Rattle.xml_framer.proofs.PlainTexts.{none_is}

-- ---- at the beginning

pub first_told : (account : Account) → SubmissionsRepresent (first_client account) no_sessions
first_told account = record { epoch = refl; n = refl; online = refl; said = refl; waiting = refl }

pub first_log : (keep : ℕ) (history : List EntryView) (account : Account) (name : List ℕ) → LogRepresents keep history (first_client {A = ItemOut} account).log (new_device name).reading
first_log keep history account name = record { entries = refl; tiles = refl; page = refl; held = refl }

-- ---- how far the connection is

pub phase_stays : (c : ClientView ItemOut) (d : Sessions) (p : Phase) → SubmissionsRepresent c d → SubmissionsRepresent (record c { phase = p }) d
phase_stays c d p represents = record { epoch = represents.epoch; n = represents.n; online = represents.online; said = represents.said; waiting = represents.waiting }

pub dialed_told : (c : ClientView ItemOut) (d : Sessions) (entropy : List ℕ) → SubmissionsRepresent c d → SubmissionsRepresent (dials in_items entropy (fed_of c)).turn.client d
dialed_told c d entropy represents = by (begin_row c.account.login.domain entropy).next
  where
    t : ClientStep ItemOut ItemOut
    t = puts (left (silent_client_step c)) (uttered_where in_items (begin_row c.account.login.domain entropy).put)

    by : (n : Next) → SubmissionsRepresent (goes_on t n).client d
    by (next.Goes s) = phase_stays c d (phase.Login s) represents
    by next.LoggedIn = phase_stays c d phase.Features2 represents
    by (next.Ends why) = phase_stays c d phase.Apart represents

-- ---- the session is given up

-- where there is none
module _ (c : ClientView ItemOut) (d : Sessions) (represents : SubmissionsRepresent c d) where
  none_given_up : c.session ≡ None → SubmissionsRepresent (dropped c) (goes_offline d)
  none_given_up none = record {
    epoch = represents.epoch;
    n = represents.n;
    online = refl;
    said =
        ap (λ said. lines (c.said.settled ++ map (in_state state.Undecided) said ++ [])) empty ∙ ap lines (append-nil (c.said.settled ++ [])) ∙ sym (ap (λ said. lines (c.said.settled ++ said)) empty)
        ∙ represents.said ∙ ap (λ b. past_lines d ++ said_in (mark_of b) d.now) offline;
    waiting = refl;
  }
    where
      empty : c.said.waiting ≡ []
      empty = nothing_waiting c d none represents

      offline : d.online ≡ false
      offline = represents.online ∙ ap is_some none

  one_given_up : (s : SessionView ItemOut) → c.session ≡ Some s → SubmissionsRepresent (dropped c) (goes_offline d)
  one_given_up s is = record {
    epoch = represents.epoch;
    n = represents.n;
    online = refl;
    said =
        ap lines (append-nil (c.said.settled ++ map (in_state state.Undecided) c.said.waiting))
        ∙ map-append device.said_line c.said.settled (map (in_state state.Undecided) c.said.waiting)
        ∙ ap₂ (λ xs ys. xs ++ ys) (stands c d s is represents).settled
        (lines_in state.Undecided c.said.waiting ∙ ap (map (marked Undecided)) (stands c d s is represents).waiting ∙ marked_lines Waiting Undecided (messages (outstanding d)))
        ∙ sym (report_parts (goes_offline d));
    waiting = refl;
  }

  given_up : SubmissionsRepresent (dropped c) (goes_offline d)
  given_up = by c.session refl
    where
      by : (o : Option (SessionView ItemOut)) → c.session ≡ o → SubmissionsRepresent (dropped c) (goes_offline d)
      by None is = none_given_up is
      by (Some s) is = one_given_up s is

  pub dropped_told : (p : Phase) → SubmissionsRepresent (record (dropped c) { phase = p }) (goes_offline d)
  dropped_told p = phase_stays (dropped c) (goes_offline d) p given_up

pub failed_told : (t : ClientStep ItemOut ItemOut) (d : Sessions) → SubmissionsRepresent t.client d → SubmissionsRepresent (failed_row in_items t).client (goes_offline d)
failed_told t d represents = dropped_told t.client d represents phase.Binding

pub forgot_told : (c : ClientView ItemOut) (d : Sessions) → SubmissionsRepresent c d → SubmissionsRepresent (forgets in_items (fed_of c)).turn.client (goes_offline d)
forgot_told c d represents = dropped_told c d represents phase.Apart

-- the footer changes nothing of the client
closing : (c : ClientView ItemOut) (P : ClientView ItemOut → Type 0) → P (record (dropped c) { phase = phase.Apart }) → P (closes in_items (fed_of c)).turn.client
closing c P here = by (is_apart c.phase)
  where
    by : (b : Bool) → P (drops in_items (left (if b then silent_client_step c else puts (silent_client_step c) (uttered in_items Closing)))).client
    by true = here
    by false = here

pub closed_told : (c : ClientView ItemOut) (d : Sessions) → SubmissionsRepresent c d → SubmissionsRepresent (closes in_items (fed_of c)).turn.client (goes_offline d)
closed_told c d represents = closing c (λ e. SubmissionsRepresent e (goes_offline d)) (dropped_told c d represents phase.Apart)

pub broken_told : (keep : ℕ) (history : List EntryView) (c : ClientView ItemOut) (b : Reading) → LogRepresents keep history c.log b
    → LogRepresents keep history (dropped c).log (record b { page = None }) × LogRepresents keep history (closes in_items (fed_of c)).turn.client.log (record b { page = None })
broken_told keep history c b represents =
    let off = dropped_represents keep history c.log b represents in
    (off, closing c (λ e. LogRepresents keep history e.log (record b { page = None })) off)

-- ---- a resource is bound

pub bound_told : (t : ClientStep ItemOut ItemOut) (d : Sessions) (live : Bool) → IsBinding t.client d → SubmissionsRepresent (begins_epoch in_items t).client (reads_bound live d)
bound_told t d live p = record {
  epoch = min-eq_left fits ∙ ap (λ k. k + 1) p.represents.epoch ∙ sym (length_push d.past d.now);
  n = refl;
  online = p.represents.online;
  said =
      p.represents.said ∙ ap (λ b. past_lines d ++ said_in (mark_of b) d.now) p.offline
      ∙ sym (append-nil (past_lines d ++ said_in Undecided d.now))
      ∙ ap₂ (λ xs ys. xs ++ ys) (ap (λ ls. past_lines d ++ ls) (sym (append-nil (said_in Undecided d.now))) ∙ sym (flat_map-append (said_in Undecided) d.past (d.now ∷ []))) refl;
  waiting = subst (λ o. IsWaiting o t.client.said (reads_bound live d)) (sym none) (nothing_waiting t.client d none p.represents);
}
  where
    fits : t.client.epoch + 1 ≤ 2 ^ 64 - 1
    fits = let few = p.epoch_fits in omega (arith, few)

    none : t.client.session ≡ None
    none = none_is t.client.session (sym p.represents.online ∙ p.offline)

-- ---- a session is enabled

module _ (t : ClientStep ItemOut ItemOut) (d : Sessions) (previd : List ℕ) (p : IsEntering t.client d) where
  abbrev entered : Sessions
  entered = put_up Presence (put_up Carbons (knows d))

  none_put : up_put d.now ≡ []
  none_put = ap₂ (λ xs ys. xs ++ ys) (p.session.up_got p.unknown) (p.session.up_rest p.unknown)

  none_acked : d.now.acked ≡ 0
  none_acked = let low = p.session.acked in let few : length d.now.up_got ≡ 0 = ap length (p.session.up_got p.unknown) in omega (arith, low, few)

  two_put : up_put entered.now ≡ Carbons ∷ Presence ∷ []
  two_put = ap₂ (λ xs ys. xs ++ (ys ++ Carbons ∷ [] ++ Presence ∷ [])) (p.session.up_got p.unknown) (p.session.up_rest p.unknown)

  two_wait : outstanding entered ≡ Carbons ∷ Presence ∷ []
  two_wait = ap₂ drop none_acked two_put

  none : t.client.session ≡ None
  none = none_is t.client.session (sym p.represents.online ∙ p.offline)

  empty : t.client.said.waiting ≡ []
  empty = nothing_waiting t.client d none p.represents

  pub entered_told : SubmissionsRepresent (begins in_items t previd).client entered
  entered_told = record {
    epoch = p.represents.epoch;
    n = p.represents.n;
    online = refl;
    said =
        p.represents.said ∙ ap₂ (λ a zs. past_lines d ++ said_among a (mark_of d.online) zs) none_acked none_put
        ∙ ap₂ (λ a zs. past_lines d ++ said_among a Waiting zs) (sym none_acked) (sym two_put);
    waiting = (ap lines empty ∙ sym (ap (lines_as Waiting) two_wait), sym (ap (map is_message) two_wait));
  }
