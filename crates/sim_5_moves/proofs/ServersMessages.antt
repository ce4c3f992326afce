-- A message to an account that exists goes up: the server takes it, and those hear of it who hear of it in the applications.
use Rattle.std.proofs.Common.{◌≡◌, ◌≢◌, ℕ, ◌==◌, ◌&&◌, ◌||◌, not, true, false, List, [], ◌∷◌, ◌++◌, None, Some, map, pos, refl, sym, ap, subst, ◌∙◌, if◌then◌else◌, arith}
use Rattle.std.proofs.lemmas.Bool.{false≢true}
use Rattle.std.proofs.lemmas.List.{map-append}
use Rattle.std.specs.List.{AllByRecursion, slice_get}
use Rattle.std.specs.Str.{bytes_eq}
use Rattle.mam_archive.specs.Entries.{EntryView}
use Rattle.sim_5_devices.proofs.Timely.{gives_in_time, takes_in_time}
use Rattle.sim_5_devices.specs.Pages.{EndsFor}
use Rattle.srv_state.specs.State.{Step}
use Rattle.sim_3_images.specs.Devices.{identity_at}
use Rattle.sim_3_items.specs.Labels.{Takes, gives_all}
use Rattle.sim_5_moves.proofs.Gone.{device_paged}
use Rattle.sim_5_moves.proofs.Grown.{built_taken}
use Rattle.base_io.specs.Names.{is_among}
use Rattle.sim_3_items.specs.Downs.{down_stanza}
use Rattle.sim_3_items.specs.Items.{stanzas_read}
use Rattle.sim_3_items.specs.Ups.{up_stanza}
use Rattle.sim_3_items.specs.ItemMoves.{Up, takes_reported}
use Rattle.sim_2_links.specs.Views.{Row}
use Rattle.sim_2_links.specs.Events.{seen}
use Rattle.sim_2_events.specs.Lists.{IsDevice}
use Rattle.sm_live.specs.Sessions.{Session, session_named}
use Rattle.sim_5_devices.specs.Shown.{IsReadingGiven, LogRepresents}
use Rattle.sim_5_moves.proofs.MessagesFlags.{flags_stay}
use Rattle.sim_5_moves.proofs.Outcomes.{reads as sent_reads, runs_after, told_after}
use Rattle.sim_5_moves.specs.Hearing.{taken_now}
use Rattle.sim_5_moves.specs.Submits.{Submits}
use Rattle.sim_5_moves.specs.Silent.{AreFlagsKept}
use Rattle.sim_5_devices.proofs.Readings.{reading_given}
use Rattle.cmd_schedule.specs.Contents.{Owned}
use Rattle.sim_5_moves.proofs.Interleaved.{gives_after, heard_ends, takes_after}
use Rattle.sim_5_moves.proofs.ServersComing.{Coming, accounts_are, acts, after, all_given, beside_is, elem, found_of, given_built, mine, old, other_given, own, own_given, row_session, run_of, server_state, session_is, speaker, step, step_is, told_other, told_own, read_own, unread_beside}
use Rattle.sim_5_moves.proofs.ServersFlags.{flags_follow, priority_kept}
use Rattle.sim_5_moves.proofs.Links.{Stands, end, end_is, end_kept, interleaved, stands}
use Rattle.sim_5_moves.proofs.Worlds.{HasOwner, IsHandled, IsSo, owner_of}
use Rattle.sim_5_moves.proofs.Submitted.{submits}
use Rattle.sim_5_devices.specs.Labels.{DoesInterleaved}
use Rattle.sim_3_items.specs.Built.{IsDown}
use Rattle.sim_3_items.specs.Served.{FlagsRepresent, ServerSimulates, take_reported}
use Rattle.sim_1_applications.specs.Devices.{Device, Named, Sessions, Take, concerns, last_of}
use Rattle.sim_1_applications.specs.Events.{Around, hears_of, is_present}
use Rattle.sim_1_applications.specs.Stanzas.{Message, Submission}
use Rattle.sim_1_applications.specs.Reported.{history_at}
use Rattle.sim_1_applications.specs.Runs.{owned_of}
use Rattle.sim_5_moves.proofs.LabelEvents.{beside, own_taken}
use Rattle.sim_5_moves.proofs.MessageEvents.{message_handled}
use Rattle.sim_5_moves.specs.Handled.{IsHeardOf, IsTakenOf, IsToldOf, take_at, takes_with}
use Rattle.sim_4_links_follow.specs.Given.{sends_to}
use Rattle.sim_5_moves.proofs.MessagesGiven.{message_ended, message_given}
use Rattle.sim_5_devices.proofs.Grown.{takes_grown}
use Rattle.sim_5_moves.proofs.Kept.{kept_flags}
use Rattle.sim_4_links_follow.specs.Steps.{IsGivenIn, takes_it, takes_nothing}
use Rattle.sim_5_moves.specs.Running.{DeviceSimulates, IsOwned, history_for, keep_in, names_of, DoesBy}
use Rattle.xml_writer.specs.Items.{ItemOut}
use Rattle.sim_5_moves.proofs.ReadStanzas.{given_does, taken_does}
use Rattle.sim_1_applications.proofs.Worlds.{never}

-- ---- who hears of a take is counted

unheard : (t : Take) (j : ℕ) (d : Device) → d.sessions.now.available ≡ false → d.sessions.now.carbons ≡ false → hears_of t j d ≡ false
unheard t j d available carbons =
    (λ k. is_present d.sessions.row && ((bytes_eq d.account t.said.to && available k) || (not t.said.private && carbons k && concerns d.account t && not (j == t.device))))
    ∙ never (is_present d.sessions.row) (bytes_eq d.account t.said.to) (not t.said.private) (concerns d.account t) (not (j == t.device))

-- ---- the message

module _ (c : Coming) (m : Submission) (reads : up_stanza c.z ≡ Message m) (exists : is_among m.to (names_of c.schedule) ≡ true) where
  abbrev x : Submits (keep_in c.schedule) (owned_of c.schedule) (names_of c.schedule) c.x.takes (server_state c) (mine c) c.o (speaker c) m (elem c)
  x = submits c m reads

  -- the take, as the applications have it, and as the server has
  abbrev t : Take
  t = take_at c.x (mine c) (old c).device m

  abbrev served_take : Take
  served_take = record { device = mine c; account = c.o.account; said = m; moment = (server_state c).moment }

  same_take : served_take ≡ t
  same_take = λ k. record { device = mine c; account = sym (old c).account k; said = m; moment = (c.runs.simulation.now ∙ sym c.runs.simulation.clock) k }

  abbrev all : List Take
  all = takes_with c.x (mine c) (old c).device m

  all_is : c.x.takes ++ taken_now (names_of c.schedule) (server_state c) (mine c) c.o m ≡ all
  all_is = ap (λ b. c.x.takes ++ (if b then served_take ∷ [] else [])) exists ∙ ap (λ y. c.x.takes ++ y ∷ []) same_take

  -- ---- the server

  server_runs : ServerSimulates (keep_in c.schedule) (owned_of c.schedule) (names_of c.schedule) all (step c).server_state
  server_runs =
      subst (λ takes. ServerSimulates (keep_in c.schedule) (owned_of c.schedule) (names_of c.schedule) takes (step c).server_state) all_is
      (subst (λ (s : Step ItemOut). ServerSimulates (keep_in c.schedule) (owned_of c.schedule) (names_of c.schedule) (c.x.takes ++ taken_now (names_of c.schedule) (server_state c) (mine c) c.o m) s.server_state) (sym (step_is c)) (runs_after x))

  told_so : c.w.takes ++ takes_reported c.w.moment (step c).outs ≡ map (take_reported (owned_of c.schedule)) all
  told_so =
      let more = taken_now (names_of c.schedule) (server_state c) (mine c) c.o m in
      let told : takes_reported c.w.moment (step c).outs ≡ map (take_reported (owned_of c.schedule)) more =
      ap (λ n. takes_reported n (step c).outs) (sym c.runs.simulation.now) ∙ ap (λ (s : Step ItemOut). takes_reported (server_state c).moment s.outs) (step_is c) ∙ told_after x in
      ap (λ l. l ++ takes_reported c.w.moment (step c).outs) c.runs.simulation.takes ∙ ap (λ l. map (take_reported (owned_of c.schedule)) c.x.takes ++ l) told ∙ sym (map-append (take_reported (owned_of c.schedule)) c.x.takes more)
      ∙ ap (map (take_reported (owned_of c.schedule))) all_is

  flags_kept : (account : ℕ) (resource : List ℕ) → AreFlagsKept account resource (server_state c) (step c).server_state
  flags_kept account resource = kept_flags account resource (server_state c) (step c).server_state (λ d represents. subst (λ (s : Step ItemOut). FlagsRepresent account resource s.server_state d) (sym (step_is c)) (flags_stay x account resource d represents))

  -- ---- what a device was given

  module _ (j : ℕ) (p : Owned) (is : IsOwned c.schedule j p) where
    abbrev r : DeviceSimulates c.schedule c.w c.x j p
    r = run_of c j p is

    abbrev history : List EntryView
    history = history_for c.schedule all p

    sent_built : (row : Row ItemOut) → r.view.row ≡ Some row → AllByRecursion (IsDown p history) (sends_to row.number (acts c))
    sent_built row at =
        let u = row_session r.view.row (found_of c j p) row at r.represents.server.row in
        let around_it : Around = record { accounts = names_of c.schedule; first = 0; last = 0; takes = 0 } in
        subst (λ n. AllByRecursion (IsDown p history) (sends_to n (acts c))) u.2
        (subst (λ takes. AllByRecursion (IsDown p (history_for c.schedule takes p)) (sends_to u.0.shown.number (acts c))) all_is (sent_reads x around_it j p u.0 (session_is c j p is u.0 u.1) refl).built)

    log_so : LogRepresents (keep_in c.schedule) history r.represents.device.client.log r.device.reading
    log_so =
        let given : IsReadingGiven (history_for c.schedule c.x.takes p) r.device.reading =
        subst (λ a. IsReadingGiven (history_at (owned_of c.schedule) c.x.takes a) r.device.reading) r.account (reading_given c.x c.ground.read j r.device r.there (owned_of c.schedule) c.ground.few) in
        (takes_grown (keep_in c.schedule) (owned_of c.schedule) c.x.takes (t ∷ []) p.account r.represents.device.client.log r.device.reading (r.log, given)).0

    priority : (s : Session ItemOut) → session_named (identity_at c.schedule j p).account p.device (step c).server_state.sessions ≡ Some s → s.shown.priority ≡ pos 0
    priority = priority_kept (identity_at c.schedule j p) r.logins (server_state c) (step c).server_state r.view r.device.sessions r.represents.server r.sessions (flags_kept (identity_at c.schedule j p).account p.device) r.flags

    heard_as : (given : List ItemOut) (last : Sessions) → IsHeardOf (hears_of served_take j r.device) (last_of (c.x.takes ++ served_take ∷ []) p.account) (map down_stanza given) last → IsHeardOf (hears_of t j r.device) (last_of all r.device.account) (map down_stanza given) last
    heard_as given last heard =
        subst (λ a. IsHeardOf (hears_of t j r.device) (last_of all a) (map down_stanza given) last) (sym r.account)
        (subst (λ y. IsHeardOf (hears_of y j r.device) (last_of (c.x.takes ++ y ∷ []) p.account) (map down_stanza given) last) same_take heard)

    -- who hears is counted
    counted : hears_of t j r.device ≡ true → r.device.sessions.now.stage ≢ Named
    counted hears named =
        let s = (c.ground.taken.devices j r.device r.there).sessions.now.is_session in
        false≢true (sym (unheard t j r.device (s.available named) (s.carbons named)) ∙ hears)

    -- ---- another device

    module _ (apart : j ≢ mine c) where
      abbrev g : IsGivenIn (own c) (identity_at c.schedule j p) r.logins c.position c.w (after c) r.view c.z c.session (takes_nothing c.z)
      g = other_given c j p is apart

      abbrev last : Sessions
      last = end c.schedule c.w c.x j p r (after c) (gives_all g.given) g.follows

      interleaved_so : DoesInterleaved stanzas_read (gives_all g.given) r.device.sessions last
      interleaved_so = interleaved c.schedule c.w c.x j p r (after c) (gives_all g.given) g.follows

      heard : IsHeardOf (hears_of t j r.device) (last_of all r.device.account) (map down_stanza g.given) last
      heard =
          heard_as g.given last
          (message_given x exists j p (identity_at c.schedule j p) r.logins r.view g.follows.next r.device g.given last (beside_is c j p is) g.are_given (end_is c.schedule c.w c.x j p r (after c) (gives_all g.given) g.follows))

      ended : (row : Row ItemOut) → r.view.row ≡ Some row → g.follows.next.row ≡ None → g.given ≡ []
      ended = message_ended x exists j p (identity_at c.schedule j p) r.logins r.view g.follows.next r.device g.given last (beside_is c j p is) g.are_given (end_is c.schedule c.w c.x j p r (after c) (gives_all g.given) g.follows)

      hears_it : IsToldOf t (last_of all r.device.account) j r.device last
      hears_it = beside stanzas_read t (last_of all r.device.account) j r.device last g.given interleaved_so counted heard

      other_stands : Stands c.schedule (after c) all j p (record r.device { sessions = last }) r.view (DoesBy (Up c.position) c.w j)
      other_stands =
          let b = gives_after g.given r.device.sessions last interleaved_so in
          stands c.schedule c.w c.x j p r (after c) (gives_all g.given) g.follows all (gives_in_time r.device.sessions.now g.given (heard_ends (hears_of t j r.device) (last_of all r.device.account) (map down_stanza g.given) last heard))
          (given_built p history g.given (all_given (IsDown p history) (acts c) g.given r.view.row g.follows.next.row g.are_given sent_built)) (built_taken c.schedule c.x.takes (t ∷ []) p (seen r.view) r.built) refl (DoesBy (Up c.position) c.w j) (given_does c.position c.w j g.given (unread_beside c j apart) (told_other c j p is apart ended))
          (record r.device { sessions = last }) r.account (end_is c.schedule c.w c.x j p r (after c) (gives_all g.given) g.follows) b.ups log_so refl
          (flags_follow (identity_at c.schedule j p) r.logins (step c).server_state g.follows.next (end_kept c.schedule c.w c.x j p r (after c) (gives_all g.given) g.follows) g.follows.represents.server last
          (end_is c.schedule c.w c.x j p r (after c) (gives_all g.given) g.follows) r.device.sessions ((flags_kept (identity_at c.schedule j p).account p.device).shown r.device.sessions r.flags) b priority)

  others : (j : ℕ) (e : Device) → slice_get c.x.devices j ≡ Some e → j ≢ mine c → (next : Sessions) × IsToldOf t (last_of all e.account) j e next × IsSo c all j e next
  others j e at apart =
      let h : HasOwner c j e = owner_of c j e at in
      subst (λ (y : Device). (next : Sessions) × IsToldOf t (last_of all y.account) j y next × IsSo c all j y next) h.same
      (last j h.owner h.is apart, hears_it j h.owner h.is apart, (h.owner, h.is, other_stands j h.owner h.is apart))

  -- ---- the device itself

  abbrev own_gives : IsGivenIn (own c) (own c) (old c).logins c.position c.w (after c) (old c).view c.z c.session (takes_it c.z)
  own_gives = own_given c

  abbrev given : List ItemOut
  given = own_gives.given

  abbrev own_last : Sessions
  own_last = end c.schedule c.w c.x (mine c) c.o (old c) (after c) (Takes c.z ∷ gives_all given) own_gives.follows

  own_interleaved : DoesInterleaved stanzas_read (Takes c.z ∷ gives_all given) (old c).device.sessions own_last
  own_interleaved = interleaved c.schedule c.w c.x (mine c) c.o (old c) (after c) (Takes c.z ∷ gives_all given) own_gives.follows

  own_end : IsDevice stanzas_read (seen own_gives.follows.next) own_last
  own_end = end_is c.schedule c.w c.x (mine c) c.o (old c) (after c) (Takes c.z ∷ gives_all given) own_gives.follows

  own_heard : IsHeardOf (hears_of t (mine c) (old c).device) (last_of all (old c).device.account) (map down_stanza given) own_last
  own_heard =
      heard_as (mine c) c.o c.owned given own_last
      (message_given x exists (mine c) c.o (own c) (old c).logins (old c).view own_gives.follows.next (old c).device given own_last (beside_is c (mine c) c.o c.owned) own_gives.are_given own_end)

  own_takes : IsTakenOf t (last_of all (old c).device.account) (mine c) (old c).device own_last
  own_takes = own_taken stanzas_read t (last_of all (old c).device.account) (mine c) (old c).device own_last c.z given reads own_interleaved own_heard

  ends_none : EndsFor c.z given
  ends_none = (let none = heard_ends (hears_of t (mine c) (old c).device) (last_of all (old c).device.account) (map down_stanza given) own_last own_heard in omega (arith, none))

  own_stands : Stands c.schedule (after c) all (mine c) c.o (record (old c).device { sessions = own_last }) (old c).view (DoesBy (Up c.position) c.w (mine c))
  own_stands =
      let b = takes_after c.z given (old c).device.sessions own_last own_interleaved in
      let mine_history = history_for c.schedule all c.o in
      stands c.schedule c.w c.x (mine c) c.o (old c) (after c) (Takes c.z ∷ gives_all given) own_gives.follows all
      (takes_in_time (old c).device c.z given (device_paged c.schedule c.b c.says c.w c.x c.runs (mine c) (old c).device (old c).there) ends_none)
      (given_built c.o mine_history given (all_given (IsDown c.o mine_history) (acts c) given (old c).view.row own_gives.follows.next.row own_gives.are_given (sent_built (mine c) c.o c.owned)))
      (built_taken c.schedule c.x.takes (t ∷ []) c.o (seen (old c).view) (old c).built) refl (DoesBy (Up c.position) c.w (mine c)) (taken_does c.position c.w (mine c) c.z given (read_own c) (told_own c)) (record (old c).device { sessions = own_last }) (old c).account own_end b.ups (log_so (mine c) c.o c.owned) refl
      (flags_follow (own c) (old c).logins (step c).server_state own_gives.follows.next (end_kept c.schedule c.w c.x (mine c) c.o (old c) (after c) (Takes c.z ∷ gives_all given) own_gives.follows) own_gives.follows.represents.server own_last own_end
      (old c).device.sessions ((flags_kept (own c).account c.o.device).shown (old c).device.sessions (old c).flags) b (priority (mine c) c.o c.owned))

  pub message_is_handled : IsHandled c all
  message_is_handled = record {
    following = record (old c).device { sessions = own_last };
    handled = message_handled (IsSo c all) c.x (mine c) (old c).device m own_last (old c).there (ap (is_among m.to) (accounts_are c) ∙ exists) own_takes others;
    stands = own_stands;
    asked = refl;
    server = server_runs;
    told = told_so;
  }
