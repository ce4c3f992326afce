-- A stanza goes up by which no message is taken: the server replies, and the other devices only drift.
use Rattle.std.proofs.Common.{◌≡◌, ◌≢◌, ◌⊎◌, ℕ, false, List, [], ◌∷◌, ◌++◌, Some, map, refl, sym, ap, subst, ◌∙◌, append-nil, inl, inr}
use Rattle.std.proofs.lemmas.Option.{same_Some}
use Rattle.std.specs.List.{AllByRecursion, slice_get}
use Rattle.mam_archive.specs.Entries.{EntryView}
use Rattle.sim_5_moves.proofs.ClientsStepped.{stepped_to}
use Rattle.sim_5_devices.proofs.Timely.{gives_in_time, takes_in_time}
use Rattle.sim_5_devices.specs.Pages.{EndsFor}
use Rattle.sim_3_images.specs.Devices.{identity_at}
use Rattle.sim_3_items.specs.Labels.{Takes, gives_all}
use Rattle.sim_5_moves.proofs.Gone.{device_paged}
use Rattle.sim_3_items.specs.Downs.{down_stanza}
use Rattle.sim_3_items.specs.Items.{stanzas_read}
use Rattle.sim_3_items.specs.Ups.{up_stanza}
use Rattle.sim_3_items.specs.ItemMoves.{Up as UpMove, takes_reported}
use Rattle.sim_2_links.specs.Events.{seen}
use Rattle.sim_2_links.specs.Paging.{many}
use Rattle.sim_2_links.specs.Views.{Row}
use Rattle.sim_2_events.specs.Lists.{IsDevice}
use Rattle.sim_5_devices.specs.InTime.{is_end}
use Rattle.sm_live.specs.Sessions.{Session, is_named}
use Rattle.sim_5_devices.specs.Shown.{IsReadingGiven, LogRepresents}
use Rattle.sim_5_moves.specs.Submits.{IsSessionAt}
use Rattle.sim_5_moves.specs.Silent.{AreFlagsKept}
use Rattle.sim_5_devices.proofs.Readings.{reading_given}
use Rattle.cmd_schedule.specs.Contents.{Owned}
use Rattle.sim_5_moves.proofs.Interleaved.{ends_for, flagged_after, flagged_device, flagged_ups, gives_after, takes_after}
use Rattle.sim_5_moves.proofs.ServersComing.{Coming, acts, after, all_given, found_of, given_built, mine, old, other_given, other_number, own, own_given, row_session, run_of, server_state, session_is, session_row, speaker, step, told_other, told_own, unnamed, read_own, unread_beside}
use Rattle.sim_5_moves.proofs.ServersFlags.{flags_follow, priority_kept}
use Rattle.sim_5_moves.proofs.Links.{Stands, end, end_is, end_kept, interleaved, stands}
use Rattle.sim_5_moves.proofs.Worlds.{HasOwner, IsHandled, IsSo, owner_of}
use Rattle.sim_5_devices.proofs.Given.{taken_at_once}
use Rattle.sim_5_devices.proofs.Sorted.{with_sessions}
use Rattle.sim_5_devices.specs.Labels.{DoesInterleaved, HasSessionSteps, IsTakenAtOnce, SessionStep, SessionSteps}
use Rattle.sim_3_items.specs.Built.{IsDown}
use Rattle.sim_3_items.specs.Served.{FlagsRepresent, ServerSimulates}
use Rattle.sim_1_applications.specs.Devices.{Device, NoRow, Present, Reading, Sessions, Take}
use Rattle.sim_1_applications.specs.Events.{Around, ServerHandles, around, flagged, reading_served, reply, served, taking}
use Rattle.sim_1_applications.specs.Stanzas.{Carbons, Down, Message, Presence, Query, Up}
use Rattle.sim_1_applications.specs.Reported.{history_at}
use Rattle.sim_1_applications.specs.Runs.{owned_of}
use Rattle.sim_5_moves.proofs.LabelEvents.{own_replied}
use Rattle.sim_5_moves.proofs.ReplyEvents.{reply_handled}
use Rattle.sim_5_moves.specs.Handled.{IsRepliedTo, served_as}
use Rattle.sim_4_links_follow.specs.Given.{IsGiven, sends_to}
use Rattle.sim_5_moves.proofs.GivenHere.{nothing, replied}
use Rattle.sim_5_devices.proofs.Served.{acts_read}
use Rattle.sim_5_moves.proofs.Kept.{kept_flags}
use Rattle.sim_4_links_follow.specs.Steps.{IsGivenIn, takes_it, takes_nothing}
use Rattle.sim_5_moves.specs.Running.{DeviceSimulates, IsOwned, history_for, keep_in, names_of, DoesBy}
use Rattle.xml_writer.specs.Items.{ItemOut}
use Rattle.sim_5_moves.proofs.ReadStanzas.{given_does, taken_does}

-- ---- what the server does on it

pub record IsReply (c : Coming) (y : Up) : Type 0 where
  pub reads : up_stanza c.z ≡ y
  -- nothing is taken
  pub none : taking c.x.accounts c.x.clock (mine c) (old c).device.account (y ∷ []) ≡ []
  pub server : ServerSimulates (keep_in c.schedule) (owned_of c.schedule) (names_of c.schedule) c.x.takes (step c).server_state
  pub told : takes_reported c.w.moment (step c).outs ≡ []
  -- the reply goes to its session alone
  pub sent : map down_stanza (sends_to (speaker c).shown.number (acts c)) ≡ reply (around c.x (old c).device) y
  pub others : (j : ℕ) (p : Owned) (u : Session ItemOut) → IsSessionAt (owned_of c.schedule) (names_of c.schedule) (server_state c) j p u → (speaker c).shown.number ≢ u.shown.number → sends_to u.shown.number (acts c) ≡ []
  pub built : AllByRecursion (IsDown c.o (history_for c.schedule c.x.takes c.o)) (sends_to (speaker c).shown.number (acts c))
  -- flags are altered as in the applications
  pub flags : (d : Sessions) → d.row ≡ Present → FlagsRepresent (own c).account c.o.device (server_state c) d → FlagsRepresent (own c).account c.o.device (step c).server_state (flagged y d)
  pub spares : (account : ℕ) (resource : List ℕ) → is_named account resource (speaker c) ≡ false → (d : Sessions) → FlagsRepresent account resource (server_state c) d → FlagsRepresent account resource (step c).server_state d

same_asked : (a : Around) (y : Up) (b : Reading) → (reading_served a y b).asked ≡ b.asked
same_asked a Carbons b = refl
same_asked a Presence b = refl
same_asked a (Message m) b = refl
same_asked a (Query r) b = refl

-- ---- the stanza is the next one

module _ (c : Coming) where
  abbrev pub own_gives : IsGivenIn (own c) (own c) (old c).logins c.position c.w (after c) (old c).view c.z c.session (takes_it c.z)
  own_gives = own_given c

  abbrev pub given : List ItemOut
  given = own_gives.given

  abbrev pub own_last : Sessions
  own_last = end c.schedule c.w c.x (mine c) c.o (old c) (after c) (Takes c.z ∷ gives_all given) own_gives.follows

  pub own_interleaved : DoesInterleaved stanzas_read (Takes c.z ∷ gives_all given) (old c).device.sessions own_last
  own_interleaved = interleaved c.schedule c.w c.x (mine c) c.o (old c) (after c) (Takes c.z ∷ gives_all given) own_gives.follows

  pub own_end : IsDevice stanzas_read (seen own_gives.follows.next) own_last
  own_end = end_is c.schedule c.w c.x (mine c) c.o (old c) (after c) (Takes c.z ∷ gives_all given) own_gives.follows

  pub once : IsTakenAtOnce (up_stanza c.z) (map down_stanza given) (old c).device.sessions own_last
  once = taken_at_once stanzas_read c.z given (old c).device.sessions own_last own_interleaved

  abbrev pub next_rest : List Up
  next_rest = once.taken.rest

  pub next_is : (old c).device.sessions.now.up_rest ≡ up_stanza c.z ∷ next_rest
  next_is = sym (stepped_to once.before (old c).device.sessions once.there once.session_steps).up_rest ∙ once.taken.first

  pub is_here : (old c).device.sessions.row ≡ Present
  is_here = (stepped_to once.before (old c).device.sessions once.there once.session_steps).row (once.taken.may 0 [] (with_sessions once.there) refl).0

-- ---- the devices

module _ (c : Coming) (y : Up) (is : IsReply c y) where
  abbrev takes : List Take
  takes = c.x.takes

  abbrev a : Around
  a = around c.x (old c).device

  given_so : (j : ℕ) (p : Owned) (at : IsOwned c.schedule j p) → IsReadingGiven (history_for c.schedule takes p) (run_of c j p at).device.reading
  given_so j p at =
      let r = run_of c j p at in
      subst (λ account. IsReadingGiven (history_at (owned_of c.schedule) takes account) r.device.reading) r.account (reading_given c.x c.ground.read j r.device r.there (owned_of c.schedule) c.ground.few)

  -- ---- another one

  module _ (j : ℕ) (p : Owned) (at : IsOwned c.schedule j p) (apart : j ≢ mine c) where
    abbrev r : DeviceSimulates c.schedule c.w c.x j p
    r = run_of c j p at

    abbrev history : List EntryView
    history = history_for c.schedule takes p

    abbrev g : IsGivenIn (own c) (identity_at c.schedule j p) r.logins c.position c.w (after c) r.view c.z c.session (takes_nothing c.z)
    g = other_given c j p at apart

    abbrev last : Sessions
    last = end c.schedule c.w c.x j p r (after c) (gives_all g.given) g.follows

    abbrev others_interleaved : DoesInterleaved stanzas_read (gives_all g.given) r.device.sessions last
    others_interleaved = interleaved c.schedule c.w c.x j p r (after c) (gives_all g.given) g.follows

    nothing_sent : (row : Row ItemOut) → r.view.row ≡ Some row → sends_to row.number (acts c) ≡ []
    nothing_sent row here =
        let u = row_session r.view.row (found_of c j p) row here r.represents.server.row in
        let session = session_is c j p at u.0 u.1 in
        subst (λ n. sends_to n (acts c) ≡ []) u.2 (is.others j p u.0 session (other_number c j p at apart u.0 session))

    nothing_given : g.given ≡ []
    nothing_given = nothing (acts c) g.given r.view g.follows.next g.are_given nothing_sent

    session_stepped : (xs : List SessionStep) × SessionSteps xs r.device.sessions last
    session_stepped = subst (λ zs. DoesInterleaved stanzas_read (gives_all zs) r.device.sessions last) nothing_given others_interleaved

    abbrev session_steps : HasSessionSteps r.device
    session_steps = record { session_steps = session_stepped.0; last = last; leads = session_stepped.1 }

    flags_kept : AreFlagsKept (identity_at c.schedule j p).account p.device (server_state c) (step c).server_state
    flags_kept = kept_flags (identity_at c.schedule j p).account p.device (server_state c) (step c).server_state (is.spares (identity_at c.schedule j p).account p.device (unnamed c j p at apart))

    other_stands : Stands c.schedule (after c) takes j p (record r.device { sessions = last }) r.view (DoesBy (UpMove c.position) c.w j)
    other_stands =
        let b = gives_after g.given r.device.sessions last others_interleaved in
        stands c.schedule c.w c.x j p r (after c) (gives_all g.given) g.follows takes (gives_in_time r.device.sessions.now g.given (ap (λ zs. many is_end (map down_stanza zs)) nothing_given))
        (given_built p history g.given (subst (AllByRecursion (IsDown p history)) (sym nothing_given) tt)) r.built refl (DoesBy (UpMove c.position) c.w j) (given_does c.position c.w j g.given (unread_beside c j apart) (told_other c j p at apart (λ row there gone. nothing_given))) (record r.device { sessions = last }) r.account
        (end_is c.schedule c.w c.x j p r (after c) (gives_all g.given) g.follows) b.ups r.log refl
        (flags_follow (identity_at c.schedule j p) r.logins (step c).server_state g.follows.next (end_kept c.schedule c.w c.x j p r (after c) (gives_all g.given) g.follows) g.follows.represents.server last
        (end_is c.schedule c.w c.x j p r (after c) (gives_all g.given) g.follows) r.device.sessions (flags_kept.shown r.device.sessions r.flags) b
        (priority_kept (identity_at c.schedule j p) r.logins (server_state c) (step c).server_state r.view r.device.sessions r.represents.server r.sessions flags_kept r.flags))

  others : (j : ℕ) (e : Device) → slice_get c.x.devices j ≡ Some e → j ≢ mine c → (o : HasSessionSteps e) × IsSo c takes j e o.last
  others j e at apart =
      let h : HasOwner c j e = owner_of c j e at in
      subst (λ (d : Device). (o : HasSessionSteps d) × IsSo c takes j d o.last) h.same (session_steps j h.owner h.is apart, (h.owner, h.is, other_stands j h.owner h.is apart))

  -- ---- the device itself

  has_row : (q : Row ItemOut) × ((old c).view.row ≡ Some q) × ((speaker c).shown.number ≡ q.number)
  has_row = session_row (old c).view.row (found_of c (mine c) c.o) (speaker c) c.session.named (old c).represents.server.row

  whole : (map down_stanza (given c) ≡ reply a y) ⊎ ((missing : Down) × (more : List Down) × (reply a y ≡ map down_stanza (given c) ++ missing ∷ more) × ((own_last c).row ≡ NoRow))
  whole =
      replied (acts c) (given c) has_row.0 (own_gives c).follows.next (own_last c) (reply a y) (subst (λ q. IsGiven (acts c) (given c) q (own_gives c).follows.next.row) has_row.1 (own_gives c).are_given) (own_end c)
      (subst (λ n. map down_stanza (sends_to n (acts c)) ≡ reply a y) has_row.2 is.sent)

  -- a front of the reply
  front : (rest : List Down) × (reply a y ≡ map down_stanza (given c) ++ rest)
  front = elim whole [
    | inl all ↦ ([], sym all ∙ sym (append-nil (map down_stanza (given c))))
    | inr short ↦ (short.0 ∷ short.1, short.2)
  ]

  replied_to : IsRepliedTo (reply a y) y (old c).device.sessions (own_last c)
  replied_to = subst (λ u. IsRepliedTo (reply a y) u (old c).device.sessions (own_last c)) is.reads (own_replied stanzas_read c.z (given c) (reply a y) (old c).device.sessions (own_last c) (own_interleaved c) whole)

  abbrev following : Device
  following = served_as a y (own_last c) (old c).device

  log_so : LogRepresents (keep_in c.schedule) (history_for c.schedule takes c.o) (old c).represents.device.client.log following.reading
  log_so =
      (subst (λ zs. LogRepresents (keep_in c.schedule) (history_for c.schedule takes c.o) (old c).represents.device.client.log (served a 0 zs (old c).device).reading × IsReadingGiven (history_for c.schedule takes c.o) (served a 0 zs (old c).device).reading)
      (next_is c ∙ ap (λ u. u ∷ next_rest c) is.reads)
      (acts_read (keep_in c.schedule) (history_for c.schedule takes c.o) (old c).represents.device.client.log a (ServerHandles 0 []) (old c).device tt ((old c).log, given_so (mine c) c.o c.owned))).0

  ends_few : EndsFor c.z (given c)
  ends_few = ends_for a c.z (given c) front.0 (ap (reply a) is.reads ∙ front.1)

  sent_built : (row : Row ItemOut) → (old c).view.row ≡ Some row → AllByRecursion (IsDown c.o (history_for c.schedule takes c.o)) (sends_to row.number (acts c))
  sent_built row here =
      let u = row_session (old c).view.row (found_of c (mine c) c.o) row here (old c).represents.server.row in
      let same : speaker c ≡ u.0 = same_Some (speaker c) u.0 (sym c.session.named ∙ u.1) in
      subst (λ n. AllByRecursion (IsDown c.o (history_for c.schedule takes c.o)) (sends_to n (acts c))) (ap (λ (s : Session ItemOut). s.shown.number) same ∙ u.2) is.built

  flags_so : FlagsRepresent (own c).account c.o.device (step c).server_state (flagged y (own_last c))
  flags_so =
      let d = (old c).device.sessions in
      let represents : FlagsRepresent (own c).account c.o.device (step c).server_state (flagged y d) = is.flags d (is_here c) (old c).flags in
      let back = flagged_after y d (own_last c) (takes_after c.z (given c) d (own_last c) (own_interleaved c)) in
      flags_follow (own c) (old c).logins (step c).server_state (own_gives c).follows.next (end_kept c.schedule c.w c.x (mine c) c.o (old c) (after c) (Takes c.z ∷ gives_all (given c)) (own_gives c).follows) (own_gives c).follows.represents.server
      (flagged y (own_last c)) (flagged_device y (seen (own_gives c).follows.next) (own_last c) (own_end c)) (flagged y d) represents back
      (λ s found. (represents (λ none. let bad : Present ≡ NoRow = sym (is_here c) ∙ none in let no_way : ⊥ = cc in no_way) s found).2)

  own_stands : Stands c.schedule (after c) takes (mine c) c.o following (old c).view (DoesBy (UpMove c.position) c.w (mine c))
  own_stands =
      let b = takes_after c.z (given c) (old c).device.sessions (own_last c) (own_interleaved c) in
      let history = history_for c.schedule takes c.o in
      stands c.schedule c.w c.x (mine c) c.o (old c) (after c) (Takes c.z ∷ gives_all (given c)) (own_gives c).follows takes
      (takes_in_time (old c).device c.z (given c) (device_paged c.schedule c.b c.says c.w c.x c.runs (mine c) (old c).device (old c).there) ends_few)
      (given_built c.o history (given c) (all_given (IsDown c.o history) (acts c) (given c) (old c).view.row (own_gives c).follows.next.row (own_gives c).are_given sent_built)) (old c).built refl (DoesBy (UpMove c.position) c.w (mine c)) (taken_does c.position c.w (mine c) c.z (given c) (read_own c) (told_own c)) following (old c).account
      (flagged_device y (seen (own_gives c).follows.next) (own_last c) (own_end c)) (flagged_ups y (old c).device.sessions (own_last c) b.ups) log_so (same_asked a y (old c).device.reading) flags_so

  pub reply_is_handled : IsHandled c takes
  reply_is_handled = record {
    following = following;
    handled = reply_handled (IsSo c takes) c.x (mine c) (old c).device y (own_last c) (old c).there is.none replied_to others;
    stands = own_stands;
    asked = same_asked a y (old c).device.reading;
    server = is.server;
    told = ap (λ l. c.w.takes ++ l) is.told ∙ append-nil c.w.takes ∙ c.runs.simulation.takes;
  }
