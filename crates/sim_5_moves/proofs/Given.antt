-- The user gives the session up, or closes the stream.
use Rattle.std.proofs.Common.{◌≡◌, ℕ, ◌+◌, ◌≤◌, List, [], ◌∷◌, Some, None, slice_get, refl, sym, ap, subst, ◌∙◌, inl, inr, arith}
use Rattle.std.proofs.lemmas.Option.{same_Some}
use Rattle.cl_core.specs.UserCalls.{closes, forgets}
use Rattle.cl_handlers.specs.Speech.{in_items}
use Rattle.sim_4_links_follow.proofs.ConnectionsElsewhere.{close_leaves, forget_leaves, of_its_own}
use Rattle.sim_4_links_follow.proofs.Lifts.{close_lifts, forget_lifts}
use Rattle.sim_4_links_follow.specs.Following.{WorldFollows}
use Rattle.sim_3_images.proofs.DialMoves.{close_client}
use Rattle.sim_3_images.proofs.UserMoves.{get_set_same, length_where}
use Rattle.sim_3_images.specs.Relayable.{ClientFits, DownFits, ServerFits, UpFits}
use Rattle.sim_3_images.specs.Devices.{identity_at}
use Rattle.sim_3_items.specs.Labels.{Drops, awaits, labels_of}
use Rattle.sim_3_items.specs.Identities.{Identity}
use Rattle.sim_3_items.specs.Servers.{ServerRepresents}
use Rattle.sim_3_images.proofs.FittingEncodings.{keep_here, takes_any}
use Rattle.sim_3_images.proofs.MoveSteps.{move_fits}
use Rattle.sim_3_images.specs.Fitting.{FitsHere}
use Rattle.sim_3_items.specs.Items.{stanzas_read}
use Rattle.sim_3_items.specs.ItemMoves.{Close, Forget, ItemMove, closed_by, fed_of, forgot_by, moved}
use Rattle.sim_3_items.specs.ItemPipes as pipes
use Rattle.sim_3_items.specs.ItemPipes.{put_up}
use Rattle.sim_3_items.specs.ItemWorlds.{ItemDevice, ItemWorld}
use Rattle.sim_2_links.proofs.Reached.{link_kept}
use Rattle.sim_2_links.proofs.WithPremises.{prompt_runs}
use Rattle.sim_2_links.specs.Events.{seen}
use Rattle.sim_2_events.specs.Lists.{IsDevice}
use Rattle.sim_5_devices.specs.Shown.{LogRepresents}
use Rattle.sim_5_moves.specs.Moves.{IsOneDevice}
use Rattle.cmd_schedule.specs.Contents.{Owned}
use Rattle.cmd_schedule.specs.Schedules.{WireView}
use Rattle.sim_5_devices.proofs.Sorted.{session_steps_first}
use Rattle.sim_5_devices.specs.Labels.{Does, DoesAll, DoesInterleaved, SessionStep, SessionSteps}
use Rattle.sim_3_items.specs.Served.{FlagsRepresent}
use Rattle.sim_3_items.specs.Submitted.{SubmissionsRepresent}
use Rattle.sim_1_applications.specs.Devices.{AppWorld, Sessions}
use Rattle.sim_1_applications.specs.Events.{Drop, goes_offline}
use Rattle.sim_5_devices.proofs.SubmissionsEnds.{broken_told, forgot_told}
use Rattle.sim_5_devices.proofs.Served.{same_told}
use Rattle.sim_5_moves.proofs.Called.{one_called, same_twice, where_same}
use Rattle.sim_5_moves.proofs.FlagsKeptStepped.{same_ups}
use Rattle.sim_5_moves.proofs.FlagsKeptFlags.{flags_session_step}
use Rattle.sim_5_moves.proofs.Turning.{IsClientStep, move_runs, old}
use Rattle.sim_4_links_follow.proofs.Stays.{reached_along}
use Rattle.sim_2_links.specs.Machine.{LinkReached}
use Rattle.sim_5_devices.proofs.Staying.{paging_stays, prompt_stays}
use Rattle.sim_5_devices.specs.InTime.{AreInTime}
use Rattle.sim_5_devices.proofs.SessionLabelsSteps.{moves_done}
use Rattle.sim_5_moves.proofs.BuiltAlong.{built_along}
use Rattle.sim_5_moves.specs.Going.{ArePutBuilt, DeviceGoes}
use Rattle.sim_5_moves.specs.Running.{Bounds, DeviceSimulates, IsOwned, MoveSimulates, WorldSimulates, history_for, keep_in}
use Rattle.cmd_network.specs.Positions.{changed_where}
use Rattle.xml_writer.specs.Items.{ItemOut}

module _ (schedule : WireView) (b : Bounds) (says : ℕ) (w : ItemWorld) (x : AppWorld) (runs : WorldSimulates schedule b says w x) (i : ℕ) (o : Owned) (owned : IsOwned schedule i o) where
  abbrev r : DeviceSimulates schedule w x i o
  r = runs.simulation.devices i o owned

  abbrev who : Identity
  who = identity_at schedule i o

  abbrev c : ItemDevice
  c = r.represents.device

  abbrev gone : ItemDevice
  gone = record { client = (forgets in_items (fed_of c.client)).turn.client; here = None }

  still_said : says + 0 ≤ b.says
  still_said = let old = runs.in_bounds.said in omega (arith, old)

  -- what is common to both
  module _ (m : ItemMove) (one : IsOneDevice i w (moved m w)) (fits : FitsHere (moved m w)) (there : slice_get (moved m w).devices i ≡ Some gone) (follows : WorldFollows who r.logins (moved m w) r.view (Drops ∷ [])) where
    reached : LinkReached r.view
    reached = prompt_runs awaits r.view r.prompt

    abbrev done : (end : Sessions) × DoesInterleaved stanzas_read (labels_of follows.moves) r.device.sessions end × IsDevice stanzas_read (seen follows.next) end
    done = moves_done stanzas_read follows.moves r.view follows.next r.device.sessions reached follows.leads r.sessions

    abbrev g : DeviceGoes schedule (moved m w) i o (history_for schedule x.takes o) (Drops ∷ []) r.device.sessions r.view
    g = record {
      logins = r.logins;
      view = follows.next;
      leads = (follows.moves, follows.leads, follows.does);
      reached = reached_along follows.moves r.view follows.next reached follows.leads;
      in_time = paging_stays follows.moves r.view follows.next r.device.sessions r.in_time follows.leads follows.prompt r.sessions (subst (λ ds. AreInTime ds r.device.sessions.now) (sym follows.does) tt);
      prompt = prompt_stays follows.moves r.view follows.next r.prompt follows.leads follows.prompt;
      represents = follows.represents;
      end = done.0;
      interleaved = subst (λ ds. DoesInterleaved stanzas_read ds r.device.sessions done.0) follows.does done.1;
      sessions = done.2;
      built = built_along o (history_for schedule x.takes o) follows.moves r.view follows.next reached follows.leads (subst (ArePutBuilt o (history_for schedule x.takes o)) (sym follows.does) tt) r.built;
    }

    session_stepped : (xs : List SessionStep) × (s : Sessions) × SessionSteps xs r.device.sessions s × DoesAll stanzas_read (Drops ∷ []) s g.end
    session_stepped = session_steps_first stanzas_read (Drops ∷ []) r.device.sessions g.end (tt, tt) g.interleaved

    abbrev at : Sessions
    at = session_stepped.1

    -- the session is given up, where there was one
    ends_offline : g.end ≡ goes_offline at
    ends_offline = session_stepped.3.2 ∙ by session_stepped.3.1
      where
        by : Does stanzas_read Drops at session_stepped.3.0 → session_stepped.3.0 ≡ goes_offline at
        by (inl on) = on.1
        by (inr off) = off.1 ∙ sym (ap (λ online. record at { online = online }) (sym off.0))

    client_is : g.represents.device ≡ gone
    client_is = same_Some g.represents.device gone (sym g.represents.there ∙ there)

    represents_there : SubmissionsRepresent c.client at
    represents_there = same_told c.client r.device.sessions at (same_ups session_stepped.0 r.device.sessions at session_stepped.2) r.submissions

    abbrev ClientStep : Type 0
    ClientStep = IsClientStep schedule b says m w x runs i o owned (Drops ∷ []) g Drop at

    sessions_are : IsDevice stanzas_read (seen g.view) (goes_offline at)
    sessions_are = subst (IsDevice stanzas_read (seen g.view)) ends_offline g.sessions

    submissions_are : SubmissionsRepresent g.represents.device.client (goes_offline at)
    submissions_are = subst (λ (d : ItemDevice). SubmissionsRepresent d.client (goes_offline at)) (sym client_is) (forgot_told c.client at represents_there)

    log_is : LogRepresents (keep_in schedule) (history_for schedule x.takes o) g.represents.device.client.log (record r.device.reading { page = None })
    log_is =
        subst (λ (d : ItemDevice). LogRepresents (keep_in schedule) (history_for schedule x.takes o) d.client.log (record r.device.reading { page = None })) (sym client_is)
        (broken_told (keep_in schedule) (history_for schedule x.takes o) c.client r.device.reading r.log).0

    pages_are : g.represents.device.client.pages ≡ r.device.reading.asked
    pages_are = ap (λ (d : ItemDevice). d.client.pages) client_is ∙ r.pages

    flags_are : FlagsRepresent who.account o.device w.server at
    flags_are =
        flags_session_step who r.logins w.server r.view g.view r.device.sessions at g.end session_stepped.0 r.represents.server
        (subst (λ h. ServerRepresents who r.logins h g.view) one.server g.represents.server)
        (link_kept g.view g.reached) r.sessions g.sessions session_stepped.2 (ap (λ (s : Sessions). s.row) ends_offline) r.flags

  -- ---- the session is given up

  forgot_is : moved (Forget i) w ≡ forgot_by i (Some c) w
  forgot_is = ap (λ d. forgot_by i d w) r.represents.there

  forgets_one : IsOneDevice i w (moved (Forget i) w)
  forgets_one = subst (IsOneDevice i w) (sym forgot_is) (one_called i w gone (changed_where c.here pipes.left w.wires) (length_where c.here pipes.left w.wires) (where_same pipes.left (λ v. refl) c.here w.wires))

  forgets_there : slice_get (moved (Forget i) w).devices i ≡ Some gone
  forgets_there = ap (λ (n : ItemWorld). slice_get n.devices i) forgot_is ∙ get_set_same w.devices i c gone r.represents.there

  forgets_fits : FitsHere (moved (Forget i) w)
  forgets_fits = move_fits UpFits DownFits ServerFits ClientFits keep_here takes_any (Forget i) w runs.in_bounds.fits tt

  forgets_follows : WorldFollows who r.logins (moved (Forget i) w) r.view (Drops ∷ [])
  forgets_follows = forget_lifts who r.logins w r.view r.represents (prompt_runs awaits r.view r.prompt)

  pub forget_runs : MoveSimulates schedule b says (Forget i) w x runs
  forget_runs =
      move_runs schedule b says (Forget i) w x runs i o owned forgets_one forgets_fits
      (λ j p is other. forget_leaves (identity_at schedule j p) (runs.simulation.devices j p is).logins w (runs.simulation.devices j p is).view (runs.simulation.devices j p is).represents i other c r.represents.there (of_its_own who r.logins w r.view r.represents j other))
      (Drops ∷ []) (g (Forget i) forgets_one forgets_fits forgets_there forgets_follows)
      (session_stepped (Forget i) forgets_one forgets_fits forgets_there forgets_follows).0
      (at (Forget i) forgets_one forgets_fits forgets_there forgets_follows)
      (session_stepped (Forget i) forgets_one forgets_fits forgets_there forgets_follows).2
      Drop (record {
        may = tt;
        alone = refl;
        account = refl;
        sessions = sessions_are (Forget i) forgets_one forgets_fits forgets_there forgets_follows;
        submissions = submissions_are (Forget i) forgets_one forgets_fits forgets_there forgets_follows;
        log = log_is (Forget i) forgets_one forgets_fits forgets_there forgets_follows;
        pages = pages_are (Forget i) forgets_one forgets_fits forgets_there forgets_follows;
        flags = flags_are (Forget i) forgets_one forgets_fits forgets_there forgets_follows;
        spoken = refl;
        said = still_said;
        within = runs.in_bounds.asked i r.device r.there;
        asked = refl;
        others_asked = λ j d other. refl;
        does = inr refl;
        others_do = λ j other. inl refl;
      })

  -- ---- the stream is closed

  abbrev footer : List ItemOut
  footer = (closes in_items (fed_of c.client)).turn.out.put

  close_is : moved (Close i) w ≡ closed_by i (Some c) w
  close_is = ap (λ d. closed_by i d w) r.represents.there

  closes_one : IsOneDevice i w (moved (Close i) w)
  closes_one =
      subst (IsOneDevice i w) (sym close_is)
      (one_called i w (record { client = (closes in_items (fed_of c.client)).turn.client; here = None }) (changed_where c.here pipes.left (changed_where c.here (put_up footer) w.wires))
      (length_where c.here pipes.left (changed_where c.here (put_up footer) w.wires) ∙ length_where c.here (put_up footer) w.wires)
      (same_twice w.wires (changed_where c.here (put_up footer) w.wires) (changed_where c.here pipes.left (changed_where c.here (put_up footer) w.wires)) (where_same (put_up footer) (λ v. refl) c.here w.wires)
      (where_same pipes.left (λ v. refl) c.here (changed_where c.here (put_up footer) w.wires))))

  closes_there : slice_get (moved (Close i) w).devices i ≡ Some gone
  closes_there =
      ap (λ (n : ItemWorld). slice_get n.devices i) close_is ∙ get_set_same w.devices i c (record { client = (closes in_items (fed_of c.client)).turn.client; here = None }) r.represents.there
      ∙ ap (λ client. Some (record { client = client; here = None })) (close_client c.client)

  closes_fits : FitsHere (moved (Close i) w)
  closes_fits = move_fits UpFits DownFits ServerFits ClientFits keep_here takes_any (Close i) w runs.in_bounds.fits tt

  closes_follows : WorldFollows who r.logins (moved (Close i) w) r.view (Drops ∷ [])
  closes_follows = close_lifts who r.logins w r.view r.represents (prompt_runs awaits r.view r.prompt)

  pub close_runs : MoveSimulates schedule b says (Close i) w x runs
  close_runs =
      move_runs schedule b says (Close i) w x runs i o owned closes_one closes_fits
      (λ j p is other. close_leaves (identity_at schedule j p) (runs.simulation.devices j p is).logins w (runs.simulation.devices j p is).view (runs.simulation.devices j p is).represents i other c r.represents.there (of_its_own who r.logins w r.view r.represents j other))
      (Drops ∷ []) (g (Close i) closes_one closes_fits closes_there closes_follows)
      (session_stepped (Close i) closes_one closes_fits closes_there closes_follows).0
      (at (Close i) closes_one closes_fits closes_there closes_follows)
      (session_stepped (Close i) closes_one closes_fits closes_there closes_follows).2
      Drop (record {
        may = tt;
        alone = refl;
        account = refl;
        sessions = sessions_are (Close i) closes_one closes_fits closes_there closes_follows;
        submissions = submissions_are (Close i) closes_one closes_fits closes_there closes_follows;
        log = log_is (Close i) closes_one closes_fits closes_there closes_follows;
        pages = pages_are (Close i) closes_one closes_fits closes_there closes_follows;
        flags = flags_are (Close i) closes_one closes_fits closes_there closes_follows;
        spoken = refl;
        said = still_said;
        within = runs.in_bounds.asked i r.device r.there;
        asked = refl;
        others_asked = λ j d other. refl;
        does = inr refl;
        others_do = λ j other. inl refl;
      })
