-- The user asks for the archive, and the client takes it.
use Rattle.std.proofs.Common.{◌≡◌, ℕ, ◌+◌, ◌≤◌, ◌==◌, Bool, true, false, [], ◌∷◌, Ok, Some, slice_get, refl, sym, ap, subst, ◌∙◌, if◌then◌else◌, arith}
use Rattle.std.proofs.lemmas.Bool.{eq-eqb}
use Rattle.std.proofs.lemmas.Option.{same_Some}
use Rattle.cl_core.specs.UserCalls as calls
use Rattle.cl_core.specs.UserCalls.{catch_up_answer}
use Rattle.cl_handlers.specs.Clients.{ClientStep}
use Rattle.cl_handlers.specs.Speech.{in_items}
use Rattle.sim_4_links_follow.proofs.ConnectionsElsewhere.{ask_leaves, of_its_own}
use Rattle.sim_4_links_follow.specs.Following.{WorldFollows}
use Rattle.sim_3_images.specs.Relayable.{ClientFits, DownFits, ServerFits, UpFits}
use Rattle.sim_5_devices.proofs.Timely.{asks_in_time}
use Rattle.sim_3_images.specs.Devices.{identity_at}
use Rattle.sim_3_items.specs.Labels.{Says, awaits}
use Rattle.sim_3_items.specs.Identities.{Identity}
use Rattle.sim_3_images.proofs.FittingEncodings.{keep_here, takes_any}
use Rattle.sim_3_images.proofs.MoveSteps.{move_fits}
use Rattle.sim_3_images.specs.Fitting.{MayItem}
use Rattle.sim_3_items.proofs.ItemsUp.{request_read}
use Rattle.sim_3_items.specs.Items.{stanzas_read}
use Rattle.sim_3_items.specs.Meant.{requested}
use Rattle.sim_3_items.specs.Ups.{up_stanza}
use Rattle.sim_3_items.specs.ItemMoves.{CatchUp, ItemMove, caught_up_by, moved, said_in, spoke}
use Rattle.sim_3_items.specs.ItemWorlds.{ItemDevice, ItemWorld, silent_client_step}
use Rattle.sim_2_links.proofs.WithPremises.{prompt_runs}
use Rattle.sim_2_links.specs.Events.{seen}
use Rattle.sim_2_events.specs.Lists.{IsDevice}
use Rattle.sim_5_devices.specs.InTime.{AreInTime, is_query}
use Rattle.sim_5_devices.specs.Shown.{LogRepresents}
use Rattle.sim_5_moves.proofs.Known.{acked, given, last, logged, paged, pages_fit, within}
use Rattle.sim_5_moves.proofs.Spoke as spoken
use Rattle.cmd_schedule.specs.Contents.{Owned}
use Rattle.cmd_schedule.specs.Schedules.{WireView}
use Rattle.cmd_schedule.specs.LineLists.{IsLineList}
use Rattle.sim_3_items.specs.Built.{IsUpAs}
use Rattle.sim_3_items.specs.Submitted.{SubmissionsRepresent}
use Rattle.sim_1_applications.specs.Devices.{AppWorld, Device, Sessions, first_of}
use Rattle.sim_1_applications.specs.Events as events
use Rattle.sim_1_applications.specs.Stanzas.{Query, Request}
use Rattle.sim_5_devices.proofs.Asking.{asks_log, asks_may, asks_pages, asks_put, asks_represents, request_built}
use Rattle.sim_5_devices.specs.Told.{IsAcked, IsCatchingUp, next_request}
use Rattle.sim_5_moves.proofs.Turning.{acted_by, move_runs}
use Rattle.sim_4_links_follow.proofs.Downs.{ask_in}
use Rattle.sim_5_moves.specs.Going.{DeviceGoes}
use Rattle.sim_5_moves.specs.Running.{AreSmall, Bounds, DeviceSimulates, IsInBounds, IsOwned, MoveSimulates, WorldSimulates, history_for, keep_in}
use Rattle.xml_writer.specs.Items.{ItemOut}
use Rattle.sim_5_moves.proofs.Doing.{asked_does, asks_beside}

-- one more is asked for by the device whose user asks
one_more : (n i : ℕ) → n + 1 ≤ n + (if i == i then 1 else 0)
one_more n i = subst (λ is. n + 1 ≤ n + (if is then 1 else 0)) (sym (eq-eqb i i refl)) (omega arith)

more_or_none : (n : ℕ) (is : Bool) → n ≤ n + (if is then 1 else 0)
more_or_none n true = omega arith
more_or_none n false = omega arith

module _ (schedule : WireView) (right : IsLineList schedule) (b : Bounds) (small : AreSmall b) (says : ℕ) (w : ItemWorld) (x : AppWorld) (runs : WorldSimulates schedule b says w x) (i : ℕ) (o : Owned) (owned : IsOwned schedule i o) (most : ℕ)
    (some : 1 ≤ most) (low : most ≤ 100) (more : (d : Device) → slice_get x.devices i ≡ Some d → d.reading.asked ≤ b.pages) (taken : catch_up_answer (runs.simulation.devices i o owned).represents.device.client ≡ Ok tt) where
  abbrev r : DeviceSimulates schedule w x i o
  r = runs.simulation.devices i o owned

  abbrev who : Identity
  who = identity_at schedule i o

  abbrev c : ItemDevice
  c = r.represents.device

  abbrev m : ItemMove
  m = CatchUp i most

  abbrev t : ClientStep ItemOut ItemOut
  t = calls.catches_up in_items (silent_client_step c.client) most

  abbrev asked : Request
  asked = next_request r.device.reading most

  abbrev z : ItemOut
  z = requested asked

  -- the device with these sessions, and the same reading
  abbrev with_sessions : Sessions → Device
  with_sessions d = record r.device { sessions = d }

  catching : (d : Sessions) → SubmissionsRepresent c.client d → IsAcked d → IsCatchingUp (keep_in schedule) (history_for schedule x.takes o) c.client (with_sessions d) most
  catching d represents acknowledged = record {
    represents = represents;
    acked = acknowledged;
    log = r.log;
    pages = r.pages;
    given = given schedule right b small says w x runs i o owned;
    first = first_of x.keep (last schedule right b small says w x runs i o owned);
    last = last schedule right b small says w x runs i o owned;
    runs = logged schedule right b small says w x runs i o owned;
    taken = taken;
    some = some;
    few = low;
    pages_fit = pages_fit schedule right b small says w x runs i o owned;
  }

  acked_before : IsAcked r.device.sessions
  acked_before = acked schedule right b small says w x runs i o owned

  before : IsCatchingUp (keep_in schedule) (history_for schedule x.takes o) c.client r.device most
  before = catching r.device.sessions r.submissions acked_before

  moved_is : moved m w ≡ spoke i c t w
  moved_is = ap (λ d. caught_up_by i most d w) r.represents.there ∙ ap (λ answer. said_in answer i c t w) taken

  built : IsUpAs o (Query asked) z
  built = request_built (keep_in schedule) (history_for schedule x.takes o) c.client r.device most before o

  read : up_stanza z ≡ Query asked
  read = request_read asked built.1

  may_before : events.May (events.CatchUp most) r.device
  may_before = asks_may (keep_in schedule) (history_for schedule x.takes o) c.client r.device most before

  timely : AreInTime (Says z ∷ []) r.device.sessions.now
  timely = asks_in_time r.device z (paged schedule right b small says w x runs i o owned) may_before.0 may_before.1 (ap is_query read)

  follows : WorldFollows who r.logins (moved m w) r.view (Says z ∷ [])
  follows =
      subst (WorldFollows who r.logins (moved m w) r.view) (asks_put (keep_in schedule) (history_for schedule x.takes o) c.client r.device most before)
      (ask_in who r.logins w r.view c r.represents (prompt_runs awaits r.view r.prompt) r.represents.there (within schedule right b small says w x runs i o owned) most (omega (arith, low)) taken)

  abbrev g : DeviceGoes schedule (moved m w) i o (history_for schedule x.takes o) (Says z ∷ []) r.device.sessions r.view
  g = spoken.g schedule b says w x runs i o owned m t z (Query asked) moved_is read built timely follows

  abbrev at : Sessions
  at = spoken.at schedule b says w x runs i o owned m t z (Query asked) moved_is read built timely follows

  abbrev there : Device
  there = with_sessions at

  abbrev new : Device
  new = acted_by schedule b says m w x runs i o owned (events.CatchUp most) at

  following : IsCatchingUp (keep_in schedule) (history_for schedule x.takes o) c.client there most
  following =
      catching at (spoken.represents_at schedule b says w x runs i o owned m t z (Query asked) moved_is read built timely follows)
      (spoken.acked_at schedule b says w x runs i o owned m t z (Query asked) moved_is read built timely follows acked_before)

  -- the archive's last number, as the application has it
  abbrev began : ℕ
  began = (events.around x r.device).last

  client_is : g.represents.device ≡ record c { client = t.client }
  client_is = spoken.client_is schedule b says w x runs i o owned m t z (Query asked) moved_is read built timely follows

  sessions_are : IsDevice stanzas_read (seen g.view) new.sessions
  sessions_are =
      subst (IsDevice stanzas_read (seen g.view)) (spoken.end_is schedule b says w x runs i o owned m t z (Query asked) moved_is read built timely follows) g.sessions

  submissions_are : SubmissionsRepresent g.represents.device.client new.sessions
  submissions_are =
      subst (λ (d : ItemDevice). SubmissionsRepresent d.client new.sessions) (sym client_is)
      (asks_represents (keep_in schedule) (history_for schedule x.takes o) c.client there most following began)

  log_is : LogRepresents (keep_in schedule) (history_for schedule x.takes o) g.represents.device.client.log new.reading
  log_is =
      subst (λ (d : ItemDevice). LogRepresents (keep_in schedule) (history_for schedule x.takes o) d.client.log new.reading) (sym client_is)
      (asks_log (keep_in schedule) (history_for schedule x.takes o) c.client there most following began)

  pages_are : g.represents.device.client.pages ≡ new.reading.asked
  pages_are = ap (λ (d : ItemDevice). d.client.pages) client_is ∙ asks_pages (keep_in schedule) (history_for schedule x.takes o) c.client there most following

  still_said : says + 0 ≤ b.says
  still_said = let old = runs.in_bounds.said in omega (arith, old)

  bounded : r.device.reading.asked + 1 ≤ b.pages + 1
  bounded = let few = more r.device r.there in omega (arith, few)

  pub request_runs : MoveSimulates schedule b says m w x runs
  request_runs =
      move_runs schedule b says m w x runs i o owned
      (spoken.one_device schedule b says w x runs i o owned m t z (Query asked) moved_is read built timely follows)
      (move_fits UpFits DownFits ServerFits ClientFits keep_here takes_any m w runs.in_bounds.fits (some, low))
      (λ j p is other.
      ask_leaves (identity_at schedule j p) (runs.simulation.devices j p is).logins w (runs.simulation.devices j p is).view (runs.simulation.devices j p is).represents i other c r.represents.there (of_its_own who r.logins w r.view r.represents j other) most)
      (Says z ∷ []) g
      (spoken.session_stepped schedule b says w x runs i o owned m t z (Query asked) moved_is read built timely follows).0 at
      (spoken.session_stepped schedule b says w x runs i o owned m t z (Query asked) moved_is read built timely follows).2
      (events.CatchUp most) (record {
        may = asks_may (keep_in schedule) (history_for schedule x.takes o) c.client there most following;
        alone = refl;
        account = refl;
        sessions = sessions_are;
        submissions = submissions_are;
        log = log_is;
        pages = pages_are;
        flags = spoken.flags_at schedule b says w x runs i o owned m t z (Query asked) moved_is read built timely follows;
        spoken = refl;
        said = still_said;
        within = bounded;
        asked = one_more r.device.reading.asked i;
        others_asked = λ j d other. more_or_none d.reading.asked (j == i);
        does = asked_does w i most c r.represents.there taken (Says z ∷ []) (asks_put (keep_in schedule) (history_for schedule x.takes o) c.client r.device most before);
        others_do = asks_beside w i most;
      })

-- of whichever device of the world
pub requests_run : (schedule : WireView) (b : Bounds) (says : ℕ) (w : ItemWorld) (x : AppWorld) → IsLineList schedule → AreSmall b → (runs : WorldSimulates schedule b says w x) → (i : ℕ) (o : Owned) → IsOwned schedule i o → (d : ItemDevice) → slice_get w.devices i ≡ Some d
    → (most : ℕ) → MayItem (CatchUp i most) → IsInBounds b says (CatchUp i most) w x → catch_up_answer d.client ≡ Ok tt → MoveSimulates schedule b says (CatchUp i most) w x runs
requests_run schedule b says w x right small runs i o owned d there most may more taken =
    let r = runs.simulation.devices i o owned in
    let same = same_Some d r.represents.device (sym there ∙ r.represents.there) in
    request_runs schedule right b small says w x runs i o owned most may.0 may.1 more (subst (λ (e : ItemDevice). catch_up_answer e.client ≡ Ok tt) same taken)
