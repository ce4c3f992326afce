-- The user submits a message, and the client takes it.
use Rattle.std.proofs.Common.{◌≡◌, ℕ, ◌+◌, ◌≤◌, Bool, true, List, [], ◌∷◌, Ok, Some, length, slice_get, refl, sym, ap, subst, ◌∙◌}
use Rattle.std.proofs.lemmas.Option.{same_Some}
use Rattle.cl_core.specs.UserCalls as calls
use Rattle.cl_core.specs.UserCalls.{say_answer}
use Rattle.cl_handlers.specs.Clients.{ClientStep}
use Rattle.cl_handlers.specs.Speech.{in_items}
use Rattle.sim_4_links_follow.proofs.Addressed.{account_address}
use Rattle.sim_4_links_follow.proofs.ConnectionsElsewhere.{of_its_own, say_leaves}
use Rattle.sim_4_links_follow.specs.Following.{WorldFollows}
use Rattle.sim_3_images.specs.Relayable.{ClientFits, DownFits, ServerFits, UpFits}
use Rattle.sim_5_devices.proofs.Timely.{room_to_say, says_in_time}
use Rattle.sim_3_images.specs.Devices.{identity_at}
use Rattle.sim_3_items.specs.Labels.{Says, awaits}
use Rattle.sim_3_items.specs.Identities.{Identity}
use Rattle.sim_3_images.proofs.FittingEncodings.{keep_here, takes_any}
use Rattle.sim_3_images.proofs.MoveSteps.{move_fits}
use Rattle.sim_3_images.specs.Fitting.{MayItem}
use Rattle.sim_3_items.proofs.ItemsUp.{submission_read}
use Rattle.sim_3_items.proofs.TextsTold.{name_again}
use Rattle.sim_3_items.specs.Items.{stanzas_read}
use Rattle.sim_3_items.specs.Meant.{submitted}
use Rattle.sim_3_items.specs.Told.{local_part_of}
use Rattle.sim_3_items.specs.Ups.{up_stanza}
use Rattle.sim_3_items.specs.ItemMoves.{ItemMove, Say, moved, said_by, said_in, spoke}
use Rattle.sim_3_items.specs.ItemWorlds.{ItemDevice, ItemWorld, silent_client_step}
use Rattle.sim_2_links.proofs.WithPremises.{prompt_runs}
use Rattle.sim_2_links.specs.Events.{seen}
use Rattle.sim_2_events.specs.Lists.{IsDevice}
use Rattle.sim_5_devices.specs.InTime.{AreInTime, is_query}
use Rattle.sim_5_devices.specs.Shown.{LogRepresents}
use Rattle.cmd_report.specs.Addresses.{bare_address, domain}
use Rattle.sim_5_moves.proofs.Known.{acked, device_named, numbers_fit, within}
use Rattle.sim_5_moves.proofs.Spoke as spoken
use Rattle.cmd_schedule.specs.Contents.{Owned}
use Rattle.cmd_schedule.specs.Grammar.{is_name, is_text}
use Rattle.cmd_schedule.specs.Schedules.{WireView}
use Rattle.cmd_schedule.specs.LineLists.{IsLineList}
use Rattle.law_limits.proofs.NamesWithin.{text_within}
use Rattle.sim_3_items.specs.Built.{IsUpAs}
use Rattle.sim_3_items.specs.Submitted.{SubmissionsRepresent}
use Rattle.sim_1_applications.specs.Devices.{AppWorld, Sessions}
use Rattle.sim_1_applications.specs.Events as events
use Rattle.sim_1_applications.specs.Histories.{Spoken}
use Rattle.sim_1_applications.specs.Stanzas.{Message, Submission}
use Rattle.sim_5_devices.proofs.Saying.{built_so, says_may, says_put, says_represents, says_same}
use Rattle.sim_5_devices.specs.Told.{IsAcked, IsSaying, SameLog, SameUps, next_submission}
use Rattle.sim_5_moves.proofs.Turning.{move_runs}
use Rattle.sim_4_links_follow.proofs.Downs.{say_in}
use Rattle.sim_5_moves.specs.Going.{DeviceGoes}
use Rattle.sim_5_moves.specs.Running.{AreSmall, Bounds, DeviceSimulates, IsInBounds, IsOwned, MoveSimulates, WorldSimulates, history_for, keep_in, said_at, spoken_by_move, spoken_where}
use Rattle.xml_writer.specs.Items.{ItemOut}
use Rattle.sim_5_moves.proofs.Doing.{said_does, says_beside}

module _ (schedule : WireView) (right : IsLineList schedule) (b : Bounds) (small : AreSmall b) (says : ℕ) (w : ItemWorld) (x : AppWorld) (runs : WorldSimulates schedule b says w x) (i : ℕ) (o : Owned) (owned : IsOwned schedule i o) (name text : List ℕ) (private : Bool)
    (named : is_name name ≡ true) (plain : is_text text ≡ true) (more : says + 1 ≤ b.says) (n : ℕ) (taken : say_answer (runs.simulation.devices i o owned).represents.device.client text ≡ Ok n) where
  abbrev r : DeviceSimulates schedule w x i o
  r = runs.simulation.devices i o owned

  abbrev who : Identity
  who = identity_at schedule i o

  abbrev c : ItemDevice
  c = r.represents.device

  abbrev m : ItemMove
  m = Say i (bare_address name) text private

  abbrev t : ClientStep ItemOut ItemOut
  t = calls.says in_items (silent_client_step c.client) (bare_address name) text private

  abbrev said : Submission
  said = next_submission r.device.sessions name text private

  abbrev z : ItemOut
  z = submitted o.device domain said

  saying : (d : Sessions) → SubmissionsRepresent c.client d → IsAcked d → IsSaying o c.client d name text
  saying d represents acknowledged = record {
    represents = represents;
    acked = acknowledged;
    resource = ap (λ account. account.resource) r.represents.client.account;
    device = device_named schedule right b small says w x runs i o owned;
    n = n;
    taken = taken;
    n_fits = numbers_fit schedule right b small says w x runs i o owned;
    epoch_fits = (within schedule right b small says w x runs i o owned).epoch;
    named = named;
    plain = plain;
  }

  acked_before : IsAcked r.device.sessions
  acked_before = acked schedule right b small says w x runs i o owned

  before : IsSaying o c.client r.device.sessions name text
  before = saying r.device.sessions r.submissions acked_before

  moved_is : moved m w ≡ spoke i c t w
  moved_is = ap (λ d. said_by i (bare_address name) text private d w) r.represents.there ∙ ap (λ answer. said_in answer i c t w) taken

  built : IsUpAs o (Message said) z
  built = built_so o c.client r.device.sessions name text private before

  read : up_stanza z ≡ Message said
  read = submission_read o.device domain said built.1.origin named

  timely : AreInTime (Says z ∷ []) r.device.sessions.now
  timely =
      says_in_time r.device.sessions.now z (ap is_query read)
      (room_to_say who r.logins c r.view r.device.sessions text n (prompt_runs awaits r.view r.prompt) r.represents.client r.sessions taken)

  follows : WorldFollows who r.logins (moved m w) r.view (Says z ∷ [])
  follows =
      subst (WorldFollows who r.logins (moved m w) r.view) (says_put o c.client r.device.sessions name text private before)
      (say_in who r.logins w r.view c r.represents (prompt_runs awaits r.view r.prompt) r.represents.there (within schedule right b small says w x runs i o owned) (bare_address name) text private n (account_address name named) (text_within text plain) taken)

  abbrev g : DeviceGoes schedule (moved m w) i o (history_for schedule x.takes o) (Says z ∷ []) r.device.sessions r.view
  g = spoken.g schedule b says w x runs i o owned m t z (Message said) moved_is read built timely follows

  abbrev at : Sessions
  at = spoken.at schedule b says w x runs i o owned m t z (Message said) moved_is read built timely follows

  same_at : SameUps r.device.sessions at
  same_at = spoken.same_at schedule b says w x runs i o owned m t z (Message said) moved_is read built timely follows

  following : IsSaying o c.client at name text
  following =
      saying at (spoken.represents_at schedule b says w x runs i o owned m t z (Message said) moved_is read built timely follows)
      (spoken.acked_at schedule b says w x runs i o owned m t z (Message said) moved_is read built timely follows acked_before)

  client_is : g.represents.device ≡ record c { client = t.client }
  client_is = spoken.client_is schedule b says w x runs i o owned m t z (Message said) moved_is read built timely follows

  -- by drifts the number of the last message and the epoch stay
  same_said : next_submission at name text private ≡ said
  same_said = λ j. record { epoch = length (same_at.past j); n = same_at.n j + 1; to = name; text = text; private = private }

  says_are : events.says name text private at ≡ record (events.put_up (Message said) at) { n = said.n }
  says_are = ap (λ (y : Submission). record (events.put_up (Message y) at) { n = y.n }) same_said

  sessions_are : IsDevice stanzas_read (seen g.view) (events.says name text private at)
  sessions_are =
      subst (IsDevice stanzas_read (seen g.view)) (sym says_are)
      (spoken.ends_with schedule b says w x runs i o owned m t z (Message said) moved_is read built timely follows said.n)

  submissions_are : SubmissionsRepresent g.represents.device.client (events.says name text private at)
  submissions_are = subst (λ (d : ItemDevice). SubmissionsRepresent d.client (events.says name text private at)) (sym client_is) (says_represents o c.client at name text private following)

  same_log : SameLog c.client t.client
  same_log = says_same o c.client r.device.sessions name text private before

  log_is : LogRepresents (keep_in schedule) (history_for schedule x.takes o) g.represents.device.client.log r.device.reading
  log_is = subst (λ log. LogRepresents (keep_in schedule) (history_for schedule x.takes o) log r.device.reading) (sym (ap (λ (d : ItemDevice). d.client.log) client_is ∙ same_log.log)) r.log

  pages_are : g.represents.device.client.pages ≡ r.device.reading.asked
  pages_are = ap (λ (d : ItemDevice). d.client.pages) client_is ∙ same_log.pages ∙ r.pages

  one_said : spoken_by_move m w ≡ record { device = i; to = name; text = text; private = private } ∷ []
  one_said =
      ap (said_at i (bare_address name) text private) r.represents.there
      ∙ ap (λ answer. spoken_where answer (record { device = i; to = local_part_of (bare_address name); text = text; private = private })) taken
      ∙ ap (λ to. record { device = i; to = to; text = text; private = private } ∷ []) (name_again name domain named)

  pub submission_runs : MoveSimulates schedule b says m w x runs
  submission_runs =
      move_runs schedule b says m w x runs i o owned
      (spoken.one_device schedule b says w x runs i o owned m t z (Message said) moved_is read built timely follows)
      (move_fits UpFits DownFits ServerFits ClientFits keep_here takes_any m w runs.in_bounds.fits (name, refl, named, plain))
      (λ j p is other.
      say_leaves (identity_at schedule j p) (runs.simulation.devices j p is).logins w (runs.simulation.devices j p is).view (runs.simulation.devices j p is).represents i other c r.represents.there (of_its_own who r.logins w r.view r.represents j other) (bare_address name) text private)
      (Says z ∷ []) g
      (spoken.session_stepped schedule b says w x runs i o owned m t z (Message said) moved_is read built timely follows).0 at
      (spoken.session_stepped schedule b says w x runs i o owned m t z (Message said) moved_is read built timely follows).2
      (events.Say name text private) (record {
        may = says_may o c.client at name text private following;
        alone = refl;
        account = refl;
        sessions = sessions_are;
        submissions = submissions_are;
        log = log_is;
        pages = pages_are;
        flags = spoken.flags_at schedule b says w x runs i o owned m t z (Message said) moved_is read built timely follows;
        spoken = sym one_said;
        said = subst (λ (l : List Spoken). says + length l ≤ b.says) (sym one_said) more;
        within = runs.in_bounds.asked i r.device r.there;
        asked = refl;
        others_asked = λ j d other. refl;
        does = said_does w i (bare_address name) text private c n r.represents.there taken (Says z ∷ []) (says_put o c.client r.device.sessions name text private before);
        others_do = says_beside w i (bare_address name) text private;
      })

-- whatever the address is
pub submissions_run : (schedule : WireView) (b : Bounds) (says : ℕ) (w : ItemWorld) (x : AppWorld) → IsLineList schedule → AreSmall b → (runs : WorldSimulates schedule b says w x) → (i : ℕ) (o : Owned) → IsOwned schedule i o → (d : ItemDevice) → slice_get w.devices i ≡ Some d
    → (to text : List ℕ) (private : Bool) → MayItem (Say i to text private) → IsInBounds b says (Say i to text private) w x → (n : ℕ) → say_answer d.client text ≡ Ok n → MoveSimulates schedule b says (Say i to text private) w x runs
submissions_run schedule b says w x right small runs i o owned d there to text private may more n taken =
    let r = runs.simulation.devices i o owned in
    let same = same_Some d r.represents.device (sym there ∙ r.represents.there) in
    subst (λ a. MoveSimulates schedule b says (Say i a text private) w x runs) (sym may.1)
    (submission_runs schedule right b small says w x runs i o owned may.0 text private may.2 may.3 more n (subst (λ (e : ItemDevice). say_answer e.client text ≡ Ok n) same taken))
