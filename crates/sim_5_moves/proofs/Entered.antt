-- The client reads that its stanzas are counted: it puts the first two.
use Rattle.std.proofs.Common.{◌≡◌, ◌≢◌, ◌≤◌, ◌+◌, ℕ, false, List, [], ◌∷◌, ◌++◌, drop, length, refl, sym, ap, ap₂, subst, ◌∙◌, append_assoc, arith}
use Rattle.std.proofs.lemmas.List.{length-drop}
use Rattle.mam_archive.specs.Entries.{EntryView}
use Rattle.cl_handlers.specs.Clients.{ClientStep}
use Rattle.cl_handlers.specs.SessionRows.{begins}
use Rattle.cl_handlers.specs.Speech.{in_items}
use Rattle.sim_5_moves.proofs.ClientsStepped.{IsSteppedTo, stepped_to}
use Rattle.sim_3_items.specs.Labels.{Enters, Label, Says}
use Rattle.sim_3_items.specs.Reading.{noted}
use Rattle.sim_3_items.proofs.ItemsUp.{carbons_read, presence_read}
use Rattle.sim_3_items.specs.Items.{stanzas_read}
use Rattle.sim_3_items.specs.ItemMoves.{Down}
use Rattle.sim_3_items.specs.ItemWorlds.{ItemDevice, ItemWorld, silent_client_step}
use Rattle.sim_2_events.proofs.Acts.{first_two}
use Rattle.sim_2_events.specs.Acts.{MayAct}
use Rattle.sim_2_events.specs.Lists.{knows}
use Rattle.sim_5_devices.specs.InTime.{AreInTime}
use Rattle.sim_5_devices.specs.Shown.{LogRepresents}
use Rattle.sim_5_moves.proofs.Acting.{act_reaches, act_spoken}
use Rattle.im_requests.specs.Sessions.{available_item, carbons_item}
use Rattle.sm_resumption.specs.Previds.{previd_of}
use Rattle.cmd_schedule.specs.Contents.{Owned}
use Rattle.cmd_schedule.specs.Schedules.{WireView}
use Rattle.sim_5_devices.proofs.Sorted.{enable_at, session_steps_first}
use Rattle.sim_5_devices.specs.Labels.{Binds, Counts, DoesAll, DoesInterleaved, Ends, SessionStep, SessionSteps, session_step_events, session_stepped}
use Rattle.sim_3_items.specs.Built.{IsUpAs}
use Rattle.sim_3_items.specs.Submitted.{SubmissionsRepresent}
use Rattle.sim_1_applications.specs.Devices.{AppWorld, Counted, Device, Known, Named, Session, Sessions, up_put}
use Rattle.sim_1_applications.specs.Events.{At, ReadEnabled, goes_online, put_up}
use Rattle.sim_1_applications.specs.Kept.{IsSession}
use Rattle.sim_1_applications.specs.Stanzas.{Carbons, Presence, Up}
use Rattle.sim_5_moves.proofs.SessionWordsComing as coming
use Rattle.sim_5_moves.proofs.SessionWordsComing.{Coming, IsHeard, acted_by, between_both, end, flags_there, heard_runs, history, interleaved, old, t}
use Rattle.sim_5_devices.proofs.SubmissionsEnds.{entered_told}
use Rattle.sim_5_devices.proofs.Served.{same_told}
use Rattle.sim_5_devices.specs.Told.{SameUps}
use Rattle.sim_5_moves.specs.Going.{ArePutBuilt}
use Rattle.sim_5_moves.specs.Running.{Bounds, DeviceSimulates, MoveSimulates, keep_in}
use Rattle.xml_writer.specs.Items.{ItemOut}

abbrev enters : List (Label ItemOut)
enters = Enters ∷ Says carbons_item ∷ Says available_item ∷ []

abbrev entered : Sessions → Sessions
entered d = put_up Presence (put_up Carbons (knows d))

-- ---- the sessions

enters_so : (there last : Sessions) → DoesAll stanzas_read enters there last → MayAct ReadEnabled there × (last ≡ entered there)
enters_so there last (one, (may, is), (two, (on, at), (three, (still, so), same))) = (
  may,
  same ∙ so ∙ ap (λ z. put_up z two) presence_read ∙ ap (put_up Presence) (at ∙ ap (λ z. put_up z one) carbons_read ∙ ap (put_up Carbons) is),
)

-- what the client knows to be counted stays so
still_known : (xs : List SessionStep) (d last : Sessions) → SessionSteps xs d last → d.now.stage ≡ Known → last.now.stage ≡ Known
still_known [] d last same known = ap (λ (s : Sessions). s.now.stage) same ∙ known
still_known (Binds ∷ xs) d last by known = still_known xs (session_stepped Binds d) last by.1 known
still_known (Counts ∷ xs) d last by known = absurd (let both : Known ≡ Named = sym known ∙ (enable_at d by.0).1 in let no_way : ⊥ = cc in no_way)
still_known (Ends ∷ xs) d last by known = still_known xs (session_stepped Ends d) last by.1 known

one_more : (acked most : ℕ) (l : List Up) → length l ≤ most → most + 1 ≤ 1000 → length (drop acked l) + 1 ≤ 1000
one_more acked most l few room = let e = length-drop acked l in omega arith

-- both are put where nothing else waits
enters_timely : (s : Session) → up_put s ≡ [] → AreInTime enters s
enters_timely s none = (
  one_more s.acked 0 (up_put s) (let few : length (up_put s) ≡ 0 = ap length none in omega (arith, few)) (omega arith),
  (
    one_more s.acked 1 (s.up_got ++ (s.up_rest ++ Carbons ∷ []))
        (let few : length (s.up_got ++ (s.up_rest ++ Carbons ∷ [])) ≡ 1 = ap length (sym (append_assoc s.up_got s.up_rest (Carbons ∷ [])) ∙ ap (λ l. l ++ Carbons ∷ []) none) in omega (arith, few))
        (omega arith),
    tt,
  ),
)

enters_built : (o : Owned) (entries : List EntryView) → ArePutBuilt o entries enters
enters_built o entries = (subst (λ y. IsUpAs o y carbons_item) (sym carbons_read) refl, (subst (λ y. IsUpAs o y available_item) (sym presence_read) refl, tt))

same_entered : (d there : Sessions) → IsSteppedTo d there → SameUps (entered d) (entered there)
same_entered d there by = record {
  past = by.past;
  n = by.n;
  online = refl;
  acked = by.acked;
  put = ap₂ (λ got rest. got ++ ((rest ++ Carbons ∷ []) ++ Presence ∷ [])) by.up_got by.up_rest;
}

-- ---- the word

module _ (schedule : WireView) (b : Bounds) (says : ℕ) (w : ItemWorld) (x : AppWorld) (c : Coming schedule b says w x) where
  abbrev i : ℕ
  i = c.wire.device

  abbrev was : DeviceSimulates schedule w x i c.o
  was = old schedule b says w x c

  abbrev d : ItemDevice
  d = coming.d schedule b says w x c

  abbrev before : ClientStep ItemOut ItemOut
  before = silent_client_step d.client

  module _ (m : ℕ) (turn : t schedule b says w x c ≡ begins in_items before (previd_of m)) where
    notes_so : noted (t schedule b says w x c).out.notes ≡ enters
    notes_so = ap (λ (u : ClientStep ItemOut ItemOut). noted u.out.notes) turn

    sorted : (xs : List SessionStep) × (there : Sessions) × SessionSteps xs was.device.sessions there × DoesAll stanzas_read enters there (end schedule b says w x c)
    sorted =
        session_steps_first stanzas_read enters was.device.sessions (end schedule b says w x c) (tt, (tt, (tt, tt)))
        (subst (λ ds. DoesInterleaved stanzas_read ds was.device.sessions (end schedule b says w x c)) notes_so (interleaved schedule b says w x c))

    abbrev there : Sessions
    there = sorted.1

    both : MayAct ReadEnabled there × (end schedule b says w x c ≡ entered there)
    both = enters_so there (end schedule b says w x c) sorted.3

    abbrev stepped_there : Device
    stepped_there = record was.device { sessions = there }

    may : (there.online ≡ false) × (there.now.stage ≡ Counted)
    may = both.0 stepped_there refl

    ends_so : end schedule b says w x c ≡ goes_online there
    ends_so = both.1 ∙ sym (first_two there)

    by : IsSteppedTo was.device.sessions there
    by = stepped_to sorted.0 was.device.sessions there sorted.2

    is_session : IsSession was.device.sessions.now
    is_session = (c.ground.taken.devices i was.device was.there).sessions.now.is_session

    unknown : was.device.sessions.now.stage ≢ Known
    unknown known = (let known_there = still_known sorted.0 was.device.sessions there sorted.2 known in let no : Counted ≡ Known = sym may.1 ∙ known_there in let no_way : ⊥ = cc in no_way)

    none_put : up_put was.device.sessions.now ≡ []
    none_put = ap₂ (λ got rest. got ++ rest) (is_session.up_got unknown) (is_session.up_rest unknown)

    submits : SubmissionsRepresent (begins in_items before (previd_of m)).client (goes_online there)
    submits =
        subst (SubmissionsRepresent (begins in_items before (previd_of m)).client) (sym (first_two there))
        (same_told (begins in_items before (previd_of m)).client (entered was.device.sessions) (entered there) (same_entered was.device.sessions there by)
        (entered_told before was.device.sessions (previd_of m) (record { represents = was.submissions; offline = sym by.online ∙ may.0; session = is_session; unknown = unknown })))

    acts : IsHeard schedule b says w x c (acted_by schedule b says w x c ReadEnabled there)
    acts = record {
      timely = subst (λ ds. AreInTime ds was.device.sessions.now) (sym notes_so) (enters_timely was.device.sessions.now none_put);
      put = subst (ArePutBuilt c.o (history schedule b says w x c)) (sym notes_so) (enters_built c.o (history schedule b says w x c));
      events = session_step_events i sorted.0 ++ At i ReadEnabled ∷ [];
      reaches = act_reaches x i was.device was.there sorted.0 there sorted.2 ReadEnabled may refl;
      silent = act_spoken i sorted.0 ReadEnabled;
      between = λ j. between_both j i sorted.0 [] ReadEnabled tt;
      account = refl;
      ends = ends_so;
      submissions = subst (λ (u : ClientStep ItemOut ItemOut). SubmissionsRepresent u.client (goes_online there)) (sym turn) submits;
      log = subst (λ (u : ClientStep ItemOut ItemOut). LogRepresents (keep_in schedule) (history schedule b says w x c) u.client.log was.device.reading) (sym turn) was.log;
      pages = ap (λ (u : ClientStep ItemOut ItemOut). u.client.pages) turn ∙ was.pages;
      flags = flags_there schedule b says w x c sorted.0 there sorted.2 (ap (λ (s : Sessions). s.row) ends_so);
    }

    abbrev IsRunSo : Type 0
    IsRunSo = MoveSimulates schedule b says (Down c.position) w x c.runs

    pub entered_runs : IsRunSo
    entered_runs = heard_runs schedule b says w x c (acted_by schedule b says w x c ReadEnabled there) acts
