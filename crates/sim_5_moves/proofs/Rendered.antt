-- What the client of a device does on the next stanza, and what the device of the applications does.
use Rattle.std.proofs.Common.{◌≡◌, ℕ, ◌+◌, ◌≤◌, ◌<◌, ◌^◌, ◌==◌, Bool, true, false, List, [], ◌∷◌, ◌++◌, Option, Some, None, length, inl, inr, refl, sym, ap, subst, ◌∙◌, append-nil, arith}
use Rattle.std.proofs.lemmas.Bool.Decides.{eqb_tells}
use Rattle.std.specs.List.{AllByRecursion, slice_get}
use Rattle.std.specs.Option.{IfSome}
use Rattle.mam_archive.specs.Entries.{EntryView}
use Rattle.cl_handlers.specs.Clients.{ClientStep}
use Rattle.cl_handlers.specs.declared.account.Account.{Account}
use Rattle.sim_5_moves.proofs.ClientsStepped.{IsSteppedTo, same_ups, stepped_to}
use Rattle.sim_5_moves.proofs.Next.{IsNextRead, IsNextStanza, next_read}
use Rattle.sim_3_images.specs.Devices.{identity_at}
use Rattle.sim_3_items.specs.Labels.{Label, Reads, says_all}
use Rattle.sim_3_items.specs.Reading.{client_step_on, noted}
use Rattle.sim_3_items.specs.Servers.{ServerRepresents}
use Rattle.sim_5_moves.proofs.FlagsKeptFlags.{flags_session_step}
use Rattle.sim_3_items.proofs.ItemsUp.{request_read}
use Rattle.sim_3_items.specs.Downs.{down_stanza}
use Rattle.sim_3_items.specs.Items.{stanzas_read}
use Rattle.sim_3_items.specs.Meant.{IsRequest, requested}
use Rattle.sim_3_items.specs.ItemWorlds.{ItemDevice, ItemWorld}
use Rattle.sim_2_links.specs.Events.{seen}
use Rattle.sim_2_links.specs.Links.{LinkKept}
use Rattle.sim_2_links.specs.Views.{View}
use Rattle.sim_2_events.specs.Lists.{IsDevice}
use Rattle.sim_5_devices.specs.Shown.{IsReadingGiven}
use Rattle.sim_5_moves.proofs.Acting.{act_reaches}
use Rattle.sm_outbox.specs.Sessions.{SessionView, with_waiting}
use Rattle.sm_outbox.specs.Waiting.{Waiting, counted_in, is_full}
use Rattle.sim_5_devices.proofs.Next.{counted, well}
use Rattle.sim_5_devices.proofs.Readings.{page_short, reading_given}
use Rattle.cmd_schedule.specs.Contents.{Owned}
use Rattle.cmd_schedule.specs.Grammar.{is_name}
use Rattle.cmd_schedule.specs.Schedules.{WireView}
use Rattle.sim_5_devices.proofs.Sorted.{session_steps_first}
use Rattle.sim_5_devices.specs.Labels.{DoesAll, DoesInterleaved, IsPlain as IsPlainLabel, SessionStep, SessionSteps, session_step_events, with_device}
use Rattle.sim_3_items.specs.Built.{IsUpAs}
use Rattle.sim_3_items.specs.Served.{FlagsRepresent}
use Rattle.sim_3_items.specs.Submitted.{SubmissionsRepresent}
use Rattle.sim_1_applications.specs.Devices.{AppWorld, Device, Reading, Sessions}
use Rattle.sim_1_applications.specs.Events as events
use Rattle.sim_1_applications.specs.Events.{AppEvent, Around, At, ClientHandles, Reaches, Reaction, around, moved_down, put_all, queries, reacted, reads}
use Rattle.sim_1_applications.specs.Kept.{Read, Taken}
use Rattle.sim_1_applications.specs.Stanzas.{Query, Request}
use Rattle.sim_1_applications.specs.Reported.{history_at}
use Rattle.sim_1_applications.specs.Runs.{owned_of}
use Rattle.sim_5_devices.proofs.Logged.{stanza_done}
use Rattle.sim_5_devices.specs.Logged.{HasRoomFor, IsCounted, IsOnline, IsReadAs, puts_of, waits_after}
use Rattle.sim_5_devices.specs.Plain.{IsPlain}
use Rattle.sim_5_devices.proofs.Puts.{reaction_told}
use Rattle.sim_5_devices.proofs.Served.{same_told}
use Rattle.sim_5_devices.specs.Told.{queued_where}
use Rattle.sim_5_moves.specs.Running.{DeviceSimulates, history_for, keep_in}
use Rattle.xml_writer.specs.Items.{ItemOut}

-- what is known before: of the world of the applications, of the device's names, and of its numbers
pub record IsReadable (schedule : WireView) (w : ItemWorld) (x : AppWorld) (i : ℕ) (o : Owned) (old : DeviceSimulates schedule w x i o) (z : ItemOut) : Type 0 where
  pub taken : Taken x
  pub read : Read x
  pub keeps : x.keep ≡ keep_in schedule
  pub account_named : is_name o.account ≡ true
  pub device_named : is_name o.device ≡ true
  pub next : IsNextStanza old.view old.represents.device z
  pub plain : IsPlain (history_for schedule x.takes o)
  pub few : length x.takes < 2 ^ 64
  pub more : old.device.reading.asked + 1 < 2 ^ 64
  pub short : length next.session.waiting.queue ≤ 1002

-- ---- small facts

not_full : (n : ℕ) → n ≤ 1002 → (n == 10000) ≡ false
not_full n few = elim (eqb_tells n 10000) [
  | inl full ↦ absurd (let is = full.1 in omega (arith, is, few))
  | inr other ↦ other.0
]

room_for : (s : SessionView ItemOut) (r : Option Request) → length s.waiting.queue ≤ 1002 → HasRoomFor s r
room_for s None few = tt
room_for s (Some r) few = not_full (length s.waiting.queue) few

all_plain : (z : ItemOut) (r : Option Request) → AllByRecursion IsPlainLabel (Reads z ∷ says_all (puts_of r))
all_plain z None = (tt, tt)
all_plain z (Some r) = (tt, (tt, tt))

is_request : (o : Owned) (r : Option Request) → IfSome r (λ r. IsUpAs o (Query r) (requested r)) → IfSome r IsRequest
is_request o None is = tt
is_request o (Some r) is = is.1

same_waiting : (w : Waiting ItemOut) (r : Option Request) → waits_after w r ≡ queued_where r (counted_in w)
same_waiting w None = refl
same_waiting w (Some r) = refl

-- what the sessions are behind a request that may be put
puts_end : (r : Option Request) (s end : Sessions) → IfSome r IsRequest → DoesAll stanzas_read (says_all (puts_of r)) s end → end ≡ put_all (queries r) s
puts_end None s end is same = same ∙ sym (ap (λ l. record s { now = record s.now { up_rest = l } }) (append-nil s.now.up_rest))
puts_end (Some r) s end is done = done.2 ∙ done.1.1 ∙ ap (λ y. put_all (y ∷ []) s) (request_read r is)

-- ---- the turn

module _ (schedule : WireView) (w : ItemWorld) (x : AppWorld) (i : ℕ) (o : Owned) (old : DeviceSimulates schedule w x i o) (z : ItemOut) (k : IsReadable schedule w x i o old z) where
  abbrev d : ItemDevice
  d = old.represents.device

  abbrev b : Reading
  b = old.device.reading

  abbrev a : Around
  a = around x old.device

  abbrev t : ClientStep ItemOut ItemOut
  t = client_step_on z d

  abbrev history : List EntryView
  history = history_for schedule x.takes o

  abbrev pub reaction : Reaction
  reaction = reads a (down_stanza z) b

  abbrev s : SessionView ItemOut
  s = k.next.session

  nr : IsNextRead o history z old.device.sessions
  nr = next_read old.view d z k.next old.device.sessions old.sessions o history old.built

  known_given : IsReadingGiven history b
  known_given = subst (λ account. IsReadingGiven (history_at (owned_of schedule) x.takes account) b) old.account (reading_given x k.read i old.device old.there (owned_of schedule) k.few)

  online : IsOnline o (keep_in schedule) history d s b
  online = record {
    account_named = k.account_named;
    device_named = k.device_named;
    bare = ap (λ (u : Account). u.bare) old.represents.client.account;
    online = k.next.online;
    session = k.next.has;
    log = old.log;
    given = known_given;
    pages = old.pages;
    more = k.more;
    most = page_short x k.read i old.device old.there;
  }

  pub read_so : IsReadAs o (keep_in schedule) history d s z reaction t
  read_so =
      (stanza_done o (keep_in schedule) history d s b z a online k.plain nr.built
      (subst (λ keep. IsCounted keep a b.page (down_stanza z)) k.keeps (counted x k.read i old.device old.there nr.online (down_stanza z) nr.rest nr.first))
      (well x k.read i old.device old.there nr.online (down_stanza z) nr.rest nr.first k.taken)).goes_on (room_for s reaction.request k.short)

  pub asked_well : IfSome reaction.request IsRequest
  asked_well = is_request o reaction.request read_so.request

  -- ---- the device of the applications

  module _ (end : Sessions) (interleaved : DoesInterleaved stanzas_read (Reads z ∷ says_all (puts_of reaction.request)) old.device.sessions end) where
    pub sorted : (xs : List SessionStep) × (there : Sessions) × SessionSteps xs old.device.sessions there × DoesAll stanzas_read (Reads z ∷ says_all (puts_of reaction.request)) there end
    sorted = session_steps_first stanzas_read (Reads z ∷ says_all (puts_of reaction.request)) old.device.sessions end (all_plain z reaction.request) interleaved

    abbrev pub session_steps : List SessionStep
    session_steps = sorted.0

    abbrev there : Sessions
    there = sorted.1

    to_there : IsSteppedTo old.device.sessions there
    to_there = stepped_to session_steps old.device.sessions there sorted.2

    abbrev session_stepped : Device
    session_stepped = record old.device { sessions = there }

    abbrev pub following : Device
    following = reacted reaction (down_stanza z) sorted.3.1.rest session_stepped

    pub ends_so : end ≡ following.sessions
    ends_so =
        puts_end reaction.request sorted.3.0 end asked_well sorted.3.2
        ∙ ap (λ next. put_all (queries reaction.request) next) sorted.3.1.is

    some_rest : 1 ≤ length there.now.down_rest
    some_rest = subst (λ l. 1 ≤ length l) (sym sorted.3.1.first) (omega arith)

    pub reaches_so : Reaches (session_step_events i session_steps ++ At i ClientHandles ∷ []) x (with_device i following x)
    reaches_so =
        subst (λ e. Reaches (session_step_events i session_steps ++ At i ClientHandles ∷ []) x (with_device i e x)) (ap (λ l. events.read a l session_stepped) sorted.3.1.first)
        (act_reaches x i old.device old.there session_steps there sorted.2 ClientHandles (to_there.online ∙ nr.online, some_rest) refl)

    acked : there.now.acked ≤ length there.now.up_got
    acked =
        (let low = (k.taken.devices i old.device old.there).sessions.now.is_session.acked in
        subst (λ n. n ≤ length there.now.up_got) (sym to_there.acked) (subst (λ l. old.device.sessions.now.acked ≤ length l) (sym to_there.up_got) low))

    pub submits_so : SubmissionsRepresent t.client following.sessions
    submits_so =
        reaction_told d.client t.client there s (down_stanza z) sorted.3.1.rest reaction.request (same_told d.client old.device.sessions there (same_ups old.device.sessions there to_there) old.submissions) acked
        (record { epoch = read_so.epoch; n = read_so.n; said = read_so.said }) k.next.has
        (read_so.session ∙ ap (λ q. Some (with_waiting s q)) (same_waiting s.waiting reaction.request))

    -- the session at the server is the same
    pub flags_so : (next : View ItemOut) → ServerRepresents (identity_at schedule i o) old.logins w.server next → LinkKept next → IsDevice stanzas_read (seen next) end → FlagsRepresent (identity_at schedule i o).account o.device w.server following.sessions
    flags_so next after kept is =
        flags_session_step (identity_at schedule i o) old.logins w.server old.view next old.device.sessions there end session_steps old.represents.server after kept old.sessions is sorted.2 (ap (λ (s : Sessions). s.row) ends_so) old.flags
