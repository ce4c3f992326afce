-- A stanza comes up from a device, in a world of items beside one of the applications.
use Rattle.std.proofs.Common.{◌≡◌, ◌≢◌, ℕ, ◌+◌, ◌<◌, ◌==◌, true, false, List, [], ◌∷◌, Option, Some, None, length, map, slice_get, refl, sym, ap, subst, ◌∙◌, inl, inr, arith}
use Rattle.std.proofs.lemmas.Bool.{and_parts, cases_Bool, eqb-true}
use Rattle.std.proofs.lemmas.Option.{none-some, same_Some}
use Rattle.std.specs.List.{AllByRecursion}
use Rattle.std.specs.Str.{bytes_eq}
use Rattle.mam_archive.specs.Entries.{EntryView}
use Rattle.mam_archive.specs.declared.archive.TheConstants.{GREATEST_NUMBER}
use Rattle.base_lemmas.proofs.Bytes.{same-from_bytes_eq}
use Rattle.sim_5_moves.specs.Ground.{IsGround}
use Rattle.srv_state.specs.State.{ServerState, Step}
use Rattle.srv_state.specs.Steps.{Act}
use Rattle.sim_3_images.proofs.OwnedDevices.{one_name}
use Rattle.sim_3_images.specs.Devices.{identity_at}
use Rattle.sim_3_items.specs.Labels.{awaits, gives_all}
use Rattle.cmd_world.specs.Worlds.{number_at}
use Rattle.sim_2_links.proofs.Expected.{expected_up}
use Rattle.sim_5_moves.proofs.GivenTold.{as_told}
use Rattle.sim_3_items.specs.Identities.{Identity, Login, own_account}
use Rattle.sim_3_items.specs.Pipes.{by_number}
use Rattle.sim_3_items.specs.Servers.{IsRowRepresented}
use Rattle.sim_3_items.specs.ItemMoves.{Up, moved, served_by, served_first, served_item}
use Rattle.sim_3_items.specs.ItemPipes.{ItemWire}
use Rattle.sim_3_items.specs.ItemWorlds.{ItemWorld}
use Rattle.sim_2_links.proofs.WithPremises.{prompt_runs}
use Rattle.sim_2_links.specs.Views.{Row, View}
use Rattle.sim_2_links.specs.Words.{St, Up as UpTraffic}
use Rattle.sm_live.specs.Rule.{IsRule}
use Rattle.sm_live.specs.Sessions.{Session, is_named, session_named, session_of}
use Rattle.sim_5_moves.specs.Done.{acts_on, following}
use Rattle.sim_5_moves.specs.Submits.{AreDeclared, IsSessionAt}
use Rattle.sim_5_moves.specs.Replied.{around_of}
use Rattle.cmd_schedule.specs.Contents.{Owned}
use Rattle.cmd_schedule.specs.Schedules.{WireView}
use Rattle.cmd_schedule.specs.LineLists.{IsLineList}
use Rattle.sim_4_links_follow.specs.Taking.{IsFirst, on_item}
use Rattle.sim_5_moves.proofs.UpBuilt.{stanza_built}
use Rattle.sim_1_applications.proofs.Said.{takes_few}
use Rattle.sim_3_items.specs.Built.{IsUp}
use Rattle.sim_1_applications.proofs.Later.{later_along}
use Rattle.sim_1_applications.proofs.Lists.{all_front}
use Rattle.sim_1_applications.specs.Devices.{AppWorld, first_of, last_of}
use Rattle.sim_1_applications.specs.Events.{around}
use Rattle.sim_1_applications.specs.Runs.{begins, owned_of}
use Rattle.sim_4_links_follow.proofs.HandMoves.{kept_here}
use Rattle.sim_4_links_follow.proofs.Tellings.{given_to_none}
use Rattle.sim_4_links_follow.specs.Given.{IsGiven, IsOfSession, sends_to}
use Rattle.sim_5_moves.specs.Recipients.{IsRecipient}
use Rattle.sim_5_moves.proofs.Goes.{apart_of, device_of}
use Rattle.xml_trees.specs.Trees.{Elem}
use Rattle.sim_3_images.proofs.RuleKept.{found_is, numbered_here}
use Rattle.sim_5_moves.proofs.Stepped.{stanza_step}
use Rattle.sim_5_moves.specs.WordsRunWords.{IsDeviceOf}
use Rattle.cmd_world.proofs.Declares.{are_accounts}
use Rattle.cmd_world.proofs.Traces.{may_run_all}
use Rattle.sim_4_links_follow.specs.Steps.{IsGivenIn, IsOtherRepresented, takes_it, takes_nothing}
use Rattle.sim_5_moves.specs.Going.{ArePutBuilt}
use Rattle.sim_5_moves.specs.Running.{AreSmall, Bounds, DeviceSimulates, IsOwned, WorldSimulates, history_for, keep_in, names_of}
use Rattle.sim_3_items.specs.Built.{IsDown}
use Rattle.xml_writer.specs.Items.{ItemOut}
use Rattle.sim_5_moves.proofs.ReadStanzas.{beside_unread, own_reads, stanza_read}
use Rattle.sim_3_images.specs.Puts.{given_to, given_where, is_put_as_stanza, item_given_first, item_given_on, item_gives, session_for}
use Rattle.sim_3_images.specs.Reads.{item_reads}

-- ---- sessions, and the rows of the links

pub row_session : (row : Option (Row ItemOut)) (found : Option (Session ItemOut)) (r : Row ItemOut) → row ≡ Some r → IsRowRepresented row found → (u : Session ItemOut) × (found ≡ Some u) × (u.shown.number ≡ r.number)
row_session None found r is shown = absurd (none-some r is)
row_session (Some q) None r is shown = absurd shown
row_session (Some q) (Some u) r is shown = (u, refl, shown.number ∙ ap (λ (y : Row ItemOut). y.number) (same_Some q r is))

pub session_row : (row : Option (Row ItemOut)) (found : Option (Session ItemOut)) (s : Session ItemOut) → found ≡ Some s → IsRowRepresented row found → (r : Row ItemOut) × (row ≡ Some r) × (s.shown.number ≡ r.number)
session_row row None s is shown = absurd (none-some s is)
session_row None (Some u) s is shown = absurd shown
session_row (Some r) (Some u) s is shown = (r, refl, ap (λ (y : Session ItemOut). y.shown.number) (sym (same_Some u s is)) ∙ shown.number)

-- ---- what was given

pub all_given : (P : ItemOut → Type 0) (acts : List (Act ItemOut)) (given : List ItemOut) (row after_it : Option (Row ItemOut)) → IsGiven acts given row after_it → ((r : Row ItemOut) → row ≡ Some r → AllByRecursion P (sends_to r.number acts)) → AllByRecursion P given
all_given P acts given None after_it is each = subst (AllByRecursion P) (sym is.0) tt
all_given P acts given (Some r) None is each = all_front P given (is.0 ∷ is.1) (subst (AllByRecursion P) is.2 (each r refl))
all_given P acts given (Some r) (Some n) is each = subst (AllByRecursion P) (sym is.1) (each r refl)

pub given_built : (o : Owned) (history : List EntryView) (zs : List ItemOut) → AllByRecursion (IsDown o history) zs → ArePutBuilt o history (gives_all zs)
given_built o history [] are = tt
given_built o history (z ∷ zs) are = (are.0, given_built o history zs are.1)

-- ---- schedules

pub are_declared : (schedule : WireView) → IsLineList schedule → AreDeclared (owned_of schedule) (names_of schedule)
are_declared schedule right = record { accounts = are_accounts schedule (may_run_all schedule right); devices = λ i j o p at_i at_j same. one_name schedule i j o p right at_i at_j same }

-- ---- the stanza

pub record Coming : Type 0 where
  pub schedule : WireView
  pub right : IsLineList schedule
  pub b : Bounds
  pub small : AreSmall b
  pub says : ℕ
  pub w : ItemWorld
  pub x : AppWorld
  pub runs : WorldSimulates schedule b says w x
  pub ground : IsGround schedule x
  -- it is the next item on a connection of a device
  pub position : ℕ
  pub wire : ItemWire
  pub z : ItemOut
  pub items : List ItemOut
  pub there : slice_get w.wires position ≡ Some wire
  pub pipe : wire.up.items ≡ z ∷ items
  pub o : Owned
  pub owned : IsOwned schedule wire.device o
  pub first : IsFirst (identity_at schedule wire.device o) (runs.simulation.devices wire.device o owned).logins w.server (by_number w.wires) (runs.simulation.devices wire.device o owned).view (position + 1) (UpTraffic (St z))
  pub session : IsOfSession (identity_at schedule wire.device o) w.server z
  -- and so the links of devices move
  pub here : IsGivenIn (identity_at schedule wire.device o) (identity_at schedule wire.device o) (runs.simulation.devices wire.device o owned).logins position w (moved (Up position) w) (runs.simulation.devices wire.device o owned).view z session (takes_it z)
  pub beside : (whom : Identity) (others : ℕ → Login) (u : View ItemOut) → IsOtherRepresented (identity_at schedule wire.device o) whom others w u → IsGivenIn (identity_at schedule wire.device o) whom others position w (moved (Up position) w) u z session (takes_nothing z)

module _ (c : Coming) where
  abbrev pub mine : ℕ
  mine = c.wire.device

  abbrev pub own : Identity
  own = identity_at c.schedule c.wire.device c.o

  abbrev pub old : DeviceSimulates c.schedule c.w c.x c.wire.device c.o
  old = c.runs.simulation.devices c.wire.device c.o c.owned

  abbrev pub server_state : ServerState ItemOut
  server_state = c.w.server

  abbrev pub speaker : Session ItemOut
  speaker = c.session.session

  abbrev pub elem : Elem
  elem = c.session.stanza.elem

  abbrev pub acts : List (Act ItemOut)
  acts = acts_on speaker server_state elem

  abbrev pub after : ItemWorld
  after = served_item c.position c.z c.w

  abbrev pub step : Step ItemOut
  step = on_item (c.position + 1) c.z c.w.server

  pub is_after : moved (Up c.position) c.w ≡ after
  is_after = ap (λ e. served_by c.position e c.w) c.there ∙ ap (λ l. served_first c.position l c.w) c.pipe

  pub step_is : step ≡ following speaker server_state elem
  step_is = stanza_step own old.logins server_state (by_number c.w.wires) old.view (c.position + 1) c.z c.first c.session

  pub rule : IsRule server_state.sessions server_state.next
  rule = c.runs.in_bounds.within.ordered.sessions

  pub built_up : IsUp c.o c.z
  built_up = stanza_built own old.logins server_state (by_number c.w.wires) old.view (c.position + 1) c.z c.first c.o (history_for c.schedule c.x.takes c.o) old.built

  -- ---- devices

  abbrev pub run_of : (j : ℕ) (p : Owned) → IsOwned c.schedule j p → DeviceSimulates c.schedule c.w c.x j p
  run_of j p is = c.runs.simulation.devices j p is

  pub of : (j : ℕ) (p : Owned) → IsOwned c.schedule j p → IsDeviceOf (owned_of c.schedule) (names_of c.schedule) (identity_at c.schedule j p) p
  of j p is = device_of c.schedule c.right j p is

  pub named_so : (j : ℕ) (p : Owned) (u : Session ItemOut) → is_named (identity_at c.schedule j p).account p.device u ≡ true → (u.shown.account ≡ (identity_at c.schedule j p).account) × (u.shown.resource ≡ p.device)
  named_so j p u named =
      let both = and_parts (u.shown.account == (identity_at c.schedule j p).account) (bytes_eq u.shown.resource p.device) named in
      (eqb-true u.shown.account (identity_at c.schedule j p).account both.0, same-from_bytes_eq u.shown.resource p.device both.1)

  abbrev pub found_of : (j : ℕ) (p : Owned) → Option (Session ItemOut)
  found_of j p = session_named (identity_at c.schedule j p).account p.device server_state.sessions

  pub session_is : (j : ℕ) (p : Owned) → IsOwned c.schedule j p → (u : Session ItemOut) → found_of j p ≡ Some u → IsSessionAt (owned_of c.schedule) (names_of c.schedule) server_state j p u
  session_is j p is u found =
      let same = named_so j p u (found_is (is_named (identity_at c.schedule j p).account p.device) server_state.sessions u found) in
      record {
        device = is;
        lives = numbered_here (is_named (identity_at c.schedule j p).account p.device) server_state.next 1 server_state.sessions u rule.ascending found;
        account = ap (slice_get (names_of c.schedule)) same.0 ∙ (of j p is).account;
        resource = same.1;
      }

  pub speaker_is : IsSessionAt (owned_of c.schedule) (names_of c.schedule) server_state mine c.o speaker
  speaker_is = session_is mine c.o c.owned speaker c.session.named

  pub beside_is : (j : ℕ) (p : Owned) (is : IsOwned c.schedule j p) → IsRecipient (owned_of c.schedule) (names_of c.schedule) server_state j p (identity_at c.schedule j p) (run_of j p is).logins (run_of j p is).view (run_of j p is).device
  beside_is j p is =
      let r = run_of j p is in
      record { device = is; account = (of j p is).account; resource = refl; server = r.represents.server; sessions = r.sessions; of_account = r.account; flags = r.flags }

  -- another device's session isn't the speaker
  pub not_speaker : (j : ℕ) (p : Owned) → IsOwned c.schedule j p → j ≢ mine → speaker.shown.resource ≡ p.device → ⊥
  not_speaker j p is apart same = apart (one_name c.schedule j mine p c.o c.right is c.owned (sym same ∙ speaker_is.resource))

  pub unnamed : (j : ℕ) (p : Owned) → IsOwned c.schedule j p → j ≢ mine → is_named (identity_at c.schedule j p).account p.device speaker ≡ false
  unnamed j p is apart = elim (cases_Bool (is_named (identity_at c.schedule j p).account p.device speaker)) [
    | inl named ↦ absurd (not_speaker j p is apart (named_so j p speaker named).1)
    | inr other ↦ other
  ]

  pub other_number : (j : ℕ) (p : Owned) (is : IsOwned c.schedule j p) → j ≢ mine → (u : Session ItemOut) → IsSessionAt (owned_of c.schedule) (names_of c.schedule) server_state j p u → speaker.shown.number ≢ u.shown.number
  other_number j p is apart u at number =
      let same : speaker ≡ u = same_Some speaker u (sym speaker_is.lives ∙ ap (λ n. session_of n server_state.sessions) number ∙ at.lives) in
      not_speaker j p is apart (ap (λ (y : Session ItemOut). y.shown.resource) same ∙ at.resource)

  -- ---- links

  pub own_given : IsGivenIn own own old.logins c.position c.w after old.view c.z c.session (takes_it c.z)
  own_given = subst (λ (a : ItemWorld). IsGivenIn own own old.logins c.position c.w a old.view c.z c.session (takes_it c.z)) is_after c.here

  pub other_given : (j : ℕ) (p : Owned) (is : IsOwned c.schedule j p) → j ≢ mine → IsGivenIn own (identity_at c.schedule j p) (run_of j p is).logins c.position c.w after (run_of j p is).view c.z c.session (takes_nothing c.z)
  other_given j p is apart =
      let r = run_of j p is in
      subst (λ (a : ItemWorld). IsGivenIn own (identity_at c.schedule j p) r.logins c.position c.w a r.view c.z c.session (takes_nothing c.z)) is_after
      (c.beside (identity_at c.schedule j p) r.logins r.view
      (record { apart = apart_of c.schedule c.right mine j c.o p c.owned is (λ same. apart (sym same)); reached = prompt_runs awaits r.view r.prompt; represents = r.represents }))

  -- ---- the world of the applications

  pub accounts_are : c.x.accounts ≡ names_of c.schedule
  accounts_are = (later_along c.runs.in_bounds.led.events (begins c.schedule) c.x c.runs.in_bounds.led.reaches).accounts

  pub around_is : around c.x old.device ≡ around_of (keep_in c.schedule) (names_of c.schedule) c.x.takes c.o.account
  around_is = λ k. record {
    accounts = accounts_are k;
    first = first_of (c.ground.keeps k) (last_of c.x.takes (old.account k));
    last = last_of c.x.takes (old.account k);
    takes = length c.x.takes;
  }

  pub few : length c.x.takes < GREATEST_NUMBER
  few =
      let takes = takes_few (keep_in c.schedule) (names_of c.schedule) (map (λ (p : Owned). p.account) (owned_of c.schedule)) c.runs.in_bounds.led.events c.x c.runs.in_bounds.led.reaches in
      let spoken = c.runs.in_bounds.led.spoken in
      let said = c.runs.in_bounds.said in
      let bounded = c.small.stanzas in
      omega (arith, takes, spoken, said, bounded)

  -- ---- what the server reads

  -- it is the device's stanza, and of another device there is none
  pub read_own : item_reads (Up c.position) c.w mine ≡ c.z ∷ []
  read_own = own_reads c.position c.w c.wire c.there (c.z ∷ c.items) c.pipe ∙ stanza_read own old.logins c.w.server (by_number c.w.wires) old.view (c.position + 1) c.z c.first c.session

  pub unread_beside : (j : ℕ) → j ≢ mine → item_reads (Up c.position) c.w j ≡ []
  unread_beside j apart = beside_unread c.position c.w c.wire c.there (c.z ∷ c.items) c.pipe j apart

  -- ---- what it puts

  gives_are : (j : ℕ) (p : Owned) (is : IsOwned c.schedule j p) → item_gives (Up c.position) c.w j ≡ given_to is_put_as_stanza (own_account (identity_at c.schedule j p)) (session_for (own_account (identity_at c.schedule j p)) server_state) step
  gives_are j p is =
      let r = run_of j p is in
      ap (λ e. item_given_on c.position c.w e (slice_get c.w.wires c.position)) r.represents.there
      ∙ ap (item_given_on c.position c.w (Some r.represents.device)) c.there
      ∙ ap (λ l. item_given_first r.represents.device.client.account (number_at c.position) l c.w) c.pipe
      ∙ ap (λ a. item_given_first a (number_at c.position) (c.z ∷ c.items) c.w) r.represents.client.account
      ∙ ap (λ l. given_where is_put_as_stanza (own_account (identity_at c.schedule j p)) l server_state step) (stanza_read own old.logins c.w.server (by_number c.w.wires) old.view (c.position + 1) c.z c.first c.session)

  -- for the device itself: its session is on the connection
  pub told_own : own_given.given ≡ item_gives (Up c.position) c.w mine
  told_own =
      as_told own old.logins server_state step old.view own_given.follows.next own_given.given old.represents.server own_given.follows.represents.server
      (λ none. (given_to_none acts own_given.given old.view.row own_given.follows.next.row own_given.are_given none).0) attached own_given.told
      ∙ sym (gives_are mine c.o c.owned)
    where
      attached : (r : Row ItemOut) → old.view.row ≡ Some r → r.on ≡ None → own_given.follows.next.row ≡ None → own_given.given ≡ []
      attached r is off gone =
          let kept = kept_here own old.logins c.w.server (by_number c.w.wires) old.view (c.position + 1) (UpTraffic (St c.z)) c.first in
          let there = expected_up old.view (c.position + 1) c.first.conn (UpTraffic (St c.z)) c.first.rest kept c.first.is c.first.first in
          absurd (none-some (c.position + 1) (sym off ∙ ap (λ (y : Row ItemOut). y.on) (same_Some r there.0 (sym is ∙ there.1)) ∙ there.3))

  -- and for another one: a session that is parked, and ends, was given nothing
  pub told_other : (j : ℕ) (p : Owned) (is : IsOwned c.schedule j p) (apart : j ≢ mine) → ((r : Row ItemOut) → (run_of j p is).view.row ≡ Some r → (other_given j p is apart).follows.next.row ≡ None → (other_given j p is apart).given ≡ [])
      → (other_given j p is apart).given ≡ item_gives (Up c.position) c.w j
  told_other j p is apart ended =
      let r = run_of j p is in
      let g = other_given j p is apart in
      as_told (identity_at c.schedule j p) r.logins server_state step r.view g.follows.next g.given r.represents.server g.follows.represents.server
      (λ none. (given_to_none acts g.given r.view.row g.follows.next.row g.are_given none).0) (λ row at off gone. ended row at gone) g.told
      ∙ sym (gives_are j p is)
