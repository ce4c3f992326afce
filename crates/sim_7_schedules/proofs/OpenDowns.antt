-- A connection that a device has stays open, whatever items are handed to a device.
use Rattle.std.proofs.Common.{◌≡◌, ◌≢◌, ◌⊎◌, ℕ, zero, suc, ◌+◌, ◌≤◌, Bool, true, false, not, List, [], ◌∷◌, ◌++◌, Option, Some, None, length, map, refl, sym, ap, subst, ◌∙◌, inl, inr, arith, slice_get, slice_set, if◌then◌else◌}
use Rattle.std.proofs.lemmas.Bool.{eq-eqb, eqb-true, false≢true}
use Rattle.std.proofs.lemmas.Option.{same_Some}
use Rattle.std.specs.Option.{IfSome, option_map}
use Rattle.cl_core.specs.UserCalls.{leaves}
use Rattle.cl_handlers.specs.ClientSteps.{is_apart}
use Rattle.cl_handlers.specs.Clients.{ClientStep}
use Rattle.cmd_network.specs.Positions.{changed_at}
use Rattle.cmd_schedule.specs.Contents.{Owned}
use Rattle.cmd_schedule.specs.LineLists.{IsLineList}
use Rattle.cmd_schedule.specs.Schedules.{WireView}
use Rattle.law_payloads.specs.AsRead.{last_moment}
use Rattle.mam_archive.specs.Entries.{EntryView}
use Rattle.sim_1_applications.specs.Counts.{IsUnanswered}
use Rattle.sim_1_applications.specs.Devices.{AppWorld, Device}
use Rattle.sim_1_applications.specs.Runs.{owned_of}
use Rattle.sim_2_links.proofs.CutLinks.{some_one}
use Rattle.sim_2_links.proofs.WithPremises.{prompt_runs}
use Rattle.sim_2_links.specs.Links.{LinkKept}
use Rattle.sim_2_links.specs.Stages.{AsksBind, AsksEnable, AsksResume, Answers, Binds, Challenged, Conn, Enables, Ending, Greeted, Greets, Offered, Proves, Refused, Regreeted, Regreets, Reoffered, Resumes, Runs, Stage, Stands, Succeeded, down_of, tail_of}
use Rattle.sim_2_links.specs.Wires.{Flow, Stop, Wires, down_whole, down_words, is_flowing}
use Rattle.sim_2_links.specs.Words.{Ack, Bound, Cause, Chal, Down, DownWord, Enabled, End, Err, Failed, Feat, Head, Req, Resumed, St, Succ, Traffic}
use Rattle.sim_3_images.proofs.Lookups.{get_changed_same}
use Rattle.sim_3_images.specs.Devices.{identity_at}
use Rattle.sim_3_images.specs.ItemRuns.{downs}
use Rattle.sim_3_items.specs.Identities.{Identity}
use Rattle.sim_3_items.specs.ItemMoves.{Down as DownMove, DownEnd, all_moved, at_device, at_wire, end_heard, fed_of, has_wire, heard_first, here_after, left_where, moved}
use Rattle.sim_3_items.specs.ItemPipes.{ItemPipe, ItemWire, down_end_reported, handed_down, is_end_due, put_up}
use Rattle.sim_3_items.specs.ItemWorlds.{ItemDevice, ItemWorld}
use Rattle.sim_3_items.specs.Labels.{awaits}
use Rattle.sim_3_items.specs.Pipes.{by_number}
use Rattle.sim_3_items.specs.Reading.{IsNextDown, client_step_on, device_after, wire_after}
use Rattle.sim_3_items.specs.WordItems.{down_item, is_after_login}
use Rattle.sim_4_links_follow.proofs.AllReads.{expected}
use Rattle.sim_4_links_follow.proofs.Changes.{changed_elsewhere}
use Rattle.sim_4_links_follow.proofs.DownWords.{next_down}
use Rattle.sim_4_links_follow.proofs.Numbered.{set_elsewhere}
use Rattle.sim_4_links_follow.proofs.Working.{kept_here}
use Rattle.sim_4_links_follow.specs.Following.{HasNextDown, IsNextItem}
use Rattle.sim_4_links_follow.proofs.Lifts.{due_ended}
use Rattle.sim_5_devices.proofs.ReadingsKnownHistories.{named_at, world_plain}
use Rattle.sim_5_devices.proofs.Rest.{short_queue}
use Rattle.sim_5_devices.proofs.Worlds.{set_here}
use Rattle.sim_5_devices.specs.Logged.{IsReadAs}
use Rattle.sim_5_devices.specs.Named.{IsNamed}
use Rattle.sim_5_moves.proofs.Alone.{moved_so}
use Rattle.sim_5_moves.proofs.DownMovesDowns.{each_down}
use Rattle.sim_5_moves.proofs.Grounds.{ground}
use Rattle.sim_5_moves.proofs.Next.{IsNextRead, IsNextStanza, next_read, next_stanza}
use Rattle.sim_5_moves.proofs.Rendered.{IsReadable, reaction, read_so}
use Rattle.sim_5_moves.specs.Ground.{IsGround}
use Rattle.sim_5_moves.specs.Running.{AreSmall, Bounds, DeviceSimulates, IsInBounds, IsOwned, MoveSimulates, WorldSimulates, history_for, keep_in}
use Rattle.sim_7_schedules.proofs.ClientStays.{IsPlainWord, plain_stays}
use Rattle.sim_7_schedules.proofs.OpenItems.{IsOpen, down_still, flowing, is_conn, its_conn}
use Rattle.sim_7_schedules.specs.Simulation.{bounds}
use Rattle.xml_writer.specs.Items.{ItemOut}

-- ---- on a connection that flows no word ends the stream

traffic_first : (downs : List (Traffic ItemOut)) (cause : Cause) (rest : List (DownWord ItemOut)) → map Down downs ++ [] ≡ Err cause ∷ rest → ⊥
traffic_first [] cause rest e = let no_way : ⊥ = cc in no_way
traffic_first (t ∷ downs) cause rest e = let no_way : ⊥ = cc in no_way

no_error : (s : Stage ItemOut) (cause : Cause) (rest : List (DownWord ItemOut)) → down_of s ++ [] ≡ Err cause ∷ rest → ⊥
no_error Greets cause rest e = let no_way : ⊥ = cc in no_way
no_error Greeted cause rest e = let no_way : ⊥ = cc in no_way
no_error Offered cause rest e = let no_way : ⊥ = cc in no_way
no_error Proves cause rest e = let no_way : ⊥ = cc in no_way
no_error Challenged cause rest e = let no_way : ⊥ = cc in no_way
no_error Answers cause rest e = let no_way : ⊥ = cc in no_way
no_error Succeeded cause rest e = let no_way : ⊥ = cc in no_way
no_error Regreets cause rest e = let no_way : ⊥ = cc in no_way
no_error Regreeted cause rest e = let no_way : ⊥ = cc in no_way
no_error Reoffered cause rest e = let no_way : ⊥ = cc in no_way
no_error (AsksResume p h) cause rest e = let no_way : ⊥ = cc in no_way
no_error (Refused p) cause rest e = let no_way : ⊥ = cc in no_way
no_error (Resumes p h downs) cause rest e = let no_way : ⊥ = cc in no_way
no_error AsksBind cause rest e = let no_way : ⊥ = cc in no_way
no_error (Binds m) cause rest e = let no_way : ⊥ = cc in no_way
no_error (AsksEnable m) cause rest e = let no_way : ⊥ = cc in no_way
no_error (Enables m downs) cause rest e = let no_way : ⊥ = cc in no_way
no_error (Runs p ups downs) cause rest e = traffic_first downs cause rest e

whole_flowing : (ws : Wires ItemOut) → is_flowing ws ≡ true → down_whole ws ≡ down_words ws
whole_flowing (Flow us ds) flows = refl
whole_flowing (Stop us ds lu ld) flows = absurd (false≢true flows)

-- ---- an item

module _ (schedule : WireView) (b : Bounds) (small : AreSmall b) (says : ℕ) (w : ItemWorld) (x : AppWorld) (runs : WorldSimulates schedule b says w x) (based : IsGround schedule x) (timely : w.moment ≤ last_moment)
    (position : ℕ) (wire : ItemWire) (o : Owned) (owned : IsOwned schedule wire.device o) where
  abbrev i : ℕ
  i = wire.device

  abbrev old : DeviceSimulates schedule w x i o
  old = runs.simulation.devices i o owned

  abbrev who : Identity
  who = identity_at schedule i o

  abbrev d : ItemDevice
  d = old.represents.device

  abbrev history : List EntryView
  history = history_for schedule x.takes o

  abbrev At : DownWord ItemOut → Type 0
  At word = IsNextDown who old.logins d (by_number w.wires) old.view (position + 1) word

  abbrev item : (word : DownWord ItemOut) → At word → ItemOut
  item word p = down_item who (old.logins (position + 1)) (position + 1) (is_after_login p.conn.client) word

  abbrev Stays : ItemOut → Type 0
  Stays z = is_apart (client_step_on z d).client.phase ≡ false

  module _ (z : ItemOut) (p : At (Down (St z))) where
    nx : IsNextStanza old.view d z
    nx = next_stanza who old.logins d (by_number w.wires) old.view (position + 1) z p

    nr : IsNextRead o history z old.device.sessions
    nr = next_read old.view d z nx old.device.sessions old.sessions o history old.built

    names : IsNamed o
    names = named_at (owned_of schedule) i o based.named.devices owned

    early : x.clock ≤ last_moment
    early = subst (λ n. n ≤ last_moment) (sym runs.simulation.clock) timely

    known : IsReadable schedule w x i o old z
    known = record {
      taken = based.taken;
      read = based.read;
      keeps = based.keeps;
      account_named = names.account;
      device_named = names.device;
      next = nx;
      plain = world_plain (owned_of schedule) x based.taken based.named early based.few o.account;
      few = based.few;
      more = (let few = runs.in_bounds.asked i old.device old.there in let most = small.stanzas in omega (arith, few, most));
      short = subst (λ m. IfSome m (λ s. length s.waiting.queue ≤ 1002)) nx.has (short_queue who old.logins d old.view old.in_time old.represents.client);
    }

    read : IsReadAs o (keep_in schedule) history d nx.session z (reaction schedule w x i o old z known) (client_step_on z d)
    unfolding nx known
    read = read_so schedule w x i o old z known

    stanza_stays : Stays z
    stanza_stays = ap is_apart read.phase

  module _ (word : DownWord ItemOut) (p : At word) (flows : is_flowing p.conn.wires ≡ true) where
    links : LinkKept old.view
    links = kept_here who old.logins d (by_number w.wires) old.view (position + 1) word p

    -- it is one of those that the row of the table has under way
    under_way : down_of (links.conns (position + 1) p.conn p.is).stage ++ [] ≡ word ∷ p.rest
    under_way =
        let conn = links.conns (position + 1) p.conn p.is in
        let stands : p.conn.ending ≡ Stands = (conn.piped.flowing flows).1 in
        ap (λ (e : Ending). down_of conn.stage ++ tail_of e) (sym stands) ∙ sym conn.at.down ∙ whole_flowing p.conn.wires flows ∙ p.first

  plain : (word : DownWord ItemOut) (p : At word) → IsPlainWord who old.logins d (by_number w.wires) old.view (position + 1) word → Stays (item word p)
  plain word p is = plain_stays who old.logins d (by_number w.wires) old.view (position + 1) word p is

  word_stays : (word : DownWord ItemOut) (p : At word) → is_flowing p.conn.wires ≡ true → Stays (item word p)
  word_stays Head p flows = plain Head p tt
  word_stays Feat p flows = plain Feat p tt
  word_stays Chal p flows = plain Chal p tt
  word_stays Succ p flows = plain Succ p tt
  word_stays Failed p flows = plain Failed p tt
  word_stays (Bound m) p flows = plain (Bound m) p tt
  word_stays (Enabled m) p flows = plain (Enabled m) p tt
  word_stays (Resumed q h) p flows = plain (Resumed q h) p tt
  word_stays (Down Req) p flows = plain (Down Req) p tt
  word_stays (Down (Ack h)) p flows = plain (Down (Ack h)) p tt
  word_stays (Down (St z)) p flows = stanza_stays z p
  word_stays (Err cause) p flows = absurd (no_error ((links (Err cause) p flows).conns (position + 1) p.conn p.is).stage cause p.rest (under_way (Err cause) p flows))
  word_stays End p flows = absurd (expected who old.logins d (by_number w.wires) old.view (position + 1) End p)

  pub item_stays : (z : ItemOut) → IsNextItem position i w d wire z → ((c : Conn ItemOut) → old.view.conns (position + 1) ≡ Some c → is_flowing c.wires ≡ true) → Stays z
  item_stays z n flows =
      let h : HasNextDown who old.logins d (by_number w.wires) old.view (position + 1) wire z = next_down who old.logins w old.view old.represents (prompt_runs awaits old.view old.prompt) position d wire z n in
      subst Stays h.is (word_stays h.word h.next (flows h.next.conn h.next.is))

-- ---- items, one after another

-- behind all pages that lines ask for a device asks for one more at most
abbrev pub wide : Bounds
wide = record { says = 10000000; pages = 10100001; dials = 10000 }

small_wide : AreSmall wide
small_wide = record { stanzas = omega arith; dials = omega arith }

pub widened : (s : WireView) (says : ℕ) (w : ItemWorld) (x : AppWorld) → WorldSimulates s bounds says w x → WorldSimulates s wide says w x
widened s says w x r = record {
  simulation = r.simulation;
  in_bounds = record {
    led = r.in_bounds.led;
    said = r.in_bounds.said;
    asked = λ i d at. (let few = r.in_bounds.asked i d at in omega (arith, few));
    dialled = r.in_bounds.dialled;
    fits = r.in_bounds.fits;
    stands = r.in_bounds.stands;
    within = r.in_bounds.within;
  };
}

-- so far the device asked for few pages, or no answer is under way to it
abbrev pub IsFew : Device → Type 0
IsFew d = (d.reading.asked ≤ 10100001) ⊎ IsUnanswered d

-- what is to be known of a world while items are handed to the device
pub record IsHearing (s : WireView) (i position says : ℕ) (w : ItemWorld) (x : AppWorld) : Type 0 where
  pub runs : WorldSimulates s wide says w x
  pub timely : w.moment ≤ last_moment
  pub is_open : IsOpen i position w
  pub few : (e : Device) → slice_get x.devices i ≡ Some e → IsFew e

module _ (s : WireView) (right : IsLineList s) (i : ℕ) (o : Owned) (owned : IsOwned s i o) (position : ℕ) where
  module _ (says : ℕ) (w : ItemWorld) (x : AppWorld) (c : IsHearing s i position says w x) where
    abbrev wire : ItemWire
    wire = c.is_open.wire

    -- the owner of the connection is that of the device
    its : IsOwned s wire.device o
    its = subst (λ j. IsOwned s j o) (sym c.is_open.of) owned

    abbrev mine : DeviceSimulates s w x wire.device o
    mine = c.runs.simulation.devices wire.device o its

    abbrev dev : ItemDevice
    dev = mine.represents.device

    same_dev : dev ≡ c.is_open.device
    same_dev = same_Some dev c.is_open.device (sym mine.represents.there ∙ ap (slice_get w.devices) c.is_open.of ∙ c.is_open.has)

    within : IsInBounds wide says (DownMove position) w x
    within =
        (λ wire2 e at there. c.few e (subst (λ j. slice_get x.devices j ≡ Some e) (ap (λ (u : ItemWire). u.device) (same_Some wire2 wire (sym at ∙ c.is_open.there)) ∙ c.is_open.of) there), c.timely)

    r : MoveSimulates s wide says (DownMove position) w x c.runs
    r = each_down s wide small_wide says w x c.runs (ground s right wide small_wide says w x c.runs) position within

    few_then : (e : Device) → slice_get r.next.devices i ≡ Some e → IsFew e
    few_then e at =
        let there : slice_get r.next.devices wire.device ≡ Some e = ap (slice_get r.next.devices) c.is_open.of ∙ at in
        let once = (r.asked wire.device mine.device e mine.there there).0 in
        elim (c.few mine.device (sym (ap (slice_get x.devices) c.is_open.of) ∙ mine.there)) [
          | inl low ↦ elim once.1 [ inl is ↦ inl (omega (arith, is, low)) | inr more ↦ inr more.1 ]
          | inr none ↦ inr (once.0 none).1
        ]

    -- nothing is on its way to the device
    module _ (none : wire.down.items ≡ []) where
      same_world : moved (DownMove position) w ≡ w
      same_world =
          ap (λ e. at_wire position (λ u e. heard_first position u.device u.down.items e) e w) c.is_open.there
          ∙ ap (λ e. at_device position (λ u e. heard_first position u.device u.down.items e) wire e w) (sym (ap (slice_get w.devices) (sym c.is_open.of)) ∙ c.is_open.has)
          ∙ ap (λ h. if has_wire position h then heard_first position wire.device wire.down.items c.is_open.device w else w) c.is_open.here
          ∙ ap (λ (b : Bool). if b then heard_first position wire.device wire.down.items c.is_open.device w else w) (eq-eqb position position refl)
          ∙ ap (λ items. heard_first position wire.device items c.is_open.device w) none

      none_open : IsOpen i position (moved (DownMove position) w)
      none_open = subst (IsOpen i position) (sym same_world) c.is_open

    module _ (z : ItemOut) (rest : List ItemOut) (pipe : wire.down.items ≡ z ∷ rest) where
      n : IsNextItem position wire.device w dev wire z
      n = record { there = c.is_open.there; of = refl; has = mine.represents.there; here = ap (λ (y : ItemDevice). y.here) same_dev ∙ c.is_open.here; items = rest; first = pipe }

      -- the connection flows
      flows : (e : Conn ItemOut) → mine.view.conns (position + 1) ≡ Some e → is_flowing e.wires ≡ true
      flows e at =
          let there : IsOpen wire.device position w = record { wire = wire; there = c.is_open.there; of = refl; flows = c.is_open.flows; device = c.is_open.device; has = ap (slice_get w.devices) c.is_open.of ∙ c.is_open.has; here = c.is_open.here } in
          let one : its_conn s wide says w x c.runs wire.device o its position there ≡ e = some_one (mine.view.conns (position + 1)) (its_conn s wide says w x c.runs wire.device o its position there) e (is_conn s wide says w x c.runs wire.device o its position there) at in
          subst (λ (a : Conn ItemOut). is_flowing a.wires ≡ true) one (flowing s wide says w x c.runs wire.device o its position there)

      abbrev alone : ClientStep ItemOut ItemOut
      alone = client_step_on z dev

      stays : is_apart alone.client.phase ≡ false
      stays = item_stays s wide small_wide says w x c.runs (ground s right wide small_wide says w x c.runs) c.timely position wire o its z n flows

      some_open : IsOpen i position (moved (DownMove position) w)
      some_open = record {
        wire = put_up alone.out.put (handed_down wire);
        there =
            ap (λ (v : ItemWorld). slice_get v.wires position) (moved_so w position dev wire z n) ∙ get_changed_same (wire_after alone) w.wires position ∙ ap (option_map (wire_after alone)) c.is_open.there
            ∙ ap (λ b. Some (left_where b (put_up alone.out.put (handed_down wire)))) stays;
        of = c.is_open.of;
        flows = still alone.out.put (handed_down wire) c.is_open.flows;
        device = record { client = alone.client; here = dev.here };
        has =
            ap (slice_get (moved (DownMove position) w).devices) (sym c.is_open.of)
            ∙ ap (λ (v : ItemWorld). slice_get v.devices wire.device) (moved_so w position dev wire z n) ∙ set_here w.devices wire.device dev (device_after alone dev) mine.represents.there
            ∙ ap (λ b. Some (record { client = alone.client; here = here_after b dev.here })) stays;
        here = n.here;
      }
        where
          by : (b : Bool) (items : List ItemOut) (p : ItemPipe) → p.ended ≡ false → (if b then p else record p { items = p.items ++ items }).ended ≡ false
          by true items p e = e
          by false items p e = e

          still : (items : List ItemOut) (u : ItemWire) → u.up.ended ≡ false → (put_up items u).up.ended ≡ false
          still items u e = by u.up.ended items u.up e

    by_items : (items : List ItemOut) → wire.down.items ≡ items → IsOpen i position (moved (DownMove position) w)
    by_items [] none = none_open none
    by_items (z ∷ rest) pipe = some_open z rest pipe

    timely_then : (moved (DownMove position) w).moment ≤ last_moment
    timely_then = subst (λ m. m ≤ last_moment) (sym (same (slice_get w.wires position))) c.timely
      where
        first : (u : ItemWire) (e : ItemDevice) (items : List ItemOut) → (heard_first position u.device items e w).moment ≡ w.moment
        first u e [] = refl
        first u e (z ∷ items) = refl

        chosen : (b : Bool) (u : ItemWire) (e : ItemDevice) → (if b then heard_first position u.device u.down.items e w else w).moment ≡ w.moment
        chosen true u e = first u e u.down.items
        chosen false u e = refl

        of_device : (u : ItemWire) (e : Option ItemDevice) → (at_device position (λ u e. heard_first position u.device u.down.items e) u e w).moment ≡ w.moment
        of_device u None = refl
        of_device u (Some e) = chosen (has_wire position e.here) u e

        same : (e : Option ItemWire) → (at_wire position (λ u e. heard_first position u.device u.down.items e) e w).moment ≡ w.moment
        same None = refl
        same (Some u) = of_device u (slice_get w.devices u.device)

    hears_on : IsHearing s i position (says + 0) (moved (DownMove position) w) r.next
    hears_on = record { runs = r.runs; timely = timely_then; is_open = by_items wire.down.items refl; few = few_then }

  pub downs_go : (n says : ℕ) (w : ItemWorld) (x : AppWorld) → IsHearing s i position says w x → (more : ℕ) × (y : AppWorld) × IsHearing s i position more (all_moved (downs position n) w) y
  downs_go zero says w x c = (says, x, c)
  downs_go (suc n) says w x c = downs_go n (says + 0) (moved (DownMove position) w) (r says w x c).next (hears_on says w x c)

-- ---- the end is not told

-- where a pipe down is not ended, no end is due
not_due : (p : ItemPipe) → p.ended ≡ false → is_end_due p ≡ true → ⊥
not_due p still due = false≢true (sym still ∙ due_ended p due)

-- ---- on another connection

module _ (i position from : ℕ) (apart : from ≢ position) (w : ItemWorld) (is : IsOpen i position w) where
  -- what changes another connection and another device
  beside : (j : ℕ) (f : ItemWire → ItemWire) (e : ItemDevice) → i ≢ j → IsOpen i position (record w { devices = slice_set w.devices j e; wires = changed_at from f w.wires })
  beside j f e other = record {
    wire = is.wire;
    there = changed_elsewhere from position f w.wires apart ∙ is.there;
    of = is.of;
    flows = is.flows;
    device = is.device;
    has = set_elsewhere w.devices j i e other ∙ is.has;
    here = is.here;
  }

  -- a device that has that connection is another one
  other_device : (u : ItemWire) (e : ItemDevice) → slice_get w.devices u.device ≡ Some e → has_wire from e.here ≡ true → i ≢ u.device
  other_device u e there has same =
      let one : e ≡ is.device = same_Some e is.device (sym there ∙ ap (slice_get w.devices) (sym same) ∙ is.has) in
      let here : has_wire from (Some position) ≡ true = subst (λ h. has_wire from h ≡ true) (ap (λ (y : ItemDevice). y.here) one ∙ is.here) has in
      apart (sym (eqb-true position from here))

  at_open : (f : ItemWire → ItemDevice → ItemWorld → ItemWorld) → ((u : ItemWire) (e : ItemDevice) → i ≢ u.device → IsOpen i position (f u e w)) → IsOpen i position (at_wire from f (slice_get w.wires from) w)
  at_open f keeps = by (slice_get w.wires from)
    where
      chosen : (b : Bool) (u : ItemWire) (e : ItemDevice) → slice_get w.devices u.device ≡ Some e → has_wire from e.here ≡ b → IsOpen i position (if b then f u e w else w)
      chosen true u e there has = keeps u e (other_device u e there has)
      chosen false u e there has = is

      of_device : (u : ItemWire) (e : Option ItemDevice) → slice_get w.devices u.device ≡ e → IsOpen i position (at_device from f u e w)
      of_device u None there = is
      of_device u (Some e) there = chosen (has_wire from e.here) u e there refl

      by : (e : Option ItemWire) → IsOpen i position (at_wire from f e w)
      by None = is
      by (Some u) = of_device u (slice_get w.devices u.device) refl

  pub down_elsewhere : IsOpen i position (moved (DownMove from) w)
  down_elsewhere = at_open (λ u e. heard_first from u.device u.down.items e) (λ u e other. by u e other u.down.items)
    where
      by : (u : ItemWire) (e : ItemDevice) → i ≢ u.device → (items : List ItemOut) → IsOpen i position (heard_first from u.device items e w)
      by u e other [] = is
      by u e other (z ∷ items) = beside u.device (wire_after (client_step_on z e)) (device_after (client_step_on z e) e) other

  pub down_end_elsewhere : IsOpen i position (moved (DownEnd from) w)
  down_end_elsewhere = at_open (λ u e. end_heard from u.device (is_end_due u.down) e) (λ u e other. by u e other (is_end_due u.down))
    where
      by : (u : ItemWire) (e : ItemDevice) → i ≢ u.device → (b : Bool) → IsOpen i position (end_heard from u.device b e w)
      by u e other false = is
      by u e other true = beside u.device down_end_reported (record e { client = (leaves (fed_of e.client)).turn.client }) other

pub downs_elsewhere : (i position from : ℕ) → from ≢ position → (n : ℕ) (w : ItemWorld) → IsOpen i position w → IsOpen i position (all_moved (downs from n) w)
downs_elsewhere i position from apart zero w is = is
downs_elsewhere i position from apart (suc n) w is = downs_elsewhere i position from apart n (moved (DownMove from) w) (down_elsewhere i position from apart w is)

-- the end of the connection itself is not due
pub down_end_here : (s : WireView) (i : ℕ) (o : Owned) (owned : IsOwned s i o) (position says : ℕ) (w : ItemWorld) (x : AppWorld) → IsHearing s i position says w x → IsOpen i position (moved (DownEnd position) w)
down_end_here s i o owned position says w x c = by (slice_get w.wires position) refl
  where
    is : IsOpen i position w
    is = c.is_open

    still : is.wire.down.ended ≡ false
    still = down_still s wide says w x c.runs i o owned position is

    told : (b : Bool) (u : ItemWire) (e : ItemDevice) → slice_get w.wires position ≡ Some u → is_end_due u.down ≡ b → IsOpen i position (end_heard position u.device b e w)
    told false u e there due = is
    told true u e there due = absurd (not_due u.down (ap (λ (y : ItemWire). y.down.ended) (same_Some u is.wire (sym there ∙ is.there)) ∙ still) due)

    chosen : (b : Bool) (u : ItemWire) (e : ItemDevice) → slice_get w.wires position ≡ Some u → IsOpen i position (if b then end_heard position u.device (is_end_due u.down) e w else w)
    chosen true u e there = told (is_end_due u.down) u e there refl
    chosen false u e there = is

    of_device : (u : ItemWire) (e : Option ItemDevice) → slice_get w.wires position ≡ Some u → IsOpen i position (at_device position (λ y f. end_heard position y.device (is_end_due y.down) f) u e w)
    of_device u None there = is
    of_device u (Some e) there = chosen (has_wire position e.here) u e there

    by : (e : Option ItemWire) → slice_get w.wires position ≡ e → IsOpen i position (at_wire position (λ y f. end_heard position y.device (is_end_due y.down) f) e w)
    by None there = is
    by (Some u) there = of_device u (slice_get w.devices u.device) there
