-- An item that comes to a device on its connection makes no fault that its client tells, by the word that it is.
use Rattle.std.proofs.Common.{◌≡◌, ℕ, ◌+◌, ◌≤◌, Bool, true, false, cond, List, Option, Some, None, Result, Ok, Err, codes, length, refl, sym, ap, subst, ◌∙◌, inl, inr, arith}
use Rattle.std.proofs.lemmas.Bool.{false≢true}
use Rattle.std.proofs.lemmas.List.{length-map}
use Rattle.std.proofs.lemmas.Option.{none-some, same_Some}
use Rattle.std.specs.Option.{IfSome, option_map}
use Rattle.std.proofs.Math.Nat.{mod-lt}
use Rattle.cl_handlers.specs.declared.phase.Phase.{Phase}
use Rattle.sim_3_items.specs.Clients.{IsOwn, client_phase}
use Rattle.im_extensions.specs.Readings.{resumption_read}
use Rattle.im_extensions.specs.StreamManagement.{ack_elem, ack_read, resumed_elem, sm_failed_elem}
use Rattle.im_extensions.specs.declared.stream_management.Ack.{Ack as AckWord}
use Rattle.xml_framer.specs.declared.items.Item.{Item}
use Rattle.xml_framer.specs.declared.items.Item.TheVariants as framed
use Rattle.sim_2_links.proofs.Promised.{down_count_within, resumed_within}
use Rattle.sim_2_links.specs.Links.{LinkKept}
use Rattle.sim_2_links.specs.Promises.{IsExpectedDown}
use Rattle.sim_2_links.specs.Views.{Own}
use Rattle.sim_4_links_follow.proofs.Counted.{not_too_high}
use Rattle.sm_outbox.specs.Sessions.{SessionView}
use Rattle.sm_outbox.specs.Waiting.{is_too_high}
use Rattle.im_payload.specs.Bare.{bare}
use Rattle.law_payloads.proofs.ManagementWritten.{ack_written, resumed_written}
use Rattle.sm_resumption.specs.Previds.{previd_of}
use Rattle.im_stanza.specs.Errors.{stream_error_elem}
use Rattle.im_stanza.specs.declared.conditions.Condition.TheVariants.{ItemNotFound}
use Rattle.xml_trees.specs.Trees.{Elem}
use Rattle.mam_archive.specs.Entries.{EntryView}
use Rattle.cl_core.specs.Steps.{element_row, item_step, stream_condition}
use Rattle.cl_handlers.specs.Clients.{ClientStep, ClientView}
use Rattle.cl_handlers.specs.Speech.{in_items}
use Rattle.cl_handlers.specs.ClientSteps.{ends}
use Rattle.cl_handlers.specs.declared.events.PeerFault.TheVariants.{Stream}
use Rattle.cl_handlers.specs.declared.phase.Phase.TheVariants as phase
use Rattle.sim_5_devices.proofs.Next.{well}
use Rattle.sim_5_devices.proofs.ReadingsKnownHistories.{named_at, world_plain}
use Rattle.sim_5_devices.proofs.Rest.{short_queue}
use Rattle.sim_5_devices.specs.Logged.{IsReadAs}
use Rattle.sim_5_devices.specs.Named.{IsNamed}
use Rattle.sim_5_devices.specs.Shown.{page_shown, tile_shown}
use Rattle.sim_3_items.specs.Labels.{awaits}
use Rattle.sim_3_items.specs.Identities.{Identity}
use Rattle.sim_3_items.specs.Pipes.{by_number}
use Rattle.sim_3_items.specs.Reading.{IsNextDown, client_step_on}
use Rattle.sim_3_items.specs.WordItems.{down_item, features_item, is_after_login, told_count}
use Rattle.sim_3_images.proofs.TurnsAfter.{step_adds}
use Rattle.sim_3_images.specs.Devices.{identity_at}
use Rattle.sim_3_items.specs.Downs.{down_stanza}
use Rattle.sim_3_items.specs.ItemPipes.{ItemWire}
use Rattle.sim_3_items.specs.ItemWorlds.{ItemDevice, ItemWorld, read_of, silent_client_step}
use Rattle.sim_2_links.proofs.WithPremises.{prompt_runs}
use Rattle.sim_2_links.specs.Words.{Ack, Bound, Chal, Conflict, Constraint, Down, DownWord, Client, Enabled, End, Err as ErrWord, Failed, Feat, Head, InAuth, InBind, InEnable, InFeatures1, InFeatures2, InOnline, InResponse, InResume, Req, Resumed, St, Succ, TooHigh}
use Rattle.sim_4_links_follow.proofs.AllReads.{expected, no_count}
use Rattle.sim_4_links_follow.proofs.DownWords.{next_down}
use Rattle.sim_4_links_follow.proofs.Turning.{element_at, on_element, own_session}
use Rattle.sim_4_links_follow.proofs.Working.{kept_here, phase_here}
use Rattle.sim_4_links_follow.specs.Following.{HasNextDown, IsNextItem}
use Rattle.mam_log.specs.Views.{LogView, OpenPage, without_page}
use Rattle.sim_5_moves.proofs.Next.{IsNextRead, IsNextStanza, next_read, next_stanza}
use Rattle.sim_5_moves.proofs.Rendered.{IsReadable, reaction, read_so}
use Rattle.sim_5_moves.specs.Ground.{IsGround}
use Rattle.sim_5_moves.specs.Running.{AreSmall, Bounds, DeviceSimulates, IsOwned, WorldSimulates, history_for, keep_in}
use Rattle.im_payload.specs.Names.{management, sasl}
use Rattle.law_payloads.specs.AsRead.{last_moment}
use Rattle.cmd_schedule.specs.Contents.{Owned}
use Rattle.cmd_schedule.specs.Schedules.{WireView}
use Rattle.sim_1_applications.specs.Devices as sessions
use Rattle.sim_1_applications.specs.Devices.{AppWorld, Reading}
use Rattle.sim_1_applications.specs.Events.{around}
use Rattle.sim_1_applications.specs.Runs.{owned_of}
use Rattle.sim_7_schedules.proofs.EventRows.{IsBounded, IsCountAt, IsFairItem, IsHighAt, IsLeft, IsStanzaAt, StepOut, step_out}
use Rattle.sim_7_schedules.proofs.PagesStay.{never_lost}
use Rattle.xml_writer.specs.Items.{Closing, ItemOut, Opening, Whole}

-- ---- small facts

none_shown : {A B : Type 0} (f : A → B) (o : Option A) → option_map f o ≡ None → o ≡ None
none_shown f None is = refl
none_shown f (Some a) is = absurd (none-some (f a) (sym is))

features_fair : (following : Bool) → IsFairItem (read_of (features_item following))
features_fair true = λ named. absurd (false≢true named)
features_fair false = λ named. absurd (false≢true named)

-- a client that awaits no count has none that is too high
abbrev CountsNone : Phase → Type 0
CountsNone p = (e : Elem) (h : ℕ) → IsCountAt p e h → ⊥

none_high : (c : ClientView ItemOut) (p : Phase) → c.phase ≡ p → CountsNone p → (i : Item) → IsHighAt c i → ⊥
none_high c p at none (framed.Element e) (s, h, has, count, plain, high) = none e h (subst (λ p. IsCountAt p e h) at count)
none_high c p at none (framed.Header position header) high = high
none_high c p at none framed.Footer high = high

same_ok : {A E : Type 0} (a b : A) (r : Result A E) → r ≡ Ok a → r ≡ Ok b → a ≡ b
same_ok a b r first second = (let same : Ok a ≡ r = sym first in cc)

no_ok : {A E : Type 0} (why : E) (a : A) (r : Result A E) → r ≡ Err why → r ≡ Ok a → ⊥
no_ok why a r first second = cc

-- where the client reads this count, it isn't too high
not_above : (c : ClientView ItemOut) (own : SessionView ItemOut) (h : ℕ) → c.session ≡ Some own → is_too_high own.waiting h ≡ false → (s : SessionView ItemOut) (k : ℕ) → c.session ≡ Some s → k ≡ h → is_too_high s.waiting k ≡ true → ⊥
not_above c own h has low s k there same high =
    let is : own ≡ s = same_Some own s (sym has ∙ there) in
    false≢true (sym low ∙ ap (λ (q : SessionView ItemOut). is_too_high q.waiting h) is ∙ ap (is_too_high s.waiting) (sym same) ∙ high)

no_stanza : (c : ClientView ItemOut) (following : Bool) → IsStanzaAt c (read_of (features_item following)) → ⊥
no_stanza c true at = false≢true at.1
no_stanza c false at = false≢true at.1

module _ (schedule : WireView) (b : Bounds) (small : AreSmall b) (says : ℕ) (w : ItemWorld) (x : AppWorld) (runs : WorldSimulates schedule b says w x) (ground : IsGround schedule x) (timely : w.moment ≤ last_moment)
    (position : ℕ) (wire : ItemWire) (o : Owned) (owned : IsOwned schedule wire.device o) where
  abbrev i : ℕ
  i = wire.device

  abbrev old : DeviceSimulates schedule w x i o
  old = runs.simulation.devices i o owned

  abbrev who : Identity
  who = identity_at schedule i o

  abbrev d : ItemDevice
  d = old.represents.device

  abbrev reading : Reading
  reading = old.device.reading

  abbrev history : List EntryView
  history = history_for schedule x.takes o

  abbrev At : DownWord ItemOut → Type 0
  At word = IsNextDown who old.logins d (by_number w.wires) old.view (position + 1) word

  abbrev item : (word : DownWord ItemOut) → At word → ItemOut
  item word p = down_item who (old.logins (position + 1)) (position + 1) (is_after_login p.conn.client) word

  -- the open page isn't dropped
  abbrev IsKept : ItemOut → Type 0
  IsKept z = (page : OpenPage) → d.client.log.page ≡ Some page → (client_step_on z d).client.log ≡ without_page d.client.log → ⊥

  -- ---- a stanza

  module _ (z : ItemOut) (p : At (Down (St z))) where
    nx : IsNextStanza old.view d z
    nx = next_stanza who old.logins d (by_number w.wires) old.view (position + 1) z p

    nr : IsNextRead o history z old.device.sessions
    nr = next_read old.view d z nx old.device.sessions old.sessions o history old.built

    names : IsNamed o
    names = named_at (owned_of schedule) i o ground.named.devices owned

    early : x.clock ≤ last_moment
    early = subst (λ n. n ≤ last_moment) (sym runs.simulation.clock) timely

    known : IsReadable schedule w x i o old z
    known = record {
      taken = ground.taken;
      read = ground.read;
      keeps = ground.keeps;
      account_named = names.account;
      device_named = names.device;
      next = nx;
      plain = world_plain (owned_of schedule) x ground.taken ground.named early ground.few o.account;
      few = ground.few;
      more = (let few = runs.in_bounds.asked i old.device old.there in let most = small.stanzas in omega (arith, few, most));
      short = subst (λ m. IfSome m (λ s. length s.waiting.queue ≤ 1002)) nx.has (short_queue who old.logins d old.view old.in_time old.represents.client);
    }

    abbrev next : Reading
    next = (reaction schedule w x i o old z known).reading

    read : IsReadAs o (keep_in schedule) history d nx.session z (reaction schedule w x i o old z known) (client_step_on z d)
    unfolding nx known
    read = read_so schedule w x i o old z known

    well_read : next.faulty ≡ false
    well_read = well x ground.read i old.device old.there nr.online (down_stanza z) nr.rest nr.first ground.taken

    stanza_kept : IsKept z
    stanza_kept page there same = by reading.page refl
      where
        none_now : next.page ≡ None
        none_now = none_shown (page_shown history) next.page (sym read.log.page ∙ ap (λ (l : LogView). l.page) same)

        as_many : length next.tiles ≡ length reading.tiles
        as_many =
            sym (length-map next.tiles (tile_shown (keep_in schedule))) ∙ ap length (sym read.log.tiles ∙ ap (λ (l : LogView). l.tiles) same ∙ old.log.tiles)
            ∙ length-map reading.tiles (tile_shown (keep_in schedule))

        by : (q : Option sessions.OpenPage) → reading.page ≡ q → ⊥
        by None none = none-some page (sym (old.log.page ∙ ap (option_map (page_shown history)) none) ∙ there)
        by (Some q) is = never_lost (around x old.device) reading q is (down_stanza z) well_read none_now as_many

    stanza_fair : (y : ItemOut) → y ≡ z → IsFairItem (read_of y)
    stanza_fair (Opening h) same = tt
    stanza_fair Closing same = tt
    stanza_fair (Whole e) same = λ named.
        let ended : (element_at d e phase.Online).client.phase ≡ phase.Apart =
        ap (λ b. (cond b (ends (silent_client_step d.client) (Stream (stream_condition e))) (element_row in_items (silent_client_step d.client) phase.Online e)).client.phase) named in
        let both : phase.Online ≡ phase.Apart =
        sym read.phase ∙ ap (λ y. (client_step_on y d).client.phase) (sym same) ∙ ap (λ (t : ClientStep ItemOut ItemOut). t.client.phase) (on_element d e phase.Online nx.online) ∙ ended in
        absurd (let no_way : ⊥ = cc in no_way)

  -- ---- each word

  fair_word : (word : DownWord ItemOut) (p : At word) → IsFairItem (read_of (item word p))
  unfolding sasl
  fair_word Head p = tt
  fair_word Feat p = features_fair (is_after_login p.conn.client)
  fair_word Chal p = λ named. absurd (false≢true named)
  fair_word Succ p = λ named. absurd (false≢true named)
  fair_word Failed p = λ named. absurd (false≢true named)
  fair_word (Resumed q h) p = λ named. absurd (false≢true named)
  fair_word (Bound m) p = λ named. absurd (false≢true named)
  fair_word (Enabled m) p = λ named. absurd (false≢true named)
  fair_word (Down (St z)) p = stanza_fair z p z refl
  fair_word (Down Req) p = λ named. absurd (false≢true named)
  fair_word (Down (Ack h)) p = λ named. absurd (false≢true named)
  fair_word (ErrWord Conflict) p = λ named. inl refl
  fair_word (ErrWord Constraint) p = λ named. inr refl
  fair_word (ErrWord TooHigh) p = absurd (no_count (expected who old.logins d (by_number w.wires) old.view (position + 1) (ErrWord TooHigh) p))
  fair_word End p = tt

  kept_word : (word : DownWord ItemOut) (p : At word) → IsStanzaAt d.client (read_of (item word p)) → IsKept (item word p) × (IsLeft (client_step_on (item word p) d) → ⊥)
  unfolding sasl
  kept_word Head p at = absurd at
  kept_word Feat p at = absurd (no_stanza d.client (is_after_login p.conn.client) at)
  kept_word Chal p at = absurd (false≢true at.1)
  kept_word Succ p at = absurd (false≢true at.1)
  kept_word Failed p at = absurd (false≢true at.1)
  kept_word (Resumed q h) p at = absurd (false≢true at.1)
  kept_word (Bound m) p at =
      let binding = phase_here who old.logins d (by_number w.wires) old.view (position + 1) (Bound m) p InBind (expected who old.logins d (by_number w.wires) old.view (position + 1) (Bound m) p).1 in
      let both : phase.Online ≡ phase.Binding = sym at.0 ∙ binding in
      absurd (let no_way : ⊥ = cc in no_way)
  kept_word (Enabled m) p at = absurd (false≢true at.1)
  kept_word (Down (St z)) p at = (stanza_kept z p, λ gone. (let both : phase.Online ≡ phase.Apart = sym (read z p).phase ∙ gone in cc))
  kept_word (Down Req) p at = absurd (false≢true at.1)
  kept_word (Down (Ack h)) p at = absurd (false≢true at.1)
  kept_word (ErrWord Conflict) p at = absurd (false≢true at.1)
  kept_word (ErrWord Constraint) p at = absurd (false≢true at.1)
  kept_word (ErrWord TooHigh) p at = absurd (no_count (expected who old.logins d (by_number w.wires) old.view (position + 1) (ErrWord TooHigh) p))
  kept_word End p at = absurd at

  -- no count is too high
  abbrev IsLow : ItemOut → Type 0
  IsLow z = IsHighAt d.client (read_of z) → IsLeft (client_step_on z d) → ⊥

  module _ (word : DownWord ItemOut) (p : At word) where
    client_at : (client : Client) → p.conn.client ≡ client → d.client.phase ≡ client_phase who (old.logins (position + 1)) client
    client_at client is = phase_here who old.logins d (by_number w.wires) old.view (position + 1) word p client is

    quiet_at : (client : Client) → p.conn.client ≡ client → CountsNone (client_phase who (old.logins (position + 1)) client) → IsLow (item word p)
    quiet_at client is none = λ high gone. none_high d.client (client_phase who (old.logins (position + 1)) client) (client_at client is) none (read_of (item word p)) high

    comes : IsExpectedDown old.view p.conn.client word
    comes = expected who old.logins d (by_number w.wires) old.view (position + 1) word p

    links : LinkKept old.view
    links = kept_here who old.logins d (by_number w.wires) old.view (position + 1) word p

    has_own : (o : Own ItemOut) → old.view.own ≡ Some o → (s : SessionView ItemOut) × (d.client.session ≡ Some s) × IsOwn o s
    has_own o is = own_session who old.logins d old.view o old.represents.client is

  resumed_low : (q h : ℕ) (p : At (Resumed q h)) → IsLow (item (Resumed q h) p)
  resumed_low q h p (s, k, has, count, plain, high) gone =
      let e = comes (Resumed q h) p in
      let own = has_own (Resumed q h) p e.0 e.1 in
      let within = resumed_within old.view (position + 1) q h p.conn e.0 p.rest (links (Resumed q h) p) p.here p.is e.1 p.first in
      let known = subst (λ at. IsCountAt at (resumed_elem (record { previd = previd_of q; h = told_count h })) k) (client_at (Resumed q h) p (InResume q) e.3) count in
      let told = same_ok (previd_of q, told_count h) known.0 (resumption_read (codes "resumed") (resumed_elem (record { previd = previd_of q; h = told_count h }))) (resumed_written (record { previd = previd_of q; h = told_count h }) (mod-lt h (omega arith))) known.1 in
      not_above d.client own.0 (told_count h) own.1 (not_too_high e.0 own.0 h within own.2) s k has (sym known.2 ∙ ap (λ (x : List ℕ × ℕ). x.1) (sym told)) high

  failed_low : (p : At Failed) → IsLow (item Failed p)
  failed_low p (s, k, has, count, plain, high) gone =
      let e = comes Failed p in
      let known = subst (λ at. IsCountAt at (sm_failed_elem (record { condition = ItemNotFound })) k) (client_at Failed p (InResume e.0.number) e.2) count in
      no_ok _ known.0 (resumption_read (codes "resumed") (sm_failed_elem (record { condition = ItemNotFound }))) refl known.1

  count_low : (h : ℕ) (p : At (Down (Ack h))) → IsLow (item (Down (Ack h)) p)
  count_low h p (s, k, has, count, plain, high) gone =
      let e = comes (Down (Ack h)) p in
      let own = has_own (Down (Ack h)) p e.0 e.1 in
      let within = down_count_within old.view (position + 1) h p.conn e.0 p.rest (links (Down (Ack h)) p) p.here p.is e.1 p.first in
      let known = subst (λ at. IsCountAt at (ack_elem (record { h = told_count h })) k) (client_at (Down (Ack h)) p (InOnline e.0.number) e.2) count in
      let told = same_ok (record { h = told_count h }) known.0 (ack_read (ack_elem (record { h = told_count h }))) (ack_written (record { h = told_count h }) (mod-lt h (omega arith))) known.2 in
      not_above d.client own.0 (told_count h) own.1 (not_too_high e.0 own.0 h within own.2) s k has (sym known.3 ∙ ap (λ (x : AckWord). x.h) (sym told)) high

  request_low : (p : At (Down Req)) → IsLow (item (Down Req) p)
  request_low p (s, k, has, count, plain, high) gone =
      let e = comes (Down Req) p in
      let known = subst (λ at. IsCountAt at (bare management (codes "r")) k) (client_at (Down Req) p (InOnline e.0.number) e.2) count in
      false≢true (sym known.1)

  stanza_low : (z : ItemOut) (p : At (Down (St z))) → IsLow z
  stanza_low z p high gone = (let both : phase.Online ≡ phase.Apart = sym (read z p).phase ∙ gone in cc)

  error_low : (condition : List ℕ) → IsLow (Whole (stream_error_elem condition None))
  error_low condition (s, k, has, count, plain, high) gone = false≢true (sym plain)

  low_word : (word : DownWord ItemOut) (p : At word) → IsLow (item word p)
  low_word Head p = λ high gone. high
  low_word Feat p = elim (comes Feat p) [ inl at ↦ quiet_at Feat p InFeatures1 at (λ e h none. none) | inr at ↦ quiet_at Feat p InFeatures2 at (λ e h none. none) ]
  low_word Chal p = quiet_at Chal p InAuth (comes Chal p) (λ e h none. none)
  low_word Succ p = quiet_at Succ p InResponse (comes Succ p) (λ e h none. none)
  low_word Failed p = failed_low p
  low_word (Resumed q h) p = resumed_low q h p
  low_word (Bound m) p = quiet_at (Bound m) p InBind (comes (Bound m) p).1 (λ e h none. none)
  low_word (Enabled m) p = quiet_at (Enabled m) p InEnable (comes (Enabled m) p).1 (λ e h none. none)
  low_word (Down (St z)) p = stanza_low z p
  low_word (Down Req) p = request_low p
  low_word (Down (Ack h)) p = count_low h p
  low_word (ErrWord Conflict) p = error_low (codes "conflict")
  low_word (ErrWord Constraint) p = error_low (codes "resource-constraint")
  low_word (ErrWord TooHigh) p = λ high gone. no_count (comes (ErrWord TooHigh) p)
  low_word End p = λ high gone. high

  -- ---- the item

  module _ (z : ItemOut) (n : IsNextItem position i w d wire z) where
    h : HasNextDown who old.logins d (by_number w.wires) old.view (position + 1) wire z
    h = next_down who old.logins w old.view old.represents (prompt_runs awaits old.view old.prompt) position d wire z n

    fair : IsFairItem (read_of z)
    fair = subst (λ y. IsFairItem (read_of y)) h.is (fair_word h.word h.next)

    abbrev IsStaying : ItemOut → Type 0
    IsStaying y = IsKept y × (IsLeft (client_step_on y d) → ⊥)

    stays : IsStanzaAt d.client (read_of z) → IsStaying z
    stays at = subst IsStaying h.is (kept_word h.word h.next (subst (λ y. IsStanzaAt d.client (read_of y)) (sym h.is) at))

    low : IsLow z
    low = subst IsLow h.is (low_word h.word h.next)

    pub item_bounded : (t : ClientStep ItemOut ItemOut) → t.client ≡ d.client → IsBounded t → IsBounded (item_step in_items t (read_of z))
    item_bounded t same bounded = by (step_out t (read_of z) fair bounded)
      where
        client_is : (item_step in_items t (read_of z)).client ≡ (client_step_on z d).client
        client_is = (step_adds (read_of z) t).client_is ∙ ap (λ c. (item_step in_items (silent_client_step c) (read_of z)).client) same

        left_here : IsLeft (item_step in_items t (read_of z)) → IsLeft (client_step_on z d)
        left_here gone = ap (λ (c : ClientView ItemOut). c.phase) (sym client_is) ∙ gone

        at_here : IsStanzaAt t.client (read_of z) → IsStanzaAt d.client (read_of z)
        at_here at = subst (λ c. IsStanzaAt c (read_of z)) same at

        by : StepOut t (read_of z) (item_step in_items t (read_of z)) → IsBounded (item_step in_items t (read_of z))
        by (inl done) = done
        by (inr (inl (at, inl (page, there, dropped)))) =
            absurd ((stays (at_here at)).0 page (ap (λ (c : ClientView ItemOut). c.log.page) (sym same) ∙ there)
            (ap (λ (c : ClientView ItemOut). c.log) (sym client_is) ∙ dropped ∙ ap (λ (c : ClientView ItemOut). without_page c.log) same))
        by (inr (inl (at, inr gone))) = absurd ((stays (at_here at)).1 (left_here gone))
        by (inr (inr (high, gone))) = absurd (low (subst (λ c. IsHighAt c (read_of z)) same high) (left_here gone))
