-- In a world beside the applications the messages of a session are those that lines of a report tell of its epoch.
use Rattle.std.proofs.Common.{◌≡◌, ℕ, ◌+◌, ◌<◌, ◌≤◌, leb, List, [], ◌∷◌, ◌++◌, Option, Some, length, map, refl, sym, ap, ap₂, ◌∙◌, subst, arith, inl, inr}
use Rattle.std.proofs.lemmas.Bool.{cases_Bool, leb-false, leb-true}
use Rattle.std.proofs.lemmas.Option.{same_Some}
use Rattle.std.specs.List.{AllByRecursion, filter, flat_map, slice_get}
use Rattle.std.specs.Option.{option_map}
use Rattle.base_lemmas.proofs.Lists.{AllByRecursion-weaker}
use Rattle.cmd_network.specs.DeviceLines.{said_line}
use Rattle.cmd_network.specs.Devices.{DeviceState}
use Rattle.base_io.specs.Names.{is_among}
use Rattle.sim_3_images.proofs.NetworkMoves.{found_both}
use Rattle.sim_3_images.specs.WorldEncodings.{DeviceEncodes}
use Rattle.sim_3_items.specs.Labels.{awaits}
use Rattle.sim_3_items.specs.Items.{stanzas_read}
use Rattle.sim_3_items.specs.ItemWorlds.{ItemDevice}
use Rattle.sim_2_links.proofs.Reached.{link_kept}
use Rattle.sim_2_links.proofs.WithPremises.{prompt_runs}
use Rattle.sim_2_links.specs.Events.{seen_as, seen_session}
use Rattle.sim_2_links.specs.Machine.{LinkReached}
use Rattle.sim_2_links.specs.Views as links
use Rattle.sim_2_events.specs.Lists.{IsSession}
use Rattle.sm_outbox.specs.Submissions.{all_said}
use Rattle.cmd_report.specs.Lines.{take_line}
use Rattle.cmd_report.specs.declared.report.SaidLine.{SaidLine}
use Rattle.cmd_report.specs.declared.report.SaidMark.TheVariants.{Undecided}
use Rattle.cmd_report.specs.declared.report.TakeLine.{TakeLine}
use Rattle.sim_7_schedules.proofs.Moves.{small}
use Rattle.sim_7_schedules.proofs.WorldTold as world
use Rattle.cmd_schedule.specs.Contents.{Owned, accounts_of}
use Rattle.cmd_schedule.specs.Schedules.{WireView, keep_of}
use Rattle.cmd_schedule.specs.LineLists.{IsLineList}
use Rattle.cmd_schedule.specs.WireGrammar.{nothing_above}
use Rattle.cmd_schedule.specs.declared.schedule.Version.{Version}
use Rattle.sim_7_schedules.specs.Simulation.{Simulates, bounds}
use Rattle.sim_1_applications.proofs.Later.{later_along}
use Rattle.sim_1_applications.proofs.Runs.{taken_along, taken_beginning}
use Rattle.sim_1_applications.specs.Devices as sessions
use Rattle.sim_1_applications.specs.Devices.{Session, epoch_of, up_put}
use Rattle.sim_1_applications.specs.Kept.{DeviceTaken, IsNumbered, IsOfDevice, Taken, accepted, is_of, said_in}
use Rattle.sim_1_applications.specs.Stanzas.{Submission, messages}
use Rattle.sim_1_applications.proofs.Ground.{lines_of_device}
use Rattle.sim_1_applications.proofs.Owners.{names_differ}
use Rattle.sim_1_applications.proofs.WireSteps.{wire_stand}
use Rattle.sim_1_applications.proofs.Taken.{of_mapped}
use Rattle.sim_1_applications.specs.Reported as reported
use Rattle.sim_1_applications.specs.Reported.{mark_of, said_of, take_of}
use Rattle.sim_1_applications.specs.Runs.{begins, owned_of, steps_in}
use Rattle.sim_7_schedules.proofs.EpochLists.{Have, IsBetween, accepted_in, accepted_none, accepted_numbered, at_last, at_past, between, found_at, have_all, joined, put_in, put_none, put_numbered, said_same}
use Rattle.sim_7_schedules.proofs.ReachedEpochs.{all_reached}
use Rattle.sim_7_schedules.proofs.SessionPairs.{found_pair, has_epoch, pair_of}
use Rattle.sim_7_schedules.specs.Messages.{AreTold, HasMessages, Told, messages_in, of_epoch, said_lines, taken_of, told, told_said, told_taken}
use Rattle.sim_7_schedules.specs.Pairs.{HasEpoch, Pair}
use Rattle.cmd_world.specs.Worlds.{ByteWorld}
use Rattle.sim_3_images.specs.Kept.{IsWorldKept}
use Rattle.sim_5_moves.specs.Running.{DeviceSimulates}
use Rattle.xml_writer.specs.Items.{ItemOut}

told_same : (version : Version) (owned : List Owned) (ts : List sessions.Take) → map told_taken (map (take_line version) (map (take_of owned) ts)) ≡ map told (map said_in ts)
told_same version owned [] = refl
told_same version owned (t ∷ ts) = ap (λ l. told t.said ∷ l) (told_same version owned ts)

module _ (s : WireView) (right : IsLineList s) (W : ByteWorld) (x : sessions.AppWorld) (kept : IsWorldKept s W) (beside : Simulates s W x) (i : ℕ) (o : Owned) (owned : slice_get (owned_of s) i ≡ Some o) where
  abbrev pub here : DeviceSimulates s beside.items x i o
  here = beside.runs.simulation.devices i o owned

  taken : Taken x
  taken =
      let led = beside.runs.in_bounds.led in
      taken_along led.events (begins s) x led.reaches (taken_beginning (keep_of s.version) (accounts_of (steps_in s)) (map (λ (p : Owned). p.account) (owned_of s)))

  -- ---- the session of an epoch

  pub record OfEpoch (e : ℕ) (t : links.Session ItemOut) : Type 0 where
    pub session : Session
    pub at : slice_get (here.device.sessions.past ++ here.device.sessions.now ∷ []) e ≡ Some session
    pub is : IsSession stanzas_read (seen_session t) session

  pub of_an_epoch : (number e : ℕ) (t : links.Session ItemOut) → here.view.sessions number ≡ Some t → t.epoch ≡ Some e → OfEpoch e t
  of_an_epoch number e t there epoch =
      let d = here.device.sessions in
      let is = here.sessions in
      let seen_there : seen_as (here.view.sessions number) ≡ Some (seen_session t) = ap seen_as there in
      let low = is.below number e (seen_session t) seen_there epoch in
      elim (cases_Bool (leb (e + 1) here.view.epoch)) [
        | inl before ↦ (let old = is.past number e (seen_session t) seen_there epoch (leb-true (e + 1) here.view.epoch before) in record { session = old.0; at = at_past d.past d.now old.0 e old.1; is = old.2 })
        | inr present ↦ (let high = leb-false (e + 1) here.view.epoch present in
            let same : e ≡ here.view.epoch = omega arith in
            record { session = d.now; at = at_last d.past d.now e (same ∙ is.epoch); is = is.now number (seen_session t) seen_there (epoch ∙ ap Some same) })
      ]

  -- ---- what was put

  said_are : (d : DeviceState) → slice_get W.devices i ≡ Some d → map said_line (all_said d.client.client.said) ≡ said_of here.device.sessions
  said_are d at =
      let found = found_both DeviceEncodes d (slice_get W.devices i) (slice_get beside.items.devices i) at (beside.encodes.encoding.devices i) in
      let same : found.other ≡ here.represents.device = same_Some found.other here.represents.device (sym found.is ∙ here.represents.there) in
      ap (λ c. map said_line (all_said c.said)) found.holds.client ∙ ap (λ (e : ItemDevice). map said_line (all_said e.client.said)) same ∙ here.submissions.said

  known : DeviceTaken x i here.device
  known = taken.devices i here.device here.there

  -- what the lines of `said` tell is what was put of all sessions
  put_all : (d : DeviceState) → slice_get W.devices i ≡ Some d → map told_said (said_lines d) ≡ flat_map put_in (here.device.sessions.past ++ here.device.sessions.now ∷ [])
  put_all d at =
      let ds = here.device.sessions in
      let mark = mark_of ds.online in
      ap (λ lines. map told_said lines) (said_are d at)
      ∙ joined put_in (reported.said_in Undecided) told_said (reported.said_in mark ds.now) (λ u. said_same u.acked Undecided (up_put u)) ds.past ds.now (said_same ds.now.acked mark (up_put ds.now))

  put_have : Have put_in 0 (here.device.sessions.past ++ here.device.sessions.now ∷ [])
  put_have = let ds = here.device.sessions in have_all put_in put_numbered 0 (epoch_of ds) ds.past ds.now (omega arith) known.sessions.past known.sessions.now

  put_told : (e : ℕ) (t : links.Session ItemOut) → OfEpoch e t → (d : DeviceState) → slice_get W.devices i ≡ Some d → map told (messages_in t.up.put) ≡ of_epoch e (map told_said (said_lines d))
  put_told e t z d at =
      let ds = here.device.sessions in
      ap (λ zs. map told (messages zs)) z.is.up_put
      ∙ sym (ap (of_epoch e) (put_all d at) ∙ found_at put_in 0 e e (ds.past ++ ds.now ∷ []) z.session (omega arith) put_have z.at)

  -- ---- what was handled

  accounts_same : W.accounts ≡ x.accounts
  accounts_same = let led = beside.runs.in_bounds.led in kept.accounts ∙ sym (later_along led.events (begins s) x led.reaches).accounts

  within : AllByRecursion (λ (t : sessions.Take). t.device < length (owned_of s)) x.takes
  within = AllByRecursion-weaker (IsOfDevice x.accounts (length x.devices)) (λ (t : sessions.Take). t.device < length (owned_of s)) (λ t is. let low = is.device in let many = beside.runs.simulation.many_there in omega arith) x.takes taken.placed

  takes_are : map told_taken (taken_of o.device W.takes) ≡ map told (map said_in (filter (is_of i) x.takes))
  takes_are =
      let lines = (world.reported s bounds beside.says W beside.items x right small kept beside.encodes beside.runs).takes in
      let differ = names_differ (steps_in s) (wire_stand [] nothing_above s.lines refl right.lines) in
      ap (λ ls. map told_taken (taken_of o.device ls)) lines
      ∙ ap (map told_taken) (lines_of_device s.version (owned_of s) i o x.takes differ owned within)
      ∙ told_same s.version (owned_of s) (filter (is_of i) x.takes)

  -- what the lines of `take` tell is what was handled of all sessions
  handled_all : map told_taken (taken_of o.device W.takes) ≡ flat_map (accepted_in x.accounts) (here.device.sessions.past ++ here.device.sessions.now ∷ [])
  handled_all =
      let ds = here.device.sessions in
      takes_are ∙ ap (map told) known.takes.are ∙ joined (accepted_in x.accounts) (accepted x.accounts) told (accepted x.accounts ds.now) (λ u. refl) ds.past ds.now refl

  handled_have : Have (accepted_in x.accounts) 0 (here.device.sessions.past ++ here.device.sessions.now ∷ [])
  handled_have = let ds = here.device.sessions in have_all (accepted_in x.accounts) (accepted_numbered x.accounts) 0 (epoch_of ds) ds.past ds.now (omega arith) known.sessions.past known.sessions.now

  handled_told : (e : ℕ) (t : links.Session ItemOut) → OfEpoch e t → map told (filter (λ (m : Submission). is_among m.to W.accounts) (messages_in t.up.got)) ≡ of_epoch e (map told_taken (taken_of o.device W.takes))
  handled_told e t z =
      let ds = here.device.sessions in
      ap₂ (λ names zs. map told (filter (λ (m : Submission). is_among m.to names) (messages zs))) accounts_same z.is.up_got
      ∙ sym (ap (of_epoch e) handled_all ∙ found_at (accepted_in x.accounts) 0 e e (ds.past ++ ds.now ∷ []) z.session (omega arith) handled_have z.at)

  -- ---- each line is of the epoch of a session

  abbrev pairs_of_view : ℕ → Option Pair
  pairs_of_view number = option_map pair_of (here.view.sessions number)

  reached : LinkReached here.view
  reached = prompt_runs awaits here.view here.prompt

  epoch_between : (m : Told) → IsBetween put_in (epoch_of here.device.sessions) m → HasEpoch pairs_of_view m.epoch
  epoch_between m is = has_epoch here.view (link_kept here.view reached) m.epoch (all_reached here.view reached) is.0 (subst (λ n. m.epoch ≤ n) (sym here.sessions.epoch) is.1)

  lines_between : (g : Session → List Told) → ((u : Session) → IsNumbered 0 u → g u ≡ []) → Have g 0 (here.device.sessions.past ++ here.device.sessions.now ∷ []) →
      AllByRecursion (λ (m : Told). HasEpoch pairs_of_view m.epoch) (flat_map g (here.device.sessions.past ++ here.device.sessions.now ∷ []))
  lines_between g none have =
      let ds = here.device.sessions in
      AllByRecursion-weaker (IsBetween put_in (epoch_of ds)) (λ (m : Told). HasEpoch pairs_of_view m.epoch) epoch_between (flat_map g (ds.past ++ ds.now ∷ []))
      (between g none (epoch_of ds) ds.past ds.now (omega arith) have known.sessions.past known.sessions.now)

  said_within : (d : DeviceState) → slice_get W.devices i ≡ Some d → AllByRecursion (λ (line : SaidLine). HasEpoch pairs_of_view line.epoch) (said_lines d)
  said_within d at =
      of_mapped (λ (m : Told). HasEpoch pairs_of_view m.epoch) told_said (said_lines d)
      (subst (AllByRecursion (λ (m : Told). HasEpoch pairs_of_view m.epoch)) (sym (put_all d at)) (lines_between put_in put_none put_have))

  taken_within : AllByRecursion (λ (line : TakeLine). HasEpoch pairs_of_view line.epoch) (taken_of o.device W.takes)
  taken_within =
      of_mapped (λ (m : Told). HasEpoch pairs_of_view m.epoch) told_taken (taken_of o.device W.takes)
      (subst (AllByRecursion (λ (m : Told). HasEpoch pairs_of_view m.epoch)) (sym handled_all) (lines_between (accepted_in x.accounts) (accepted_none x.accounts) handled_have))

  each_told : (number e : ℕ) (p : Pair) → pairs_of_view number ≡ Some p → p.epoch ≡ Some e → HasMessages W i o e p
  each_told number e p at epoch =
      let (t, there, same) = found_pair (here.view.sessions number) p at in
      let z = of_an_epoch number e t there (ap (λ (q : Pair). q.epoch) same ∙ epoch) in
      subst (HasMessages W i o e) same (record { put = put_told e t z; handled = handled_told e t z })

  pub told_here : AreTold W i o pairs_of_view
  told_here = record { each = each_told; said = said_within; taken = taken_within }
