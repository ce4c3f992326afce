-- The pairs of each world of a history go on in the next.
use Rattle.std.proofs.Common.{◌≡◌, ℕ, suc, ◌∷◌, Option, None, Some, refl, sym, ap, ◌∙◌, subst, arith, inl, inr}
use Rattle.std.proofs.lemmas.Bool.{cases_lt}
use Rattle.std.proofs.lemmas.Option.{none-some}
use Rattle.std.specs.List.{slice_get}
use Rattle.std.specs.Option.{option_map}
use Rattle.cmd_network.specs.Devices.{DeviceState}
use Rattle.cmd_schedule.specs.Contents.{Owned}
use Rattle.cmd_schedule.specs.Schedules.{WireView}
use Rattle.cmd_schedule.specs.LineLists.{IsLineList}
use Rattle.sim_1_applications.specs.Runs.{owned_of}
use Rattle.sim_2_links.proofs.Onward.{moves_go}
use Rattle.sim_2_links.proofs.WithPremises.{prompt_runs}
use Rattle.sim_2_links.specs.Onward.{IsOnward}
use Rattle.sim_2_links.specs.Views as links
use Rattle.sim_2_links.specs.Views.{View}
use Rattle.sim_3_images.specs.WorldEncodings.{Both, DeviceEncodes}
use Rattle.sim_3_items.specs.Labels.{awaits}
use Rattle.sim_5_moves.specs.Running.{DeviceSimulates, Leads}
use Rattle.sim_7_schedules.proofs.HistorySteps.{HasViews, first_of, history_is, leads_between, move_there, moved_there, steps_in, world_at}
use Rattle.sim_7_schedules.proofs.NotedPairs.{pairs_by, pairs_noted}
use Rattle.sim_7_schedules.proofs.SessionMessages.{told_here}
use Rattle.sim_7_schedules.proofs.SessionPairs.{epoch_is, found_pair, pair_of, pairs_are, pairs_here}
use Rattle.sim_7_schedules.proofs.WorldsSimulated.{kept_at}
use Rattle.sim_7_schedules.specs.Simulation.{LabelsAreNotedIn}
use Rattle.sim_7_schedules.specs.Courses.{AreNew, AreNoted, GoOn, GoesOn, HasCourse, IsNew, moves_in}
use Rattle.sim_7_schedules.specs.Messages.{AreTold}
use Rattle.sim_7_schedules.specs.Pairs.{HasPairs}
use Rattle.cmd_world.specs.Histories.{history_of, world_at_start, worlds_by}
use Rattle.cmd_world.specs.Moves.{Move, moved}
use Rattle.sim_3_images.specs.Notes.{notes_in}
use Rattle.sim_3_images.specs.Puts.{given_in}
use Rattle.sim_3_images.specs.Reads.{read_in}
use Rattle.cmd_world.specs.Worlds.{ByteWorld}
use Rattle.xml_writer.specs.Items.{ItemOut}

-- ---- pairs

goes_by : (t u : links.Session ItemOut) → IsOnward t u → GoesOn (pair_of t) (pair_of u)
goes_by t u on = record { up = on.up; down = on.down; epoch = on.epoch }

go_on_by : (old new : View ItemOut) → ((p : ℕ) (t : links.Session ItemOut) → old.sessions p ≡ Some t → (u : links.Session ItemOut) × (new.sessions p ≡ Some u) × IsOnward t u) → GoOn (pairs_by old) (pairs_by new)
go_on_by old new onward number p at =
    let (t, here, is) = found_pair (old.sessions number) p at in
    let (u, there, goes) = onward number t here in
    (pair_of u, ap (option_map pair_of) there, subst (λ q. GoesOn q (pair_of u)) is (goes_by t u goes))

-- ---- what is new

-- a pair that is new has no epoch, or one above those that the client had reached
new_by : (s : WireView) (V W : ByteWorld) (i : ℕ) (o : Owned) (before : HasPairs s V i o) (following : HasPairs s W i o) → GoOn before.pairs following.pairs → (d : DeviceState) → slice_get V.devices i ≡ Some d → (e : DeviceState) → slice_get W.devices i ≡ Some e →
    AreNew d.client.client.epoch before.pairs following.pairs
new_by s V W i o before following go d here e there number q none at = by q.epoch refl
  where
    by : (epoch : Option ℕ) → q.epoch ≡ epoch → IsNew d.client.client.epoch q
    by None is = inl (following.unread number q at is)
    by (Some n) is = elim (cases_lt d.client.client.epoch n) [
      | inl high ↦ inr (n, is, omega (arith, high))
      | inr low ↦
          let m = before.reached d here n (following.within e there number n q at is).0 low in
          let (r, then_at, goes) = go m.0 m.1 m.2 in
          let same : m.0 ≡ number = following.once m.0 number n r q then_at at (goes.epoch n m.3) is in
          absurd (none-some m.1 (sym none ∙ ap before.pairs (sym same) ∙ m.2))
    ]

-- of two that are there together, the first is
left_of : {A B : Type 0} (R : A → B → Type 0) (a : Option A) (b : B) → Both R a (Some b) → (x : A) × (a ≡ Some x)
left_of R None b both = absurd both
left_of R (Some x) b both = (x, refl)

-- ---- the course

module _ (s : WireView) (right : IsLineList s) (i : ℕ) (o : Owned) (owned : slice_get (owned_of s) i ≡ Some o) where
  -- it is a world behind some of the list's moves
  abbrev stepped_at : (j : ℕ) (W : ByteWorld) → slice_get (history_of s) j ≡ Some W → slice_get (world_at_start s ∷ worlds_by (moves_in s) (world_at_start s)) j ≡ Some W
  stepped_at j W at = ap (λ l. slice_get l j) (sym (history_is s)) ∙ at

  abbrev beside : (j : ℕ) (W : ByteWorld) → slice_get (history_of s) j ≡ Some W → HasViews s W
  beside j W at = world_at s (world_at_start s) (first_of s right) (moves_in s) (steps_in s right) j W (stepped_at j W at)

  abbrev device : (j : ℕ) (W : ByteWorld) (at : slice_get (history_of s) j ≡ Some W) → DeviceSimulates s (beside j W at).2.beside.items (beside j W at).0 i o
  device j W at = (beside j W at).2.beside.runs.simulation.devices i o owned

  abbrev pairs_at : (j : ℕ) (W : ByteWorld) → slice_get (history_of s) j ≡ Some W → HasPairs s W i o
  pairs_at j W at = pairs_here s W (beside j W at).0 (beside j W at).2.beside i o owned

  info_at : (j : ℕ) (W : ByteWorld) (at : slice_get (history_of s) j ≡ Some W) → AreTold W i o (pairs_at j W at).pairs
  info_at j W at =
      let b = beside j W at in
      subst (AreTold W i o) (sym (pairs_are s W b.0 b.2.beside i o owned)) (told_here s right W b.0 (kept_at s j W at) b.2.beside i o owned)

  -- the move between the one and the other
  move_at : (j : ℕ) (W : ByteWorld) → slice_get (history_of s) (suc j) ≡ Some W → (m : Move) × (slice_get (moves_in s) j ≡ Some m)
  move_at j W two = move_there (world_at_start s) (moves_in s) j W (stepped_at (suc j) W two)

  -- moves of the links lead from the one to the other, in which the client does what it notes down then
  leads_at : (j : ℕ) (V W : ByteWorld) (one : slice_get (history_of s) j ≡ Some V) (two : slice_get (history_of s) (suc j) ≡ Some W) → Leads (LabelsAreNotedIn (move_at j W two).0 V i) (device j V one).view (device (suc j) W two).view
  leads_at j V W one two =
      let a = beside j V one in
      let b = beside (suc j) W two in
      let m = move_at j W two in
      subst (λ v. Leads (LabelsAreNotedIn m.0 V i) v (device (suc j) W two).view) (sym (a.2.shown i o owned))
      (subst (λ v. Leads (LabelsAreNotedIn m.0 V i) (a.1 i o owned) v) (sym (b.2.shown i o owned))
      (leads_between s (world_at_start s) (first_of s right) (moves_in s) (steps_in s right) j V W m.0 (stepped_at j V one) (stepped_at (suc j) W two) m.1 i o owned))

  goes_at : (j : ℕ) (V W : ByteWorld) (one : slice_get (history_of s) j ≡ Some V) (two : slice_get (history_of s) (suc j) ≡ Some W) → GoOn (pairs_at j V one).pairs (pairs_at (suc j) W two).pairs
  goes_at j V W one two =
      let a = beside j V one in
      let b = beside (suc j) W two in
      let old = device j V one in
      let leads = leads_at j V W one two in
      subst (GoOn (pairs_at j V one).pairs) (sym (pairs_are s W b.0 b.2.beside i o owned))
      (subst (λ f. GoOn f (pairs_by (device (suc j) W two).view)) (sym (pairs_are s V a.0 a.2.beside i o owned))
      (go_on_by old.view (device (suc j) W two).view (moves_go leads.0 old.view (device (suc j) W two).view (prompt_runs awaits old.view old.prompt) leads.1)))

  noted_at : (j : ℕ) (V W : ByteWorld) (one : slice_get (history_of s) j ≡ Some V) (two : slice_get (history_of s) (suc j) ≡ Some W) (d : DeviceState) → slice_get V.devices i ≡ Some d →
      (m : Move) × (slice_get (moves_in s) j ≡ Some m) × (W ≡ moved m V) × AreNoted d.client.client.epoch (notes_in m V i) (read_in m V i) (given_in m V i) (pairs_at j V one).pairs (pairs_at (suc j) W two).pairs
  noted_at j V W one two d here =
      let a = beside j V one in
      let b = beside (suc j) W two in
      let old = device j V one in
      let m = move_at j W two in
      let noted = pairs_noted m.0 V i old.view (device (suc j) W two).view old.device.sessions (prompt_runs awaits old.view old.prompt) old.sessions (leads_at j V W one two) in (
        m.0,
        m.1,
        moved_there (world_at_start s) (moves_in s) j V W m.0 (stepped_at j V one) (stepped_at (suc j) W two) m.1,
        subst (λ e. AreNoted e (notes_in m.0 V i) (read_in m.0 V i) (given_in m.0 V i) (pairs_at j V one).pairs (pairs_at (suc j) W two).pairs) (sym (epoch_is s V a.0 a.2.beside i o owned d here))
            (subst (AreNoted old.view.epoch (notes_in m.0 V i) (read_in m.0 V i) (given_in m.0 V i) (pairs_at j V one).pairs) (sym (pairs_are s W b.0 b.2.beside i o owned))
            (subst (λ f. AreNoted old.view.epoch (notes_in m.0 V i) (read_in m.0 V i) (given_in m.0 V i) f (pairs_by (device (suc j) W two).view)) (sym (pairs_are s V a.0 a.2.beside i o owned)) noted)),
      )

  there_at : (j : ℕ) (W : ByteWorld) → slice_get (history_of s) j ≡ Some W → (e : DeviceState) × (slice_get W.devices i ≡ Some e)
  there_at j W at =
      let b = (beside j W at).2.beside in
      let d = device j W at in
      left_of DeviceEncodes (slice_get W.devices i) d.represents.device (subst (λ y. Both DeviceEncodes (slice_get W.devices i) y) d.represents.there (b.encodes.encoding.devices i))

  new_at : (j : ℕ) (V W : ByteWorld) (one : slice_get (history_of s) j ≡ Some V) (two : slice_get (history_of s) (suc j) ≡ Some W) (d : DeviceState) → slice_get V.devices i ≡ Some d → AreNew d.client.client.epoch (pairs_at j V one).pairs (pairs_at (suc j) W two).pairs
  new_at j V W one two d here =
      let e = there_at (suc j) W two in
      new_by s V W i o (pairs_at j V one) (pairs_at (suc j) W two) (goes_at j V W one two) d here e.0 e.1

  pub course : HasCourse s i o
  course = record { pairs = pairs_at; told = info_at; goes = goes_at; new = new_at; noted = noted_at }
