-- A word on which the client has no label comes down to a device, and the worlds are related still.
use Rattle.std.proofs.Common.{◌≡◌, ℕ, ◌+◌, refl, sym, subst, ◌∙◌, inl}
use Rattle.std.proofs.lemmas.Option.{same_Some}
use Rattle.cl_handlers.specs.Clients.{ClientStep}
use Rattle.sim_5_moves.proofs.Alone.{heard_so, hears_alone, moved_so}
use Rattle.sim_4_links_follow.proofs.ConnectionsElsewhere.{down_leaves}
use Rattle.sim_4_links_follow.proofs.Lifts.{hear_lifts}
use Rattle.sim_4_links_follow.specs.Following.{IsNextItem, WorldFollows}
use Rattle.sim_3_images.proofs.UserMoves.{get_set_same}
use Rattle.sim_3_images.specs.Relayable.{ClientFits, DownFits, ServerFits, UpFits}
use Rattle.sim_3_images.specs.Devices.{identity_at}
use Rattle.sim_3_items.specs.Identities.{Identity}
use Rattle.sim_3_items.specs.Pipes.{by_number}
use Rattle.sim_3_items.specs.Reading.{HearingFollows, IsNextDown, client_step_on, device_after, noted}
use Rattle.sim_3_items.specs.Represents.{Represents}
use Rattle.sim_3_items.specs.WordItems.{down_item, is_after_login}
use Rattle.sim_5_moves.proofs.SessionStepping.{session_step_runs}
use Rattle.sim_5_moves.proofs.DownMovesTurns.{IsCalm, word_calm, word_read}
use Rattle.sim_5_moves.specs.DownMovesWords.{IsSilentWord}
use Rattle.sim_3_images.proofs.FittingEncodings.{keep_here, takes_any}
use Rattle.sim_3_images.proofs.MoveSteps.{move_fits}
use Rattle.sim_3_images.specs.Fitting.{FitsHere}
use Rattle.sim_3_items.specs.ItemMoves.{Down}
use Rattle.sim_3_items.specs.ItemPipes.{ItemWire}
use Rattle.sim_3_items.specs.ItemWorlds.{ItemDevice, ItemWorld}
use Rattle.sim_2_links.specs.Words.{DownWord}
use Rattle.sim_5_moves.specs.Silent.{SameUser}
use Rattle.cmd_schedule.specs.Contents.{Owned}
use Rattle.cmd_schedule.specs.Schedules.{WireView}
use Rattle.sim_1_applications.specs.Devices.{AppWorld}
use Rattle.sim_4_links_follow.proofs.Changes.{under_position}
use Rattle.sim_5_moves.specs.Running.{Bounds, DeviceSimulates, IsOwned, MoveSimulates, WorldSimulates}
use Rattle.xml_writer.specs.Items.{ItemOut}
use Rattle.sim_5_moves.proofs.Doing.{heard_nothing}

module _ (schedule : WireView) (b : Bounds) (says : ℕ) (w : ItemWorld) (x : AppWorld) (runs : WorldSimulates schedule b says w x) (position : ℕ) (wire : ItemWire) (o : Owned) (owned : IsOwned schedule wire.device o) where
  abbrev i : ℕ
  i = wire.device

  abbrev old : DeviceSimulates schedule w x i o
  old = runs.simulation.devices i o owned

  abbrev who : Identity
  who = identity_at schedule i o

  abbrev d : ItemDevice
  d = old.represents.device

  -- an item on which it has none
  calm_runs : (z : ItemOut) (n : IsNextItem position i w d wire z) → IsCalm d.client (client_step_on z d) → HearingFollows who old.logins d (by_number w.wires) old.view (position + 1) wire (client_step_on z d) → MoveSimulates schedule b says (Down position) w x runs
  calm_runs z n calm read =
      let t : ClientStep ItemOut ItemOut = client_step_on z d in
      let after : ItemWorld = heard_so w position d wire z n in
      let is = moved_so w position d wire z n in
      session_step_runs schedule b says (Down position) w x runs i o owned after
      (record {
        is = is;
        alone = hears_alone w position d wire z n;
        fits = subst FitsHere is (move_fits UpFits DownFits ServerFits ClientFits keep_here takes_any (Down position) w runs.in_bounds.fits tt);
        follows =
            subst (WorldFollows who old.logins after old.view) calm.notes
            (subst (λ v. WorldFollows who old.logins v old.view (noted t.out.notes)) is (hear_lifts who old.logins w old.view old.represents position d wire z n read));
        user = λ e at. subst (λ (y : ItemDevice). SameUser d.client y.client) (same_Some (device_after t d) e (sym (get_set_same w.devices i d (device_after t d) old.represents.there) ∙ at)) calm.user;
        others = λ j p q other.
            subst (λ v. Represents (identity_at schedule j p) (runs.simulation.devices j p q).logins v (runs.simulation.devices j p q).view) is
            (down_leaves (identity_at schedule j p) (runs.simulation.devices j p q).logins w (runs.simulation.devices j p q).view (runs.simulation.devices j p q).represents position wire n.there (λ same. other (sym same)));
        silent = refl;
        asked = λ j e f same. ((λ none. (same.0, same.1 none), inl same.0), λ u there apart. same);
        nothing = heard_nothing position i w d wire z n calm.notes;
      })

  pub quiet_word_runs : (word : DownWord ItemOut) → IsSilentWord word → (p : IsNextDown who old.logins d (by_number w.wires) old.view (position + 1) word)
      → IsNextItem position i w d wire (down_item who (old.logins (position + 1)) (position + 1) (is_after_login p.conn.client) word) → MoveSimulates schedule b says (Down position) w x runs
  quiet_word_runs word is p n =
      let z : ItemOut = down_item who (old.logins (position + 1)) (position + 1) (is_after_login p.conn.client) word in
      let same : p.wire ≡ wire = same_Some p.wire wire (sym p.there ∙ under_position position w.wires ∙ n.there) in
      calm_runs z n (word_calm who old.logins d (by_number w.wires) old.view (position + 1) word p is)
      (subst (λ u. HearingFollows who old.logins d (by_number w.wires) old.view (position + 1) u (client_step_on z d)) same (word_read who old.logins d (by_number w.wires) old.view (position + 1) word p is))
