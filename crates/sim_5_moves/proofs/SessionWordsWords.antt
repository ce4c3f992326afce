-- A word on a session comes down: behind it the worlds are related still.
use Rattle.std.proofs.Common.{◌≡◌, ℕ, ◌+◌, ◌<◌, ◌^◌, refl, sym, subst, ◌∙◌, arith}
use Rattle.std.proofs.lemmas.Option.{same_Some}
use Rattle.sim_4_links_follow.proofs.AllReads.{counts_read, session_read}
use Rattle.cl_handlers.specs.AckRows.{acknowledges}
use Rattle.cl_handlers.specs.SessionRows.{attaches}
use Rattle.cl_handlers.specs.Speech.{in_items}
use Rattle.sim_5_moves.specs.Ground.{IsGround}
use Rattle.sim_4_links_follow.specs.Following.{IsNextItem}
use Rattle.sim_3_images.specs.Devices.{identity_at}
use Rattle.sim_3_items.specs.Identities.{Identity}
use Rattle.sim_3_items.specs.Pipes.{by_number}
use Rattle.sim_3_items.specs.Reading.{HearingFollows, IsNextDown, IsRead, client_step_on}
use Rattle.sim_3_items.specs.WordItems.{down_item, is_after_login, told_count}
use Rattle.sim_3_items.specs.ItemMoves.{Down}
use Rattle.sim_3_items.specs.ItemPipes.{ItemWire}
use Rattle.sim_3_items.specs.ItemWorlds.{ItemDevice, ItemWorld, silent_client_step}
use Rattle.sim_2_links.proofs.WithPremises.{prompt_runs}
use Rattle.sim_3_items.specs.Labels.{awaits}
use Rattle.sim_2_links.specs.Words.{Ack, Bound, Down as DownTraffic, DownWord, Enabled, Failed, Resumed}
use Rattle.sim_2_links.proofs.Epochs.{epoch_within}
use Rattle.cmd_schedule.specs.Contents.{Owned}
use Rattle.cmd_schedule.specs.Schedules.{WireView}
use Rattle.sim_1_applications.specs.Devices.{AppWorld}
use Rattle.sim_5_moves.proofs.SessionWordsComing.{Coming}
use Rattle.sim_5_moves.proofs.Entered.{entered_runs}
use Rattle.sim_5_moves.proofs.Failed.{failed_runs}
use Rattle.sim_5_moves.proofs.Learnt.{learns_runs}
use Rattle.sim_5_moves.proofs.Named.{named_runs}
use Rattle.sim_5_moves.proofs.SessionWordsTurns.{HasSession, bound_client_step, count_client_step, counted_session, enabled_client_step, failed_client_step, may_name, resumed_client_step, resumed_session}
use Rattle.sim_5_moves.specs.SessionWordsWords.{IsOfSessions}
use Rattle.sim_5_devices.proofs.Counts.{acked_told, attached_told}
use Rattle.sim_4_links_follow.proofs.Changes.{under_position}
use Rattle.sim_5_moves.specs.Running.{AreSmall, Bounds, DeviceSimulates, IsInBounds, IsOwned, MoveSimulates, WorldSimulates}
use Rattle.xml_writer.specs.Items.{ItemOut}

module _ (schedule : WireView) (b : Bounds) (small : AreSmall b) (says : ℕ) (w : ItemWorld) (x : AppWorld) (runs : WorldSimulates schedule b says w x) (ground : IsGround schedule x) (position : ℕ) (wire : ItemWire) (o : Owned)
    (owned : IsOwned schedule wire.device o) where
  abbrev old : DeviceSimulates schedule w x wire.device o
  old = runs.simulation.devices wire.device o owned

  abbrev who : Identity
  who = identity_at schedule wire.device o

  abbrev d : ItemDevice
  d = old.represents.device

  -- the word is the next one down
  abbrev IsNext : DownWord ItemOut → Type 0
  IsNext word = IsNextDown who old.logins d (by_number w.wires) old.view (position + 1) word

  abbrev item_of : (word : DownWord ItemOut) → IsNext word → ItemOut
  item_of word p = down_item who (old.logins (position + 1)) (position + 1) (is_after_login p.conn.client) word

  -- the next epoch has 64 bits
  low : old.view.epoch + 1 < 2 ^ 64
  low =
      let within = epoch_within old.view (prompt_runs awaits old.view old.prompt) in
      let free = old.represents.server.free in
      let few = runs.in_bounds.within.few in
      let dialled = runs.in_bounds.dialled in
      let most = small.dials in
      omega (arith, within, free, few, dialled, most)

  module _ (word : DownWord ItemOut) (p : IsNext word) (n : IsNextItem position wire.device w d wire (item_of word p)) (read : IsRead who old.logins d (by_number w.wires) old.view (position + 1) p.conn p.wire word) (bounds : IsInBounds b says (Down position) w x) where
    same_wire : p.wire ≡ wire
    same_wire = same_Some p.wire wire (sym p.there ∙ under_position position w.wires ∙ n.there)

    abbrev coming : Coming schedule b says w x
    coming = record {
      runs = runs;
      ground = ground;
      position = position;
      wire = wire;
      o = o;
      owned = owned;
      z = item_of word p;
      item = n;
      read = subst (λ u. HearingFollows who old.logins d (by_number w.wires) old.view (position + 1) u (client_step_on (item_of word p) d)) same_wire read;
      bounds = bounds;
    }

  failed_down : (p : IsNext Failed) → IsNextItem position wire.device w d wire (item_of Failed p) → IsInBounds b says (Down position) w x → MoveSimulates schedule b says (Down position) w x runs
  failed_down p n bounds =
      failed_runs schedule b says w x (coming Failed p n (session_read who old.logins d (by_number w.wires) old.view (position + 1) Failed p tt) bounds)
      (failed_client_step who old.logins d (by_number w.wires) old.view (position + 1) p)

  bound_down : (m : ℕ) (p : IsNext (Bound m)) → IsNextItem position wire.device w d wire (item_of (Bound m) p) → IsInBounds b says (Down position) w x → MoveSimulates schedule b says (Down position) w x runs
  bound_down m p n bounds =
      named_runs schedule b says w x (coming (Bound m) p n (session_read who old.logins d (by_number w.wires) old.view (position + 1) (Bound m) p low) bounds)
      m (may_name who old.logins d (by_number w.wires) old.view (position + 1) m p) low (bound_client_step who old.logins d (by_number w.wires) old.view (position + 1) m p)

  enabled_down : (m : ℕ) (p : IsNext (Enabled m)) → IsNextItem position wire.device w d wire (item_of (Enabled m) p) → IsInBounds b says (Down position) w x → MoveSimulates schedule b says (Down position) w x runs
  enabled_down m p n bounds =
      entered_runs schedule b says w x (coming (Enabled m) p n (session_read who old.logins d (by_number w.wires) old.view (position + 1) (Enabled m) p tt) bounds)
      m (enabled_client_step who old.logins d (by_number w.wires) old.view (position + 1) m p)

  module _ (q h : ℕ) (p : IsNext (Resumed q h)) where
    abbrev whose : HasSession d old.view
    whose = resumed_session who old.logins d (by_number w.wires) old.view (position + 1) q h p

    resumed_down : IsNextItem position wire.device w d wire (item_of (Resumed q h) p) → IsInBounds b says (Down position) w x → MoveSimulates schedule b says (Down position) w x runs
    resumed_down n bounds =
        learns_runs schedule b says w x (coming (Resumed q h) p n (session_read who old.logins d (by_number w.wires) old.view (position + 1) (Resumed q h) p tt) bounds)
        h whose (attaches in_items (acknowledges in_items (silent_client_step d.client) whose.session (told_count h))) (record {
          turn = resumed_client_step who old.logins d (by_number w.wires) old.view (position + 1) q h p;
          notes = refl;
          session = refl;
          told = λ there many counted. attached_told (silent_client_step d.client) there whose.session many (told_count h) counted;
          log = refl;
          pages = refl;
        })

  module _ (h : ℕ) (p : IsNext (DownTraffic (Ack h))) where
    abbrev its : HasSession d old.view
    its = counted_session who old.logins d (by_number w.wires) old.view (position + 1) h p

    count_down : IsNextItem position wire.device w d wire (item_of (DownTraffic (Ack h)) p) → IsInBounds b says (Down position) w x → MoveSimulates schedule b says (Down position) w x runs
    count_down n bounds =
        learns_runs schedule b says w x (coming (DownTraffic (Ack h)) p n (counts_read who old.logins d (by_number w.wires) old.view (position + 1) (DownTraffic (Ack h)) p tt) bounds)
        h its (acknowledges in_items (silent_client_step d.client) its.session (told_count h)) (record {
          turn = count_client_step who old.logins d (by_number w.wires) old.view (position + 1) h p;
          notes = refl;
          session = refl;
          told = λ there many counted. acked_told (silent_client_step d.client) there its.session many (told_count h) counted;
          log = refl;
          pages = refl;
        })

  pub session_word_runs : (word : DownWord ItemOut) → IsOfSessions word → (p : IsNext word) → IsNextItem position wire.device w d wire (item_of word p) → IsInBounds b says (Down position) w x → MoveSimulates schedule b says (Down position) w x runs
  session_word_runs Failed is p n bounds = failed_down p n bounds
  session_word_runs (Bound m) is p n bounds = bound_down m p n bounds
  session_word_runs (Enabled m) is p n bounds = enabled_down m p n bounds
  session_word_runs (Resumed q h) is p n bounds = resumed_down q h p n bounds
  session_word_runs (DownTraffic (Ack h)) is p n bounds = count_down h p n bounds
  session_word_runs _ is p n bounds = absurd is
