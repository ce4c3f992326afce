-- Each item that comes down leaves the worlds related, by the word that it is.
use Rattle.std.proofs.Common.{◌≡◌, ℕ, ◌+◌, ◌==◌, Bool, true, false, List, [], ◌∷◌, Option, Some, None, slice_get, refl, sym, ap, subst, ◌∙◌}
use Rattle.std.proofs.lemmas.Option.{none-some, same_Some}
use Rattle.std.proofs.lemmas.Bool.Decides.{Decides-eqb}
use Rattle.sim_5_moves.proofs.ClientsDowns.{down_runs}
use Rattle.sim_5_moves.specs.Ground.{IsGround}
use Rattle.sim_4_links_follow.proofs.DownWords.{next_down}
use Rattle.sim_4_links_follow.specs.Following.{HasNextDown, IsNextItem, IsOnNone}
use Rattle.sim_5_moves.proofs.Still.{nobody_runs}
use Rattle.sim_5_moves.proofs.Still as still
use Rattle.sim_3_images.specs.Devices.{identity_at}
use Rattle.sim_3_items.specs.Labels.{awaits}
use Rattle.sim_3_items.specs.Identities.{Identity}
use Rattle.sim_3_items.specs.Pipes.{by_number}
use Rattle.sim_3_items.specs.Reading.{IsNextDown}
use Rattle.sim_3_items.specs.WordItems.{down_item, is_after_login}
use Rattle.sim_5_moves.proofs.Silent.{quiet_word_runs}
use Rattle.sim_3_items.specs.ItemMoves.{Down as DownMove}
use Rattle.sim_3_items.specs.ItemPipes.{ItemWire}
use Rattle.sim_3_items.specs.ItemWorlds.{ItemDevice, ItemWorld}
use Rattle.sim_2_links.proofs.WithPremises.{prompt_runs}
use Rattle.sim_2_links.specs.Words.{Ack, Bound, Chal, Down, DownWord, Enabled, End, Err, Failed, Feat, Head, Req, Resumed, St, Succ}
use Rattle.cmd_schedule.specs.Contents.{Owned}
use Rattle.cmd_schedule.specs.Schedules.{WireView}
use Rattle.sim_1_applications.specs.Devices.{AppWorld}
use Rattle.sim_5_moves.proofs.SessionWordsWords.{session_word_runs}
use Rattle.sim_5_moves.specs.Running.{AreSmall, Bounds, DeviceSimulates, IsInBounds, IsOwned, MoveSimulates, WorldSimulates}
use Rattle.xml_writer.specs.Items.{ItemOut}

module _ (schedule : WireView) (b : Bounds) (small : AreSmall b) (says : ℕ) (w : ItemWorld) (x : AppWorld) (runs : WorldSimulates schedule b says w x) (ground : IsGround schedule x) (position : ℕ) (bounds : IsInBounds b says (DownMove position) w x) where
  abbrev Runs : Type 0
  Runs = MoveSimulates schedule b says (DownMove position) w x runs

  -- ---- on a connection of a device

  module _ (wire : ItemWire) (there : slice_get w.wires position ≡ Some wire) (o : Owned) (owned : IsOwned schedule wire.device o) where
    abbrev i : ℕ
    i = wire.device

    abbrev old : DeviceSimulates schedule w x i o
    old = runs.simulation.devices i o owned

    abbrev who : Identity
    who = identity_at schedule i o

    abbrev d : ItemDevice
    d = old.represents.device

    -- nothing is handed over
    none_runs : IsOnNone position wire w → Runs
    none_runs none = still.down_runs schedule b says w x runs position wire there none

    word_runs : (word : DownWord ItemOut) (p : IsNextDown who old.logins d (by_number w.wires) old.view (position + 1) word)
        → IsNextItem position i w d wire (down_item who (old.logins (position + 1)) (position + 1) (is_after_login p.conn.client) word) → Runs
    word_runs Head p n = quiet_word_runs schedule b says w x runs position wire o owned Head tt p n
    word_runs Feat p n = quiet_word_runs schedule b says w x runs position wire o owned Feat tt p n
    word_runs Chal p n = quiet_word_runs schedule b says w x runs position wire o owned Chal tt p n
    word_runs Succ p n = quiet_word_runs schedule b says w x runs position wire o owned Succ tt p n
    word_runs Failed p n = session_word_runs schedule b small says w x runs ground position wire o owned Failed tt p n bounds
    word_runs (Resumed q h) p n = session_word_runs schedule b small says w x runs ground position wire o owned (Resumed q h) tt p n bounds
    word_runs (Bound m) p n = session_word_runs schedule b small says w x runs ground position wire o owned (Bound m) tt p n bounds
    word_runs (Enabled m) p n = session_word_runs schedule b small says w x runs ground position wire o owned (Enabled m) tt p n bounds
    word_runs (Down (St z)) p n = down_runs schedule b small says w x runs ground position wire o owned z n p bounds
    word_runs (Down Req) p n = quiet_word_runs schedule b says w x runs position wire o owned (Down Req) tt p n
    word_runs (Down (Ack h)) p n = session_word_runs schedule b small says w x runs ground position wire o owned (Down (Ack h)) tt p n bounds
    word_runs (Err cause) p n = quiet_word_runs schedule b says w x runs position wire o owned (Err cause) tt p n
    word_runs End p n = quiet_word_runs schedule b says w x runs position wire o owned End tt p n

    -- the item is that of a word
    item_runs : (z : ItemOut) → IsNextItem position i w d wire z → Runs
    item_runs z n =
        let h : HasNextDown who old.logins d (by_number w.wires) old.view (position + 1) wire z = next_down who old.logins w old.view old.represents (prompt_runs awaits old.view old.prompt) position d wire z n in
        word_runs h.word h.next (subst (λ y. IsNextItem position i w d wire y) (sym h.is) n)

    -- the device has it, or has it no more
    here_runs : d.here ≡ Some position → Runs
    here_runs here = by wire.down.items refl
      where
        by : (items : List ItemOut) → wire.down.items ≡ items → Runs
        by [] none = none_runs (λ e at on. none)
        by (z ∷ items) first = item_runs z (record { there = there; of = refl; has = old.represents.there; here = here; items = items; first = first })

    elsewhere : (d.here ≡ Some position → ⊥) → Runs
    elsewhere apart = none_runs (λ e at on. absurd (apart (ap (λ (y : ItemDevice). y.here) (same_Some d e (sym old.represents.there ∙ at)) ∙ on)))

    on_it_runs : Runs
    on_it_runs = by d.here refl
      where
        at : (q : ℕ) → d.here ≡ Some q → (same : Bool) → (q == position) ≡ same → Runs
        at q is true same = here_runs (is ∙ ap Some ((Decides-eqb q position).0 same))
        at q is false other = elsewhere (λ e. let same : (q == position) ≡ true = (Decides-eqb q position).1 (same_Some q position (sym is ∙ e)) in let no_way : ⊥ = cc in no_way)

        by : (here : Option ℕ) → d.here ≡ here → Runs
        by None is = elsewhere (λ e. none-some position (sym is ∙ e))
        by (Some q) is = at q is (q == position) refl

  pub each_down : Runs
  each_down = go (slice_get w.wires position) refl
    where
      go : (n : Option ItemWire) → slice_get w.wires position ≡ n → Runs
      go None none = nobody_runs schedule b says w x runs (DownMove position) none
      go (Some wire) there = let of = runs.simulation.wires position wire there in on_it_runs wire there of.0 of.1
