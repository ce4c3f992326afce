-- The first world of a schedule shows each of its devices, of which nothing is there yet.
use Rattle.std.proofs.Common.{◌≡◌, ℕ, [], Option, Some, None, refl, sym, ap, subst, ◌∙◌, arith}
use Rattle.std.proofs.lemmas.Option.{slice_get-map}
use Rattle.std.specs.Option.{option_and_then, option_map}
use Rattle.std.specs.Prelude.{slice_get}
use Rattle.sim_3_images.proofs.ScheduleLogins.{normal_device, own_client, served_device}
use Rattle.sim_3_images.specs.Devices.{IsDeviceAt, identity_at}
use Rattle.sim_3_items.specs.Identities.{Login}
use Rattle.sim_3_items.specs.Pipes.{IsShown}
use Rattle.sim_3_items.specs.Represents.{Represents}
use Rattle.sim_3_images.specs.ItemStarts.{item_device, items_at_start}
use Rattle.sim_3_items.specs.ItemPipes.{ItemWire}
use Rattle.sim_2_links.specs.Machine.{nothing_yet}
use Rattle.cmd_report.specs.Addresses.{domain}
use Rattle.cmd_network.specs.Starting.{accounts_at_start}
use Rattle.cmd_schedule.specs.Contents.{Owned, accounts_of, owned_in}
use Rattle.cmd_schedule.specs.Schedules.{WireView, keep_of}
use Rattle.cmd_schedule.specs.LineLists.{IsLineList}
use Rattle.sim_3_images.proofs.Within.{start_within}
use Rattle.sim_3_images.specs.Unbound.{IsOrdered}
use Rattle.cmd_network.specs.Positions.{position_under}
use Rattle.cmd_world.specs.Histories.{common_steps}
use Rattle.xml_writer.specs.Items.{ItemOut}

none_under : (o : Option ℕ) → option_and_then (slice_get {X = ItemWire} []) o ≡ None
none_under None = refl
none_under (Some position) = refl

module _ (schedule : WireView) (position : ℕ) (o : Owned) (logins : ℕ → Login) (is : IsLineList schedule) (there : IsDeviceAt schedule position o) where
  first_ordered : IsOrdered {A = ItemOut} (items_at_start schedule).server
  first_ordered = (start_within domain (accounts_at_start (accounts_of (common_steps schedule))) (keep_of schedule.version)).ordered

  pub shown_first : Represents (identity_at schedule position o) logins (items_at_start schedule) nothing_yet
  shown_first = record {
    normal = normal_device schedule position o is there;
    device = item_device o;
    there = slice_get-map item_device (owned_in (common_steps schedule)) position ∙ ap (option_map item_device) there;
    pipes = record { each = λ k. subst (IsShown (identity_at schedule position o) (logins k) k None) (sym (none_under (position_under k))) tt };
    server = record {
      served = served_device schedule position o (keep_of schedule.version) is there;
      server_state = record { sessions = first_ordered.sessions; conns = first_ordered.conns };
      conns = λ k c none. absurd (let no_way : ⊥ = cc in no_way);
      row = tt;
      seated = λ k c s none. absurd (let no_way : ⊥ = cc in no_way);
      owned = λ q t s none. absurd (let no_way : ⊥ = cc in no_way);
      free = omega arith;
    };
    client = record {
      account = own_client schedule position o is there;
      epoch = refl;
      own = tt;
      apart = refl;
      here = λ k none. absurd (let no_way : ⊥ = cc in no_way);
      has = λ p none. absurd (let no_way : ⊥ = cc in no_way);
      phase = λ k c none. absurd (let no_way : ⊥ = cc in no_way);
    };
  }
