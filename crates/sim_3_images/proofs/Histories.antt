-- Each world of a schedule's history is so.
use Rattle.std.proofs.Common.{◌≡◌, List, [], ◌∷◌, map, refl, sym, ap, ◌∙◌, arith}
use Rattle.std.specs.List.{AllByRecursion}
use Rattle.base_lemmas.proofs.Lists.{AllByRecursion-weaker}
use Rattle.cmd_schedule.specs.Contents.{Owned, owned_in}
use Rattle.cmd_schedule.specs.Schedules.{WireView, keep_of}
use Rattle.cmd_schedule.specs.LineLists.{IsLineList}
use Rattle.cmd_network.specs.Starting.{accounts_at_start}
use Rattle.cmd_report.specs.Addresses.{domain}
use Rattle.law_server.proofs.ArchiveEntries.{gets_nothing}
use Rattle.law_server.proofs.SoundEvents.{sound_at_start}
use Rattle.srv_state.specs.State.{archive_at}
use Rattle.cmd_world.proofs.Declares.{are_accounts, are_names}
use Rattle.cmd_world.proofs.Traces.{may_run_all}
use Rattle.cmd_world.specs.Declaring.{AreAccounts}
use Rattle.cmd_world.specs.Histories.{common_steps, history_of, owned_at_start, world_at_start, world_of}
use Rattle.cmd_world.specs.Moves.{Move, moved}
use Rattle.cmd_world.specs.WorldReports.{report_of}
use Rattle.cmd_world.specs.Worlds.{ByteWorld}
use Rattle.sim_3_images.proofs.Booked.{IsBooked}
use Rattle.sim_3_images.proofs.BookedMoves.{by_move, each_world, last_world}
use Rattle.sim_3_images.proofs.BookedReports.{first_server_state, names_in, reported}
use Rattle.sim_3_images.proofs.OwnersKept.{owned_by, owners_kept, owners_of}
use Rattle.sim_3_images.specs.ReportTakes.{HasArchivesOfTakes}

abbrev IsSo : WireView → ByteWorld → Type 0
IsSo schedule w = IsBooked schedule.version (names_in schedule) (first_server_state (names_in schedule) (keep_of schedule.version)) w × (owners_of w ≡ owned_in (common_steps schedule))

booked_first : (schedule : WireView) → IsBooked schedule.version (names_in schedule) (first_server_state (names_in schedule) (keep_of schedule.version)) (world_at_start schedule)
booked_first schedule = record {
  takes = [];
  lines_are = refl;
  archives = λ position. sym (gets_nothing (archive_at position (first_server_state (names_in schedule) (keep_of schedule.version))));
  addressees = tt;
  senders = tt;
  sound = sound_at_start domain (accounts_at_start (names_in schedule)) (keep_of schedule.version);
  past = tt;
  order = tt;
  domain = refl;
  accounts_are = refl;
  early = omega arith;
  version_is = refl;
  names_are = refl;
}

owners_first : (owned : List Owned) → map owned_by (map owned_at_start owned) ≡ owned
owners_first [] = refl
owners_first (o ∷ owned) = ap (λ (os : List Owned). o ∷ os) (owners_first owned)

at_first : (schedule : WireView) → IsSo schedule (world_at_start schedule)
at_first schedule = (booked_first schedule, owners_first (owned_in (common_steps schedule)))

moved_so : (schedule : WireView) (m : Move) (w : ByteWorld) → IsSo schedule w → IsSo schedule (moved m w)
moved_so schedule m w is = (by_move schedule.version (names_in schedule) (first_server_state (names_in schedule) (keep_of schedule.version)) m w is.0, owners_kept m w ∙ is.1)

told_so : (schedule : WireView) → IsLineList schedule → (w : ByteWorld) → IsSo schedule w → HasArchivesOfTakes schedule (report_of w)
told_so schedule right w is =
    let accounts : AreAccounts [] (names_in schedule) = are_accounts schedule (may_run_all schedule right) in
    reported schedule w accounts (are_names (names_in schedule) accounts) is.0 is.1

pub in_the_end : (schedule : WireView) → IsLineList schedule → HasArchivesOfTakes schedule (report_of (world_of schedule))
in_the_end schedule right = told_so schedule right (world_of schedule) (last_world (IsSo schedule) (moved_so schedule) schedule (at_first schedule))

pub at_each : (schedule : WireView) → IsLineList schedule → AllByRecursion (λ w. HasArchivesOfTakes schedule (report_of w)) (history_of schedule)
at_each schedule right =
    AllByRecursion-weaker (IsSo schedule) (λ w. HasArchivesOfTakes schedule (report_of w)) (told_so schedule right) (history_of schedule)
    (each_world (IsSo schedule) (moved_so schedule) schedule (at_first schedule))
