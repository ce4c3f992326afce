-- The newest entries of an account's history are what an archive keeps.
use Rattle.std.proofs.Common.{◌≡◌, ℕ, ◌+◌, ◌-◌, ◌≤◌, List, length, drop, arith}
use Rattle.std.proofs.lemmas.List.{length-drop}
use Rattle.mam_archive.proofs.NumberedEntries.{FollowFrom, follow_all, follow_drop, numbered_following}
use Rattle.mam_archive.specs.Entries.{AreKept, newest}
use Rattle.cmd_report.proofs.TakenArchives.{archive_numbered}
use Rattle.cmd_report.specs.Takes.{Take, archive_of}

pub archive_kept : (keep : ℕ) (account : List ℕ) (takes : List Take) → 1 ≤ keep → length (archive_of account takes) ≤ 4294967295 →
    AreKept keep (length (archive_of account takes)) (newest keep (archive_of account takes))
archive_kept keep account takes some small =
    let history = archive_of account takes in
    let gone = length (archive_of account takes) - keep in
    let size : length (drop (length (archive_of account takes) - keep) (archive_of account takes)) ≡ length (archive_of account takes) - (length (archive_of account takes) - keep) =
    length-drop (length (archive_of account takes) - keep) (archive_of account takes) in
    let follow : FollowFrom (1 + (length (archive_of account takes) - keep)) (drop (length (archive_of account takes) - keep) (archive_of account takes)) =
    follow_drop (length (archive_of account takes) - keep) 1 (archive_of account takes) (follow_all (archive_of account takes) (archive_numbered account takes)) in
    record {
      numbers = numbered_following (1 + (length (archive_of account takes) - keep)) (length (archive_of account takes)) (newest keep (archive_of account takes)) follow (omega (arith, size));
      some = some;
      few = omega (arith, size);
      within = omega (arith, size);
      most = small;
      none = λ empty. omega (arith, size);
    }
