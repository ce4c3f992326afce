-- An archive among the archives, as it is seen.
use Rattle.std.proofs.Common.{◌≡◌, ℕ, List, map, sym}
use Rattle.std.proofs.lemmas.Option.{slice_get-map}
use Rattle.std.specs.List.{slice_get}
use Rattle.std.specs.Option.{option_map}
use Rattle.mam_archive.specs.Entries.{ArchiveView}
use Rattle.srv_state.specs.Seen.{kept_of}

pub seen_at : (archives : List ArchiveView) (position : ℕ) → option_map kept_of (slice_get archives position) ≡ slice_get (map kept_of archives) position
seen_at archives position = sym (slice_get-map kept_of archives position)
