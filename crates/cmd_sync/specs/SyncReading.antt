-- What is known of a piece that was read.
use Rattle.std.specs.Prelude.{◌≡◌, ℕ, ◌<◌, ◌≤◌, List, length, take}
use Rattle.std.specs.Io.KnownBytes.{Appends}
use Rattle.net_traits.specs.Links.{LinkView}
use Rattle.cmd_sync.specs.Talks.{NothingFailed}

-- n bytes came, which stand at the front of the buffer
pub record IsPiece (old new : LinkView) (n : ℕ) (buf : List ℕ) : Type 0 where
  pub some : 0 < n
  pub fits : n ≤ length buf
  pub read : Appends old.read new.read (take n buf)
  pub written : new.written ≡ old.written
  pub nothing_failed : NothingFailed old new
