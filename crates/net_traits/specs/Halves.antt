-- What clauses see of the two halves of a link.
use Rattle.std.specs.Prelude.{◌≡◌, ℕ, List, [], Option}
use Rattle.std.specs.Option.{ForSome}
use Rattle.net_traits.specs.Links.{LinkView}

-- the number of the link among those that its door handed out, the bytes that were read and those that are left, where they
-- are told, how many reads failed, and how many found the end
pub record IncomingView : Type 0 where
  pub number : ℕ
  pub read : Option (List ℕ)
  pub left : Option (List ℕ)
  pub faults : ℕ
  pub ends : ℕ

-- the number of the link, the bytes that were written, where they are told, and how many writes failed
pub record OutgoingView : Type 0 where
  pub number : ℕ
  pub written : Option (List ℕ)
  pub faults : ℕ

-- what clauses see of a link of which these are the halves
abbrev pub link_of : IncomingView → OutgoingView → LinkView
link_of incoming outgoing = record {
  read = incoming.read;
  written = outgoing.written;
  read_faults = incoming.faults;
  write_faults = outgoing.faults;
  ends = incoming.ends;
}

-- the halves of one link, from which nothing was read and to which nothing was written
pub record IsUnusedPair (incoming : IncomingView) (outgoing : OutgoingView) : Type 0 where
  pub number : incoming.number ≡ outgoing.number
  pub read : ForSome incoming.read (λ bytes. bytes ≡ [])
  pub written : ForSome outgoing.written (λ bytes. bytes ≡ [])
  pub read_faults : incoming.faults ≡ 0
  pub write_faults : outgoing.faults ≡ 0
  pub ends : incoming.ends ≡ 0
