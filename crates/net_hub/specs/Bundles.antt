-- What outputs put for each connection, as one bundle.
use Rattle.std.specs.Prelude.{◌≡◌, ℕ, Bool, true, false, List, Option, None, Some, [], ◌++◌}
use Rattle.std.specs.BTreeMap.{BTreeMap, get}
use Rattle.std.specs.List.{list_any}
use Rattle.std.specs.Ordering.{nat_cmp}
use Rattle.srv_state.specs.Seen.{outs_of}
use Rattle.srv_state.specs.State.{Out, Shut, is_number}
use Rattle.srv_state.specs.declared.output.Output.{Output}
use Rattle.net_hub.specs.Puts.{put_for}
use Rattle.net_hub.specs.declared.bundle.Bundle.{Bundle}

-- whether an output shuts connection k
abbrev pub shuts : ℕ → Out (List ℕ) → Bool
shuts k (Shut j) = is_number k j
shuts k out = false

-- whether one of outputs does
abbrev pub shut_for : ℕ → List (Out (List ℕ)) → Bool
shut_for k outs = list_any (shuts k) outs

-- what a connection gets: no bytes, and it is not shut, where it has no bundle
abbrev pub bytes_in : Option Bundle → List ℕ
bytes_in None = []
bytes_in (Some b) = b.bytes.items

abbrev pub is_shut : Option Bundle → Bool
is_shut None = false
is_shut (Some b) = b.shut

abbrev pub bytes_for : ℕ → BTreeMap ℕ Bundle → List ℕ
bytes_for k bundles = bytes_in (get nat_cmp bundles k)

abbrev pub IsShutFor : ℕ → BTreeMap ℕ Bundle → Type 0
IsShutFor k bundles = is_shut (get nat_cmp bundles k) ≡ true

-- The one bundle of each connection has all bytes that outputs put for it, joined in order, and shuts it where one of them does.
abbrev pub AreJoined : BTreeMap ℕ Bundle → List (Out (List ℕ)) → Type 0
AreJoined bundles outs = (k : ℕ) → (bytes_for k bundles ≡ put_for k outs) × (is_shut (get nat_cmp bundles k) ≡ shut_for k outs)

-- the outputs before those that are left are joined
pub record AreJoinedYet (all left : List Output) (bundles : BTreeMap ℕ Bundle) : Type 0 where
  pub done : List Output
  pub whole : all ≡ done ++ left
  pub joined : AreJoined bundles (outs_of done)
