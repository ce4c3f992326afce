-- Links, doors and dialers in memory: what clauses see of them, and what a call does to them.
use Rattle.std.specs.Prelude.{◌≡◌, ◌≤◌, ◌++◌, ℕ, zero, suc, List, [], Some, None, map}
use Rattle.std.specs.List.{AllByRecursion}
use Rattle.base_io.specs.Counts.{counted}
use Rattle.net_traits.specs.Links.{LinkView}
use Rattle.net_traits.specs.declared.clock.TheConstants.{LAST_MOMENT_TOLD}

-- the calls made so far, and the numbers of those that fail, from 1
pub record CallsView : Type 0 where
  pub made : ℕ
  pub fails : List ℕ

-- nothing was called yet
abbrev pub not_called : List ℕ → CallsView
not_called fails = record { made = 0; fails = fails }

-- one more call
abbrev pub called : CallsView → CallsView
called calls = record { made = counted calls.made; fails = calls.fails }

-- bytes in memory: those that were given, and those that are left
pub record UnreadView : Type 0 where
  pub given : List ℕ
  pub left : List ℕ

-- a link with bytes left to give, at most `step` a call, which takes at most so many
pub record MemoryLinkView : Type 0 where
  pub told : LinkView
  pub left : List ℕ
  pub step : ℕ
  pub calls : CallsView

-- nothing was read or written
abbrev pub unused_link : LinkView
unused_link = record { read = Some []; written = Some []; read_faults = 0; write_faults = 0; ends = 0 }

abbrev pub new_link : List ℕ → ℕ → List ℕ → MemoryLinkView
new_link bytes step fails = record { told = unused_link; left = bytes; step = step; calls = not_called fails }

-- a link that never fails, and doesn't tell what is written to it
pub record SureLinkView : Type 0 where
  pub given : List ℕ
  pub left : List ℕ
  pub ends : ℕ

abbrev pub sure_link : List ℕ → SureLinkView
sure_link bytes = record { given = []; left = bytes; ends = 0 }

abbrev pub sure_told : SureLinkView → LinkView
sure_told link = record { read = Some link.given; written = None; read_faults = 0; write_faults = 0; ends = link.ends }

-- nothing was read or written on any of these links
abbrev pub AreUnused : List MemoryLinkView → Type 0
AreUnused links = map (λ (l : MemoryLinkView). l.told) links ≡ map (λ (l : MemoryLinkView). unused_link) links

-- links to hand out, and which calls fail
pub record SupplyView : Type 0 where
  pub links : List MemoryLinkView
  pub calls : CallsView

abbrev pub new_supply : List MemoryLinkView → List ℕ → SupplyView
new_supply links fails = record { links = links; calls = not_called fails }

-- a door with links to hand out, and those that were given back
pub record MemoryDoorView : Type 0 where
  pub supply : SupplyView
  pub given : List LinkView
  pub faults : ℕ
  pub handed : ℕ

abbrev pub new_door : List MemoryLinkView → List ℕ → MemoryDoorView
new_door links fails = record { supply = new_supply links fails; given = []; faults = 0; handed = 0 }

-- a dialer with links to hand out, and those that were given back
pub record MemoryDialerView : Type 0 where
  pub supply : SupplyView
  pub given : List LinkView
  pub faults : ℕ
  pub ends : ℕ
  pub handed : ℕ

abbrev pub new_dialer : List MemoryLinkView → List ℕ → MemoryDialerView
new_dialer links fails = record { supply = new_supply links fails; given = []; faults = 0; ends = 0; handed = 0 }

-- a clock that stands still, and what it told
pub record MemoryClockView : Type 0 where
  pub moment : ℕ
  pub told : List ℕ

abbrev pub new_clock : ℕ → MemoryClockView
new_clock moment = record { moment = moment; told = [] }

-- the moment may be told, and no other was
pub record IsStill (moment : ℕ) (told : List ℕ) : Type 0 where
  pub last : moment ≤ LAST_MOMENT_TOLD
  pub same : AllByRecursion (λ m. m ≡ moment) told

-- what gives the same bytes at each call, and what was drawn of it
pub record MemoryEntropyView : Type 0 where
  pub bytes : List ℕ
  pub calls : CallsView
  pub faults : ℕ
  pub drawn : List ℕ

-- bytes so many times
abbrev pub times : ℕ → List ℕ → List ℕ
times zero bytes = []
times (suc n) bytes = times n bytes ++ bytes

abbrev pub AreRepeated : List ℕ → List ℕ → Type 0
AreRepeated bytes drawn = (n : ℕ) × (drawn ≡ times n bytes)

abbrev pub new_entropy : List ℕ → List ℕ → MemoryEntropyView
new_entropy bytes fails = record { bytes = bytes; calls = not_called fails; faults = 0; drawn = [] }
