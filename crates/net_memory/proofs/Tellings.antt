-- A clock that stands still tells its moment once more, and the same bytes are drawn once more.
use Rattle.std.proofs.Common.{◌≡◌, ◌≤◌, ℕ, zero, suc, List, [], ◌∷◌, ◌++◌, ap, refl, ◌∙◌}
use Rattle.std.specs.List.{AllByRecursion}
use Rattle.net_traits.specs.declared.clock.TheConstants.{LAST_MOMENT_TOLD}
use Rattle.net_memory.specs.InMemory.{AreRepeated, IsStill, times}

pub still_none : (moment : ℕ) (told : List ℕ) → moment ≤ LAST_MOMENT_TOLD → told ≡ [] → IsStill moment told
still_none moment [] last none = record { last = last; same = tt }
still_none moment (m ∷ told) last none = absurd (cc)

all_more : (moment : ℕ) (told : List ℕ) → AllByRecursion (λ m. m ≡ moment) told → AllByRecursion (λ m. m ≡ moment) (told ++ moment ∷ [])
all_more moment [] all = (refl, tt)
all_more moment (m ∷ told) all = (all.0, all_more moment told all.1)

pub still_more : (moment : ℕ) (told more : List ℕ) → IsStill moment told → more ≡ told ++ moment ∷ [] → IsStill moment more
still_more moment told more still is = rw is (record { last = still.last; same = all_more moment told still.same })

pub repeated_none : (bytes drawn : List ℕ) → drawn ≡ [] → AreRepeated bytes drawn
repeated_none bytes drawn none = (zero, none)

pub repeated_more : (bytes drawn out more : List ℕ) → AreRepeated bytes drawn → out ≡ bytes → more ≡ drawn ++ out → AreRepeated bytes more
repeated_more bytes drawn out more (n, is) same grown = (suc n, grown ∙ ap (λ l. l ++ out) is ∙ ap (λ l. times n bytes ++ l) same)
