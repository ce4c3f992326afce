-- The first of links on which nothing was read or written.
use Rattle.std.proofs.Common.{◌≡◌, List, ◌∷◌, refl, subst, sym, map}
use Rattle.net_traits.specs.Links.{IsUnused}
use Rattle.net_memory.specs.InMemory.{AreUnused, MemoryLinkView, unused_link}

unused : IsUnused unused_link
unused = record { read = refl; written = refl; read_faults = refl; write_faults = refl; ends = refl }

pub first_unused : (all rest : List MemoryLinkView) (link : MemoryLinkView) → all ≡ link ∷ rest → AreUnused all → IsUnused link.told × AreUnused rest
first_unused all rest link is are =
    let both : map (λ (l : MemoryLinkView). l.told) (link ∷ rest) ≡ map (λ (l : MemoryLinkView). unused_link) (link ∷ rest) = subst AreUnused is are in
    let first : link.told ≡ unused_link = cc both in
    let others : AreUnused rest = cc both in
    (subst IsUnused (sym first) unused, others)
