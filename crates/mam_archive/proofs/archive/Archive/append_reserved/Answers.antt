use Rattle.std.proofs.Common.{◌≡◌, ◌+◌, ◌-◌, ◌∷◌, [], ◌++◌, length, refl, arith}
use Rattle.std.proofs.lemmas.List.{length_push, map-append}
use Rattle.mam_archive.proofs.Newest.{kept_more}
use Rattle.mam_archive.specs.Entries.{EntryView, numbered}
use Rattle.mam_archive.specs.Peers.{peer_of}
use Rattle.mam_archive.proofs.archive.Archive.append_reserved.Goals as goal

-- what stands then is what was kept of the old entries and the new one, under the next number
pub invariant_of-self : goal.invariant_of-self
invariant_of-self c =
    let next = c.self.inside.last + 1 in
    let front = c.make_place.new.entries.items in
    let entry : EntryView = c.args.entry in
    let room = rw (← c.self.view_is) at c.requires.room in
    let kept = kept_more c.self.inside.keep c.self.inside.last next c.self.inside.entries.items front entry c.self.invariant.0 room refl c.make_place.ensures.entries in
    let size : length (front ++ numbered next entry ∷ []) ≡ length front + 1 = length_push front (numbered next entry) in
    let first : next + 1 - length (front ++ numbered next entry ∷ []) ≡ next - length front = omega arith in
    let count : c.len.result ≡ length front = omega (arith, c.len.ensures, c.make_place.new.entries.ok.0) in
    let linked = rw (c.peer.ensures, c.renumber.ensures, c.as_str-owner.ensures, count) at c.link.ensures.linked in
    rw (c.push_back_reserved.ensures.items, c.renumber.ensures) (kept, rw (first, map-append (peer_of c.self.inside.owner) front (numbered next entry ∷ [])) linked)
