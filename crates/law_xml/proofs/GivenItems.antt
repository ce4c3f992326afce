-- What a framer gives is plain, and can be passed on, if its bytes aren't too many.
use Rattle.std.proofs.Common.{◌≡◌, ℕ, ◌+◌, ◌*◌, ◌<◌, ◌≤◌, ◌^◌, ◌↔◌, List, [], None, ap, ◌∙◌}
use Rattle.std.specs.List.{All}
use Rattle.xml_framer.specs.Machine.{part_of, run}
use Rattle.xml_framer.specs.Readings.{fault_of, framed, items_of, part_at}
use Rattle.xml_framer.specs.States.{Turn, from_start, turn}
use Rattle.xml_framer.specs.declared.items.Item.{Item}
use Rattle.xml_framer.specs.declared.limits.Limits.{Limits}
use Rattle.law_xml.specs.PlainItems.{IsPlainItem}
use Rattle.law_xml.specs.WrittenStreams.{CanPass}
use Rattle.law_xml.proofs.PassedOn.{stream_can_pass}
use Rattle.law_xml.proofs.PlainElements.{stream_is_plain}
use Rattle.law_xml.proofs.PrefixRuns.{prefix_known}
use Rattle.law_xml.proofs.ReadStreams.{what_is_within}
use Rattle.law_xml.proofs.StreamRuns.{stream_read}
use Rattle.law_xml.specs.StreamLimits.{IsStreamWithin}
use Rattle.law_xml.specs.Streams.{InForce, StreamTo}

pub given_plain : (limits : Limits) (bytes : List ℕ) → limits.attributes < 2 ^ 32 → limits.namespace_bytes < 2 ^ 32 → (run (turn (from_start limits) []) bytes).state.fault ≡ None
    → All IsPlainItem (run (turn (from_start limits) []) bytes).items
given_plain limits bytes few short none =
    let p = prefix_known limits bytes few short none in
    stream_is_plain p.done (run (turn (from_start limits) []) bytes).items (p.now, p.stream)

pub given_can_pass : (limits most : Limits) (bytes : List ℕ) → limits.bytes < 2 ^ 64 → limits.attributes < 2 ^ 32 → limits.namespace_bytes < 2 ^ 32 → 2 * limits.attributes + 1 ≤ most.attributes
    → limits.namespace_bytes ≤ most.namespace_bytes → limits.depth ≤ most.depth → (run (turn (from_start limits) []) bytes).state.fault ≡ None
    → All (CanPass most) (run (turn (from_start limits) []) bytes).items
given_can_pass limits most bytes counted few short wide names deep none =
    let p = prefix_known limits bytes few short none in
    stream_can_pass limits most p.now p.done (run (turn (from_start limits) []) bytes).items p.stream (p.within counted) wide names deep

-- ---- nothing is unfinished

pub whole_exactly : (limits : Limits) (bytes : List ℕ) → limits.bytes < 2 ^ 64 → limits.attributes < 2 ^ 32 → limits.namespace_bytes < 2 ^ 32
    → ((fault_of limits bytes ≡ None) × (part_at limits bytes ≡ None)) ↔ ((now : InForce) × (items : List Item) × (stream : StreamTo now bytes items) × IsStreamWithin limits now bytes items stream)
unfolding framed
whole_exactly limits bytes counted few short = (
  λ h. let w = what_is_within limits bytes counted few short h.0 h.1 in (w.0, (run (turn (from_start limits) []) bytes).items, w.1, w.2),
  λ h.
      let r = stream_read limits h.0 bytes h.1 h.2 h.3 in
      (ap (λ (t : Turn). t.state.fault) r.run_is ∙ r.stands.no_fault, ap (λ (t : Turn). part_of t.state) r.run_is ∙ r.no_part),
)

pub whole_gives : (limits : Limits) (bytes : List ℕ) (now : InForce) (items : List Item) (stream : StreamTo now bytes items) → IsStreamWithin limits now bytes items stream → items_of limits bytes ≡ items
unfolding framed
whole_gives limits bytes now items stream within = ap (λ (t : Turn). t.items) (stream_read limits now bytes items stream within).run_is
