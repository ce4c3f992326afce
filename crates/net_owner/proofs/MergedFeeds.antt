-- The events are a merge of what was taken of each reader.
use Rattle.std.proofs.Common.{◌≡◌, ℕ, zero, suc, ◌+◌, ◌≤◌, inl, inr, List, [], ◌∷◌, length, refl, subst, sym, ap, ◌∙◌, arith}
use lib.ListN.{get_elem?}
use mathlib.Core.Option as maybe
use mathlib.Core.Option.{none, some, some-ne-none}
use Rattle.net_owner.specs.Events.{AreMerged, Event, shown}
use Rattle.net_owner.specs.Positions.{AreKept, feed_of, feeds}
use Rattle.net_owner.specs.declared.position.Slot.{Slot}
use Rattle.net_owner.specs.declared.item.Item.{Item}

module _ {R I P : Type 0} where
  none_there : (positions : List (Slot R I P)) (i : ℕ) → get_elem? positions i ≡ none → length positions ≤ i
  none_there [] i is = omega arith
  none_there (p ∷ positions) zero is = absurd (some-ne-none p is)
  none_there (p ∷ positions) (suc i) is = let below = none_there positions i is in omega arith

  pub merged : (events : List Event) (got : List (Item P)) (positions : List (Slot R I P)) → AreKept events got positions → AreMerged events (feeds positions got)
  merged events got positions kept zero = kept.others 0 (inl refl)
  merged events got positions kept (suc i) = at_position (get_elem? positions i) refl
    where
      next : i + 1 ≡ suc i
      next = omega arith

      at_position : (o : maybe.Option (Slot R I P)) → get_elem? positions i ≡ o → shown (suc i) events ≡ feed_of (get_elem? positions i) (suc i) got
      at_position none is = kept.others (suc i) (inr (let past = none_there positions i is in omega arith)) ∙ sym (ap (λ (o : maybe.Option (Slot R I P)). feed_of o (suc i) got) is)
      at_position (some p) is =
          subst (λ k. shown k events ≡ feed_of (some p) k got) next (kept.placed i p is).events_are
          ∙ sym (ap (λ (o : maybe.Option (Slot R I P)). feed_of o (suc i) got) is)
