-- The half of a reader and the sender at its place are of one link.
use Rattle.std.proofs.Common.{◌≡◌, ℕ, zero, suc, List, [], ◌∷◌, map, Option, Some, None, IfSome, ap, refl, sym, ◌∙◌}
use mathlib.Core.Option.{some, some-ne-none, some-injective}
use lib.ListN.{get_elem?}
use Rattle.net_traits.specs.Halves.{IncomingView, OutgoingView}
use Rattle.net_hub.specs.Backs.{ArePaired}
use Rattle.net_owner.specs.Halves.{IsHeld, IsNew}
use Rattle.net_owner.specs.declared.owner.Owner.{Owner}
use Rattle.net_hub.specs.declared.recorder.Recorder.{Recorder}
use Rattle.net_hub.specs.Sendings.{numbers_of}
use Rattle.net_hub.specs.declared.sender.Sender.{Sender}
use Rattle.net_hub.proofs.Served.{some_then as map_some}

-- what a list that was mapped has at a place
pub at_map : {A : Type 0} (f : A → ℕ) (xs : List A) (i n : ℕ) → get_elem? (map f xs) i ≡ some n → (x : A) × (get_elem? xs i ≡ some x) × (n ≡ f x)
at_map f [] i n e = absurd (some-ne-none n (sym e))
at_map f (x ∷ xs) zero n e = (x, refl, sym (some-injective (f x) n e))
at_map f (x ∷ xs) (suc i) n e = at_map f xs i n e

module _ {R I O P T : Type 0} (told : I → IncomingView) (out : O → OutgoingView) (numbers : T → List ℕ) where
  pub paired : (h : Owner R I P T) (senders : List (Sender O)) → numbers h.taker ≡ numbers_of out senders → IsHeld told numbers h → ArePaired told out h.positions.items senders
  paired h senders are held i p at =
      map_some (λ job. (get_elem? (numbers h.taker) i ≡ some (told job.half).number) × IsNew (told job.half))
      (λ job. (s : Sender O) × (get_elem? senders i ≡ some s) × ((told job.half).number ≡ (out s.half).number)) p.worker
      (λ job e. at_map (λ (s : Sender O). (out s.half).number) senders i (told job.half).number (sym (ap (λ l. get_elem? l i) are) ∙ e.0)) (held.paired i p at)

module _ {R I O P : Type 0} (told : I → IncomingView) (out : O → OutgoingView) where
  -- so it is with a recorder
  pub held_paired : (h : Owner R I P (Recorder O)) → IsHeld told (λ r. numbers_of out r.senders.items) h → ArePaired told out h.positions.items h.taker.senders.items
  held_paired h held = paired told out (λ r. numbers_of out r.senders.items) h h.taker.senders.items refl held
