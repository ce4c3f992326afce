-- The links that were given back are as many as the door handed out.
use Rattle.std.proofs.Common.{◌≡◌, ℕ, zero, suc, ◌+◌, ◌<◌, List, [], ◌∷◌, ◌++◌, length, ap, append-nil, refl, subst, sym, ◌∙◌}
use Rattle.base_io.specs.Counts.{counted}
use Rattle.net_traits.specs.Halves.{IncomingView, OutgoingView}
use Rattle.net_hub.specs.Backs.{AreAfter, AreBack}
use Rattle.net_traits.specs.Links.{LinkView}
use Rattle.net_owner.specs.declared.position.Slot.{Slot}
use Rattle.net_owner.specs.Acceptors.{counted_times}
use Rattle.net_owner.specs.declared.item.Item.{Item}
use Rattle.net_hub.specs.declared.sender.Sender.{Sender}
use Rattle.net_hub.specs.GivenLinks.{AreFewer, AreGivenBack, counted_each}

pub counted_first : (n count : ℕ) → counted_times n (counted count) ≡ counted (counted_times n count)
unfolding counted_times
counted_first zero count = refl
counted_first (suc n) count = ap counted (counted_first n count)

each_counted : (links : List LinkView) (count : ℕ) → counted_times (length links) count ≡ counted_each links count
unfolding counted_times
each_counted [] count = refl
each_counted (link ∷ links) count = sym (counted_first (length links) count) ∙ each_counted links (counted count)

module _ {R I O P : Type 0} (told : I → IncomingView) (out : O → OutgoingView) (got : List (Item P)) where
  pub back_count : (k : ℕ) (ps : List (Slot R I P)) (ss : List (Sender O)) (ls : List LinkView) → AreBack told out got k ps ss ls → length ls ≡ length ps
  back_count k [] [] [] back = refl
  back_count k [] [] (l ∷ ls) back = absurd back
  back_count k [] (s ∷ ss) ls back = absurd back
  back_count k (p ∷ ps) [] ls back = absurd back
  back_count k (p ∷ ps) (s ∷ ss) [] back = absurd back
  back_count k (p ∷ ps) (s ∷ ss) (l ∷ ls) back = ap suc (back_count (k + 1) ps ss ls back.1)

  -- all that were handed out
  pub all_back : (positions : List (Slot R I P)) (senders : List (Sender O)) (handed_old handed_new n : ℕ) (old new links : List LinkView) → AreBack told out got 1 positions senders links → new ≡ old ++ links
      → length positions ≡ n → handed_new ≡ counted_times n handed_old → AreGivenBack handed_old handed_new old new
  all_back positions senders handed_old handed_new n old new links back given many handed = record {
    links = links;
    given = given;
    handed = handed ∙ ap (λ m. counted_times m handed_old) (sym (back_count 1 positions senders links back ∙ many)) ∙ each_counted links handed_old;
  }

  -- they are fewer than were to come
  pub are_fewer : (positions : List (Slot R I P)) (senders : List (Sender O)) (n count : ℕ) (old new links : List LinkView) → AreBack told out got 1 positions senders links → new ≡ old ++ links
      → length positions ≡ n → n < count → AreFewer count old new
  are_fewer positions senders n count old new links back given many few = record {
    links = links;
    given = given;
    fewer = subst (λ m. m < count) (sym (back_count 1 positions senders links back ∙ many)) few;
  }

-- none was handed out
pub none_out : (handed_old handed_new : ℕ) (old new : List LinkView) → handed_new ≡ handed_old → new ≡ old → AreGivenBack handed_old handed_new old new
none_out handed_old handed_new old new handed given = record { links = []; given = given ∙ sym (append-nil old); handed = handed }

pub none_is_fewer : (count : ℕ) (old new : List LinkView) → 0 < count → new ≡ old → AreFewer count old new
none_is_fewer count old new some_few given = record { links = []; given = given ∙ sym (append-nil old); fewer = some_few }

-- those that were given back stand behind the others
pub following : (handed_old handed_new : ℕ) (old new : List LinkView) → AreGivenBack handed_old handed_new old new → AreAfter old new
following handed_old handed_new old new back = (back.links, back.given)
