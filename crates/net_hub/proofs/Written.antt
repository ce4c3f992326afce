-- The journal of a server that has served, and the links that it gave back.
use Rattle.std.proofs.Common.{◌≡◌, ℕ, ◌+◌, ◌<◌, inl, inr, ⊎_elim, true, List, ◌++◌, length, ap, subst, sym, ◌∙◌, arith}
use Rattle.net_traits.specs.Halves.{IncomingView, OutgoingView}
use Rattle.net_hub.proofs.Ready.{all_some}
use Rattle.net_hub.proofs.ServedLinks.{all_served}
use Rattle.net_hub.specs.Backs.{AreBack}
use Rattle.net_hub.specs.Served.{IsWritten}
use Rattle.net_traits.specs.Links.{LinkView}
use Rattle.net_owner.specs.Events as owner
use Rattle.net_owner.specs.Positions.{AreKept, IsPlaced, are_started}
use Rattle.net_owner.specs.declared.position.Slot.{Slot}
use Rattle.net_owner.specs.declared.item.Item.{Item}
use Rattle.net_hub.proofs.MoreEvents.{bares_are}
use Rattle.net_hub.specs.Records.{IsKept, bares_of, run_of_file, views_of}
use Rattle.net_hub.specs.declared.recorder.Recorder.{Recorder}
use Rattle.net_hub.specs.Puts.{put_for}
use Rattle.net_hub.specs.Sendings.{HasSent}
use Rattle.cmd_rerun.specs.Journaling.{journal_text}

module _ {R I O P : Type 0} (told : I → IncomingView) (out : O → OutgoingView) (got : List (Item P)) (r : Recorder O) (positions : List (Slot R I P)) where
  pub is_written : (n : ℕ) (moments drawn : List ℕ) (old new links : List LinkView) (text : List ℕ) → AreKept (bares_of r.events.items) got positions → IsKept out moments drawn r
      → are_started positions ≡ true → length positions ≡ n → AreBack told out got 1 positions r.senders.items links → new ≡ old ++ links → text ≡ journal_text r.file (views_of r.events.items)
      → IsWritten r.file n moments drawn old new text
  is_written n moments drawn old new links text placed kept started many back given is =
      let events = views_of r.events.items in
      let same = bares_are r.events.items in
      let all = all_served told out got r.file events (bares_of r.events.items) same 1 positions r.senders.items links
      (λ i p at. (subst (λ k. IsPlaced (bares_of r.events.items) got k p) (next i) (placed.placed i p at), all_some positions started i p at))
      (λ i s at. subst (λ k. HasSent (put_for k (run_of_file r.file events).outs) s.broken (out s.half)) (next i) (kept.sent i s at)) back in record {
        events = events;
        links = links;
        many = all.1 ∙ many;
        given = given;
        served = all.0;
        others = λ k away. ap (owner.shown k) (sym same) ∙ placed.others k (⊎_elim (λ (z : k ≡ 0). inl z) (λ (lt : n < k). inr (subst (λ m. m < k) (sym many) lt)) away);
        are = kept.are;
        moments = kept.moments_are;
        entropies = kept.entropies;
        journal = is;
      }
    where
      next : (i : ℕ) → i + 1 ≡ 1 + i
      next i = omega arith
