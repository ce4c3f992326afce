-- The links of a server that has served: each connection's feed is in the journal, and on its link went what the server put.
use Rattle.std.proofs.Common.{◌≡◌, ℕ, suc, ◌+◌, ◌≤◌, Bool, true, false, List, [], ◌∷◌, ◌++◌, length, map, Option, Some, None, ap, refl, subst, sym, ◌∙◌, arith}
use mathlib.Core.Option.{some}
use lib.ListN.{get_elem?}
use Rattle.net_traits.specs.Halves.{IncomingView, OutgoingView}
use Rattle.net_hub.proofs.Feeds.{bytes_pieces, pieces_of, read_all, told_pieces}
use Rattle.net_hub.specs.Backs.{AreBack, IsBack}
use Rattle.net_hub.specs.Served.{AreServed, IsLinkServed, joined}
use Rattle.cmd_journal.specs.AccountsFiles.{AccountsView}
use Rattle.cmd_journal.specs.Journals.{EventView}
use Rattle.net_traits.specs.Links.{LinkView}
use Rattle.net_owner.specs.Events as owner
use Rattle.net_owner.specs.Positions.{IsPlaced, feed_from}
use Rattle.net_owner.specs.declared.position.Slot.{Slot}
use Rattle.net_owner.specs.Merge.{items_of}
use Rattle.net_owner.specs.Feeds.{bytes_of, number}
use Rattle.net_owner.specs.Readers.{HasStopped}
use Rattle.net_owner.specs.declared.item.Item.{Item}
use Rattle.net_hub.specs.Records.{bare, run_of_file}
use Rattle.net_hub.specs.Puts.{put_for}
use Rattle.net_hub.specs.Sendings.{HasSent}
use Rattle.net_hub.specs.declared.sender.Sender.{Sender}

unbroken : (broken : Bool) (faults : ℕ) → (broken ≡ true → 1 ≤ faults) → faults ≡ 0 → broken ≡ false
unbroken true faults broke none = let s = broke refl in absurd (omega (arith, s, none))
unbroken false faults broke none = refl

module _ {R I O P : Type 0} (told : I → IncomingView) (out : O → OutgoingView) (got : List (Item P)) (file : AccountsView) (events : List EventView) (es : List owner.Event) (are : es ≡ map bare events) where
  -- one connection
  served : (k : ℕ) (p : Slot R I P) (s : Sender O) (link : LinkView) → IsPlaced es got k p → IsBack told out got k p s link
      → HasSent (put_for k (run_of_file file events).outs) s.broken (out s.half) → (p.worker ≡ None → ⊥) → IsLinkServed file events k link
  served k p s link placed back sent there = subst (IsLinkServed file events k) (sym back.link_is) (record {
    pieces = pieces;
    feed = ap (owner.shown k) (sym are) ∙ placed.events_are ∙ ap (λ l. owner.Connect ∷ l) (from p.worker there);
    read = read_all (told back.job.half).read (told back.half).read (bytes_of taken) (joined pieces) back.new.1.read back.given.read back.given.silent bytes;
    over = subst (HasStopped (told back.half)) (ap length bytes) back.given.stopped;
    written = sent.front;
    all_written = λ none. sent.all (unbroken s.broken (out s.half).faults sent.broke none);
  })
    where
      taken : List (Item P)
      taken = items_of number k got

      pieces : List (List ℕ)
      pieces = pieces_of back.given.feed.body

      bytes : bytes_of taken ≡ joined pieces
      bytes = ap bytes_of back.given.feed.whole ∙ bytes_pieces back.given.feed.body back.given.feed.last back.given.ended

      from : {W : Type 0} (w : Option W) → (w ≡ None → ⊥) → feed_from w taken ≡ map owner.Gave pieces ++ owner.Gone ∷ []
      from None some_one = absurd (some_one refl)
      from (Some _) some_one = ap owner.told_of back.given.feed.whole ∙ told_pieces back.given.feed.body back.given.feed.last back.given.feed.pieces back.given.ended

  -- all of them
  pub all_served : (k : ℕ) (ps : List (Slot R I P)) (ss : List (Sender O)) (ls : List LinkView)
      → ((i : ℕ) (p : Slot R I P) → get_elem? ps i ≡ some p → IsPlaced es got (k + i) p × (p.worker ≡ None → ⊥))
      → ((i : ℕ) (s : Sender O) → get_elem? ss i ≡ some s → HasSent (put_for (k + i) (run_of_file file events).outs) s.broken (out s.half))
      → AreBack told out got k ps ss ls → AreServed file events k ls × (length ls ≡ length ps)
  all_served k [] [] [] placed sent back = (tt, refl)
  all_served k [] [] (l ∷ ls) placed sent back = absurd back
  all_served k [] (s ∷ ss) ls placed sent back = absurd back
  all_served k (p ∷ ps) [] ls placed sent back = absurd back
  all_served k (p ∷ ps) (s ∷ ss) [] placed sent back = absurd back
  all_served k (p ∷ ps) (s ∷ ss) (l ∷ ls) placed sent back =
      let here : k + 0 ≡ k = omega arith in
      let first = placed 0 p refl in
      let rest = all_served (k + 1) ps ss ls
      (λ i q at. let next : k + suc i ≡ k + 1 + i = omega arith in subst (λ n. IsPlaced es got n q × (q.worker ≡ None → ⊥)) next (placed (suc i) q at))
      (λ i r at. let next : k + suc i ≡ k + 1 + i = omega arith in subst (λ n. HasSent (put_for n (run_of_file file events).outs) r.broken (out r.half)) next (sent (suc i) r at)) back.1 in (
        (
          served k p s l (subst (λ n. IsPlaced es got n p) here first.0) back.0 (subst (λ n. HasSent (put_for n (run_of_file file events).outs) s.broken (out s.half)) here (sent 0 s refl)) first.1,
          rest.0,
        ),
        ap suc rest.1,
      )
