-- The links of readers that were joined are as many as these.
use Rattle.std.proofs.Common.{◌≡◌, ℕ, suc, ◌+◌, inl, inr, true, false, true≢false, List, [], ◌∷◌, ◌++◌, length, Option, Some, None, is_some, cond, MatchOption, refl, ap, sym, ◌∙◌, arith}
use Rattle.base_io.specs.Counts.{counted}
use Rattle.net_traits.specs.Halves.{IncomingView, OutgoingView}
use Rattle.net_hub.proofs.CountedLinks.{back_count, counted_first}
use Rattle.net_hub.specs.Backs.{AreBack, AreLeft, AreLeftFrom}
use Rattle.net_hub.specs.Joined.{AreMore, HasReaders, HasWorkers}
use Rattle.net_traits.specs.Links.{LinkView}
use Rattle.net_owner.specs.Positions.{are_started}
use Rattle.net_owner.specs.StartedReaders.{HasStarted, count_some, readers_in, workers_of}
use Rattle.net_owner.specs.declared.position.Slot.{Slot}
use Rattle.net_owner.specs.Acceptors.{counted_times}
use Rattle.net_owner.specs.declared.item.Item.{Item}
use Rattle.net_owner.specs.declared.reader.ReaderJob.{ReaderJob}
use Rattle.net_hub.specs.declared.sender.Sender.{Sender}

count_more : {W : Type 0} (xs ys : List (Option W)) → count_some (xs ++ ys) ≡ count_some xs + count_some ys
unfolding count_some
count_more [] ys = omega arith
count_more (None ∷ xs) ys = count_more xs ys
count_more (Some x ∷ xs) ys = let rest = count_more xs ys in omega (arith, rest)

module _ {R I P : Type 0} where
  -- where a reader was started at each place
  all_readers : (positions : List (Slot R I P)) → are_started positions ≡ true → readers_in positions ≡ length positions
  unfolding are_started count_some
  all_readers [] started = refl
  all_readers (p ∷ ps) started = first p.worker (all_readers ps) started
    where
      first : (w : Option (ReaderJob R I P)) → (are_started ps ≡ true → readers_in ps ≡ length ps) → cond (is_some w) (are_started ps) false ≡ true → count_some (w ∷ workers_of ps) ≡ suc (length ps)
      first None others e = absurd (true≢false (sym e))
      first (Some job) others e = ap suc (others e)

  -- what the owner started, and the links that were given back then
  pub after_run : (old new : List (Slot R I P)) (given now : List LinkView) (s t : ℕ) → HasStarted old new s t → AreMore (readers_in new) given now → HasReaders (readers_in old) given now s t
  after_run old new given now s t has back = record {
    more = count_some has.more;
    given = (back.0, back.1, back.2 ∙ ap count_some has.workers ∙ count_more (workers_of old) has.more);
    started = has.started;
  }

  -- the same where the queue was drained
  pub after_drain : (old mid new : List (Slot R I P)) (given now : List LinkView) (s t : ℕ) → HasStarted old mid s t → workers_of new ≡ workers_of mid → AreMore (readers_in new) given now → HasReaders (readers_in old) given now s t
  after_drain old mid new given now s t has same back = after_run old mid given now s t has (back.0, back.1, back.2 ∙ ap count_some same)

  -- an acceptor was started, and its owner had no reader
  pub with_acceptor : (positions : List (Slot R I P)) (given begun now : List LinkView) (s mid t : ℕ) → positions ≡ [] → given ≡ begun → mid ≡ counted s → HasReaders (readers_in positions) given now mid t → HasWorkers begun now s t
  unfolding count_some counted_times
  with_acceptor positions given begun now s mid t none same one has =
      let many : length has.given.0 ≡ 0 + has.more = has.given.2 ∙ ap (λ l. readers_in l + has.more) none in
      let next : suc has.more ≡ length has.given.0 + 1 = omega (arith, many) in
      inr (
        has.given.0,
        has.given.1 ∙ ap (λ l. l ++ has.given.0) same,
        has.started ∙ ap (λ n. counted_times has.more n) one ∙ counted_first has.more s ∙ ap (λ m. counted_times m s) next,
      )

module _ {R I O P : Type 0} (told : I → IncomingView) (out : O → OutgoingView) where
  -- the links of readers that were joined after a fault
  left_many : (positions : List (Slot R I P)) (senders : List (Sender O)) (links : List LinkView) → AreLeft told out positions senders links → length links ≡ readers_in positions
  unfolding count_some
  left_many [] senders [] left = refl
  left_many [] senders (l ∷ ls) left = absurd left
  left_many (p ∷ ps) senders links left = first p.worker senders links (left_many ps) left
    where
      first : (w : Option (ReaderJob R I P)) (senders : List (Sender O)) (links : List LinkView) → ((ss : List (Sender O)) (ls : List LinkView) → AreLeft told out ps ss ls → length ls ≡ readers_in ps)
          → AreLeftFrom told out w (AreLeft told out ps) senders links → length links ≡ count_some (w ∷ workers_of ps)
      first None [] links others left = others [] links left
      first None (s ∷ ss) links others left = others ss links left
      first (Some job) [] links others left = absurd left
      first (Some job) (s ∷ ss) [] others left = absurd left
      first (Some job) (s ∷ ss) (l ∷ ls) others left = ap suc (others ss ls left.1)

  pub left_more : (positions : List (Slot R I P)) (senders : List (Sender O)) (old new : List LinkView) → ((links : List LinkView) × (new ≡ old ++ links) × AreLeft told out positions senders links) → AreMore (readers_in positions) old new
  left_more positions senders old new left = (left.0, left.1, left_many positions senders left.0 left.2)

  -- those of all readers, once each has ended
  pub back_many : (got : List (Item P)) (positions : List (Slot R I P)) (senders : List (Sender O)) (old new links : List LinkView) → AreBack told out got 1 positions senders links → new ≡ old ++ links → are_started positions ≡ true
      → AreMore (readers_in positions) old new
  back_many got positions senders old new links back given started = (links, given, back_count told out got 1 positions senders links back ∙ sym (all_readers positions started))

-- the same behind links that are equal
pub more_again : (n : ℕ) (old begun new : List LinkView) → AreMore n old new → old ≡ begun → AreMore n begun new
more_again n old begun new back at = (back.0, back.1 ∙ ap (λ l. l ++ back.0) at, back.2)

-- no thread was started
pub none_started : (old new : List LinkView) (s t : ℕ) → new ≡ old → t ≡ s → HasWorkers old new s t
none_started old new s t given same = inl (given, same)

-- the same of a door that had these links before
pub workers_again : {D : Type 0} (given : D → List LinkView) (door : Option D) (old begun : List LinkView) (s t : ℕ) → old ≡ begun → MatchOption door (t ≡ s) (λ new. HasWorkers old (given new) s t)
    → MatchOption door (t ≡ s) (λ new. HasWorkers begun (given new) s t)
workers_again given None old begun s t at has = has
workers_again given (Some new) old begun s t at (inl none) = inl (none.0 ∙ at, none.1)
workers_again given (Some new) old begun s t at (inr some_one) = inr (some_one.0, some_one.1 ∙ ap (λ l. l ++ some_one.0) at, some_one.2)
