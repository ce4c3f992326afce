-- Workers that were joined.
use Rattle.std.proofs.Common.{◌≡◌, ℕ, true, List, ◌++◌, length, sym, ap, ◌∙◌, subst}
use Rattle.crossbeam_channel.specs.Claims.{view}
use Rattle.net_owner.specs.declared.rule.Known.{Known}
use Rattle.net_owner.specs.declared.item.Item.{Item}
use Rattle.net_owner.specs.declared.reader.ReaderJob.{ReaderJob}
use Rattle.net_owner.specs.declared.reader.ReaderAnswer.{ReaderAnswer}
use Rattle.net_traits.specs.Halves.{IncomingView}
use Rattle.net_owner.specs.Merge.{items_of}
use Rattle.net_owner.specs.Feeds.{number, has_end}
use Rattle.net_owner.specs.Readers.{HasRead}
use Rattle.net_traits.specs.Links.{LinkView}
use Rattle.net_owner.proofs.CountedArrivals.{all_came}
use Rattle.net_owner.specs.Arrivals.{arrivals, has_closed}
use Rattle.net_owner.specs.Owners.{HasGiven}
use Rattle.net_owner.proofs.ItemsOf.{items_of-append}
use Rattle.net_owner.specs.Acceptors.{HasAccepted}
use Rattle.net_owner.specs.declared.acceptor.AcceptorAnswer.{AcceptorAnswer}
use Rattle.net_owner.specs.declared.acceptor.AcceptorJob.{AcceptorJob}
use Rattle.net_owner.proofs.WholeFeeds.{whole, end_is_last}
use Rattle.net_owner.proofs.LongerFeeds.{ended_is}

module _ {R I P : Type 0} where
  pub given : (told : I → IncomingView) (job : ReaderJob R I P) (answer : ReaderAnswer I P) (got rest : List (Item P)) → HasRead told job answer
      → items_of number (view answer.pass).from (got ++ rest) ≡ (view answer.pass).put → has_end (items_of number job.from got) ≡ true → HasGiven told job (items_of number job.from got) answer.half
  given told job answer got rest fed all ended =
      let from : (view answer.pass).from ≡ job.from = ap (λ (v : Known (Item P)). v.from) fed.shape in
      let is : (view answer.pass).put ≡ items_of number job.from got = sym (whole job.from got rest (view answer.pass).put (ap (λ k. items_of number k (got ++ rest)) (sym from) ∙ all) fed.feed ended) in
      let last = ended_is fed.feed.last.what (end_is_last fed.feed.body fed.feed.last fed.feed.pieces (subst (λ l. has_end l ≡ true) (sym is ∙ fed.feed.whole) ended)) in
      shifted told job (view answer.pass).put (items_of number job.from got) answer.half is (record { feed = fed.feed; ended = last; number = fed.number; read = fed.read last; silent = fed.silent last; stopped = fed.stopped last })
    where
      shifted : (told : I → IncomingView) (job : ReaderJob R I P) (put taken : List (Item P)) (half : I) → put ≡ taken → HasGiven told job put half → HasGiven told job taken half
      shifted told job put taken half is h = subst (λ l. HasGiven told job l half) is h

module _ {R D P : Type 0} where
  -- the connections that were taken of an acceptor that has ended are those that it sent
  pub all_taken : (faults handed : D → ℕ) (links : D → List LinkView) (job : AcceptorJob R D P) (answer : AcceptorAnswer D P) (got rest : List (Item P)) → (accepted : HasAccepted faults handed links job answer)
      → items_of number (view answer.pass).from (got ++ rest) ≡ (view answer.pass).put → has_closed (items_of number 0 got) ≡ true → arrivals (items_of number 0 got) ≡ length accepted.body
  all_taken faults handed links job answer got rest accepted all closed =
      let from : (view answer.pass).from ≡ 0 = ap (λ (v : Known (Item P)). v.from) accepted.shape in
      all_came (items_of number 0 got) (items_of number 0 rest) accepted.body
      (sym (items_of-append number 0 got rest) ∙ ap (λ k. items_of number k (got ++ rest)) (sym from) ∙ all ∙ accepted.whole) accepted.arrivals closed
