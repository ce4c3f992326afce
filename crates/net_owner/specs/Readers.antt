-- What a reader's answer has to do with its job.
use Rattle.std.specs.Prelude.{◌≡◌, ℕ, ◌<◌, ◌≤◌, ◌⊎◌, true, length, None}
use Rattle.std.specs.Io.KnownBytes.{Appends}
use Rattle.crossbeam_channel.specs.Claims.{view, IsSeatAt}
use Rattle.crossbeam_channel.specs.Ends.{sends_on}
use Rattle.net_traits.specs.Halves.{IncomingView}
use Rattle.net_owner.specs.declared.rule.Known.{Known}
use Rattle.net_owner.specs.Feeds.{IsFeed, are_pieces, bytes_of, has_sent}
use Rattle.net_owner.specs.declared.item.Item.{Item}
use Rattle.net_owner.specs.declared.item.What.TheVariants.{Ended}
use Rattle.net_owner.specs.declared.reader.ReaderAnswer.{ReaderAnswer}
use Rattle.net_owner.specs.declared.reader.ReaderJob.{ReaderJob}
use Rattle.net_owner.specs.declared.reading.TheConstants.{MOST_BYTES_GIVEN}

-- why a reader has ended: a read failed, or one found the end, or the half gave as much as a half may
abbrev pub HasStopped : IncomingView → ℕ → Type 0
HasStopped half given = (0 < half.faults) ⊎ (0 < half.ends) ⊎ (MOST_BYTES_GIVEN ≤ given)

module _ {P : Type 0} where
  -- sender k has sent nothing but pieces so far, and they are what was read of the half since it told `start`
  pub record IsReading (k : ℕ) (v : Known (Item P)) (start now : IncomingView) : Type 0 where
    pub shape : v ≡ has_sent k v.put
    pub pieces : are_pieces v.put ≡ true
    pub read : Appends start.read now.read (bytes_of v.put)
    pub silent : start.read ≡ None → now.read ≡ None
    pub number : now.number ≡ start.number

  -- The reader sent pieces, and then its last item. Where that is the end of all that it read, the pieces are what its half
  -- gave, joined, and there was a reason to end.
  pub record HasRead {R I : Type 0} (told : I → IncomingView) (job : ReaderJob R I P) (answer : ReaderAnswer I P) : Type 0 where
    pub seat : IsSeatAt (sends_on job.to) answer.pass
    pub shape : view answer.pass ≡ has_sent job.from (view answer.pass).put
    pub feed : IsFeed (view answer.pass).put
    pub number : (told answer.half).number ≡ (told job.half).number
    pub read : feed.last.what ≡ Ended → Appends (told job.half).read (told answer.half).read (bytes_of (view answer.pass).put)
    pub silent : feed.last.what ≡ Ended → (told job.half).read ≡ None → (told answer.half).read ≡ None
    pub stopped : feed.last.what ≡ Ended → HasStopped (told answer.half) (length (bytes_of (view answer.pass).put))
