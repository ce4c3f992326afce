-- What a writer's answer has to do with its job.
use Rattle.std.specs.Prelude.{◌≡◌, ℕ, Bool, true, false, List, [], ◌∷◌, ◌++◌}
use Rattle.crossbeam_channel.specs.Claims.{view, IsSeatAt}
use Rattle.crossbeam_channel.specs.Ends.{receives_on}
use Rattle.net_traits.specs.Halves.{OutgoingView}
use Rattle.net_writers.specs.Takings.{are_puts, bytes_of, has_taken}
use Rattle.net_writers.specs.Sent.{HasSent, IsUnwritten}
use Rattle.net_writers.specs.declared.parcel.Parcel.{Parcel}
use Rattle.net_writers.specs.declared.parcel.Parcel.TheVariants.{End}
use Rattle.net_writers.specs.declared.writer.WriterAnswer.{WriterAnswer}
use Rattle.net_writers.specs.declared.writer.WriterJob.{WriterJob}

-- The writer took bytes, and then the end. Where nothing was written to the half before, a prefix of the bytes went out on it,
-- and all of them where no write failed. The half is the job's, and is closed.
pub record HasWrittenAll {R O : Type 0} (told : O → OutgoingView) (closed : O → Bool) (job : WriterJob R O) (answer : WriterAnswer O) : Type 0 where
  pub seat : IsSeatAt (receives_on job.at) answer.pass
  pub body : List Parcel
  pub shape : view answer.pass ≡ has_taken (body ++ End ∷ [])
  pub puts : are_puts body ≡ true
  pub number : (told answer.half).number ≡ (told job.half).number
  pub broken : Bool
  pub sent : IsUnwritten (told job.half) → HasSent (bytes_of body) broken (told answer.half)
  pub shut : closed answer.half ≡ true
