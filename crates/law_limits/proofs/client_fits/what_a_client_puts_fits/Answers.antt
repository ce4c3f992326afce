use Rattle.std.proofs.Common.{arith}
use Rattle.law_limits.proofs.ClientStepsKept.{bytes_within, catches_up_within, closes_within, dials_within, forgets_within, items_within, leaves_within, says_within}
use Rattle.law_limits.proofs.client_fits.what_a_client_puts_fits.Goals as goal

pub returns : goal.returns
returns c = record {
  begins = λ account h. record { account = h; log = record { entries = tt; page = tt }; epoch = omega arith; session = tt; phase = tt };
  items = items_within;
  bytes = bytes_within;
  dials = dials_within;
  leaves = leaves_within;
  forgets = forgets_within;
  closes = closes_within;
  says = says_within;
  catches_up = catches_up_within;
}
