use Rattle.law_limits.proofs.Fitted as fitted
use Rattle.law_limits.proofs.requests_fit.what_a_client_says_fits.Goals as goal

pub returns : goal.returns
returns c = record {
  header = fitted.header;
  auth = fitted.auth;
  response = fitted.response;
  bind = fitted.bind;
  enable = fitted.enable;
  resume = fitted.resume;
  carbons = fitted.carbons;
  available = fitted.available;
  submission = fitted.submission;
  page = fitted.page;
  answer = fitted.answer;
  refusal = fitted.refusal;
  request = fitted.request;
  count = fitted.count;
  too_high = fitted.too_high;
  footer = tt;
}
