use Rattle.sim_5_devices.proofs.Asking.{asks_log, asks_may, asks_pages, asks_put, asks_represents, asks_same, request_built}
use Rattle.sim_5_devices.proofs.submissions.catch_ups_told.Goals as goal

pub returns : goal.returns
returns c = record {
  represents = λ keep history c x most began p. asks_represents keep history c x most p began;
  log = λ keep history c x most began p. asks_log keep history c x most p began;
  pages = λ keep history c x most began p. asks_pages keep history c x most p;
  same = asks_same;
  put = asks_put;
  built = λ o keep history c x most p. request_built keep history c x most p o;
  may = asks_may;
}
