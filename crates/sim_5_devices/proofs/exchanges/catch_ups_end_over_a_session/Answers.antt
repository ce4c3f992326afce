use Rattle.sim_5_devices.proofs.WholeExchanges.{asks_first, exactly, takes}
use Rattle.sim_5_devices.proofs.exchanges.catch_ups_end_over_a_session.Goals as goal

pub returns : goal.returns
returns c = record {
  asks = asks_first;
  exactly = λ bare full kept first last base most n z t u bare_normal full_normal archive some small asked position lacks these. exactly bare full kept first last most bare_normal full_normal archive some small n base z t u asked position lacks these;
  takes = λ bare full kept first last base most z t s told h bare_normal full_normal archive some small asked stands fits lacks serves.
      takes bare full kept first last most bare_normal full_normal archive some small base z t s told h asked stands fits lacks serves;
}
