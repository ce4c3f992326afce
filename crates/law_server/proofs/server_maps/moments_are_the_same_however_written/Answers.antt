use Rattle.law_server.proofs.EventsRendered.{dropped_rendered, news_rendered}
use Rattle.law_server.proofs.MomentsRendered.{begun_rendered, connect_rendered, fresh_rendered, gone_rendered, left_rendered, moment_rendered}
use Rattle.law_server.proofs.server_maps.moments_are_the_same_however_written.Goals as goal

pub returns : goal.returns
returns g c =
    record { moment = moment_rendered; begun = begun_rendered; fresh = fresh_rendered; gone = gone_rendered; connect = connect_rendered; after_gone = left_rendered; news = news_rendered; dropped = dropped_rendered }
