use Rattle.std.proofs.Common.{ap, ◌∙◌, sym}
use Rattle.crossbeam_channel.specs.Claims.{view}
use Rattle.net_owner.specs.Rule.{with_put}
use Rattle.net_owner.specs.declared.rule.Known.{Known}
use Rattle.net_owner.specs.Acceptors.{closed_item}
use Rattle.net_owner.specs.Feeds.{has_sent}
use Rattle.net_owner.specs.declared.item.Item.{Item}
use Rattle.net_owner.proofs.accepting.AcceptorJobPairIncomingOutgoingJob.work.Goals as goal

pub returns : goal.returns
returns g c =
    let before = view c.accept_all-stopped.new.pass in let took = c.accept_all-stopped.ensures in
    let put = ap (λ (v : Known (Item _)). v.put) c.post.ensures.put in
    record {
      seat = c.post.ensures.channel;
      shape = c.post.ensures.put ∙ ap (λ v. with_put v (closed_item)) took.shape ∙ ap (has_sent 0) (sym put);
      body = before.put;
      whole = put;
      arrivals = took.arrivals;
      most = took.most;
      all = took.all;
      fewer = took.fewer;
      cause = took.cause;
      handed_is = took.handed;
      given_is = took.given;
    }
