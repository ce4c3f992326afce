use Rattle.sim_4_links_follow.proofs.FooterRows.{foot_follows}
use Rattle.sim_4_links_follow.proofs.servers.footers_follow.Goals as goal

pub returns : goal.returns
returns c = foot_follows
