use Rattle.sm_acks.proofs.Directions.{kept_reached, got_prefix}
use Rattle.sim_2_links.proofs.Reached.{link_kept}
use Rattle.sim_2_links.proofs.Promised.{server_end, client_end}
use Rattle.sim_2_links.proofs.links.sessions_are_acknowledged_delivery.Goals as goal

pub returns-clause-up : goal.returns-clause-up
returns-clause-up g c = λ v reached p s is. ((link_kept v reached).sessions p s is).up

pub returns-clause-down : goal.returns-clause-down
returns-clause-down g c = λ v reached p s is. ((link_kept v reached).sessions p s is).down

pub returns-clause-handled : goal.returns-clause-handled
returns-clause-handled g c = λ v reached p s is.
    let kept = (link_kept v reached).sessions p s is in
    (got_prefix s.up (kept_reached s.up kept.up), got_prefix s.down (kept_reached s.down kept.down))

pub returns-clause-acked : goal.returns-clause-acked
returns-clause-acked g c = λ v reached p s is.
    let kept = (link_kept v reached).sessions p s is in
    ((kept_reached s.up kept.up).acked, (kept_reached s.down kept.down).acked)

pub returns-clause-server : goal.returns-clause-server
returns-clause-server g c = λ v reached r is. server_end v r (link_kept v reached) is

pub returns-clause-client : goal.returns-clause-client
returns-clause-client g c = λ v reached o is. client_end v o (link_kept v reached) is
