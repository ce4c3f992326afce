use Rattle.sim_3_images.proofs.ServersInOrder.{after_item_calm, fresh_stands, gone_stands, moment_stands, start_stands}
use Rattle.sim_3_images.proofs.encodings.what_a_server_puts_is_in_order.Goals as goal

pub returns : goal.returns
returns c = record {
  begins = start_stands;
  moment = moment_stands;
  comes = fresh_stands;
  goes = gone_stands;
  stands = λ n k i h s may. (after_item_calm n k i h s may).stands;
  order = λ n k j i h s may. (after_item_calm n k i h s may).order j;
}
