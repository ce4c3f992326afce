use Rattle.law_client.proofs.StepsOrdered.{bytes_ordered, catches_up_ordered, closes_ordered, dials_ordered, forgets_ordered, items_ordered, leaves_ordered, says_ordered}
use Rattle.law_client.proofs.client_order.a_client_puts_in_order.Goals as goal

pub returns : goal.returns
returns c = record {
  items = items_ordered;
  bytes = bytes_ordered;
  dials = dials_ordered;
  leaves = leaves_ordered;
  forgets = forgets_ordered;
  closes = closes_ordered;
  says = says_ordered;
  catches_up = catches_up_ordered;
}
