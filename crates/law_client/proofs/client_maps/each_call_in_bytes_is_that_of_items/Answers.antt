use Rattle.std.proofs.Common.{[], ◌∷◌}
use Rattle.law_client.proofs.TableRendered.{answer_rendered, bytes_rendered, calls_rendered, items_rendered}
use Rattle.law_client.specs.Calls.{Bytes, Close, Dial, Forget, Gone}
use Rattle.law_client.proofs.CallsRendered.{catches_up_rendered, says_rendered, start_answer_rendered}
use Rattle.law_client.proofs.client_maps.each_call_in_bytes_is_that_of_items.Goals as goal
use Rattle.xml_writer.specs.Items.{written_item}

pub returns : goal.returns
returns c = record {
  item = λ t item. items_rendered bytes_rendered (item ∷ []) t;
  bytes = λ fed piece. calls_rendered bytes_rendered (Bytes piece ∷ []) fed;
  dials = λ fed entropy. calls_rendered bytes_rendered (Dial entropy ∷ []) fed;
  leaves = λ fed. calls_rendered bytes_rendered (Gone ∷ []) fed;
  forgets = λ fed. calls_rendered bytes_rendered (Forget ∷ []) fed;
  closes = λ fed. calls_rendered bytes_rendered (Close ∷ []) fed;
  says = says_rendered bytes_rendered;
  catches_up = catches_up_rendered bytes_rendered;
  say_answer = answer_rendered written_item;
  catch_up_answer = start_answer_rendered written_item;
}
