use Rattle.std.proofs.Common.{[], ◌∷◌}
use Rattle.law_client.proofs.TableRendered.{answer_rendered, calls_rendered, items_rendered}
use Rattle.law_client.specs.Calls.{Bytes, Close, Dial, Forget, Gone}
use Rattle.law_client.proofs.CallsRendered.{catches_up_rendered, says_rendered, start_answer_rendered}
use Rattle.law_client.proofs.client_maps.each_call_is_the_same_however_written.Goals as goal

pub returns : goal.returns
returns g c = record {
  item = λ p q f g k h t item. items_rendered h (item ∷ []) t;
  bytes = λ p q f g k h fed piece. calls_rendered h (Bytes piece ∷ []) fed;
  dials = λ p q f g k h fed entropy. calls_rendered h (Dial entropy ∷ []) fed;
  leaves = λ p q f g k h fed. calls_rendered h (Gone ∷ []) fed;
  forgets = λ p q f g k h fed. calls_rendered h (Forget ∷ []) fed;
  closes = λ p q f g k h fed. calls_rendered h (Close ∷ []) fed;
  says = λ p q f g k h. says_rendered h;
  catches_up = λ p q f g k h. catches_up_rendered h;
  say_answer = λ f c text. answer_rendered f c text;
  catch_up_answer = λ f c. start_answer_rendered f c;
}
