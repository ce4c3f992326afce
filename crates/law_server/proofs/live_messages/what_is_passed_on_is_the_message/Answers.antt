use Rattle.std.proofs.Common.{refl}
use Rattle.im_forwarding.specs.Passed.{passed_message}
use Rattle.law_server.proofs.PassedOn.{has_from, has_id, has_kind, has_lang, has_to, passed_bodies, passed_elements, passed_texts}
use Rattle.law_server.proofs.live_messages.what_is_passed_on_is_the_message.Goals as goal

pub returns : goal.returns
returns c = record {
  named = λ by number m. refl;
  from = λ by number m. has_from (passed_message by number m);
  to = λ by number m. has_to (passed_message by number m);
  id = λ by number m. has_id (passed_message by number m);
  kind = λ by number m. has_kind (passed_message by number m);
  lang = λ by number m. has_lang (passed_message by number m);
  texts = passed_texts;
  elements = passed_elements;
  bodies = passed_bodies;
}
