use Rattle.std.proofs.Common.{refl}
use Rattle.im_forwarding.specs.Copies.{copy_message}
use Rattle.law_server.proofs.PassedOn.{has_from, has_kind, has_to}
use Rattle.law_server.proofs.live_messages.copies_have_the_message.Goals as goal

pub returns : goal.returns
returns c = record {
  named = λ x full. refl;
  from = λ x full. has_from (copy_message x full);
  to = λ x full. has_to (copy_message x full);
  kind = λ x full. has_kind (copy_message x full);
  contains = λ x full. refl;
}
