-- What is written of stream management is read as it was.
use Rattle.std.proofs.Common.{◌≡◌, ◌≢◌, ℕ, ◌<◌, ◌^◌, Bool, true, false, List, [], ◌∷◌, Option, Some, None, IfSome, Ok, codes, refl, ap, ◌∙◌, arith}
use Rattle.std.specs.Fmt.{decimal}
use Rattle.im_extensions.specs.Readings.{enabled_read, failed_read, failed_with, resumption_read, resumption_with}
use Rattle.im_extensions.specs.StreamManagement.{ack_elem, ack_read, ack_with, enable_elem, enable_read, enabled_elem, failed_condition, resume_elem, resumed_elem, sm_failed_elem}
use Rattle.im_extensions.specs.declared.stream_management.Ack.{Ack}
use Rattle.im_extensions.specs.declared.stream_management.Enable.{Enable}
use Rattle.im_extensions.specs.declared.stream_management.Enabled.{Enabled}
use Rattle.im_extensions.specs.declared.stream_management.Resume.{Resume}
use Rattle.im_extensions.specs.declared.stream_management.Resumed.{Resumed}
use Rattle.im_extensions.specs.declared.stream_management.SmFailed.{SmFailed}
use Rattle.im_payload.proofs.Numbers.{written_number}
use Rattle.im_payload.specs.Shapes.{number_below}
use Rattle.im_stanza.proofs.ErrorLaws.{name_again, named_is_plain, plain_same}
use Rattle.im_stanza.specs.Conditions.{IsPlain, condition_name, condition_named}
use Rattle.base_lemmas.proofs.Bytes.{bytes_eq-from_other}

enable_with : (resume : Bool) → enable_read (enable_elem (record { resume = resume })) ≡ Ok (record { resume = resume })
enable_with true = refl
enable_with false = refl

pub enable_written : (v : Enable) → enable_read (enable_elem v) ≡ Ok v
enable_written v = enable_with v.resume

-- a number of 32 bits is read as it was
pub number_again : (n : ℕ) → n < 2 ^ 32 → number_below (2 ^ 32) (decimal n) ≡ Some n
number_again n low = written_number (2 ^ 32) n (omega arith) low

abbrev again : List ℕ → Option ℕ → Bool → Type 0
again id max resume = enabled_read (enabled_elem (record { id = id; max = max; resume = resume })) ≡ Ok (record { id = id; max = max; resume = resume })

module _ (n : ℕ) (low : n < 2 ^ 32) where
  with_max : (id : List ℕ) (resume : Bool) → again id (Some n) resume
  with_max [] true = rw (number_again n low) refl
  with_max [] false = rw (number_again n low) refl
  with_max (c ∷ cs) true = rw (number_again n low) refl
  with_max (c ∷ cs) false = rw (number_again n low) refl

enabled_with : (id : List ℕ) (max : Option ℕ) (resume : Bool) → IfSome max (λ n. n < 2 ^ 32) → again id max resume
enabled_with [] None true low = refl
enabled_with [] None false low = refl
enabled_with (c ∷ cs) None true low = refl
enabled_with (c ∷ cs) None false low = refl
enabled_with id (Some n) resume low = with_max n low id resume

pub enabled_written : (v : Enabled) → IfSome v.max (λ n. n < 2 ^ 32) → enabled_read (enabled_elem v) ≡ Ok v
enabled_written v low = enabled_with v.id v.max v.resume low

pub ack_written : (v : Ack) → v.h < 2 ^ 32 → ack_read (ack_elem v) ≡ Ok v
ack_written v low = ap ack_with (number_again v.h low)

pub resume_written : (v : Resume) → v.h < 2 ^ 32 → resumption_read (codes "resume") (resume_elem v) ≡ Ok (v.previd, v.h)
resume_written v low = ap (resumption_with (Some v.previd)) (number_again v.h low)

pub resumed_written : (v : Resumed) → v.h < 2 ^ 32 → resumption_read (codes "resumed") (resumed_elem v) ≡ Ok (v.previd, v.h)
resumed_written v low = ap (resumption_with (Some v.previd)) (number_again v.h low)

condition_written : (v : SmFailed) → condition_name v.condition ≢ codes "text" → failed_condition (sm_failed_elem v) ≡ Some (condition_name v.condition)
condition_written v other = let t = bytes_eq-from_other (condition_name v.condition) (codes "text") other in rw t refl

pub failed_written : (v : SmFailed) → IsPlain v.condition → condition_name v.condition ≢ codes "text" → failed_read (sm_failed_elem v) ≡ Ok v.condition
failed_written v plain other =
    ap failed_with (condition_written v other)
    ∙ ap Ok (plain_same (condition_named (condition_name v.condition)) v.condition (named_is_plain (condition_name v.condition)) plain (name_again (condition_name v.condition)))
