-- Elements of stream management (XEP-0198, sections 3 to 5) and of SASL (RFC 6120, section 6) that are refused for a
-- field.
use Rattle.std.specs.Prelude.{Bool, true, false, ◌||◌, Result, Err, codes}
use Rattle.im_extensions.specs.Readings.{enabled_read, failed_read, resumption_read}
use Rattle.im_extensions.specs.StreamManagement.{ack_read}
use Rattle.im_payload.specs.declared.fault.ExtFault.{ExtFault}
use Rattle.im_payload.specs.declared.fault.ExtFault.TheVariants.{Bad}
use Rattle.im_login.specs.Readings.{auth_read, carrier_read, failure_read}
use Rattle.xml_trees.specs.Trees.{Elem}

-- the answer is that a field is bad
abbrev pub is_bad : {V : Type 0} → Result V ExtFault → Bool
is_bad (Err (Bad field)) = true
is_bad _ = false

-- one of stream management's readers answers so; `enable` and `r` have no field that can be bad
abbrev pub has_bad_management_field : Elem → Bool
has_bad_management_field e =
    is_bad (enabled_read e)
    || (is_bad (ack_read e)
    || (is_bad (resumption_read (codes "resume") e)
    || (is_bad (resumption_read (codes "resumed") e)
    || is_bad (failed_read e))))

-- one of SASL's readers answers so; `abort` has no field that can be bad
abbrev pub has_bad_sasl_field : Elem → Bool
has_bad_sasl_field e =
    is_bad (auth_read e)
    || (is_bad (carrier_read (codes "challenge") e)
    || (is_bad (carrier_read (codes "response") e)
    || (is_bad (carrier_read (codes "success") e)
    || is_bad (failure_read e))))

-- one or the other
abbrev pub has_bad_field : Elem → Bool
has_bad_field e = has_bad_management_field e || has_bad_sasl_field e
