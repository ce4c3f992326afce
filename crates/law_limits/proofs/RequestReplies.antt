-- What a client answers to requests of its peer.
use Rattle.std.proofs.Common.{ℕ, List, Option, None, IfSome, arith}
use Rattle.im_stanza.specs.Answering.{iq_error_elem}
use Rattle.im_stanza.specs.Errors.{error_elem}
use Rattle.im_stanza.specs.Written.{iq_elem}
use Rattle.im_stanza.specs.declared.conditions.Condition.TheVariants.{ServiceUnavailable}
use Rattle.im_stanza.specs.declared.errors.ErrorKind.TheVariants.{Cancel}
use Rattle.im_stanza.specs.declared.kinds.IqKind.TheVariants as iq
use Rattle.xml_trees.specs.Trees.{child, no_nodes}
use Rattle.law_limits.specs.Bounds.{IsTextWithin, most_address, most_id}
use Rattle.law_limits.proofs.RequestParts.{IsSmall, none_small, only_child, wider}
use Rattle.law_limits.proofs.Stanzas.{iq_small, unavailable_small}

pub result_small : (to : Option (List ℕ)) (id : List ℕ) → IfSome to (IsTextWithin most_address) → IsTextWithin most_id id → IsSmall (iq_elem (record { from = None; to = to; id = id; kind = iq.Result; payload = no_nodes })) 65536 32
result_small to id to_short id_short = wider _ _ _ _ _ (omega arith) (omega arith) (iq_small None to id iq.Result no_nodes 0 most_id most_address 0 0 tt to_short id_short (none_small 0))

pub refusal_small : (to : Option (List ℕ)) (id : List ℕ) → IfSome to (IsTextWithin most_address) → IsTextWithin most_id id
    → IsSmall (iq_error_elem None to id (record { kind = Cancel; condition = ServiceUnavailable })) 65536 32
refusal_small to id to_short id_short =
    let error = error_elem (record { kind = Cancel; condition = ServiceUnavailable }) in
    wider _ _ _ _ _ (omega arith) (omega arith) (iq_small None to id iq.Error (child error no_nodes) 0 most_id most_address _ 2 tt to_short id_short (only_child error 600 2 unavailable_small))
