-- Elements of a login.
use Rattle.std.proofs.Common.{ℕ, ◌≤◌, List, [], ◌∷◌, length, codes, refl, arith}
use Rattle.base64.specs.GeneralPurpose.{IsBytes}
use Rattle.im_payload.specs.Names.{sasl}
use Rattle.im_login.specs.Payloads.{base64_of}
use Rattle.im_login.specs.Sasl.{auth_of, carrier}
use Rattle.xml_trees.specs.Attributes.{attribute}
use Rattle.xml_trees.specs.Tidied.{text_node}
use Rattle.law_limits.specs.Bounds.{most_text}
use Rattle.law_limits.proofs.RequestParts.{AreSmall, IsSmall, bare_small, element_small, fewer, one_attribute, text_small, wider}
use Rattle.law_limits.proofs.Texts.{encoded_within, literal}

payload_small : (message : List ℕ) → IsBytes message → length message ≤ most_text → AreSmall (text_node (base64_of message)) 60010 0
unfolding base64_of
payload_small message bytes short = text_small (base64_of message) 12002 (encoded_within message most_text bytes short)

pub auth_small : (message : List ℕ) → IsBytes message → length message ≤ most_text → IsSmall (auth_of (codes "SCRAM-SHA-256") message) 65536 32
unfolding sasl
auth_small message bytes short =
    wider _ _ _ _ _ (omega arith) (omega arith)
    (element_small sasl (codes "auth") (attribute [] (codes "mechanism") (codes "SCRAM-SHA-256") ∷ []) (text_node (base64_of message)) 200 60010 0 refl refl
    (fewer _ _ 200 _ 16 (omega arith) (omega arith) (one_attribute [] (codes "mechanism") (codes "SCRAM-SHA-256") 13 refl (literal (codes "SCRAM-SHA-256") 13 refl refl)))
    (payload_small message bytes short))

pub response_small : (message : List ℕ) → IsBytes message → length message ≤ most_text → IsSmall (carrier (codes "response") message) 65536 32
unfolding sasl
response_small message bytes short = wider _ _ _ _ _ (omega arith) (omega arith) (bare_small sasl (codes "response") (text_node (base64_of message)) 60010 0 refl (payload_small message bytes short))
