-- Elements of stream management, and the stream error of a count that is too high.
use Rattle.std.proofs.Common.{ℕ, ◌^◌, ◌<◌, true, List, [], ◌∷◌, Some, codes, refl, arith}
use Rattle.std.specs.Fmt.{decimal}
use Rattle.im_extensions.specs.Counts.{too_high_elem}
use Rattle.im_extensions.specs.StreamManagement.{ack_elem, enable_elem, resume_elem}
use Rattle.im_payload.specs.Bare.{bare}
use Rattle.im_payload.specs.Names.{management}
use Rattle.im_stanza.specs.Errors.{stream_error_elem}
use Rattle.im_stanza.specs.Names.{stream_errors_ns, streams_ns}
use Rattle.xml_trees.specs.Attributes.{attribute}
use Rattle.xml_trees.specs.Trees.{child, element, no_nodes}
use Rattle.law_limits.specs.Bounds.{IsTextWithin, most_id}
use Rattle.law_limits.proofs.RequestParts.{IsSmall, bare_small, child_small, element_small, fewer, more_attributes, none_small, one_attribute, only_child, wider}
use Rattle.law_limits.proofs.Texts.{decimal_within, literal}

-- a count is a number of 32 bits
pub count_within : (h : ℕ) → h < 2 ^ 32 → IsTextWithin 10 (decimal h)
count_within h low = decimal_within 10 h (omega arith) (omega arith) (omega arith)

pub request_small : IsSmall (bare management (codes "r")) 65536 32
request_small = wider _ _ _ _ _ (omega arith) (omega arith) (bare_small management (codes "r") no_nodes 0 0 refl (none_small 0))

pub ack_small : (h : ℕ) → h < 2 ^ 32 → IsSmall (ack_elem (record { h = h })) 65536 32
ack_small h low =
    wider _ _ _ _ _ (omega arith) (omega arith)
    (element_small management (codes "a") (attribute [] (codes "h") (decimal h) ∷ []) no_nodes 100 0 0 refl refl
    (fewer _ _ 100 _ 16 (omega arith) (omega arith) (one_attribute [] (codes "h") (decimal h) 10 refl (count_within h low))) (none_small 0))

pub enable_small : IsSmall (enable_elem (record { resume = true })) 65536 32
enable_small =
    wider _ _ _ _ _ (omega arith) (omega arith)
    (element_small management (codes "enable") (attribute [] (codes "resume") (codes "true") ∷ []) no_nodes 100 0 0 refl refl
    (fewer _ _ 100 _ 16 (omega arith) (omega arith) (one_attribute [] (codes "resume") (codes "true") 4 refl (literal (codes "true") 4 refl refl))) (none_small 0))

pub resume_small : (previd : List ℕ) (h : ℕ) → IsTextWithin most_id previd → h < 2 ^ 32 → IsSmall (resume_elem (record { previd = previd; h = h })) 65536 32
resume_small previd h short low =
    let counted = one_attribute [] (codes "h") (decimal h) 10 refl (count_within h low) in
    let named = one_attribute [] (codes "previd") previd most_id refl short in
    wider _ _ _ _ _ (omega arith) (omega arith)
    (element_small management (codes "resume") (attribute [] (codes "h") (decimal h) ∷ attribute [] (codes "previd") previd ∷ []) no_nodes 30000 0 0 refl refl
    (fewer _ _ 30000 _ 16 (omega arith) (omega arith) (more_attributes (attribute [] (codes "h") (decimal h) ∷ []) (attribute [] (codes "previd") previd ∷ []) _ _ _ _ counted named)) (none_small 0))

-- ---- a count that is too high

told_small : (h sent : ℕ) → h < 2 ^ 32 → sent < 2 ^ 32 → IsSmall (too_high_elem h sent) 1000 1
told_small h sent low sent_low =
    let counted = one_attribute [] (codes "h") (decimal h) 10 refl (count_within h low) in
    let put = one_attribute [] (codes "send-count") (decimal sent) 10 refl (count_within sent sent_low) in
    wider _ _ _ _ _ (omega arith) (omega arith)
    (element_small management (codes "handled-count-too-high") (attribute [] (codes "h") (decimal h) ∷ attribute [] (codes "send-count") (decimal sent) ∷ []) no_nodes 200 0 0 refl refl
    (fewer _ _ 200 _ 16 (omega arith) (omega arith) (more_attributes (attribute [] (codes "h") (decimal h) ∷ []) (attribute [] (codes "send-count") (decimal sent) ∷ []) _ _ _ _ counted put)) (none_small 0))

condition_small : IsSmall (element stream_errors_ns (codes "undefined-condition") [] no_nodes) 400 1
condition_small = wider _ _ _ _ _ (omega arith) (omega arith) (bare_small stream_errors_ns (codes "undefined-condition") no_nodes 0 0 refl (none_small 0))

pub too_high_small : (h sent : ℕ) → h < 2 ^ 32 → sent < 2 ^ 32 → IsSmall (stream_error_elem (codes "undefined-condition") (Some (too_high_elem h sent))) 65536 32
too_high_small h sent low sent_low =
    wider _ _ _ _ _ (omega arith) (omega arith)
    (bare_small streams_ns (codes "error") (child (element stream_errors_ns (codes "undefined-condition") [] no_nodes) (child (too_high_elem h sent) no_nodes)) _ 1 refl
    (child_small _ _ 400 _ 1 condition_small (only_child (too_high_elem h sent) 1000 1 (told_small h sent low sent_low))))
