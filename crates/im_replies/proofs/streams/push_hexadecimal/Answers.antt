use Rattle.std.proofs.Common.{◌+◌, ◌++◌, drop, sym, ap, ◌∙◌, arith}
use Rattle.std.proofs.lemmas.List.{append_assoc, at_drop_more}
use Rattle.im_replies.specs.Streams.{hex_of}
use Rattle.im_replies.proofs.streams.push_hexadecimal.Goals as goal

pub loop-byte-preserved : goal.loop-byte-preserved
loop-byte-preserved c =
    let bytes = c.args.bytes.now in
    let i = c.loop-byte.byte-index in
    let before = c.loop-byte.out.items in
    let more = hex_of (drop (i + 1) bytes) in
    ap (λ out. out ++ more) c.in_ok-push_digits.ensures
    ∙ append_assoc before _ more
    ∙ ap (λ rest. before ++ rest) (sym (at_drop_more hex_of bytes i _ (omega arith)))
    ∙ c.loop-byte.invariant
