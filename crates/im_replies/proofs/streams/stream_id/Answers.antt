use Rattle.std.proofs.Common.{◌∙◌}
use Rattle.std.proofs.lemmas.Result.{IfOk-weaker}
use Rattle.im_replies.proofs.StreamIds.{stream_id-IsUtf8}
use Rattle.im_replies.proofs.streams.stream_id.Goals as goal

pub unreachable-requires : goal.unreachable-requires
unreachable-requires c =
    c.in-Err.ensures.cases.0 (rw (c.as_slice.ensures ∙ c.in_ok-bytes.ensures) (stream_id-IsUtf8 c.args.connection c.args.entropy.now))

pub returns : goal.returns
returns c =
    IfOk-weaker c.from_str.result _ _ (λ id e. e ∙ c.in-Ok.ensures.cases.0 ∙ c.as_slice.ensures ∙ c.in_ok-bytes.ensures) c.from_str.ensures
