use Rattle.std.proofs.Common.{◌≡◌, ◌+◌, min, length, take, drop, arith}
use Rattle.net_pipes.proofs.Cuts.{cut_short}
use Rattle.net_pipes.proofs.pipe.Pipe.cut.Goals as goal

pub returns : goal.returns
returns c =
    let p = c.self.inside in
    let kept : c.truncate.new.self.items ≡ take (p.gone + c.min-kept.result) p.bytes.items = c.truncate.ensures.items in
    let bytes = c.args.self.now.bytes in
    let least : c.min-kept.result ≡ min c.args.n (length bytes) = omega arith in
    let left : bytes ≡ drop p.gone p.bytes.items = grind (arith) in
    let e : drop p.gone c.truncate.new.self.items ≡ take c.args.n bytes = rw kept (cut_short p.gone c.args.n c.min-kept.result p.bytes.items bytes left least) in
    grind (arith, e)
