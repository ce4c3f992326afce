use Rattle.std.proofs.Common.{◌++◌, drop, take, ap, ◌∙◌}
use Rattle.base_lemmas.specs.Hexadecimal.{hex16_of}
use Rattle.im_replies.proofs.StreamIds.{last_six}
use Rattle.im_replies.specs.Streams.{hex_of}
use Rattle.im_replies.proofs.streams.id_bytes.Goals as goal

pub returns : goal.returns
returns c =
    let entropy = c.args.entropy.now in
    let drawn =
    c.in_ok-push_hexadecimal.ensures
    ∙ ap (λ none. none ++ hex_of (take 6 (drop 18 entropy))) c.new-bytes.ensures
    ∙ ap hex_of (last_six entropy c.told-entropy) in
    c.in_ok-append.ensures.ok
    ∙ ap (λ digits. c.push_hexadecimal.new.out.items ++ digits) c.hex16.ensures
    ∙ ap (λ front. front ++ hex16_of c.args.connection) drawn
