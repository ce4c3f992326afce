use Rattle.std.proofs.Common.{[], ◌∷◌}
use Rattle.std.proofs.lemmas.List.{append_assoc}
use Rattle.cmd_report.specs.Addresses.{domain}
use Rattle.cmd_report.proofs.addresses.bare_characters.Goals as goal

pub returns : goal.returns
returns c =
    rw (c.in_ok-push_str-3.ensures.bytes, c.in_ok-push_str-2.ensures.bytes, c.in_ok-push_str.ensures.bytes, c.in_ok-address.ensures.bytes)
    (append_assoc c.args.account.now (64 ∷ []) domain)
