use Rattle.std.proofs.Common.{◌∙◌, ap, refl}
use Rattle.base64.specs.Engines.{standard}
use Rattle.base64.specs.GeneralPurpose.{encode_of, encoded_size_of}
use Rattle.auth_scram.proofs.Spelled.{append-drop_all}
use Rattle.auth_scram.specs.Exchange.{base64_of}
use Rattle.auth_scram.proofs.spelling.base64_of_key.Goals as goal

pub returns : goal.returns
unfolding base64_of
returns c =
    c.in-Ok.ensures.written ∙ append-drop_all (encode_of standard c.args.key.now) _ _ 44 (ap (encoded_size_of standard) c.told-key) refl
