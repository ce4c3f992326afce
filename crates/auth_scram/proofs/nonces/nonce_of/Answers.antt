use Rattle.std.proofs.Common.{◌∙◌, ap, refl}
use Rattle.base64.specs.Engines.{standard}
use Rattle.base64.specs.GeneralPurpose.{encode_of, encoded_size_of}
use Rattle.auth_scram.specs.Exchange.{base64_of}
use Rattle.auth_scram.proofs.DrawnNonces.{drawn_is_nonce}
use Rattle.auth_scram.proofs.ReadTexts.{nonce_text}
use Rattle.auth_scram.proofs.Spelled.{append-drop_all}
use Rattle.auth_scram.proofs.nonces.nonce_of.Goals as goal

pub returns-clause-nonce : goal.returns-clause-nonce
unfolding base64_of
returns-clause-nonce c =
    c.in-Ok.ensures.written ∙ append-drop_all (encode_of standard c.args.drawn.now) _ _ 24 (ap (encoded_size_of standard) c.told-drawn) refl

pub returns-clause-within : goal.returns-clause-within
unfolding base64_of
returns-clause-within c =
    rw (returns-clause-nonce c) (drawn_is_nonce c.args.drawn.now c.fits-drawn c.told-drawn)

pub returns-clause-text : goal.returns-clause-text
returns-clause-text c = nonce_text c.encode_slice.new.output (returns-clause-within c)
