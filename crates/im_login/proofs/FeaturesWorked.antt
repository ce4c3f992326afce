-- The two lists of features, and what a server tells, as they are written.
use Rattle.std.proofs.Common.{◌≡◌, true, false, [], codes, refl}
use Rattle.im_login.specs.Features.{features_elem}
use Rattle.im_payload.specs.Names.{binding, management, sasl}
use Rattle.im_stanza.specs.Names.{streams_ns}
use Rattle.xml_trees.specs.Trees.{element, no_nodes, child, text}

-- <features><mechanisms><mechanism>SCRAM-SHA-256</mechanism></mechanisms></features>
before_sasl : features_elem (record { scram_sha_256 = true; bind = false; stream_management = false })
    ≡ element streams_ns (codes "features") []
    (child (element sasl (codes "mechanisms") [] (child (element sasl (codes "mechanism") [] (text (codes "SCRAM-SHA-256") no_nodes)) no_nodes)) no_nodes)
before_sasl = refl

-- <features><bind/><sm/></features>
after_sasl : features_elem (record { scram_sha_256 = false; bind = true; stream_management = true })
    ≡ element streams_ns (codes "features") [] (child (element binding (codes "bind") [] no_nodes) (child (element management (codes "sm") [] no_nodes) no_nodes))
after_sasl = refl
