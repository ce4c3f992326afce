-- What is written of features is a tree, and is read back.
use Rattle.std.proofs.Common.{◌≡◌, Bool, true, false, Ok, refl, sym}
use Rattle.im_login.proofs.DiscoveryLaws.{none_more}
use Rattle.im_login.specs.Features.{child_where, features_elem, features_read}
use Rattle.im_login.specs.declared.features.Features.{Features}
use Rattle.im_payload.specs.Names.{sasl}
use Rattle.xml_trees.specs.Tidied.{tidied}
use Rattle.xml_trees.specs.Trees.{Elem, with_nodes}

abbrev offering : Bool → Bool → Bool → Features
offering scram bind management = record { scram_sha_256 = scram; bind = bind; stream_management = management }

stay : (scram bind management : Bool) → tidied (features_elem (offering scram bind management)) ≡ features_elem (offering scram bind management)
stay true true true = refl
stay true true false = refl
stay true false true = refl
stay true false false = refl
stay false true true = refl
stay false true false = refl
stay false false true = refl
stay false false false = refl

pub features_stay : (f : Features) → tidied (features_elem f) ≡ features_elem f
features_stay f = stay f.scram_sha_256 f.bind f.stream_management

again : (scram bind management : Bool) → features_read (features_elem (offering scram bind management)) ≡ Ok (offering scram bind management)
unfolding sasl
again true true true = refl
again true true false = refl
again true false true = refl
again true false false = refl
again false true true = refl
again false true false = refl
again false false true = refl
again false false false = refl

pub features_again : (f : Features) → features_read (features_elem f) ≡ Ok f
features_again f = again f.scram_sha_256 f.bind f.stream_management

-- what isn't offered isn't added
pub not_offered : (e one : Elem) (offered : Bool) → offered ≡ false → e ≡ with_nodes e (child_where offered one)
not_offered e one false off = sym (none_more e)
not_offered e one true off = absurd (let p = off in cc)
