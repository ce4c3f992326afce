-- The definitions, evaluated at values that were worked out beforehand.
use Rattle.std.proofs.Common.{◌≡◌, Some, None, codes, refl}
use Rattle.im_jid.specs.Cuts.{bare_of, local_of, domain_of, resource_of}

-- the first `/` and then the first `@`: both may stand in the resource
cuts_resource : resource_of (codes "a@b/c/d@e") ≡ Some (codes "c/d@e")
cuts_resource = refl

cuts_bare : bare_of (codes "a@b/c/d@e") ≡ codes "a@b"
cuts_bare = refl

cuts_local : local_of (codes "a@b@c/d") ≡ Some (codes "a")
cuts_local = refl

cuts_domain : domain_of (codes "a@b@c/d") ≡ codes "b@c"
cuts_domain = refl

at_in_resource : local_of (codes "b/c@d") ≡ None
at_in_resource = refl
