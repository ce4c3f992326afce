use Rattle.law_limits.proofs.SizesOfAddresses.{domain_said, local_said, normal_said, resource_said}
use Rattle.law_limits.proofs.sizes.addresses_are_short.Goals as goal

pub returns : goal.returns
returns c = record { local = local_said; domain = domain_said; resource = resource_said; whole = normal_said }
