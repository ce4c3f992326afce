use Rattle.srv_route.proofs.OwnAddress.{own_address}
use Rattle.srv_route.proofs.laws.no_address_is_ones_own.Goals as goal

pub returns : goal.returns
returns c domain accounts account sender normal right there = own_address domain accounts account sender normal right there
