use Rattle.law_limits.proofs.GivenShort.{given_come, piece_comes}
use Rattle.law_limits.proofs.server_fits.what_a_framer_gives_comes.Goals as goal

pub returns : goal.returns
returns c = record { whole = given_come; piece = piece_comes }
