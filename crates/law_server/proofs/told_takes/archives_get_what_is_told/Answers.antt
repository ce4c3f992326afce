use Rattle.std.proofs.Common.{refl}
use Rattle.law_server.proofs.PieceTakes.{bytes_take, item_takes, items_take}
use Rattle.law_server.proofs.told_takes.archives_get_what_is_told.Goals as goal

pub returns : goal.returns
returns g c = record { item = item_takes; items = items_take; bytes = bytes_take; connect = λ k entropy now w. refl; gone = λ k now w. refl; moment = λ now h. refl }
