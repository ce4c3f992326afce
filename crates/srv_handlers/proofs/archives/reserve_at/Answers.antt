use Rattle.std.proofs.Common.{◌≡◌, Some, arith, refl}
use Rattle.std.proofs.lemmas.Bool.{false≢true}
use Rattle.std.proofs.lemmas.Option.{slice_get_read}
use Rattle.std.proofs.lemmas.Result.{on_ok_weaker}
use Rattle.std.specs.List.{slice_get}
use Rattle.srv_handlers.proofs.ArchivePositions.{room_kept, room_nowhere, room_there, seen_same}
use Rattle.srv_handlers.proofs.archives.reserve_at.Goals as goal

pub returns-in-Some-clause-seen : goal.returns-in-Some-clause-seen
returns-in-Some-clause-seen c =
    let v = c.args.archives.now in
    let is : slice_get v.items c.args.account ≡ Some c.in-Some.archive.now = slice_get_read v.items _ c.args.account c.in-Some.archive.now v.ok.0 (c.in-Some.ensures.variant.0 refl) c.in-Some.ensures.value in
    seen_same v.items c.args.account c.in-Some.archive.now c.reserve.new.archive is c.reserve.ensures.seen

pub returns-in-Some-clause-room : goal.returns-in-Some-clause-room
returns-in-Some-clause-room c =
    let v = c.args.archives.now in
    let is : slice_get v.items c.args.account ≡ Some c.in-Some.archive.now = slice_get_read v.items _ c.args.account c.in-Some.archive.now v.ok.0 (c.in-Some.ensures.variant.0 refl) c.in-Some.ensures.value in
    on_ok_weaker c.reserve.result (room_there v.items c.args.account c.in-Some.archive.now c.reserve.new.archive is) c.reserve.ensures.room

pub returns-in-Some-clause-kept : goal.returns-in-Some-clause-kept
returns-in-Some-clause-kept c other =
    let v = c.args.archives.now in
    let is : slice_get v.items c.args.account ≡ Some c.in-Some.archive.now = slice_get_read v.items _ c.args.account c.in-Some.archive.now v.ok.0 (c.in-Some.ensures.variant.0 refl) c.in-Some.ensures.value in
    room_kept v.items c.args.account other c.in-Some.archive.now c.reserve.new.archive is c.reserve.ensures.kept

pub returns-in-None-clause-room : goal.returns-in-None-clause-room
returns-in-None-clause-room c =
    let v = c.args.archives.now in
    room_nowhere v.items c.args.account (λ within. false≢true (c.in-None.ensures.variant.1 (omega (arith, v.ok.0, within))))
