use Rattle.xml_check.proofs.Telling.{fault_of, fault_told, sound_told}
use Rattle.xml_framer.specs.States.{turn}
use Rattle.xml_check.proofs.checking.tell_piece.Goals as goal

pub returns-in-Ok-clause-told : goal.returns-in-Ok-clause-told
returns-in-Ok-clause-told c =
    sound_told c.tell_sound.result c.args.framer.now c.feed.new.self c.new-items.result.items c.feed.new.items.items c.as_slice.result.now
    c.args.piece.now c.args.text.now.items c.tell_sound.new.text.items c.any_pieces.ensures.pieces c.any_pieces.ensures.following c.new-items.ensures
    c.as_slice.ensures c.in-Ok.ensures.ok.0 c.tell_sound.ensures

pub returns-in-Err-Fault-clause-told : goal.returns-in-Err-Fault-clause-told
returns-in-Err-Fault-clause-told c =
    let old = turn c.args.framer.now c.new-items.result.items in
    let new = turn c.feed.new.self c.feed.new.items.items in
    let (done, fault) = fault_of c.in-Err-Fault.field-0 c.in-Err-Fault.fault old new c.args.piece.now c.in-Err-Fault.field-0-is c.in-Err-Fault.ensures.fault in
    fault_told c.args.framer.now c.feed.new.self c.new-items.result.items c.feed.new.items.items c.as_slice-in-Err-Fault.result.now
    c.args.piece.now c.args.text.now.items c.tell_fault.new.text.items c.in-Err-Fault.fault c.any_pieces.ensures.pieces
    c.a_fault_stays.ensures c.new-items.ensures c.as_slice-in-Err-Fault.ensures done fault c.in_ok-tell_fault-in-Err-Fault.ensures
