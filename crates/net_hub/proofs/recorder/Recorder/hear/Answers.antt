use Rattle.std.proofs.Common.{◌≤◌, [], ◌∷◌, ◌++◌, ap, sym, subst}
use Rattle.std.specs.Prelude.{IsTrue}
use Rattle.srv_state.specs.Seen.{outs_of}
use Rattle.cmd_journal.specs.Journals.{are_bytes}
use Rattle.net_hub.proofs.AllSent.{same_sent}
use Rattle.net_hub.proofs.MoreKept.{kept_piece, many, piece_is}
use Rattle.net_hub.proofs.recorder.Recorder.hear.Goals as goal
use Rattle.net_hub.specs.Records.{IsKeptBy, views_of}
use Rattle.net_hub.specs.Bundles.{bytes_for}
use Rattle.net_hub.specs.Puts.{put_for}
use Rattle.srv_core.specs.Events.{IsAfterBytes}
use Rattle.xml_writer.specs.Items.{written_item}

pub returns-clause-kept : goal.returns-clause-kept
returns-clause-kept g c = λ moments drawn kept.
    let told = g.O.Outgoing.told in let old = c.args.self.now in let outs = c.bytes.new.outputs.items in let new = c.send_all.new.senders.items in
    subst (λ es. IsKeptBy told (moments ++ c.args.now ∷ []) drawn old.file es c.bytes.new.self new) (sym c.in_ok-add_event.ensures)
    (kept_piece told moments drawn old.file (views_of old.events.items) old.server old.senders.items kept c.args.k c.args.now c.args.piece.items c.bytes.new.self outs new
    c.requires.position.0 (subst (λ n. c.args.k ≤ n) (many told old.senders.items) c.requires.position.1) c.requires.moment c.requires.some
    (subst (λ b. IsTrue (are_bytes b)) c.as_slice-read.ensures c.are_bytes.ensures)
    (piece_is c.args.k c.args.piece.items c.args.now old.server c.bytes.new.self c.new-outputs.result.items outs c.new-outputs.ensures
    (subst (λ b. IsAfterBytes written_item c.args.k b c.args.now old.server (outs_of c.new-outputs.result.items) c.bytes.new.self (outs_of outs)) c.as_slice-read.ensures c.in_ok-bytes.ensures.ok))
    c.send_all.ensures.numbers
    (λ before have. same_sent told (λ j. before j ++ bytes_for j c.in_ok-bundles.bundles) (λ j. before j ++ put_for j (outs_of outs)) new
    (λ j. ap (λ l. before j ++ l) (sym (c.in_ok-bundles.ensures j).0)) (c.send_all.ensures.sent before have)))
