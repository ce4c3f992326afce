use Rattle.law_xml.proofs.WrittenPieces.{pieces_are_read, whole_all, whole_before}
use Rattle.law_xml.proofs.WrittenRuns.{items_are_read, items_are_spelled, run_gives}
use Rattle.law_xml.proofs.round_trips.written_streams_are_read.Goals as goal

pub returns : goal.returns
returns c = record { spelled = items_are_spelled; in_force = items_are_read; given = run_gives; so_far = pieces_are_read; whole = whole_before; all_whole = whole_all }
