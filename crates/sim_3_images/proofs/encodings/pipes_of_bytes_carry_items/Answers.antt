use Rattle.sim_3_images.proofs.PipeSteps.{closed_encodes, cut_encodes, due_told_encodes, empty_encodes, fresh_encodes, handed_encodes, items_due, over_encodes}
use Rattle.sim_3_images.proofs.PutSteps.{put_encodes}
use Rattle.sim_3_images.proofs.encodings.pipes_of_bytes_carry_items.Goals as goal

pub returns : goal.returns
returns c = record {
  fresh = fresh_encodes;
  put = λ limits few names now reader b p i may fits m. put_encodes limits few names now reader b p i may fits m;
  handed = handed_encodes;
  cut = cut_encodes;
  emptied = over_encodes;
  closed = closed_encodes;
  due = items_due;
  told = due_told_encodes;
  empty = empty_encodes;
}
