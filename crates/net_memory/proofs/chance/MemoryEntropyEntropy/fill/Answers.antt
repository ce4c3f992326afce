use Rattle.net_memory.proofs.Tellings.{repeated_more}
use Rattle.net_memory.proofs.chance.MemoryEntropyEntropy.fill.Goals as goal

pub invariant_of-self-2 : goal.invariant_of-self-2
invariant_of-self-2 c = repeated_more c.self.inside.bytes c.self.inside.log.items c.as_slice.result.now c.note.new.self.items c.self.invariant c.as_slice.ensures c.note.ensures
