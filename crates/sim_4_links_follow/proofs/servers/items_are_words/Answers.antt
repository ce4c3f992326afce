use Rattle.sim_4_links_follow.proofs.ItemsTaken.{next_is_word, world_follows}
use Rattle.sim_4_links_follow.proofs.servers.items_are_words.Goals as goal

pub returns : goal.returns
returns c = record { words = next_is_word; worlds = world_follows }
