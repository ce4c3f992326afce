use Rattle.std.proofs.Common.{ap}
use Rattle.srv_state.specs.Steps.{acted}
use Rattle.srv_state.specs.Streams.{standing_of}
use Rattle.std.specs.Option.{option_map}
use Rattle.sim_3_items.specs.ItemMoves.{step_of}
use Rattle.sim_3_items.specs.ItemWorlds.{itself, read_of}
use Rattle.srv_core.specs.Table.{at_open}
use Rattle.sim_5_moves.proofs.Mutes.{non_stanza_flags, non_stanza_runs, non_stanza_silent}
use Rattle.sim_5_moves.proofs.server_words.non_stanza_items_leave_the_server_running.Goals as goal

pub returns-clause-runs : goal.returns-clause-runs
returns-clause-runs c = λ keep owned names takes h k z is runs. non_stanza_runs h k z is keep owned names takes runs

pub returns-clause-silent : goal.returns-clause-silent
returns-clause-silent c = λ h k z moment is. non_stanza_silent h k z is moment

pub returns-clause-flags : goal.returns-clause-flags
returns-clause-flags c = λ h k z account resource d is rule represents. non_stanza_flags h k z is account resource d rule represents

pub returns-clause-closed : goal.returns-clause-closed
returns-clause-closed c = λ h k z none. ap (λ o. acted itself (at_open itself k (read_of z) (option_map standing_of o) h) (step_of h)) none
