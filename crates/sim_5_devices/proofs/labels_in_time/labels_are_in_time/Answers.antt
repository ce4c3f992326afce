use Rattle.sim_5_devices.proofs.LabelsInTimeEnds.{reply_ends}
use Rattle.sim_5_devices.proofs.Timely.{asks_in_time, enters_in_time, gives_in_time, reads_in_time, room_to_say, says_in_time, takes_in_time}
use Rattle.sim_5_devices.proofs.labels_in_time.labels_are_in_time.Goals as goal

pub returns-clause-takes : goal.returns-clause-takes
returns-clause-takes c = λ d z zs paged few. takes_in_time d z zs paged few

pub returns-clause-replies : goal.returns-clause-replies
returns-clause-replies c = λ a fits z. reply_ends a fits z

pub returns-clause-gives : goal.returns-clause-gives
returns-clause-gives c = λ s zs none. gives_in_time s zs none

pub returns-clause-reads : goal.returns-clause-reads
returns-clause-reads c = λ a d z zs paged is. reads_in_time a d z zs paged is

pub returns-clause-asks : goal.returns-clause-asks
returns-clause-asks c = λ d z paged online none asks. asks_in_time d z paged online none asks

pub returns-clause-says : goal.returns-clause-says
returns-clause-says c = λ s z other room. says_in_time s z other room

pub returns-clause-room : goal.returns-clause-room
returns-clause-room c = λ who logins device v d text n reached represents is answer. room_to_say who logins device v d text n reached represents is answer

pub returns-clause-enters : goal.returns-clause-enters
returns-clause-enters c = λ d sessions stage. enters_in_time d sessions stage
