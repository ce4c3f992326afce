use Rattle.sim_5_devices.proofs.Staying.{begins, paging_stays, prompt_stays}
use Rattle.sim_5_devices.proofs.links_in_time.links_stay_in_time.Goals as goal

pub returns-clause-begins : goal.returns-clause-begins
returns-clause-begins c = begins

pub returns-clause-paging : goal.returns-clause-paging
returns-clause-paging c = λ moves v next d reached along prompt device time. paging_stays moves v next d reached along prompt device time

pub returns-clause-prompt : goal.returns-clause-prompt
returns-clause-prompt c = λ moves v next reached along prompt. prompt_stays moves v next reached along prompt
