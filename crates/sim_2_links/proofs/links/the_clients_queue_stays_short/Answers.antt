use Rattle.std.proofs.Common.{[], ◌∷◌, refl}
use Rattle.sim_2_links.proofs.Short.{paging_kept, short, comes_in_time}
use Rattle.sim_2_links.proofs.WorkedPages.{one_waits, pages-48, three_wait}
use Rattle.sim_2_links.proofs.links.the_clients_queue_stays_short.Goals as goal

pub returns-clause-queue : goal.returns-clause-queue
returns-clause-queue g c = λ p v reached o own. short p v o (paging_kept p v reached) own

pub returns-clause-comes : goal.returns-clause-comes
returns-clause-comes g c = λ p v k conn o reached here is own online. comes_in_time p v k conn o (paging_kept p v reached) here is own online

pub returns-clause-reached : goal.returns-clause-reached
returns-clause-reached g c = (one_waits, pages-48, record { number = 1; acked = 1; handled = 2; queue = 10 ∷ 1 ∷ 1 ∷ [] }, three_wait.0, three_wait.1, refl)
