-- The page that is asked for behind one that isn't the last.
use Rattle.std.proofs.Common.{◌≡◌, ℕ, Bool, true, false, List, [], Option, Some, Ok, if◌then◌else◌, refl, ap, ◌∙◌}
use Rattle.cl_core.specs.PageRows.{begins_page, goes_on, next_queryid, page_done}
use Rattle.cl_handlers.specs.Clients.{ClientStep}
use Rattle.cl_handlers.specs.Speech.{Speech}
use Rattle.cl_handlers.specs.ClientSteps.{ends, tells, with_log}
use Rattle.cl_handlers.specs.declared.events.Event.TheVariants.{PageDone}
use Rattle.cl_handlers.specs.declared.events.PeerFault.TheVariants.{Unacknowledged}
use Rattle.mam_log.proofs.Rendered.{told_after}
use Rattle.mam_log.specs.Views.{OpenPage, after_fin, fin_answer}
use Rattle.mam_log.specs.declared.fin.PageOutcome.TheVariants.{More}
use Rattle.sm_outbox.specs.Sessions.{SessionView}
use Rattle.sm_outbox.specs.Waiting.{is_full}
use Rattle.mam_pages.specs.declared.fin.Fin.{Fin}

otherwise : {A X : Type 0} (b : Bool) (x y : ClientStep A X) → b ≡ false → (if b then x else y) ≡ y
otherwise true x y low = absurd (cc low)
otherwise false x y low = refl

pub next_page : {A X : Type 0} (speech : Speech A X) (t : ClientStep A X) (s : SessionView A) (page : OpenPage) (fin : Fin) → t.client.session ≡ Some s → is_full s.waiting ≡ false → fin_answer t.client.log page.queryid fin ≡ Ok More
    → (page_done speech t page fin More).client.log.page ≡ Some (record { queryid = next_queryid t; max = page.max; after = fin.last; results = [] })
next_page {A = A} {X = X} speech t s page fin at position judged =
    let taken = tells (with_log t (after_fin t.client.log fin)) (PageDone More) in
    ap (λ (o : Option (SessionView A)). (goes_on speech taken o page.max).client.log.page) at
    ∙ ap (λ (u : ClientStep A X). u.client.log.page) (otherwise (is_full s.waiting) (ends taken Unacknowledged) (begins_page speech taken s page.max) position)
    ∙ ap (λ (after : Option (List ℕ)). Some (record { queryid = next_queryid t; max = page.max; after = after; results = [] })) (told_after t.client.log page.queryid fin judged)
