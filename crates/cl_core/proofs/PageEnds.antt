-- What the log answers to the end of a page is what comes of it.
use Rattle.std.proofs.Common.{◌≡◌, ◌≢◌, ◌⊎◌, ⊎_elim, ℕ, Bool, true, false, not, ◌&&◌, ◌||◌, List, Option, Some, None, Result, Ok, Err, IfSome, IsSome, is_none, length, refl, ap, subst, sym, ◌∙◌, if◌then◌else◌}
use Rattle.std.specs.Prelude.{nat_lt}
use Rattle.cl_core.specs.Asking.{asks_in}
use Rattle.cl_handlers.specs.Clients.{ClientStep}
use Rattle.cl_core.specs.PageRows.{begins_page, catch_up_fault, goes_on, has_room, leaves_full, next_queryid, numbered, page_ended, page_stanza, requests, restarts}
use Rattle.cl_handlers.specs.Speech.{in_bytes}
use Rattle.cl_handlers.specs.ClientSteps.{ends, tells, with_log}
use Rattle.cl_handlers.specs.declared.events.Event.TheVariants.{CatchUpRefused, PageDone}
use Rattle.cl_handlers.specs.declared.events.PeerFault.TheVariants.{Unacknowledged}
use Rattle.mam_log.proofs.Rendered.{told_after}
use Rattle.mam_log.specs.LogCalls.{begun_again, restart_answer, with_restart}
use Rattle.mam_log.specs.LogPages.{ids_of, last_id}
use Rattle.mam_log.specs.Views.{LogView, OpenPage, advance_of, after_fin, after_refusal, end_of, fin_answer, first_repeat, outcome_of, page_for, page_outcome_of, repeat_of, same_id, with_begun, without_page}
use Rattle.mam_log.specs.declared.faults.RestartFault.{RestartFault}
use Rattle.mam_log.specs.declared.faults.RestartFault.TheVariants.{NoPlace}
use Rattle.mam_log.specs.declared.fin.FinFault.{FinFault}
use Rattle.mam_log.specs.declared.fin.FinFault.TheVariants as fault
use Rattle.mam_log.specs.declared.fin.PageOutcome.{PageOutcome}
use Rattle.mam_log.specs.declared.fin.PageOutcome.TheVariants.{More, Complete}
use Rattle.sm_outbox.specs.Sessions.{SessionView}
use Rattle.sm_outbox.specs.Submissions.{next_number}
use Rattle.sm_outbox.specs.Waiting.{is_full}
use Rattle.mam_pages.specs.declared.fin.Fin.{Fin}
use Rattle.im_requests.specs.Messages.{page_text, queryid_text}

abbrev T : Type 0
T = ClientStep (List ℕ) ℕ

abbrev R : Type 0
R = Result PageOutcome FinFault

abbrev IsDue : R → R → Type 0
IsDue r answer = (r ≡ Err fault.NoMemory) ⊎ (r ≡ answer)

-- ---- what ending a page answers is no stranger's, and no want of memory

abbrev IsPageEnd : R → Type 0
IsPageEnd (Err fault.Stranger) = ⊥
IsPageEnd (Err fault.NoMemory) = ⊥
IsPageEnd _ = Unit {0}

by_advance : (empty complete : Bool) → IsPageEnd (if empty then Err fault.NoAdvance else Ok (outcome_of complete))
by_advance true complete = tt
by_advance false complete = tt

by_repeat : (o : Option (List ℕ)) (r : R) → IsPageEnd r → IsPageEnd (repeat_of o r)
by_repeat None r is = is
by_repeat (Some id) r is = tt

by_last : (same : Bool) (last got : Option (List ℕ)) (r : R) → IsPageEnd r → IsPageEnd (if same then r else Err (fault.Mismatch last got))
by_last true last got r is = is
by_last false last got r is = tt

page_end : (log : LogView) (page : OpenPage) (fin : Fin) → IsPageEnd (end_of log page fin)
page_end log page fin =
    by_last (same_id fin.last (last_id page.results)) fin.last (last_id page.results) (repeat_of (first_repeat (ids_of log.entries) (ids_of page.results)) (advance_of fin.complete page))
    (by_repeat (first_repeat (ids_of log.entries) (ids_of page.results)) (advance_of fin.complete page) (by_advance (nat_lt (length page.results) 1 && not fin.complete) fin.complete))

-- ---- where none is asked for behind it

abbrev IsNotLast : Bool → R → Type 0
IsNotLast complete (Ok More) = complete ≡ false
IsNotLast complete _ = Unit {0}

last_by_advance : (empty complete : Bool) → IsNotLast complete (if empty then Err fault.NoAdvance else Ok (outcome_of complete))
last_by_advance true complete = tt
last_by_advance false true = tt
last_by_advance false false = refl

last_by_repeat : (complete : Bool) (o : Option (List ℕ)) (r : R) → IsNotLast complete r → IsNotLast complete (repeat_of o r)
last_by_repeat complete None r is = is
last_by_repeat complete (Some id) r is = tt

last_by_last : (complete same : Bool) (last got : Option (List ℕ)) (r : R) → IsNotLast complete r → IsNotLast complete (if same then r else Err (fault.Mismatch last got))
last_by_last complete true last got r is = is
last_by_last complete false last got r is = tt

-- behind a page that is the last one there is none
not_last : (log : LogView) (page : OpenPage) (fin : Fin) → IsNotLast fin.complete (end_of log page fin)
not_last log page fin =
    last_by_last fin.complete (same_id fin.last (last_id page.results)) fin.last (last_id page.results) (repeat_of (first_repeat (ids_of log.entries) (ids_of page.results)) (advance_of fin.complete page))
    (last_by_repeat fin.complete (first_repeat (ids_of log.entries) (ids_of page.results)) (advance_of fin.complete page) (last_by_advance (nat_lt (length page.results) 1 && not fin.complete) fin.complete))

no_position_where : (complete position : Bool) → (complete || not position) ≡ true → complete ≡ false → position ≡ false
no_position_where true position either none = absurd (cc none)
no_position_where false true either none = absurd (cc either)
no_position_where false false either none = refl

breaks_off : (log : LogView) (why : FinFault) → IsPageEnd (Err why) → after_refusal why log ≡ without_page log
breaks_off log fault.Stranger is = absurd is
breaks_off log (fault.Mismatch last got) is = refl
breaks_off log (fault.Repeats id) is = refl
breaks_off log fault.NoAdvance is = refl
breaks_off log fault.NoMemory is = absurd is

abbrev as_error : FinFault → R
as_error why = Err why

same_fault : (a b : FinFault) → as_error a ≡ as_error b → a ≡ b
same_fault a b e = cc e

-- ---- the answer is that of the found page

answer_is : (log : LogView) (queryid : List ℕ) (fin : Fin) (page : OpenPage) → page_for queryid log.page ≡ Some page → fin_answer log queryid fin ≡ end_of log page fin
answer_is log queryid fin page found = ap (λ o. page_outcome_of log o fin) found

due_is : (log : LogView) (queryid : List ℕ) (fin : Fin) (page : OpenPage) (r : R) → page_for queryid log.page ≡ Some page → IsDue r (fin_answer log queryid fin) → r ≢ Err fault.NoMemory → end_of log page fin ≡ r
due_is log queryid fin page r found due some =
    ⊎_elim (λ (wants : r ≡ Err fault.NoMemory). absurd (some wants)) (λ (is : r ≡ fin_answer log queryid fin). sym (is ∙ answer_is log queryid fin page found)) due

ended_as : (t : T) (queryid : List ℕ) (fin : Fin) (page : OpenPage) (r : R) → page_for queryid t.client.log.page ≡ Some page → IsDue r (fin_answer t.client.log queryid fin) → r ≢ Err fault.NoMemory
    → page_ended in_bytes t page fin r ≡ page_ended in_bytes t page fin (end_of t.client.log page fin)
ended_as t queryid fin page r found due some = ap (page_ended in_bytes t page fin) (sym (due_is t.client.log queryid fin page r found due some))

-- ---- each outcome

pub complete : (t now : T) (queryid : List ℕ) (fin : Fin) (page : OpenPage) → page_for queryid t.client.log.page ≡ Some page → IsDue (Ok Complete) (fin_answer t.client.log queryid fin)
    → now ≡ tells (with_log t (after_fin t.client.log fin)) (PageDone Complete) → now ≡ page_ended in_bytes t page fin (end_of t.client.log page fin)
complete t now queryid fin page found due is = is ∙ ended_as t queryid fin page (Ok Complete) found due (λ e. cc e)

full_leaves : (t : T) (o : Option (SessionView (List ℕ))) (max : ℕ) → has_room o ≡ false → leaves_full t o ≡ goes_on in_bytes t o max
full_leaves t None max full = refl
full_leaves t (Some s) max full = by (is_full s.waiting) full
  where
    by : (c : Bool) → not c ≡ false → ends t Unacknowledged ≡ (if c then ends t Unacknowledged else begins_page in_bytes t s max)
    by true is = refl
    by false is = absurd (cc is)

pub more_full : (t now : T) (queryid : List ℕ) (fin : Fin) (page : OpenPage) → (fin.complete || not (has_room t.client.session)) ≡ true → page_for queryid t.client.log.page ≡ Some page → IsDue (Ok More) (fin_answer t.client.log queryid fin)
    → now ≡ leaves_full (tells (with_log t (after_fin t.client.log fin)) (PageDone More)) t.client.session → now ≡ page_ended in_bytes t page fin (end_of t.client.log page fin)
more_full t now queryid fin page last found due is =
    let answer : end_of t.client.log page fin ≡ Ok More = due_is t.client.log queryid fin page (Ok More) found due (λ e. cc e) in
    let full : has_room t.client.session ≡ false = no_position_where fin.complete (has_room t.client.session) last (subst (IsNotLast fin.complete) answer (not_last t.client.log page fin)) in
    is ∙ full_leaves (tells (with_log t (after_fin t.client.log fin)) (PageDone More)) t.client.session page.max full ∙ ended_as t queryid fin page (Ok More) found due (λ e. cc e)

pub refused : (t now : T) (queryid : List ℕ) (fin : Fin) (page : OpenPage) (why : FinFault) → page_for queryid t.client.log.page ≡ Some page → IsDue (Err why) (fin_answer t.client.log queryid fin) → why ≢ fault.NoMemory
    → now ≡ tells (with_log t (after_refusal why t.client.log)) (CatchUpRefused (catch_up_fault why)) → now ≡ page_ended in_bytes t page fin (end_of t.client.log page fin)
refused t now queryid fin page why found due some is =
    let other : as_error why ≢ as_error fault.NoMemory = λ e. some (same_fault why fault.NoMemory e) in
    let answer : end_of t.client.log page fin ≡ Err why = due_is t.client.log queryid fin page (Err why) found due other in
    let off : after_refusal why t.client.log ≡ without_page t.client.log = breaks_off t.client.log why (subst IsPageEnd answer (page_end t.client.log page fin)) in
    is ∙ ap (λ log. tells (with_log t log) (CatchUpRefused (catch_up_fault why))) off ∙ ended_as t queryid fin page (Err why) found due other

-- ---- the next page

asked_in : (t : T) (o : Option (SessionView (List ℕ))) (max : ℕ) → has_room o ≡ true
    → asks_in in_bytes (with_log t (with_begun t.client.log (queryid_text (next_number t.client.pages)) max)) o (next_number t.client.pages) (page_text (queryid_text (next_number t.client.pages)) (last_id t.client.log.entries) max)
    ≡ goes_on in_bytes t o max
asked_in t None max position = absurd (cc position)
asked_in t (Some s) max position = by (is_full s.waiting) position
  where
    by : (c : Bool) → not c ≡ true → begins_page in_bytes t s max ≡ (if c then ends t Unacknowledged else begins_page in_bytes t s max)
    by true is = absurd (cc is)
    by false is = refl

asked : (t : T) (o : Option (SessionView (List ℕ))) (max number : ℕ) (stanza : List ℕ) → has_room o ≡ true → number ≡ next_number t.client.pages
    → stanza ≡ page_text (queryid_text (next_number t.client.pages)) (last_id t.client.log.entries) max
    → asks_in in_bytes (with_log t (with_begun t.client.log (queryid_text (next_number t.client.pages)) max)) o number stanza ≡ goes_on in_bytes t o max
asked t o max number stanza position is_number is_stanza =
    let begun = with_log t (with_begun t.client.log (queryid_text (next_number t.client.pages)) max) in
    ap (λ n. asks_in in_bytes begun o n stanza) is_number ∙ ap (λ z. asks_in in_bytes begun o (next_number t.client.pages) z) is_stanza ∙ asked_in t o max position

page_open : (log : LogView) (queryid : List ℕ) (page : OpenPage) → page_for queryid log.page ≡ Some page → log.page ≡ Some page
page_open log queryid page found = by log.page found
  where
    by_name : (c : Bool) (other : OpenPage) → (if c then Some other else None) ≡ Some page → Some other ≡ Some page
    by_name true other e = e
    by_name false other e = absurd (cc e)

    by : (o : Option OpenPage) → page_for queryid o ≡ Some page → o ≡ Some page
    by None e = absurd (cc e)
    by (Some other) e = by_name _ other e

stanza_is : (t : T) (o : Option OpenPage) (page : OpenPage) (after : Option (List ℕ)) (stanza : List ℕ) → o ≡ Some page
    → IfSome o (λ page. stanza ≡ page_text (queryid_text (next_number t.client.pages)) after page.max) → stanza ≡ page_text (queryid_text (next_number t.client.pages)) after page.max
stanza_is t o page after stanza is given = rw is at given

begun_is : (log : LogView) (next : List ℕ) (o : Option OpenPage) (page : OpenPage) → o ≡ Some page → begun_again log next o ≡ with_begun log next page.max
begun_is log next o page is = ap (begun_again log next) is

pub more_position : (t now : T) (log : LogView) (queryid next : List ℕ) (fin : Fin) (page : OpenPage) (number : ℕ) (stanza : List ℕ) → has_room t.client.session ≡ true → page_for queryid t.client.log.page ≡ Some page
    → number ≡ next_number t.client.pages → next ≡ queryid_text (next_number t.client.pages)
    → IfSome t.client.log.page (λ page. stanza ≡ page_text (queryid_text (next_number t.client.pages)) fin.last page.max)
    → IsDue (Ok More) (fin_answer t.client.log queryid fin) → log ≡ begun_again (after_fin t.client.log fin) next t.client.log.page
    → now ≡ asks_in in_bytes (tells (with_log t log) (PageDone More)) t.client.session number stanza → now ≡ page_ended in_bytes t page fin (end_of t.client.log page fin)
more_position t now log queryid next fin page number stanza position found is_number is_next is_stanza due is_log is =
    let old = t.client.log in
    let there : old.page ≡ Some page = page_open old queryid page found in
    let answer : end_of old page fin ≡ Ok More = due_is old queryid fin page (Ok More) found due (λ e. cc e) in
    let following : last_id (after_fin old fin).entries ≡ fin.last = told_after old queryid fin (answer_is old queryid fin page found ∙ answer) in
    let begun : log ≡ with_begun (after_fin old fin) (queryid_text (next_number t.client.pages)) page.max =
    is_log ∙ begun_is (after_fin old fin) next old.page page there ∙ ap (λ q. with_begun (after_fin old fin) q page.max) is_next in
    let text : stanza ≡ page_text (queryid_text (next_number t.client.pages)) (last_id (after_fin old fin).entries) page.max =
    stanza_is t old.page page fin.last stanza there is_stanza ∙ ap (λ after. page_text (queryid_text (next_number t.client.pages)) after page.max) (sym following) in
    is ∙ ap (λ l. asks_in in_bytes (tells (with_log t l) (PageDone More)) t.client.session number stanza) begun
    ∙ asked (tells (with_log t (after_fin old fin)) (PageDone More)) t.client.session page.max number stanza position is_number text
    ∙ ended_as t queryid fin page (Ok More) found due (λ e. cc e)

-- the same of a client that stands as before
pub more_moved : (t u now : T) (log : LogView) (queryid next : List ℕ) (fin : Fin) (page : OpenPage) (number : ℕ) (stanza : List ℕ) → u ≡ t → has_room t.client.session ≡ true → page_for queryid t.client.log.page ≡ Some page
    → number ≡ next_number t.client.pages → next ≡ queryid_text (next_number t.client.pages)
    → IfSome t.client.log.page (λ page. stanza ≡ page_text (queryid_text (next_number t.client.pages)) fin.last page.max)
    → IsDue (Ok More) (fin_answer u.client.log queryid fin) → log ≡ begun_again (after_fin u.client.log fin) next u.client.log.page
    → now ≡ asks_in in_bytes (tells (with_log u log) (PageDone More)) u.client.session number stanza → now ≡ page_ended in_bytes t page fin (end_of t.client.log page fin)
more_moved t u now log queryid next fin page number stanza same position found is_number is_next is_stanza =
    subst
    (λ (v : T). IsDue (Ok More) (fin_answer v.client.log queryid fin) → log ≡ begun_again (after_fin v.client.log fin) next v.client.log.page
    → now ≡ asks_in in_bytes (tells (with_log v log) (PageDone More)) v.client.session number stanza → now ≡ page_ended in_bytes t page fin (end_of t.client.log page fin))
    (sym same)
    (λ due is_log is. more_position t now log queryid next fin page number stanza position found is_number is_next is_stanza due is_log is)

-- ---- the page asked for anew

restarted_in : (t : T) (o : Option (SessionView (List ℕ))) (max : ℕ) → has_room o ≡ true
    → asks_in in_bytes (with_log t (with_restart t.client.log (queryid_text (next_number t.client.pages)))) o (next_number t.client.pages) (page_text (queryid_text (next_number t.client.pages)) None max)
    ≡ restarts in_bytes t o max
restarted_in t None max position = absurd (cc position)
restarted_in t (Some s) max position = by (is_full s.waiting) position
  where
    by : (c : Bool) → not c ≡ true
        → requests in_bytes (with_log (numbered t) (with_restart t.client.log (next_queryid t))) s (page_stanza in_bytes t None max) false
        ≡ (if c then ends (with_log t (without_page t.client.log)) Unacknowledged else requests in_bytes (with_log (numbered t) (with_restart t.client.log (next_queryid t))) s (page_stanza in_bytes t None max) false)
    by true is = absurd (cc is)
    by false is = refl

restarted_as : (t : T) (o : Option (SessionView (List ℕ))) (max number : ℕ) (stanza : List ℕ) → has_room o ≡ true → number ≡ next_number t.client.pages → stanza ≡ page_text (queryid_text (next_number t.client.pages)) None max
    → asks_in in_bytes (with_log t (with_restart t.client.log (queryid_text (next_number t.client.pages)))) o number stanza ≡ restarts in_bytes t o max
restarted_as t o max number stanza position is_number is_stanza =
    let begun = with_log t (with_restart t.client.log (queryid_text (next_number t.client.pages))) in
    ap (λ n. asks_in in_bytes begun o n stanza) is_number ∙ ap (λ z. asks_in in_bytes begun o (next_number t.client.pages) z) is_stanza ∙ restarted_in t o max position

pub anew : (t now : T) (log : LogView) (queryid fresh : List ℕ) (page : OpenPage) (number : ℕ) (stanza : List ℕ) → has_room t.client.session ≡ true → page_for queryid t.client.log.page ≡ Some page
    → number ≡ next_number t.client.pages → fresh ≡ queryid_text (next_number t.client.pages)
    → IfSome t.client.log.page (λ page. stanza ≡ page_text (queryid_text (next_number t.client.pages)) None page.max)
    → log ≡ with_restart t.client.log fresh → now ≡ asks_in in_bytes (with_log t log) t.client.session number stanza → now ≡ restarts in_bytes t t.client.session page.max
anew t now log queryid fresh page number stanza position found is_number is_fresh is_stanza is_log is =
    let there : t.client.log.page ≡ Some page = page_open t.client.log queryid page found in
    is ∙ ap (λ l. asks_in in_bytes (with_log t l) t.client.session number stanza) (is_log ∙ ap (with_restart t.client.log) is_fresh)
    ∙ restarted_as t t.client.session page.max number stanza position is_number (stanza_is t t.client.log.page page None stanza there is_stanza)

abbrev restart_of : Option (List ℕ) → Result (Unit {0}) RestartFault
restart_of after = if is_none after then Err NoPlace else Ok tt

abbrev as_refusal : RestartFault → Result (Unit {0}) RestartFault
as_refusal why = Err why

has_position_to : (after : Option (List ℕ)) (why : RestartFault) → IsSome after → as_refusal why ≡ restart_of after → ⊥
has_position_to None why there refusal = absurd (cc there)
has_position_to (Some id) why there refusal = cc refusal

-- it is taken, since the page has a place
pub may_restart : (log : LogView) (queryid : List ℕ) (page : OpenPage) (why : RestartFault) → page_for queryid log.page ≡ Some page → IsSome page.after → as_refusal why ≡ restart_answer (page_for queryid log.page) → ⊥
may_restart log queryid page why found there refusal = has_position_to page.after why there (refusal ∙ ap restart_answer found)

pub full_anew : (t : T) (o : Option (SessionView (List ℕ))) (max : ℕ) → has_room o ≡ false → IsSome o → ends (with_log t (without_page t.client.log)) Unacknowledged ≡ restarts in_bytes t o max
full_anew t None max full there = absurd (cc there)
full_anew t (Some s) max full there = by (is_full s.waiting) full
  where
    by : (c : Bool) → not c ≡ false
        → ends (with_log t (without_page t.client.log)) Unacknowledged
        ≡ (if c then ends (with_log t (without_page t.client.log)) Unacknowledged else requests in_bytes (with_log (numbered t) (with_restart t.client.log (next_queryid t))) s (page_stanza in_bytes t None max) false)
    by true is = refl
    by false is = absurd (cc is)
