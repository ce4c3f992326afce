-- Along moves whose labels are in time, each may happen in the links; and what the links stay by that.
use Rattle.std.proofs.Common.{◌≡◌, false, List, [], ◌∷◌, ◌++◌, refl}
use Rattle.sim_3_items.specs.Labels.{ArePrompt, Label, awaits, is_awaited, label_of, labels_of}
use Rattle.sim_3_items.specs.Items.{stanzas_read}
use Rattle.sim_3_items.specs.Downs.{down_stanza}
use Rattle.sim_3_items.specs.Ups.{up_stanza}
use Rattle.sim_2_links.proofs.Reached.{link_kept}
use Rattle.sim_2_links.proofs.WithPremises.{paging_runs, prompt_runs}
use Rattle.sim_2_links.specs.Covers.{Does, PromptReached, Says}
use Rattle.sim_2_links.specs.Events.{seen}
use Rattle.sim_2_links.specs.Links.{LinkKept}
use Rattle.sim_2_links.specs.Machine.{AsksToBind, AsksToResume, Cuts, Demands, Detaches, Dials, EndsRow, Foots, Forgets, Hears, HearsEarly, Keeps, LetsGo, LinkMove, LinkReached, LinkReaches, Parks, Puts, Queues, ReadsBound, ReadsCount, ReadsEnabled, ReadsFailed, ReadsHand, ReadsRequest, ReadsResumed, ReadsStanza, Requests, Serves, Shuts, TakesBind, TakesCount, TakesEnable, TakesFoot, TakesHand, TakesHighResume, TakesLateResume, TakesRequest, TakesResume, TakesStanza, TakesStrangeResume, nothing_yet}
use Rattle.sim_2_links.specs.Paging.{MayPage, PagingReached}
use Rattle.sim_2_links.specs.Views.{View}
use Rattle.sim_2_events.specs.Lists.{IsDevice}
use Rattle.sim_5_devices.proofs.Alike.{AreAlike, alike_same, step_after}
use Rattle.sim_5_devices.proofs.Along.{AreMay, link_more, paging_more, prompt_more, stays}
use Rattle.sim_5_devices.proofs.Put.{may_give, may_put, may_say, may_serve}
use Rattle.sim_5_devices.specs.InTime.{AreInTime, is_query, paging_here}
use Rattle.sim_5_devices.proofs.SessionLabelsSteps.{IsStep, step_done}
use Rattle.sim_1_applications.specs.Devices.{Session, Sessions}
use Rattle.sim_1_applications.specs.Stanzas.{Carbons, Message, Presence, Query, Up}
use Rattle.xml_writer.specs.Items.{ItemOut}

-- ---- one move

module _ (v : View ItemOut) (s : Session) (d next : Sessions) (kept : LinkKept v) (device : IsDevice stanzas_read (seen v) d) (alike : AreAlike s d.now) where
  may_move : (move : LinkMove ItemOut) (more : List (Label ItemOut)) → IsStep stanzas_read (label_of move) d next → AreInTime (label_of move ++ more) s → MayPage paging_here (Does move) v
  may_move (Cuts k i j) more step time = tt
  may_move (Dials k) more step time = tt
  may_move (LetsGo k) more step time = tt
  may_move (Foots k) more step time = tt
  may_move Forgets more step time = tt
  may_move (Puts k z) more step time = may_put v d kept device z (may_say s d.now alike (up_stanza z) time.0)
  may_move (Queues z) more step time = may_put v d kept device z (may_say s d.now alike (up_stanza z) time.0)
  may_move (Requests k) more step time = tt
  may_move (ReadsHand k) more step time = tt
  may_move (AsksToResume k) more step time = tt
  may_move (AsksToBind k) more step time = tt
  may_move (ReadsFailed k) more step time = tt
  may_move (ReadsResumed k) more step time = tt
  may_move (ReadsBound k m) more step time = tt
  may_move (ReadsEnabled k m) more step time = tt
  may_move (ReadsStanza k z) more step time = tt
  may_move (ReadsRequest k) more step time = tt
  may_move (ReadsCount k h) more step time = tt
  may_move (TakesHand k) more step time = tt
  may_move (TakesResume k) more step time = tt
  may_move (TakesLateResume k) more step time = tt
  may_move (TakesStrangeResume k) more step time = tt
  may_move (TakesHighResume k) more step time = tt
  may_move (TakesBind k m) more step time = tt
  may_move (TakesEnable k) more step time = tt
  may_move (TakesStanza k z) more step time = tt
  may_move (TakesRequest k) more step time = tt
  may_move (TakesCount k h) more step time = tt
  may_move (TakesFoot k) more step time = tt
  may_move (Parks k) more step time = tt
  may_move (Hears k) more step time = tt
  may_move (HearsEarly k) more step time = tt
  may_move (Detaches k ending) more step time = tt
  may_move (Shuts k ending) more step time = tt
  may_move EndsRow more step time = tt
  may_move (Serves k z) more step time = may_serve v d kept device z step.0.0 (may_give s d.now alike (down_stanza z) time.0)
  may_move (Keeps z) more step time = may_serve v d kept device z step.0.0 (may_give s d.now alike (down_stanza z) time.0)
  may_move (Demands k) more step time = tt

-- ---- all of them

abbrev pub May : LinkMove ItemOut → View ItemOut → Type 0
May move v = MayPage paging_here (Does move) v

all_may : (moves : List (LinkMove ItemOut)) (v last : View ItemOut) (s : Session) (d : Sessions) → LinkReached v → (along : LinkReaches moves v last) → IsDevice stanzas_read (seen v) d → AreAlike s d.now → AreInTime (labels_of moves) s
    → AreMay May moves v last along
all_may [] v last s d reached same device alike time = tt
all_may (move ∷ moves) v last s d reached (next, by, along) device alike time =
    let step = step_done stanzas_read move v next d reached by device in
    let rest = step_after (label_of move) (labels_of moves) s d step.0 step.1 alike time in (
      may_move v s d step.0 (link_kept v reached) device alike move (labels_of moves) step.1 time,
      all_may moves next last rest.0 step.0 (link_more v next move reached by) along step.2 rest.1 rest.2,
    )

-- ---- the links stay so

-- what is not awaited is no request
no_query : (z : Up) → is_awaited z ≡ false → is_query z ≡ false
no_query Carbons other = refl
no_query Presence other = refl
no_query (Message m) other = refl
no_query (Query r) other = absurd (let no_way : ⊥ = cc in no_way)

pub paging_stays : (moves : List (LinkMove ItemOut)) (v next : View ItemOut) (d : Sessions) → PagingReached paging_here v → LinkReaches moves v next → ArePrompt moves → IsDevice stanzas_read (seen v) d → AreInTime (labels_of moves) d.now
    → PagingReached paging_here next
paging_stays moves v next d reached along prompt device time =
    stays paging_here.asks (λ z other. no_query (up_stanza z) other) (PagingReached paging_here) May
    (λ move u w so may quiet by. paging_more paging_here u w (Does move) so (may, (quiet, by)))
    (λ k z u mid w so may put asked. paging_more paging_here u w (Says k z) so (may, (mid, put, asked)))
    moves v next reached along prompt (all_may moves v next d.now d (prompt_runs paging_here.asks v (paging_runs paging_here v reached)) along device (alike_same d.now) time)

abbrev Any : LinkMove ItemOut → View ItemOut → Type 0
Any move v = Unit {0}

any_may : (moves : List (LinkMove ItemOut)) (v last : View ItemOut) (along : LinkReaches moves v last) → AreMay Any moves v last along
any_may [] v last same = tt
any_may (move ∷ moves) v last (next, by, along) = (tt, any_may moves next last along)

pub prompt_stays : (moves : List (LinkMove ItemOut)) (v next : View ItemOut) → PromptReached awaits v → LinkReaches moves v next → ArePrompt moves → PromptReached awaits next
prompt_stays moves v next reached along prompt =
    stays awaits (λ z other. other) (PromptReached awaits) Any
    (λ move u w so may quiet by. prompt_more awaits u w (Does move) so (quiet, by))
    (λ k z u mid w so may put asked. prompt_more awaits u w (Says k z) so (mid, put, asked))
    moves v next reached along prompt (any_may moves v next along)

pub begins : PagingReached paging_here nothing_yet × PromptReached awaits nothing_yet
begins = (record { moves = []; reaches = refl }, record { moves = []; reaches = refl })
