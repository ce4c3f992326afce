-- Submissions and page requests of the user, where a session stands.
use Rattle.std.proofs.Common.{◌≡◌, ℕ, List, Option, Some, None, IsSome, ap, refl, subst, sym, ◌∙◌, arith}
use Rattle.sm_acks.specs.declared.end.TheConstants.{MOST_UNACKNOWLEDGED}
use Rattle.cl_handlers.specs.Acks.{HasFewer}
use Rattle.cl_core.specs.Asking.{asks_in, queues_in}
use Rattle.cl_handlers.specs.Clients.{ClientStep}
use Rattle.cl_handlers.specs.Speech.{in_bytes}
use Rattle.cl_core.specs.Feeds.{Fed}
use Rattle.cl_handlers.specs.ClientSteps.{drops, left, puts_footer, with_log}
use Rattle.cl_core.specs.UserCalls.{catches_up, catches_up_in, closes, dials, submits}
use Rattle.cl_handlers.specs.LoginSteps.{follows}
use Rattle.cl_login.specs.LoginRows.{begin_row}
use Rattle.xml_framer.specs.Limits.{client_limits}
use Rattle.xml_framer.specs.States.{from_start}
use Rattle.mam_log.specs.LogPages.{last_id}
use Rattle.mam_log.specs.Views.{LogView, with_begun}
use Rattle.sm_outbox.specs.Sessions.{SessionView}
use Rattle.sm_outbox.specs.Submissions.{next_number, with_said}
use Rattle.sm_outbox.specs.declared.said.Said.{Said}
use Rattle.im_requests.specs.Messages.{page_text, queryid_text}

abbrev T : Type 0
T = ClientStep (List ℕ) ℕ

abbrev S : Type 0
S = SessionView (List ℕ)

-- ---- place in the queue, which stays where the session does

pub fewer_still : (a b : Option S) → a ≡ b → HasFewer 1000 b → HasFewer MOST_UNACKNOWLEDGED a
fewer_still a b same few = subst (HasFewer MOST_UNACKNOWLEDGED) (sym same) (by b few)
  where
    by : (o : Option S) → HasFewer 1000 o → HasFewer MOST_UNACKNOWLEDGED o
    by None few = tt
    by (Some s) few = omega (arith, few)

pub few_still : (a b : Option S) → a ≡ b → HasFewer MOST_UNACKNOWLEDGED b → HasFewer MOST_UNACKNOWLEDGED a
few_still a b same few = subst (HasFewer MOST_UNACKNOWLEDGED) (sym same) few

pub some_still : (a b : Option S) → a ≡ b → IsSome b → IsSome a
some_still a b same some = subst (λ (o : Option S). IsSome o) (sym same) some

-- ---- what is put

-- a submission that is in the queue is added to the others
pub submitted : (t queued now : T) (o : Option S) (stanza : List ℕ) (said : Said) → IsSome o → queued ≡ queues_in in_bytes t o stanza
    → now ≡ record queued { client = record queued.client { n = said.n; said = with_said t.client.said said } } → now ≡ submits in_bytes t o stanza said
submitted t queued now None stanza said some is done = absurd (cc some)
submitted t queued now (Some s) stanza said some is done =
    done ∙ ap (λ (u : T). record u { client = record u.client { n = said.n; said = with_said t.client.said said } }) is

caught_in : (t : T) (o : Option S) (max : ℕ) → IsSome o
    → asks_in in_bytes (with_log t (with_begun t.client.log (queryid_text (next_number t.client.pages)) max)) o (next_number t.client.pages) (page_text (queryid_text (next_number t.client.pages)) (last_id t.client.log.entries) max)
    ≡ catches_up_in in_bytes t o max
caught_in t None max some = absurd (cc some)
caught_in t (Some s) max some = refl

-- a page that is begun is asked for
pub caught_up : (t now : T) (log : LogView) (queryid : List ℕ) (max number : ℕ) (stanza : List ℕ) → IsSome t.client.session → number ≡ next_number t.client.pages
    → queryid ≡ queryid_text (next_number t.client.pages) → stanza ≡ page_text (queryid_text (next_number t.client.pages)) (last_id t.client.log.entries) max
    → log ≡ with_begun t.client.log queryid max → now ≡ asks_in in_bytes (with_log t log) t.client.session number stanza → now ≡ catches_up in_bytes t max
caught_up t now log queryid max number stanza some is_number is_id is_stanza is_log is =
    is ∙ ap (λ l. asks_in in_bytes (with_log t l) t.client.session number stanza) (is_log ∙ ap (λ q. with_begun t.client.log q max) is_id)
    ∙ ap (λ n. asks_in in_bytes (with_log t (with_begun t.client.log (queryid_text (next_number t.client.pages)) max)) t.client.session n stanza) is_number
    ∙ ap (λ z. asks_in in_bytes (with_log t (with_begun t.client.log (queryid_text (next_number t.client.pages)) max)) t.client.session (next_number t.client.pages) z) is_stanza
    ∙ caught_in t t.client.session max some

-- ---- connections

-- what a login begins with goes out on the new connection
pub dialed : (f new : Fed (List ℕ) ℕ) (now : ClientStep (List ℕ) ℕ) (entropy : List ℕ) → now ≡ follows in_bytes f.turn (begin_row f.turn.client.account.login.domain entropy)
    → new ≡ record { framer = Some (from_start client_limits); turn = now } → new ≡ dials in_bytes entropy f
dialed f new now entropy same is = is ∙ ap (λ (t : ClientStep (List ℕ) ℕ). record { framer = Some (from_start client_limits); turn = t }) same

-- the footer goes out, and the session ends
pub closed : (f new : Fed (List ℕ) ℕ) (u : T) → u ≡ puts_footer in_bytes f.turn → new ≡ record { framer = None; turn = drops in_bytes (left u) } → new ≡ closes in_bytes f
closed f new u is done = done ∙ ap (λ (v : T). record { framer = None; turn = drops in_bytes (left v) }) is
