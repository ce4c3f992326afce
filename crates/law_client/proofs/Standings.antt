-- A session stands where the connection needs one.
use Rattle.std.proofs.Common.{◌≡◌, ℕ, ◌+◌, ◌≤◌, ◌==◌, Bool, true, false, List, [], ◌∷◌, ◌++◌, Option, Some, None, IsSome, length, drop, is_some, if◌then◌else◌, arith, refl, ap, sym, subst, ◌∙◌, length-append, length-drop}
use Rattle.std.proofs.lemmas.Bool.Decides.{nat_tests}
use Rattle.sm_acks.specs.Counters.{ahead}
use Rattle.law_client.proofs.LogParts.{LogPart, adds, asks_anew, breaks_off, holds, takes}
use Rattle.law_client.proofs.Parts.{IsLaw, Part, acks, bound, drops_binding, drops_left, enabled, goes_free, goes_with, goes_without, handled, logs, numbers, opens, outs, states, submits, waits}
use Rattle.law_client.specs.Calls.{first_client}
use Rattle.law_client.specs.Standing.{HasFew, Stands, is_binding, needs_session}
use Rattle.cl_handlers.specs.Clients.{ClientStep}
use Rattle.cl_handlers.specs.Speech.{Speech}
use Rattle.cl_handlers.specs.declared.account.Account.{Account}
use Rattle.mam_log.specs.LogCalls.{may_hold, with_restart}
use Rattle.mam_log.specs.Views.{LogView, OpenPage, with_result}
use Rattle.mam_log.specs.declared.log_entry.LogEntry.{LogEntry}
use Rattle.sm_outbox.specs.Sessions.{SessionView}
use Rattle.sm_outbox.specs.Waiting.{Waiting, is_full}

abbrev KeepsStanding : {A X : Type 0} → ClientStep A X → ClientStep A X → Type 0
KeepsStanding t u = Stands t.client → Stands u.client

-- ---- queues

-- where a queue isn't full there is place for one stanza more
one_more : (n : ℕ) → (n == 10000) ≡ false → n ≤ 10000 → n + 1 ≤ 10000
one_more n position few = grind (arith, nat_tests)

queued_few : {A : Type 0} (w : Waiting A) (stanza : A) → is_full w ≡ false → length w.queue ≤ 10000 → length (w.queue ++ stanza ∷ []) ≤ 10000
queued_few w stanza position few = let more = one_more (length w.queue) position few in rw (length-append w.queue (stanza ∷ [])) more

dropped_few : {A : Type 0} (n : ℕ) (queue : List A) → length queue ≤ 10000 → length (drop n queue) ≤ 10000
dropped_few n queue few = rw (length-drop n queue) (omega arith)

few_of : {A : Type 0} (o : Option (SessionView A)) (s : SessionView A) → o ≡ Some s → HasFew o → length s.waiting.queue ≤ 10000
few_of o s is few = subst HasFew is few

-- ---- pages: none begins

held_page : (log : LogView) (live : LogEntry) (b : Bool) → (if b then record log { held = log.held ++ live ∷ [] } else log).page ≡ log.page
held_page log live true = refl
held_page log live false = refl

added_page : (log : LogView) (o : Option OpenPage) (entry : LogEntry) → log.page ≡ o → IsSome (with_result log entry).page → IsSome o
added_page log None entry is some = absurd (cc (rw is at some))
added_page log (Some page) entry is some = refl

anew_page : (log : LogView) (o : Option OpenPage) (queryid : List ℕ) → log.page ≡ o → IsSome (with_restart log queryid).page → IsSome o
anew_page log None queryid is some = absurd (cc (rw is at some))
anew_page log (Some page) queryid is some = refl

none_begins : (old new : LogView) → LogPart old new → IsSome new.page → IsSome old.page
none_begins old new (adds page entry opened position is) some = added_page old old.page entry refl (subst (λ (l : LogView). IsSome l.page) is some)
none_begins old new (breaks_off is) some = absurd (cc (subst (λ (l : LogView). IsSome l.page) is some))
none_begins old new (holds live is) some =
    subst IsSome (held_page old live (may_hold old live.id)) (subst (λ (l : LogView). IsSome l.page) is some)
none_begins old new (takes page fin outcome opened judged is) some = ap is_some opened
none_begins old new (asks_anew queryid is) some = anew_page old old.page queryid refl (subst (λ (l : LogView). IsSome l.page) is some)

-- ---- the parts

never : {B : Type 0} (b : Bool) → b ≡ false → b ≡ true → B
never b fails passes = absurd (cc (sym fails ∙ passes))

none_some : {B C : Type 0} (o : Option B) → o ≡ None → IsSome o → C
none_some o none some = absurd (cc (ap is_some (sym none) ∙ some))

pub stands_by : {A X : Type 0} {speech : Speech A X} (t u : ClientStep A X) → Part speech t u → KeepsStanding t u
stands_by t u (outs is same) s = subst Stands (sym is) s
stands_by {A = A} {X = X} t u (states held at is) s = subst (λ (v : ClientStep A X). Stands v.client) (sym is) (record { attached = s.attached; unbound = s.unbound; paged = s.paged; few = s.few })
stands_by {A = A} {X = X} t u (goes_free p needs binds is) s =
    subst (λ (v : ClientStep A X). Stands v.client) (sym is) (record { attached = λ e. never (needs_session p) needs e; unbound = λ e. never (is_binding p) binds e; paged = s.paged; few = s.few })
stands_by {A = A} {X = X} t u (goes_with p binds some is) s =
    subst (λ (v : ClientStep A X). Stands v.client) (sym is) (record { attached = λ _. some; unbound = λ e. never (is_binding p) binds e; paged = s.paged; few = s.few })
stands_by {A = A} {X = X} t u (goes_without p needs none is) s =
    subst (λ (v : ClientStep A X). Stands v.client) (sym is) (record { attached = λ e. never (needs_session p) needs e; unbound = λ _. none; paged = s.paged; few = s.few })
stands_by {A = A} {X = X} t u (bound at is) s =
    subst (λ (v : ClientStep A X). Stands v.client) (sym is) (record { attached = λ e. absurd (cc e); unbound = λ _. s.unbound (ap is_binding at); paged = s.paged; few = s.few })
stands_by {A = A} {X = X} t u (enabled previd at is) s =
    subst (λ (v : ClientStep A X). Stands v.client) (sym is) (record { attached = λ _. refl; unbound = λ e. absurd (cc e); paged = λ _. refl; few = omega arith })
stands_by {A = A} {X = X} t u (drops_left is) s =
    subst (λ (v : ClientStep A X). Stands v.client) (sym is) (record { attached = λ e. absurd (cc e); unbound = λ _. refl; paged = λ e. absurd (cc e); few = tt })
stands_by {A = A} {X = X} t u (drops_binding is) s =
    subst (λ (v : ClientStep A X). Stands v.client) (sym is) (record { attached = λ e. absurd (cc e); unbound = λ _. refl; paged = λ e. absurd (cc e); few = tt })
stands_by {A = A} {X = X} t u (waits held stanza at position is) s =
    subst (λ (v : ClientStep A X). Stands v.client) (sym is)
    (record { attached = λ _. refl; unbound = λ e. none_some t.client.session (s.unbound e) (ap is_some at); paged = λ _. refl; few = queued_few held.waiting stanza position (few_of t.client.session held at s.few) })
stands_by {A = A} {X = X} t u (submits held said at position is) s =
    subst (λ (v : ClientStep A X). Stands v.client) (sym is)
    (record { attached = λ _. refl; unbound = λ e. none_some t.client.session (s.unbound e) (ap is_some at); paged = λ _. refl; few = queued_few held.waiting _ position (few_of t.client.session held at s.few) })
stands_by {A = A} {X = X} t u (acks held h at low is) s =
    subst (λ (v : ClientStep A X). Stands v.client) (sym is)
    (record { attached = λ _. refl; unbound = λ e. none_some t.client.session (s.unbound e) (ap is_some at); paged = λ _. refl; few = dropped_few (ahead h held.waiting.acked) held.waiting.queue (few_of t.client.session held at s.few) })
stands_by {A = A} {X = X} t u (handled held e at is) s =
    subst (λ (v : ClientStep A X). Stands v.client) (sym is)
    (record { attached = λ _. refl; unbound = λ b. none_some t.client.session (s.unbound b) (ap is_some at); paged = λ _. refl; few = few_of t.client.session held at s.few })
stands_by {A = A} {X = X} t u (logs log part is) s =
    subst (λ (v : ClientStep A X). Stands v.client) (sym is) (record { attached = s.attached; unbound = s.unbound; paged = λ some. s.paged (none_begins t.client.log log part some); few = s.few })
stands_by {A = A} {X = X} t u (opens held queryid max at is) s =
    subst (λ (v : ClientStep A X). Stands v.client) (sym is) (record { attached = s.attached; unbound = s.unbound; paged = λ _. ap is_some at; few = s.few })
stands_by {A = A} {X = X} t u (numbers number is) s = subst (λ (v : ClientStep A X). Stands v.client) (sym is) (record { attached = s.attached; unbound = s.unbound; paged = s.paged; few = s.few })

pub standing_law : {A X : Type 0} (speech : Speech A X) → IsLaw speech KeepsStanding
standing_law speech = record { stays = λ t s. s; joins = λ t u v first rest s. rest (first s); parts = λ t u part s. stands_by t u part s }

pub first_stands : {A : Type 0} (account : Account) → Stands (first_client {A = A} account)
first_stands account = record { attached = λ e. absurd (cc e); unbound = λ _. refl; paged = λ e. absurd (cc e); few = tt }
