-- Small steps that change sessions alone: the rest of the server's state stays, nothing is told of, and each session
-- stays what it is.
use Rattle.std.proofs.Common.{◌≡◌, ℕ, ◌==◌, not, Bool, true, false, List, [], ◌∷◌, ◌++◌, Option, Some, None, refl, ap, ◌∙◌, if◌then◌else◌}
use Rattle.std.specs.List.{AllByRecursion, filter}
use Rattle.sm_acks.specs.declared.end.TheConstants.{MOST_UNACKNOWLEDGED}
use Rattle.srv_state.specs.State.{Out, Put, Shut, Step, Took}
use Rattle.srv_state.specs.Steps.{Act, Handle, Send, act, acted, ask_where, in_sessions, is_due, overflow, part_where, put, put_where, queue, send_by_info, shut}
use Rattle.sim_3_items.specs.ItemMoves.{takes_reported}
use Rattle.sim_3_items.specs.ItemWorlds.{itself}
use Rattle.sm_live.specs.Sessions.{Session, asks, handles, info_of, is_at, waits, with_session}
use Rattle.sm_live.specs.declared.told.SessionInfo.{SessionInfo}
use Rattle.im_replies.specs.Streams.{error_item}
use Rattle.im_replies.specs.declared.conditions.StreamCondition.TheVariants.{ResourceConstraint}
use Rattle.xml_writer.specs.Items.{ItemOut}

-- ---- sessions

-- what is said of each stays where the one with a number is changed
module _ (P Q : Session ItemOut → Type 0) (n : ℕ) (f : Session ItemOut → Session ItemOut)
    (here : (s : Session ItemOut) → (s.shown.number == n) ≡ true → P s → Q (f s)) (elsewhere : (s : Session ItemOut) → (s.shown.number == n) ≡ false → P s → Q s) where
  one_changed : (s : Session ItemOut) (b : Bool) → (s.shown.number == n) ≡ b → P s → Q (if b then f s else s)
  one_changed s true is p = here s is p
  one_changed s false is p = elsewhere s is p

  pub all_changed : (ss : List (Session ItemOut)) → AllByRecursion P ss → AllByRecursion Q (with_session n f ss)
  all_changed [] all = tt
  all_changed (s ∷ ss) all = (one_changed s (s.shown.number == n) refl all.0, all_changed ss all.1)

pub all_weaker : (P Q : Session ItemOut → Type 0) → ((s : Session ItemOut) → P s → Q s) → (ss : List (Session ItemOut)) → AllByRecursion P ss → AllByRecursion Q ss
all_weaker P Q weaker [] all = tt
all_weaker P Q weaker (s ∷ ss) all = (weaker s all.0, all_weaker P Q weaker ss all.1)

one_left : (P : Session ItemOut → Type 0) (b : Bool) (s : Session ItemOut) (ss : List (Session ItemOut)) → P s → AllByRecursion P ss → AllByRecursion P (if b then s ∷ ss else ss)
one_left P true s ss p all = (p, all)
one_left P false s ss p all = all

pub all_left : (P : Session ItemOut → Type 0) (q : Session ItemOut → Bool) (ss : List (Session ItemOut)) → AllByRecursion P ss → AllByRecursion P (filter q ss)
all_left P q [] all = tt
all_left P q (s ∷ ss) all = one_left P (q s) s (filter q ss) all.0 (all_left P q ss all.1)

-- ---- what is told

nothing_more : (moment : ℕ) (outs more : List (Out ItemOut)) → takes_reported moment more ≡ [] → takes_reported moment (outs ++ more) ≡ takes_reported moment outs
nothing_more moment [] more none = none
nothing_more moment (Put k z ∷ outs) more none = nothing_more moment outs more none
nothing_more moment (Shut k ∷ outs) more none = nothing_more moment outs more none
nothing_more moment (Took from to origin ∷ outs) more none = ap (λ ts. record { moment = moment; from = from; to = to; origin = origin } ∷ ts) (nothing_more moment outs more none)

-- ---- steps

pub record Goes (Q : Session ItemOut → Type 0) (s next : Step ItemOut) : Type 0 where
  pub domain : next.server_state.domain ≡ s.server_state.domain
  pub accounts : next.server_state.accounts ≡ s.server_state.accounts
  pub archives : next.server_state.archives ≡ s.server_state.archives
  pub sessions : AllByRecursion Q next.server_state.sessions
  pub told : (moment : ℕ) → takes_reported moment next.outs ≡ takes_reported moment s.outs

pub stands : (Q : Session ItemOut → Type 0) (s : Step ItemOut) → AllByRecursion Q s.server_state.sessions → Goes Q s s
stands Q s all = record { domain = refl; accounts = refl; archives = refl; sessions = all; told = λ moment. refl }

-- and then sessions change
pub then_sessions : (P Q : Session ItemOut → Type 0) (f : List (Session ItemOut) → List (Session ItemOut)) → ((ss : List (Session ItemOut)) → AllByRecursion P ss → AllByRecursion Q (f ss)) → (s next : Step ItemOut) → Goes P s next → Goes Q s (in_sessions f next)
then_sessions P Q f keeps s next goes = record { domain = goes.domain; accounts = goes.accounts; archives = goes.archives; sessions = keeps next.server_state.sessions goes.sessions; told = goes.told }

-- what a queue and a count change of a session
pub record IsSteady (P : Session ItemOut → Type 0) : Type 0 where
  pub waiting : (z : ItemOut) (s : Session ItemOut) → P s → P (waits z s)
  pub asked : (on : Bool) (s : Session ItemOut) → P s → P (asks on s)
  pub handled : (s : Session ItemOut) → P s → P (handles s)

abbrev pub IsSend : Act ItemOut → Type 0
IsSend (Send n z) = Unit {0}
IsSend _ = ⊥

module _ (P : Session ItemOut → Type 0) (steady : IsSteady P) where
  pub then_put : (k : ℕ) (z : ItemOut) (s next : Step ItemOut) → Goes P s next → Goes P s (put k z next)
  then_put k z s next goes = record {
    domain = goes.domain;
    accounts = goes.accounts;
    archives = goes.archives;
    sessions = goes.sessions;
    told = λ moment. nothing_more moment next.outs (Put k z ∷ []) refl ∙ goes.told moment;
  }

  pub then_shut : (k : ℕ) (s next : Step ItemOut) → Goes P s next → Goes P s (shut k next)
  then_shut k s next goes = record {
    domain = goes.domain;
    accounts = goes.accounts;
    archives = goes.archives;
    sessions = all_left P (λ t. not (is_at k t)) next.server_state.sessions goes.sessions;
    told = λ moment. nothing_more moment next.outs (Shut k ∷ []) refl ∙ goes.told moment;
  }

  pub then_changed : (n : ℕ) (f : Session ItemOut → Session ItemOut) → ((t : Session ItemOut) → P t → P (f t)) → (s next : Step ItemOut) → Goes P s next → Goes P s (in_sessions (with_session n f) next)
  then_changed n f keeps = then_sessions P P (with_session n f) (all_changed P P n f (λ t is p. keeps t p) (λ t is p. p))

  then_put_where : (conn : Option ℕ) (z : ItemOut) (s next : Step ItemOut) → Goes P s next → Goes P s (put_where conn z next)
  then_put_where None z s next goes = goes
  then_put_where (Some k) z s next goes = then_put k z s next goes

  then_ask : (n : ℕ) (conn : Option ℕ) (due : Bool) (s next : Step ItemOut) → Goes P s next → Goes P s (ask_where itself n conn due next)
  then_ask n conn false s next goes = goes
  then_ask n None true s next goes = goes
  then_ask n (Some k) true s next goes = then_put k _ s (in_sessions (with_session n (asks true)) next) (then_changed n (asks true) (steady.asked true) s next goes)

  then_queue : (n : ℕ) (z : ItemOut) (t : SessionInfo) (s next : Step ItemOut) → Goes P s next → Goes P s (queue itself n z t next)
  then_queue n z t s next goes =
      let waits_more = then_changed n (waits z) (steady.waiting z) s next goes in
      then_ask n t.conn (is_due t) s (put_where t.conn z (in_sessions (with_session n (waits z)) next)) (then_put_where t.conn z s (in_sessions (with_session n (waits z)) next) waits_more)

  then_part : (conn : Option ℕ) (error : ItemOut) (s next : Step ItemOut) → Goes P s next → Goes P s (part_where itself conn error next)
  then_part None error s next goes = goes
  then_part (Some k) error s next goes = then_shut k s _ (then_put k _ s (put k error next) (then_put k error s next goes))

  then_overflow : (n : ℕ) (t : SessionInfo) (s next : Step ItemOut) → Goes P s next → Goes P s (overflow itself n t next)
  then_overflow n t s next goes =
      then_part t.conn (error_item ResourceConstraint) s _
      (then_sessions P P (λ ss. filter (λ (u : Session ItemOut). not (u.shown.number == n)) ss) (all_left P (λ u. not (u.shown.number == n))) s next goes)

  either : (b : Bool) (s x y : Step ItemOut) → Goes P s x → Goes P s y → Goes P s (if b then x else y)
  either true s x y first second = first
  either false s x y first second = second

  then_told : (n : ℕ) (z : ItemOut) (o : Option SessionInfo) (s next : Step ItemOut) → Goes P s next → Goes P s (send_by_info itself n z o next)
  then_told n z None s next goes = goes
  then_told n z (Some t) s next goes =
      either (not t.counted) s _ _ (then_put_where t.conn z s next goes)
      (either (t.waiting == MOST_UNACKNOWLEDGED) s _ _ (then_overflow n t s next goes) (then_queue n z t s next goes))

  pub then_send : (a : Act ItemOut) → IsSend a → (s next : Step ItemOut) → Goes P s next → Goes P s (act itself a next)
  then_send (Send n z) is s next goes = then_told n z (info_of n next.server_state.sessions) s next goes
  then_send _ is s next goes = absurd is

  pub then_sends : (acts : List (Act ItemOut)) → AllByRecursion IsSend acts → (s next : Step ItemOut) → Goes P s next → Goes P s (acted itself acts next)
  then_sends [] all s next goes = goes
  then_sends (a ∷ acts) all s next goes = then_sends acts all.1 s (act itself a next) (then_send a all.0 s next goes)

  -- a stanza counts first, where the session's are counted
  pub then_counted : (b : Bool) (n : ℕ) (s : Step ItemOut) → AllByRecursion P s.server_state.sessions → Goes P s (if b then act itself (Handle n) s else s)
  then_counted true n s all = then_changed n handles steady.handled s s (stands P s all)
  then_counted false n s all = stands P s all

pub counting_first : (b : Bool) (n : ℕ) (acts : List (Act ItemOut)) (s : Step ItemOut) → acted itself (if b then Handle n ∷ acts else acts) s ≡ acted itself acts (if b then act itself (Handle n) s else s)
counting_first true n acts s = refl
counting_first false n acts s = refl
