-- Small steps that bind no session, alter no flag and take no message.
use Rattle.std.proofs.Common.{◌≡◌, ℕ, ◌==◌, not, Bool, true, false, List, [], ◌∷◌, Option, Some, None, refl, ◌∙◌, if◌then◌else◌}
use Rattle.std.specs.List.{AllByRecursion}
use Rattle.srv_state.specs.State.{Step}
use Rattle.srv_state.specs.Steps as steps
use Rattle.srv_state.specs.Steps.{Act, act, acted, in_sessions, shut, put}
use Rattle.sim_3_items.specs.ItemWorlds.{itself}
use Rattle.sm_live.specs.Sessions.{Session, acknowledged, after_resume, asks, enables, handles, is_too_high, parked, resumes, session_resumed, waits, with_session, without}
use Rattle.sim_5_moves.proofs.Walks.{Goes, IsSteady, all_changed, all_left, then_changed, then_put, then_send, then_sessions, then_shut}
use Rattle.xml_writer.specs.Items.{ItemOut}

abbrev pub non_stanza : Act ItemOut → Type 0 → Type 0
non_stanza (steps.Bind account resource k) More = ⊥
non_stanza (steps.Present n available priority) More = ⊥
non_stanza (steps.Copy n on) More = ⊥
non_stanza (steps.Archive account e) More = ⊥
non_stanza (steps.Tell from to origin) More = ⊥
non_stanza a More = More

abbrev pub NonStanza : List (Act ItemOut) → Type 0
NonStanza [] = Unit {0}
NonStanza (a ∷ acts) = non_stanza a (NonStanza acts)

-- what is said of a session by its number, its name and its flags
abbrev pub IsAbout : (Session ItemOut → Type 0) → Type 0
IsAbout P = (s t : Session ItemOut) → t.shown.number ≡ s.shown.number → t.shown.account ≡ s.shown.account → t.shown.resource ≡ s.shown.resource
    → t.shown.available ≡ s.shown.available → t.shown.carbons ≡ s.shown.carbons → t.shown.priority ≡ s.shown.priority → P s → P t

module _ (P : Session ItemOut → Type 0) (about : IsAbout P) where
  pub steady : IsSteady P
  steady = record {
    waiting = λ z s is. about s (waits z s) refl refl refl refl refl refl is;
    asked = λ on s is. about s (asks on s) refl refl refl refl refl refl is;
    handled = λ s is. about s (handles s) refl refl refl refl refl refl is;
  }

  all_same : (n : ℕ) (f : Session ItemOut → Session ItemOut) → ((s : Session ItemOut) → P s → P (f s)) → (ss : List (Session ItemOut)) → AllByRecursion P ss → AllByRecursion P (with_session n f ss)
  all_same n f keeps = all_changed P P n f (λ s here is. keeps s is) (λ s other is. is)

  either : (b : Bool) (x y : List (Session ItemOut)) → AllByRecursion P x → AllByRecursion P y → AllByRecursion P (if b then x else y)
  either true x y first second = first
  either false x y first second = second

  all_resumed : (h k : ℕ) (o : Option (Session ItemOut)) (ss : List (Session ItemOut)) → AllByRecursion P ss → AllByRecursion P (after_resume h k o ss)
  all_resumed h k None ss all = all
  all_resumed h k (Some s) ss all =
      either (is_too_high h s) (without s.shown.number ss) (with_session s.shown.number (resumes h k) ss) (all_left P (λ t. not (t.shown.number == s.shown.number)) ss all)
      (all_same s.shown.number (resumes h k) (λ t is. about t (resumes h k t) refl refl refl refl refl refl is) ss all)

  pub all_parked : (n now : ℕ) (ss : List (Session ItemOut)) → AllByRecursion P ss → AllByRecursion P (with_session n (parked now) ss)
  all_parked n now ss all = all_same n (parked now) (λ t is. about t (parked now t) refl refl refl refl refl refl is) ss all

  -- the server's state but for its connections
  in_conns : (s next other : Step ItemOut) → other.server_state.domain ≡ next.server_state.domain → other.server_state.accounts ≡ next.server_state.accounts → other.server_state.archives ≡ next.server_state.archives → other.server_state.sessions ≡ next.server_state.sessions → other.outs ≡ next.outs → Goes P s next → Goes P s other
  in_conns s next other domain accounts archives sessions outs goes = record {
    domain = domain ∙ goes.domain;
    accounts = accounts ∙ goes.accounts;
    archives = archives ∙ goes.archives;
    sessions = rw sessions goes.sessions;
    told = λ moment. rw outs (goes.told moment);
  }

  pub then_non_stanza : (acts : List (Act ItemOut)) → NonStanza acts → (s next : Step ItemOut) → Goes P s next → Goes P s (acted itself acts next)
  then_non_stanza [] calm s next goes = goes
  then_non_stanza (steps.Say k z ∷ acts) calm s next goes = then_non_stanza acts calm s (put k z next) (then_put P steady k z s next goes)
  then_non_stanza (steps.Close k ∷ acts) calm s next goes = then_non_stanza acts calm s (shut k next) (then_shut P steady k s next goes)
  then_non_stanza (steps.Enter k phase ∷ acts) calm s next goes = then_non_stanza acts calm s (act itself (steps.Enter k phase) next) (in_conns s next (act itself (steps.Enter k phase) next) refl refl refl refl refl goes)
  then_non_stanza (steps.Fail k left ∷ acts) calm s next goes = then_non_stanza acts calm s (act itself (steps.Fail k left) next) (in_conns s next (act itself (steps.Fail k left) next) refl refl refl refl refl goes)
  then_non_stanza (steps.Bind account resource k ∷ acts) calm s next goes = absurd calm
  then_non_stanza (steps.Resume previd account h k ∷ acts) calm s next goes =
      then_non_stanza acts calm s (act itself (steps.Resume previd account h k) next)
      (then_sessions P P (λ ss. after_resume h k (session_resumed previd account ss) ss) (λ ss all. all_resumed h k (session_resumed previd account ss) ss all) s next goes)
  then_non_stanza (steps.Enable n resume ∷ acts) calm s next goes =
      then_non_stanza acts calm s (act itself (steps.Enable n resume) next) (then_changed P steady n (enables resume) (λ t is. about t (enables resume t) refl refl refl refl refl refl is) s next goes)
  then_non_stanza (steps.Acknowledge n h ∷ acts) calm s next goes =
      then_non_stanza acts calm s (act itself (steps.Acknowledge n h) next) (then_changed P steady n (acknowledged h) (λ t is. about t (acknowledged h t) refl refl refl refl refl refl is) s next goes)
  then_non_stanza (steps.Ask n on ∷ acts) calm s next goes =
      then_non_stanza acts calm s (act itself (steps.Ask n on) next) (then_changed P steady n (asks on) (λ t is. about t (asks on t) refl refl refl refl refl refl is) s next goes)
  then_non_stanza (steps.Handle n ∷ acts) calm s next goes =
      then_non_stanza acts calm s (act itself (steps.Handle n) next) (then_changed P steady n handles (λ t is. about t (handles t) refl refl refl refl refl refl is) s next goes)
  then_non_stanza (steps.Present n available priority ∷ acts) calm s next goes = absurd calm
  then_non_stanza (steps.Copy n on ∷ acts) calm s next goes = absurd calm
  then_non_stanza (steps.Send n z ∷ acts) calm s next goes = then_non_stanza acts calm s (act itself (steps.Send n z) next) (then_send P steady (steps.Send n z) tt s next goes)
  then_non_stanza (steps.Archive account e ∷ acts) calm s next goes = absurd calm
  then_non_stanza (steps.Tell from to origin ∷ acts) calm s next goes = absurd calm
