-- Behind a binding the device's session is one that isn't counted.
use Rattle.std.proofs.Common.{◌≡◌, ℕ, ◌==◌, not, Bool, true, false, List, [], ◌∷◌, Option, None, Some, codes, refl, sym, ap, subst, ◌∙◌, inl, inr}
use Rattle.std.proofs.lemmas.Bool.{cases_Bool, eq-eqb, false≢true}
use Rattle.std.proofs.lemmas.Option.{none-some}
use Rattle.std.specs.List.{AllByRecursion, find}
use Rattle.std.specs.Option.{option_map}
use Rattle.srv_state.specs.State.{ServerState, Step, full_address}
use Rattle.srv_state.specs.Steps as steps
use Rattle.srv_state.specs.Steps.{Say, act, acted, put, shut}
use Rattle.srv_state.specs.Streams.{parting_where, standing_of}
use Rattle.srv_state.specs.declared.connection.Phase.TheVariants as phase
use Rattle.srv_state.specs.declared.connection.Standing.{Standing}
use Rattle.srv_state.specs.declared.connection.Tries.TheVariants as tries
use Rattle.srv_state.specs.declared.word.Word.TheVariants as word
use Rattle.sim_3_items.specs.Identities.{Identity, Login}
use Rattle.sim_3_items.specs.WordItems.{up_item}
use Rattle.xml_framer.specs.declared.items.Item.TheVariants as item
use Rattle.sim_3_items.specs.ItemMoves.{step_of}
use Rattle.sim_3_items.specs.ItemPipes.{ItemWire}
use Rattle.sim_3_items.specs.ItemWorlds.{itself}
use Rattle.sim_2_links.proofs.Expected.{expected_up}
use Rattle.sim_2_links.specs.Links.{LinkKept}
use Rattle.sim_2_links.specs.Views.{Table, View, on_phase, session_on}
use Rattle.sim_2_links.specs.Words.{Bind, Ready}
use Rattle.sm_live.specs.Sessions.{Session, ended_of, fresh, is_named, less, session_at, session_named, told}
use Rattle.sim_5_moves.specs.Silent.{IsFresh}
use Rattle.im_replies.specs.Requests.{bound_item}
use Rattle.im_replies.specs.Streams.{error_item}
use Rattle.im_replies.specs.declared.conditions.StreamCondition.TheVariants.{Conflict}
use Rattle.sim_5_moves.proofs.RepliesFlags.{found_has}
use Rattle.sim_5_moves.proofs.Walks.{Goes, IsSteady, then_put, then_shut}
use Rattle.sim_4_links_follow.proofs.HandMoves.{kept_here}
use Rattle.sim_4_links_follow.proofs.Leavings.{unseated}
use Rattle.sim_4_links_follow.proofs.Binds.{bind_step}
use Rattle.sim_3_images.proofs.RuleKept.{named_gone}
use Rattle.sim_4_links_follow.specs.Taking.{IsFirst, on_item}
use Rattle.srv_handlers.specs.Bindings.{former_of}
use Rattle.sim_1_applications.proofs.Lists.{all_append}
use Rattle.sim_5_moves.specs.WordsRunWords.{IsBare}
use Rattle.xml_writer.specs.Items.{Closing, ItemOut}

-- where none passes a test, all are as one that doesn't
unpassed : (P : Session ItemOut → Type 0) (q : Session ItemOut → Bool) → ((s : Session ItemOut) → q s ≡ false → P s) → (ss : List (Session ItemOut)) → find q ss ≡ None → AllByRecursion P ss
unpassed P q each [] none = tt
unpassed P q each (s ∷ ss) none = elim (cases_Bool (q s)) [
  | inl passed ↦ absurd (none-some s (sym (rw passed at none)))
  | inr failed ↦ (each s failed, unpassed P q each ss (rw failed at none))
]

abbrev IsUncounted : ℕ → List ℕ → Session ItemOut → Type 0
IsUncounted account resource s = is_named account resource s ≡ true → s.shown.counted ≡ false

steady : (account : ℕ) (resource : List ℕ) → IsSteady (IsUncounted account resource)
steady account resource = record { waiting = λ z s is. is; asked = λ on s is. is; handled = λ s is. is }

-- the older session's connection is told, and then the new one's
parting_goes : (account : ℕ) (resource : List ℕ) (k : ℕ) (o : Option ℕ) (error z : ItemOut) (s next : Step ItemOut) → Goes (IsUncounted account resource) s next
    → Goes (IsUncounted account resource) s (acted itself (parting_where itself o error (Say k z ∷ [])) next)
parting_goes account resource k None error z s next goes = then_put (IsUncounted account resource) (steady account resource) k z s next goes
parting_goes account resource k (Some f) error z s next goes =
    let P = IsUncounted account resource in
    let ready = steady account resource in
    then_put P ready k z s (shut f (put f Closing (put f error next)))
    (then_shut P ready f s (put f Closing (put f error next)) (then_put P ready f Closing s (put f error next) (then_put P ready f error s next goes)))

module _ (who : Identity) (logins : ℕ → Login) (h : ServerState ItemOut) (wires : Table ItemWire) (v : View ItemOut) (k : ℕ) (p : IsFirst who logins h wires v k Bind) where
  abbrev kept : LinkKept v
  kept = kept_here who logins h wires v k Bind p

  ready : p.conn.phase ≡ Ready
  ready = expected_up v k p.conn Bind p.rest kept p.is p.first

  off : session_on p.conn ≡ None
  off = ap (λ q. on_phase q p.conn.ending p.conn.gone) ready

  pub none_here : session_at k h.sessions ≡ None
  none_here = unseated who logins h v kept p.server k p.conn p.is off

  abbrev standing : Standing
  standing = standing_of (record { entropy = (logins k).yours; phase = phase.Ready who.account; tries = tries.Three })

  abbrev IsNew : Session ItemOut → Type 0
  IsNew = IsUncounted who.account who.resource

  abbrev older : List (Session ItemOut)
  older = less (session_named who.account who.resource h.sessions) h.sessions

  none_named : (o : Option (Session ItemOut)) → session_named who.account who.resource h.sessions ≡ o → session_named who.account who.resource (less o h.sessions) ≡ None
  none_named None is = is
  none_named (Some s) is =
      named_gone (λ t. not (t.shown.number == s.shown.number)) who.account who.resource h.next h.sessions s p.server.server_state.sessions is (ap not (eq-eqb s.shown.number s.shown.number refl))

  older_new : AllByRecursion IsNew older
  older_new =
      unpassed IsNew (is_named who.account who.resource) (λ s failed named. absurd (false≢true (sym failed ∙ named))) older
      (none_named (session_named who.account who.resource h.sessions) refl)

  abbrev first : Step ItemOut
  first = act itself (steps.Bind who.account who.resource k) (step_of h)

  first_goes : Goes IsNew (step_of h) first
  first_goes = record {
    domain = refl;
    accounts = refl;
    archives = refl;
    sessions = all_append IsNew older (fresh h.next who.account who.resource k ∷ []) older_new ((λ named. refl), tt);
    told = λ moment. refl;
  }

  bind_goes : Goes IsNew (step_of h) (on_item k (up_item who (logins k) Bind) h)
  bind_goes =
      subst (Goes IsNew (step_of h)) (sym (bind_step who logins h wires v k p))
      (parting_goes who.account who.resource k (former_of (option_map ended_of (session_named who.account who.resource h.sessions))) (error_item Conflict) (bound_item (codes "bind") (full_address who.account who.resource h)) (step_of h) first first_goes)

  uncounted : (s : Session ItemOut) → session_named who.account who.resource (on_item k (up_item who (logins k) Bind) h).server_state.sessions ≡ Some s → s.shown.counted ≡ false
  uncounted s found = let has = found_has IsNew (is_named who.account who.resource) (on_item k (up_item who (logins k) Bind) h).server_state.sessions s bind_goes.sessions found in has.0 has.1

  pub bound_fresh : IsBare who.account who.resource (on_item k (up_item who (logins k) Bind) h).server_state → IsFresh who.account who.resource (on_item k (up_item who (logins k) Bind) h).server_state
  bound_fresh bare = λ s found. let flags = bare s found in (flags.0, flags.1, flags.2, uncounted s found)
