-- Behind a binding the server runs on.
use Rattle.std.proofs.Common.{◌≡◌, ◌≢◌, ℕ, ◌==◌, not, Bool, true, false, List, [], ◌∷◌, ◌++◌, Option, Some, None, codes, filter, refl, sym, ap, subst, ◌∙◌, if◌then◌else◌}
use Rattle.std.proofs.lemmas.Bool.{and_parts, eq-eqb, eqb-true, false≢true, not-true}
use Rattle.std.proofs.lemmas.Option.{same_Some}
use Rattle.std.specs.List.{AllByRecursion}
use Rattle.std.specs.Option.{option_map}
use Rattle.std.specs.Result.{result_ok}
use Rattle.std.specs.Str.{bytes_eq}
use Rattle.base_lemmas.proofs.Bytes.{same-from_bytes_eq}
use Rattle.srv_state.specs.State.{ServerState, Step, full_address}
use Rattle.srv_state.specs.Steps.{Act, Bind, Say, act, acted}
use Rattle.srv_state.specs.Streams.{parting_where, standing_of}
use Rattle.srv_state.specs.Words.{is_long, word_of}
use Rattle.srv_state.specs.declared.word.Word.TheVariants as word
use Rattle.im_extensions.specs.Bind.{bind_request_elem}
use Rattle.sim_3_items.specs.ItemMoves.{step_of, takes_reported}
use Rattle.sim_3_items.specs.ItemWorlds.{itself, read_of}
use Rattle.sim_4_links_follow.proofs.BindReads.{resource_asked, resource_chosen}
use Rattle.sm_live.specs.Rule.{IsRule}
use Rattle.sm_live.specs.Sessions.{Session, ended_of, fresh, is_named, less, session_named, session_of, told}
use Rattle.im_replies.specs.Requests.{bound_item}
use Rattle.im_replies.specs.Streams.{error_item}
use Rattle.im_replies.specs.declared.conditions.StreamCondition.TheVariants.{Conflict}
use Rattle.sim_5_moves.proofs.Effects.{Owns, runs_on}
use Rattle.sim_5_moves.proofs.RepliesFlags.{all_are_found, none_passes, the_named}
use Rattle.sim_5_moves.proofs.Walks.{Goes, all_left, all_weaker}
use Rattle.im_requests.specs.Sessions.{bind_item, setting_elem}
use Rattle.cmd_schedule.specs.Contents.{Owned}
use Rattle.srv_core.specs.Table.{at_open, at_word}
use Rattle.sim_5_moves.proofs.Flagged.{Flagged, FlaggedAs, flagged_about, flags_begin, flags_end, owns_about}
use Rattle.sim_5_moves.proofs.NonStanzaActs.{IsAbout, then_non_stanza}
use Rattle.sim_5_moves.proofs.NonStanzaRows.{non_stanza_parting}
use Rattle.sim_5_moves.proofs.Mutes.{all_any}
use Rattle.sim_5_moves.specs.Coming.{MayBind, behind_item}
use Rattle.srv_handlers.specs.Bindings.{binding_as, chosen, former_of}
use Rattle.sim_3_items.specs.Served.{FlagsRepresent, IsOfDevice, ServerSimulates}
use Rattle.sim_1_applications.specs.Devices.{Sessions, Take}
use Rattle.sim_1_applications.specs.Events.{binds}
use Rattle.im_stanza.specs.Readings.{stanza_of}
use Rattle.srv_core.specs.Ready.{at_ready, at_ready_or_bound}
use Rattle.xml_trees.specs.Trees.{Elem, child, no_nodes}
use Rattle.xml_writer.specs.Items.{ItemOut}

-- ---- what is read of it

abbrev bind_elem : List ℕ → Elem
bind_elem resource = setting_elem (codes "bind") (child (bind_request_elem (record { resource = resource })) no_nodes)

bind_word : (resource : List ℕ) → word_of (bind_elem resource) ≡ word.Stanza (is_long (bind_elem resource)) (stanza_of (bind_elem resource))
unfolding word_of
bind_word resource = refl

-- ---- sessions

all_pushed : (Q : Session ItemOut → Type 0) (f : Session ItemOut) → Q f → (ss : List (Session ItemOut)) → AllByRecursion Q ss → AllByRecursion Q (ss ++ f ∷ [])
all_pushed Q f is [] all = (is, tt)
all_pushed Q f is (s ∷ ss) all = (all.0, all_pushed Q f is ss all.1)

module _ (P Q : Session ItemOut → Type 0) (q : Session ItemOut → Bool) (stays : (t : Session ItemOut) → q t ≡ true → P t → Q t) where
  one_where : (t : Session ItemOut) (b : Bool) → q t ≡ b → (ts : List (Session ItemOut)) → P t → AllByRecursion Q ts → AllByRecursion Q (if b then t ∷ ts else ts)
  one_where t true is ts p all = (stays t is p, all)
  one_where t false is ts p all = all

  all_where : (ts : List (Session ItemOut)) → AllByRecursion P ts → AllByRecursion Q (filter q ts)
  all_where [] all = tt
  all_where (t ∷ ts) all = one_where t (q t) refl (filter q ts) all.0 (all_where ts all.1)

all_less : (P : Session ItemOut → Type 0) (found : Option (Session ItemOut)) (ss : List (Session ItemOut)) → AllByRecursion P ss → AllByRecursion P (less found ss)
all_less P None ss all = all
all_less P (Some s) ss all = all_left P (λ t. not (t.shown.number == s.shown.number)) ss all

module _ (account : ℕ) (resource : List ℕ) (h : ServerState ItemOut) (rule : IsRule h.sessions h.next) where
  -- no session with the name is left
  abbrev IsFound : Session ItemOut → Type 0
  IsFound t = session_of t.shown.number h.sessions ≡ Some t

  none_named : (found : Option (Session ItemOut)) → session_named account resource h.sessions ≡ found → AllByRecursion (Flagged account resource false false) (less found h.sessions)
  none_named None none =
      all_weaker IsFound (Flagged account resource false false) (λ t there. λ named. absurd (none_passes (is_named account resource) t.shown.number h.sessions t none there named)) h.sessions (all_are_found account resource h rule)
  none_named (Some s) is =
      all_where IsFound (Flagged account resource false false) (λ t. not (t.shown.number == s.shown.number))
      (λ t other there. λ named.
      (let same : t ≡ s = same_Some t s (sym (the_named account resource h rule t there named) ∙ is) in
      absurd (false≢true (sym (not-true (t.shown.number == s.shown.number) other) ∙ eq-eqb t.shown.number s.shown.number (ap (λ (u : Session ItemOut). u.shown.number) same)))))
      h.sessions (all_are_found account resource h rule)

-- ---- the row

module _ (owned : List Owned) (names : List (List ℕ)) (k account : ℕ) (o : Owned) (h : ServerState ItemOut) (may : MayBind owned names k account o h) where
  abbrev resource : List ℕ
  resource = o.device

  abbrev rest : List (Act ItemOut)
  rest = parting_where itself (former_of (option_map ended_of (session_named account resource h.sessions))) (error_item Conflict) (Say k (bound_item (codes "bind") (full_address account resource h)) ∷ [])

  abbrev first : Step ItemOut
  first = act itself (Bind account resource k) (step_of h)

  after_is : behind_item k (bind_item resource) h ≡ acted itself rest first
  after_is =
      let st = standing_of may.conn in
      let e = bind_elem resource in
      let acts =
      ap (λ c. at_open itself k (read_of (bind_item resource)) (option_map standing_of c) h) may.open_one
      ∙ ap (λ g. at_word itself k (word_of e) g st h) may.ready
      ∙ ap (λ s. at_ready_or_bound itself k account (word_of e) (option_map told s) st h) may.free
      ∙ ap (λ w. at_ready itself k account w st h) (bind_word resource)
      ∙ ap (λ r. binding_as itself k account (codes "bind") (result_ok (chosen h.next r)) h) (resource_asked resource)
      ∙ ap (λ r. binding_as itself k account (codes "bind") (result_ok r) h) (resource_chosen h.next resource may.some may.normal) in
      ap (λ row. acted itself row (step_of h)) acts

  bind_goes : (Q : Session ItemOut → Type 0) → IsAbout Q → AllByRecursion Q (less (session_named account resource h.sessions) h.sessions) → Q (fresh h.next account resource k) → Goes Q (step_of h) (behind_item k (bind_item resource) h)
  bind_goes Q about others here =
      let goes : Goes Q (step_of h) first = record {
        domain = refl;
        accounts = refl;
        archives = refl;
        sessions = all_pushed Q (fresh h.next account resource k) here (less (session_named account resource h.sessions) h.sessions) others;
        told = λ moment. refl;
      } in
      subst (Goes Q (step_of h)) (sym after_is)
      (then_non_stanza Q about rest (non_stanza_parting (former_of (option_map ended_of (session_named account resource h.sessions))) (error_item Conflict) (Say k (bound_item (codes "bind") (full_address account resource h)) ∷ []) tt) (step_of h) first goes)

  pub bind_runs : (keep : ℕ) (takes : List Take) → ServerSimulates keep owned names takes h → ServerSimulates keep owned names takes (behind_item k (bind_item resource) h).server_state
  bind_runs keep takes runs =
      let P = Owns keep owned names in
      let here : IsOfDevice owned names (fresh h.next account resource k) = record { position = may.position; device = o; there = may.there; account = may.named; resource = refl } in
      let goes = bind_goes P (owns_about keep owned names) (all_less P (session_named account resource h.sessions) h.sessions runs.sessions) here in
      runs_on keep owned names takes h (behind_item k (bind_item resource) h).server_state goes.domain goes.accounts goes.archives goes.sessions runs

  pub bind_silent : (moment : ℕ) → takes_reported moment (behind_item k (bind_item resource) h).outs ≡ []
  bind_silent moment = (bind_goes (λ s. Unit {0}) (λ s t number accounts resources available carbons priority is. tt) (all_any (less (session_named account resource h.sessions) h.sessions)) tt).told moment

  pub bind_flags : (d : Sessions) → IsRule h.sessions h.next → FlagsRepresent account resource (behind_item k (bind_item resource) h).server_state (binds d)
  bind_flags d rule = λ live t found.
      let Q = Flagged account resource false false in
      let goes = bind_goes Q (flagged_about account resource false false) (none_named account resource h rule (session_named account resource h.sessions) refl) (λ named. (refl, refl, refl)) in
      flags_end account resource false false (behind_item k (bind_item resource) h).server_state.sessions goes.sessions t found

  pub bind_spares : (other : ℕ) (text : List ℕ) (d : Sessions) → IsRule h.sessions h.next → (account ≡ other → resource ≢ text) → FlagsRepresent other text h d → FlagsRepresent other text (behind_item k (bind_item resource) h).server_state d
  bind_spares other text d rule apart represents = λ live t found.
      let P = FlaggedAs other text d in
      let here : P (fresh h.next account resource k) =
      λ named. (let both = and_parts (account == other) (bytes_eq resource text) named in absurd (apart (eqb-true account other both.0) (same-from_bytes_eq resource text both.1))) in
      let goes = bind_goes P (flagged_about other text _ _) (all_less P (session_named account resource h.sessions) h.sessions (flags_begin other text h d rule live represents)) here in
      flags_end other text _ _ (behind_item k (bind_item resource) h).server_state.sessions goes.sessions t found
