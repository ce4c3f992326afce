-- A binding (RFC 6120, section 7) leaves other devices: the older session that ends is of the device itself.
use Rattle.std.proofs.Common.{◌≡◌, ℕ, ◌+◌, ◌<◌, ◌^◌, not, [], ◌∷◌, ◌++◌, Option, Some, None, codes, refl, sym, ap, subst, ◌∙◌}
use Rattle.std.proofs.lemmas.Bool.{eq-eqb}
use Rattle.std.specs.Option.{option_map}
use Rattle.std.specs.Result.{result_ok}
use Rattle.srv_state.specs.State.{ServerState, Step, full_address, with_sessions}
use Rattle.srv_state.specs.Steps.{Say, acted}
use Rattle.srv_state.specs.Streams.{parting_where, standing_of}
use Rattle.srv_state.specs.Words.{is_long}
use Rattle.srv_state.specs.declared.connection.Phase.TheVariants as phase
use Rattle.srv_state.specs.declared.connection.Standing.{Standing}
use Rattle.srv_state.specs.declared.connection.Tries.TheVariants as tries
use Rattle.srv_state.specs.declared.word.Word.TheVariants as word
use Rattle.sim_3_items.specs.Identities.{Identity, Login}
use Rattle.sim_3_items.specs.Sent.{sent}
use Rattle.sim_3_items.specs.Servers.{ServerFollows}
use Rattle.sim_3_items.specs.WordItems.{up_item}
use Rattle.xml_framer.specs.declared.items.Item.TheVariants as item
use Rattle.sim_3_items.specs.ItemMoves.{step_of}
use Rattle.sim_3_items.specs.ItemPipes.{ItemWire, handed_up}
use Rattle.sim_3_items.specs.ItemWorlds.{itself}
use Rattle.sim_2_links.proofs.Expected.{expected_up}
use Rattle.sim_2_links.specs.Links.{LinkKept}
use Rattle.sim_2_links.specs.Views.{Table, View, on_phase, with_at}
use Rattle.sim_2_links.specs.Words.{Bind, Ready}
use Rattle.sm_live.specs.Sessions.{Session, ended_of, fresh, is_at, is_named, less, session_at, session_named, told, without}
use Rattle.sim_4_links_follow.proofs.Acts.{Stays, ended_stays, leave_nothing, leave_parting, leave_say, left_out}
use Rattle.sim_4_links_follow.proofs.OthersElsewhere.{none_elsewhere}
use Rattle.sim_4_links_follow.proofs.Parted.{conn_not, former_not, kept_beside, session_not, stays_follow}
use Rattle.sim_4_links_follow.proofs.Pushing.{pushed_stays}
use Rattle.sim_4_links_follow.specs.OtherDevices.{IsOtherDevice}
use Rattle.im_replies.specs.Requests.{bound_item}
use Rattle.im_replies.specs.Streams.{error_item}
use Rattle.im_replies.specs.declared.conditions.StreamCondition.TheVariants as stream
use Rattle.sim_4_links_follow.proofs.BindReads.{bind_elem, bind_word, resource_asked, resource_chosen}
use Rattle.sim_3_images.proofs.RuleKept.{found_is, named_gone, none_left, numbered_here}
use Rattle.sim_4_links_follow.proofs.HandMoves.{kept_here, row_here, wire_here}
use Rattle.sim_4_links_follow.proofs.Leavings.{unseated}
use Rattle.sim_4_links_follow.specs.Taking.{IsFirst, IsLeft, on_item}
use Rattle.srv_handlers.specs.Bindings.{binding_as, chosen, former_of}
use Rattle.im_stanza.specs.Readings.{stanza_of}
use Rattle.srv_core.specs.Ready.{at_ready_or_bound}
use Rattle.xml_writer.specs.Items.{ItemOut}

module _ (who : Identity) (logins : ℕ → Login) (h : ServerState ItemOut) (wires : Table ItemWire) (v : View ItemOut) (k : ℕ) (p : IsFirst who logins h wires v k Bind) where
  abbrev kept : LinkKept v
  kept = kept_here who logins h wires v k Bind p

  ready : p.conn.phase ≡ Ready
  ready = expected_up v k p.conn Bind p.rest kept p.is p.first

  abbrev none_here : session_at k h.sessions ≡ None
  none_here = unseated who logins h v kept p.server k p.conn p.is (ap (λ q. on_phase q p.conn.ending p.conn.gone) ready)

  abbrev standing : Standing
  standing = standing_of (record { entropy = (logins k).yours; phase = phase.Ready who.account; tries = tries.Three })

  -- the server binds
  pub bind_step : on_item k (up_item who (logins k) Bind) h ≡ acted itself (binding_as itself k who.account (codes "bind") (Some who.resource) h) (step_of h)
  bind_step =
      row_here who logins h wires v k Bind p Ready (item.Element (bind_elem who.resource)) ready
      ∙ ap (λ w. acted itself (at_ready_or_bound itself k who.account w (option_map told (session_at k h.sessions)) standing h) (step_of h)) (bind_word who.resource)
      ∙ ap (λ o. acted itself (at_ready_or_bound itself k who.account (word.Stanza (is_long (bind_elem who.resource)) (stanza_of (bind_elem who.resource))) (option_map told o) standing h) (step_of h)) none_here
      ∙ ap (λ r. acted itself (binding_as itself k who.account (codes "bind") (result_ok (chosen h.next r)) h) (step_of h)) (resource_asked who.resource)
      ∙ ap (λ r. acted itself (binding_as itself k who.account (codes "bind") (result_ok r) h) (step_of h)) (resource_chosen h.next who.resource p.normal.chosen p.normal.resource)

  module _ (whom : Identity) (others : ℕ → Login) (u : View ItemOut) (fits : h.next + 1 < 2 ^ 64) (beside : IsOtherDevice who whom others h wires u) where
    abbrev linked : LinkKept u
    linked = kept_beside who whom logins others h wires v u p.server p.pipes beside

    abbrev off : u.conns k ≡ None
    off = conn_not who whom logins others h wires v u p.server p.pipes beside k p.conn p.is

    -- where this is the older session with the device's name
    abbrev bound_so : Option (Session ItemOut) → Step ItemOut
    bound_so o = record { server_state = record h { sessions = less o h.sessions ++ fresh h.next who.account who.resource k ∷ []; next = h.next + 1 }; outs = [] }

    bound_stays : (o : Option (Session ItemOut)) → session_named who.account who.resource h.sessions ≡ o → Stays whom others u linked (bound_so o)
    bound_stays None is = record { server = pushed_stays who whom others h u beside.apart beside.reached beside.server k off none_here is fits; outs = none_elsewhere u }
    bound_stays (Some s) is =
        let n = s.shown.number in
        let numbered = numbered_here (is_named who.account who.resource) h.next 1 h.sessions s p.server.server_state.sessions.ascending is in
        let named = found_is (is_named who.account who.resource) h.sessions s is in
        let not_of = session_not who whom logins others h wires v u p.server p.pipes beside s numbered named in
        let ended = ended_stays whom others u linked n h not_of beside.server in
        let seat = none_left (is_at k) (left_out whom others u linked n) h.sessions none_here in
        let name = named_gone (left_out whom others u linked n) who.account who.resource h.next h.sessions s p.server.server_state.sessions is (ap not (eq-eqb n n refl)) in
        record { server = pushed_stays who whom others (with_sessions (without n h.sessions) h) u beside.apart beside.reached ended k off seat name fits; outs = none_elsewhere u }

    abbrev following : Option (Session ItemOut) → Step ItemOut
    following o = acted itself (parting_where itself (former_of (option_map ended_of o)) (error_item stream.Conflict) (Say k (bound_item (codes "bind") (full_address who.account who.resource h)) ∷ [])) (bound_so o)

    after_stays : (o : Option (Session ItemOut)) → session_named who.account who.resource h.sessions ≡ o → Stays whom others u linked (following o)
    after_stays o is =
        leave_parting whom others u linked (former_of (option_map ended_of o)) (error_item stream.Conflict) (Say k (bound_item (codes "bind") (full_address who.account who.resource h)) ∷ []) (former o is)
        (leave_say whom others u linked k (bound_item (codes "bind") (full_address who.account who.resource h)) [] off (leave_nothing whom others u linked)) (bound_so o) (bound_stays o is)
      where
        former : (q : Option (Session ItemOut)) → session_named who.account who.resource h.sessions ≡ q → (f : ℕ) → former_of (option_map ended_of q) ≡ Some f → u.conns f ≡ None
        former None found f on = absurd (let no_way : ⊥ = cc in no_way)
        former (Some s) found f on = former_not who whom logins others h wires v u p.server p.pipes beside kept s found f on

    pub bind_stays : IsLeft who whom logins others h wires u k p.wire Bind
    bind_stays =
        subst (λ (s : Step ItemOut). ServerFollows whom others s.server_state (sent s.outs (with_at k (handed_up p.wire) wires)) u []) (sym bind_step)
        (stays_follow whom others wires u linked k p.wire (following (session_named who.account who.resource h.sessions)) beside.pipes off (λ its. beside.apart.position (sym its ∙ (wire_here who logins h wires v k Bind p).of))
        (after_stays (session_named who.account who.resource h.sessions) refl))
