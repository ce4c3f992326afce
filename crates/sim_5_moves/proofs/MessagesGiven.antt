-- Of a message that is taken each device is given what it hears of it in the applications.
use Rattle.std.proofs.Common.{◌≡◌, ℕ, ◌==◌, true, false, List, [], ◌∷◌, ◌++◌, Option, Some, None, map, refl, sym, ap, ap₂, subst, ◌∙◌, if◌then◌else◌}
use Rattle.std.proofs.lemmas.Bool.{and_parts, eqb-true}
use Rattle.std.specs.List.{slice_get}
use Rattle.std.specs.Str.{bytes_eq}
use Rattle.base_lemmas.proofs.Bytes.{same-from_bytes_eq}
use Rattle.srv_state.specs.State.{ServerState}
use Rattle.sim_3_items.specs.Identities.{Identity, Login}
use Rattle.sim_3_items.specs.Servers.{IsRow, IsRowRepresented}
use Rattle.base_io.specs.Names.{is_among}
use Rattle.sim_3_items.specs.Downs.{down_stanza}
use Rattle.sim_3_items.specs.Items.{stanzas_read}
use Rattle.sim_2_links.specs.Events.{seen}
use Rattle.sim_2_links.specs.Views.{Row, View}
use Rattle.sim_2_events.specs.Lists.{IsDevice}
use Rattle.sm_live.specs.Sessions.{Session, is_named, session_named}
use Rattle.sim_5_moves.proofs.MessagesFlags.{hears_alike}
use Rattle.sim_5_moves.proofs.Outcomes.{only_nothing, reads}
use Rattle.sim_5_moves.specs.Done.{acts_on}
use Rattle.sim_5_moves.specs.Hearing.{heard_in, hears_in, only_at, taken_now}
use Rattle.sim_5_moves.specs.Submits.{IsSessionAt, Submits}
use Rattle.cmd_schedule.specs.Contents.{Owned}
use Rattle.sim_3_items.specs.Served.{FlagsRepresent}
use Rattle.sim_1_applications.specs.Devices.{Device, Sessions, Take, last_of}
use Rattle.sim_1_applications.specs.Events.{Around, hears_of, reply}
use Rattle.sim_1_applications.specs.Stanzas.{Submission}
use Rattle.sim_1_applications.specs.Stanzas.Down.{Bounced, Live}
use Rattle.sim_1_applications.specs.Stanzas.Up.{Message}
use Rattle.sim_5_moves.specs.Handled.{IsHeardOf}
use Rattle.sim_4_links_follow.specs.Given.{IsGiven, sends_to}
use Rattle.sim_5_moves.proofs.GivenHere.{ended_row, heard, lives_on, one_short}
use Rattle.sim_5_moves.specs.Recipients.{IsRecipient}
use Rattle.xml_trees.specs.Trees.{Elem}
use Rattle.sim_3_images.proofs.RuleKept.{found_is, numbered_here}
use Rattle.xml_writer.specs.Items.{ItemOut}

module _ {keep : ℕ} {owned : List Owned} {names : List (List ℕ)} {takes : List Take} {h : ServerState ItemOut} {i : ℕ} {o : Owned} {s : Session ItemOut} {m : Submission} {e : Elem} (x : Submits keep owned names takes h i o s m e) (exists : is_among m.to names ≡ true)
    (j : ℕ) (p : Owned) (who : Identity) (logins : ℕ → Login) (v next : View ItemOut) (d : Device) (given : List ItemOut) (last : Sessions) (at : IsRecipient owned names h j p who logins v d) (is : IsGiven (acts_on s h e) given v.row next.row) (device : IsDevice stanzas_read (seen next) last) where
  abbrev t : Take
  t = record { device = i; account = o.account; said = m; moment = h.moment }

  abbrev number : ℕ
  number = last_of (takes ++ t ∷ []) p.account

  abbrev around_it : Around
  around_it = record { accounts = names; first = 0; last = 0; takes = 0 }

  -- what goes to its session
  sent : (u : Session ItemOut) → IsSessionAt owned names h j p u → map down_stanza (sends_to u.shown.number (acts_on s h e)) ≡ (if hears_in t j p u then Live number ∷ [] else [])
  sent u here =
      let new : taken_now names h i o m ≡ t ∷ [] = ap (λ b. if b then t ∷ [] else []) exists in
      let back : reply around_it (Message m) ≡ [] = ap (λ b. if b then [] else Bounced m.epoch m.n ∷ []) exists in
      (reads x around_it j p u here refl).read
      ∙ (λ k. only_at u.shown.number s.shown.number (back k) ++ heard_in (takes ++ new k) (new k) j p u)
      ∙ ap (λ l. l ++ (if hears_in t j p u then Live number ∷ [] else [])) (only_nothing u.shown.number s.shown.number)

  -- what goes to it, by its row
  goes : (r : Row ItemOut) (u : Session ItemOut) → v.row ≡ Some r → session_named who.account who.resource h.sessions ≡ Some u → IsRow r u → map down_stanza (sends_to r.number (acts_on s h e)) ≡ (if hears_of t j d then Live number ∷ [] else [])
  goes r u some named shown =
      let both = and_parts (u.shown.account == who.account) (bytes_eq u.shown.resource who.resource) (found_is (is_named who.account who.resource) h.sessions u named) in
      let account : u.shown.account ≡ who.account = eqb-true u.shown.account who.account both.0 in
      let resource : u.shown.resource ≡ who.resource = same-from_bytes_eq u.shown.resource who.resource both.1 in
      let here : IsSessionAt owned names h j p u = record {
        device = at.device;
        lives = numbered_here (is_named who.account who.resource) h.next 1 h.sessions u x.rule.ascending named;
        account = ap (slice_get names) account ∙ at.account;
        resource = resource ∙ at.resource;
      } in
      let flags : FlagsRepresent u.shown.account u.shown.resource h d.sessions =
      subst (λ a. FlagsRepresent a u.shown.resource h d.sessions) (sym account) (subst (λ l. FlagsRepresent who.account l h d.sessions) (sym resource) at.flags) in
      let found : session_named u.shown.account u.shown.resource h.sessions ≡ Some u = ap₂ (λ a l. session_named a l h.sessions) account resource ∙ named in
      let hears : hears_in t j p u ≡ hears_of t j d = hears_alike t j d p h u at.of_account (lives_on v d.sessions r at.sessions some) flags found in
      ap (λ n. map down_stanza (sends_to n (acts_on s h e))) (sym shown.number) ∙ sent u here ∙ ap (λ b. if b then Live number ∷ [] else []) hears

  by_row : (row : Option (Row ItemOut)) (found : Option (Session ItemOut)) → v.row ≡ row → session_named who.account who.resource h.sessions ≡ found → IsRowRepresented row found → IsGiven (acts_on s h e) given row next.row
      → IsHeardOf (hears_of t j d) number (map down_stanza given) last
  by_row None found none named shown so =
      let away : hears_of t j d ≡ false = ap (λ row. hears_of t j (record d { sessions = record d.sessions { row = row } })) (ended_row v d.sessions at.sessions none) in
      subst (λ b. IsHeardOf b number (map down_stanza given) last) (sym away) (ap (map down_stanza) so.0)
  by_row (Some r) None some named shown so = absurd shown
  by_row (Some r) (Some u) some named shown so = heard (acts_on s h e) given r next last (hears_of t j d) number so device (goes r u some named shown)

  pub message_given : IsHeardOf (hears_of t j d) number (map down_stanza given) last
  message_given = by_row v.row (session_named who.account who.resource h.sessions) refl refl at.server.row is

  -- where its session ends in that step, it was given nothing
  pub message_ended : (r : Row ItemOut) → v.row ≡ Some r → next.row ≡ None → given ≡ []
  message_ended r some gone = by (session_named who.account who.resource h.sessions) refl (subst (λ o. IsRowRepresented o (session_named who.account who.resource h.sessions)) some at.server.row)
    where
      short : IsGiven (acts_on s h e) given (Some r) None
      short = subst (IsGiven (acts_on s h e) given (Some r)) gone (subst (λ o. IsGiven (acts_on s h e) given o next.row) some is)

      by : (found : Option (Session ItemOut)) → session_named who.account who.resource h.sessions ≡ found → IsRowRepresented (Some r) found → given ≡ []
      by None named shown = absurd shown
      by (Some u) named shown = one_short (hears_of t j d) number given short.0 short.1 (sym (ap (map down_stanza) short.2) ∙ goes r u some named shown)
