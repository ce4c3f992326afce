-- What becomes of a submission, taken or not.
use Rattle.std.proofs.Common.{◌≡◌, ℕ, ◌==◌, Bool, true, false, List, [], ◌∷◌, ◌++◌, Option, Some, None, map, refl, sym, ap, subst, ◌∙◌, inl, inr, if◌then◌else◌}
use Rattle.std.proofs.lemmas.Bool.{cases_Bool, eq-eqb, eqb-true, ne_eqb}
use Rattle.std.proofs.lemmas.Option.{same_Some}
use Rattle.std.specs.Prelude.{nat_eq}
use Rattle.mam_archive.specs.Entries.{EntryView}
use Rattle.srv_state.specs.Handling.{counting}
use Rattle.srv_state.specs.State.{ServerState}
use Rattle.srv_state.specs.Steps.{Send}
use Rattle.base_io.specs.Names.{is_among}
use Rattle.sim_5_moves.proofs.AnswersMessages.{archs, as_sent, route, unserved}
use Rattle.sim_5_moves.specs.Heard.{address_in}
use Rattle.sim_5_moves.specs.Sent as answers
use Rattle.sim_5_moves.specs.Sent.{as_it_is}
use Rattle.sim_3_items.proofs.ItemsDown.{bounced_read}
use Rattle.sim_3_items.specs.Meant.{IsOrigin}
use Rattle.sim_3_items.specs.ItemMoves.{step_of, takes_reported}
use Rattle.sim_3_items.specs.ItemWorlds.{Take as Told}
use Rattle.sm_live.specs.Sessions.{Session, session_of, told}
use Rattle.srv_handlers.specs.Messages.{carrying}
use Rattle.sim_5_moves.proofs.Addresses.{normal_to}
use Rattle.sim_5_moves.proofs.Archived.{archives_more, archives_same, taken_here}
use Rattle.sim_5_moves.proofs.Booked.{IsBooked, booked}
use Rattle.sim_5_moves.proofs.Heard.{ReadsAs, carried_reads, reads_none, reads_one}
use Rattle.sim_5_moves.proofs.Marked.{carried_marks}
use Rattle.sim_5_moves.proofs.Rows.{IsKnown, bounce, known_or_not, row_carries, row_refuses, same_sends}
use Rattle.sim_5_moves.proofs.Staying.{ArePassing, carrying_passes, counting_passes, devices_stay}
use Rattle.sim_5_moves.proofs.TakenEntries.{entry_same, take_now}
use Rattle.sim_5_moves.specs.Done.{acts_on, following}
use Rattle.sim_5_moves.specs.Hearing.{heard_in, hears_in, only_at, taken_now}
use Rattle.sim_5_moves.specs.Submits.{IsSessionAt, Submits}
use Rattle.sm_outbox.specs.Submissions.{origin_of}
use Rattle.im_replies.specs.Requests.{bounce_item}
use Rattle.cmd_schedule.specs.Contents.{Owned}
use Rattle.sim_3_items.specs.Served.{ArchivesRepresent, ServerSimulates, take_reported}
use Rattle.sim_1_applications.specs.Devices.{Take, last_of}
use Rattle.sim_1_applications.specs.Events.{Around, reply}
use Rattle.sim_1_applications.specs.Stanzas.{Down, Submission}
use Rattle.sim_1_applications.specs.Stanzas.Down.{Bounced, Live}
use Rattle.sim_1_applications.specs.Stanzas.Up.{Message}
use Rattle.sim_1_applications.specs.Reported.{history_at}
use Rattle.sim_4_links_follow.specs.Given.{sends_to}
use Rattle.law_server.proofs.Marks.{marks}
use Rattle.law_server.specs.Taken.{Taken}
use Rattle.xml_trees.specs.Trees.{Elem}
use Rattle.xml_writer.specs.Items.{ItemOut}

pub only_nothing : (n k : ℕ) → only_at n k [] ≡ []
only_nothing n k = go (n == k)
  where
    none : List Down
    none = []

    go : (b : Bool) → (if b then none else none) ≡ none
    go true = refl
    go false = refl

-- the reply of one who is alone
reads_if : (p : Owned) (history : List EntryView) (b : Bool) (z : ItemOut) (d : Down) → (b ≡ true → ReadsAs p history (z ∷ []) (d ∷ [])) →
    ReadsAs p history ((if b then z ∷ [] else []) ++ []) ((if b then d ∷ [] else []) ++ [])
reads_if p history true z d so = so refl
reads_if p history false z d so = reads_none p history

rendered : (n k : ℕ) → nat_eq k n ≡ (n == k)
rendered n k = elim (cases_Bool (n == k)) [
  | inl same ↦ eq-eqb k n (sym (eqb-true n k same)) ∙ sym same
  | inr other ↦ ne_eqb k n (λ is. absurd (let here = eq-eqb n k (sym is) in let no_way : ⊥ = cc in no_way)) ∙ sym other
]

module _ {keep : ℕ} {owned : List Owned} {names : List (List ℕ)} {takes : List Take} {h : ServerState ItemOut} {i : ℕ} {o : Owned} {s : Session ItemOut} {m : Submission} {e : Elem} (x : Submits keep owned names takes h i o s m e) where
  abbrev take : Take
  take = take_now h i o m

  abbrev new : List Take
  new = taken_now names h i o m

  abbrev next : ServerState ItemOut
  next = (following s h e).server_state

  new_is : (b : Bool) → is_among m.to names ≡ b → new ≡ (if b then take ∷ [] else [])
  new_is b is = ap (λ c. if c then take ∷ [] else []) is

  -- ---- archives, and what is told

  pub all_pass : ArePassing (counting (told s) (acts_on s h e))
  all_pass =
      counting_passes (told s) (acts_on s h e)
      (elim (known_or_not x) [
        | inl known ↦ subst ArePassing (sym (row_carries x known.0 known.1.at known.1.position)) (carrying_passes o.device m (told s) h known.0)
        | inr nobody ↦ subst ArePassing (sym (row_refuses x nobody)) (tt, tt)
      ])

  goes_on : (taken : Option Taken) → IsBooked h taken next (following s h e).outs → (more : List Take) → ArchivesRepresent keep owned names (takes ++ more) next → ServerSimulates keep owned names (takes ++ more) next
  goes_on taken is more archives = record {
    configured = record { domain = is.domain ∙ x.runs.configured.domain; accounts = is.accounts ∙ x.runs.configured.accounts };
    archives = archives;
    many = is.many ∙ x.runs.many;
    sessions = devices_stay owned names (counting (told s) (acts_on s h e)) (step_of h) all_pass x.runs.sessions;
  }

  abbrev RunsAfter : Type 0
  RunsAfter = ServerSimulates keep owned names (takes ++ new) next

  abbrev TellsAfter : Type 0
  TellsAfter = takes_reported h.moment (following s h e).outs ≡ map (take_reported owned) new

  module _ (account : ℕ) (is : IsKnown x account) where
    row : acts_on s h e ≡ carrying as_it_is (as_sent o.device m (told s) h account) (archs o.device m (told s) h account) (route o.device m (told s) h account) h
    row = row_carries x account is.at is.position

    taken_so : IsBooked h (Some (taken_here x account is.at)) next (following s h e).outs
    taken_so = booked (told s) h (acts_on s h e) (Some (taken_here x account is.at)) (ap marks row ∙ carried_marks o.device m (told s) h account)

    runs_taken : RunsAfter
    runs_taken =
        subst (λ more. ServerSimulates keep owned names (takes ++ more) next) (sym (new_is true is.known))
        (goes_on (Some (taken_here x account is.at)) taken_so (take ∷ [])
        (archives_more x account is.at next (following s h e).outs taken_so))

    told_taken : TellsAfter
    told_taken =
        taken_so.notes
        ∙ ap (λ (y : EntryView). let note : Told = record { moment = h.moment; from = y.from; to = y.to; origin = y.origin } in note ∷ []) (entry_same x account)
        ∙ ap (map (take_reported owned)) (sym (new_is true is.known))

  module _ (nobody : is_among m.to names ≡ false) where
    refused : acts_on s h e ≡ Send s.shown.number (bounce x) ∷ []
    refused = row_refuses x nobody

    none_so : IsBooked h None next (following s h e).outs
    none_so = booked (told s) h (acts_on s h e) None (ap marks refused)

    runs_same : RunsAfter
    runs_same =
        subst (λ more. ServerSimulates keep owned names (takes ++ more) next) (sym (new_is false nobody))
        (goes_on None none_so [] (archives_same x next (following s h e).outs none_so))

    told_none : TellsAfter
    told_none = none_so.notes ∙ ap (map (take_reported owned)) (sym (new_is false nobody))

  pub runs_after : ServerSimulates keep owned names (takes ++ new) next
  runs_after = elim (known_or_not x) [ inl known ↦ runs_taken known.0 known.1 | inr nobody ↦ runs_same nobody ]

  pub told_after : takes_reported h.moment (following s h e).outs ≡ map (take_reported owned) new
  told_after = elim (known_or_not x) [ inl known ↦ told_taken known.0 known.1 | inr nobody ↦ told_none nobody ]

  -- ---- what is sent

  module _ (a : Around) (j : ℕ) (p : Owned) (u : Session ItemOut) (v : IsSessionAt owned names h j p u) (same : a.accounts ≡ names) where
    abbrev Reads : List Take → List Down → Type 0
    Reads more replies = ReadsAs p (history_at owned (takes ++ more) p.account) (sends_to u.shown.number (acts_on s h e)) (only_at u.shown.number s.shown.number replies ++ heard_in (takes ++ more) more j p u)

    reply_is : (b : Bool) → is_among m.to names ≡ b → reply a (Message m) ≡ (if b then [] else Bounced m.epoch m.n ∷ [])
    reply_is b is = ap (λ c. if c then [] else Bounced m.epoch m.n ∷ []) (ap (is_among m.to) same ∙ is)

    read_taken : (account : ℕ) → IsKnown x account → Reads new (reply a (Message m))
    read_taken account is =
        let heard = if hears_in take j p u then Live (last_of (takes ++ take ∷ []) p.account) ∷ [] else [] in
        let history = history_at owned (takes ++ take ∷ []) p.account in
        let acts = carrying as_it_is (as_sent o.device m (told s) h account) (archs o.device m (told s) h account) (route o.device m (told s) h account) h in
        let zs : sends_to u.shown.number (acts_on s h e) ≡ answers.sends_to u.shown.number acts = ap (sends_to u.shown.number) (row account is) ∙ same_sends u.shown.number acts in
        subst (λ more. Reads more (reply a (Message m))) (sym (new_is true is.known))
        (subst (Reads (take ∷ [])) (sym (reply_is true is.known))
        (subst (λ ds. ReadsAs p history (sends_to u.shown.number (acts_on s h e)) (ds ++ heard)) (sym (only_nothing u.shown.number s.shown.number))
        (subst (λ l. ReadsAs p history l heard) (sym zs) (carried_reads x account is.at j p u v))))

    -- one session with the number
    device_is : (u.shown.number == s.shown.number) ≡ true → p.device ≡ o.device
    device_is here =
        let number_is : u.shown.number ≡ s.shown.number = eqb-true u.shown.number s.shown.number here in
        let one : u ≡ s = same_Some u s (sym v.lives ∙ ap (λ n. session_of n h.sessions) number_is ∙ x.session.lives) in
        sym v.resource ∙ ap (λ (t : Session ItemOut). t.shown.resource) one ∙ x.session.resource

    read_none : is_among m.to names ≡ false → Reads new (reply a (Message m))
    read_none nobody =
        let history = history_at owned (takes ++ []) p.account in
        let back = Bounced m.epoch m.n in
        let z = bounce x in
        subst (λ more. Reads more (reply a (Message m))) (sym (new_is false nobody))
        (subst (Reads []) (sym (reply_is false nobody))
        (subst (λ acts. ReadsAs p history (sends_to u.shown.number acts) (only_at u.shown.number s.shown.number (back ∷ []) ++ [])) (sym (refused nobody))
        (subst (λ b. ReadsAs p history ((if b then z ∷ [] else []) ++ []) (only_at u.shown.number s.shown.number (back ∷ []) ++ [])) (sym (rendered u.shown.number s.shown.number))
        (reads_if p history (u.shown.number == s.shown.number) z back
        (λ here. reads_one p history z back (bounced_read (address_in m h) o.device m.epoch m.n unserved x.said.origin) (record {
          from = address_in m h;
          error = unserved;
          is = ap (λ d. bounce_item (address_in m h) (origin_of d m.epoch m.n) unserved) (sym (device_is here));
          address = normal_to x;
          origin = subst (λ d. IsOrigin d m.epoch m.n) (sym (device_is here)) x.said.origin;
        }))))))

    pub reads : Reads new (reply a (Message m))
    reads = elim (known_or_not x) [ inl known ↦ read_taken known.0 known.1 | inr nobody ↦ read_none nobody ]
