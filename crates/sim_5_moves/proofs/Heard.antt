-- What is sent to a session is read as what it hears.
use Rattle.std.proofs.Common.{◌≡◌, ℕ, ◌+◌, ◌⊎◌, ◌==◌, ◌&&◌, ◌||◌, not, Bool, true, false, cond, List, [], ◌∷◌, ◌++◌, Some, None, Ok, filter, length, map, refl, sym, ap, ap₂, subst, ◌∙◌, arith, inl, inr, if◌then◌else◌}
use Rattle.std.proofs.lemmas.Bool.{and_parts, cases_Bool, eq-eqb, eqb-true, false≢true, or_left, or_right}
use Rattle.std.proofs.lemmas.List.{map-append}
use Rattle.std.proofs.lemmas.Option.{same_Some}
use Rattle.std.specs.List.{AllByRecursion, list_any, slice_get}
use Rattle.std.specs.Option.{option_map}
use Rattle.std.specs.Str.{bytes_eq}
use Rattle.mam_archive.specs.Entries.{EntryView}
use Rattle.base_lemmas.proofs.Bytes.{bytes_eq-self}
use Rattle.srv_state.specs.State.{ServerState, archive_at, session_address}
use Rattle.im_forwarding.specs.Copies.{copy_item}
use Rattle.im_forwarding.specs.Passed.{passed_item}
use Rattle.sim_4_links_follow.proofs.Own.{twice_left}
use Rattle.sim_5_moves.proofs.Carried.{copied, copied_to, delivered, delivered_to}
use Rattle.sim_5_moves.proofs.HearingSums.{where_so}
use Rattle.sim_5_moves.proofs.AnswersMessages.{archs, as_read, as_sent, copied_is, in_archives, is_delivered, route, sends, summed, wants, went}
use Rattle.sim_5_moves.proofs.Picks.{among, if_passes}
use Rattle.sim_5_moves.specs.Sent as answers
use Rattle.sim_5_moves.specs.Sent.{as_it_is}
use Rattle.sim_3_items.proofs.ItemsDown.{copied_read, passed_read}
use Rattle.sim_3_items.specs.Downs.{down_stanza}
use Rattle.sim_3_items.specs.Meant.{IsEntryNumber, IsSubmitted}
use Rattle.sm_live.specs.Sessions.{Session, info_of, is_of, number_of, session_of, told}
use Rattle.srv_handlers.specs.Messages.{carrying, copy_for, number_after, number_in}
use Rattle.im_jid.specs.Normal.{normal}
use Rattle.sim_5_moves.proofs.Addresses.{normal_to}
use Rattle.sim_5_moves.proofs.Archived.{is_named, same_name}
use Rattle.sim_5_moves.proofs.Positions.{bare_is, full_is}
use Rattle.sim_5_moves.proofs.TakenEntries.{take_now}
use Rattle.sim_5_moves.specs.Hearing.{hears_in}
use Rattle.sim_5_moves.specs.Submits.{IsSessionAt, Submits}
use Rattle.sm_outbox.specs.Submissions.{origin_of}
use Rattle.cmd_report.specs.Addresses as report
use Rattle.srv_route.specs.Messages.{is_copied}
use Rattle.srv_route.specs.Plans.{is_ready, ready_of}
use Rattle.cmd_schedule.specs.Contents.{Owned}
use Rattle.sim_3_items.specs.Built.{IsDown, IsDownAs}
use Rattle.sim_3_items.proofs.FullAddresses.{full_normal}
use Rattle.sim_1_applications.proofs.Archives.{last_grows}
use Rattle.sim_1_applications.specs.Devices.{Take, concerns, last_of}
use Rattle.sim_1_applications.specs.Stanzas.{Down, Submission}
use Rattle.sim_1_applications.specs.Stanzas.Down.{Live}
use Rattle.sim_1_applications.proofs.Rendered.{history_few, history_long}
use Rattle.sim_1_applications.specs.Reported.{history_at}
use Rattle.im_stanza.specs.Views.{MessageView}
use Rattle.xml_trees.specs.Trees.{Elem}
use Rattle.xml_writer.specs.Items.{ItemOut}
use Rattle.mam_log.proofs.Orders.{bytes_eq-sym}

-- ---- items that are read as stanzas, and are built as they are read

pub record ReadsAs (p : Owned) (history : List EntryView) (zs : List ItemOut) (ds : List Down) : Type 0 where
  pub read : map down_stanza zs ≡ ds
  pub built : AllByRecursion (IsDown p history) zs

module _ (p : Owned) (history : List EntryView) where
  pub reads_none : ReadsAs p history [] []
  reads_none = record { read = refl; built = tt }

  pub reads_one : (z : ItemOut) (d : Down) → down_stanza z ≡ d → IsDownAs p history d z → ReadsAs p history (z ∷ []) (d ∷ [])
  reads_one z d is so = record { read = ap (λ x. x ∷ []) is; built = (subst (λ x. IsDownAs p history x z) (sym is) so, tt) }

  pub reads_where : (b : Bool) (zs : List ItemOut) (ds : List Down) → (b ≡ true → ReadsAs p history zs ds) → ReadsAs p history (where_so b zs) (where_so b ds)
  reads_where true zs ds so = so refl
  reads_where false zs ds so = reads_none

  all_both : (xs ys : List ItemOut) → AllByRecursion (IsDown p history) xs → AllByRecursion (IsDown p history) ys → AllByRecursion (IsDown p history) (xs ++ ys)
  all_both [] ys a b = b
  all_both (x ∷ xs) ys a b = (a.0, all_both xs ys a.1 b)

  pub reads_both : (xs ys : List ItemOut) (ds es : List Down) → ReadsAs p history xs ds → ReadsAs p history ys es → ReadsAs p history (xs ++ ys) (ds ++ es)
  reads_both xs ys ds es a b = record {
    read = map-append down_stanza xs ys ∙ (λ i. a.read i ++ b.read i);
    built = all_both xs ys a.built b.built;
  }

-- ---- tests

module _ {keep : ℕ} {owned : List Owned} {names : List (List ℕ)} {takes : List Take} {h : ServerState ItemOut} {i : ℕ} {o : Owned} {s : Session ItemOut} {m : Submission} {e : Elem} (x : Submits keep owned names takes h i o s m e) (account : ℕ) (at : slice_get names account ≡ Some m.to) (j : ℕ) (p : Owned) (u : Session ItemOut) (v : IsSessionAt owned names h j p u) where
  abbrev take : Take
  take = take_now h i o m

  abbrev number : ℕ
  number = last_of (takes ++ take ∷ []) p.account

  abbrev history : List EntryView
  history = history_at owned (takes ++ take ∷ []) p.account

  abbrev full : MessageView
  full = as_sent o.device m (told s) h account

  abbrev accounts : List ℕ
  accounts = archs o.device m (told s) h account

  abbrev of_senders : Bool
  of_senders = u.shown.account == s.shown.account

  abbrev of_recipients : Bool
  of_recipients = u.shown.account == account

  -- ---- by names

  senders_is : of_senders ≡ bytes_eq p.account o.account
  senders_is = same_name x s.shown.account u.shown.account o.account p.account x.session.account v.account ∙ bytes_eq-sym o.account p.account

  recipients_is : of_recipients ≡ bytes_eq p.account m.to
  recipients_is = same_name x account u.shown.account m.to p.account at v.account ∙ bytes_eq-sym m.to p.account

  one_of_both : (of_senders || of_recipients) ≡ concerns p.account take
  one_of_both = ap₂ (λ a b. a || b) senders_is recipients_is

  -- ---- the number

  counted_one : (b : Bool) → b ≡ true → length (cond b (take ∷ []) []) ≡ 1
  counted_one true is = refl
  counted_one false is = absurd (false≢true is)

  one_last : concerns p.account take ≡ true → last_of (take ∷ []) p.account ≡ 1
  unfolding last_of
  one_last is = counted_one (concerns p.account take) is

  grows : concerns p.account take ≡ true → length (history_at owned takes p.account) + 1 ≡ number
  grows is =
      ap (λ n. n + 1) (history_long owned takes p.account) ∙ sym (last_grows takes (take ∷ []) p.account ∙ ap (λ n. last_of takes p.account + n) (one_last is))

  is_entry : concerns p.account take ≡ true → IsEntryNumber number
  is_entry is =
      let few = history_few owned takes p.account in
      let below = x.few in
      let last = grows is in
      record { some = omega (arith, last); fits = omega (arith, last, few, below) }

  module _ (which : (u.shown.account ≡ s.shown.account) ⊎ (u.shown.account ≡ account)) (is : concerns p.account take ≡ true) where
    number_here : number_in u.shown.account accounts h ≡ Some number
    number_here =
        ap (λ b. if b then number_after (archive_at u.shown.account h) else None) (in_archives o.device m (told s) h account u.shown.account which)
        ∙ ap number_after (x.runs.archives u.shown.account p.account v.account) ∙ ap Some (grows is)

    submission : IsSubmitted full
    submission = record { chat = refl; origin = origin_of o.device m.epoch m.n; said = m.text; apart = m.private; contains = refl }

    from_normal : normal (session_address s.shown.number h) ≡ Ok (session_address s.shown.number h)
    from_normal =
        subst (λ a. normal a ≡ Ok a) (sym (full_is names h x.runs.configured owned i o s x.session))
        (full_normal o.account o.device (is_named x s.shown.account o.account x.session.account) x.said.origin.device)

    to_normal : normal (m.to ++ 64 ∷ h.domain) ≡ Ok (m.to ++ 64 ∷ h.domain)
    to_normal = normal_to x

    told_here : info_of u.shown.number h.sessions ≡ Some (told u)
    told_here = ap (option_map told) v.lives

    delivered_reads : ReadsAs p history (delivered full accounts h u.shown.number) (Live number ∷ [])
    delivered_reads =
        let z = passed_item (report.bare_address p.account) (Some number) full in
        let same : delivered full accounts h u.shown.number ≡ z ∷ [] =
        ap (delivered_to full accounts h) told_here
        ∙ (λ k. passed_item (bare_is names h x.runs.configured u.shown.account p.account v.account k) (number_here k) full ∷ []) in
        subst (λ zs. ReadsAs p history zs (Live number ∷ [])) (sym same)
        (reads_one p history z (Live number) (passed_read (report.bare_address p.account) number full submission (is_entry is))
        (is_entry is, inl (record { message = full; is = refl; sender = from_normal; addressee = to_normal; submission = submission })))

    copied_reads : (sent : Bool) → ReadsAs p history (copied full accounts h sent u.shown.number) (Live number ∷ [])
    copied_reads sent =
        let c = copy_for sent full accounts u.shown.account h in
        let z = copy_item c (report.full_address p.account p.device) in
        let same : copied full accounts h sent u.shown.number ≡ z ∷ [] =
        ap (copied_to full accounts h sent u.shown.number) told_here
        ∙ ap (λ a. copy_item c a ∷ []) (full_is names h x.runs.configured owned j p u v) in
        subst (λ zs. ReadsAs p history zs (Live number ∷ [])) (sym same)
        (reads_one p history z (Live number) (copied_read c (report.full_address p.account p.device) number submission number_here (is_entry is))
        (is_entry is, inr (record { copy = c; is = refl; by = bare_is names h x.runs.configured u.shown.account p.account v.account; number = number_here; sender = from_normal; addressee = to_normal; submission = submission })))

  -- ---- whom it reaches

  abbrev ready : List ℕ
  ready = map number_of (ready_of account h.sessions)

  abbrev d : Bool
  d = of_recipients && is_ready u.shown

  -- it wants a copy where it asked for them, didn't send the message and doesn't get it
  wants_is : wants o.device m (told s) h account u ≡ (u.shown.carbons && not ((s.shown.number == u.shown.number) || d))
  wants_is =
      let ready_is : ready ≡ map number_of (filter (is_delivered o.device m (told s) h account) h.sessions) = ap (map number_of) (twice_left (λ (t : Session ItemOut). is_ready t.shown) (is_of account) h.sessions) in
      let is : list_any (λ k. k == u.shown.number) ready ≡ d =
      ap (list_any (λ k. k == u.shown.number)) ready_is ∙ among (is_delivered o.device m (told s) h account) h.next 1 u.shown.number h.sessions x.rule.ascending ∙ ap (if_passes (is_delivered o.device m (told s) h account)) v.lives in
      ap (λ b. u.shown.carbons && not ((s.shown.number == u.shown.number) || b)) is

  -- two sessions of one device are one
  same_session : (s.shown.number == u.shown.number) ≡ (j == i)
  same_session =
      elim (cases_Bool (s.shown.number == u.shown.number)) [
        | inl here ↦
            let number_is : s.shown.number ≡ u.shown.number = eqb-true s.shown.number u.shown.number here in
            let same : s ≡ u = same_Some s u (sym x.session.lives ∙ ap (λ n. session_of n h.sessions) number_is ∙ v.lives) in
            let device : p.device ≡ o.device = sym v.resource ∙ ap (λ (t : Session ItemOut). t.shown.resource) (sym same) ∙ x.session.resource in
            here ∙ sym (eq-eqb j i (x.declared.devices j i p o v.device x.session.device device))
        | inr other ↦ other ∙ sym (apart other)
      ]
    where
      apart : (s.shown.number == u.shown.number) ≡ false → (j == i) ≡ false
      apart other = elim (cases_Bool (j == i)) [
        | inl one ↦
            let position : j ≡ i = eqb-true j i one in
            let owner : p ≡ o = same_Some p o (sym v.device ∙ ap (slice_get owned) position ∙ x.session.device) in
            let account_is : u.shown.account ≡ s.shown.account = eqb-true u.shown.account s.shown.account (senders_is ∙ ap (λ (q : Owned). bytes_eq q.account o.account) owner ∙ bytes_eq-self o.account) in
            let resource_is : s.shown.resource ≡ u.shown.resource = x.session.resource ∙ ap (λ (q : Owned). q.device) (sym owner) ∙ sym v.resource in
            let same = x.rule.names s.shown.number u.shown.number s u x.session.lives v.lives (sym account_is) resource_is in
            absurd (false≢true (sym other ∙ eq-eqb s.shown.number u.shown.number same))
        | inr two ↦ two
      ]

  abbrev live : List Down
  live = Live number ∷ []

  abbrev put : Bool → Bool → List Down
  put copies wanted =
      where_so d live ++ (where_so (copies && (of_senders && wanted)) live ++ (where_so ((copies && not (s.shown.account == account)) && (of_recipients && wanted)) live ++ []))

  abbrev copies : Bool
  copies = is_copied (as_read o.device m (told s) h account)

  abbrev wanted : Bool
  wanted = wants o.device m (told s) h account u

  of_one : of_senders ≡ true → concerns p.account take ≡ true
  of_one is = sym one_of_both ∙ or_left of_senders of_recipients is

  of_other : of_recipients ≡ true → concerns p.account take ≡ true
  of_other is = sym one_of_both ∙ or_right of_senders of_recipients is

  parts_read : ReadsAs p history (went o.device m (told s) h account u.shown.number x.rule.ascending (Some u)) (put copies wanted)
  parts_read =
      let n = u.shown.number in
      let first = reads_where p history d (delivered full accounts h n) live
      (λ yes. let here = (and_parts of_recipients (is_ready u.shown) yes).0 in delivered_reads (inr (eqb-true u.shown.account account here)) (of_other here)) in
      let b = copies && (of_senders && wanted) in
      let second = reads_where p history b (copied full accounts h true n) live
      (λ yes. let here = (and_parts of_senders wanted (and_parts copies (of_senders && wanted) yes).1).0 in copied_reads (inl (eqb-true u.shown.account s.shown.account here)) (of_one here) true) in
      let c = (copies && not (s.shown.account == account)) && (of_recipients && wanted) in
      let third = reads_where p history c (copied full accounts h false n) live
      (λ yes. let here = (and_parts of_recipients wanted (and_parts (copies && not (s.shown.account == account)) (of_recipients && wanted) yes).1).0 in copied_reads (inr (eqb-true u.shown.account account here)) (of_other here) false) in
      reads_both p history (where_so d (delivered full accounts h n)) (where_so b (copied full accounts h true n) ++ (where_so c (copied full accounts h false n) ++ [])) (where_so d live) (where_so b live ++ (where_so c live ++ [])) first
      (reads_both p history (where_so b (copied full accounts h true n)) (where_so c (copied full accounts h false n) ++ []) (where_so b live) (where_so c live ++ []) second
      (reads_both p history (where_so c (copied full accounts h false n)) [] (where_so c live) [] third (reads_none p history)))

  both_one : of_senders ≡ true → of_recipients ≡ true → (s.shown.account == account) ≡ true
  both_one sender recipient = eq-eqb s.shown.account account (sym (eqb-true u.shown.account s.shown.account sender) ∙ eqb-true u.shown.account account recipient)

  one_both : (s.shown.account == account) ≡ true → of_recipients ≡ true → of_senders ≡ true
  one_both same recipient = eq-eqb u.shown.account s.shown.account (eqb-true u.shown.account account recipient ∙ sym (eqb-true s.shown.account account same))

  hears_is : put copies wanted ≡ where_so (hears_in take j p u) live
  hears_is =
      let copied_so : copies ≡ not m.private = copied_is (as_read o.device m (told s) h account) (origin_of o.device m.epoch m.n) m.text m.private in
      (λ k. put (copied_so k) (wants_is k))
      ∙ summed m.private d u.shown.carbons of_senders of_recipients (s.shown.number == u.shown.number) (s.shown.account == account) live both_one one_both
      ∙ (λ k. where_so ((recipients_is k && is_ready u.shown) || (((not m.private && u.shown.carbons) && one_of_both k) && not (same_session k))) live)

  pub carried_reads : ReadsAs p history (answers.sends_to u.shown.number (carrying as_it_is full accounts (route o.device m (told s) h account) h)) (where_so (hears_in take j p u) live)
  carried_reads =
      subst (λ zs. ReadsAs p history zs (where_so (hears_in take j p u) live))
      (sym (sends o.device m (told s) h account u.shown.number x.rule.ascending ∙ ap (went o.device m (told s) h account u.shown.number x.rule.ascending) v.lives))
      (subst (ReadsAs p history (went o.device m (told s) h account u.shown.number x.rule.ascending (Some u))) hears_is parts_read)
