-- The flags of a device's session: those of the session whose stanza it is are altered as the applications do, and those of
-- others stay.
use Rattle.std.proofs.Common.{◌≡◌, ℕ, ◌==◌, ◌≢◌, ◌&&◌, ◌||◌, Bool, true, false, List, [], ◌∷◌, Option, Some, None, pos, refl, sym, ap, subst, ◌∙◌, inl, inr}
use Rattle.std.proofs.lemmas.Bool.{and_parts, cases_Bool, eq-eqb, eqb-true, false≢true}
use Rattle.std.proofs.lemmas.Option.{none-some, same_Some}
use Rattle.std.specs.List.{AllByRecursion, find}
use Rattle.std.specs.Str.{bytes_eq}
use Rattle.base_lemmas.proofs.Bytes.{same-from_bytes_eq}
use Rattle.srv_state.specs.State.{ServerState}
use Rattle.sm_live.specs.Rule.{IsRule}
use Rattle.sm_live.specs.Sessions.{Session, is_named, session_named, session_of}
use Rattle.sim_5_moves.proofs.Effects.{after_goes, alters}
use Rattle.sim_5_moves.proofs.Walks.{IsSteady}
use Rattle.sim_5_moves.specs.Replied.{IsReplyCase, following}
use Rattle.srv_route.proofs.Chosen.{AreFound, all_found}
use Rattle.cmd_schedule.specs.Contents.{Owned}
use Rattle.sim_3_items.specs.Served.{FlagsRepresent}
use Rattle.sim_1_applications.specs.Devices.{NoRow, Present, Sessions, Take}
use Rattle.sim_1_applications.specs.Events.{flagged, is_carbons, is_presence, is_present}
use Rattle.sim_1_applications.specs.Stanzas.{Carbons, Message, Presence, Query, Up}
use Rattle.xml_trees.specs.Trees.{Elem}
use Rattle.xml_writer.specs.Items.{ItemOut}

-- ---- sessions by their names

pub found_has : (P : Session ItemOut → Type 0) (q : Session ItemOut → Bool) (ss : List (Session ItemOut)) (s : Session ItemOut) → AllByRecursion P ss → find q ss ≡ Some s → P s × (q s ≡ true)
found_has P q [] s all is = absurd (none-some s is)
found_has P q (x ∷ ss) s all is = elim (cases_Bool (q x)) [
  | inl passed ↦ let this : x ≡ s = same_Some x s (rw passed at is) in (subst P this all.0, subst (λ y. q y ≡ true) this passed)
  | inr failed ↦ found_has P q ss s all.1 (rw failed at is)
]

-- one that is found by its number passes no test that none passes
pub none_passes : (q : Session ItemOut → Bool) (m : ℕ) (ss : List (Session ItemOut)) (s : Session ItemOut) → find q ss ≡ None → session_of m ss ≡ Some s → q s ≡ true → ⊥
none_passes q m [] s none is passes = none-some s is
none_passes q m (x ∷ ss) s none is passes = elim (cases_Bool (q x)) [
  | inl passed ↦ none-some x (sym (rw passed at none))
  | inr failed ↦
      elim (cases_Bool (x.shown.number == m)) [
        | inl here ↦ let this : x ≡ s = same_Some x s (rw here at is) in false≢true (sym failed ∙ ap q this ∙ passes)
        | inr other ↦ none_passes q m ss s (rw failed at none) (rw other at is) passes
      ]
]

pub each_found : (ss ts : List (Session ItemOut)) → AreFound ss ts → AllByRecursion (λ t. session_of t.shown.number ss ≡ Some t) ts
each_found ss [] found = tt
each_found ss (t ∷ ts) found = (found.0, each_found ss ts found.1)

pub names_are : (account : ℕ) (resource : List ℕ) (s : Session ItemOut) → is_named account resource s ≡ true → (s.shown.account ≡ account) × (s.shown.resource ≡ resource)
names_are account resource s is =
    let both = and_parts (s.shown.account == account) (bytes_eq s.shown.resource resource) is in
    (eqb-true s.shown.account account both.0, same-from_bytes_eq s.shown.resource resource both.1)

module _ (account : ℕ) (resource : List ℕ) (h : ServerState ItemOut) (rule : IsRule h.sessions h.next) where
  abbrev pub all_are_found : AllByRecursion (λ t. session_of t.shown.number h.sessions ≡ Some t) h.sessions
  all_are_found = each_found h.sessions h.sessions (all_found h.next 1 h.sessions rule.ascending)

  -- no other has its name
  pub the_named : (t : Session ItemOut) → session_of t.shown.number h.sessions ≡ Some t → is_named account resource t ≡ true → session_named account resource h.sessions ≡ Some t
  the_named t there named = by_case (session_named account resource h.sessions) refl
    where
      by_case : (found : Option (Session ItemOut)) → session_named account resource h.sessions ≡ found → session_named account resource h.sessions ≡ Some t
      by_case None is = absurd (none_passes (is_named account resource) t.shown.number h.sessions t is there named)
      by_case (Some u) is =
          let has = found_has (λ v. session_of v.shown.number h.sessions ≡ Some v) (is_named account resource) h.sessions u all_are_found is in
          let a = names_are account resource u has.1 in
          let b = names_are account resource t named in
          let number = rule.names u.shown.number t.shown.number u t has.0 there (a.0 ∙ sym b.0) (a.1 ∙ sym b.1) in
          let same : u ≡ t = same_Some u t (sym has.0 ∙ ap (λ m. session_of m h.sessions) number ∙ there) in
          is ∙ ap Some same

-- ---- the flags of the sessions with a name, of which it is known whether one is the session with a number

abbrev HasFlags : ℕ → List ℕ → ℕ → Bool → Bool → Bool → Session ItemOut → Type 0
HasFlags account resource n own available carbons s =
    is_named account resource s ≡ true → ((s.shown.number == n) ≡ own) × (s.shown.available ≡ available) × (s.shown.carbons ≡ carbons) × (s.shown.priority ≡ pos 0)

flags_steady : (account : ℕ) (resource : List ℕ) (n : ℕ) (own available carbons : Bool) → IsSteady (HasFlags account resource n own available carbons)
flags_steady account resource n own available carbons = record { waiting = λ z s is. is; asked = λ on s is. is; handled = λ s is. is }

own_altered : (x : Up) (account : ℕ) (resource : List ℕ) (n : ℕ) (available carbons : Bool) (s : Session ItemOut) → HasFlags account resource n true available carbons s →
    HasFlags account resource n true (is_presence x || available) (is_carbons x || carbons) (alters x s)
own_altered Carbons account resource n available carbons s is = λ named. let f = is named in (f.0, f.1, refl, f.3)
own_altered Presence account resource n available carbons s is = λ named. let f = is named in (f.0, refl, f.2, refl)
own_altered (Message m) account resource n available carbons s is = is
own_altered (Query r) account resource n available carbons s is = is

shifted : (there one two : Bool) → there ≡ true → (one || (there && two)) ≡ (there && (one || two))
shifted true one two is = refl
shifted false one two is = absurd (false≢true is)

module _ (keep : ℕ) (owned : List Owned) (names : List (List ℕ)) (takes : List Take) (h : ServerState ItemOut) (o : Owned) (s : Session ItemOut) (x : Up) (e : Elem) (is : IsReplyCase keep owned names takes h o s x e) (rule : IsRule h.sessions h.next) where
  abbrev n : ℕ
  n = s.shown.number

  module _ (account : ℕ) (resource : List ℕ) (own : Bool) (d : Sessions) (represents : FlagsRepresent account resource h d) (live : d.row ≢ NoRow)
      (which : (t : Session ItemOut) → session_of t.shown.number h.sessions ≡ Some t → is_named account resource t ≡ true → (t.shown.number == n) ≡ own) where
    begins : AllByRecursion (HasFlags account resource n own (is_present d.row && d.now.available) (is_present d.row && d.now.carbons)) h.sessions
    begins = each h.sessions (all_are_found account resource h rule)
      where
        each : (ts : List (Session ItemOut)) → AllByRecursion (λ t. session_of t.shown.number h.sessions ≡ Some t) ts →
            AllByRecursion (HasFlags account resource n own (is_present d.row && d.now.available) (is_present d.row && d.now.carbons)) ts
        each [] all = tt
        each (t ∷ ts) all = (λ named. let f = represents live t (the_named account resource h rule t all.0 named) in (which t all.0 named, f.0, f.1, f.2), each ts all.1)

  ends : (account : ℕ) (resource : List ℕ) (own available carbons : Bool) → AllByRecursion (HasFlags account resource n own available carbons) (following e s h).server_state.sessions → (t : Session ItemOut) → session_named account resource (following e s h).server_state.sessions ≡ Some t →
      (t.shown.available ≡ available) × (t.shown.carbons ≡ carbons) × (t.shown.priority ≡ pos 0)
  ends account resource own available carbons all t found =
      let has = found_has (HasFlags account resource n own available carbons) (is_named account resource) (following e s h).server_state.sessions t all found in
      let f = has.0 has.1 in
      (f.1, f.2, f.3)

  pub own_flags : (d : Sessions) → d.row ≡ Present → FlagsRepresent s.shown.account s.shown.resource h d → FlagsRepresent s.shown.account s.shown.resource (following e s h).server_state (flagged x d)
  own_flags d present represents = λ live t found.
      let account = s.shown.account in
      let resource = s.shown.resource in
      let available = is_present d.row && d.now.available in
      let carbons = is_present d.row && d.now.carbons in
      let P = HasFlags account resource n true available carbons in
      let Q = HasFlags account resource n true (is_presence x || available) (is_carbons x || carbons) in
      let which : (u : Session ItemOut) → session_of u.shown.number h.sessions ≡ Some u → is_named account resource u ≡ true → (u.shown.number == n) ≡ true =
      λ u there named. (let a = names_are account resource u named in eq-eqb u.shown.number n (rule.names u.shown.number n u s there is.session.there a.0 a.1)) in
      let goes = after_goes P Q (flags_steady account resource n true available carbons) (flags_steady account resource n true (is_presence x || available) (is_carbons x || carbons)) keep owned names takes h o s
      (begins account resource true d represents live which) x e is (λ u here p. own_altered x account resource n available carbons u p)
      (λ u other p. λ named. absurd (false≢true (sym other ∙ (p named).0))) in
      let f = ends account resource true (is_presence x || available) (is_carbons x || carbons) goes.sessions t found in
      let row : is_present d.row ≡ true = ap is_present present in
      (f.0 ∙ shifted (is_present d.row) (is_presence x) d.now.available row, f.1 ∙ shifted (is_present d.row) (is_carbons x) d.now.carbons row, f.2)

  pub other_flags : (account : ℕ) (resource : List ℕ) (d : Sessions) → is_named account resource s ≡ false → FlagsRepresent account resource h d → FlagsRepresent account resource (following e s h).server_state d
  other_flags account resource d apart represents = λ live t found.
      let available = is_present d.row && d.now.available in
      let carbons = is_present d.row && d.now.carbons in
      let P = HasFlags account resource n false available carbons in
      let steady = flags_steady account resource n false available carbons in
      let which : (u : Session ItemOut) → session_of u.shown.number h.sessions ≡ Some u → is_named account resource u ≡ true → (u.shown.number == n) ≡ false =
      λ u there named. elim (cases_Bool (u.shown.number == n)) [
        | inl here ↦
            let same : u ≡ s = same_Some u s (sym there ∙ ap (λ m. session_of m h.sessions) (eqb-true u.shown.number n here) ∙ is.session.there) in
            absurd (false≢true (sym apart ∙ sym (ap (is_named account resource) same) ∙ named))
        | inr other ↦ other
      ] in
      let goes = after_goes P P steady steady keep owned names takes h o s (begins account resource false d represents live which) x e is
      (λ u here p. unnamed account resource available carbons x u here p) (λ u other p. p) in
      ends account resource false available carbons goes.sessions t found
    where
      unnamed : (account : ℕ) (resource : List ℕ) (available carbons : Bool) (y : Up) (u : Session ItemOut) → (u.shown.number == n) ≡ true → HasFlags account resource n false available carbons u → HasFlags account resource n false available carbons (alters y u)
      unnamed account resource available carbons Carbons u here p = λ named. absurd (false≢true (sym (p named).0 ∙ here))
      unnamed account resource available carbons Presence u here p = λ named. absurd (false≢true (sym (p named).0 ∙ here))
      unnamed account resource available carbons (Message m) u here p = p
      unnamed account resource available carbons (Query r) u here p = p
