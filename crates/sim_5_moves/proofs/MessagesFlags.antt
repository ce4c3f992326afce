-- Behind a submission each session that is left has the flags that it had, and a device hears in the applications where its
-- session hears at the server.
use Rattle.std.proofs.Common.{◌≡◌, ◌≢◌, ℕ, ◌==◌, ◌&&◌, ◌||◌, not, Bool, true, false, List, [], ◌∷◌, Some, pos, refl, sym, ap, ap₂, subst, ◌∙◌, inl, inr}
use Rattle.std.proofs.lemmas.Bool.{cases_Bool}
use Rattle.std.proofs.lemmas.Option.{none-some, same_Some}
use Rattle.std.specs.List.{AllByRecursion, find}
use Rattle.std.specs.Prelude.{int_le}
use Rattle.std.specs.Str.{bytes_eq}
use Rattle.srv_state.specs.Handling.{counting}
use Rattle.srv_state.specs.State.{ServerState}
use Rattle.sim_3_items.specs.ItemMoves.{step_of}
use Rattle.sm_live.specs.Sessions.{Session, asks, handles, is_named, is_numbered, session_named, session_of, told, waits}
use Rattle.sim_5_moves.proofs.Outcomes.{all_pass}
use Rattle.sim_5_moves.proofs.Staying.{acted_stays}
use Rattle.sim_5_moves.specs.Done.{acts_on, following}
use Rattle.sim_5_moves.specs.Hearing.{hears_in}
use Rattle.sim_5_moves.specs.Submits.{Submits}
use Rattle.srv_route.proofs.Chosen.{AreFound, all_found}
use Rattle.cmd_schedule.specs.Contents.{Owned}
use Rattle.sim_3_images.proofs.RuleKept.{found_is, found_some, one_named}
use Rattle.sim_3_items.specs.Served.{FlagsRepresent}
use Rattle.sim_1_applications.specs.Devices.{Device, Sessions, Take, concerns}
use Rattle.sim_1_applications.specs.Devices.Row.{NoRow}
use Rattle.sim_1_applications.specs.Events.{hears_of, is_present}
use Rattle.sim_1_applications.specs.Stanzas.{Submission}
use Rattle.xml_trees.specs.Trees.{Elem}
use Rattle.xml_writer.specs.Items.{ItemOut}

-- ---- a session that was there before

record SameFlags (r t : Session ItemOut) : Type 0 where
  account : t.shown.account ≡ r.shown.account
  resource : t.shown.resource ≡ r.shown.resource
  available : t.shown.available ≡ r.shown.available
  carbons : t.shown.carbons ≡ r.shown.carbons
  priority : t.shown.priority ≡ r.shown.priority

record Was (ss : List (Session ItemOut)) (t : Session ItemOut) : Type 0 where
  before : Session ItemOut
  there : session_of before.shown.number ss ≡ Some before
  same : SameFlags before t

module _ (ss : List (Session ItemOut)) where
  was_handled : (t : Session ItemOut) → Was ss t → Was ss (handles t)
  was_handled t was =
      let f = was.same in
      record { before = was.before; there = was.there; same = record { account = f.account; resource = f.resource; available = f.available; carbons = f.carbons; priority = f.priority } }

  was_waiting : (z : ItemOut) (t : Session ItemOut) → Was ss t → Was ss (waits z t)
  was_waiting z t was =
      let f = was.same in
      record { before = was.before; there = was.there; same = record { account = f.account; resource = f.resource; available = f.available; carbons = f.carbons; priority = f.priority } }

  was_asked : (on : Bool) (t : Session ItemOut) → Was ss t → Was ss (asks on t)
  was_asked on t was =
      let f = was.same in
      record { before = was.before; there = was.there; same = record { account = f.account; resource = f.resource; available = f.available; carbons = f.carbons; priority = f.priority } }

  each_was : (ts : List (Session ItemOut)) → AreFound ss ts → AllByRecursion (Was ss) ts
  each_was [] found = tt
  each_was (t ∷ ts) found = (record { before = t; there = found.0; same = record { account = refl; resource = refl; available = refl; carbons = refl; priority = refl } }, each_was ts found.1)

found_all : (P : Session ItemOut → Type 0) (q : Session ItemOut → Bool) (ss : List (Session ItemOut)) (t : Session ItemOut) → AllByRecursion P ss → find q ss ≡ Some t → P t
found_all P q [] t all is = absurd (none-some t is)
found_all P q (s ∷ ss) t all is =
    elim (cases_Bool (q s)) [
      | inl here ↦ subst P (same_Some s t (rw here at is)) all.0
      | inr other ↦ found_all P q ss t all.1 (rw other at is)
    ]

module _ {keep : ℕ} {owned : List Owned} {names : List (List ℕ)} {takes : List Take} {h : ServerState ItemOut} {i : ℕ} {o : Owned} {s : Session ItemOut} {m : Submission} {e : Elem} (x : Submits keep owned names takes h i o s m e) where
  all_were : AllByRecursion (Was h.sessions) (following s h e).server_state.sessions
  all_were =
      acted_stays (Was h.sessions) (was_handled h.sessions) (was_waiting h.sessions) (was_asked h.sessions) (counting (told s) (acts_on s h e)) (step_of h) (all_pass x)
      (each_was h.sessions h.sessions (all_found h.next 1 h.sessions x.rule.ascending))

  pub flags_stay : (account : ℕ) (resource : List ℕ) (d : Sessions) → FlagsRepresent account resource h d → FlagsRepresent account resource (following s h e).server_state d
  flags_stay account resource d represents row t found =
      let was = found_all (Was h.sessions) (is_named account resource) (following s h e).server_state.sessions t all_were found in
      let r = was.before in
      let named : is_named account resource r ≡ true =
      sym (ap₂ (λ a b. (a == account) && bytes_eq b resource) was.same.account was.same.resource) ∙ found_is (is_named account resource) (following s h e).server_state.sessions t found in
      let some = found_some (is_numbered r.shown.number) (is_named account resource) h.sessions r was.there named in
      let one : r ≡ some.0 = one_named account resource h.next h.sessions some.0 r x.rule some.1 was.there named in
      let f = represents row r (some.1 ∙ ap Some (sym one)) in
      (was.same.available ∙ f.0, was.same.carbons ∙ f.1, was.same.priority ∙ f.2)

-- ---- hearing

where_present : (present recipient available common wants concerned another : Bool) →
    ((recipient && ((present && available) && true)) || (((common && (present && wants)) && concerned) && another)) ≡ (present && ((recipient && available) || (((common && wants) && concerned) && another)))
where_present true recipient true common wants concerned another = refl
where_present true recipient false common wants concerned another = refl
where_present false true available true wants concerned another = refl
where_present false true available false wants concerned another = refl
where_present false false available true wants concerned another = refl
where_present false false available false wants concerned another = refl

pub hears_alike : (t : Take) (j : ℕ) (d : Device) (p : Owned) (h : ServerState ItemOut) (u : Session ItemOut) → d.account ≡ p.account → d.sessions.row ≢ NoRow → FlagsRepresent u.shown.account u.shown.resource h d.sessions
    → session_named u.shown.account u.shown.resource h.sessions ≡ Some u → hears_in t j p u ≡ hears_of t j d
hears_alike t j d p h u account row represents named =
    let f = represents row u named in
    (λ k. (bytes_eq (sym account k) t.said.to && (f.0 k && int_le (pos 0) (f.2 k))) || (((not t.said.private && f.1 k) && concerns (sym account k) t) && not (j == t.device)))
    ∙ where_present (is_present d.sessions.row) (bytes_eq d.account t.said.to) d.sessions.now.available (not t.said.private) d.sessions.now.carbons (concerns d.account t) (not (j == t.device))
