-- Lists of the sessions of a device, one session after the other: those of an epoch are those of its session.
use Rattle.std.proofs.Common.{◌≡◌, ◌≢◌, ℕ, zero, suc, ◌+◌, ◌-◌, ◌<◌, ◌≤◌, ◌==◌, cond, List, [], ◌∷◌, ◌++◌, Some, length, map, refl, sym, ap, ap₂, ◌∙◌, subst, arith, append_assoc}
use Rattle.std.proofs.lemmas.Bool.{eq-eqb}
use Rattle.std.proofs.lemmas.List.{append-nil, length_push, map-append}
use Rattle.std.proofs.lemmas.List.Elements.{filter-append}
use Rattle.std.proofs.lemmas.Option.{none-some, same_Some}
use Rattle.std.specs.List.{AllByRecursion, filter, flat_map, slice_get}
use Rattle.base_lemmas.proofs.Lists.{AllByRecursion-weaker}
use Rattle.cmd_schedule.proofs.Lists.{all_append, all_filter, all_front, all_map}
use Rattle.sim_1_applications.proofs.Numbered.{messages_append}
use Rattle.sim_1_applications.specs.Devices.{Known, Session, up_put}
use Rattle.sim_1_applications.specs.Events.{is_among}
use Rattle.sim_1_applications.specs.Kept.{AreNumbered, ArePast, IsNumbered, accepted}
use Rattle.sim_1_applications.specs.Stanzas.{Carbons, Message, Presence, Query, Submission, Up, messages}
use Rattle.cmd_report.specs.declared.report.SaidMark.{SaidMark}
use Rattle.sim_1_applications.specs.Reported.{said_among}
use Rattle.sim_7_schedules.specs.Messages.{Told, of_epoch, told, told_said}
use Rattle.sm_resumption.proofs.RowFacts.{eqb_other as other_test}

-- ---- one list

all_of : (e : ℕ) (xs : List Told) → AllByRecursion (λ (x : Told). x.epoch ≡ e) xs → of_epoch e xs ≡ xs
all_of e [] all = refl
all_of e (x ∷ xs) all = ap (λ b. cond b (x ∷ of_epoch e xs) (of_epoch e xs)) (ap (λ n. n == e) all.0 ∙ eq-eqb e e refl) ∙ ap (λ l. x ∷ l) (all_of e xs all.1)

none_of : (k e : ℕ) (xs : List Told) → k ≢ e → AllByRecursion (λ (x : Told). x.epoch ≡ k) xs → of_epoch e xs ≡ []
none_of k e [] apart all = refl
none_of k e (x ∷ xs) apart all = ap (λ b. cond b (x ∷ of_epoch e xs) (of_epoch e xs)) (ap (λ n. n == e) all.0 ∙ other_test k e apart) ∙ none_of k e xs apart all.1

-- ---- the lists of sessions, of which each has its epoch

module _ (g : Session → List Told) where
  abbrev pub Have : ℕ → List Session → Type 0
  Have k [] = Unit {0}
  Have k (s ∷ ss) = AllByRecursion (λ (x : Told). x.epoch ≡ k) (g s) × Have (suc k) ss

  none_behind : (k e : ℕ) (ss : List Session) → e < k → Have k ss → of_epoch e (flat_map g ss) ≡ []
  none_behind k e [] low have = refl
  none_behind k e (s ∷ ss) low have =
      filter-append (λ (x : Told). x.epoch == e) (g s) (flat_map g ss)
      ∙ ap₂ (λ a b. a ++ b) (none_of k e (g s) (λ same. omega (arith, low, same)) have.0) (none_behind (suc k) e ss (omega (arith, low)) have.1)

  pub found_at : (k e j : ℕ) (ss : List Session) (s : Session) → e ≡ k + j → Have k ss → slice_get ss j ≡ Some s → of_epoch e (flat_map g ss) ≡ g s
  found_at k e j [] s is have at = absurd (none-some s at)
  found_at k e zero (t ∷ ss) s is have at =
      let here : k ≡ e = omega (arith, is) in
      filter-append (λ (x : Told). x.epoch == e) (g t) (flat_map g ss)
      ∙ ap₂ (λ a b. a ++ b) (all_of e (g t) (subst (λ n. AllByRecursion (λ (x : Told). x.epoch ≡ n) (g t)) here have.0)) (none_behind (suc k) e ss (omega (arith, is)) have.1)
      ∙ append-nil (g t) ∙ ap g (same_Some t s at)
  found_at k e (suc j) (t ∷ ss) s is have at =
      filter-append (λ (x : Told). x.epoch == e) (g t) (flat_map g ss)
      ∙ ap₂ (λ a b. a ++ b) (none_of k e (g t) (λ same. omega (arith, is, same)) have.0) (found_at (suc k) e j ss s (omega (arith, is)) have.1 at)

  -- of sessions that are numbered, if each that is has such a list
  pub have_all : ((k : ℕ) (s : Session) → IsNumbered k s → AllByRecursion (λ (x : Told). x.epoch ≡ k) (g s)) → (k n : ℕ) (past : List Session) (now : Session) → n ≡ k + length past → ArePast k past → IsNumbered n now → Have k (past ++ now ∷ [])
  have_all each k n [] now is are last = (each k now (subst (λ m. IsNumbered m now) (let same : n ≡ k = omega (arith, is) in same) last), tt)
  have_all each k n (s ∷ past) now is are last = (each k s are.0, have_all each (suc k) n past now (omega (arith, is)) are.1 last)

  -- a list that is put together of theirs
  pub joined : {A : Type 0} (f : Session → List A) (h : A → Told) (last : List A) → ((s : Session) → map h (f s) ≡ g s) → (past : List Session) (now : Session) → map h last ≡ g now → map h (flat_map f past ++ last) ≡ flat_map g (past ++ now ∷ [])
  joined f h last each [] now is = is ∙ sym (append-nil (g now))
  joined f h last each (s ∷ past) now is =
      ap (map h) (append_assoc (f s) (flat_map f past) last) ∙ map-append h (f s) (flat_map f past ++ last) ∙ ap₂ (λ a b. a ++ b) (each s) (joined f h last each past now is)

  -- ---- of which epochs they are

  abbrev pub IsBetween : ℕ → Told → Type 0
  IsBetween n x = (1 ≤ x.epoch) × (x.epoch ≤ n)

  between_from : (k n : ℕ) (ss : List Session) → 1 ≤ k → k + length ss ≡ n + 1 → Have k ss → AllByRecursion (IsBetween n) (flat_map g ss)
  between_from k n [] low is have = tt
  between_from k n (s ∷ ss) low is have =
      all_append (IsBetween n) (g s) (flat_map g ss)
      (AllByRecursion-weaker (λ (x : Told). x.epoch ≡ k) (IsBetween n) (λ x same. (omega (arith, same, low), omega (arith, same, is))) (g s) have.0)
      (between_from (suc k) n ss (omega (arith, low)) (omega (arith, is)) have.1)

  -- where the first session, that before epoch 1, has none
  pub between : ((s : Session) → IsNumbered 0 s → g s ≡ []) → (n : ℕ) (past : List Session) (now : Session) → n ≡ length past → Have 0 (past ++ now ∷ []) → ArePast 0 past → IsNumbered n now → AllByRecursion (IsBetween n) (flat_map g (past ++ now ∷ []))
  between none n [] now is have are last = subst (AllByRecursion (IsBetween n)) (sym (append-nil (g now) ∙ none now (subst (λ m. IsNumbered m now) is last))) tt
  between none n (s ∷ past) now is have are last =
      let one = length_push past now in
      subst (λ l. AllByRecursion (IsBetween n) (l ++ flat_map g (past ++ now ∷ []))) (sym (none s are.0))
      (between_from 1 n (past ++ now ∷ []) (omega arith) (omega (arith, is, one)) have.1)

-- ---- what each session has

numbered_epochs : (k n : ℕ) (ms : List Submission) → AreNumbered k n ms → AllByRecursion (λ (m : Submission). m.epoch ≡ k) ms
numbered_epochs k n [] are = tt
numbered_epochs k n (m ∷ ms) are = (are.0, numbered_epochs k (suc n) ms are.2)

abbrev pub put_in : Session → List Told
put_in s = map told (messages (up_put s))

abbrev pub accepted_in : List (List ℕ) → Session → List Told
accepted_in accounts s = map told (accepted accounts s)

pub put_numbered : (k : ℕ) (s : Session) → IsNumbered k s → AllByRecursion (λ (x : Told). x.epoch ≡ k) (put_in s)
put_numbered k s is = all_map (λ (x : Told). x.epoch ≡ k) told (messages (up_put s)) (numbered_epochs k 0 (messages (up_put s)) is.numbers)

pub accepted_numbered : (accounts : List (List ℕ)) (k : ℕ) (s : Session) → IsNumbered k s → AllByRecursion (λ (x : Told). x.epoch ≡ k) (accepted_in accounts s)
accepted_numbered accounts k s is =
    let all = subst (AllByRecursion (λ (m : Submission). m.epoch ≡ k)) (messages_append s.up_got s.up_rest) (numbered_epochs k 0 (messages (up_put s)) is.numbers) in
    all_map (λ (x : Told). x.epoch ≡ k) told (accepted accounts s)
    (all_filter (λ (m : Submission). m.epoch ≡ k) (λ m. is_among m.to accounts) (messages s.up_got) (all_front (λ (m : Submission). m.epoch ≡ k) (messages s.up_got) (messages s.up_rest) all))

-- before epoch 1 there is nothing
pub nothing_put : (s : Session) → IsNumbered 0 s → (s.up_got ≡ []) × (s.up_rest ≡ [])
nothing_put s is =
    let early : s.stage ≢ Known = (λ known. let named = is.zero refl in absurd (let no_way : ⊥ = cc in no_way)) in
    (is.is_session.up_got early, is.is_session.up_rest early)

pub put_none : (s : Session) → IsNumbered 0 s → put_in s ≡ []
put_none s is = let none = nothing_put s is in ap₂ (λ a b. map told (messages (a ++ b))) none.0 none.1

pub accepted_none : (accounts : List (List ℕ)) (s : Session) → IsNumbered 0 s → accepted_in accounts s ≡ []
accepted_none accounts s is = let none = nothing_put s is in ap (λ zs. map told (filter (λ m. is_among m.to accounts) (messages zs))) none.0

-- the lines of a session's messages, whatever their marks are
pub said_same : (acked : ℕ) (mark : SaidMark) (zs : List Up) → map told_said (said_among acked mark zs) ≡ map told (messages zs)
said_same acked mark [] = refl
said_same acked mark (Carbons ∷ zs) = said_same (acked - 1) mark zs
said_same acked mark (Presence ∷ zs) = said_same (acked - 1) mark zs
said_same acked mark (Query r ∷ zs) = said_same (acked - 1) mark zs
said_same acked mark (Message m ∷ zs) = ap (λ l. told m ∷ l) (said_same (acked - 1) mark zs)

-- ---- the session of an epoch among all

pub at_last : (past : List Session) (now : Session) (e : ℕ) → e ≡ length past → slice_get (past ++ now ∷ []) e ≡ Some now
at_last [] now zero is = refl
at_last [] now (suc e) is = absurd (omega (arith, is))
at_last (s ∷ past) now zero is = absurd (omega (arith, is))
at_last (s ∷ past) now (suc e) is = at_last past now e (omega (arith, is))

pub at_past : (past : List Session) (now s : Session) (e : ℕ) → slice_get past e ≡ Some s → slice_get (past ++ now ∷ []) e ≡ Some s
at_past [] now s e at = absurd (none-some s at)
at_past (t ∷ past) now s zero at = at
at_past (t ∷ past) now s (suc e) at = at_past past now s e at
