-- Sessions on connections that are logged in as their accounts: what keeps them there.
use Rattle.std.proofs.Common.{◌≡◌, ℕ, ◌+◌, ◌<◌, ◌==◌, Bool, true, false, not, ◌&&◌, cond, List, [], ◌∷◌, ◌++◌, Option, Some, None, map, refl, sym, ap, subst, ◌∙◌, arith, eq-eqb, ne_eqb, inl, inr}
use Rattle.std.proofs.lemmas.Bool.{cases_Bool, eqb-true, false≢true}
use Rattle.std.proofs.lemmas.Map.Lookups.{exact_unsigned}
use Rattle.std.proofs.lemmas.Option.{none-some, same_Some}
use Rattle.std.specs.BTreeMap.{insert_entry}
use Rattle.std.specs.List.{AllByRecursion, filter, find}
use Rattle.std.specs.Map.{lookup, remove_entry, set_value}
use Rattle.std.specs.Ordering.{match_ordering, nat_cmp}
use Rattle.std.specs.declared.cmp.Ordering.{Ordering}
use Rattle.std.specs.declared.cmp.Ordering.TheVariants.{Equal, Greater, Less}
use Rattle.law_server.proofs.Frames.{equal_is, other_stays}
use Rattle.law_server.proofs.LiveRows.{Lives, found_has, living, passing, rises}
use Rattle.law_server.specs.Numbers.{Rise}
use Rattle.law_server.specs.Proved.{IsExchange}
use Rattle.sm_live.specs.Sessions.{Session, after_resume, bound, fresh, is_at, is_resumed_by, is_too_high, less, lost, parked, resumes, session_at, session_named, session_of, session_resumed, with_session, without, without_at}
use Rattle.sm_resumption.specs.Rows.{is_some_number}
use Rattle.srv_login.specs.declared.account.Account.{Account}
use Rattle.srv_route.proofs.Chosen.{all_found}
use Rattle.srv_state.specs.State.{changed, is_number}
use Rattle.srv_state.specs.declared.connection.Connection.{Connection}
use Rattle.srv_state.specs.declared.connection.Phase.{Phase}
use Rattle.srv_state.specs.declared.connection.Phase.TheVariants as phase
pub use Rattle.sm_resumption.proofs.StoredFacts.{at_conn as conn_is}

-- ---- numbers of connections

pub number_same : (j k : ℕ) → is_number j k ≡ true → j ≡ k
number_same j k is = exact_unsigned j k (equal_is (nat_cmp j k) is)

pub number_apart : (j k : ℕ) → (j == k) ≡ false → is_number j k ≡ false
number_apart j k apart =
    elim (cases_Bool (is_number j k)) [
      | inl same ↦ absurd (false≢true (sym apart ∙ eq-eqb j k (number_same j k same)))
      | inr other ↦ other
    ]

second : (a b c : Bool) → (a && b && c) ≡ true → b ≡ true
second true true c is = refl
second true false c is = absurd (false≢true is)
second false b c is = absurd (false≢true is)

-- ---- lists

pub all_mapped : {S T : Type 0} (P : S → Type 0) (Q : T → Type 0) (g : S → T) → ((s : S) → P s → Q (g s)) → (ss : List S) → AllByRecursion P ss → AllByRecursion Q (map g ss)
all_mapped P Q g each [] all = tt
all_mapped P Q g each (s ∷ ss) all = (each s all.0, all_mapped P Q g each ss all.1)

pub all_kept : {T : Type 0} (P : T → Type 0) (p : T → Bool) (ts : List T) → AllByRecursion P ts → AllByRecursion P (filter p ts)
all_kept P p ts all = passing P P p (λ t passes has. has) ts all

all_more : {T : Type 0} (P : T → Type 0) (ts : List T) (t : T) → AllByRecursion P ts → P t → AllByRecursion P (ts ++ t ∷ [])
all_more P [] t all is = (is, tt)
all_more P (x ∷ ts) t all is = (all.0, all_more P ts t all.1 is)

all_set : {V : Type 0} (Q : ℕ × V → Type 0) (k : ℕ) (v : V) (es : List (ℕ × V)) → Q (k, v) → AllByRecursion Q es → AllByRecursion Q (set_value (is_number k) es v)
all_set Q k v [] is all = tt
all_set Q k v (e ∷ es) is all =
    elim (cases_Bool (is_number k e.0)) [
      | inl here ↦ (let there : Q (e.0, v) = subst (λ (n : ℕ). Q (n, v)) (number_same k e.0 here) is in rw here (there, all.1))
      | inr other ↦ rw other (all.0, all_set Q k v es is all.1)
    ]

pub all_removed : {V : Type 0} (Q : ℕ × V → Type 0) (k : ℕ) (es : List (ℕ × V)) → AllByRecursion Q es → AllByRecursion Q (remove_entry (is_number k) es)
all_removed Q k [] all = tt
all_removed Q k (e ∷ es) all =
    elim (cases_Bool (is_number k e.0)) [
      | inl here ↦ rw here all.1
      | inr other ↦ rw other (all.0, all_removed Q k es all.1)
    ]

all_inserted : {V : Type 0} (Q : ℕ × V → Type 0) (k : ℕ) (v : V) (es : List (ℕ × V)) → Q (k, v) → AllByRecursion Q es → AllByRecursion Q (insert_entry nat_cmp es k v)
all_inserted Q k v [] is all = (is, tt)
all_inserted {V = V} Q k v (e ∷ es) is all = by (nat_cmp k e.0) refl (all_inserted Q k v es is all.1)
  where
    by : (o : Ordering) → nat_cmp k e.0 ≡ o → AllByRecursion Q (insert_entry nat_cmp es k v) → AllByRecursion Q (match_ordering o ((k, v) ∷ e ∷ es) ((e.0, v) ∷ es) (e ∷ insert_entry nat_cmp es k v))
    by Less found rest = (is, (all.0, all.1))
    by Equal found rest = (subst (λ (n : ℕ). Q (n, v)) (exact_unsigned k e.0 found) is, all.1)
    by Greater found rest = (all.0, rest)

pub at_entry : {V : Type 0} (Q : ℕ × V → Type 0) (k : ℕ) (v : V) (es : List (ℕ × V)) → AllByRecursion Q es → lookup (is_number k) es ≡ Some v → Q (k, v)
at_entry Q k v [] all found = absurd (none-some v found)
at_entry {V = V} Q k v (e ∷ es) all found =
    elim (cases_Bool (is_number k e.0)) [
      | inl here ↦
          let same : e.1 ≡ v = same_Some e.1 v (rw here at found) in
          let key : e.0 ≡ k = sym (number_same k e.0 here) in
          subst (λ (n : ℕ). Q (n, v)) key (subst (λ (x : V). Q (e.0, x)) same all.0)
      | inr other ↦ at_entry Q k v es all.1 (rw other at found)
    ]

pub none_there : {V : Type 0} (k : ℕ) (es : List (ℕ × V)) → lookup (is_number k) es ≡ None → AllByRecursion (λ (e : ℕ × V). is_number k e.0 ≡ false) es
none_there k [] none = tt
none_there k (e ∷ es) none =
    elim (cases_Bool (is_number k e.0)) [
      | inl here ↦ absurd (none-some e.1 (sym (rw here at none)))
      | inr other ↦ (other, none_there k es (rw other at none))
    ]

other_set : {V : Type 0} (j k : ℕ) (v : V) (es : List (ℕ × V)) → is_number j k ≡ false → lookup (is_number j) (set_value (is_number k) es v) ≡ lookup (is_number j) es
other_set j k v [] apart = refl
other_set j k v (e ∷ es) apart =
    elim (cases_Bool (is_number k e.0)) [
      | inl here ↦
          let not_j : is_number j e.0 ≡ false = subst (λ n. is_number j n ≡ false) (number_same k e.0 here) apart in
          rw (here, not_j) refl
      | inr elsewhere ↦ rw elsewhere (elim (cases_Bool (is_number j e.0)) [ inl found ↦ rw found refl | inr other ↦ rw other (other_set j k v es apart) ])
    ]

other_inserted : {V : Type 0} (j k : ℕ) (v : V) (es : List (ℕ × V)) → is_number j k ≡ false → lookup (is_number j) (insert_entry nat_cmp es k v) ≡ lookup (is_number j) es
other_inserted j k v [] apart = rw apart refl
other_inserted {V = V} j k v (e ∷ es) apart = by (nat_cmp k e.0) refl (other_inserted j k v es apart)
  where
    by : (o : Ordering) → nat_cmp k e.0 ≡ o → lookup (is_number j) (insert_entry nat_cmp es k v) ≡ lookup (is_number j) es
        → lookup (is_number j) (match_ordering o ((k, v) ∷ e ∷ es) ((e.0, v) ∷ es) (e ∷ insert_entry nat_cmp es k v)) ≡ lookup (is_number j) (e ∷ es)
    by Less found rest = rw apart refl
    by Equal found rest = (let not_j : is_number j e.0 ≡ false = subst (λ n. is_number j n ≡ false) (exact_unsigned k e.0 found) apart in rw not_j refl)
    by Greater found rest = elim (cases_Bool (is_number j e.0)) [ inl here ↦ rw here refl | inr other ↦ rw other rest ]

-- ---- sessions on a connection

abbrev pub NoneAt : {A : Type 0} → ℕ → List (Session A) → Type 0
NoneAt {A = A} k ss = AllByRecursion (λ (s : Session A). is_at k s ≡ false) ss

abbrev pub AtMostOneAt : {A : Type 0} → ℕ → List (Session A) → Type 0
AtMostOneAt k [] = Unit {0}
AtMostOneAt k (s ∷ ss) = (is_at k s ≡ true → NoneAt k ss) × AtMostOneAt k ss

one_kept : {A : Type 0} (k : ℕ) (p : Session A → Bool) (ss : List (Session A)) → AtMostOneAt k ss → AtMostOneAt k (filter p ss)
one_kept k p [] one = tt
one_kept k p (s ∷ ss) one =
    elim (cases_Bool (p s)) [
      | inl stays ↦ rw stays (λ is. all_kept (λ (t : Session _). is_at k t ≡ false) p ss (one.0 is), one_kept k p ss one.1)
      | inr goes ↦ rw goes (one_kept k p ss one.1)
    ]

-- what a change puts on no connection
abbrev Puts : {A : Type 0} → ℕ → (Session A → Session A) → Type 0
Puts {A = A} k g = (s : Session A) → is_at k (g s) ≡ true → is_at k s ≡ true

still_off : {A : Type 0} (k : ℕ) (g : Session A → Session A) → Puts k g → (s : Session A) → is_at k s ≡ false → is_at k (g s) ≡ false
still_off k g puts s off = elim (cases_Bool (is_at k (g s))) [ inl on ↦ absurd (false≢true (sym off ∙ puts s on)) | inr is ↦ is ]

none_mapped : {A : Type 0} (k : ℕ) (g : Session A → Session A) → Puts k g → (ss : List (Session A)) → NoneAt k ss → NoneAt k (map g ss)
none_mapped k g puts ss none = all_mapped (λ (t : Session _). is_at k t ≡ false) (λ (t : Session _). is_at k t ≡ false) g (still_off k g puts) ss none

one_mapped : {A : Type 0} (k : ℕ) (g : Session A → Session A) → Puts k g → (ss : List (Session A)) → AtMostOneAt k ss → AtMostOneAt k (map g ss)
one_mapped k g puts [] one = tt
one_mapped k g puts (s ∷ ss) one = (λ is. none_mapped k g puts ss (one.0 (puts s is)), one_mapped k g puts ss one.1)

one_more : {A : Type 0} (k : ℕ) (ss : List (Session A)) (t : Session A) → AtMostOneAt k ss → (is_at k t ≡ true → NoneAt k ss) → AtMostOneAt k (ss ++ t ∷ [])
one_more k [] t one alone = (λ is. tt, tt)
one_more k (s ∷ ss) t one alone =
    (λ is. all_more (λ (x : Session _). is_at k x ≡ false) ss t (one.0 is) (elim (cases_Bool (is_at k t)) [ inl on ↦ absurd (false≢true (sym (alone on).0 ∙ is)) | inr off ↦ off ]), one_more k ss t one.1 (λ on. (alone on).1))

pub none_found : {A : Type 0} (k : ℕ) (ss : List (Session A)) → session_at k ss ≡ None → NoneAt k ss
none_found k [] none = tt
none_found k (s ∷ ss) none =
    elim (cases_Bool (is_at k s)) [
      | inl here ↦ absurd (none-some s (sym (rw here at none)))
      | inr other ↦ (other, none_found k ss (rw other at none))
    ]

none_left : {A : Type 0} (k : ℕ) (ss : List (Session A)) → NoneAt k (without_at k ss)
none_left k [] = tt
none_left k (s ∷ ss) =
    elim (cases_Bool (is_at k s)) [
      | inl here ↦ rw here (none_left k ss)
      | inr other ↦ rw other (other, none_left k ss)
    ]

-- ---- a session that loses its connection

park_off : {A : Type 0} (k n now : ℕ) (s : Session A) → is_at k s ≡ false → is_at k (cond (s.shown.number == n) (parked now s) s) ≡ false
park_off k n now s off = elim (cases_Bool (s.shown.number == n)) [ inl is ↦ rw is refl | inr other ↦ rw other off ]

parks : {A : Type 0} (k n now : ℕ) → Puts {A = A} k (λ s. cond (s.shown.number == n) (parked now s) s)
parks k n now s on = elim (cases_Bool (s.shown.number == n)) [ inl is ↦ absurd (false≢true (rw is at on)) | inr other ↦ rw other at on ]

none_parked : {A : Type 0} (k now : ℕ) (ss : List (Session A)) (t : Session A) → find (is_at k) ss ≡ Some t → AtMostOneAt k ss → NoneAt k (with_session t.shown.number (parked now) ss)
none_parked k now [] t found one = tt
none_parked {A = A} k now (s ∷ ss) t found one =
    elim (cases_Bool (is_at k s)) [
      | inl here ↦
          let same : s ≡ t = same_Some s t (rw here at found) in
          let number : (s.shown.number == t.shown.number) ≡ true = eq-eqb s.shown.number t.shown.number (ap (λ (x : Session A). x.shown.number) same) in
          (rw number refl, none_mapped k (λ x. cond (x.shown.number == t.shown.number) (parked now x) x) (parks k t.shown.number now) ss (one.0 here))
      | inr other ↦ (park_off k t.shown.number now s other, none_parked k now ss t (rw other at found) one.1)
    ]

none_ended : {A : Type 0} (k : ℕ) (ss : List (Session A)) (t : Session A) → find (is_at k) ss ≡ Some t → AtMostOneAt k ss → NoneAt k (without t.shown.number ss)
none_ended k [] t found one = tt
none_ended {A = A} k (s ∷ ss) t found one =
    elim (cases_Bool (is_at k s)) [
      | inl here ↦
          let same : s ≡ t = same_Some s t (rw here at found) in
          let number : (s.shown.number == t.shown.number) ≡ true = eq-eqb s.shown.number t.shown.number (ap (λ (x : Session A). x.shown.number) same) in
          rw number (all_kept (λ (x : Session A). is_at k x ≡ false) (λ x. not (x.shown.number == t.shown.number)) ss (one.0 here))
      | inr other ↦
          let rest = none_ended k ss t (rw other at found) one.1 in
          elim (cases_Bool (s.shown.number == t.shown.number)) [ inl ends ↦ rw ends rest | inr stays ↦ rw stays (other, rest) ]
    ]

none_either : {A : Type 0} (k : ℕ) (b : Bool) (x y : List (Session A)) → NoneAt k x → NoneAt k y → NoneAt k (cond b x y)
none_either k true x y here there = here
none_either k false x y here there = there

pub none_lost : {A : Type 0} (k now : ℕ) (o : Option (Session A)) (ss : List (Session A)) → session_at k ss ≡ o → AtMostOneAt k ss → NoneAt k (lost now o ss)
none_lost k now None ss is one = none_found k ss is
none_lost k now (Some t) ss is one = none_either k t.shown.resumable _ _ (none_parked k now ss t is one) (none_ended k ss t is one)

-- ---- what is so of sessions and connections

-- the connection is logged in as the account, and awaits what its session says
abbrev pub IsReadyAt : ℕ → ℕ → List (ℕ × Connection) → Type 0
IsReadyAt j account cs = (c : Connection) × (lookup (is_number j) cs ≡ Some c) × (c.phase ≡ phase.Ready account)

abbrev pub IsSeated : {A : Type 0} → List (ℕ × Connection) → Session A → Type 0
IsSeated cs s = (j : ℕ) → s.shown.conn ≡ Some j → IsReadyAt j s.shown.account cs

-- what a phase stands on: C of what was drawn for a connection, P of whose password was proved on it
abbrev pub IsBackedBy : (ℕ → List ℕ → Type 0) → (ℕ → ℕ → Type 0) → List Account → ℕ → Phase → Type 0
IsBackedBy C P accounts k phase.Start = Unit {0}
IsBackedBy C P accounts k phase.Login = Unit {0}
IsBackedBy C P accounts k (phase.Challenge n) = (entropy : List ℕ) × C k entropy × IsExchange accounts entropy n
IsBackedBy C P accounts k (phase.Restart account) = P k account
IsBackedBy C P accounts k (phase.Ready account) = P k account

abbrev pub WasDrawn : (ℕ → List ℕ → Type 0) → ℕ × Connection → Type 0
WasDrawn C e = C e.0 e.1.entropy

abbrev pub StandsOn : (ℕ → List ℕ → Type 0) → (ℕ → ℕ → Type 0) → List Account → ℕ × Connection → Type 0
StandsOn C P accounts e = IsBackedBy C P accounts e.0 e.1.phase

-- where B holds, no session is on the connection k
pub record Holds {A : Type 0} (C : ℕ → List ℕ → Type 0) (P : ℕ → ℕ → Type 0) (accounts : List Account) (B : Type 0) (k : ℕ) (ss : List (Session A)) (cs : List (ℕ × Connection)) : Type 0 where
  pub single : (j : ℕ) → AtMostOneAt j ss
  pub seated : AllByRecursion (IsSeated cs) ss
  pub drawn : AllByRecursion (WasDrawn C) cs
  pub logins : AllByRecursion (StandsOn C P accounts) cs
  pub empty : B → NoneAt k ss

seated_apart : {A : Type 0} (k : ℕ) (cs ds : List (ℕ × Connection)) → ((j : ℕ) → is_number j k ≡ false → lookup (is_number j) ds ≡ lookup (is_number j) cs) → (ss : List (Session A)) → AllByRecursion (IsSeated cs) ss → NoneAt k ss → AllByRecursion (IsSeated ds) ss
seated_apart k cs ds same [] all none = tt
seated_apart k cs ds same (s ∷ ss) all none = (
  λ j on. let apart : (j == k) ≡ false = sym (ap (is_some_number k) on) ∙ none.0 in
      let ready = all.0 j on in
      (ready.0, same j (number_apart j k apart) ∙ ready.1, ready.2),
  seated_apart k cs ds same ss all.1 none.1,
)

module _ {A : Type 0} (C : ℕ → List ℕ → Type 0) (P : ℕ → ℕ → Type 0) (accounts : List Account) (B : Type 0) (k : ℕ) where
  pub holds_some : (p : Session A → Bool) (ss : List (Session A)) (cs : List (ℕ × Connection)) → Holds C P accounts B k ss cs → Holds C P accounts B k (filter p ss) cs
  holds_some p ss cs held = record {
    single = λ j. one_kept j p ss (held.single j);
    seated = all_kept (IsSeated cs) p ss held.seated;
    drawn = held.drawn;
    logins = held.logins;
    empty = λ b. all_kept (λ (s : Session A). is_at k s ≡ false) p ss (held.empty b);
  }

  puts_nowhere : (j n : ℕ) (f : Session A → Session A) → ((s : Session A) → (f s).shown.conn ≡ s.shown.conn) → Puts j (λ s. cond (s.shown.number == n) (f s) s)
  puts_nowhere j n f conn s on =
      elim (cases_Bool (s.shown.number == n)) [
        | inl is ↦ (let after : is_at j (f s) ≡ true = rw is at on in sym (ap (is_some_number j) (conn s)) ∙ after)
        | inr other ↦ rw other at on
      ]

  seated_same : (cs : List (ℕ × Connection)) (n : ℕ) (f : Session A → Session A) → ((s : Session A) → (f s).shown.conn ≡ s.shown.conn) → ((s : Session A) → (f s).shown.account ≡ s.shown.account) → (s : Session A) → IsSeated cs s → IsSeated cs (cond (s.shown.number == n) (f s) s)
  seated_same cs n f conn account s is =
      elim (cases_Bool (s.shown.number == n)) [
        | inl here ↦ rw here (λ j on. subst (λ (a : ℕ). IsReadyAt j a cs) (sym (account s)) (is j (sym (conn s) ∙ on)))
        | inr other ↦ rw other is
      ]

  -- a session is changed, but for its connection and its account
  pub holds_changed : (n : ℕ) (f : Session A → Session A) → ((s : Session A) → (f s).shown.conn ≡ s.shown.conn) → ((s : Session A) → (f s).shown.account ≡ s.shown.account) → (ss : List (Session A)) (cs : List (ℕ × Connection))
      → Holds C P accounts B k ss cs → Holds C P accounts B k (with_session n f ss) cs
  holds_changed n f conn account ss cs held =
      let g = λ (s : Session A). cond (s.shown.number == n) (f s) s in
      record {
        single = λ j. one_mapped j g (puts_nowhere j n f conn) ss (held.single j);
        seated = all_mapped (IsSeated cs) (IsSeated cs) g (seated_same cs n f conn account) ss held.seated;
        drawn = held.drawn;
        logins = held.logins;
        empty = λ b. none_mapped k g (puts_nowhere k n f conn) ss (held.empty b);
      }

  -- a connection is shut
  pub holds_shut : (j : ℕ) (ss : List (Session A)) (cs : List (ℕ × Connection)) → Holds C P accounts B k ss cs → Holds C P accounts B k (without_at j ss) (remove_entry (is_number j) cs)
  holds_shut j ss cs held =
      let some = holds_some (λ s. not (is_at j s)) ss cs held in
      record {
        single = some.single;
        seated = seated_apart j cs (remove_entry (is_number j) cs) (λ x apart. other_stays x j cs apart) (without_at j ss) some.seated (none_left j ss);
        drawn = all_removed (WasDrawn C) j cs held.drawn;
        logins = all_removed (StandsOn C P accounts) j cs held.logins;
        empty = some.empty;
      }

  seated_parked : (cs : List (ℕ × Connection)) (n now : ℕ) (s : Session A) → IsSeated cs s → IsSeated cs (cond (s.shown.number == n) (parked now s) s)
  seated_parked cs n now s is =
      elim (cases_Bool (s.shown.number == n)) [
        | inl here ↦ rw here (λ j on. absurd (none-some j on))
        | inr other ↦ rw other is
      ]

  holds_lost : (now : ℕ) (o : Option (Session A)) (ss : List (Session A)) (cs : List (ℕ × Connection)) → Holds C P accounts B k ss cs → Holds C P accounts B k (lost now o ss) cs
  holds_lost now None ss cs held = held
  holds_lost now (Some t) ss cs held = either t.shown.resumable
    where
      either : (b : Bool) → Holds C P accounts B k (cond b (with_session t.shown.number (parked now) ss) (without t.shown.number ss)) cs
      either true = record {
        single = λ j. one_mapped j (λ s. cond (s.shown.number == t.shown.number) (parked now s) s) (parks j t.shown.number now) ss (held.single j);
        seated = all_mapped (IsSeated cs) (IsSeated cs) (λ (s : Session A). cond (s.shown.number == t.shown.number) (parked now s) s) (seated_parked cs t.shown.number now) ss held.seated;
        drawn = held.drawn;
        logins = held.logins;
        empty = λ b. none_mapped k (λ s. cond (s.shown.number == t.shown.number) (parked now s) s) (parks k t.shown.number now) ss (held.empty b);
      }
      either false = holds_some (λ s. not (s.shown.number == t.shown.number)) ss cs held

  -- a connection is gone
  pub holds_gone : (j now : ℕ) (ss : List (Session A)) (cs : List (ℕ × Connection)) → Holds C P accounts B k ss cs → Holds C P accounts B k (lost now (session_at j ss) ss) (remove_entry (is_number j) cs)
  holds_gone j now ss cs held =
      let some = holds_lost now (session_at j ss) ss cs held in
      record {
        single = some.single;
        seated = seated_apart j cs (remove_entry (is_number j) cs) (λ x apart. other_stays x j cs apart) (lost now (session_at j ss) ss) some.seated (none_lost j now (session_at j ss) ss refl (held.single j));
        drawn = all_removed (WasDrawn C) j cs held.drawn;
        logins = all_removed (StandsOn C P accounts) j cs held.logins;
        empty = some.empty;
      }

  -- a connection without a session stands in another phase
  pub holds_entered : (f : Connection → Connection) → ((c : Connection) → (f c).entropy ≡ c.entropy) → ((c : Connection) → IsBackedBy C P accounts k (f c).phase) → (o : Option Connection) (ss : List (Session A)) (cs : List (ℕ × Connection))
      → lookup (is_number k) cs ≡ o → NoneAt k ss → Holds C P accounts B k ss cs → Holds C P accounts B k ss (changed k f o cs)
  holds_entered f entropy backed None ss cs is none held = held
  holds_entered f entropy backed (Some c) ss cs is none held = record {
    single = held.single;
    seated = seated_apart k cs (set_value (is_number k) cs (f c)) (λ x apart. other_set x k (f c) cs apart) ss held.seated none;
    drawn = all_set (WasDrawn C) k (f c) cs (subst (C k) (sym (entropy c)) (at_entry (WasDrawn C) k c cs held.drawn is)) held.drawn;
    logins = all_set (StandsOn C P accounts) k (f c) cs (backed c) held.logins;
    empty = held.empty;
  }

  -- ---- a session comes on the connection

  holds_less : (o : Option (Session A)) (ss : List (Session A)) (cs : List (ℕ × Connection)) → Holds C P accounts B k ss cs → Holds C P accounts B k (less o ss) cs
  holds_less None ss cs held = held
  holds_less (Some s) ss cs held = holds_some (λ t. not (t.shown.number == s.shown.number)) ss cs held

  none_less : (o : Option (Session A)) (ss : List (Session A)) → NoneAt k ss → NoneAt k (less o ss)
  none_less None ss none = none
  none_less (Some s) ss none = all_kept (λ (t : Session A). is_at k t ≡ false) (λ t. not (t.shown.number == s.shown.number)) ss none

  pub holds_bound : (n account : ℕ) (resource : List ℕ) (ss : List (Session A)) (cs : List (ℕ × Connection)) → (B → ⊥) → NoneAt k ss → IsReadyAt k account cs → Holds C P accounts B k ss cs
      → Holds C P accounts B k (bound n account resource k ss) cs
  holds_bound n account resource ss cs not_b none ready held =
      let old = session_named account resource ss in
      let some = holds_less old ss cs held in
      let new = fresh {A = A} n account resource k in
      record {
        single = λ j. one_more j (less old ss) new (some.single j) (λ on. subst (λ (x : ℕ). NoneAt x (less old ss)) (eqb-true k j on) (none_less old ss none));
        seated = all_more (IsSeated cs) (less old ss) new some.seated (λ j on. subst (λ (x : ℕ). IsReadyAt x account cs) (same_Some k j on) ready);
        drawn = held.drawn;
        logins = held.logins;
        empty = λ b. absurd (not_b b);
      }

  -- ---- a session is resumed

  resume_puts : (j n h : ℕ) → (k == j) ≡ false → Puts {A = A} j (λ s. cond (s.shown.number == n) (resumes h k s) s)
  resume_puts j n h apart s on =
      elim (cases_Bool (s.shown.number == n)) [
        | inl is ↦ (let after : (k == j) ≡ true = rw is at on in absurd (false≢true (sym apart ∙ after)))
        | inr other ↦ rw other at on
      ]

  -- behind the number none is resumed
  none_behind : (h n from next : ℕ) (ss : List (Session A)) → n < from → Rise from next ss → NoneAt k ss → NoneAt k (with_session n (resumes h k) ss)
  none_behind h n from next [] below rise none = tt
  none_behind h n from next (s ∷ ss) below rise none =
      let first = rise.0 in
      let apart : (s.shown.number == n) ≡ false = ne_eqb s.shown.number n (λ is. omega (arith, is, below, first)) in
      (rw apart none.0, none_behind h n (s.shown.number + 1) next ss (omega (arith, below, first)) rise.1 none.1)

  one_resumed : (h n from next : ℕ) (ss : List (Session A)) → Rise from next ss → NoneAt k ss → AtMostOneAt k (with_session n (resumes h k) ss)
  one_resumed h n from next [] rise none = tt
  one_resumed h n from next (s ∷ ss) rise none =
      elim (cases_Bool (s.shown.number == n)) [
        | inl is ↦
            let same : s.shown.number ≡ n = eqb-true s.shown.number n is in
            (λ on. none_behind h n (s.shown.number + 1) next ss (omega (arith, same)) rise.1 none.1, one_resumed h n (s.shown.number + 1) next ss rise.1 none.1)
        | inr other ↦ (λ on. absurd (false≢true (sym none.0 ∙ (rw other at on))), one_resumed h n (s.shown.number + 1) next ss rise.1 none.1)
      ]

  -- the session with the number is the one that is resumed, so of its account
  seated_resumed : (h : ℕ) (t : Session A) (all ss : List (Session A)) (cs : List (ℕ × Connection)) → session_of t.shown.number all ≡ Some t → IsReadyAt k t.shown.account cs → AllByRecursion (Lives all) ss → AllByRecursion (IsSeated cs) ss
      → AllByRecursion (IsSeated cs) (with_session t.shown.number (resumes h k) ss)
  seated_resumed h t all [] cs is ready live seated = tt
  seated_resumed h t all (s ∷ ss) cs is ready live seated =
      let rest = seated_resumed h t all ss cs is ready live.1 seated.1 in
      elim (cases_Bool (s.shown.number == t.shown.number)) [
        | inl here ↦
            let number : s.shown.number ≡ t.shown.number = eqb-true s.shown.number t.shown.number here in
            let same : s ≡ t = same_Some s t (sym live.0 ∙ ap (λ n. session_of n all) number ∙ is) in
            let owner : t.shown.account ≡ s.shown.account = sym (ap (λ (x : Session A). x.shown.account) same) in
            (rw here (λ j on. subst (λ (x : ℕ). IsReadyAt x s.shown.account cs) (same_Some k j on) (subst (λ (a : ℕ). IsReadyAt k a cs) owner ready)), rest)
        | inr other ↦ (rw other seated.0, rest)
      ]

  holds_resumes : (h next account : ℕ) (t : Session A) (ss : List (Session A)) (cs : List (ℕ × Connection)) → (B → ⊥) → Rise 1 next ss → NoneAt k ss → session_of t.shown.number ss ≡ Some t → IsReadyAt k t.shown.account cs
      → Holds C P accounts B k ss cs → Holds C P accounts B k (with_session t.shown.number (resumes h k) ss) cs
  holds_resumes h next account t ss cs not_b rise none found ready held = record {
    single = λ j. elim (cases_Bool (k == j)) [
      | inl is ↦ subst (λ (x : ℕ). AtMostOneAt x (with_session t.shown.number (resumes h k) ss)) (eqb-true k j is) (one_resumed h t.shown.number 1 next ss rise none)
      | inr apart ↦ one_mapped j (λ s. cond (s.shown.number == t.shown.number) (resumes h k s) s) (resume_puts j t.shown.number h apart) ss (held.single j)
    ];
    seated = seated_resumed h t ss ss cs found ready (living ss ss (all_found next 1 ss (rises 1 next ss rise))) held.seated;
    drawn = held.drawn;
    logins = held.logins;
    empty = λ b. absurd (not_b b);
  }

  pub holds_resumed : (h next account : ℕ) (previd : List ℕ) (o : Option (Session A)) (ss : List (Session A)) (cs : List (ℕ × Connection)) → session_resumed previd account ss ≡ o → (B → ⊥) → Rise 1 next ss → NoneAt k ss → IsReadyAt k account cs
      → Holds C P accounts B k ss cs → Holds C P accounts B k (after_resume h k o ss) cs
  holds_resumed h next account previd None ss cs is not_b rise none ready held = held
  holds_resumed h next account previd (Some t) ss cs is not_b rise none ready held = either (is_too_high h t)
    where
      live : AllByRecursion (Lives ss) ss
      live = living ss ss (all_found next 1 ss (rises 1 next ss rise))

      found : (is_resumed_by previd account t ≡ true) × Lives ss t
      found = found_has (Lives ss) (is_resumed_by previd account) ss t live is

      owner : account ≡ t.shown.account
      owner = sym (eqb-true t.shown.account account (second _ (t.shown.account == account) t.shown.resumable found.0))

      either : (b : Bool) → Holds C P accounts B k (cond b (without t.shown.number ss) (with_session t.shown.number (resumes h k) ss)) cs
      either true = holds_some (λ s. not (s.shown.number == t.shown.number)) ss cs held
      either false = holds_resumes h next account t ss cs not_b rise none found.1 (subst (λ (a : ℕ). IsReadyAt k a cs) owner ready) held

  -- ---- a connection comes

  pub holds_fresh : (j : ℕ) (c : Connection) (ss : List (Session A)) (cs : List (ℕ × Connection)) → lookup (is_number j) cs ≡ None → WasDrawn C (j, c) → StandsOn C P accounts (j, c)
      → Holds C P accounts B k ss cs → Holds C P accounts B k ss (insert_entry nat_cmp cs j c)
  holds_fresh j c ss cs none drawn stands held = record {
    single = held.single;
    seated = seated_apart j cs (insert_entry nat_cmp cs j c) (λ x apart. other_inserted x j c cs apart) ss held.seated (none_seated ss held.seated);
    drawn = all_inserted (WasDrawn C) j c cs drawn held.drawn;
    logins = all_inserted (StandsOn C P accounts) j c cs stands held.logins;
    empty = held.empty;
  }
    where
      off : (s : Session A) → IsSeated cs s → is_at j s ≡ false
      off s is = elim (cases_Bool (is_at j s)) [
        | inl on ↦ (let ready = is j (conn_is j s.shown.conn on) in absurd (none-some ready.0 (sym none ∙ ready.1)))
        | inr not_on ↦ not_on
      ]

      none_seated : (ts : List (Session A)) → AllByRecursion (IsSeated cs) ts → NoneAt j ts
      none_seated [] all = tt
      none_seated (t ∷ ts) all = (off t all.0, none_seated ts all.1)
