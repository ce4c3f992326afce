-- What the small steps leave as it was.
use Rattle.std.proofs.Common.{◌≡◌, ℕ, ◌==◌, Bool, true, false, not, List, [], ◌∷◌, Some, refl, ap, subst, ◌∙◌, inl, inr}
use Rattle.std.proofs.lemmas.Bool.{cases_Bool, false≢true}
use Rattle.std.proofs.lemmas.Option.{same_Some}
use Rattle.std.proofs.lemmas.Map.Lookups.{exact_unsigned}
use Rattle.std.specs.List.{filter, find}
use Rattle.std.specs.Map.{lookup, remove_entry}
use Rattle.std.specs.Ordering.{is_eq, nat_cmp}
use Rattle.std.specs.declared.cmp.Ordering.{Ordering}
use Rattle.std.specs.declared.cmp.Ordering.TheVariants.{Equal, Greater, Less}
use Rattle.srv_state.specs.State.{Step, conn_at, is_number}
use Rattle.srv_state.specs.Steps.{shut}
use Rattle.srv_state.specs.declared.connection.Connection.{Connection}
use Rattle.sm_live.specs.Sessions.{Session, is_at, is_numbered, session_of, with_session}
use Rattle.sm_resumption.proofs.RowFacts.{same_from_eqb}

pub equal_is : (o : Ordering) → is_eq o ≡ true → o ≡ Equal
equal_is Less h = absurd (false≢true h)
equal_is Equal h = refl
equal_is Greater h = absurd (false≢true h)

pub other_stays : (k j : ℕ) (es : List (ℕ × Connection)) → is_number k j ≡ false → lookup (is_number k) (remove_entry (is_number j) es) ≡ lookup (is_number k) es
other_stays k j [] apart = refl
other_stays k j (e ∷ es) apart =
    elim (cases_Bool (is_number j e.0)) [
      | inl here ↦
          let not_k : is_number k e.0 ≡ false = subst (λ n. is_number k n ≡ false) (exact_unsigned j e.0 (equal_is (nat_cmp j e.0) here)) apart in
          rw (here, not_k) refl
      | inr elsewhere ↦ rw elsewhere (elim (cases_Bool (is_number k e.0)) [ inl found ↦ rw found refl | inr other ↦ rw other (other_stays k j es apart) ])
    ]

pub conn_left : {A : Type 0} (k j : ℕ) (s : Step A) → is_number k j ≡ false → conn_at k (shut j s).server_state ≡ conn_at k s.server_state
conn_left k j s apart = other_stays k j s.server_state.conns apart

pub found_kept : {A : Type 0} (p q : Session A → Bool) (ss : List (Session A)) (t : Session A) → find p ss ≡ Some t → q t ≡ true → find p (filter q ss) ≡ Some t
found_kept p q [] t is kept = is
found_kept p q (s ∷ ss) t is kept =
    elim (cases_Bool (p s)) [
      | inl here ↦
          let same : s ≡ t = same_Some s t (rw here at is) in
          let stays : q s ≡ true = ap q same ∙ kept in
          rw (stays, here) (ap Some same)
      | inr other ↦
          let rest = found_kept p q ss t (rw other at is) kept in
          elim (cases_Bool (q s)) [ inl stays ↦ rw (stays, other) rest | inr gone ↦ rw gone rest ]
    ]

pub session_left : {A : Type 0} (n j : ℕ) (t : Session A) (s : Step A) → session_of n s.server_state.sessions ≡ Some t → is_at j t ≡ false → session_of n (shut j s).server_state.sessions ≡ Some t
session_left n j t s is apart = found_kept (is_numbered n) (λ u. not (is_at j u)) s.server_state.sessions t is (ap not apart)

pub others_left : {A : Type 0} (m n : ℕ) (f : Session A → Session A) (ss : List (Session A)) → ((s : Session A) → (f s).shown.number ≡ s.shown.number) → (m == n) ≡ false → session_of m (with_session n f ss) ≡ session_of m ss
others_left m n f [] same apart = refl
others_left m n f (s ∷ ss) same apart =
    let rest = others_left m n f ss same apart in
    elim (cases_Bool (s.shown.number == m)) [
      | inl here ↦
          let not_n : (s.shown.number == n) ≡ false = ap (λ x. x == n) (same_from_eqb s.shown.number m here) ∙ apart in
          rw (not_n, here) refl
      | inr other ↦
          let after : ((f s).shown.number == m) ≡ false = ap (λ x. x == m) (same s) ∙ other in
          elim (cases_Bool (s.shown.number == n)) [ inl changed ↦ rw (changed, after, other) rest | inr kept ↦ rw (kept, other) rest ]
    ]
