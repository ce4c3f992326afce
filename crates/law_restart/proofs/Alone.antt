-- One session at most on a connection: said of each session, from what is kept of each connection.
use Rattle.std.proofs.Common.{◌≡◌, ℕ, true, false, List, [], ◌∷◌, Some, sym, ap, refl, ◌∙◌, eq-eqb, inl, inr}
use Rattle.std.proofs.lemmas.Bool.{cases_Bool, false≢true}
use Rattle.std.specs.List.{AllByRecursion}
use Rattle.law_restart.specs.Standing.{IsAlone}
use Rattle.law_server.proofs.Seats.{AtMostOneAt, NoneAt}
use Rattle.sm_live.specs.Sessions.{Session, is_at}
use Rattle.sm_resumption.specs.Rows.{is_some_number}

on_it : {A : Type 0} (k : ℕ) (s : Session A) → s.shown.conn ≡ Some k → is_at k s ≡ true
on_it k s on = ap (is_some_number k) on ∙ eq-eqb k k refl

-- another session stands before them
behind : {A : Type 0} (x : Session A) (ss ts : List (Session A)) → ((k : ℕ) → is_at k x ≡ true → NoneAt k ts) → AllByRecursion (IsAlone ss) ts → AllByRecursion (IsAlone (x ∷ ss)) ts
behind x ss [] none all = tt
behind x ss (t ∷ ts) none all = (
  λ k on. elim (cases_Bool (is_at k x)) [
    | inl here ↦ absurd (false≢true (sym (none k here).0 ∙ on_it k t on))
    | inr other ↦ rw other (all.0 k on)
  ],
  behind x ss ts (λ k here. (none k here).1) all.1,
)

pub all_alone : {A : Type 0} (ss : List (Session A)) → ((k : ℕ) → AtMostOneAt k ss) → AllByRecursion (IsAlone ss) ss
all_alone [] one = tt
all_alone (s ∷ ss) one = (λ k on. (let here = on_it k s on in rw here refl), behind s ss ss (λ k here. (one k).0 here) (all_alone ss (λ k. (one k).1)))
