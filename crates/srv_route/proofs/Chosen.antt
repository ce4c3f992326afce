-- What is chosen by numbers are the sessions that pass the test.
use Rattle.std.proofs.Common.{◌≡◌, ℕ, ◌+◌, ◌<◌, Bool, false, List, [], ◌∷◌, Option, Some, None, map, ap, sym, refl, inl, inr, arith}
use Rattle.std.proofs.lemmas.Bool.{cases_Bool, eq-eqb, ne_eqb}
use Rattle.std.proofs.lemmas.Option.{none-some, same_Some}
use Rattle.std.specs.List.{filter}
use Rattle.std.specs.Option.{option_map}
use Rattle.sm_live.specs.Rule.{RisesTo}
use Rattle.sm_live.specs.Sessions.{Session, is_of, number_of, session_of, sessions_of}
use Rattle.sm_resumption.specs.declared.session.SessionView.{SessionView}
use Rattle.srv_route.specs.Choices.{chosen, passes}

pub told_passes : {A : Type 0} (p : SessionView → Bool) (v : SessionView) (o : Option (Session A)) → Some v ≡ option_map (λ (t : Session A). t.shown) o → p v ≡ passes p o
told_passes p v None is = absurd (none-some v (sym is))
told_passes p v (Some t) is = ap p (same_Some v t.shown is)

pub untold_passes : {A : Type 0} (p : SessionView → Bool) (o : Option (Session A)) → None ≡ option_map (λ (t : Session A). t.shown) o → false ≡ passes p o
untold_passes p None is = refl
untold_passes p (Some t) is = absurd (none-some t.shown is)

-- each of these is found by its number
abbrev pub AreFound : {A : Type 0} → List (Session A) → List (Session A) → Type 0
AreFound sessions [] = Unit {0}
AreFound sessions (t ∷ ts) = (session_of t.shown.number sessions ≡ Some t) × AreFound sessions ts

-- those that come later are found behind one more
found_after : {A : Type 0} (next low : ℕ) (s : Session A) (sessions ts : List (Session A)) → RisesTo next low ts → s.shown.number < low → AreFound sessions ts → AreFound (s ∷ sessions) ts
found_after next low s sessions [] rise below found = tt
found_after next low s sessions (t ∷ ts) rise below found = (
  rw (ne_eqb s.shown.number t.shown.number (λ e. omega (arith, e, rise.0))) found.0,
  found_after next (t.shown.number + 1) s sessions ts rise.1 (omega (arith, rise.0)) found.1,
)

pub all_found : {A : Type 0} (next low : ℕ) (sessions : List (Session A)) → RisesTo next low sessions → AreFound sessions sessions
all_found next low [] rise = tt
all_found next low (s ∷ sessions) rise = (
  rw (eq-eqb s.shown.number s.shown.number refl) refl,
  found_after next (s.shown.number + 1) s sessions sessions rise.1 (omega arith) (all_found next (s.shown.number + 1) sessions rise.1),
)

pub filter_found : {A : Type 0} (p : Session A → Bool) (sessions ts : List (Session A)) → AreFound sessions ts → AreFound sessions (filter p ts)
filter_found p sessions [] found = tt
filter_found p sessions (t ∷ ts) found =
    elim (cases_Bool (p t)) [
      | inl passed ↦ rw passed (found.0, filter_found p sessions ts found.1)
      | inr failed ↦ rw failed (filter_found p sessions ts found.1)
    ]

pub chosen_map : {A : Type 0} (p : SessionView → Bool) (sessions ts : List (Session A)) → AreFound sessions ts → chosen p sessions (map number_of ts) ≡ map number_of (filter (λ t. p t.shown) ts)
chosen_map p sessions [] found = refl
chosen_map p sessions (t ∷ ts) found =
    elim (cases_Bool (p t.shown)) [
      | inl passed ↦ rw (found.0, passed) (ap (λ l. t.shown.number ∷ l) (chosen_map p sessions ts found.1))
      | inr failed ↦ rw (found.0, failed) (chosen_map p sessions ts found.1)
    ]

-- those of an account
pub chosen_of : {A : Type 0} (p : SessionView → Bool) (next low account : ℕ) (sessions : List (Session A)) → RisesTo next low sessions →
    chosen p sessions (map number_of (sessions_of account sessions)) ≡ map number_of (filter (λ t. p t.shown) (sessions_of account sessions))
chosen_of p next low account sessions rise = chosen_map p sessions (sessions_of account sessions) (filter_found (is_of account) sessions sessions (all_found next low sessions rise))
