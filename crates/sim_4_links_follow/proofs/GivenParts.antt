-- What one small step gives, and then those behind it.
use Rattle.std.proofs.Common.{◌≡◌, ℕ, cond, true, List, [], ◌∷◌, ◌++◌, Option, Some, None, refl, sym, ap, subst, ◌∙◌}
use Rattle.std.proofs.lemmas.List.{append-nil, append_assoc}
use Rattle.srv_state.specs.Steps.{Act, Copy, Present, Send}
use Rattle.sim_3_items.specs.Counted.{IsForClient}
use Rattle.srv_state.specs.Steps.{Archive, Handle, Tell}
use Rattle.sim_2_links.proofs.Entries.{other_number, same_number}
use Rattle.sim_2_links.specs.Views.{Row}
use Rattle.sim_4_links_follow.specs.Given.{IsGiven, sends_to, sent_to}
use Rattle.xml_writer.specs.Items.{ItemOut}

-- ---- whose session it is, by the device's row

-- it isn't the device's
abbrev pub IsNotOf : Option (Row ItemOut) → ℕ → Type 0
IsNotOf o n = (r : Row ItemOut) → o ≡ Some r → r.number ≡ n → ⊥

-- where it is, it is counted
abbrev pub IsCountedAt : Option (Row ItemOut) → ℕ → Type 0
IsCountedAt o n = (r : Row ItemOut) → o ≡ Some r → r.number ≡ n → r.counted ≡ true

-- what a row on a stanza does for the device: no stanza is for a session of it that isn't counted, and none of its own
-- is handled
abbrev pub IsFair : Option (Row ItemOut) → Act ItemOut → Type 0
IsFair o (Send n z) = IsForClient z × IsCountedAt o n
IsFair o (Present n available priority) = IsCountedAt o n
IsFair o (Copy n on) = IsCountedAt o n
IsFair o (Handle n) = IsNotOf o n
IsFair o (Archive account e) = Unit {0}
IsFair o (Tell from to origin) = Unit {0}
IsFair o _ = ⊥

-- a row behind is that of the session before
abbrev pub IsKeptRow : Option (Row ItemOut) → Option (Row ItemOut) → Type 0
IsKeptRow o p = (next : Row ItemOut) → p ≡ Some next → (r : Row ItemOut) × (o ≡ Some r) × (r.number ≡ next.number) × (r.counted ≡ next.counted)

pub row_same : (o : Option (Row ItemOut)) → IsKeptRow o o
row_same o r is = (r, is, refl, refl)

pub row_ended : (o : Option (Row ItemOut)) → IsKeptRow o None
row_ended o r is = absurd (let no_way : ⊥ = cc in no_way)

pub row_both : (o p q : Option (Row ItemOut)) → IsKeptRow o p → IsKeptRow p q → IsKeptRow o q
row_both o p q first then_so r is =
    let b = then_so r is in
    let a = first b.0 b.1 in
    (a.0, a.1, a.2 ∙ b.2, a.3 ∙ b.3)

counted_still : (o p : Option (Row ItemOut)) (n : ℕ) → IsKeptRow o p → IsCountedAt o n → IsCountedAt p n
counted_still o p n kept counted r is number = let a = kept r is in sym a.3 ∙ counted a.0 a.1 (a.2 ∙ number)

not_still : (o p : Option (Row ItemOut)) (n : ℕ) → IsKeptRow o p → IsNotOf o n → IsNotOf p n
not_still o p n kept apart r is number = let a = kept r is in apart a.0 a.1 (a.2 ∙ number)

pub fair_still : (o p : Option (Row ItemOut)) (act : Act ItemOut) → IsKeptRow o p → IsFair o act → IsFair p act
fair_still o p (Send n z) kept fair = (fair.0, counted_still o p n kept fair.1)
fair_still o p (Present n available priority) kept fair = counted_still o p n kept fair
fair_still o p (Copy n on) kept fair = counted_still o p n kept fair
fair_still o p (Handle n) kept fair = not_still o p n kept fair
fair_still o p (Archive account e) kept fair = tt
fair_still o p (Tell from to origin) kept fair = tt
fair_still o p _ kept fair = absurd fair

-- ---- what is given

pub sends_here : (n : ℕ) (z : ItemOut) → sends_to n (Send n z ∷ []) ≡ z ∷ []
sends_here n z = ap (λ b. cond b (z ∷ []) [] ++ []) (same_number n)

pub sends_elsewhere : (o : Option (Row ItemOut)) (n : ℕ) (z : ItemOut) → IsNotOf o n → (r : Row ItemOut) → o ≡ Some r → sends_to r.number (Send n z ∷ []) ≡ []
sends_elsewhere o n z apart r is = ap (λ b. cond b (z ∷ []) [] ++ []) (other_number n r.number (λ same. apart r is (sym same)))

-- nothing is sent to the session of the device
pub given_still : (acts : List (Act ItemOut)) (o : Option (Row ItemOut)) → ((r : Row ItemOut) → o ≡ Some r → sends_to r.number acts ≡ []) → IsGiven acts [] o o
given_still acts None none = (refl, refl)
given_still acts (Some r) none = (refl, sym (none r refl))

-- all of it is given
pub given_all : (acts : List (Act ItemOut)) (given : List ItemOut) (o : Option (Row ItemOut)) (r next : Row ItemOut) → o ≡ Some r → next.number ≡ r.number → given ≡ sends_to r.number acts → IsGiven acts given o (Some next)
given_all acts given o r next is number all = subst (λ p. IsGiven acts given p (Some next)) (sym is) (number, all)

-- one isn't
pub given_short : (acts : List (Act ItemOut)) (given : List ItemOut) (o : Option (Row ItemOut)) (r : Row ItemOut) (z : ItemOut) (missing : List ItemOut) → o ≡ Some r → sends_to r.number acts ≡ given ++ z ∷ missing → IsGiven acts given o None
given_short acts given o r z missing is short = subst (λ p. IsGiven acts given p None) (sym is) (z, missing, short)

module _ (act : Act ItemOut) (acts : List (Act ItemOut)) (some more : List ItemOut) where
  alone : (n : ℕ) → sends_to n (act ∷ []) ≡ sent_to n act
  alone n = append-nil (sent_to n act)

  -- the session ended at the first
  ended_first : (r : Row ItemOut) (q : Option (Row ItemOut)) → IsGiven (act ∷ []) some (Some r) None → (more ≡ []) × (q ≡ None) → IsGiven (act ∷ acts) (some ++ more) (Some r) q
  ended_first r q first rest =
      let short : sent_to r.number act ≡ some ++ first.0 ∷ first.1 = sym (alone r.number) ∙ first.2 in
      let none : some ++ more ≡ some = ap (λ l. some ++ l) rest.0 ∙ append-nil some in
      let moved : (some ++ first.0 ∷ first.1) ++ sends_to r.number acts ≡ some ++ first.0 ∷ (first.1 ++ sends_to r.number acts) = append_assoc some (first.0 ∷ first.1) (sends_to r.number acts) in
      let all : sent_to r.number act ++ sends_to r.number acts ≡ some ++ first.0 ∷ (first.1 ++ sends_to r.number acts) = ap (λ l. l ++ sends_to r.number acts) short ∙ moved in
      subst (IsGiven (act ∷ acts) (some ++ more) (Some r)) (sym rest.1) (
        first.0,
        first.1 ++ sends_to r.number acts,
        all ∙ ap (λ l. l ++ first.0 ∷ (first.1 ++ sends_to r.number acts)) (sym none),
      )

  -- it lives on behind the first
  lived_first : (r next : Row ItemOut) (q : Option (Row ItemOut)) → IsGiven (act ∷ []) some (Some r) (Some next) → IsGiven acts more (Some next) q → IsGiven (act ∷ acts) (some ++ more) (Some r) q
  lived_first r next None first rest =
      let all : some ≡ sent_to r.number act = first.1 ∙ alone r.number in (
        rest.0,
        rest.1,
        ap (λ n. sent_to r.number act ++ sends_to n acts) (sym first.0) ∙ ap (λ l. sent_to r.number act ++ l) rest.2 ∙ sym (append_assoc (sent_to r.number act) more (rest.0 ∷ rest.1)) ∙ ap (λ l. (l ++ more) ++ rest.0 ∷ rest.1) (sym all),
      )
  lived_first r next (Some last) first rest =
      let all : some ≡ sent_to r.number act = first.1 ∙ alone r.number in
      (rest.0 ∙ first.0, ap (λ l. l ++ more) all ∙ ap (λ l. sent_to r.number act ++ l) (rest.1 ∙ ap (λ n. sends_to n acts) first.0))

  pub given_both : (o p q : Option (Row ItemOut)) → IsGiven (act ∷ []) some o p → IsGiven acts more p q → IsGiven (act ∷ acts) (some ++ more) o q
  given_both None p q first rest =
      let then_so = subst (λ x. IsGiven acts more x q) first.1 rest in
      (ap (λ l. l ++ more) first.0 ∙ then_so.0, then_so.1)
  given_both (Some r) None q first rest = ended_first r q first rest
  given_both (Some r) (Some next) q first rest = lived_first r next q first rest
