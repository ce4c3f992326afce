-- The accounts of a schedule by their places and by their names.
use Rattle.std.proofs.Common.{◌≡◌, ◌≢◌, ℕ, zero, suc, ◌==◌, ◌||◌, ◌&&◌, Bool, true, false, not, cond, List, [], ◌∷◌, ◌++◌, Option, Some, None, map, refl, sym, ap, ap₂, subst, ◌∙◌, arith, inl, inr, eq-eqb}
use Rattle.std.proofs.lemmas.Bool.{and_from, and_parts, cases_Bool, false≢true, or_left, or_parts}
use Rattle.std.proofs.lemmas.Bool.Decides.{nat_tests}
use Rattle.std.proofs.lemmas.List.Folds.{list_any-append}
use Rattle.std.proofs.lemmas.Option.{none-some, same_Some, slice_get-map}
use Rattle.std.specs.List.{filter, list_all, slice_get}
use Rattle.std.specs.Option.{option_map, unwrap_or}
use Rattle.std.specs.Str.{bytes_eq}
use Rattle.mam_archive.specs.Entries.{EntryView}
use Rattle.base_lemmas.proofs.Bytes.{bytes_eq-from_other, bytes_eq-from_same, bytes_eq-self}
use Rattle.base_lemmas.proofs.Lists.{list_all-weaker}
use Rattle.srv_state.specs.State.{name_of}
use Rattle.cmd_network.specs.Starting.{account_at_start, accounts_at_start}
use Rattle.base_io.specs.Names.{is_among}
use Rattle.im_jid.specs.Cuts.{is_at, is_slash}
use Rattle.sm_resumption.proofs.RowFacts.{same_from_eqb}
use Rattle.cmd_schedule.specs.Grammar.{is_digit, is_lower, is_name}
use Rattle.law_server.specs.Taken as server
use Rattle.cmd_world.specs.Declaring.{AreAccounts, AreNames}
use Rattle.sim_3_images.specs.ReportTakes.{Taken, concerns}

-- the name at a place, or none
abbrev pub name_at : List (List ℕ) → ℕ → List ℕ
name_at names position = unwrap_or (slice_get names position) []

pub name_there : (names : List (List ℕ)) (position : ℕ) → name_of (slice_get (accounts_at_start names) position) ≡ name_at names position
name_there names position = ap name_of (slice_get-map account_at_start names position) ∙ same (slice_get names position)
  where
    same : (o : Option (List ℕ)) → name_of (option_map account_at_start o) ≡ unwrap_or o []
    same None = refl
    same (Some name) = refl

-- ---- a name has no `/` and no `@`

record IsPlain (b : ℕ) : Type 0 where
  slash : not (is_slash b) ≡ true
  at : not (is_at b) ≡ true

plain_byte : (b : ℕ) → (is_lower b || is_digit b) ≡ true → IsPlain b
plain_byte b is = record { slash = grind (arith, nat_tests); at = grind (arith, nat_tests) }

pub record IsPlainName (name : List ℕ) : Type 0 where
  pub slash : list_all (λ b. not (is_slash b)) name ≡ true
  pub at : list_all (λ b. not (is_at b)) name ≡ true

all_plain : (name : List ℕ) → list_all (λ b. is_lower b || is_digit b) name ≡ true → IsPlainName name
all_plain name each = record {
  slash = list_all-weaker (λ b. is_lower b || is_digit b) (λ b. not (is_slash b)) (λ b is. (plain_byte b is).slash) name each;
  at = list_all-weaker (λ b. is_lower b || is_digit b) (λ b. not (is_at b)) (λ b is. (plain_byte b is).at) name each;
}

plain_name : (name : List ℕ) → is_name name ≡ true → IsPlainName name
plain_name [] is = record { slash = refl; at = refl }
plain_name (c ∷ cs) is =
    let a = and_parts (is_lower c && _) (list_all (λ d. is_lower d || is_digit d) cs) is in
    let b = and_parts (is_lower c) _ a.0 in
    all_plain (c ∷ cs) (and_from (is_lower c || is_digit c) (list_all (λ d. is_lower d || is_digit d) cs) (or_left (is_lower c) (is_digit c) b.0) a.1)

pub named : (names : List (List ℕ)) (position : ℕ) (name : List ℕ) → AreNames names → slice_get names position ≡ Some name → is_name name ≡ true
named [] position name are is = absurd (none-some name is)
named (n ∷ names) zero name are is = subst (λ x. is_name x ≡ true) (same_Some n name is) are.0
named (n ∷ names) (suc position) name are is = named names position name are.1 is

plain_where : (o : Option (List ℕ)) → ((name : List ℕ) → o ≡ Some name → is_name name ≡ true) → IsPlainName (unwrap_or o [])
plain_where None each = record { slash = refl; at = refl }
plain_where (Some name) each = plain_name name (each name refl)

pub plain_at : (names : List (List ℕ)) (position : ℕ) → AreNames names → IsPlainName (name_at names position)
plain_at names position are = plain_where (slice_get names position) (λ name is. named names position name are is)

-- ---- no two accounts have one name

before_new : (name : List ℕ) (before names : List (List ℕ)) (position : ℕ) → AreAccounts before names → slice_get names position ≡ Some name → is_among name before ≡ false
before_new name before [] position are is = absurd (none-some name is)
before_new name before (n ∷ names) zero are is = subst (λ x. is_among x before ≡ false) (same_Some n name is) are.2
before_new name before (n ∷ names) (suc position) are is =
    let more : is_among name (before ++ n ∷ []) ≡ false = before_new name (before ++ n ∷ []) names position are.3 is in
    let split : (is_among name before || is_among name (n ∷ [])) ≡ false = sym (list_any-append (λ other. bytes_eq name other) before (n ∷ [])) ∙ more in
    (or_parts (is_among name before) (is_among name (n ∷ [])) split).0

pub among_last : (name : List ℕ) (before : List (List ℕ)) → is_among name (before ++ name ∷ []) ≡ true
among_last name [] = rw (bytes_eq-self name) refl
among_last name (n ∷ before) = or_there (bytes_eq name n) (is_among name (before ++ name ∷ [])) (among_last name before)
  where
    or_there : (x y : Bool) → y ≡ true → (x || y) ≡ true
    or_there true y h = refl
    or_there false y h = h

one_position : (before names : List (List ℕ)) (p q : ℕ) (name : List ℕ) → AreAccounts before names → slice_get names p ≡ Some name → slice_get names q ≡ Some name → p ≡ q
one_position before [] p q name are at_p at_q = absurd (none-some name at_p)
one_position before (n ∷ names) zero zero name are at_p at_q = refl
one_position before (n ∷ names) zero (suc q) name are at_p at_q =
    absurd (false≢true (sym (before_new name (before ++ n ∷ []) names q are.3 at_q) ∙ subst (λ x. is_among x (before ++ n ∷ []) ≡ true) (same_Some n name at_p) (among_last n before)))
one_position before (n ∷ names) (suc p) zero name are at_p at_q =
    absurd (false≢true (sym (before_new name (before ++ n ∷ []) names p are.3 at_p) ∙ subst (λ x. is_among x (before ++ n ∷ []) ≡ true) (same_Some n name at_q) (among_last n before)))
one_position before (n ∷ names) (suc p) (suc q) name are at_p at_q = ap suc (one_position (before ++ n ∷ []) names p q name are.3 at_p at_q)

other_name : (names : List (List ℕ)) (o : Option (List ℕ)) (p q : ℕ) (name : List ℕ) → AreAccounts [] names → is_name name ≡ true → slice_get names p ≡ Some name → slice_get names q ≡ o → q ≢ p → name ≢ unwrap_or o []
other_name names None p q name are is at_p at_q apart same = false≢true (subst (λ x. is_name x ≡ true) same is)
other_name names (Some other) p q name are is at_p at_q apart same = apart (one_position [] names q p name are (at_q ∙ ap Some (sym same)) at_p)

pub same_account : (names : List (List ℕ)) (p q : ℕ) (name : List ℕ) → AreAccounts [] names → is_name name ≡ true → slice_get names p ≡ Some name → (q == p) ≡ bytes_eq name (name_at names q)
same_account names p q name are is at_p =
    elim (cases_Bool (q == p)) [
      | inl here ↦
          let at_q : slice_get names q ≡ Some name = ap (slice_get names) (same_from_eqb q p here) ∙ at_p in
          here ∙ sym (bytes_eq-from_same name (name_at names q) (sym (ap (λ (o : Option (List ℕ)). unwrap_or o []) at_q)))
      | inr other ↦
          other ∙ sym (bytes_eq-from_other name (name_at names q) (other_name names (slice_get names q) p q name are is at_p refl (λ same. false≢true (sym other ∙ eq-eqb q p same))))
    ]

-- ---- messages by the names of their accounts

abbrev pub with_names : List (List ℕ) → server.Taken → Taken
with_names names t = record { sender = name_at names t.sender; addressee = name_at names t.addressee; entry = t.entry }

concerns_same : (names : List (List ℕ)) (p : ℕ) (name : List ℕ) → AreAccounts [] names → is_name name ≡ true → slice_get names p ≡ Some name → (t : server.Taken) → server.concerns p t ≡ concerns name (with_names names t)
concerns_same names p name are is at_p t = ap₂ (λ x y. x || y) (same_account names p t.sender name are is at_p) (same_account names p t.addressee name are is at_p)

pub entries_same : (names : List (List ℕ)) (p : ℕ) (name : List ℕ) → AreAccounts [] names → is_name name ≡ true → slice_get names p ≡ Some name → (takes : List server.Taken)
    → server.entries_for p takes ≡ map (λ (t : Taken). t.entry) (filter (concerns name) (map (with_names names) takes))
entries_same names p name are is at_p [] = refl
entries_same names p name are is at_p (t ∷ takes) =
    ap (λ c. map (λ (x : server.Taken). x.entry) (cond c (t ∷ filter (server.concerns p) takes) (filter (server.concerns p) takes))) (concerns_same names p name are is at_p t)
    ∙ one (concerns name (with_names names t)) (entries_same names p name are is at_p takes)
  where
    one : (c : Bool) → server.entries_for p takes ≡ map (λ (x : Taken). x.entry) (filter (concerns name) (map (with_names names) takes))
        → map (λ (x : server.Taken). x.entry) (cond c (t ∷ filter (server.concerns p) takes) (filter (server.concerns p) takes))
        ≡ map (λ (x : Taken). x.entry) (cond c (with_names names t ∷ filter (concerns name) (map (with_names names) takes)) (filter (concerns name) (map (with_names names) takes)))
    one true rest = ap (λ (es : List EntryView). t.entry ∷ es) rest
    one false rest = rest
