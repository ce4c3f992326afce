-- Entries of one take, in two archives or in one, have one stamp.
use Rattle.std.proofs.Common.{◌≡◌, ◌≢◌, ℕ, zero, suc, ◌<◌, ◌==◌, ◌^◌, Bool, true, false, cond, List, [], ◌∷◌, ◌++◌, length, get_or, map, decimal, refl, sym, ap, ap₂, ◌∙◌, subst, arith, inl, inr}
use Rattle.std.proofs.lemmas.Bool.{and_from, and_left, and_right, cases_Bool, eq-eqb, eqb-true, false≢true, ne_eqb}
use Rattle.std.proofs.lemmas.Fmt.{decimal_injective, decimal_is_IsNumeral}
use Rattle.std.proofs.lemmas.List.{append_assoc}
use Rattle.std.specs.Char.{digit_value}
use Rattle.std.specs.List.{AllByRecursion, filter}
use Rattle.std.specs.Prelude.{◌&&◌}
use Rattle.std.specs.Str.Parse.{AllDigits}
use Rattle.cmd_direct.proofs.LawLists.{fronts_same, is_name_byte}
use Rattle.std.specs.List.{list_all}
use Rattle.cmd_report.specs.Addresses.{origin_of}
use Rattle.cmd_report.specs.EntryLines.{EntryLineView}
use Rattle.cmd_report.specs.Lawful.{AgreeOnStamp}
use Rattle.cmd_schedule.specs.Contents.{Owned}
use Rattle.sim_1_applications.specs.Devices as sessions
use Rattle.sim_1_applications.specs.Kept.{is_of, said_in}
use Rattle.sim_1_applications.specs.Laws as machine
use Rattle.sim_1_applications.specs.Reported.{name_at}

-- Keys of takes differ.

abbrev Apart : sessions.Take → sessions.Take → Type 0
Apart a b = b.device ≡ a.device → machine.Precedes a.said b.said

unfiltered : (first : sessions.Take) (ts : List sessions.Take) → AllByRecursion (machine.Precedes first.said) (map said_in (filter (is_of first.device) ts)) → AllByRecursion (Apart first) ts
unfiltered first [] all = tt
unfiltered first (t ∷ ts) all = chosen (t.device == first.device) refl all (unfiltered first ts)
  where
    chosen : (b : Bool) → (t.device == first.device) ≡ b → AllByRecursion (machine.Precedes first.said) (map said_in (cond b (t ∷ filter (is_of first.device) ts) (filter (is_of first.device) ts))) →
        (AllByRecursion (machine.Precedes first.said) (map said_in (filter (is_of first.device) ts)) → AllByRecursion (Apart first) ts) → Apart first t × AllByRecursion (Apart first) ts
    chosen true is known more = ((λ same. known.0), more known.1)
    chosen false is known more = ((λ same. absurd (false≢true (sym is ∙ eq-eqb t.device first.device same))), more known)

abbrev pub AreApart : List sessions.Take → Type 0
AreApart [] = Unit {0}
AreApart (t ∷ ts) = AllByRecursion (Apart t) ts × AreApart ts

rest_rises : (i : ℕ) (t : sessions.Take) (ts : List sessions.Take) → machine.EachPair machine.Precedes (map said_in (filter (is_of i) (t ∷ ts))) → machine.EachPair machine.Precedes (map said_in (filter (is_of i) ts))
rest_rises i t ts known = chosen (t.device == i) known
  where
    chosen : (b : Bool) → machine.EachPair machine.Precedes (map said_in (cond b (t ∷ filter (is_of i) ts) (filter (is_of i) ts))) → machine.EachPair machine.Precedes (map said_in (filter (is_of i) ts))
    chosen true k = k.1
    chosen false k = k

pub takes_apart : (many : ℕ) (ts : List sessions.Take) → AllByRecursion (λ t. t.device < many) ts → ((i : ℕ) → i < many → machine.EachPair machine.Precedes (map said_in (filter (is_of i) ts))) → AreApart ts
takes_apart many [] within each = tt
takes_apart many (t ∷ ts) within each =
    let mine = each t.device within.0 in
    let hit : (t.device == t.device) ≡ true = eq-eqb t.device t.device refl in
    let first = subst (λ b. machine.EachPair machine.Precedes (map said_in (cond b (t ∷ filter (is_of t.device) ts) (filter (is_of t.device) ts)))) hit mine in
    (unfiltered t ts first.0, takes_apart many ts within.1 (λ i low. rest_rises i t ts (each i low)))

-- the moment of the first take with a key
abbrev has_key : ℕ → ℕ → ℕ → sessions.Take → Bool
has_key i epoch n t = t.device == i && (t.said.epoch == epoch && t.said.n == n)

abbrev pub moment_in : ℕ → ℕ → ℕ → List sessions.Take → ℕ
moment_in i epoch n [] = 0
moment_in i epoch n (t ∷ ts) = cond (has_key i epoch n t) t.moment (moment_in i epoch n ts)

other_key : (t u : sessions.Take) → Apart t u → has_key u.device u.said.epoch u.said.n t ≡ false
other_key t u apart =
    elim (cases_Bool (t.device == u.device)) [
      | inr other ↦ and_left (t.device == u.device) _ other
      | inl same ↦
          let before = apart (sym (eqb-true t.device u.device same)) in
          and_right (t.device == u.device) _ (elim before [
            | inl earlier ↦ and_left (t.said.epoch == u.said.epoch) _ (ne_eqb t.said.epoch u.said.epoch (λ e. omega arith))
            | inr lower ↦ and_right (t.said.epoch == u.said.epoch) _ (ne_eqb t.said.n u.said.n (λ e. let low = lower.1 in omega arith))
          ])
    ]

pub all_both : (P Q R : sessions.Take → Type 0) → ((x : sessions.Take) → P x → Q x → R x) → (xs : List sessions.Take) → AllByRecursion P xs → AllByRecursion Q xs → AllByRecursion R xs
all_both P Q R each [] first second = tt
all_both P Q R each (x ∷ xs) first second = (each x first.0 second.0, all_both P Q R each xs first.1 second.1)

pub moments_found : (ts : List sessions.Take) → AreApart ts → AllByRecursion (λ t. t.moment ≡ moment_in t.device t.said.epoch t.said.n ts) ts
moments_found [] apart = tt
moments_found (t ∷ ts) apart =
    let hit : has_key t.device t.said.epoch t.said.n t ≡ true = and_from _ _ (eq-eqb t.device t.device refl) (and_from _ _ (eq-eqb t.said.epoch t.said.epoch refl) (eq-eqb t.said.n t.said.n refl)) in (
      sym (ap (λ b. cond b t.moment (moment_in t.device t.said.epoch t.said.n ts)) hit),
      all_both (Apart t) (λ u. u.moment ≡ moment_in u.device u.said.epoch u.said.n ts) (λ u. u.moment ≡ moment_in u.device u.said.epoch u.said.n (t ∷ ts))
          (λ u differs found. found ∙ sym (ap (λ b. cond b t.moment (moment_in u.device u.said.epoch u.said.n ts)) (other_key t u differs))) ts apart.0 (moments_found ts apart.1),
    )

-- Origin ids.

undotted : (ds : List ℕ) → AllDigits 10 ds → (i : ℕ) → i < length ds → get_or ds i 0 ≢ 46
undotted [] all i below = absurd (omega arith)
undotted (c ∷ cs) all zero below = λ dot. (let bad : digit_value 46 < 10 = subst (λ x. digit_value x < 10) dot all.0 in absurd (omega arith))
undotted (c ∷ cs) all (suc i) below = undotted cs all.1 i (omega arith)

-- two texts that are cut at their first dot
same_cut : (xs ys us vs : List ℕ) → ((i : ℕ) → i < length xs → get_or xs i 0 ≢ 46) → ((i : ℕ) → i < length us → get_or us i 0 ≢ 46) → xs ++ 46 ∷ ys ≡ us ++ 46 ∷ vs → (xs ≡ us) × (ys ≡ vs)
same_cut [] ys [] vs plain clear same = (let e : ys ≡ vs = cc in (refl, e))
same_cut [] ys (u ∷ us) vs plain clear same = absurd (clear 0 (omega arith) (let e : u ≡ 46 = cc in e))
same_cut (x ∷ xs) ys [] vs plain clear same = absurd (plain 0 (omega arith) (let e : x ≡ 46 = cc in e))
same_cut (x ∷ xs) ys (u ∷ us) vs plain clear same =
    let head : x ≡ u = cc in
    let rest : xs ++ 46 ∷ ys ≡ us ++ 46 ∷ vs = cc in
    let tails = same_cut xs ys us vs (λ i below. plain (suc i) (omega arith)) (λ i below. clear (suc i) (omega arith)) rest in
    (ap₂ (λ b bs. b ∷ bs) head tails.0, tails.1)

-- what an entry's line is of
pub record IsStamped (owned : List Owned) (all : List sessions.Take) (e : EntryLineView) : Type 0 where
  pub t : sessions.Take
  pub device : t.device < length owned
  pub plain : list_all is_name_byte (name_at owned t.device) ≡ true
  pub epoch : t.said.epoch < 2 ^ 64
  pub n : t.said.n < 2 ^ 64
  pub origin : e.origin ≡ origin_of (name_at owned t.device) t.said.epoch t.said.n
  pub stamp : e.stamp ≡ moment_in t.device t.said.epoch t.said.n all

pub stamps_agree : (owned : List Owned) (all : List sessions.Take) → ((i j : ℕ) → i < length owned → j < length owned → name_at owned i ≡ name_at owned j → i ≡ j) → (a b : EntryLineView) → IsStamped owned all a → IsStamped owned all b → AgreeOnStamp a b
stamps_agree owned all tells a b first second from origin =
    let x = name_at owned first.t.device in
    let y = name_at owned second.t.device in
    let ids : origin_of x first.t.said.epoch first.t.said.n ≡ origin_of y second.t.said.epoch second.t.said.n = sym first.origin ∙ origin ∙ second.origin in
    let same : x ++ 46 ∷ (decimal first.t.said.epoch ++ 46 ∷ decimal first.t.said.n) ≡ y ++ 46 ∷ (decimal second.t.said.epoch ++ 46 ∷ decimal second.t.said.n) =
    sym (append_assoc x (46 ∷ decimal first.t.said.epoch) (46 ∷ decimal first.t.said.n)) ∙ ids ∙ append_assoc y (46 ∷ decimal second.t.said.epoch) (46 ∷ decimal second.t.said.n) in
    let parts = fronts_same x y (decimal first.t.said.epoch ++ 46 ∷ decimal first.t.said.n) (decimal second.t.said.epoch ++ 46 ∷ decimal second.t.said.n) first.plain second.plain same in
    let numbers = same_cut (decimal first.t.said.epoch) (decimal first.t.said.n) (decimal second.t.said.epoch) (decimal second.t.said.n)
    (undotted (decimal first.t.said.epoch) (decimal_is_IsNumeral first.t.said.epoch first.epoch).0.1) (undotted (decimal second.t.said.epoch) (decimal_is_IsNumeral second.t.said.epoch second.epoch).0.1) parts.rest in
    let epoch = decimal_injective first.t.said.epoch second.t.said.epoch first.epoch second.epoch numbers.0 in
    let n = decimal_injective first.t.said.n second.t.said.n first.n second.n numbers.1 in
    let position = tells first.t.device second.t.device first.device second.device parts.front in
    first.stamp ∙ ap (λ i. moment_in i first.t.said.epoch first.t.said.n all) position ∙ ap (λ e. moment_in second.t.device e first.t.said.n all) epoch
    ∙ ap (λ k. moment_in second.t.device second.t.said.epoch k all) n ∙ sym second.stamp
