-- A try that is absent wasn't taken.
use Rattle.std.proofs.Common.{◌≡◌, ℕ, zero, ◌+◌, ◌-◌, ◌<◌, ◌≤◌, ◌==◌, true, false, List, ◌∷◌, ◌++◌, length, sym, ap, ◌∙◌, subst, append_assoc, arith, inl, inr}
use Rattle.std.specs.List.{AllByRecursion, filter, list_any, slice_get}
use Rattle.std.specs.Option.{option_map_or}
use Rattle.std.specs.Prelude.{◌&&◌, ◌||◌, drop}
use Rattle.std.proofs.Math.Seq.{drop-append_seam}
use Rattle.std.specs.Str.{bytes_eq}
use Rattle.std.proofs.lemmas.Bool.{cases_Bool, eqb-true, and_parts}
use Rattle.std.proofs.lemmas.Slice.Eq.{bytes_eq-Decides}
use Rattle.sim_1_applications.specs.Devices.{Take, concerns, last_of}
use Rattle.sim_1_applications.specs.Kept.{is_of}
use Rattle.sim_1_applications.proofs.Archives.{last_grows}
use Rattle.law_intents.specs.Intents.{Try, has_hole_from, is_entry, is_taken, is_try}
use Rattle.law_intents.proofs.Numbers.{hole_behind, last_or, last_or_append, no_hole_has}
use Rattle.law_intents.proofs.Since.{Since}
use Rattle.law_intents.proofs.Splits.{Found, any_there, each_of, entry_there, found, number_there, same_rest, two_splits}

-- what was known when the try was made, and what its device has now
pub record Tried (i : ℕ) (t : Try) (account : List ℕ) (takes : List Take) (log : List ℕ) : Type 0 where
  pub before : List Take
  pub since : List Take
  pub takes_are : takes ≡ before ++ since
  pub fresh : is_taken i t before ≡ false
  pub front : List ℕ
  pub more : List ℕ
  pub log_is : log ≡ front ++ more
  pub long : length front ≡ t.logged
  pub read : last_or 0 front ≤ last_of before account

module _ (i e l : ℕ) (t : Try) (account : List ℕ) (takes : List Take) (log : List ℕ) (tried : Tried i t account takes log) (past : Since i e l account takes) (low : t.epoch < e) (read : l ≤ last_or 0 log)
    (home : AllByRecursion (λ x. x.account ≡ account) (filter (is_of i) takes)) (whole : has_hole_from t.logged 0 log ≡ false) (missing : list_any (is_entry i t account takes) (drop t.logged log) ≡ false) where
  module _ (f : Found Take (is_try i t) takes) where
    device : (f.one.device == i) ≡ true
    device = (and_parts (f.one.device == i) (f.one.said.epoch == t.epoch && f.one.said.n == t.n) f.is).0

    epoch : f.one.said.epoch ≡ t.epoch
    epoch = eqb-true f.one.said.epoch t.epoch ((and_parts (f.one.said.epoch == t.epoch) (f.one.said.n == t.n) ((and_parts (f.one.device == i) (f.one.said.epoch == t.epoch && f.one.said.n == t.n) f.is).1)).0)

    mine : f.one.account ≡ account
    mine = each_of i (λ x. x.account ≡ account) f.before f.one f.after device (subst (λ ts. AllByRecursion (λ (x : Take). x.account ≡ account) (filter (is_of i) ts)) f.are home)

    concerned : concerns account f.one ≡ true
    concerned = ap (λ b. b || bytes_eq account f.one.said.to) ((bytes_eq-Decides account f.one.account).1 (sym mine))

    -- it isn't among those of later epochs
    not_past : (m : List Take) → f.before ≡ past.front ++ m → ⊥
    not_past m is =
        let whole_back : past.back ≡ m ++ f.one ∷ f.after =
        same_rest past.front past.back (m ++ f.one ∷ f.after)
        (sym past.are ∙ f.are ∙ ap (λ l. l ++ f.one ∷ f.after) is ∙ append_assoc past.front m (f.one ∷ f.after)) in
        let high : e ≤ f.one.said.epoch = each_of i (λ x. e ≤ x.said.epoch) m f.one f.after device (subst (λ ts. AllByRecursion (λ (x : Take). e ≤ x.said.epoch) (filter (is_of i) ts)) whole_back past.later) in
        let same = epoch in
        above high same low
      where
        above : {a b c : ℕ} → c ≤ a → a ≡ b → b < c → ⊥
        above high same under = omega arith

    -- so its number isn't above what was read
    within : last_of f.before account + 1 ≤ last_or 0 log
    within = elim (two_splits f.before past.front f.one f.after past.back (sym f.are ∙ past.are)) [
      | inl more ↦ absurd (not_past more.0 more.1)
      | inr more ↦ added l (last_of f.before account) (last_of more.0 account) (last_or 0 log) (sym past.low ∙ ap (λ ts. last_of ts account) more.1 ∙ number_there account f.before f.one more.0 concerned) read
    ]
      where
        added : (a b c d : ℕ) → a ≡ b + 1 + c → a ≤ d → b + 1 ≤ d
        added a b c d is under = omega arith

    -- and above what was read when it was made
    above : last_or 0 tried.front < last_of f.before account + 1
    above = elim (two_splits f.before tried.before f.one f.after tried.since (sym f.are ∙ tried.takes_are)) [
      | inl more ↦ under (last_or 0 tried.front) (last_of tried.before account) (last_of f.before account) (last_of more.0 account) tried.read (ap (λ ts. last_of ts account) more.1 ∙ last_grows tried.before more.0 account)
      | inr more ↦ absurd (let hit = ap (is_taken i t) more.1 ∙ any_there (is_try i t) f.before f.one more.0 f.is in let miss = tried.fresh in let bad : ⊥ = cc in bad)
    ]
      where
        under : (a b c d : ℕ) → a ≤ b → c ≡ b + d → a < c + 1
        under a b c d low_one is = omega arith

    entry : is_entry i t account takes (last_of f.before account + 1) ≡ true
    entry =
        let index : last_of f.before account + 1 - 1 ≡ last_of f.before account = back (last_of f.before account) in
        ap (λ o. option_map_or (is_try i t) o false)
        (ap (slice_get (filter (concerns account) takes)) index ∙ ap (λ ts. slice_get (filter (concerns account) ts) (last_of f.before account)) f.are ∙ entry_there account f.before f.one f.after concerned)
        ∙ f.is
      where
        back : (m : ℕ) → m + 1 - 1 ≡ m
        back m = omega arith

    impossible : ⊥
    impossible =
        let split : last_or 0 log ≡ last_or (last_or 0 tried.front) tried.more = ap (last_or 0) tried.log_is ∙ last_or_append 0 tried.front tried.more in
        let holes : has_hole_from zero (last_or 0 tried.front) tried.more ≡ false =
        sym (hole_behind 0 tried.front tried.more) ∙ ap (λ k. has_hole_from k 0 (tried.front ++ tried.more)) tried.long ∙ ap (has_hole_from t.logged 0) (sym tried.log_is) ∙ whole in
        let there : list_any (is_entry i t account takes) tried.more ≡ true =
        no_hole_has (is_entry i t account takes) (last_or 0 tried.front) tried.more holes (last_of f.before account + 1) above (up_to within split) entry in
        let rest : drop t.logged log ≡ tried.more =
        ap (drop t.logged) tried.log_is ∙ ap (λ k. drop k (tried.front ++ tried.more)) (sym tried.long) ∙ drop-append_seam tried.front tried.more in
        let hit : list_any (is_entry i t account takes) (drop t.logged log) ≡ true = ap (list_any (is_entry i t account takes)) rest ∙ there in
        let miss = missing in
        let bad : ⊥ = cc in
        bad
      where
        up_to : {a b c : ℕ} → a ≤ b → b ≡ c → a ≤ c
        up_to under is = omega arith

  pub absent_is_not_taken : is_taken i t takes ≡ false
  absent_is_not_taken = elim (cases_Bool (is_taken i t takes)) [
    | inl some ↦ absurd (impossible (found (is_try i t) takes some))
    | inr none ↦ none
  ]
