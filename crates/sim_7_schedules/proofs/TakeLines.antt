-- The line of a take is told by its addresses and its origin id.
use Rattle.std.proofs.Common.{◌≡◌, ℕ, ◌<◌, ◌^◌, true, not, ◌||◌, ◌&&◌, List, [], ◌∷◌, ◌++◌, decimal, map, refl, ap, ap₂, subst, ◌∙◌, arith, append_assoc}
use Rattle.std.proofs.lemmas.Bool.{and_from, and_parts, or_left}
use Rattle.std.proofs.lemmas.Bool.Decides.{nat_tests}
use Rattle.std.proofs.lemmas.Fmt.{decimal_is_IsNumeral}
use Rattle.std.proofs.lemmas.List.Folds.{list_all-append}
use Rattle.std.specs.Char.{digit_value}
use Rattle.std.specs.List.{AllByRecursion, after_first, before_first, list_all}
use Rattle.std.specs.Option.{unwrap_or}
use Rattle.std.specs.Str.Parse.{AllDigits}
use Rattle.base_lemmas.proofs.Lists.{list_all-weaker}
use Rattle.sim_3_images.specs.WorldEncodings.{line_reported}
use Rattle.im_jid.specs.Cuts.{is_at, is_slash}
use Rattle.im_payload.proofs.Numbers.{written_number}
use Rattle.cmd_report.specs.Addresses.{bare_address, domain, full_address, origin_of}
use Rattle.cmd_report.specs.Lines.{take_line}
use Rattle.cmd_report.specs.declared.report.TakeLine.{TakeLine}
use Rattle.cmd_schedule.specs.Contents.{Owned}
use Rattle.cmd_schedule.specs.Grammar.{is_digit, is_lower, is_name}
use Rattle.cmd_schedule.specs.declared.schedule.Version.{Version}
use Rattle.sim_3_items.specs.Served.{take_reported}
use Rattle.sim_1_applications.specs.Devices.{Take}
use Rattle.sim_1_applications.specs.Reported.{name_at, take_of}
use Rattle.cmd_network.specs.Takes.{is_dot, number_spelled}
use Rattle.sim_3_images.proofs.AddressParts.{after_first-joined, before_first-joined}

-- ---- a name has no `/`, no `@` and no dot

record IsPlain (b : ℕ) : Type 0 where
  slash : not (is_slash b) ≡ true
  at : not (is_at b) ≡ true
  dot : not (is_dot b) ≡ true

plain_byte : (b : ℕ) → (is_lower b || is_digit b) ≡ true → IsPlain b
plain_byte b is = record { slash = grind (arith, nat_tests); at = grind (arith, nat_tests); dot = grind (arith, nat_tests) }

record IsPlainName (name : List ℕ) : Type 0 where
  slash : list_all (λ b. not (is_slash b)) name ≡ true
  at : list_all (λ b. not (is_at b)) name ≡ true
  dot : list_all (λ b. not (is_dot b)) name ≡ true

all_plain : (name : List ℕ) → list_all (λ b. is_lower b || is_digit b) name ≡ true → IsPlainName name
all_plain name each = record {
  slash = list_all-weaker (λ b. is_lower b || is_digit b) (λ b. not (is_slash b)) (λ b is. (plain_byte b is).slash) name each;
  at = list_all-weaker (λ b. is_lower b || is_digit b) (λ b. not (is_at b)) (λ b is. (plain_byte b is).at) name each;
  dot = list_all-weaker (λ b. is_lower b || is_digit b) (λ b. not (is_dot b)) (λ b is. (plain_byte b is).dot) name each;
}

plain_name : (name : List ℕ) → is_name name ≡ true → IsPlainName name
plain_name [] is = record { slash = refl; at = refl; dot = refl }
plain_name (c ∷ cs) is =
    let a = and_parts (is_lower c && _) (list_all (λ d. is_lower d || is_digit d) cs) is in
    let b = and_parts (is_lower c) _ a.0 in
    all_plain (c ∷ cs) (and_from (is_lower c || is_digit c) (list_all (λ d. is_lower d || is_digit d) cs) (or_left (is_lower c) (is_digit c) b.0) a.1)

-- ---- numbers

undotted : (ds : List ℕ) → AllDigits 10 ds → list_all (λ b. not (is_dot b)) ds ≡ true
undotted [] all = refl
undotted (d ∷ ds) all = and_from (not (is_dot d)) (list_all (λ b. not (is_dot b)) ds) (one d all.0) (undotted ds all.1)
  where
    one : (d : ℕ) → digit_value d < 10 → not (is_dot d) ≡ true
    one d low =
        let other : d ≡ 46 → ⊥ = λ dot. (let bad : digit_value 46 < 10 = subst (λ x. digit_value x < 10) dot low in absurd (omega arith)) in
        grind (arith, nat_tests)

spelled : (n : ℕ) → n < 2 ^ 64 → number_spelled (decimal n) ≡ n
spelled n fits = ap (λ o. unwrap_or o 0) (written_number (2 ^ 64) n (omega arith) fits)

-- ---- a take

-- of accounts and a device with names, with numbers of 64 bits
pub record IsTellable (owned : List Owned) (t : Take) : Type 0 where
  pub account : is_name t.account ≡ true
  pub device : is_name (name_at owned t.device) ≡ true
  pub to : is_name t.said.to ≡ true
  pub epoch : t.said.epoch < 2 ^ 64
  pub n : t.said.n < 2 ^ 64

module _ (owned : List Owned) (t : Take) (is : IsTellable owned t) where
  name : List ℕ
  name = name_at owned t.device

  bare_plain : list_all (λ b. not (is_slash b)) (bare_address t.account) ≡ true
  bare_plain =
      list_all-append (λ b. not (is_slash b)) t.account (64 ∷ domain)
      ∙ and_from (list_all (λ b. not (is_slash b)) t.account) (list_all (λ b. not (is_slash b)) (64 ∷ domain)) (plain_name t.account is.account).slash refl

  device_told : after_first is_slash (full_address t.account (name_at owned t.device)) ≡ name_at owned t.device
  device_told = after_first-joined is_slash (bare_address t.account) 47 (name_at owned t.device) bare_plain refl

  account_told : before_first is_at (bare_address t.said.to) ≡ t.said.to
  account_told = before_first-joined is_at t.said.to 64 domain (plain_name t.said.to is.to).at refl

  numbers_told : after_first is_dot (origin_of (name_at owned t.device) t.said.epoch t.said.n) ≡ decimal t.said.epoch ++ 46 ∷ decimal t.said.n
  numbers_told =
      ap (after_first is_dot) (append_assoc (name_at owned t.device) (46 ∷ decimal t.said.epoch) (46 ∷ decimal t.said.n))
      ∙ after_first-joined is_dot (name_at owned t.device) 46 (decimal t.said.epoch ++ 46 ∷ decimal t.said.n) (plain_name (name_at owned t.device) is.device).dot refl

  epoch_plain : list_all (λ b. not (is_dot b)) (decimal t.said.epoch) ≡ true
  epoch_plain = undotted (decimal t.said.epoch) (decimal_is_IsNumeral t.said.epoch is.epoch).0.1

  epoch_of_id : number_spelled (before_first is_dot (after_first is_dot (origin_of (name_at owned t.device) t.said.epoch t.said.n))) ≡ t.said.epoch
  epoch_of_id =
      ap (λ text. number_spelled (before_first is_dot text)) numbers_told
      ∙ ap number_spelled (before_first-joined is_dot (decimal t.said.epoch) 46 (decimal t.said.n) epoch_plain refl)
      ∙ spelled t.said.epoch is.epoch

  number_of_id : number_spelled (after_first is_dot (after_first is_dot (origin_of (name_at owned t.device) t.said.epoch t.said.n))) ≡ t.said.n
  number_of_id =
      ap (λ text. number_spelled (after_first is_dot text)) numbers_told
      ∙ ap number_spelled (after_first-joined is_dot (decimal t.said.epoch) 46 (decimal t.said.n) epoch_plain refl)
      ∙ spelled t.said.n is.n

  take_line_told : (version : Version) → line_reported version (take_reported owned t) ≡ take_line version (take_of owned t)
  take_line_told version =
      let line : TakeLine = take_line version (take_of owned t) in
      ap₂ (λ device account. record (line_reported version (take_reported owned t)) { device = device; account = account }) device_told account_told
      ∙ ap₂ (λ epoch n. record line { epoch = epoch; n = n }) epoch_of_id number_of_id

pub take_lines_told : (owned : List Owned) (version : Version) (takes : List Take) → AllByRecursion (IsTellable owned) takes → map (line_reported version) (map (take_reported owned) takes) ≡ map (take_line version) (map (take_of owned) takes)
take_lines_told owned version [] all = refl
take_lines_told owned version (t ∷ takes) all = ap₂ (λ line lines. line ∷ lines) (take_line_told owned t all.0 version) (take_lines_told owned version takes all.1)
