-- Which session a `previd` names (XEP-0198, section 5).
use Rattle.std.proofs.Common.{◌≡◌, ℕ, ◌<◌, ◌^◌, ◌==◌, ◌&&◌, Bool, true, false, refl, ap, ◌∙◌}
use Rattle.std.proofs.lemmas.Bool.{eq-eqb, eqb-true}
use Rattle.std.proofs.lemmas.Slice.Eq.{bytes_eq-Decides}
use Rattle.std.specs.Str.{bytes_eq}
use Rattle.base_lemmas.proofs.Bytes.{bytes_eq-self}
use Rattle.base_lemmas.proofs.HexDigits.{hex16_of_same}
use Rattle.sm_live.specs.Sessions.{Session, is_resumed_by}
use Rattle.sm_resumption.specs.Previds.{previd_of}

-- what a session that is found so is
pub record IsResumed {A : Type 0} (n account : ℕ) (s : Session A) : Type 0 where
  pub number : s.shown.number ≡ n
  pub owner : s.shown.account ≡ account
  pub resumable : s.shown.resumable ≡ true

both_true : (a b : Bool) → a && b ≡ true → (a ≡ true) × (b ≡ true)
both_true true true is = (refl, refl)
both_true true false is = absurd (let no_way : ⊥ = cc in no_way)
both_true false b is = absurd (let no_way : ⊥ = cc in no_way)

pub resumed_is : {A : Type 0} (n account : ℕ) (s : Session A) → n < 2 ^ 64 → s.shown.number < 2 ^ 64 → is_resumed_by (previd_of n) account s ≡ true → IsResumed n account s
resumed_is n account s low below is =
    let last = both_true (bytes_eq (previd_of s.shown.number) (previd_of n) && (s.shown.account == account)) s.shown.resumable is in
    let first = both_true (bytes_eq (previd_of s.shown.number) (previd_of n)) (s.shown.account == account) last.0 in
    record {
      number = hex16_of_same s.shown.number n below low ((bytes_eq-Decides (previd_of s.shown.number) (previd_of n)).0 first.0);
      owner = eqb-true s.shown.account account first.1;
      resumable = last.1;
    }

pub resumed_by : {A : Type 0} (n account : ℕ) (s : Session A) → s.shown.number ≡ n → s.shown.account ≡ account → s.shown.resumable ≡ true → is_resumed_by (previd_of n) account s ≡ true
resumed_by n account s number same can =
    let a : bytes_eq (previd_of s.shown.number) (previd_of n) ≡ true = ap (λ m. bytes_eq (previd_of m) (previd_of n)) number ∙ bytes_eq-self (previd_of n) in
    let b : (s.shown.account == account) ≡ true = eq-eqb s.shown.account account same in
    rw (a, b, can) refl
