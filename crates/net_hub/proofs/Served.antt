-- A server of an accounts file has served.
use Rattle.std.proofs.Common.{◌≡◌, ℕ, List, Option, Some, None, Result, Ok, Err, IfOk, IfSome, refl, subst}
use Rattle.net_hub.specs.Served.{HasServed, IsWritten}
use Rattle.cmd_journal.specs.AccountsFiles.{AccountsView, IsAccountsFile, accounts_text}
use Rattle.net_traits.proofs.ToldSince.{since_then}
use Rattle.net_traits.specs.Links.{LinkView}
use Rattle.net_traits.specs.ToldSince.{ToldSince}

pub ok_then : {A E : Type 0} (P Q : A → Type 0) (r : Result A E) → ((a : A) → P a → Q a) → IfOk r P → IfOk r Q
ok_then P Q (Ok a) f is = f a is
ok_then P Q (Err e) f is = tt

pub has_served : (accounts : List ℕ) (file : AccountsView) (n : ℕ) (moments drawn : List ℕ) (old new : List LinkView) (text : List ℕ)
    → IsAccountsFile file → accounts ≡ accounts_text file → IsWritten file n moments drawn old new text → HasServed accounts n moments drawn old new text
has_served accounts file n moments drawn old new text right whole is = record { file = file; right = right; whole = whole; is = is }

pub served_as : (accounts same : List ℕ) (n m : ℕ) (moments drawn : List ℕ) (old begun new : List LinkView) (text : List ℕ)
    → accounts ≡ same → n ≡ m → old ≡ begun → HasServed accounts n moments drawn old new text → HasServed same m moments drawn begun new text
served_as accounts same n m moments drawn old begun new text is many at served =
    subst (λ a. HasServed a m moments drawn begun new text) is (subst (λ k. HasServed accounts k moments drawn begun new text) many (subst (λ o. HasServed accounts n moments drawn o new text) at served))

pub some_then : {A : Type 0} (P Q : A → Type 0) (o : Option A) → ((a : A) → P a → Q a) → IfSome o P → IfSome o Q
some_then P Q None f is = tt
some_then P Q (Some a) f is = f a is

-- the same, of an answer that has it where it has a door
pub served_again : {A E D : Type 0} (items : A → List ℕ) (given : D → List LinkView) (r : Result A E) (door : Option D) (accounts same : List ℕ) (n : ℕ) (told_first drawn_first told_now drawn_now : List ℕ) (old begun : List LinkView)
    → accounts ≡ same → old ≡ begun
    → IfOk r (λ text. IfSome door (λ new. ToldSince told_first drawn_first told_now drawn_now (λ moments drawn. HasServed accounts n moments drawn old (given new) (items text))))
    → IfOk r (λ text. IfSome door (λ new. ToldSince told_first drawn_first told_now drawn_now (λ moments drawn. HasServed same n moments drawn begun (given new) (items text))))
served_again items given r door accounts same n told_first drawn_first told_now drawn_now old begun is at served =
    ok_then _ (λ text. IfSome door (λ new. ToldSince told_first drawn_first told_now drawn_now (λ moments drawn. HasServed same n moments drawn begun (given new) (items text)))) r
    (λ text one. some_then _ (λ new. ToldSince told_first drawn_first told_now drawn_now (λ moments drawn. HasServed same n moments drawn begun (given new) (items text))) door
    (λ new of. since_then (λ moments drawn. HasServed accounts n moments drawn old (given new) (items text)) (λ moments drawn. HasServed same n moments drawn begun (given new) (items text))
    (λ moments drawn each. served_as accounts same n n moments drawn old begun (given new) (items text) is refl at each) of) one) served
