-- What is UTF-8, as a test.
use Rattle.std.proofs.Common.{◌≡◌, ℕ, cond, List, Some, None, ⊎_elim}
use Rattle.std.proofs.lemmas.Bool.{cases_Bool, cond-true, cond-false}
use Rattle.std.proofs.lemmas.Str.{is_utf8-from_IsUtf8, IsUtf8-from_ascii, IsUtf8-from_is_utf8}
use Rattle.std.specs.Str.{IsAscii, IsUtf8, is_utf8}

pub text_is : (bs : List ℕ) → IsUtf8 bs → cond (is_utf8 bs) (Some bs) None ≡ Some bs
text_is bs h = cond-true (is_utf8 bs) (Some bs) None (is_utf8-from_IsUtf8 bs h)

pub text_fails : (bs : List ℕ) → (IsUtf8 bs → ⊥) → cond (is_utf8 bs) (Some bs) None ≡ None
text_fails bs other =
    ⊎_elim (λ good. absurd (other (IsUtf8-from_is_utf8 bs good))) (λ bad. cond-false (is_utf8 bs) (Some bs) None bad) (cases_Bool (is_utf8 bs))

pub text_same : (bs cs : List ℕ) → bs ≡ cs → IsUtf8 bs → cond (is_utf8 cs) (Some cs) None ≡ Some bs
text_same bs cs same h = rw (← same) (text_is bs h)

pub ascii_is_text : (bs : List ℕ) → IsAscii bs → IsUtf8 bs
ascii_is_text bs h = IsUtf8-from_ascii bs h
