-- What a row of the login answers as bytes is what it puts and how it goes on.
use Rattle.std.proofs.Common.{◌≡◌, ℕ, List, Option, Some, None, ap, refl, ◌∙◌}
use Rattle.cl_handlers.specs.Clients.{ClientStep}
use Rattle.cl_handlers.specs.LoginSteps.{follows, goes_on}
use Rattle.cl_handlers.specs.Speech.{in_bytes, uttered_where}
use Rattle.cl_handlers.specs.ClientSteps.{puts}
use Rattle.cl_login.specs.LoginRows.{begin_row}
use Rattle.cl_login.specs.Puts.{Row, SpelledRow, put_bytes, seen, spelled}
use Rattle.cl_login.specs.declared.answers.Answer.{Answer}
use Rattle.xml_writer.specs.Items.{ItemOut}

uttered_bytes : (put : Option ItemOut) → put_bytes put ≡ uttered_where in_bytes put
uttered_bytes None = refl
uttered_bytes (Some item) = refl

pub followed : (t now : ClientStep (List ℕ) ℕ) (a : Answer) (row : Row) → now ≡ goes_on (puts t a.bytes.items) a.next → seen a ≡ spelled row → now ≡ follows in_bytes t row
followed t now a row is same =
    is ∙ ap (λ (s : SpelledRow). goes_on (puts t s.bytes) s.next) same ∙ ap (λ bytes. goes_on (puts t bytes) row.next) (uttered_bytes row.put)

pub begun_as : (t now : ClientStep (List ℕ) ℕ) (a : Answer) (domain given entropy : List ℕ) → now ≡ goes_on (puts t a.bytes.items) a.next → given ≡ domain → seen a ≡ spelled (begin_row given entropy)
    → now ≡ follows in_bytes t (begin_row domain entropy)
begun_as t now a domain given entropy is same read = followed t now a (begin_row domain entropy) is (read ∙ ap (λ d. spelled (begin_row d entropy)) same)
