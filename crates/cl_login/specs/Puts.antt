-- What comes of an item while a client logs in: an item that is put (RFC 6120, section 4.4), and how the login goes on.
use Rattle.std.specs.Prelude.{ℕ, List, [], Option, Some, None}
use Rattle.cl_login.specs.declared.answers.Answer.{Answer}
use Rattle.cl_login.specs.declared.answers.Next.{Next}
use Rattle.xml_writer.specs.Items.{ItemOut, written_item}

-- the item that is put, if one is, and what comes next
pub record Row : Type 0 where
  pub put : Option ItemOut
  pub next : Next

-- the same with the bytes that are put
pub record SpelledRow : Type 0 where
  pub bytes : List ℕ
  pub next : Next

abbrev pub put_bytes : Option ItemOut → List ℕ
put_bytes None = []
put_bytes (Some item) = written_item item

abbrev pub spelled : Row → SpelledRow
spelled row = record { bytes = put_bytes row.put; next = row.next }

-- what is answered, without the room of its bytes
abbrev pub seen : Answer → SpelledRow
seen answer = record { bytes = answer.bytes.items; next = answer.next }
