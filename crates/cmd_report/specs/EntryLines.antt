-- What clauses see of an entry's line in a report.
use Rattle.std.specs.Prelude.{ℕ, List, [], ◌∷◌}
use Rattle.mam_archive.specs.Entries.{EntryView}
use Rattle.mam_archive.specs.declared.entry.ArchivedMessage.{ArchivedMessage}
use Rattle.mam_archive.specs.declared.entry.Body.{Body}

-- an entry under its id: when it was taken (milliseconds since 1970), the addresses, the origin id and the first body
pub record EntryLineView : Type 0 where
  pub id : List ℕ
  pub stamp : ℕ
  pub from : List ℕ
  pub to : List ℕ
  pub origin : List ℕ
  pub text : List ℕ

-- the first body, or nothing
abbrev pub first_body : List Body → List ℕ
first_body [] = []
first_body (body ∷ bodies) = body.text

-- the line of an entry under an id
abbrev pub line_under : List ℕ → EntryView → EntryLineView
line_under id e =
    record { id = id; stamp = e.stamp; from = e.from; to = e.to; origin = e.origin; text = first_body e.bodies }

-- the line of a message under an id
abbrev pub line_of : List ℕ → ArchivedMessage → EntryLineView
line_of id m =
    record { id = id; stamp = m.stamp; from = m.from; to = m.to; origin = m.origin; text = first_body m.bodies.items }
