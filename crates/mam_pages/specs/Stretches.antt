-- A page that is found from its place among the entries with an account, where each of them matches.
use Rattle.std.specs.Prelude.{◌≡◌, ℕ, suc, ◌+◌, ◌-◌, ◌≤◌, min, nat_lt, nat_le, Bool, true, false, List, Option, Some, None, take, drop, length, slice_get, if◌then◌else◌}
use Rattle.mam_archive.specs.Peers.{chain_of}
use Rattle.mam_archive.specs.declared.chains.Chain.{Chain}
use Rattle.mam_pages.specs.Kept.{Kept}
use Rattle.mam_pages.specs.Looks.{is_number_with, is_place_with}
use Rattle.mam_pages.specs.Parties.{is_full}
use Rattle.mam_pages.specs.Spans.{IsNumbered, numbers_of, skipped, within}
use Rattle.mam_pages.specs.declared.query.PageQuery.{PageQuery}
use Rattle.mam_pages.specs.declared.span.Span.{Span}
use Rattle.mam_pages.specs.declared.stretch.Stretch.{Stretch}

-- the numbers of the entries with an account
abbrev pub chain_numbers : Kept → List ℕ → List ℕ
chain_numbers kept peer = numbers_of (chain_of kept.owner peer kept.entries)

-- the number beside which the candidates of a span begin, in an archive with this last number
abbrev pub edge_of : Span → ℕ → Option ℕ
edge_of span last =
    if span.backward then (if nat_lt span.through last then Some (suc span.through) else None)
    else (if nat_lt 0 span.after then Some span.after else None)

abbrev pub is_edge_with : Kept → List ℕ → Option ℕ → Bool
is_edge_with kept peer None = true
is_edge_with kept peer (Some n) = is_number_with kept peer n

-- where the place is an end or with an account, so is the span's edge
abbrev pub IsEdgeOf : PageQuery → ℕ → ℕ → Span → Type 0
IsEdgeOf query first last span =
    (kept : Kept) → (peer : List ℕ) → IsNumbered first last kept.entries → is_place_with kept peer query.position ≡ true →
    is_edge_with kept peer (edge_of span last) ≡ true

-- the candidates reach up to the archive's last entry, or for a backward page from its first one on
pub record IsOpenSpan (last : ℕ) (span : Span) : Type 0 where
  pub below : span.through ≤ last
  pub forward : span.backward ≡ false → span.through ≡ last
  pub backward : span.backward ≡ true → span.after ≡ 0

-- where the page's walk begins among the numbers
abbrev pub start_of : Span → Stretch → ℕ
start_of span s = if span.backward then s.skipped + s.found - 1 else s.skipped

-- the candidates among these numbers: how many stand before them, how many they are, and the one that is nearest to
-- the place
pub record IsStretch (span : Span) (numbers : List ℕ) (s : Stretch) : Type 0 where
  pub count : s.count ≡ length numbers
  pub skipped : s.skipped ≡ length (skipped span numbers)
  pub found : s.found ≡ length (within span numbers)
  pub whole : within span numbers ≡ take s.found (drop s.skipped numbers)
  pub room : s.skipped + s.found ≤ length numbers
  pub start : 1 ≤ min s.found span.most → slice_get numbers (start_of span s) ≡ Some s.number

-- the first and the last of these numbers, and how many there are
pub record IsEndsOf (numbers : List ℕ) (chain : Chain) : Type 0 where
  pub first : slice_get numbers 0 ≡ Some chain.first
  pub last : slice_get numbers (length numbers - 1) ≡ Some chain.last
  pub count : chain.count ≡ length numbers

-- the candidates beside the one with this index among so many
abbrev pub stretch_at : Span → ℕ → ℕ → ℕ → Stretch
stretch_at span number index count =
    if span.backward then record { number = number; skipped = 0; found = index; count = count }
    else record { number = number; skipped = index + 1; found = count - index - 1; count = count }

-- the place of a page's first entry, where it has so many
abbrev pub first_index_of : Span → Stretch → ℕ → ℕ
first_index_of span s count =
    if nat_le count 0 then 0 else (if span.backward then s.skipped + (s.found - count) else s.skipped)

-- a query for no more than an account or everybody
abbrev pub is_bare : Option (List ℕ) → Bool
is_bare None = true
is_bare (Some peer) = if is_full peer then false else true

abbrev pub is_absent : Option ℕ → Bool
is_absent None = true
is_absent (Some n) = false

abbrev pub is_plain : PageQuery → Bool
is_plain query = if is_bare query.peer then (if is_absent query.start then is_absent query.end else false) else false

-- the number that was found, or another where there is none
abbrev pub number_or : Option ℕ → ℕ → ℕ
number_or None n = n
number_or (Some m) n = m

-- so many steps along numbers, from a place on: what was read, and where the walk stands
pub record IsRun (numbers : List ℕ) (position at number : ℕ) (items : List ℕ) : Type 0 where
  pub read : items ≡ take (at + 1) (drop position numbers)
  pub here : slice_get numbers (position + at) ≡ Some number

-- the same from a place backward, into the last of so many slots
pub record IsBackRun (numbers : List ℕ) (position count at number : ℕ) (slots : List ℕ) : Type 0 where
  pub read : drop (count - 1 - at) (take count slots) ≡ drop (position - at) (take (position + 1) numbers)
  pub here : slice_get numbers (position - at) ≡ Some number
