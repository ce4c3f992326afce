-- The other party of an entry, and the entries of one peer (XEP-0313 section 4.1.1, the field `with`).
use Rattle.std.specs.Prelude.{ℕ, ◌-◌, ◌==◌, nat_lt, ◌&&◌, Bool, List, Option, length, filter, find, slice_get, if◌then◌else◌}
use Rattle.std.specs.List.{before_first}
use Rattle.std.specs.Option.{option_and_then, option_map}
use Rattle.std.specs.Str.{bytes_eq}
use Rattle.mam_archive.specs.Entries.{EntryView, entry_numbered}
use Rattle.mam_archive.specs.declared.chains.Chain.{Chain}

abbrev pub is_slash : ℕ → Bool
is_slash b = b == 47

-- the bare form of an address: what stands before its first `/`, or all where there is none (RFC 7622 section 3.1)
abbrev pub bare_form : List ℕ → List ℕ
bare_form address = before_first is_slash address

-- the peer of an entry in the archive of an owner: whom the owner wrote to, else who wrote
abbrev pub peer_of : List ℕ → EntryView → List ℕ
peer_of owner e = if bytes_eq (bare_form e.from) owner then bare_form e.to else bare_form e.from

-- the entry is with this peer
abbrev pub is_with : List ℕ → List ℕ → EntryView → Bool
is_with owner peer e = bytes_eq (peer_of owner e) peer

-- the entries with a peer
abbrev pub chain_of : List ℕ → List ℕ → List EntryView → List EntryView
chain_of owner peer entries = filter (is_with owner peer) entries

-- the number of the first entry with a peer: the least, since numbers rise
abbrev pub first_of : List ℕ → List ℕ → List EntryView → Option ℕ
first_of owner peer entries = option_map (λ e. e.number) (find (is_with owner peer) entries)

-- the number of the first entry above a number that has the same peer as the entry with that number
abbrev pub next_of : List ℕ → ℕ → List EntryView → Option ℕ
next_of owner n entries =
    option_and_then
    (λ e. option_map (λ f. f.number) (find (λ f. nat_lt n f.number && is_with owner (peer_of owner e) f) entries))
    (entry_numbered n entries)

-- the last entry of a list
abbrev pub last_entry : List EntryView → Option EntryView
last_entry entries = slice_get entries (length entries - 1)

-- the numbers of the first and of the last of these entries, and how many there are; none where there is no entry
abbrev pub ends_of : List EntryView → Option Chain
ends_of chain =
    option_and_then
    (λ e. option_map (λ f. record { first = e.number; last = f.number; count = length chain }) (last_entry chain))
    (slice_get chain 0)

-- the same of the entries with a peer
abbrev pub chain_ends : List ℕ → List ℕ → List EntryView → Option Chain
chain_ends owner peer entries = ends_of (chain_of owner peer entries)

-- the entries below a number that have this peer
abbrev pub chain_below : List ℕ → List ℕ → ℕ → List EntryView → List EntryView
chain_below owner peer n entries = filter (λ f. nat_lt f.number n) (chain_of owner peer entries)

-- the number of the last entry below a number that has the same peer as the entry with that number
abbrev pub previous_of : List ℕ → ℕ → List EntryView → Option ℕ
previous_of owner n entries =
    option_and_then
    (λ e. option_map (λ f. f.number) (last_entry (chain_below owner (peer_of owner e) n entries)))
    (entry_numbered n entries)

-- how many entries below a number have the same peer as the entry with that number
abbrev pub index_of : List ℕ → ℕ → List EntryView → Option ℕ
index_of owner n entries =
    option_map (λ e. length (chain_below owner (peer_of owner e) n entries)) (entry_numbered n entries)
