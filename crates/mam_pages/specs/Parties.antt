-- The parties of an archived message, as its account's archive sees them.
use Rattle.std.specs.Prelude.{ℕ, nat_lt, Bool, List, length, if◌then◌else◌}
use Rattle.std.specs.List.{position_or_len}
use Rattle.std.specs.Str.{bytes_eq}
use Rattle.mam_archive.specs.Entries.{EntryView}
use Rattle.mam_archive.specs.Peers.{bare_form, is_slash}

-- the address has a resource (RFC 6120 section 1.4)
abbrev pub is_full : List ℕ → Bool
is_full address = nat_lt (position_or_len is_slash address) (length address)

-- the whole address of the other party: the recipient of what the owner sent, from whichever session, else the sender
abbrev pub other_party : List ℕ → EntryView → List ℕ
other_party owner e = if bytes_eq (bare_form e.from) owner then e.to else e.from
