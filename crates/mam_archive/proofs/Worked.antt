-- The definitions, evaluated at values that were worked out beforehand.
use Rattle.std.proofs.Common.{◌≡◌, ℕ, true, false, [], ◌∷◌, List, Some, None, refl}
use Rattle.std.specs.Prelude.{codes}
use Rattle.mam_archive.specs.Entries.{EntryView, entry_numbered, newest}
use Rattle.mam_archive.specs.Ids.{id_of}
use Rattle.base_lemmas.specs.Hexadecimal.{hex16_of}
use Rattle.mam_archive.specs.Peers.{bare_form, chain_ends, first_of, index_of, next_of, peer_of, previous_of}

first_id : id_of 1 ≡ codes "0000000000000001"
unfolding hex16_of
first_id = refl

hundredth_id : id_of 100 ≡ codes "0000000000000064"
unfolding hex16_of
hundredth_id = refl

last_id : id_of 4294967295 ≡ codes "00000000ffffffff"
unfolding hex16_of
last_id = refl

highest_id : id_of 18446744073709551615 ≡ codes "ffffffffffffffff"
unfolding hex16_of
highest_id = refl

abbrev entry : ℕ → EntryView
entry n = record { number = n; stamp = 1000; from = []; to = []; normal = true; id = []; origin = []; bodies = [] }

abbrev three : List EntryView
three = entry 1 ∷ entry 2 ∷ entry 3 ∷ []

second_entry : entry_numbered 2 three ≡ Some (entry 2)
second_entry = refl

no_entry : entry_numbered 0 three ≡ None
no_entry = refl

newest_two : newest 2 three ≡ entry 2 ∷ entry 3 ∷ []
newest_two = refl

newest_of_few : newest 4 three ≡ three
newest_of_few = refl

bare_address : bare_form (codes "romeo@montague.example/orchard/west") ≡ codes "romeo@montague.example"
bare_address = refl

abbrev juliet : List ℕ
juliet = codes "juliet@capulet.example"

-- an entry of this number, from one address to another
abbrev message : ℕ → List ℕ → List ℕ → EntryView
message n from to = record { number = n; stamp = 1000; from = from; to = to; normal = false; id = []; origin = []; bodies = [] }

sent : peer_of juliet (message 1 (codes "juliet@capulet.example/balcony") (codes "romeo@montague.example/orchard")) ≡ codes "romeo@montague.example"
sent = refl

came : peer_of juliet (message 1 (codes "romeo@montague.example/orchard") juliet) ≡ codes "romeo@montague.example"
came = refl

to_oneself : peer_of juliet (message 1 (codes "juliet@capulet.example/balcony") juliet) ≡ juliet
to_oneself = refl

abbrev talk : List EntryView
talk = message 4 (codes "romeo/a") juliet ∷ message 5 (codes "nurse/b") juliet ∷ message 6 juliet (codes "romeo/c") ∷ []

first_with_romeo : first_of juliet (codes "romeo") talk ≡ Some 4
first_with_romeo = refl

first_with_paris : first_of juliet (codes "paris") talk ≡ None
first_with_paris = refl

next_with_romeo : next_of juliet 4 talk ≡ Some 6
next_with_romeo = refl

next_with_nurse : next_of juliet 5 talk ≡ None
next_with_nurse = refl

next_of_dropped : next_of juliet 3 talk ≡ None
next_of_dropped = refl

chain_with_romeo : chain_ends juliet (codes "romeo") talk ≡ Some (record { first = 4; last = 6; count = 2 })
chain_with_romeo = refl

chain_with_paris : chain_ends juliet (codes "paris") talk ≡ None
chain_with_paris = refl

previous_with_romeo : previous_of juliet 6 talk ≡ Some 4
previous_with_romeo = refl

previous_with_nurse : previous_of juliet 5 talk ≡ None
previous_with_nurse = refl

index_with_romeo : index_of juliet 6 talk ≡ Some 1
index_with_romeo = refl

index_of_dropped : index_of juliet 3 talk ≡ None
index_of_dropped = refl
