-- The definitions, evaluated at values that were worked out beforehand.
use Rattle.std.proofs.Common.{◌≡◌, ℕ, ◌+◌, Bool, true, false, [], ◌∷◌, List, Option, Some, None, refl}
use Rattle.std.specs.Prelude.{codes}
use Rattle.mam_archive.specs.Entries.{EntryView}
use Rattle.mam_archive.specs.Ids.{id_of}
use Rattle.mam_pages.specs.Cuts.{CutView}
use Rattle.mam_pages.specs.Kept.{Kept, first_number, last_number}
use Rattle.mam_archive.specs.Peers.{first_of, next_of}
use Rattle.mam_pages.specs.PageOf.{page_of}
use Rattle.mam_pages.specs.declared.query.PageQuery.{PageQuery}
use Rattle.mam_pages.specs.declared.query.PagePosition.{PagePosition}
use Rattle.mam_pages.specs.declared.query.PagePosition.TheVariants.{First, After, Before, Last}
use Rattle.base_lemmas.specs.Hexadecimal.{hex16_of}

abbrev romeo : List ℕ
romeo = codes "romeo@a"

abbrev bob : List ℕ
bob = codes "bob@a"

abbrev carol : List ℕ
carol = codes "carol@a"

abbrev entry : ℕ → ℕ → List ℕ → List ℕ → EntryView
entry n stamp from to =
    record { number = n; stamp = stamp; from = from; to = to; normal = false; id = []; origin = []; bodies = [] }

-- of five entries, numbered behind n, the first, third and fourth are with bob, and two of these are with his session x
abbrev five : ℕ → Kept
five n =
    record {
      owner = romeo;
      entries = entry (n + 1) 10 (codes "romeo@a/r") bob
          ∷ entry (n + 2) 20 (codes "carol@a/c") romeo
          ∷ entry (n + 3) 30 (codes "bob@a/x") (codes "romeo@a/r")
          ∷ entry (n + 4) 40 (codes "romeo@a/s") (codes "bob@a/x")
          ∷ entry (n + 5) 50 romeo carol
          ∷ [];
    }

abbrev asks : Option (List ℕ) → PagePosition → Option ℕ → PageQuery
asks peer position max = record { peer = peer; start = None; end = None; position = position; max = max }

abbrev cut : List ℕ → ℕ → ℕ → Bool → Bool → Option CutView
cut numbers first_index count complete backward =
    Some (record { numbers = numbers; first_index = first_index; count = count; complete = complete; backward = backward })

first_of_peer : page_of (five 0) (asks (Some bob) First (Some 2)) ≡ cut (1 ∷ 3 ∷ []) 0 3 false false
first_of_peer = refl

after_of_peer : page_of (five 0) (asks (Some bob) (After (id_of 2)) (Some 2)) ≡ cut (3 ∷ 4 ∷ []) 1 3 true false
unfolding hex16_of
after_of_peer = refl

last_two : page_of (five 0) (asks None Last (Some 2)) ≡ cut (4 ∷ 5 ∷ []) 3 5 false true
last_two = refl

before_first : page_of (five 0) (asks None (Before (id_of 1)) None) ≡ cut [] 0 5 true true
unfolding hex16_of
before_first = refl

none_wanted : page_of (five 0) (asks None First (Some 0)) ≡ cut [] 0 5 false false
none_wanted = refl

unknown_id : page_of (five 0) (asks None (After (codes "0000000000000006")) None) ≡ None
unfolding hex16_of
unknown_id = refl

-- the archive lost its first 400 entries
after_seam : page_of (five 400) (asks (Some bob) (Before (id_of 404)) (Some 1)) ≡ cut (403 ∷ []) 1 3 false true
unfolding hex16_of
after_seam = refl

lost_id : page_of (five 400) (asks (Some bob) (After (id_of 400)) None) ≡ None
unfolding hex16_of
lost_id = refl

of_session : page_of (five 400) (asks (Some (codes "bob@a/x")) Last None) ≡ cut (403 ∷ 404 ∷ []) 0 2 true true
of_session = refl

-- the moments of `start` and `end` belong to what is asked for
in_time : page_of (five 0) (record { peer = None; start = Some 20; end = Some 40; position = First; max = Some 200 }) ≡ cut (2 ∷ 3 ∷ 4 ∷ []) 0 3 true false
in_time = refl

first_kept : first_number (five 400).entries ≡ 401
first_kept = refl

last_kept : last_number (five 400).entries ≡ 405
last_kept = refl

first_with_carol : first_of romeo carol (five 400).entries ≡ Some 402
first_with_carol = refl

next_with_carol : next_of romeo 402 (five 400).entries ≡ Some 405
next_with_carol = refl

no_next : next_of romeo 405 (five 400).entries ≡ None
no_next = refl

no_such_entry : next_of romeo 400 (five 400).entries ≡ None
no_such_entry = refl
