-- The pages that a device is answered, by evaluation.
use Rattle.std.proofs.Common.{◌≡◌, ℕ, true, false, [], ◌∷◌, Some, None, refl, codes}
use Rattle.base_lemmas.specs.Hexadecimal.{hex16_of}
use Rattle.mam_archive.specs.Entries.{EntryView}
use Rattle.mam_pages.specs.Kept.{Kept, kept_by}
use Rattle.cmd_direct.specs.Direct.{page_answered}

abbrev entry : ℕ → EntryView
entry n = record { number = n; stamp = 1000; from = []; to = []; normal = true; id = []; origin = []; bodies = [] }

abbrev three : Kept
three = kept_by (codes "alice@chat.example") (entry 1 ∷ entry 2 ∷ entry 3 ∷ [])

first_page : page_answered None 2 three ≡ Some (record { entries = entry 1 ∷ entry 2 ∷ []; complete = false; count = 3 })
first_page = refl

full_page : page_answered None 3 three ≡ Some (record { entries = three.entries; complete = true; count = 3 })
full_page = refl

second_page : page_answered (Some (codes "0000000000000002")) 2 three ≡ Some (record { entries = entry 3 ∷ []; complete = true; count = 3 })
unfolding hex16_of
second_page = refl

page_after_last : page_answered (Some (codes "0000000000000003")) 2 three ≡ Some (record { entries = []; complete = true; count = 3 })
unfolding hex16_of
page_after_last = refl

no_entries : page_answered None 5 (kept_by (codes "alice@chat.example") []) ≡ Some (record { entries = []; complete = true; count = 0 })
no_entries = refl

unknown_id : page_answered (Some (codes "0000000000000004")) 2 three ≡ None
unfolding hex16_of
unknown_id = refl

upper_case : page_answered (Some (codes "000000000000000A")) 2 (kept_by (codes "alice@chat.example") (entry 10 ∷ [])) ≡ None
unfolding hex16_of
upper_case = refl
