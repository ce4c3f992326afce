-- Values worked out: what a hole is, whose resource, and which epoch is sure.
use Rattle.std.proofs.Common.{◌≡◌, ℕ, Bool, true, false, List, [], ◌∷◌, Some, None, codes, refl}
use Rattle.cl_handlers.specs.Clients.{ClientView}
use Rattle.mam_log.specs.declared.log_entry.LogEntry.{LogEntry}
use Rattle.mam_log.specs.declared.tile.Tile.{Tile}
use Rattle.cl_intents.specs.Intents.{IntentsView, next_by, nothing_intended, observed}
use Rattle.cl_intents.specs.States.{has_hole, resource_of}
use Rattle.cl_intents.specs.declared.intents.Next.TheVariants.{CatchUp, Rest, Submit}

abbrev numbered : ℕ → LogEntry
numbered n = record { id = []; entry = record { number = n; stamp = 0; from = []; to = []; normal = true; id = []; origin = []; bodies = [] } }

-- the front of the archive was purged before the first page
purged_front : has_hole 0 (numbered 2 ∷ []) ≡ true
purged_front = refl

whole : has_hole 0 (numbered 1 ∷ numbered 2 ∷ []) ≡ false
whole = refl

right_after_the_try : has_hole 1 (numbered 1 ∷ numbered 3 ∷ []) ≡ true
right_after_the_try = refl

before_the_try : has_hole 2 (numbered 1 ∷ numbered 3 ∷ numbered 4 ∷ []) ≡ false
before_the_try = refl

behind_the_log : has_hole 3 (numbered 1 ∷ []) ≡ false
behind_the_log = refl

of_a_full_address : resource_of (codes "ann@chat.example/pad/2") ≡ codes "pad/2"
of_a_full_address = refl

of_a_bare_address : resource_of (codes "ann@chat.example") ≡ []
of_a_bare_address = refl

-- ---- an epoch is sure once a page that was asked for in it is complete, and a later one is seen, or another look is taken

abbrev page : Bool → Tile
page complete = record { after = None; count = 1; complete = complete; total = 1 }

abbrev with_pages : {A : Type 0} → ClientView A → ℕ → List Tile → ClientView A
with_pages c epoch tiles = record c { epoch = epoch; log = record c.log { tiles = tiles } }

abbrev noted : ℕ → ℕ → ℕ → IntentsView
noted seen mark sure = record { full = []; intents = []; seen = seen; mark = mark; sure = sure }

first_look : {A : Type 0} (c : ClientView A) → observed (with_pages c 1 []) (nothing_intended []) ≡ noted 1 0 0
first_look c = refl

a_complete_page : {A : Type 0} (c : ClientView A) → observed (with_pages c 1 (page true ∷ [])) (noted 1 0 0) ≡ noted 1 0 1
a_complete_page c = refl

an_incomplete_page : {A : Type 0} (c : ClientView A) → observed (with_pages c 1 (page false ∷ [])) (noted 1 0 0) ≡ noted 1 0 0
an_incomplete_page c = refl

-- the page was of the epoch before
a_later_epoch : {A : Type 0} (c : ClientView A) → observed (with_pages c 2 (page true ∷ [])) (noted 1 0 0) ≡ noted 2 1 1
a_later_epoch c = refl

no_page_since : {A : Type 0} (c : ClientView A) → observed (with_pages c 2 (page true ∷ [])) (noted 2 1 1) ≡ noted 2 1 1
no_page_since c = refl

-- ---- what is wanted next

submission_first : next_by (Some 3) true ≡ Submit 3
submission_first = refl

then_a_page : next_by None true ≡ CatchUp
then_a_page = refl

else_nothing : next_by None false ≡ Rest
else_nothing = refl
