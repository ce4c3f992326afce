-- What archives have behind a submission, and what was told.
use Rattle.std.proofs.Common.{◌≡◌, ℕ, zero, suc, List, [], ◌∷◌, ◌++◌, Option, Some, None, length, map, refl, ap, ◌∙◌}
use Rattle.std.specs.List.{slice_get, slice_set}
use Rattle.std.specs.Option.{option_map}
use Rattle.mam_archive.specs.Entries.{EntryView}
use Rattle.srv_state.specs.Handling.{counting}
use Rattle.srv_state.specs.State.{Kept, Out, Put, ServerState, Shut, Took, archive_at}
use Rattle.srv_state.specs.Steps.{Act, acted}
use Rattle.sim_3_items.specs.ItemMoves.{step_of, takes_reported}
use Rattle.sim_3_items.specs.ItemWorlds.{Take as SessionInfo, itself}
use Rattle.sm_live.specs.declared.told.SessionInfo.{SessionInfo as ToldSession}
use Rattle.sim_5_moves.proofs.Marked.{counted_marks}
use Rattle.law_server.proofs.ArchiveEntries.{archives_get, stays, takes_are_told}
use Rattle.law_server.proofs.Marks.{Books, Entry, Mark, Notice, acted_books, all_marking, books_of, marks, with_entry}
use Rattle.law_server.proofs.MessageMarks.{marks_of}
use Rattle.law_server.specs.Taken as server
use Rattle.law_server.specs.Taken.{Taken, all_appended, at_most_one, entries_for, tells_take, told}
use Rattle.xml_writer.specs.Items.{ItemOut}

-- ---- what stays

domain_stays : (m : Mark) (b : Books ItemOut) → (all_marking (m ∷ []) b).domain ≡ b.domain
domain_stays (Entry account e) b = refl
domain_stays (Notice from to origin) b = refl

accounts_stay : (m : Mark) (b : Books ItemOut) → (all_marking (m ∷ []) b).accounts ≡ b.accounts
accounts_stay (Entry account e) b = refl
accounts_stay (Notice from to origin) b = refl

long_set : (ks : List Kept) (position : ℕ) (kept : Kept) → length (slice_set ks position kept) ≡ length ks
long_set [] position kept = refl
long_set (k ∷ ks) zero kept = refl
long_set (k ∷ ks) (suc position) kept = ap suc (long_set ks position kept)

long_with : (e : EntryView) (account : ℕ) (o : Option Kept) (ks : List Kept) → length (with_entry e account o ks) ≡ length ks
long_with e account None ks = refl
long_with e account (Some kept) ks = long_set ks account _

many_stay : (m : Mark) (b : Books ItemOut) → length (all_marking (m ∷ []) b).archives ≡ length b.archives
many_stay (Entry account e) b = long_with e account (slice_get b.archives account) b.archives
many_stay (Notice from to origin) b = refl

-- ---- what is told of takes is noted down, and nothing else

noted : (moment : ℕ) (outs : List (Out ItemOut)) → takes_reported moment outs ≡ takes_reported moment (server.takes_reported outs)
noted moment [] = refl
noted moment (Put k z ∷ outs) = noted moment outs
noted moment (Shut k ∷ outs) = noted moment outs
noted moment (Took from to origin ∷ outs) =
    let one : SessionInfo = record { moment = moment; from = from; to = to; origin = origin } in
    ap (λ (l : List SessionInfo). one ∷ l) (noted moment outs)

abbrev pub notes_of : ℕ → Option Taken → List SessionInfo
notes_of moment None = []
notes_of moment (Some t) = record { moment = moment; from = t.entry.from; to = t.entry.to; origin = t.entry.origin } ∷ []

-- ---- a row that takes one message or none

pub record IsBooked (h : ServerState ItemOut) (o : Option Taken) (h2 : ServerState ItemOut) (outs : List (Out ItemOut)) : Type 0 where
  pub domain : h2.domain ≡ h.domain
  pub accounts : h2.accounts ≡ h.accounts
  pub many : length h2.archives ≡ length h.archives
  pub archives : (position : ℕ) → archive_at position h2 ≡ option_map (all_appended (entries_for position (at_most_one o))) (archive_at position h)
  pub notes : takes_reported h.moment outs ≡ notes_of h.moment o

pub booked : (t : ToldSession) (h : ServerState ItemOut) (acts : List (Act ItemOut)) (o : Option Taken) → marks acts ≡ marks_of o →
    IsBooked h o (acted itself (counting t acts) (step_of h)).server_state (acted itself (counting t acts) (step_of h)).outs
booked t h acts o marked =
    let b = books_of (step_of h) in
    let done = acted itself (counting t acts) (step_of h) in
    let books : books_of done ≡ all_marking (marks_of o) b = acted_books itself (counting t acts) (step_of h) ∙ ap (λ ms. all_marking ms b) (counted_marks t acts ∙ marked) in
    record {
      domain = ap (λ (x : Books ItemOut). x.domain) books ∙ stays (λ (x : Books ItemOut). x.domain) domain_stays (marks_of o) b;
      accounts = ap (λ (x : Books ItemOut). x.accounts) books ∙ stays (λ (x : Books ItemOut). x.accounts) accounts_stay (marks_of o) b;
      many = ap (λ (x : Books ItemOut). length x.archives) books ∙ stays (λ (x : Books ItemOut). length x.archives) many_stay (marks_of o) b;
      archives = λ p. ap (λ (x : Books ItemOut). slice_get x.archives p) books ∙ archives_get o b p;
      notes = noted h.moment done.outs ∙ ap (λ (x : Books ItemOut). takes_reported h.moment x.takes) books ∙ ap (takes_reported h.moment) (takes_are_told o b) ∙ told_as o;
    }
  where
    told_as : (p : Option Taken) → takes_reported h.moment ([] ++ map (told {A = ItemOut}) (at_most_one p)) ≡ notes_of h.moment p
    told_as None = refl
    told_as (Some x) = refl
