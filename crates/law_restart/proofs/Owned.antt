-- Archives stay with their accounts.
use Rattle.std.proofs.Common.{◌≡◌, ℕ, zero, suc, List, [], ◌∷◌, Option, Some, None, map, refl, sym, ap, ap₂, ◌∙◌}
use Rattle.std.proofs.lemmas.Option.{none-some, same_Some}
use Rattle.std.specs.List.{slice_get}
use Rattle.std.specs.Option.{option_map}
use Rattle.law_server.proofs.PieceTakes.{bytes_take, items_take}
use Rattle.law_server.specs.Events.{Bytes, Connect, Event, Gone, Run, Stop, Tick, after_event, after_events, stopped_in}
use Rattle.law_server.specs.Taken.{HasTaken, Taken, all_appended, entries_for}
use Rattle.mam_archive.specs.Entries.{EntryView}
use Rattle.srv_core.specs.Events.{begun, framer_at, turn_of}
use Rattle.srv_core.specs.Restarts.{emptied}
use Rattle.srv_state.specs.State.{Kept, Step, archive_at}
use Rattle.srv_state.specs.Steps.{appended}
use Rattle.std.specs.Prelude.{take}
use Rattle.xml_framer.specs.States.{State}
use Rattle.xml_writer.specs.Items.{ItemOut}

same_emptied : (xs ys : List Kept) → ((i : ℕ) → option_map emptied (slice_get xs i) ≡ option_map emptied (slice_get ys i)) → map emptied xs ≡ map emptied ys
same_emptied [] [] same = refl
same_emptied [] (y ∷ ys) same = absurd (none-some (emptied y) (same zero))
same_emptied (x ∷ xs) [] same = absurd (none-some (emptied x) (sym (same zero)))
same_emptied (x ∷ xs) (y ∷ ys) same = ap₂ (λ (k : Kept) (ks : List Kept). k ∷ ks) (same_Some (emptied x) (emptied y) (same zero)) (same_emptied xs ys (λ i. same (suc i)))

emptied_all : (es : List EntryView) (kept : Kept) → emptied (all_appended es kept) ≡ emptied kept
emptied_all [] kept = refl
emptied_all (e ∷ es) kept = emptied_all es (appended e kept)

emptied_mapped : (es : List EntryView) (o : Option Kept) → option_map emptied (option_map (all_appended es) o) ≡ option_map emptied o
emptied_mapped es None = refl
emptied_mapped es (Some kept) = ap (λ (k : Kept). Some k) (emptied_all es kept)

owned_taken : {A : Type 0} (takes : List Taken) (s u : Step A) → HasTaken takes s u → map emptied u.server_state.archives ≡ map emptied s.server_state.archives
owned_taken takes s u has =
    same_emptied u.server_state.archives s.server_state.archives (λ i. ap (option_map emptied) (has.archives i) ∙ emptied_mapped (entries_for i takes) (archive_at i s.server_state))

module _ {A : Type 0} (say : ItemOut → A) where
  owned_stop : (k : ℕ) (piece : List ℕ) (count now : ℕ) (o : Option State) (r : Run A) → map emptied (stopped_in say k piece count now o r).server.server_state.archives ≡ map emptied r.server.server_state.archives
  owned_stop k piece count now None r = refl
  owned_stop k piece count now (Some f) r =
      let all = items_take say k (take count (turn_of piece f).items) (begun now r.server.server_state r.outs) in
      owned_taken all.0 (begun now r.server.server_state r.outs) _ all.1

  owned_event : (e : Event) (r : Run A) → map emptied (after_event say e r).server.server_state.archives ≡ map emptied r.server.server_state.archives
  owned_event (Connect k entropy now) r = refl
  owned_event (Bytes k piece now) r =
      let all = bytes_take say k piece now r.server r.outs in
      owned_taken all.0 (begun now r.server.server_state r.outs) _ all.1
  owned_event (Stop k piece count now) r = owned_stop k piece count now (framer_at k r.server.framers) r
  owned_event (Gone k now) r = refl
  owned_event (Tick now) r = refl

  pub owned_events : (events : List Event) (r : Run A) → map emptied (after_events say events r).server.server_state.archives ≡ map emptied r.server.server_state.archives
  owned_events [] r = refl
  owned_events (e ∷ events) r = owned_events events (after_event say e r) ∙ owned_event e r
