-- What follows from what is kept.
use Rattle.std.proofs.Common.{◌≡◌, ℕ, suc, zero, ◌+◌, ◌<◌, ◌≤◌, ◌==◌, Bool, true, false, List, [], ◌∷◌, ◌++◌, Option, Some, None, length, refl, sym, ap, ◌∙◌, arith, inl, inr}
use Rattle.std.specs.List.{slice_get, flat_map, filter}
use Rattle.std.specs.Prelude.{◌||◌}
use Rattle.std.proofs.lemmas.Bool.{cases_Bool, eq-eqb}
use Rattle.std.proofs.lemmas.List.{take-append-le}
use Rattle.std.proofs.lemmas.List.Elements.{filter-append}
use Rattle.sim_1_applications.specs.Stanzas.{messages, requests, answers}
use Rattle.sim_1_applications.specs.Devices.{Session, Device, OpenPage, Answer}
use Rattle.sim_1_applications.specs.Devices.Row.{Present}
use Rattle.sim_1_applications.specs.Answers.{following, last_in}
use Rattle.sim_1_applications.specs.Events.{is_among, is_number_among, number_or_none}
use Rattle.sim_1_applications.specs.Kept.{IsSession, LogKept, PageKept, IsPage, IsAt}
use Rattle.sim_1_applications.specs.Laws.{IsFrontTaken, IsUpToLast, IsSettled}
use Rattle.sim_1_applications.proofs.Logs.{number_of_run}
use Rattle.sim_1_applications.proofs.Numbered.{messages_append}

pub front_taken : (accounts : List (List ℕ)) (s : Session) → IsSession s → IsFrontTaken accounts s
front_taken accounts s known =
    let low = known.acked in
    record {
      gapless = ap (filter (λ m. is_among m.to accounts)) (messages_append s.up_got s.up_rest) ∙ filter-append (λ m. is_among m.to accounts) (messages s.up_got) (messages s.up_rest);
      acknowledged = take-append-le s.acked s.up_got s.up_rest low;
    }

some_among : (m n k : ℕ) → n < m → m ≤ n + k → is_number_among m (following n k) ≡ true
some_among m n zero low high = absurd (omega arith)
some_among m n (suc k) low high = elim (cases_Bool (m == suc n)) [
  | inl same ↦ ap (λ b. b || is_number_among m (following (suc n) k)) same
  | inr other ↦
      ap (λ b. b || is_number_among m (following (suc n) k)) other
      ∙ some_among m (suc n) k (let apart : m ≡ suc n → ⊥ = λ e. let is = eq-eqb m (suc n) e in let bad : ⊥ = cc in bad in omega arith) (omega arith)
]

among_later : (m : ℕ) (a b : List ℕ) → is_number_among m b ≡ true → is_number_among m (a ++ b) ≡ true
among_later m [] b is = is
among_later m (n ∷ a) b is = either (m == n) (among_later m a b is)
  where
    either : (c : Bool) → is_number_among m (a ++ b) ≡ true → (c || is_number_among m (a ++ b)) ≡ true
    either true known = refl
    either false known = known

first_number : (from : ℕ) (n : ℕ) (run : List ℕ) → n ∷ run ≡ following from (length (n ∷ run)) → n ≡ suc from
first_number from n run is = cc

pub up_to_last : (first last : ℕ) (d : Device) → 1 ≤ first → LogKept first last d → IsUpToLast first d
up_to_last first last d some kept = λ n low high.
    among_later n (flat_map (λ r. r) d.reading.broken) d.reading.run
    (ap (is_number_among n) kept.runs.is_run
    ∙ some_among n kept.runs.from (length d.reading.run) (above n low d.reading.run high kept.runs.is_run kept.runs.reaches)
    (let top = number_of_run kept.runs.from d.reading.run kept.runs.is_run in omega arith))
  where
    above : (n : ℕ) → first ≤ n → (run : List ℕ) → n ≤ number_or_none (last_in run) → run ≡ following kept.runs.from (length run) →
        ((m : ℕ) → slice_get run 0 ≡ Some m → m ≤ first) → kept.runs.from < n
    above n low [] high is reaches = absurd (omega arith)
    above n low (m ∷ run) high is reaches = let head = first_number kept.runs.from m run is in let r = reaches m refl in omega arith

pub settled : (keep first last : ℕ) (d : Device) → PageKept keep first last d → IsSettled d
settled keep first last d kept = λ on row up down. of_page d.reading.page on row up down (kept.page on)
  where
    of_answer : (page : OpenPage) (o : Option Answer) → d.sessions.row ≡ Present → d.sessions.now.up_rest ≡ [] → d.sessions.now.down_rest ≡ [] → IsAt keep first last d page o → ⊥
    of_answer page None row up down was = let none : requests d.sessions.now.up_rest ≡ [] = ap requests up in let one = was.request in let bad : ⊥ = cc in bad
    of_answer page (Some a) row up down was = was.some (sym (was.whole row) ∙ ap answers down)

    of_page : (o : Option OpenPage) → d.sessions.online ≡ true → d.sessions.row ≡ Present → d.sessions.now.up_rest ≡ [] → d.sessions.now.down_rest ≡ [] → IsPage keep first last d o → o ≡ None
    of_page None on row up down was = refl
    of_page (Some page) on row up down was = absurd (of_answer page page.answer row up down was.progress)
