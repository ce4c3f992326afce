-- Each further try of an intent was made by a line of the run before which the intent was absent.
use Rattle.std.proofs.Common.{◌≡◌, ◌⊎◌, ℕ, zero, suc, List, [], ◌∷◌, ◌++◌, Option, Some, None, length, map, refl, sym, ap, ◌∙◌, subst, arith, append_assoc, inl, inr}
use Rattle.std.proofs.lemmas.List.{length-append}
use Rattle.std.proofs.lemmas.Option.{slice_get-map}
use Rattle.std.specs.List.{slice_get}
use Rattle.std.specs.Option.{option_map}
use Rattle.cl_intents.specs.Intents.{IntentsView, with_try}
use Rattle.cl_intents.specs.declared.intents.Try.{Try}
use Rattle.cmd_intents.specs.Files.{FileView}
use Rattle.cmd_network.specs.Devices.{DeviceState}
use Rattle.cmd_network.specs.Positions.{changed_at}
use Rattle.cmd_resolving.specs.Expansion.{Asked, RunLine, Submitted, Watching, all_done, all_gone, asked, begun, done, gone, lines_of, none_of, noted, noted_try, try_of, watched_end, watched_line, watching_at_start}
use Rattle.cmd_schedule.specs.Contents.{Owned, owned_in}
use Rattle.cmd_schedule.specs.declared.schedule.WireLine.{WireLine}
use Rattle.cmd_world.specs.Histories.{common_steps}
use Rattle.sim_7_schedules.proofs.TriesDue.{AreAllDue, AreDue, IsDue, IsDueAt, IsOpen, all_due}
use Rattle.sim_7_schedules.proofs.TriesLists.{IsOther, added_core, added_tries, core, is_it, items_in, line_core, other_tries, own_tries, tried_core, tries_in}
use Rattle.sim_7_schedules.specs.Tries.{Before, HasIntent, IsTriedAgain, all_along, along, run_of}

-- ---- splits

-- one more at the end
split_more : {T : Type 0} (xs : List T) (x : T) (front rest : List T) (t u : T) → xs ++ x ∷ [] ≡ front ++ t ∷ u ∷ rest
    → ((u ≡ x) × (xs ≡ front ++ t ∷ [])) ⊎ ((fewer : List T) × (xs ≡ front ++ t ∷ u ∷ fewer))
split_more [] x [] rest t u are = absurd (let many = ap length are in let bad : ⊥ = omega (arith, many) in bad)
split_more [] x (a ∷ front) rest t u are = absurd (let many = ap length are in let more = length-append front (t ∷ u ∷ rest) in let bad : ⊥ = omega (arith, many, more) in bad)
split_more (y ∷ []) x [] rest t u are = inl (cc, (let same : y ≡ t = cc in ap (λ z. z ∷ []) same))
split_more (y ∷ z ∷ ys) x [] rest t u are = inr (ys, (let one : y ≡ t = cc in let two : z ≡ u = cc in ap (λ a. a ∷ z ∷ ys) one ∙ ap (λ a. t ∷ a ∷ ys) two))
split_more (y ∷ ys) x (a ∷ front) rest t u are =
    let one : y ≡ a = cc in
    let more : ys ++ x ∷ [] ≡ front ++ t ∷ u ∷ rest = cc in
    elim (split_more ys x front rest t u more) [
      | inl last ↦ inl (last.0, ap (λ b. b ∷ ys) one ∙ ap (λ l. a ∷ l) last.1)
      | inr fewer ↦ inr (fewer.0, ap (λ b. b ∷ ys) one ∙ ap (λ l. a ∷ l) fewer.1)
    ]

shifted : {T : Type 0} (front : List T) (x : T) (xs : List T) → front ++ x ∷ xs ≡ (front ++ x ∷ []) ++ xs
shifted [] x xs = refl
shifted (y ∷ front) x xs = ap (λ l. y ∷ l) (shifted front x xs)

some_there : {T : Type 0} (front rest : List T) (t : T) → front ++ t ∷ rest ≡ [] → ⊥
some_there [] rest t is = cc
some_there (x ∷ front) rest t is = cc

-- ---- along the run

-- each further try was made where the intent was absent
abbrev AreAgain : List Before → Submitted → List Try → Type 0
AreAgain run a tries = (front rest : List Try) (t u : Try) → tries ≡ front ++ t ∷ u ∷ rest → IsTriedAgain run a.device a.intent (front ++ t ∷ []) u

-- the tries in a world
abbrev tries_at : Submitted → List IntentsView → List Try
tries_at a vs = tries_in a.intent (slice_get (map core vs) a.device)

module _ (run : List Before) where
  -- a line
  module _ (front : List Before) (l : RunLine) (s : Watching) (rest : List Before) (are : run ≡ front ++ record { line = l; watching = s } ∷ rest) where
    -- a try of the intent itself
    own_again : (at : Submitted) → l.submits ≡ Some at → (due : IsDue at l.line s) (t : Try) → try_of l.line at.device s.world ≡ Some t → AreAgain run at due.intent.tries.items → AreAgain run at (due.intent.tries.items ++ t ∷ [])
    own_again at submits due t made before fronts more a b split = elim (split_more due.intent.tries.items t fronts more a b split) [
      | inl last ↦ by_device (slice_get s.world.devices at.device) refl due.open_there last.0 last.1
      | inr fewer ↦ before fronts fewer.0 a b fewer.1
    ]
      where
        by_device : (o : Option DeviceState) → slice_get s.world.devices at.device ≡ o → IsOpen o due.view due.intent → b ≡ t → due.intent.tries.items ≡ fronts ++ a ∷ [] → IsTriedAgain run at.device at.intent (fronts ++ a ∷ []) b
        by_device None there none newest tries = absurd (some_there fronts [] a (sym tries ∙ none))
        by_device (Some d) there (inl none) newest tries = absurd (some_there fronts [] a (sym tries ∙ none))
        by_device (Some d) there (inr absent) newest tries = record {
          front = front;
          here = record { line = l; watching = s };
          rest = rest;
          are = are;
          submits = submits;
          has = record { device = d; there = there; view = due.view; of = due.of; intent = due.intent; is = due.is };
          tried = tries;
          absent = absent;
          accepted = made ∙ ap (λ x. Some x) (sym newest);
        }

    abbrev seen : Watching
    seen = watched_line l.line s

    seen_tries : (a : Submitted) → tries_at a seen.intents ≡ tries_at a s.intents
    seen_tries a = ap (λ vs. tries_in a.intent (slice_get vs a.device)) (line_core l.line s)

    due_tries : (at : Submitted) (due : IsDue at l.line s) → tries_at at s.intents ≡ due.intent.tries.items
    due_tries at due = ap (tries_in at.intent) (slice_get-map core s.intents at.device ∙ ap (option_map core) due.of) ∙ ap items_in due.is

    due_then : (at : Submitted) (due : IsDue at l.line s) (t : Try) → tries_at at (changed_at at.device (with_try at.intent t) seen.intents) ≡ due.intent.tries.items ++ t ∷ []
    due_then at due t =
        ap (λ vs. tries_in at.intent (slice_get vs at.device)) (tried_core at t seen.intents ∙ ap (changed_at at.device (with_try at.intent t)) (line_core l.line s))
        ∙ own_tries at t (map core s.intents) (core due.view) due.intent (slice_get-map core s.intents at.device ∙ ap (option_map core) due.of) due.is

    other_then : (a at : Submitted) (t : Try) → IsOther a at → tries_at a (changed_at at.device (with_try at.intent t) seen.intents) ≡ tries_at a s.intents
    other_then a at t other =
        ap (λ vs. tries_in a.intent (slice_get vs a.device)) (tried_core at t seen.intents ∙ ap (changed_at at.device (with_try at.intent t)) (line_core l.line s))
        ∙ other_tries a at t (map core s.intents) other

    line_again : (a : Submitted) → IsDueAt l.submits l.line s → AreAgain run a (tries_at a s.intents) → AreAgain run a (tries_at a (done l s).intents)
    line_again a due before = by_submits l.submits refl due
      where
        by_submits : (o : Option Submitted) → l.submits ≡ o → IsDueAt o l.line s → AreAgain run a (tries_at a (noted o l.line s.world seen).intents)
        by_submits None submits due_here = subst (AreAgain run a) (sym (seen_tries a)) before
        by_submits (Some at) submits due_here = by_try (try_of l.line at.device s.world) refl
          where
            by_try : (o : Option Try) → try_of l.line at.device s.world ≡ o → AreAgain run a (tries_at a (noted_try at o seen).intents)
            by_try None made = subst (AreAgain run a) (sym (seen_tries a)) before
            by_try (Some t) made = elim (is_it a at) [
              | inr other ↦ subst (AreAgain run a) (sym (other_then a at t other)) before
              | inl same ↦
                  subst (λ b. AreAgain run b (tries_at b (changed_at at.device (with_try at.intent t) seen.intents))) same
                  (subst (AreAgain run at) (sym (due_then at due_here t))
                  (own_again at submits due_here t made (subst (AreAgain run at) (due_tries at due_here) (subst (λ b. AreAgain run b (tries_at b s.intents)) (sym same) before))))
            ]

  -- lines of the run
  lines_again : (a : Submitted) (ls : List RunLine) (s : Watching) (front rest : List Before) → run ≡ front ++ (along ls s ++ rest) → AreDue ls s → AreAgain run a (tries_at a s.intents) → AreAgain run a (tries_at a (all_done ls s).intents)
  lines_again a [] s front rest are due before = before
  lines_again a (l ∷ ls) s front rest are due before =
      let here : run ≡ front ++ record { line = l; watching = s } ∷ (along ls (done l s) ++ rest) = are in
      lines_again a ls (done l s) (front ++ record { line = l; watching = s } ∷ []) rest (here ∙ shifted front (record { line = l; watching = s }) (along ls (done l s) ++ rest)) due.1
      (line_again front l s (along ls (done l s) ++ rest) are a due.0 before)

  begun_again : (a : Submitted) (b : Asked) (s : Watching) → tries_at a (begun b s).intents ≡ tries_at a s.intents
  begun_again a Asked.Plain s = refl
  begun_again a (Asked.NewIntent index to text) s =
      ap (λ vs. tries_in a.intent (slice_get vs a.device)) (added_core index to text s.intents) ∙ added_tries a index to text (map core s.intents)
  begun_again a (Asked.Resolve device index most) s = refl
  begun_again a Asked.Nothing s = refl

  -- lines of the file
  file_again : (a : Submitted) (f : FileView) (lines : List WireLine) (s : Watching) (front : List Before) → run ≡ front ++ all_along f lines s → AreAllDue f lines s → AreAgain run a (tries_at a s.intents) → AreAgain run a (tries_at a (all_gone f lines s).intents)
  file_again a f [] s front are due before = before
  file_again a f (line ∷ lines) s front are due before =
      let begins = begun (asked f s.world.names line) s in
      let first = along (lines_of f line s) begins in
      file_again a f lines (gone f line s) (front ++ first) (are ∙ sym (append_assoc front first (all_along f lines (gone f line s)))) due.1
      (lines_again a (lines_of f line s) begins front (all_along f lines (gone f line s)) are due.0 (subst (AreAgain run a) (sym (begun_again a (asked f s.world.names line) s)) before))

-- ---- a whole run

none_first : (a : Submitted) (os : List Owned) (i : ℕ) → tries_in a.intent (slice_get (map core (map none_of os)) i) ≡ []
none_first a [] i = refl
none_first a (o ∷ os) zero = none_at a.intent
  where
    none_at : (k : ℕ) → tries_in k (Some (core (none_of o))) ≡ []
    none_at zero = refl
    none_at (suc k) = refl
none_first a (o ∷ os) (suc i) = none_first a os i

pub tried_again_absent : (f : FileView) (i k : ℕ) (has : HasIntent (watched_end f) i k) (front rest : List Try) (t u : Try) → has.intent.tries.items ≡ front ++ t ∷ u ∷ rest → IsTriedAgain (run_of f) i k (front ++ t ∷ []) u
unfolding run_of watched_end
tried_again_absent f i k has front rest t u are =
    let a : Submitted = record { device = i; intent = k } in
    let s = watching_at_start f in
    let first = none_first a (owned_in (common_steps f.schedule)) i in
    let all = file_again (run_of f) a f f.schedule.lines s [] refl (all_due f f.schedule.lines s) (λ fronts more b c split. absurd (some_there fronts (c ∷ more) b (sym split ∙ first))) in
    all front rest t u (ap (tries_in k) (slice_get-map core (watched_end f).intents i ∙ ap (option_map core) has.of) ∙ ap items_in has.is ∙ are)
