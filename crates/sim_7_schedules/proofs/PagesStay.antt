-- A reading that makes no fault loses no page but by taking it over.
use Rattle.std.proofs.Common.{◌≡◌, ℕ, ◌+◌, ◌==◌, ◌&&◌, ◌||◌, not, nat_lt, Bool, true, false, if◌then◌else◌, [], ◌∷◌, ◌++◌, Option, Some, None, length, refl, sym, ◌∙◌, arith}
use Rattle.std.proofs.lemmas.List.{length-append}
use Rattle.std.proofs.lemmas.Option.{none-some}
use Rattle.std.specs.Option.{option_map, option_map_or}
use Rattle.sim_5_devices.proofs.Faults.{page_well, taken_well}
use Rattle.sim_1_applications.specs.Answers.{last_in}
use Rattle.sim_1_applications.specs.Devices.{OpenPage, Reading, log_of}
use Rattle.sim_1_applications.specs.Events.{Around, Reaction, are_new, asking, fin, is_empty, over, passed, quiet, reads, restart, result, same_position, tile}
use Rattle.sim_1_applications.specs.Stanzas.{Accepted, Bounced, Down, Fin, Live, NotFound, Res}

-- it isn't so that no page is open any more, and none was taken over
abbrev IsKeeping : Reading → Reaction → Type 0
IsKeeping b x = x.reading.page ≡ None → length x.reading.tiles ≡ length b.tiles → ⊥

-- behind one that was taken over none is open, or the next one
taken_over : (c : Bool) (b o : Reading) (after : Option ℕ) (max began : ℕ) → length o.tiles ≡ length b.tiles + 1 → IsKeeping b (if c then quiet o else asking after max began o)
taken_over true b o after max began more none same = omega (arith, more, same)
taken_over false b o after max began more none same = none-some _ (sym none)

module _ (a : Around) (b : Reading) (page : OpenPage) (there : b.page ≡ Some page) where
  keeps_open : (x : Reaction) → x.reading.page ≡ b.page → IsKeeping b x
  keeps_open x is none same = none-some page (sym none ∙ is ∙ there)

  pub never_lost : (x : Down) → (reads a x b).reading.faulty ≡ false → IsKeeping b (reads a x b)
  never_lost Accepted well = keeps_open (quiet b) refl
  never_lost (Bounced e n) well = keeps_open (quiet b) refl
  never_lost (Live n) well = keeps_open (reads a (Live n) b) refl
  never_lost (Res q n) well =
      page_well (IsKeeping b) b (result q n)
      (λ page there. taken_well (IsKeeping b) b (page.number == q && nat_lt (length page.results) page.max)
      (quiet (record b { page = Some (record page { results = page.results ++ n ∷ []; answer = option_map passed page.answer }) })) (λ good none same. none-some _ (sym none)))
      well
  never_lost (Fin q complete last count) well =
      page_well (IsKeeping b) b (fin a q complete last count)
      (λ page there. taken_well (IsKeeping b) b (page.number == q && same_position last (last_in page.results) && are_new (log_of b) page.results && (complete || not (is_empty page.results)))
      (if complete then quiet (over a complete count page b) else asking (last_in (over a complete count page b).run) page.max a.last (over a complete count page b))
      (λ good. taken_over complete b (over a complete count page b) (last_in (over a complete count page b).run) page.max a.last (length-append b.tiles (tile a complete count page ∷ []))))
      well
  never_lost (NotFound q) well =
      page_well (IsKeeping b) b (restart q)
      (λ page there. taken_well (IsKeeping b) b (page.number == q && option_map_or (λ n. true) page.after false) (asking None page.max page.began b) (λ good none same. none-some _ (sym none)))
      well
