-- The next stanza that a client handles makes no fault, and the end of a page tells what the archive kept.
use Rattle.std.proofs.Common.{◌≡◌, ℕ, ◌+◌, ◌-◌, min, Bool, true, false, List, ◌∷◌, ◌++◌, map, Option, Some, None, refl, sym, ap, subst, ◌∙◌, arith}
use Rattle.std.specs.List.{slice_get}
use Rattle.std.specs.Option.{option_map_or}
use Rattle.sim_1_applications.proofs.Answered.{AResult, AnEnd, Kind, NoPlace, kind_of, next_answer}
use Rattle.sim_1_applications.proofs.Handled.{read_kept}
use Rattle.sim_1_applications.specs.Devices.{Answer, AppWorld, Device, OpenPage, first_of, last_of}
use Rattle.sim_1_applications.specs.Events.{Around, around, reads}
use Rattle.sim_1_applications.specs.Kept.{DeviceRead, PageKept, Read, Taken}
use Rattle.sim_1_applications.specs.Stanzas.{Accepted, Bounced, Down, Fin, Live, NotFound, Res}
use Rattle.sim_5_devices.specs.Logged.{IsCountOf, IsCounted}

-- how many entries are kept, by the first and the last of them
kept_count : (keep first last : ℕ) → first ≡ first_of keep last → last + 1 - first ≡ min last keep
kept_count keep first last is = omega (arith, is)

count_by : (keep q : ℕ) (complete : Bool) (greatest : Option ℕ) (count : ℕ) (page : OpenPage) (a : Answer) (tail : List Down) → a.first ≡ first_of keep a.last
    → Kind page a (Fin q complete greatest count) tail → count ≡ min a.last keep
count_by keep q complete greatest count page a tail kept (AResult n more is numbers rest) = absurd (let bad : ⊥ = cc in bad)
count_by keep q complete greatest count page a tail kept (AnEnd placed is results over) = (let same : count ≡ a.last + 1 - a.first = cc in same ∙ kept_count keep a.first a.last kept)
count_by keep q complete greatest count page a tail kept (NoPlace lost is results over) = absurd (let bad : ⊥ = cc in bad)

module _ (keep : ℕ) (x : Around) (d : Device) (online : d.sessions.online ≡ true) (kept : PageKept keep x.first x.last d) where
  end_counted : (q : ℕ) (complete : Bool) (greatest : Option ℕ) (count : ℕ) (rest : List Down) → d.sessions.now.down_rest ≡ Fin q complete greatest count ∷ rest
      → IsCounted keep x d.reading.page (Fin q complete greatest count)
  end_counted q complete greatest count rest split =
      let z = Fin q complete greatest count in
      let next = next_answer keep x.first x.last d z rest online split refl kept in
      let kind = kind_of next.page next.a z next.tail (ap (λ l. map (Res next.page.number) next.page.results ++ l) (sym next.is.split) ∙ next.is.answered.answer) in
      let total : IsCountOf keep x next.page count =
      count_by keep q complete greatest count next.page next.a next.tail next.is.answered.kept kind
      ∙ sym (ap (λ o. min (option_map_or (λ answer. answer.last) o x.last) keep) next.is.answer_is) in
      subst (λ o. IsCounted keep x o z) (sym next.is.page_is) total

  -- of no other stanza is anything asked
  pub next_counted : (z : Down) (rest : List Down) → d.sessions.now.down_rest ≡ z ∷ rest → IsCounted keep x d.reading.page z
  next_counted (Fin q complete greatest count) rest split = end_counted q complete greatest count rest split
  next_counted Accepted rest split = by d.reading.page
    where
      by : (o : Option OpenPage) → IsCounted keep x o Accepted
      by None = tt
      by (Some page) = tt
  next_counted (Bounced e n) rest split = by d.reading.page
    where
      by : (o : Option OpenPage) → IsCounted keep x o (Bounced e n)
      by None = tt
      by (Some page) = tt
  next_counted (Live n) rest split = by d.reading.page
    where
      by : (o : Option OpenPage) → IsCounted keep x o (Live n)
      by None = tt
      by (Some page) = tt
  next_counted (Res q n) rest split = by d.reading.page
    where
      by : (o : Option OpenPage) → IsCounted keep x o (Res q n)
      by None = tt
      by (Some page) = tt
  next_counted (NotFound q) rest split = by d.reading.page
    where
      by : (o : Option OpenPage) → IsCounted keep x o (NotFound q)
      by None = tt
      by (Some page) = tt

module _ (w : AppWorld) (read : Read w) (i : ℕ) (d : Device) (there : slice_get w.devices i ≡ Some d) (online : d.sessions.online ≡ true) (z : Down) (rest : List Down)
    (split : d.sessions.now.down_rest ≡ z ∷ rest) where
  known : DeviceRead w.keep (first_of w.keep (last_of w.takes d.account)) (last_of w.takes d.account) d
  known = read.devices i d there

  pub well : Taken w → (reads (around w d) z d.reading).reading.faulty ≡ false
  well taken =
      (read_kept w.keep (around w d) (z ∷ rest) d read.keep split online ((taken.devices i d there).sessions.epochs.online online) (record { page = known.page; log = known.log })).page.no_fault

  pub counted : IsCounted w.keep (around w d) d.reading.page z
  counted = next_counted w.keep (around w d) d online known.page z rest split
