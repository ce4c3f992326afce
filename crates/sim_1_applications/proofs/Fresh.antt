-- Law 5's bounds over a history: an earlier world, in which page n wasn't asked for yet, has a last number that is no
-- more than what the pages from n on began at.
use Rattle.std.proofs.Common.{◌≡◌, ℕ, suc, zero, ◌+◌, ◌<◌, ◌≤◌, ◌==◌, Bool, true, false, cond, List, [], ◌∷◌, ◌++◌, Option, Some, None, length, refl, sym, ap, ◌∙◌, subst, arith, inl, inr, ◌⊎◌}
use Rattle.std.specs.List.{slice_get}
use Rattle.std.specs.Option.{option_map, option_map_or}
use Rattle.std.specs.Prelude.{◌&&◌, nat_lt}
use Rattle.std.proofs.lemmas.Option.{slice_get_within}
use Rattle.sim_1_applications.specs.Answers.{last_in, page_answer_of}
use Rattle.sim_1_applications.specs.Stanzas.{Up, Down}
use Rattle.sim_1_applications.specs.Stanzas.Up.{Carbons, Presence, Message, Query}
use Rattle.sim_1_applications.specs.Stanzas.Down.{Accepted, Bounced, Live, Res, Fin, NotFound}
use Rattle.sim_1_applications.specs.Devices.{Reading, Device, OpenPage, Tile}
use Rattle.sim_1_applications.specs.Events as events
use Rattle.sim_1_applications.specs.Histories.{asked_of, asked_with}

pub record Seen (l n last : ℕ) (b : Reading) : Type 0 where
  pub low : l ≤ last
  pub tiles : (k : ℕ) (t : Tile) → slice_get b.tiles k ≡ Some t → n ≤ k → l ≤ t.began
  pub page : (p : OpenPage) → b.page ≡ Some p → n ≤ length b.tiles → l ≤ p.began

pub seen_grows : (l n last last2 : ℕ) (b : Reading) → last ≤ last2 → Seen l n last b → Seen l n last2 b
seen_grows l n last last2 b more seen = record { low = let was = seen.low in omega arith; tiles = seen.tiles; page = seen.page }

some_is : {A : Type 0} (x y : A) → Some x ≡ Some y → x ≡ y
some_is x y e = cc

-- another page with the same beginning, or the same tiles and no page
with_page : (l n last : ℕ) (b c : Reading) (p q : OpenPage) → c.tiles ≡ b.tiles → b.page ≡ Some p → c.page ≡ Some q → q.began ≡ p.began → Seen l n last b → Seen l n last c
with_page l n last b c p q tiles was is began seen = record {
  low = seen.low;
  tiles = λ k t at. seen.tiles k t (ap (λ ts. slice_get ts k) (sym tiles) ∙ at);
  page = λ r at late. let same : q.began ≡ r.began = ap (λ x. x.began) (some_is q r (sym is ∙ at)) in
      let old = seen.page p was (subst (λ ts. n ≤ length ts) tiles late) in omega arith;
}

same_page : (l n last : ℕ) (b c : Reading) → c.tiles ≡ b.tiles → c.page ≡ b.page → Seen l n last b → Seen l n last c
same_page l n last b c tiles page seen = record {
  low = seen.low;
  tiles = λ k t at. seen.tiles k t (ap (λ ts. slice_get ts k) (sym tiles) ∙ at);
  page = λ p at late. seen.page p (sym page ∙ at) (subst (λ ts. n ≤ length ts) tiles late);
}

no_page : (l n last : ℕ) (b c : Reading) → c.tiles ≡ b.tiles → c.page ≡ None → Seen l n last b → Seen l n last c
no_page l n last b c tiles page seen = record {
  low = seen.low;
  tiles = λ k t at. seen.tiles k t (ap (λ ts. slice_get ts k) (sym tiles) ∙ at);
  page = λ p at late. absurd (let bad : ⊥ = cc in bad);
}

-- a page that is asked for now
new_page : (l n last : ℕ) (b c : Reading) (q : OpenPage) → c.tiles ≡ b.tiles → c.page ≡ Some q → q.began ≡ last → Seen l n last b → Seen l n last c
new_page l n last b c q tiles is began seen = record {
  low = seen.low;
  tiles = λ k t at. seen.tiles k t (ap (λ ts. slice_get ts k) (sym tiles) ∙ at);
  page = λ r at late. let same : q.began ≡ r.began = ap (λ x. x.began) (some_is q r (sym is ∙ at)) in let low = seen.low in omega arith;
}

pushed : (ts : List Tile) (t u : Tile) (k : ℕ) → slice_get (ts ++ t ∷ []) k ≡ Some u → (slice_get ts k ≡ Some u) ⊎ ((t ≡ u) × (k ≡ length ts))
pushed [] t u zero at = inr (some_is t u at, refl)
pushed [] t u (suc k) at = absurd (let bad : ⊥ = cc in bad)
pushed (x ∷ ts) t u zero at = inl at
pushed (x ∷ ts) t u (suc k) at = elim (pushed ts t u k at) [ inl was ↦ inl was | inr new ↦ inr (new.0, ap suc new.1) ]

-- the page is over
laid : (l n last : ℕ) (x : events.Around) (complete : Bool) (count : ℕ) (b : Reading) (p : OpenPage) → b.page ≡ Some p → Seen l n last b → Seen l n last (events.over x complete count p b)
laid l n last x complete count b p is seen = record {
  low = seen.low;
  tiles = λ k t at late. elim (pushed b.tiles (events.tile x complete count p) t k at) [
    | inl was ↦ seen.tiles k t was late
    | inr new ↦ let began : p.began ≡ t.began = ap (λ u. u.began) new.0 in let position = new.1 in let old = seen.page p is (omega arith) in omega arith
  ];
  page = λ q at late. absurd (let bad : ⊥ = cc in bad);
}

refused : (l n last : ℕ) (b : Reading) → Seen l n last b → Seen l n last (events.refuse b).reading
refused l n last b seen = same_page l n last b (record b { faulty = true }) refl refl seen

-- where a page is under way
seen_with : (l n last : ℕ) (f : OpenPage → Reading → events.Reaction) (b : Reading) → ((p : OpenPage) → b.page ≡ Some p → Seen l n last (f p b).reading) → Seen l n last b →
    Seen l n last (events.with_page f b).reading
seen_with l n last f b each seen = of_page b.page refl
  where
    of_page : (o : Option OpenPage) → b.page ≡ o → Seen l n last (option_map_or (λ p. f p b) o (events.refuse b)).reading
    of_page None is = refused l n last b seen
    of_page (Some p) is = each p is

seen_if : (l n last : ℕ) (c : Bool) (r : events.Reaction) (b : Reading) → Seen l n last r.reading → Seen l n last b → Seen l n last (cond c r (events.refuse b)).reading
seen_if l n last true r b now seen = now
seen_if l n last false r b now seen = refused l n last b seen

seen_result : (l n last q m : ℕ) (p : OpenPage) (b : Reading) → b.page ≡ Some p → Seen l n last b → Seen l n last (events.result q m p b).reading
seen_result l n last q m p b is seen =
    let next : OpenPage = record p { results = p.results ++ m ∷ []; answer = option_map events.passed p.answer } in
    seen_if l n last (p.number == q && nat_lt (length p.results) p.max) (events.quiet (record b { page = Some next })) b
    (with_page l n last b (record b { page = Some next }) p next refl is refl refl seen) seen

seen_restart : (l n last q : ℕ) (p : OpenPage) (b : Reading) → b.page ≡ Some p → Seen l n last b → Seen l n last (events.restart q p b).reading
seen_restart l n last q p b is seen =
    let next : OpenPage = record { number = b.asked + 1; after = None; max = p.max; results = []; began = p.began; answer = None } in
    seen_if l n last (p.number == q && option_map_or (λ m. true) p.after false) (events.asking None p.max p.began b) b
    (with_page l n last b (events.asking None p.max p.began b).reading p next refl is refl refl seen) seen

seen_end : (l n : ℕ) (x : events.Around) (complete : Bool) (count : ℕ) (p : OpenPage) (b : Reading) → b.page ≡ Some p → Seen l n x.last b →
    Seen l n x.last (cond complete (events.quiet (events.over x complete count p b)) (events.asking (last_in (events.over x complete count p b).run) p.max x.last (events.over x complete count p b))).reading
seen_end l n x true count p b is seen = laid l n x.last x true count b p is seen
seen_end l n x false count p b is seen =
    let over = events.over x false count p b in
    new_page l n x.last over (events.asking (last_in over.run) p.max x.last over).reading
    (record { number = over.asked + 1; after = last_in over.run; max = p.max; results = []; began = x.last; answer = None }) refl refl refl (laid l n x.last x false count b p is seen)

seen_reads : (l n : ℕ) (x : events.Around) (z : Down) (b : Reading) → Seen l n x.last b → Seen l n x.last (events.reads x z b).reading
seen_reads l n x Accepted b seen = seen
seen_reads l n x (Bounced e m) b seen = seen
seen_reads l n x (Live m) b seen = same_page l n x.last b (events.hold m b) refl refl seen
seen_reads l n x (Res q m) b seen = seen_with l n x.last (events.result q m) b (λ p is. seen_result l n x.last q m p b is seen) seen
seen_reads l n x (Fin q complete last count) b seen =
    seen_with l n x.last (events.fin x q complete last count) b (λ p is. seen_if l n x.last _ _ b (seen_end l n x complete count p b is seen) seen) seen
seen_reads l n x (NotFound q) b seen = seen_with l n x.last (events.restart q) b (λ p is. seen_restart l n x.last q p b is seen) seen

seen_served : (l n : ℕ) (x : events.Around) (z : Up) (b : Reading) → Seen l n x.last b → Seen l n x.last (events.reading_served x z b)
seen_served l n x Carbons b seen = seen
seen_served l n x Presence b seen = seen
seen_served l n x (Message m) b seen = seen
seen_served l n x (Query r) b seen = of_page b.page refl
  where
    began_of : (p : OpenPage) (c : Bool) → (cond c (record p { answer = Some (record { first = x.first; last = x.last; rest = page_answer_of x.first x.last r }) }) p).began ≡ p.began
    began_of p true = refl
    began_of p false = refl

    of_page : (o : Option OpenPage) → b.page ≡ o → Seen l n x.last (record b { page = option_map (events.answered x r) o })
    of_page None is = no_page l n x.last b (record b { page = None }) refl refl seen
    of_page (Some p) is = with_page l n x.last b (record b { page = Some (events.answered x r p) }) p (events.answered x r p) refl is refl (began_of p (p.number == r.number)) seen

seen_server : (l n : ℕ) (x : events.Around) (fits : ℕ) (zs : List Up) (d : Device) → Seen l n x.last d.reading → Seen l n x.last (events.served x fits zs d).reading
seen_server l n x fits [] d seen = seen
seen_server l n x fits (z ∷ rest) d seen = seen_served l n x z d.reading seen

seen_client : (l n : ℕ) (x : events.Around) (zs : List Down) (d : Device) → Seen l n x.last d.reading → Seen l n x.last (events.read x zs d).reading
seen_client l n x [] d seen = seen
seen_client l n x (z ∷ rest) d seen = seen_reads l n x z d.reading seen

pub seen_own : (l n : ℕ) (x : events.Around) (act : events.Act) (d : Device) → Seen l n x.last d.reading → Seen l n x.last (events.own x act d).reading
seen_own l n x events.Act.Bind d seen = seen
seen_own l n x (events.Act.ReadBound live) d seen = seen
seen_own l n x events.Act.Enable d seen = seen
seen_own l n x events.Act.ReadEnabled d seen = seen
seen_own l n x events.Act.End d seen = seen
seen_own l n x events.Act.Drop d seen = no_page l n x.last d.reading (record d.reading { page = None }) refl refl seen
seen_own l n x (events.Act.Acknowledge m) d seen = seen
seen_own l n x (events.Act.Say to text private) d seen = seen
seen_own l n x (events.Act.CatchUp max) d seen =
    new_page l n x.last d.reading (events.own x (events.Act.CatchUp max) d).reading
    (record { number = d.reading.asked + 1; after = last_in d.reading.run; max = max; results = []; began = x.last; answer = None }) refl refl refl seen
seen_own l n x (events.Act.ServerHandles fits full) d seen = seen_server l n x fits d.sessions.now.up_rest d seen
seen_own l n x events.Act.ClientHandles d seen = seen_client l n x d.sessions.now.down_rest d seen

-- a world sees itself
pub seen_now : (last : ℕ) (b : Reading) → Seen last (asked_of b) last b
seen_now last b = record {
  low = omega arith;
  tiles = λ k t at late. let within = slice_get_within b.tiles k t at in absurd (few b.page k within late);
  page = λ p at late. absurd (let opened : asked_of b ≡ length b.tiles + 1 = ap (asked_with b) at in omega arith);
}
  where
    few : (o : Option OpenPage) (k : ℕ) → k < length b.tiles → asked_with b o ≤ k → ⊥
    few None k within late = omega arith
    few (Some p) k within late = omega arith
