-- A chain that is walked: what was counted, and what is left.
use Rattle.std.proofs.Common.{◌≡◌, ℕ, suc, ◌+◌, ◌*◌, ◌-◌, ◌<◌, ◌≤◌, Bool, true, false, List, [], ◌∷◌, ◌++◌, Option, Some, None, length, eqb, refl, sym, ap, ◌∙◌, arith, inl, inr, append_assoc, append-nil}
use Rattle.std.proofs.lemmas.Bool.{cases_Bool, cases_eq}
use Rattle.std.proofs.lemmas.Bool.Decides.{nat_tests}
use Rattle.std.proofs.lemmas.List.{length-append, length-map, map-append, take_all}
use Rattle.std.proofs.lemmas.List.Elements.{filter-append}
use Rattle.std.proofs.lemmas.Slice.Eq.{bytes_eq-Decides}
use Rattle.std.specs.List.{filter, position_or_len}
use Rattle.std.specs.Str.{bytes_eq}
use Rattle.mam_archive.specs.Entries.{EntryView, entry_numbered}
use Rattle.mam_pages.proofs.Chains.{Ascend, ascend_filter, ascend_follow, filter_implied, find_head, left_passes, next_in_chain, numbered_left}
use Rattle.mam_pages.proofs.Placed.{FollowOn, placed}
use Rattle.mam_pages.specs.Kept.{AreConsecutive, Kept, first_number, last_number}
use Rattle.mam_pages.specs.Matches.{is_wanted, with_passes}
use Rattle.mam_pages.specs.Parties.{is_full, other_party}
use Rattle.mam_archive.specs.Peers.{bare_form, first_of, is_slash, is_with, next_of, peer_of}
use Rattle.mam_pages.specs.Spans.{number_of_entry, numbers_of}
use Rattle.mam_pages.specs.Stretches.{is_plain}
use Rattle.mam_pages.specs.Tallies.{IsTally}
use Rattle.mam_pages.specs.Walks.{chain, head_number, is_in_chain, wanted_number, wanted_numbers}
use Rattle.mam_pages.specs.declared.query.PageQuery.{PageQuery}
use Rattle.mam_pages.specs.declared.span.Span.{Span}
use Rattle.mam_pages.specs.declared.tally.Tally.{Tally}

-- an address without a resource is its own bare form
pub bare_itself : (peer : List ℕ) → is_full peer ≡ false → bare_form peer ≡ peer
bare_itself peer bare =
    let long : length peer ≤ position_or_len is_slash peer = grind (arith, nat_tests, bare) in
    take_all (position_or_len is_slash peer) peer long

-- the bare form of the other party is the peer
peer_is_bare : (owner : List ℕ) (e : EntryView) → peer_of owner e ≡ bare_form (other_party owner e)
peer_is_bare owner e =
    elim (cases_Bool (bytes_eq (bare_form e.from) owner)) [
      | inl sent ↦ rw sent
      | inr received ↦ rw received
    ]

passes_in_chain : (owner peer : List ℕ) (e : EntryView) → with_passes owner (Some peer) e ≡ true → is_with owner (bare_form peer) e ≡ true
passes_in_chain owner peer e passes =
    elim (cases_Bool (is_full peer)) [
      | inl full ↦
          let same : other_party owner e ≡ peer = (bytes_eq-Decides (other_party owner e) peer).0 (rw full at passes) in
          let bare : peer_of owner e ≡ bare_form peer = peer_is_bare owner e ∙ ap bare_form same in
          (bytes_eq-Decides (peer_of owner e) (bare_form peer)).1 bare
      | inr bare ↦
          let itself : bare_form peer ≡ peer = bare_itself peer bare in
          rw itself (rw bare at passes)
    ]

wanted_in_chain : (owner : List ℕ) (query : PageQuery) (peer : List ℕ) (e : EntryView) → query.peer ≡ Some peer → is_wanted owner query e ≡ true →
    is_in_chain owner query.peer e ≡ true
wanted_in_chain owner query peer e asks wanted =
    let passes : with_passes owner query.peer e ≡ true = grind (arith, wanted) in
    rw asks (passes_in_chain owner peer e (rw asks at passes))

-- what matches is found in the chain
pub chain_wanted : (kept : Kept) (query : PageQuery) (peer : List ℕ) → query.peer ≡ Some peer →
    wanted_numbers kept.owner query (chain kept query) ≡ wanted_numbers kept.owner query kept.entries
chain_wanted kept query peer asks =
    ap numbers_of (filter_implied (is_wanted kept.owner query) (is_in_chain kept.owner query.peer) kept.entries
    (λ e wanted. wanted_in_chain kept.owner query peer e asks wanted))

-- one entry more
pub wanted_push : (owner : List ℕ) (query : PageQuery) (before : List EntryView) (e : EntryView) →
    wanted_numbers owner query (before ++ e ∷ []) ≡ wanted_numbers owner query before ++ wanted_number owner query e
wanted_push owner query before e =
    let one : numbers_of (filter (is_wanted owner query) (e ∷ [])) ≡ wanted_number owner query e = elim (cases_Bool (is_wanted owner query e)) [
      | inl wanted ↦ rw wanted
      | inr other ↦ rw other
    ] in
    ap numbers_of (filter-append (is_wanted owner query) before (e ∷ []))
    ∙ map-append number_of_entry (filter (is_wanted owner query) before) (filter (is_wanted owner query) (e ∷ []))
    ∙ ap (λ t. numbers_of (filter (is_wanted owner query) before) ++ t) one

pub shorter : (p : EntryView → Bool) (es : List EntryView) → length (filter p es) ≤ length es
shorter p [] = omega arith
shorter p (e ∷ es) =
    let rest = shorter p es in
    elim (cases_Bool (p e)) [
      | inl holds ↦ rw holds (omega (arith, rest))
      | inr fails ↦ rw fails (omega (arith, rest))
    ]

-- of so many entries no more match
pub wanted_few : (owner : List ℕ) (query : PageQuery) (es : List EntryView) → length (wanted_numbers owner query es) ≤ length es
wanted_few owner query es = rw (length-map (filter (is_wanted owner query) es) number_of_entry) (shorter (is_wanted owner query) es)

-- so far along a chain: `before` was counted, and `next` is the number of the first of the rest
pub record IsWalked (kept : Kept) (query : PageQuery) (span : Span) (had looks : ℕ) (next : Option ℕ) (tally : Tally) : Type 0 where
  pub before : List EntryView
  pub rest : List EntryView
  pub parts : chain kept query ≡ before ++ rest
  pub head : next ≡ head_number rest
  pub counted : IsTally span (wanted_numbers kept.owner query before) tally
  pub taken : looks ≤ had + 2 * length before
  pub plain : is_plain query ≡ true → looks ≤ had + length before

-- how much is left, where the last number is known
abbrev pub steps_left : ℕ → Option ℕ → ℕ
steps_left last None = 0
steps_left last (Some n) = last + 1 - n

pub walk_begin : (kept : Kept) (query : PageQuery) (peer : List ℕ) (span : Span) (had looks : ℕ) (next : Option ℕ) (tally : Tally) →
    query.peer ≡ Some peer → next ≡ first_of kept.owner (bare_form peer) kept.entries → IsTally span [] tally → looks ≤ had →
    IsWalked kept query span had looks next tally
walk_begin kept query peer span had looks next tally asks first none few =
    record {
      before = [];
      rest = chain kept query;
      parts = refl;
      head = first ∙ find_head (is_with kept.owner (bare_form peer)) kept.entries
          ∙ ap (λ asked. head_number (filter (is_in_chain kept.owner asked) kept.entries)) (sym asks);
      counted = none;
      taken = omega (arith, few);
      plain = λ _. omega (arith, few);
    }

-- the walk stands at an entry
pub record IsAt (kept : Kept) (query : PageQuery) (span : Span) (had looks number : ℕ) (tally : Tally) : Type 0 where
  pub before : List EntryView
  pub entry : EntryView
  pub rest : List EntryView
  pub parts : chain kept query ≡ before ++ entry ∷ rest
  pub is : entry.number ≡ number
  pub there : entry_numbered number kept.entries ≡ Some entry
  pub in_chain : is_in_chain kept.owner query.peer entry ≡ true
  pub next : next_of kept.owner number kept.entries ≡ head_number rest
  pub counted : IsTally span (wanted_numbers kept.owner query before) tally
  pub taken : looks ≤ had + 2 * length before
  pub plain : is_plain query ≡ true → looks ≤ had + length before
  pub room : tally.count + 1 ≤ length kept.entries
  pub low : number ≤ last_number kept.entries
  pub up : steps_left (last_number kept.entries) (head_number rest) < steps_left (last_number kept.entries) (Some number)

-- an entry of consecutive ones has no higher number than the last
high_among : (n : ℕ) (es : List EntryView) (m : ℕ) (e : EntryView) → FollowOn n es → entry_numbered m es ≡ Some e → m ≤ n + length es
high_among n [] m e follow is = absurd (grind (arith, is))
high_among n (x ∷ xs) m e follow is =
    elim (cases_eq x.number m) [
      | inl same ↦ omega (arith, same, follow.0)
      | inr other ↦
          let skip : eqb x.number m ≡ false = grind (arith, nat_tests) in
          let rest = high_among (suc n) xs m e follow.1 (rw skip at is) in
          omega (arith, rest)
    ]

after_rises : (n : ℕ) (before : List EntryView) (e f : EntryView) (rest : List EntryView) → Ascend n (before ++ e ∷ f ∷ rest) → e.number < f.number
after_rises n [] e f rest up = up.1.0
after_rises n (b ∷ before) e f rest up = after_rises b.number before e f rest up.1

steps_fall : (n last : ℕ) (before : List EntryView) (e : EntryView) (rest : List EntryView) → Ascend n (before ++ e ∷ rest) → e.number ≤ last →
    steps_left last (head_number rest) < steps_left last (Some e.number)
steps_fall n last before e [] up low = omega (arith, low)
steps_fall n last before e (f ∷ rest) up low = let rises = after_rises n before e f rest up in omega (arith, rises, low)

at_entry : (kept : Kept) (query : PageQuery) (peer : List ℕ) (span : Span) (had looks number : ℕ) (tally : Tally) (before rest : List EntryView) (e : EntryView) →
    query.peer ≡ Some peer → AreConsecutive kept.entries → chain kept query ≡ before ++ e ∷ rest → number ≡ e.number →
    IsTally span (wanted_numbers kept.owner query before) tally → looks ≤ had + 2 * length before → (is_plain query ≡ true → looks ≤ had + length before) → IsAt kept query span had looks number tally
at_entry kept query peer span had looks number tally before rest e asks known parts is counted taken plain =
    let first = first_number kept.entries in
    let last = last_number kept.entries in
    let at = placed first last kept.entries (record { consecutive = known; from = refl; to = refl }) in
    let up : Ascend (first - 1) kept.entries = ascend_follow (first - 1) kept.entries at.1.follow in
    let p = is_with kept.owner (bare_form peer) in
    let left : filter p kept.entries ≡ before ++ e ∷ rest = ap (λ asked. filter (is_in_chain kept.owner asked) kept.entries) (sym asks) ∙ parts in
    let up_chain : Ascend (first - 1) (before ++ e ∷ rest) = rw left at (ascend_filter p (first - 1) kept.entries up) in
    let there : entry_numbered e.number kept.entries ≡ Some e = numbered_left p (first - 1) kept.entries before e rest up left in
    let low : e.number ≤ last = omega (arith, high_among (first - 1) kept.entries e.number e at.1.follow there, at.1.end) in
    let all : length (before ++ e ∷ rest) ≤ length kept.entries = rw (← left) (shorter p kept.entries) in
    let size = length-append before (e ∷ rest) in
    let few = wanted_few kept.owner query before in
    record {
      before = before;
      entry = e;
      rest = rest;
      parts = parts;
      is = sym is;
      there = rw is there;
      in_chain = rw asks (left_passes p kept.entries before e rest left);
      next = rw is (next_in_chain kept.owner (bare_form peer) (first - 1) kept.entries before e rest up left);
      counted = counted;
      taken = taken;
      plain = plain;
      room = omega (arith, counted.count, few, size, all);
      low = rw is low;
      up = rw is (steps_fall (first - 1) last before e rest up_chain low);
    }

at_rest : (kept : Kept) (query : PageQuery) (peer : List ℕ) (span : Span) (had looks number : ℕ) (tally : Tally) (before rest : List EntryView) →
    query.peer ≡ Some peer → AreConsecutive kept.entries → chain kept query ≡ before ++ rest → Some number ≡ head_number rest →
    IsTally span (wanted_numbers kept.owner query before) tally → looks ≤ had + 2 * length before → (is_plain query ≡ true → looks ≤ had + length before) → IsAt kept query span had looks number tally
at_rest kept query peer span had looks number tally before [] asks known parts head counted taken plain = absurd (grind (arith, head))
at_rest kept query peer span had looks number tally before (e ∷ rest) asks known parts head counted taken plain =
    let is : number ≡ e.number = grind (arith, head) in
    at_entry kept query peer span had looks number tally before rest e asks known parts is counted taken plain

pub walk_at : (kept : Kept) (query : PageQuery) (peer : List ℕ) (span : Span) (had looks number : ℕ) (next : Option ℕ) (tally : Tally) →
    query.peer ≡ Some peer → AreConsecutive kept.entries → next ≡ Some number → IsWalked kept query span had looks next tally →
    IsAt kept query span had looks number tally
walk_at kept query peer span had looks number next tally asks known is walked =
    at_rest kept query peer span had looks number tally walked.before walked.rest asks known walked.parts (sym is ∙ walked.head) walked.counted walked.taken walked.plain

pub walk_on : (kept : Kept) (query : PageQuery) (span : Span) (had looks more number : ℕ) (next : Option ℕ) (tally after : Tally) →
    (at : IsAt kept query span had looks number tally) → next ≡ next_of kept.owner number kept.entries →
    IsTally span (wanted_numbers kept.owner query at.before ++ wanted_number kept.owner query at.entry) after → more ≤ looks + 2 → (is_plain query ≡ true → more ≤ looks + 1) →
    IsWalked kept query span had more next after
walk_on kept query span had looks more number next tally after at is counted few fewer =
    record {
      before = at.before ++ at.entry ∷ [];
      rest = at.rest;
      parts = at.parts ∙ sym (append_assoc at.before (at.entry ∷ []) at.rest);
      head = is ∙ at.next;
      counted = rw (wanted_push kept.owner query at.before at.entry) counted;
      taken = omega (arith, few, at.taken, length-append at.before (at.entry ∷ []));
      plain = λ is_so. omega (arith, fewer is_so, at.plain is_so, length-append at.before (at.entry ∷ []));
    }

nothing_left : (next : Option ℕ) (rest : List EntryView) → next ≡ None → next ≡ head_number rest → rest ≡ []
nothing_left next [] none head = refl
nothing_left next (e ∷ rest) none head = let no_head : None ≡ Some e.number = sym none ∙ head in absurd (grind (arith, no_head))

pub walk_end : (kept : Kept) (query : PageQuery) (peer : List ℕ) (span : Span) (had looks : ℕ) (next : Option ℕ) (tally : Tally) →
    query.peer ≡ Some peer → next ≡ None → IsWalked kept query span had looks next tally →
    IsTally span (wanted_numbers kept.owner query kept.entries) tally
walk_end kept query peer span had looks next tally asks none walked =
    let over : walked.rest ≡ [] = nothing_left next walked.rest none walked.head in
    let all : chain kept query ≡ walked.before = walked.parts ∙ ap (λ t. walked.before ++ t) over ∙ append-nil walked.before in
    rw (sym (chain_wanted kept query peer asks) ∙ ap (wanted_numbers kept.owner query) all) walked.counted

pub walk_smaller : (kept : Kept) (query : PageQuery) (span : Span) (had looks number : ℕ) (now next : Option ℕ) (tally : Tally) →
    IsAt kept query span had looks number tally → now ≡ Some number → next ≡ next_of kept.owner number kept.entries →
    steps_left (last_number kept.entries) next < steps_left (last_number kept.entries) now
walk_smaller kept query span had looks number now next tally at here is =
    let follows : next ≡ head_number at.rest = is ∙ at.next in
    rw (here, follows) at.up
