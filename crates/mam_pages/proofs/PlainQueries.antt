-- A query for no more than an account: all entries with it match.
use Rattle.std.proofs.Common.{◌≡◌, ℕ, ◌≤◌, if◌then◌else◌, Bool, true, false, ◌&&◌, List, [], ◌∷◌, Option, Some, None, length, refl, sym, ap, ◌∙◌, arith, inl, inr}
use Rattle.std.proofs.lemmas.Bool.{cases_Bool, false≢true}
use Rattle.std.proofs.lemmas.Option.{slice_get_within}
use Rattle.std.specs.List.{filter}
use Rattle.mam_archive.specs.Entries.{EntryView}
use Rattle.mam_archive.specs.Peers.{bare_form, chain_ends, first_of, is_with}
use Rattle.mam_archive.specs.declared.chains.Chain.{Chain}
use Rattle.mam_pages.proofs.ChainNumbers.{first_is_head, numbers_ends, numbers_size}
use Rattle.mam_pages.proofs.Walked.{bare_itself}
use Rattle.mam_pages.specs.Kept.{Kept}
use Rattle.mam_pages.specs.Matches.{end_passes, is_wanted, matching, start_passes, with_passes}
use Rattle.mam_pages.specs.Parties.{is_full}
use Rattle.mam_pages.specs.Spans.{numbers_of}
use Rattle.mam_pages.specs.Stretches.{chain_numbers, is_absent, is_bare, is_plain}
use Rattle.mam_pages.specs.Walks.{chain, is_in_chain}
use Rattle.mam_pages.specs.declared.query.PageQuery.{PageQuery}
use Rattle.mam_pages.specs.Looks.{entries_with}

record ArePlain (p : Option (List ℕ)) (start end : Option ℕ) : Type 0 where
  bare : is_bare p ≡ true
  start_none : start ≡ None
  end_none : end ≡ None

plain_parts : (p : Option (List ℕ)) (start end : Option ℕ) → (if is_bare p then (if is_absent start then is_absent end else false) else false) ≡ true → ArePlain p start end
plain_parts p None None plain = elim (cases_Bool (is_bare p)) [
  | inl bare ↦ record { bare = bare; start_none = refl; end_none = refl }
  | inr other ↦ absurd (false≢true (rw other at plain))
]
plain_parts p None (Some n) plain = elim (cases_Bool (is_bare p)) [
  | inl bare ↦ absurd (false≢true (rw bare at plain))
  | inr other ↦ absurd (false≢true (rw other at plain))
]
plain_parts p (Some n) end plain = elim (cases_Bool (is_bare p)) [
  | inl bare ↦ absurd (false≢true (rw bare at plain))
  | inr other ↦ absurd (false≢true (rw other at plain))
]

-- its address has no resource
pub plain_is_bare : (query : PageQuery) (peer : List ℕ) → is_plain query ≡ true → query.peer ≡ Some peer → is_full peer ≡ false
plain_is_bare query peer plain asks =
    let known : is_bare query.peer ≡ true = (plain_parts query.peer query.start query.end plain).bare in
    elim (cases_Bool (is_full peer)) [
      | inl full ↦ absurd (false≢true (rw full at (rw asks at known)))
      | inr bare ↦ bare
    ]

pub bare_is_plain : (query : PageQuery) (peer : List ℕ) → query.peer ≡ Some peer → is_full peer ≡ false → query.start ≡ None → query.end ≡ None → is_plain query ≡ true
bare_is_plain query peer asks bare start end = rw (asks, bare, start, end) refl

wanted_plain : (owner peer : List ℕ) (p : Option (List ℕ)) (start end : Option ℕ) (e : EntryView) → p ≡ Some peer → is_full peer ≡ false → start ≡ None → end ≡ None →
    (with_passes owner p e && (start_passes start e && end_passes end e)) ≡ is_with owner peer e
wanted_plain owner peer p start end e asks bare none_start none_end =
    rw (asks, bare, none_start, none_end) (elim (cases_Bool (is_with owner peer e)) [
      | inl holds ↦ rw holds refl
      | inr fails ↦ rw fails refl
    ])

filter_alike : (p q : EntryView → Bool) (es : List EntryView) → ((e : EntryView) → p e ≡ q e) → filter p es ≡ filter q es
filter_alike p q [] same = refl
filter_alike p q (e ∷ es) same =
    let here : p e ≡ q e = same e in
    let rest = filter_alike p q es same in
    elim (cases_Bool (q e)) [
      | inl holds ↦ rw (here, holds) (ap (λ t. e ∷ t) rest)
      | inr fails ↦ rw (here, fails) rest
    ]

-- what matches is the chain
pub plain_matching : (kept : Kept) (query : PageQuery) (peer : List ℕ) → is_plain query ≡ true → query.peer ≡ Some peer →
    numbers_of (matching kept query) ≡ chain_numbers kept peer
plain_matching kept query peer plain asks =
    let parts = plain_parts query.peer query.start query.end plain in
    let bare = plain_is_bare query peer plain asks in
    ap numbers_of (filter_alike (is_wanted kept.owner query) (is_with kept.owner peer) kept.entries
    (λ e. wanted_plain kept.owner peer query.peer query.start query.end e asks bare parts.start_none parts.end_none))

-- how many are walked
pub plain_chain : (kept : Kept) (query : PageQuery) (peer : List ℕ) → is_plain query ≡ true → query.peer ≡ Some peer → length (chain kept query) ≡ entries_with peer kept
plain_chain kept query peer plain asks =
    let itself = bare_itself peer (plain_is_bare query peer plain asks) in
    ap (λ asked. length (filter (is_in_chain kept.owner asked) kept.entries)) asks ∙ ap (λ p. entries_with p kept) itself

pub plain_first : (kept : Kept) (query : PageQuery) (peer : List ℕ) (ends : Chain) → is_plain query ≡ true → query.peer ≡ Some peer →
    chain_ends kept.owner peer kept.entries ≡ Some ends → Some ends.first ≡ first_of kept.owner (bare_form peer) kept.entries
plain_first kept query peer ends plain asks is =
    let itself = bare_itself peer (plain_is_bare query peer plain asks) in
    sym (ap (λ p. first_of kept.owner p kept.entries) itself ∙ first_is_head kept peer ∙ (numbers_ends kept peer ends is).first)

-- there is one entry at least
pub chain_some : (kept : Kept) (peer : List ℕ) (ends : Chain) → chain_ends kept.owner peer kept.entries ≡ Some ends → 1 ≤ entries_with peer kept
chain_some kept peer ends is =
    let inside = slice_get_within (chain_numbers kept peer) 0 ends.first (numbers_ends kept peer ends is).first in
    omega (arith, inside, numbers_size kept peer)
