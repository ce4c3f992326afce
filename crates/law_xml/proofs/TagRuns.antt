-- A framer reads what spells a tag: at the tag's `>` the whole tag is in its hand.
use Rattle.std.proofs.Common.{◌≡◌, ℕ, ◌+◌, ◌<◌, ◌≤◌, ◌^◌, ◌⊎◌, ⊎_elim, Bool, true, false, eqb, ltb, leb, not, ◌&&◌, if◌then◌else◌, List, [], ◌∷◌, ◌++◌, Option, Some, None, length, unwrap_or, refl, sym, ap, subst, ◌∙◌, arith, append_assoc, append-nil, length-append}
use Rattle.std.proofs.lemmas.Bool.{and_parts, and_left, and_right, false≢true, not-true, lt-leb}
use Rattle.std.proofs.lemmas.Bool.Decides.{nat_tests}
use Rattle.std.proofs.lemmas.Option.{same_Some}
use Rattle.std.specs.Option.{is_some}
use Rattle.xml_names.proofs.EndLaws.{end_tags_are_read}
use Rattle.xml_names.proofs.StartLaws as laws
use Rattle.xml_names.specs.Ends.{end_of}
use Rattle.xml_names.specs.Grammar.{IsStart, IsWithin}
use Rattle.xml_names.specs.Scopes.{Scope}
use Rattle.xml_names.specs.Starts.{Tag, start_of}
use Rattle.xml_names.specs.declared.limits.TagLimits.{TagLimits}
use Rattle.std.specs.Prelude.{Ok, ◌↔◌}
use Rattle.std.specs.Str.{IsUtf8}
use Rattle.xml_tokens.specs.Characters.{is_name_start}
use Rattle.xml_tokens.specs.Tags as tokens
use Rattle.xml_tokens.specs.Tags.{IsTag, end_tag, is_end, quote_behind}
use Rattle.xml_tokens.specs.Utf8.{continues, held_after, utf8_next, utf8_run}
use Rattle.law_xml.proofs.FaultLaws.{goes}
use Rattle.xml_framer.proofs.Pieces.{run_append}
use Rattle.law_xml.proofs.Quiet.{AreAlike, HasInHand, HasRoom, IsQuiet}
use Rattle.law_xml.proofs.TagParts.{IsWhole, ends_tag, none_ends, end_whole, start_whole, whole_text}
use Rattle.xml_tokens.proofs.ValueTexts.{leads}
use Rattle.law_xml.specs.FaultRows.{Takes}
use Rattle.xml_framer.specs.Machine.{behind_byte, is_too_long, passed, run, step}
use Rattle.xml_framer.specs.ManyBytes.{quote_after}
use Rattle.xml_framer.specs.States.{State, Turn, counted, gathered, moved, next_position, token_begun, turn}
use Rattle.xml_framer.specs.TagSteps.{in_opening, in_tag, tag_closes, tag_gathered}
use Rattle.xml_framer.specs.TextSteps.{between, in_text, inside}
use Rattle.xml_framer.specs.declared.items.Item.{Item}
use Rattle.xml_framer.specs.declared.states.Mode.{Mode}
use Rattle.xml_framer.specs.declared.states.Mode.TheVariants as mode
use Rattle.xml_tokens.proofs.TagLaws.{start_no_slash as no_slash}

-- ---- a tag in hand

-- Markup is in hand that began in a state: these bytes of it are kept, with this open quote and this character in hand.
pub record InMarkup (s t : State) (m : Mode) (token : List ℕ) (quote : Option ℕ) (held : List ℕ) : Type 0 where
  pub alike : AreAlike s t
  pub no_fault : t.fault ≡ None
  pub chars : t.chars ≡ s.chars
  pub mode_is : t.lexical.mode ≡ m
  pub quote_is : t.lexical.quote ≡ quote
  pub not_spoiled : t.lexical.spoiled ≡ false
  pub token_is : t.token ≡ token
  pub held_is : t.pending ≡ held
  pub token_at : t.positions.token_at ≡ s.positions.at
  pub item_at : is_some s.here ≡ false → t.positions.item_at ≡ s.positions.at

pub alike_after : (s t u : State) → AreAlike s t → AreAlike t u → AreAlike s u
alike_after s t u h k = record {
  limits = k.limits ∙ h.limits;
  here = k.here ∙ h.here;
  below = k.below ∙ h.below;
  scopes = k.scopes ∙ h.scopes;
  name = k.name ∙ h.name;
  phase = k.phase ∙ h.phase;
  spent = k.spent ∙ h.spent;
}

-- the same, told by other words
retold : (s t : State) (m : Mode) (token kept held left : List ℕ) (quote now : Option ℕ) → InMarkup s t m token quote held → token ≡ kept → quote ≡ now → held ≡ left → InMarkup s t m kept now left
retold s t m token kept held left quote now h e f g = record {
  alike = h.alike;
  no_fault = h.no_fault;
  chars = h.chars;
  mode_is = h.mode_is;
  quote_is = h.quote_is ∙ f;
  not_spoiled = h.not_spoiled;
  token_is = h.token_is ∙ e;
  held_is = h.held_is ∙ g;
  token_at = h.token_at;
  item_at = h.item_at;
}

pub held_behind : (s t : State) (m : Mode) (token held next : List ℕ) (quote : Option ℕ) (b : ℕ) → InMarkup s t m token quote held → utf8_next held b ≡ Some next → held_after t.pending b ≡ next
held_behind s t m token held next quote b h e = ap (λ p. unwrap_or (utf8_next p b) p) h.held_is ∙ ap (λ o. unwrap_or o held) e

pub takes : (s t : State) (m : Mode) (token held next : List ℕ) (quote : Option ℕ) (b : ℕ) → InMarkup s t m token quote held → utf8_next held b ≡ Some next → is_too_long t b ≡ false → Takes t m b
takes s t m token held next quote b h e short =
    record { no_fault = h.no_fault; mode_is = h.mode_is; short = short; is_text = ap (λ p. is_some (utf8_next p b)) h.held_is ∙ ap is_some e }

-- ---- the count of bytes

-- behind so many bytes
record Counts (s t : State) (n : ℕ) : Type 0 where
  used : t.positions.used ≤ s.positions.used + n
  small : t.positions.used < 2 ^ 64

-- the count behind a byte
abbrev pub after : ℕ → ℕ
after n = if eqb n 0 then 0 else next_position n

after_most : (n : ℕ) → after n ≤ n + 1
after_most n = either (eqb n 0)
  where
    either : (b : Bool) → (if b then 0 else next_position n) ≤ n + 1
    either true = omega arith
    either false = omega arith

after_small : (n : ℕ) → after n < 2 ^ 64
after_small n = either (eqb n 0)
  where
    either : (b : Bool) → (if b then 0 else next_position n) < 2 ^ 64
    either true = omega arith
    either false = omega arith

counts_more : (s t u : State) (n : ℕ) → u.positions.used ≡ after t.positions.used → Counts s t n → Counts s u (n + 1)
counts_more s t u n is h =
    let most = after_most t.positions.used in
    let small = after_small t.positions.used in
    let before = h.used in
    record { used = omega (arith, is, most, before); small = omega (arith, is, small) }

-- the limit admits so many bytes more
abbrev HasRoomFor : State → ℕ → Type 0
HasRoomFor s n = (s.positions.used + n ≤ s.limits.bytes) ⊎ (2 ^ 64 ≤ s.limits.bytes)

fits : (s t : State) (n total : ℕ) → HasRoomFor s total → AreAlike s t → Counts s t n → n < total → t.positions.used < t.limits.bytes
fits s t n total room alike count less =
    let same = ap (λ l. l.bytes) alike.limits in
    let used = count.used in
    let small = count.small in
    ⊎_elim (λ (some : s.positions.used + total ≤ s.limits.bytes). omega (arith, same, used, less, some)) (λ (all : 2 ^ 64 ≤ s.limits.bytes). omega (arith, same, small, all)) room

is_short : (t : State) (b : ℕ) → t.positions.used < t.limits.bytes → is_too_long t b ≡ false
unfolding is_too_long
is_short t b less = and_right (ltb 0 t.positions.used) _ (and_left (leb t.limits.bytes t.positions.used) _ (lt-leb t.limits.bytes t.positions.used less))

-- ---- a byte of a tag

abbrev after_byte : State → ℕ → State
after_byte t b = passed (tag_gathered (counted t) b) b

gathered_one : (s t : State) (m : Mode) (token held next : List ℕ) (quote : Option ℕ) (b : ℕ) → InMarkup s t m token quote held → utf8_next held b ≡ Some next
    → InMarkup s (after_byte t b) mode.Tag (token ++ b ∷ []) (quote_behind quote b) next
gathered_one s t m token held next quote b h e = record {
  alike = alike_after s t (after_byte t b) h.alike (record { limits = refl; here = refl; below = refl; scopes = refl; name = refl; phase = refl; spent = refl });
  no_fault = h.no_fault;
  chars = h.chars;
  mode_is = refl;
  quote_is = ap (λ q. quote_behind q b) h.quote_is;
  not_spoiled = h.not_spoiled;
  token_is = ap (λ l. l ++ b ∷ []) h.token_is;
  held_is = held_behind s t m token held next quote b h e;
  token_at = h.token_at;
  item_at = h.item_at;
}

in_tag_gathers : (t : Turn) (b : ℕ) → ends_tag t.state.lexical.quote b ≡ false → in_tag t b ≡ moved t (tag_gathered t.state b)
unfolding in_tag
in_tag_gathers t b e = rw e refl

in_tag_closes : (t : Turn) → t.state.lexical.quote ≡ None → in_tag t 62 ≡ tag_closes (moved t (gathered t.state 62))
unfolding in_tag
in_tag_closes t e = let none : is_some t.state.lexical.quote ≡ false = ap is_some e in rw none refl

in_opening_begins : (t : Turn) (b : ℕ) → eqb b 33 ≡ false → eqb b 63 ≡ false → (eqb b 47 && not (is_some t.state.here)) ≡ false → in_opening t b ≡ in_tag t b
unfolding in_opening
in_opening_begins t b bang question footer = rw (bang, question, footer) refl

tag_step : (t : State) (items : List Item) (b : ℕ) → Takes t mode.Tag b → ends_tag t.lexical.quote b ≡ false → step (turn t items) b ≡ turn (after_byte t b) items
tag_step t items b h e = goes (turn t items) mode.Tag b h ∙ ap (λ u. behind_byte u b) (in_tag_gathers (turn (counted t) items) b e)

close_step : (t : State) (items : List Item) → Takes t mode.Tag 62 → t.lexical.quote ≡ None → step (turn t items) 62 ≡ behind_byte (tag_closes (turn (gathered (counted t) 62) items)) 62
close_step t items h e = goes (turn t items) mode.Tag 62 h ∙ ap (λ u. behind_byte u 62) (in_tag_closes (turn (counted t) items) e)

opening_step : (t : State) (items : List Item) (b : ℕ) → Takes t mode.Opening b → eqb b 33 ≡ false → eqb b 63 ≡ false → (eqb b 47 && not (is_some t.here)) ≡ false → ends_tag t.lexical.quote b ≡ false
    → step (turn t items) b ≡ turn (after_byte t b) items
opening_step t items b h bang question footer e =
    goes (turn t items) mode.Opening b h
    ∙ ap (λ u. behind_byte u b) (in_opening_begins (turn (counted t) items) b bang question footer ∙ in_tag_gathers (turn (counted t) items) b e)

-- ---- bytes that gather

-- behind bytes
record Gathers (s t : State) (items : List Item) (bytes token : List ℕ) (quote : Option ℕ) (n : ℕ) : Type 0 where
  following : State
  goes_on : run (turn t items) bytes ≡ turn following items
  markup : InMarkup s following mode.Tag token quote []
  count : Counts s following n

gathers : (s t : State) (items : List Item) (bs token held : List ℕ) (quote : Option ℕ) (n end total : ℕ) → HasRoomFor s total → n + length bs ≡ end → end < total → InMarkup s t mode.Tag token quote held → Counts s t n
    → none_ends quote bs ≡ true → utf8_run held bs ≡ Some [] → Gathers s t items bs (token ++ bs) (quote_after quote bs) end
gathers s t items [] token held quote n end total room is less h count e r = record {
  following = t;
  goes_on = refl;
  markup = retold s t mode.Tag token (token ++ []) held [] quote quote h (sym (append-nil token)) refl (same_Some held [] r);
  count = subst (λ m. Counts s t m) (omega (arith, is)) count;
}
gathers s t items (b ∷ bs) token held quote n end total room is less h count e r =
    let p = and_parts (not (ends_tag quote b)) (none_ends (quote_behind quote b) bs) e in
    let l = leads held b bs r in
    let first = takes s t mode.Tag token held l.next quote b h l.is (is_short t b (fits s t n total room h.alike count (omega (arith, is, less)))) in
    let stays : ends_tag t.lexical.quote b ≡ false = ap (λ q. ends_tag q b) h.quote_is ∙ not-true _ p.0 in
    let next = gathered_one s t mode.Tag token held l.next quote b h l.is in
    let rest = gathers s (after_byte t b) items bs (token ++ b ∷ []) l.next (quote_behind quote b) (n + 1) end total room (omega (arith, is)) less next (counts_more s t (after_byte t b) n refl count) p.1 l.goes in
    record {
      following = rest.following;
      goes_on = ap (λ u. run u bs) (tag_step t items b first stays) ∙ rest.goes_on;
      markup = retold s rest.following mode.Tag ((token ++ b ∷ []) ++ bs) (token ++ b ∷ bs) [] [] (quote_after (quote_behind quote b) bs) (quote_after (quote_behind quote b) bs) rest.markup (append_assoc token (b ∷ []) bs) refl refl;
      count = rest.count;
    }

-- ---- `<`

-- where an element is open, and where none is
abbrev pub opened : Bool → State → State
opened inner s =
    let begun = token_begun (counted s) mode.Opening in
    passed (gathered (if inner then begun else record begun { positions = record begun.positions { item_at = begun.positions.at; used = 1 } }) 60) 60

open_step : (s : State) (items : List Item) (inner : Bool) → Takes s mode.Text 60 → is_some s.here ≡ inner → step (turn s items) 60 ≡ turn (opened inner s) items
unfolding in_text inside between
open_step s items true h e = goes (turn s items) mode.Text 60 h ∙ rw e refl
open_step s items false h e = goes (turn s items) mode.Text 60 h ∙ rw e refl

takes_opening : (s : State) → IsQuiet s → is_too_long s 60 ≡ false → Takes s mode.Text 60
unfolding utf8_next
takes_opening s h short = record { no_fault = h.no_fault; mode_is = h.text; short = short; is_text = ap (λ p. continues p 60) h.no_pending }

pub begins : (s : State) (items : List Item) (inner : Bool) → IsQuiet s → is_too_long s 60 ≡ false → is_some s.here ≡ inner → step (turn s items) 60 ≡ turn (opened inner s) items
begins s items inner h short e = open_step s items inner (takes_opening s h short) e

pub opened_is : (s : State) (inner : Bool) → IsQuiet s → is_some s.here ≡ inner → InMarkup s (opened inner s) mode.Opening (60 ∷ []) None []
unfolding utf8_next
opened_is s true h e = record {
  alike = record { limits = refl; here = refl; below = refl; scopes = refl; name = refl; phase = refl; spent = refl };
  no_fault = h.no_fault;
  chars = refl;
  mode_is = refl;
  quote_is = h.no_quote;
  not_spoiled = h.not_spoiled;
  token_is = ap (λ l. l ++ 60 ∷ []) h.no_token;
  held_is = ap (λ p. held_after p 60) h.no_pending;
  token_at = refl;
  item_at = λ none. absurd (false≢true (sym none ∙ e));
}
opened_is s false h e = record {
  alike = record { limits = refl; here = refl; below = refl; scopes = refl; name = refl; phase = refl; spent = refl };
  no_fault = h.no_fault;
  chars = refl;
  mode_is = refl;
  quote_is = h.no_quote;
  not_spoiled = h.not_spoiled;
  token_is = ap (λ l. l ++ 60 ∷ []) h.no_token;
  held_is = ap (λ p. held_after p 60) h.no_pending;
  token_at = refl;
  item_at = λ none. refl;
}

opened_counts : (s : State) (inner : Bool) → Counts s (opened inner s) 1
opened_counts s true = record { used = after_most s.positions.used; small = after_small s.positions.used }
opened_counts s false = record { used = omega arith; small = omega arith }

-- ---- a whole tag

-- before the `>` that the bytes end in, no item is given
abbrev pub DecidesLast : State → List Item → List ℕ → Type 0
DecidesLast s items bytes = (front : List ℕ) × (bytes ≡ front ++ 62 ∷ []) × (u : State) × (run (turn s items) front ≡ turn u items)

-- The whole tag is in hand at its `>`.
pub record Reads (s : State) (items : List Item) (bytes : List ℕ) : Type 0 where
  pub following : State
  pub closes : run (turn s items) bytes ≡ behind_byte (tag_closes (turn following items)) 62
  pub in_hand : HasInHand s following bytes
  pub item_at : is_some s.here ≡ false → following.positions.item_at ≡ s.positions.at
  pub last : DecidesLast s items bytes

-- the `>` itself
closing : (s t : State) (items : List Item) (token bytes : List ℕ) (n : ℕ) → HasRoomFor s (length bytes) → InMarkup s t mode.Tag token None [] → Counts s t n → n < length bytes → token ++ 62 ∷ [] ≡ bytes
    → (run (turn t items) (62 ∷ []) ≡ behind_byte (tag_closes (turn (gathered (counted t) 62) items)) 62) × HasInHand s (gathered (counted t) 62) bytes
unfolding utf8_next
closing s t items token bytes n room h count less is =
    let shown = takes s t mode.Tag token [] [] None 62 h refl (is_short t 62 (fits s t n (length bytes) room h.alike count less)) in
    let more = counts_more s t (gathered (counted t) 62) n refl count in
    let used = more.used in
    let whole : HasInHand s (gathered (counted t) 62) bytes = record {
      alike = alike_after s t (gathered (counted t) 62) h.alike (record { limits = refl; here = refl; below = refl; scopes = refl; name = refl; phase = refl; spent = refl });
      no_fault = h.no_fault;
      chars = h.chars;
      token = ap (λ l. l ++ 62 ∷ []) h.token_is ∙ is;
      no_pending = h.held_is;
      used = omega (arith, used, less);
      counted = more.small;
      token_at = h.token_at;
    } in
    (close_step t items shown h.quote_is, whole)

-- behind `<` comes a byte that begins neither a declaration nor a section, nor an end tag outside elements
pub record BeginsTag (s : State) (first : ℕ) : Type 0 where
  pub no_bang : eqb first 33 ≡ false
  pub no_question : eqb first 63 ≡ false
  pub no_footer : (eqb first 47 && not (is_some s.here)) ≡ false

module _ (s : State) (items : List Item) (bytes : List ℕ) (quiet : IsQuiet s) (room : HasRoom s bytes) where
  -- behind `<` and the byte behind it
  second : (first : ℕ) → BeginsTag s first → ends_tag None first ≡ false → (next : List ℕ) → utf8_next [] first ≡ Some next → 1 < length bytes
      → let t = after_byte (opened (is_some s.here) s) first in
      (step (step (turn s items) 60) first ≡ turn t items) × InMarkup s t mode.Tag (60 ∷ first ∷ []) (quote_behind None first) next × Counts s t 2
  second first b stays next is more =
      let same : AreAlike s s = record { limits = refl; here = refl; below = refl; scopes = refl; name = refl; phase = refl; spent = refl } in
      let none : Counts s s 0 = record { used = omega arith; small = quiet.counted } in
      let begun = begins s items (is_some s.here) quiet (is_short s 60 (fits s s 0 (length bytes) room same none (omega (arith, more)))) refl in
      let t = opened (is_some s.here) s in
      let h = opened_is s (is_some s.here) quiet refl in
      let count = opened_counts s (is_some s.here) in
      let shown = takes s t mode.Opening (60 ∷ []) [] next None first h is (is_short t first (fits s t 1 (length bytes) room h.alike count more)) in
      let footer : (eqb first 47 && not (is_some t.here)) ≡ false = ap (λ o. eqb first 47 && not (is_some o)) h.alike.here ∙ b.no_footer in
      let unquoted : ends_tag t.lexical.quote first ≡ false = ap (λ q. ends_tag q first) h.quote_is ∙ stays in
      (ap (λ u. step u first) begun ∙ opening_step t items first shown b.no_bang b.no_question footer unquoted, gathered_one s t mode.Opening (60 ∷ []) [] next None first h is, counts_more s t (after_byte t first) 1 refl count)

  pub reads : (first : ℕ) → IsWhole bytes first → BeginsTag s first → Reads s items bytes
  reads first w b =
      let others = w.others in
      let p = and_parts (not (ends_tag None first)) (none_ends (quote_behind None first) others) w.part.goes_on in
      let l = leads [] first others w.part.runs in
      let size : length bytes ≡ length others + 3 = ap length w.bytes_are ∙ sized first others in
      let two = second first b (not-true _ p.0) l.next l.is (omega (arith, size)) in
      let t = after_byte (opened (is_some s.here) s) first in
      let more = gathers s t items others (60 ∷ first ∷ []) l.next (quote_behind None first) 2 (length others + 2) (length bytes) room (omega arith) (omega (arith, size)) two.1 two.2 p.1 l.goes in
      let u = more.following in
      let open_none = retold s u mode.Tag ((60 ∷ first ∷ []) ++ others) (60 ∷ first ∷ others) [] [] (quote_after (quote_behind None first) others) None more.markup refl w.part.unquoted refl in
      let last = closing s u items (60 ∷ first ∷ others) bytes (length others + 2) room open_none more.count (omega (arith, size)) (sym w.bytes_are) in
      let front : run (turn s items) (60 ∷ first ∷ others) ≡ turn u items = ap (λ v. run v others) two.0 ∙ more.goes_on in
      record {
        following = gathered (counted u) 62;
        closes = ap (run (turn s items)) w.bytes_are ∙ run_append (turn s items) (60 ∷ first ∷ others) (62 ∷ []) ∙ ap (λ v. run v (62 ∷ [])) front ∙ last.0;
        in_hand = last.1;
        item_at = open_none.item_at;
        last = (60 ∷ first ∷ others, w.bytes_are, u, front);
      }
    where
      sized : (x : ℕ) (xs : List ℕ) → length (60 ∷ ((x ∷ xs) ++ 62 ∷ [])) ≡ length xs + 3
      sized x xs = omega (arith, length-append xs (62 ∷ []))

-- ---- start tags and end tags

name_begins : (s : State) (first : ℕ) → is_name_start first ≡ true → BeginsTag s first
name_begins s first h = record {
  no_bang = grind (arith, nat_tests);
  no_question = grind (arith, nat_tests);
  no_footer = and_left (eqb first 47) _ (no_slash first h);
}

pub start_run : (s : State) (items : List Item) (scope : Scope) (bytes : List ℕ) (raw : List tokens.Attribute) (tag : Tag) → IsQuiet s → HasRoom s bytes → IsStart scope bytes raw tag
    → (h : State) × (run (turn s items) bytes ≡ behind_byte (tag_closes (turn h items)) 62) × HasInHand s h bytes × (is_end h.token ≡ false) × (is_some s.here ≡ false → h.positions.item_at ≡ s.positions.at) × DecidesLast s items bytes
start_run s items scope bytes raw tag quiet room start =
    let w = start_whole bytes tag.spelled raw tag.empty start.spelled in
    let r = reads s items bytes quiet room w.first w.whole (name_begins s w.first w.starts) in
    let whole : is_end bytes ≡ false = ap is_end w.whole.bytes_are ∙ no_slash w.first w.starts in
    (r.following, r.closes, r.in_hand, ap is_end r.in_hand.token ∙ whole, r.item_at, r.last)

pub end_run : (s : State) (items : List Item) (bytes name : List ℕ) → IsQuiet s → is_some s.here ≡ true → HasRoom s bytes → IsTag bytes (end_tag name)
    → (h : State) × (run (turn s items) bytes ≡ behind_byte (tag_closes (turn h items)) 62) × HasInHand s h bytes × (is_end h.token ≡ true) × DecidesLast s items bytes
end_run s items bytes name quiet inner room is =
    let w = end_whole bytes name is in
    let r = reads s items bytes quiet room 47 w (record { no_bang = refl; no_question = refl; no_footer = ap not inner }) in
    (r.following, r.closes, r.in_hand, ap is_end r.in_hand.token ∙ ap is_end w.bytes_are, r.last)

-- ---- what the whole tag says

pub start_is_read : (limits : TagLimits) (scope : Scope) (bytes : List ℕ) (raw : List tokens.Attribute) (tag : Tag) → IsStart scope bytes raw tag → IsWithin limits raw tag → start_of limits scope bytes ≡ Ok tag
start_is_read limits scope bytes raw tag start within = (laws.read limits scope bytes tag).1 (raw, start, within)

pub end_is_read : (bytes name : List ℕ) → (end_of bytes ≡ Some name) ↔ IsTag bytes (end_tag name)
end_is_read = end_tags_are_read

pub tag_bytes_are_text : (scope : Scope) (bytes : List ℕ) (raw : List tokens.Attribute) (tag : Tag) → IsStart scope bytes raw tag → IsUtf8 bytes
tag_bytes_are_text scope bytes raw tag start = let w = start_whole bytes tag.spelled raw tag.empty start.spelled in whole_text bytes w.first w.whole

pub end_bytes_are_text : (bytes name : List ℕ) → IsTag bytes (end_tag name) → IsUtf8 bytes
end_bytes_are_text bytes name is = whole_text bytes 47 (end_whole bytes name is)
