-- Many bytes at once, where each of them only adds to a text or a tag.
use Rattle.std.specs.Prelude.{ℕ, ◌≡◌, ◌<◌, ◌≤◌, ◌-◌, Bool, true, false, not, nat_lt, ◌&&◌, ◌||◌, ◌==◌, if◌then◌else◌, List, [], ◌∷◌, ◌++◌, Option, length, take}
use Rattle.std.specs.Option.{is_some}
use Rattle.xml_tokens.specs.Characters.{is_control}
use Rattle.xml_tokens.specs.Tags.{is_empty, quote_behind}
use Rattle.xml_framer.specs.Machine.{run}
use Rattle.xml_framer.specs.States.{State, in_run, is_text, next_position, turn}
use Rattle.xml_framer.specs.declared.items.Item.{Item}
use Rattle.xml_framer.specs.declared.states.Mode.{Mode}
use Rattle.xml_framer.specs.declared.states.Mode.TheVariants as mode

-- ---- places

-- a place behind some bytes
abbrev pub position_after : List ℕ → ℕ → ℕ
position_after [] position = position
position_after (b ∷ bs) position = position_after bs (next_position position)

-- a count behind some bytes, where what they belong to is counted
abbrev pub used_after : List ℕ → ℕ → ℕ
used_after [] used = used
used_after (b ∷ bs) used = used_after bs (if used == 0 then 0 else next_position used)

-- some bytes are behind
abbrev pub after_bytes : State → List ℕ → State
after_bytes s bs = record s { positions = record s.positions { at = position_after bs s.positions.at; used = used_after bs s.positions.used } }

-- the byte limit leaves room for so many bytes more
abbrev pub LeavesRoom : State → ℕ → Type 0
LeavesRoom s n = 0 < s.positions.used → n ≤ s.limits.bytes - s.positions.used

-- ---- texts in an element

-- A byte that says itself in a text, whatever stands before it (XML 1.0, sections 2.2, 2.4 and 2.11): it is no markup, no
-- part of `]]>`, no carriage return, no control character, and no first byte of U+FFFE or U+FFFF.
abbrev pub is_plain : ℕ → Bool
is_plain b = not (b == 60) && (not (b == 38) && (not (b == 62) && (not (b == 93) && (not (b == 13) && (not (b == 239) && not (is_control b))))))

-- No character is in hand, and neither a carriage return nor a `]` is the last that the text has.
abbrev pub takes_text : State → Bool
takes_text s =
    not (is_some s.fault) && (is_text s.lexical.mode && (is_some s.here
    && (is_empty s.pending && not (s.lexical.in_run && (s.lexical.returned || not (s.lexical.brackets == 0))))))

-- behind plain bytes of a text
abbrev pub text_taken : State → List ℕ → State
text_taken s bs = after_bytes (in_run (record s { chars = s.chars ++ bs })) bs

-- ---- tags

abbrev pub is_tag : Mode → Bool
is_tag mode.Tag = true
is_tag m = false

-- no character is in hand
abbrev pub takes_tag : State → Bool
takes_tag s = not (is_some s.fault) && (is_tag s.lexical.mode && is_empty s.pending)

-- a byte of ASCII that doesn't end a tag
abbrev pub goes_on_in : Option ℕ → ℕ → Bool
goes_on_in quote b = nat_lt b 128 && not (b == 62 && not (is_some quote))

-- bytes of ASCII that don't end a tag
abbrev pub go_on_in : Option ℕ → List ℕ → Bool
go_on_in quote [] = true
go_on_in quote (b ∷ bs) = goes_on_in quote b && go_on_in (quote_behind quote b) bs

-- the quote that is open behind some bytes
abbrev pub quote_after : Option ℕ → List ℕ → Option ℕ
quote_after quote [] = quote
quote_after quote (b ∷ bs) = quote_after (quote_behind quote b) bs

-- outside quotes, a byte of ASCII that is no quote and doesn't end a tag
abbrev pub is_unquoted : ℕ → Bool
is_unquoted b = nat_lt b 128 && (not (b == 62) && (not (b == 34) && not (b == 39)))

-- inside a quote, a byte of ASCII that doesn't end it
abbrev pub is_quoted : ℕ → ℕ → Bool
is_quoted quote b = nat_lt b 128 && not (b == quote)

-- the first n bytes are of ASCII and don't end a tag, and behind them this quote is open
pub record GoesOnTo (quote : Option ℕ) (bytes : List ℕ) (n : ℕ) (following : Option ℕ) : Type 0 where
  pub bound : n ≤ length bytes
  pub inside : go_on_in quote (take n bytes) ≡ true
  pub after_is : following ≡ quote_after quote (take n bytes)

abbrev pub KeepsQuote : Option ℕ → List ℕ → ℕ → Type 0
KeepsQuote quote bytes n = GoesOnTo quote bytes n quote

-- behind bytes that don't end a tag
abbrev pub tag_taken : State → List ℕ → State
tag_taken s bs = after_bytes (record s { token = s.token ++ bs; lexical = record s.lexical { quote = quote_after s.lexical.quote bs } }) bs

-- ---- openings of tags

-- behind `<` in an element, a byte of ASCII that begins a tag and doesn't end it, and no quote
abbrev pub opens_tag : ℕ → Bool
opens_tag b = is_unquoted b && (not (b == 33) && not (b == 63))

-- bytes begin with `<` and the first byte of a tag
abbrev pub begins_tag : List ℕ → Bool
begins_tag [] = false
begins_tag (a ∷ []) = false
begins_tag (a ∷ b ∷ bs) = a == 60 && opens_tag b

-- a tag may be taken from its `<` on
abbrev pub takes_opening : State → Bool
takes_opening s = takes_text s && not (is_some s.lexical.quote)

-- ---- what calls say

-- the first n bytes, none perhaps, bring one state to another and give no item
pub record TakesRun (old new : State) (bytes : List ℕ) (n : ℕ) : Type 0 where
  pub bound : n ≤ length bytes
  pub done : (items : List Item) → turn new items ≡ run (turn old items) (take n bytes)
