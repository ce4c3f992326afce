-- Which byte decides which fault, row by row.
use Rattle.std.specs.Prelude.{◌≡◌, ℕ, Bool, true, false, not, ◌&&◌, ◌||◌, Some, None}
use Rattle.std.specs.Option.{is_some}
use Rattle.xml_tokens.specs.Utf8.{continues}
use Rattle.xml_framer.specs.Machine.{is_too_long, step}
use Rattle.xml_framer.specs.States.{State, Turn, gathered, is_text, next_position}
use Rattle.xml_framer.specs.declared.fault.Why.{Why}
use Rattle.xml_framer.specs.declared.states.Mode.{Mode}
use Rattle.xml_framer.specs.declared.states.Mode.TheVariants as mode

-- a byte goes to a token of this kind: there is no fault so far, the byte isn't past the limit, and it is UTF-8
pub record Takes (s : State) (m : Mode) (b : ℕ) : Type 0 where
  pub no_fault : s.fault ≡ None
  pub mode_is : s.lexical.mode ≡ m
  pub short : is_too_long s b ≡ false
  pub is_text : continues s.pending b ≡ true

-- a byte decides a fault at a place
abbrev pub Decides : Turn → ℕ → ℕ → Why → Type 0
Decides t b at why = (step t b).state.fault ≡ Some (record { at = at; why = why })

-- the `>` outside quotes that ends a tag
pub record EndsTag (s : State) (m : Mode) : Type 0 where
  pub takes : Takes s m 62
  pub unquoted : s.lexical.quote ≡ None

-- the state with the `>` in its token
abbrev pub whole : State → State
whole s = gathered s 62

-- ---- which bytes are counted

-- an element, a tag, a declaration or what else begins with `<` is in hand
abbrev pub is_in_hand : State → Bool
is_in_hand s = is_some s.here || not (is_text s.lexical.mode)

-- a footer and a declaration stand outside elements alone
abbrev pub is_outer : Mode → Bool
is_outer mode.Footer = true
is_outer mode.Question = true
is_outer mode.Declaration = true
is_outer m = false

abbrev pub may_stand : State → Bool
may_stand s = not (is_some s.here && is_outer s.lexical.mode)

-- of what stands outside elements, tags and declarations have a limit, and so has `<` until what it begins is known
abbrev pub is_limited : Mode → Bool
is_limited mode.Opening = true
is_limited mode.Tag = true
is_limited mode.Question = true
is_limited mode.Declaration = true
is_limited m = false

-- an element, or such a tag or declaration, is in hand
abbrev pub has_limit : State → Bool
has_limit s = is_some s.here || is_limited s.lexical.mode

-- one byte more is counted, of what began at the same place
pub record Counts (s t : State) : Type 0 where
  pub used : t.positions.used ≡ next_position s.positions.used
  pub item_at : t.positions.item_at ≡ s.positions.item_at
