-- States between tokens, and in what a state behind some bytes differs from the one before them.
use Rattle.std.specs.Prelude.{ℕ, ◌≡◌, ◌+◌, ◌^◌, ◌<◌, ◌≤◌, ◌⊎◌, false, List, [], ◌++◌, None, length}
use Rattle.std.specs.Option.{is_some}
use Rattle.xml_framer.specs.States.{State}
use Rattle.xml_framer.specs.declared.states.Mode.TheVariants as mode

-- No fault, no token and no character in hand. What belongs to an element is counted, up to the last number that is, and
-- outside elements nothing is.
pub record IsQuiet (s : State) : Type 0 where
  pub no_fault : s.fault ≡ None
  pub text : s.lexical.mode ≡ mode.Text
  pub no_token : s.token ≡ []
  pub no_pending : s.pending ≡ []
  pub no_quote : s.lexical.quote ≡ None
  pub not_spoiled : s.lexical.spoiled ≡ false
  pub counted : s.positions.used < 2 ^ 64
  pub uncounted : is_some s.here ≡ false → s.positions.used ≡ 0

-- a token ended, and no run of text has begun
pub record IsFresh (s : State) : Type 0 where
  pub quiet : IsQuiet s
  pub no_run : s.lexical.in_run ≡ false

-- the byte limit leaves room for these bytes: the second case is past all numbers that are counted
abbrev pub HasRoom : State → List ℕ → Type 0
HasRoom s bytes = (s.positions.used + length bytes ≤ s.limits.bytes) ⊎ (2 ^ 64 ≤ s.limits.bytes)

-- What these have in common: they differ at most in the places, the token, the character and the text in hand, and in
-- what is known of the token.
pub record AreAlike (s t : State) : Type 0 where
  pub limits : t.limits ≡ s.limits
  pub here : t.here ≡ s.here
  pub below : t.below ≡ s.below
  pub scopes : t.scopes ≡ s.scopes
  pub name : t.name ≡ s.name
  pub phase : t.lexical.phase ≡ s.lexical.phase
  pub spent : t.lexical.spent ≡ s.lexical.spent

-- behind the bytes of a text that say this
pub record HasSaid (s t : State) (bytes says : List ℕ) : Type 0 where
  pub alike : AreAlike s t
  pub quiet : IsQuiet t
  pub chars : t.chars ≡ s.chars ++ says
  pub used : t.positions.used ≤ s.positions.used + length bytes
  pub item_at : t.positions.item_at ≡ s.positions.item_at

-- a whole tag is in hand: its `>` has been gathered and isn't behind yet
pub record HasInHand (s t : State) (bytes : List ℕ) : Type 0 where
  pub alike : AreAlike s t
  pub no_fault : t.fault ≡ None
  pub chars : t.chars ≡ s.chars
  pub token : t.token ≡ bytes
  pub no_pending : t.pending ≡ []
  pub used : t.positions.used ≤ s.positions.used + length bytes
  pub counted : t.positions.used < 2 ^ 64
  pub token_at : t.positions.token_at ≡ s.positions.at
