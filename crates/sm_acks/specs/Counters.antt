-- The counters of one end of a session (XEP-0198 section 4): stanzas are counted from 0, modulo 2 ^ 32.
use Rattle.std.specs.Prelude.{ℕ, ◌+◌, ◌-◌, ◌%◌, ◌^◌}

-- what one end of a session keeps: the number of the queue in which its own stanzas wait, how many of them the other
-- end has acknowledged, and how many of the other end's stanzas it has handled, both modulo 2 ^ 32
pub record AckView : Type 0 where
  pub queue : ℕ
  pub acked : ℕ
  pub handled : ℕ

-- how far a count is ahead of another, where both are below 2 ^ 32
abbrev pub ahead : ℕ → ℕ → ℕ
ahead h a = (h + 2 ^ 32 - a) % 2 ^ 32
