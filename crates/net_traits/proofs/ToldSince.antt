-- What was told since a start, at first and after more.
use Rattle.std.proofs.Common.{◌≡◌, ℕ, List, [], ◌++◌, append-nil, append_assoc, ap, sym, ◌∙◌}
use Rattle.net_traits.specs.ToldSince.{ToldSince}

-- nothing was told yet
pub since_start : {P : List ℕ → List ℕ → Type 0} (told drawn : List ℕ) → P [] [] → ToldSince told drawn told drawn P
since_start told drawn is = record { moments = []; bytes = []; told = sym (append-nil told); drawn = sym (append-nil drawn); such = is }

-- more was told
pub since_more : (told_first drawn_first told drawn told_new drawn_new moments bytes : List ℕ) (P Q : List ℕ → List ℕ → Type 0)
    → told_new ≡ told ++ moments → drawn_new ≡ drawn ++ bytes → ((ms bs : List ℕ) → P ms bs → Q (ms ++ moments) (bs ++ bytes))
    → ToldSince told_first drawn_first told drawn P → ToldSince told_first drawn_first told_new drawn_new Q
since_more told_first drawn_first told drawn told_new drawn_new moments bytes P Q more_told more_drawn f since = record {
  moments = since.moments ++ moments;
  bytes = since.bytes ++ bytes;
  told = more_told ∙ ap (λ l. l ++ moments) since.told ∙ append_assoc told_first since.moments moments;
  drawn = more_drawn ∙ ap (λ l. l ++ bytes) since.drawn ∙ append_assoc drawn_first since.bytes bytes;
  such = f since.moments since.bytes since.such;
}

module _ {told_first drawn_first told drawn : List ℕ} (P Q : List ℕ → List ℕ → Type 0) where
  -- the same lists, and what else is so of them
  pub since_such : (since : ToldSince told_first drawn_first told drawn P) → Q since.moments since.bytes → ToldSince told_first drawn_first told drawn Q
  since_such since is = record { moments = since.moments; bytes = since.bytes; told = since.told; drawn = since.drawn; such = is }

  -- what follows from it
  pub since_then : ((ms bs : List ℕ) → P ms bs → Q ms bs) → ToldSince told_first drawn_first told drawn P → ToldSince told_first drawn_first told drawn Q
  since_then f since = since_such since (f since.moments since.bytes since.such)
