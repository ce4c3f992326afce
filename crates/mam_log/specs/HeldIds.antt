-- The ids that a log keeps of the messages that it holds.
use Rattle.std.specs.Prelude.{◌≡◌, ℕ, false, List, [], ◌∷◌, String, length}
use Rattle.std.specs.BTreeSet.{BTreeSet, btree_set_len, contains_text}
use Rattle.mam_log.specs.LogPages.{ids_of}
use Rattle.mam_log.specs.Views.{is_among}
use Rattle.mam_log.specs.declared.log_entry.LogEntry.{LogEntry}

-- no id stands twice
abbrev pub AreApart : List LogEntry → Type 0
AreApart [] = Unit {0}
AreApart (e ∷ es) = (is_among e.id (ids_of es) ≡ false) × AreApart es

-- the set has the ids of these, each of which stands once
pub record IsIndexOf {A : Type 0} (ids : BTreeSet (String A)) (held : List LogEntry) : Type 0 where
  pub finds : (id : List ℕ) → contains_text ids id ≡ is_among id (ids_of held)
  pub apart : AreApart held
  pub count : btree_set_len ids ≡ length held
