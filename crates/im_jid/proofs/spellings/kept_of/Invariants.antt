use Rattle.std.proofs.Common.{◌≡◌, ◌++◌, IsUtf8, chars, flat_map, string_bytes}
use Rattle.std.specs.Str.Iter.{chars_rest}
use Rattle.im_jid.specs.Spellings.{kept_character, kept_text}
use Rattle.im_jid.proofs.spellings.kept_of.Given as goal

-- what was kept so far, and what is kept of the characters ahead, are the whole
abbrev pub invariant-loop-character : goal.invariant-loop-character
invariant-loop-character l = IsUtf8 (chars_rest l.character-iterator)
    × (string_bytes l.kept ++ flat_map kept_character (chars (chars_rest l.character-iterator)) ≡ kept_text l.part)
