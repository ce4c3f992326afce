use Rattle.std.proofs.Common.{◌++◌, ap, sym, ◌∙◌, append_assoc, append-nil, chars, flat_map, string_bytes}
use Rattle.std.proofs.lemmas.Str.{IsUtf8-past_char, chars_past_char}
use Rattle.std.proofs.StrCases.{chars_of_empty}
use Rattle.std.specs.Str.Iter.{chars_rest}
use Rattle.im_jid.specs.Spellings.{kept_character}
use Rattle.im_jid.proofs.spellings.kept_of.Goals as goal

pub loop-character-preserved : goal.loop-character-preserved
loop-character-preserved c =
    let held = c.loop-character.invariant in
    let parts = c.in-Some.ensures.steps.0 in
    let step = chars_past_char _ _ c.in-Some.character held.0 parts in
    let old = string_bytes c.loop-character.kept in
    let ahead = flat_map kept_character (chars (chars_rest c.next.new.self)) in (
      IsUtf8-past_char _ _ c.in-Some.character held.0 parts,
      ap (λ kept. kept ++ ahead) c.in_ok-push_kept.ensures ∙ append_assoc old (kept_character c.in-Some.character) ahead
          ∙ ap (λ cs. old ++ flat_map kept_character cs) (sym step) ∙ held.1,
    )

pub returns : goal.returns
returns c = sym (append-nil _) ∙ rw (chars_of_empty _ c.in-None.ensures.steps.0.0) at c.loop-character.invariant.1
