-- What a tag comes to.
use Rattle.std.proofs.Common.{◌≡◌, ◌↔◌, ℕ, Bool, true, false, cond, List, Option, Some, None, Ok, Err, refl, ap, ◌∙◌}
use Rattle.std.proofs.lemmas.Bool.{cond-true, cond-false}
use Rattle.std.specs.Option.{ok_or}
use Rattle.xml_tokens.specs.Tags.{Tag, IsTag, is_restricted, tag_at, tag_of}
use Rattle.xml_tokens.specs.declared.fault.TagWhy.TheVariants.{Restricted, NotWellFormed}
use Rattle.xml_tokens.proofs.TagLaws.{tag_again, tag_tells}
use Rattle.xml_tokens.proofs.Unrestricted.{tag_unrestricted}

pub tags_are_read : (bytes : List ℕ) (t : Tag) → IsTag bytes t → tag_of bytes ≡ Ok t
unfolding tag_of
tags_are_read bytes t h =
    cond-false (is_restricted bytes) (Err Restricted) (ok_or (tag_at bytes) NotWellFormed) (tag_unrestricted bytes t h) ∙ ap (λ o. ok_or o NotWellFormed) (tag_again bytes t h)

given : (b : Bool) (o : Option Tag) (t : Tag) → cond b (Err Restricted) (ok_or o NotWellFormed) ≡ Ok t → o ≡ Some t
given true o t e = absurd cc
given false None t e = absurd cc
given false (Some u) t e = let same : u ≡ t = cc in ap Some same

pub what_is_read_is_a_tag : (bytes : List ℕ) (t : Tag) → tag_of bytes ≡ Ok t → IsTag bytes t
unfolding tag_of
what_is_read_is_a_tag bytes t e = tag_tells bytes t (given (is_restricted bytes) (tag_at bytes) t e)

told : (b : Bool) (o : Option Tag) → cond b (Err Restricted) (ok_or o NotWellFormed) ≡ Err Restricted → b ≡ true
told true o e = refl
told false None e = absurd cc
told false (Some t) e = absurd cc

pub unknown_names_are_restricted : (bytes : List ℕ) → (tag_of bytes ≡ Err Restricted) ↔ (is_restricted bytes ≡ true)
unfolding tag_of
unknown_names_are_restricted bytes =
    (told (is_restricted bytes) (tag_at bytes), λ h. cond-true (is_restricted bytes) (Err Restricted) (ok_or (tag_at bytes) NotWellFormed) h)
