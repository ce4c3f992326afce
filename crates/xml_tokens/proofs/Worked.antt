-- The definitions, evaluated at values that were worked out beforehand: the rows of XML 1.0 and of Unicode's table 3-7.
use Rattle.std.proofs.Common.{◌≡◌, true, false, [], ◌∷◌, ◌++◌, Some, None, Ok, Err, refl}
use Rattle.std.specs.Prelude.{codes}
use Rattle.std.specs.Str.{is_utf8, chars}
use lib.Utf8.{encode}
use Rattle.xml_tokens.specs.Characters.{is_name, are_characters}
use Rattle.xml_tokens.specs.Declarations.{declaration_of, has_other, is_good, is_utf8_label}
use Rattle.xml_tokens.specs.References.{referred, reference_goes_on}
use Rattle.xml_tokens.specs.Spelling.{spelled_text, spelled_value, text_byte, value_byte}
use Rattle.xml_tokens.specs.Tags.{tag_of, start_at, end_at, inside_of, spelled_at, is_qualified, start_tag, end_tag}
use Rattle.xml_tokens.specs.Utf8.{utf8_next, utf8_run}
use Rattle.xml_tokens.specs.Values.{value_of}
use Rattle.xml_tokens.specs.declared.declarations.Declaration.TheVariants as declaration
use Rattle.xml_tokens.specs.declared.fault.TagWhy.TheVariants as fault
use Rattle.xml_tokens.specs.declared.references.Reference.TheVariants.{Character, Unknown, Malformed}

plain_name : is_name (codes "a-1") ≡ true
unfolding are_characters
plain_name = refl

digit_first : is_name (codes "1a") ≡ false
digit_first = refl

overlong : utf8_run [] (192 ∷ 128 ∷ []) ≡ None
unfolding utf8_next
overlong = refl

surrogate : utf8_run [] (237 ∷ 160 ∷ 128 ∷ []) ≡ None
unfolding utf8_next
surrogate = refl

past_the_last : utf8_run [] (244 ∷ 144 ∷ 128 ∷ 128 ∷ []) ≡ None
unfolding utf8_next
past_the_last = refl

half : utf8_run [] (226 ∷ 130 ∷ []) ≡ Some (226 ∷ 130 ∷ [])
unfolding utf8_next
half = refl

no_character : are_characters (239 ∷ 191 ∷ 190 ∷ []) ≡ false
unfolding are_characters
no_character = refl

replacement : are_characters (239 ∷ 191 ∷ 189 ∷ []) ≡ true
unfolding are_characters
replacement = refl

letter : referred (codes "#x41") ≡ Character 65
unfolding referred
letter = refl

upper_x : referred (codes "#X41") ≡ Malformed
unfolding referred
upper_x = refl

upper_x_breaks : reference_goes_on (codes "#") 88 ≡ false
unfolding reference_goes_on
upper_x_breaks = refl

other_entity : referred (codes "nbsp") ≡ Unknown
unfolding referred are_characters
other_entity = refl

with_colon : referred (codes "a:b") ≡ Malformed
unfolding referred are_characters
with_colon = refl

line_ends : value_of (97 ∷ 13 ∷ 10 ∷ 98 ∷ 13 ∷ 99 ∷ 9 ∷ 100 ∷ []) ≡ Some (codes "a b c d")
unfolding value_of are_characters is_utf8 chars encode
line_ends = refl

once_replaced : value_of (codes "&amp;lt;&#xD;") ≡ Some (codes "&lt;" ++ 13 ∷ [])
unfolding value_of are_characters referred is_utf8 chars encode
once_replaced = refl

less_than : value_of (codes "<") ≡ None
unfolding value_of are_characters
less_than = refl

a_tag : tag_of (codes "<a b='1'  c = \"2\"/>") ≡ Ok (start_tag (codes "a") (record { name = codes "b"; value = codes "1" } ∷ record { name = codes "c"; value = codes "2" } ∷ []) true)
unfolding tag_of start_at inside_of spelled_at is_qualified value_of are_characters is_utf8 chars encode
a_tag = refl

an_end : tag_of (codes "</a >") ≡ Ok (end_tag (codes "a"))
unfolding tag_of end_at is_qualified are_characters is_utf8 chars encode
an_end = refl

twice : tag_of (codes "<a b='1' b='2'>") ≡ Err fault.NotWellFormed
unfolding tag_of start_at inside_of spelled_at is_qualified value_of are_characters is_utf8 chars encode
twice = refl

slash_apart : tag_of (codes "<a/ >") ≡ Err fault.NotWellFormed
unfolding tag_of start_at inside_of spelled_at is_qualified are_characters is_utf8 chars encode
slash_apart = refl

unknown_first : tag_of (codes "<1a b='& &x;'") ≡ Err fault.Restricted
unfolding tag_of referred are_characters
unknown_first = refl

end_without_values : tag_of (codes "</a b='&x;'>") ≡ Err fault.NotWellFormed
unfolding tag_of end_at is_qualified are_characters is_utf8 chars encode
end_without_values = refl

good : declaration_of (codes "<?xml version='1.0' encoding='Utf-8'?>") ≡ declaration.Good
unfolding declaration_of has_other is_good is_utf8_label spelled_at is_qualified are_characters is_utf8 chars encode
good = refl

other : declaration_of (codes "<?xml encoding='' version='1.0'?>") ≡ declaration.Encoding
unfolding declaration_of has_other is_good is_utf8_label spelled_at is_qualified are_characters is_utf8 chars encode
other = refl

after_departure : declaration_of (codes "<?xml version=1.0 encoding='x'?>") ≡ declaration.NotWellFormed
unfolding declaration_of has_other is_good is_utf8_label spelled_at is_qualified are_characters is_utf8 chars encode
after_departure = refl

written_value : spelled_value (codes "a&'" ++ 13 ∷ 9 ∷ []) ≡ codes "a&amp;&apos;&#xD;&#x9;"
unfolding value_byte text_byte
written_value = refl

written_text : spelled_text (codes "a<'>" ++ 9 ∷ []) ≡ codes "a&lt;'&gt;" ++ 9 ∷ []
unfolding text_byte
written_text = refl
