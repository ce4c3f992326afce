-- Offsets of tokens at bytes: the right one, and that others aren't.
use Rattle.std.proofs.Common.{inl, [], codes, refl, arith}
use Rattle.xml_tokens.specs.Utf8.{utf8_next}
use Rattle.law_xml.proofs.OneOffset.{one_offset}
use Rattle.law_xml.specs.Offsets.{AreBefore, AreTokens, IsAtToken, a_markup, a_reference, a_text, no_token, one_more, open_section, open_tag, whole_reference, whole_section, whole_tag}

-- after a start tag
after_tag : AreTokens (codes "<a>")
after_tag = one_more (codes "<a>") [] [] (codes "<a>") (no_token [] refl) refl (whole_tag (codes "<a>") (codes "a") refl refl refl refl) refl

ahead : AreBefore (codes "<a>")
ahead = record { front = codes "<a>"; text = []; tokens = after_tag; is_run = refl; whole = refl; before_is = refl }

-- ---- a control character in a text has the offset of the text

control : IsAtToken (codes "<a>x") 1 3
control = record { before = codes "<a>"; token = codes "x"; bytes_are = refl; at_is = refl; is_token = a_text (codes "<a>") (codes "x") 1 after_tag refl (inl refl) }

-- not its own
not_its_own : ¬ (IsAtToken (codes "<a>x") 1 4)
not_its_own h = let e = one_offset (codes "<a>x") 1 3 4 control h in omega (arith, e)

-- nor that of the tag before
not_the_tag : ¬ (IsAtToken (codes "<a>x") 1 0)
not_the_tag h = let e = one_offset (codes "<a>x") 1 3 0 control h in omega (arith, e)

-- ---- in a section, `&` and `<` begin nothing

section : IsAtToken (codes "<a><![CDATA[<&") 1 3
section = record {
  before = codes "<a>";
  token = codes "<![CDATA[<&";
  bytes_are = refl;
  at_is = refl;
  is_token = a_markup (codes "<a>") (codes "<![CDATA[<&") 1 (codes "![CDATA[<&") ahead refl (open_section (codes "![CDATA[<&") (codes "<&") refl refl);
}

not_in_the_section : ¬ (IsAtToken (codes "<a><![CDATA[<&") 1 12)
not_in_the_section h = let e = one_offset (codes "<a><![CDATA[<&") 1 3 12 section h in omega (arith, e)

-- ---- after a section, its `<` is past

after_section : AreTokens (codes "<a><![CDATA[x]]>")
after_section = one_more (codes "<a><![CDATA[x]]>") (codes "<a>") [] (codes "<![CDATA[x]]>") after_tag refl (whole_section (codes "<![CDATA[x]]>") (codes "x") refl refl) refl

past_section : IsAtToken (codes "<a><![CDATA[x]]>") 1 16
past_section = record {
  before = codes "<a><![CDATA[x]]>";
  token = [];
  bytes_are = refl;
  at_is = refl;
  is_token = a_text (codes "<a><![CDATA[x]]>") [] 1 after_section refl (inl refl);
}

not_the_section : ¬ (IsAtToken (codes "<a><![CDATA[x]]>") 1 3)
not_the_section h = let e = one_offset (codes "<a><![CDATA[x]]>") 1 16 3 past_section h in omega (arith, e)

-- ---- a `>` or a `;` in a text ends no token

after_reference : AreTokens (codes "<a>&lt;")
after_reference = one_more (codes "<a>&lt;") (codes "<a>") [] (codes "&lt;") after_tag refl (whole_reference (codes "&lt;") (codes "lt") refl refl) refl

long_text : IsAtToken (codes "<a>&lt;x;y>") 1 7
long_text = record { before = codes "<a>&lt;"; token = codes "x;y>"; bytes_are = refl; at_is = refl; is_token = a_text (codes "<a>&lt;") (codes "x;y>") 1 after_reference refl (inl refl) }

not_after_it : ¬ (IsAtToken (codes "<a>&lt;x;y>") 1 11)
not_after_it h = let e = one_offset (codes "<a>&lt;x;y>") 1 7 11 long_text h in omega (arith, e)

-- ---- a `<` in a value begins nothing, and neither does a `>` there end the tag

value : IsAtToken (codes "<a>\n<b c='<>") 39 4
unfolding utf8_next
value = record {
  before = codes "<a>\n";
  token = codes "<b c='<>";
  bytes_are = refl;
  at_is = refl;
  is_token = a_markup (codes "<a>\n") (codes "<b c='<>") 39 (codes "b c='<>") (record { front = codes "<a>"; text = codes "\n"; tokens = after_tag; is_run = refl; whole = refl; before_is = refl }) refl
      (open_tag (codes "b c='<>") refl refl);
}

not_the_value : ¬ (IsAtToken (codes "<a>\n<b c='<>") 39 10)
not_the_value h = let e = one_offset (codes "<a>\n<b c='<>") 39 4 10 value h in omega (arith, e)

-- ---- an `&` outside elements has its own offset

amp : IsAtToken (codes " ") 38 1
unfolding utf8_next
amp = record {
  before = codes " ";
  token = [];
  bytes_are = refl;
  at_is = refl;
  is_token = a_reference (codes " ") [] 38 [] (record { front = []; text = codes " "; tokens = no_token [] refl; is_run = refl; whole = refl; before_is = refl }) refl refl;
}

not_the_space : ¬ (IsAtToken (codes " ") 38 0)
not_the_space h = let e = one_offset (codes " ") 38 1 0 amp h in omega (arith, e)
