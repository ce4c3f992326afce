-- Worked streams, evaluated.
use Rattle.std.specs.Prelude.{◌≡◌, refl, List, [], ◌∷◌, ◌++◌, Some, None, codes}
use Rattle.std.specs.Fmt.{digits}
use Rattle.xml_tokens.specs.Spelling.{text_byte, value_byte}
use Rattle.xml_tokens.specs.Utf8.{utf8_next}
use Rattle.xml_names.specs.declared.headers.Header.{Header}
use Rattle.xml_writer.specs.Canon.{assignment, client_namespace, streams_namespace}
use Rattle.xml_framer.specs.Limits.{server_limits}
use Rattle.xml_framer.specs.Machine.{goes_on, is_too_long, part_of, taken}
use Rattle.xml_framer.specs.MarkupSteps.{in_bang}
use Rattle.xml_framer.specs.States.{from_start, turn}
use Rattle.xml_framer.specs.TagSteps.{in_opening}
use Rattle.xml_framer.specs.TextSteps.{between, in_text, text_outside}
use Rattle.xml_framer.specs.declared.items.Item.{Item}
use Rattle.xml_framer.specs.declared.items.Item.TheVariants as item
use Rattle.xml_check.specs.Checked.{Told, told, told_last, told_turn, sound_with, wrong_with}
use Rattle.xml_check.specs.Lines.{is_of_client}

-- what is told of items behind which nothing is wrong
told_of : List Item → Told
told_of items = told_turn (turn (from_start server_limits) items)

client : Header
client = record {
  ns = streams_namespace;
  name = codes "stream";
  content = client_namespace;
  to = Some (codes "chat.example");
  from = None;
  id = None;
  version = Some (codes "1.0");
  lang = None;
}

server : Header
server = record client { content = codes "jabber:server" }

-- a whole stream without elements
header_and_footer : told_of (item.Header 0 client ∷ item.Footer ∷ []) ≡
    sound_with (codes "<stream:stream to='chat.example' version='1.0' xmlns='jabber:client' xmlns:stream='http://etherx.jabber.org/streams'>"
    ++ 10 ∷ (codes "</stream:stream>" ++ 10 ∷ (codes "end" ++ 10 ∷ [])))
unfolding told_of client told_last part_of is_of_client assignment value_byte text_byte
header_and_footer = refl

-- nothing is told behind a header of another content
another_content : told_of (item.Footer ∷ item.Header 21 server ∷ item.Footer ∷ []) ≡
    wrong_with (codes "</stream:stream>" ++ 10 ∷ (codes "fault 21 InvalidNamespace" ++ 10 ∷ []))
unfolding told_of client server told_last part_of is_of_client digits
another_content = refl

-- nothing was read
nothing : told [] ≡ sound_with (codes "end" ++ 10 ∷ [])
unfolding told told_last part_of
nothing = refl

-- white space
white : told (codes " " ++ 10 ∷ []) ≡ sound_with (codes "end" ++ 10 ∷ [])
unfolding told told_last part_of goes_on is_too_long taken in_text between text_outside utf8_next
white = refl

-- a tag has begun
begun_tag : told (codes " <") ≡ wrong_with (codes "truncated 1" ++ 10 ∷ [])
unfolding told told_last part_of goes_on is_too_long taken in_text between text_outside utf8_next digits
begun_tag = refl

-- a character has begun
begun_character : told (32 ∷ 195 ∷ []) ≡ wrong_with (codes "truncated 1" ++ 10 ∷ [])
unfolding told told_last part_of goes_on is_too_long taken in_text between text_outside utf8_next digits
begun_character = refl

-- a comment
comment : told (codes " <!-- -->") ≡ wrong_with (codes "fault 1 Restricted" ++ 10 ∷ [])
unfolding told told_last part_of goes_on is_too_long taken in_text between text_outside in_opening in_bang utf8_next digits
comment = refl
