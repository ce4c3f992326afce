-- What an archive keeps of a message (XEP-0313, section 4.2).
use Rattle.std.specs.Prelude.{ℕ, Bool, true, false, [], unwrap_or}
use Rattle.mam_archive.specs.Entries.{EntryView}
use Rattle.im_extensions.specs.Given.{origin_of}
use Rattle.im_messages.specs.Bodies.{bodies_of}
use Rattle.im_stanza.specs.Views.{MessageView}
use Rattle.im_stanza.specs.declared.kinds.MessageKind.{MessageKind}
use Rattle.im_stanza.specs.declared.kinds.MessageKind.TheVariants.{Normal}

abbrev pub is_normal : MessageKind → Bool
is_normal Normal = true
is_normal _ = false

-- the entry of a message under a number, taken at a moment: an address that is absent is empty, and so is the id of an
-- `origin-id` that is absent or has none
abbrev pub entry_of : ℕ → ℕ → MessageView → EntryView
entry_of number stamp m =
    record {
      number = number;
      stamp = stamp;
      from = unwrap_or m.from [];
      to = unwrap_or m.to [];
      normal = is_normal m.kind;
      id = m.id;
      origin = unwrap_or (origin_of m.payload) [];
      bodies = bodies_of m.payload;
    }
