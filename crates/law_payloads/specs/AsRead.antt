-- What is read of a forwarded message that was written: its moment, which is the last one where it is past that, and
-- the message, its payload tidied.
use Rattle.std.specs.Prelude.{ℕ, min}
use Rattle.im_extensions.specs.declared.carbons.Carbon.{Carbon}
use Rattle.im_extensions.specs.declared.forwarding.Forwarded.{Forwarded}
use Rattle.im_mam.specs.declared.archive_answers.MamResult.{MamResult}
use Rattle.xml_trees.specs.Tidied.{tidied_nodes}

-- the last moment of which a stamp is written and read, in milliseconds since 1970: 9999-12-30T22:00:00Z
abbrev pub last_moment : ℕ
last_moment = 253402207200000

abbrev pub forwarded_as_read : Forwarded → Forwarded
forwarded_as_read v = record { stamp = min v.stamp last_moment; message = record v.message { payload = tidied_nodes v.message.payload } }

abbrev pub carbon_as_read : Carbon → Carbon
carbon_as_read v = record { sent = v.sent; forwarded = forwarded_as_read v.forwarded }

abbrev pub result_as_read : MamResult → MamResult
result_as_read v = record { queryid = v.queryid; id = v.id; forwarded = forwarded_as_read v.forwarded }
