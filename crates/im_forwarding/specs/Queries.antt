-- What a query of an archive asks for, and how one that can't be answered is refused (XEP-0313, sections 4.1 and 4.3; RFC
-- 6120, sections 8.3.2 and 8.3.3).
use Rattle.std.specs.Prelude.{◌≡◌, Result, Ok, Err}
use Rattle.im_forwarding.specs.declared.query_fault.QueryFault.{QueryFault}
use Rattle.im_forwarding.specs.declared.query_fault.QueryFault.TheVariants.{NoMemory, Refused}
use Rattle.im_mam.specs.Readings.{mam_query_read}
use Rattle.im_mam.specs.declared.archive_query.MamQuery.{MamQuery}
use Rattle.im_payload.specs.declared.fault.ExtFault.{ExtFault}
use Rattle.im_payload.specs.declared.fault.ExtFault.TheVariants.{Bad}
use Rattle.im_payload.specs.declared.fault.Field.{Field}
use Rattle.im_payload.specs.declared.fault.Field.TheVariants.{UnknownField}
use Rattle.im_stanza.specs.declared.conditions.Condition.TheVariants.{BadRequest, FeatureNotImplemented, ItemNotFound, ServiceUnavailable}
use Rattle.im_stanza.specs.declared.errors.ErrorKind.TheVariants.{Cancel, Modify}
use Rattle.im_stanza.specs.declared.errors.StanzaError.{StanzaError}
use Rattle.xml_trees.specs.Trees.{Elem}

-- a field that the archive doesn't know isn't implemented; any other that is wrong makes the request a bad one
abbrev pub field_error : Field → StanzaError
field_error UnknownField = record { kind = Cancel; condition = FeatureNotImplemented }
field_error _ = record { kind = Modify; condition = BadRequest }

-- what is no query isn't served
abbrev pub query_error : ExtFault → StanzaError
query_error (Bad field) = field_error field
query_error _ = record { kind = Cancel; condition = ServiceUnavailable }

abbrev pub query_judged : Result MamQuery ExtFault → Result MamQuery StanzaError
query_judged (Ok query) = Ok query
query_judged (Err fault) = Err (query_error fault)

-- what an element asks an archive for, or the error by which it is refused: that of its first field that is wrong
abbrev pub query_asked : Elem → Result MamQuery StanzaError
query_asked e = query_judged (mam_query_read e)

-- the place of the page is after or before an entry that the archive hasn't (XEP-0313, section 4.3; XEP-0059, section 2.2)
abbrev pub no_such_place : StanzaError
no_such_place = record { kind = Cancel; condition = ItemNotFound }

-- unless memory ran out, the result is the answer
abbrev pub Asks : Result MamQuery QueryFault → Result MamQuery StanzaError → Type 0
Asks (Ok query) answer = answer ≡ Ok query
Asks (Err (Refused error)) answer = answer ≡ Err error
Asks (Err NoMemory) answer = Unit {0}
