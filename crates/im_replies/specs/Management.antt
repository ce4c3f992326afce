-- What a server says of the acknowledgement of stanzas and of resumption (XEP-0198, sections 3 to 5).
use Rattle.std.specs.Prelude.{ℕ, true, false, List, [], Some, None, codes}
use Rattle.base_lemmas.specs.Hexadecimal.{hex16_of}
use Rattle.im_extensions.specs.StreamManagement.{ack_elem, enabled_elem, resumed_elem, sm_failed_elem}
use Rattle.im_payload.specs.Bare.{bare}
use Rattle.im_payload.specs.Names.{management}
use Rattle.xml_writer.specs.Items.{ItemOut, Whole, written_item}
use Rattle.im_stanza.specs.declared.conditions.Condition.{Condition}

-- a wish for a count of the stanzas handled (section 4)
abbrev pub request_item : ItemOut
request_item = Whole (bare management (codes "r"))

abbrev pub request_text : List ℕ
request_text = written_item request_item

-- the count (section 4)
abbrev pub ack_item : ℕ → ItemOut
ack_item h = Whole (ack_elem (record { h = h }))

abbrev pub ack_text : ℕ → List ℕ
ack_text h = written_item (ack_item h)

-- stanzas are acknowledged from now on (section 3), and the stream can't be resumed
abbrev pub enabled_item : ItemOut
enabled_item = Whole (enabled_elem (record { id = []; resume = false; max = None }))

abbrev pub enabled_text : List ℕ
enabled_text = written_item enabled_item

-- the same where the stream can be resumed, for so many seconds, by the number of its session in 16 hexadecimal digits
abbrev pub resumable_item : ℕ → ℕ → ItemOut
resumable_item session seconds = Whole (enabled_elem (record { id = hex16_of session; resume = true; max = Some seconds }))

abbrev pub resumable_text : ℕ → ℕ → List ℕ
resumable_text session seconds = written_item (resumable_item session seconds)

-- a session goes on, and how many of its stanzas were handled (section 5)
abbrev pub resumed_item : ℕ → ℕ → ItemOut
resumed_item session h = Whole (resumed_elem (record { previd = hex16_of session; h = h }))

abbrev pub resumed_text : ℕ → ℕ → List ℕ
resumed_text session h = written_item (resumed_item session h)

-- what was asked of stream management is refused (sections 3 and 5)
abbrev pub refused_item : Condition → ItemOut
refused_item condition = Whole (sm_failed_elem (record { condition = condition }))

abbrev pub refused_text : Condition → List ℕ
refused_text condition = written_item (refused_item condition)
