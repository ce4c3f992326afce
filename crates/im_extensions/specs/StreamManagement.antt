-- Stream management (XEP-0198, sections 3 to 5).
use Rattle.std.specs.Prelude.{◌≡◌, ℕ, ◌^◌, Bool, true, List, [], ◌∷◌, ◌++◌, Option, Some, None, IsSome, Result, Ok, Err, codes, if◌then◌else◌}
use Rattle.std.specs.Fmt.{decimal}
use Rattle.std.specs.Option.{option_map}
use Rattle.im_payload.specs.Names.{management}
use Rattle.im_payload.specs.Shapes.{attr_or_empty, flag, optional_number, required_number}
use Rattle.im_stanza.specs.Stanzas.{attr_named}
use Rattle.im_payload.specs.Writing.{flag_text}
use Rattle.im_payload.specs.declared.fault.ExtFault.{ExtFault}
use Rattle.im_payload.specs.declared.fault.ExtFault.TheVariants.{Bad, NotThis}
use Rattle.im_payload.specs.declared.fault.Field.{Field}
use Rattle.im_payload.specs.declared.fault.Field.TheVariants.{H, Previd, Max, Condition}
use Rattle.im_extensions.specs.declared.stream_management.Ack.{Ack}
use Rattle.im_extensions.specs.declared.stream_management.Enable.{Enable}
use Rattle.im_extensions.specs.declared.stream_management.Enabled.{Enabled}
use Rattle.im_extensions.specs.declared.stream_management.Resume.{Resume}
use Rattle.im_extensions.specs.declared.stream_management.Resumed.{Resumed}
use Rattle.im_extensions.specs.declared.stream_management.SmFailed.{SmFailed}
use Rattle.xml_trees.specs.Attributes.{attribute}
use Rattle.xml_trees.specs.Readers.{is_named}
use Rattle.xml_trees.specs.Trees.{Elem, element, no_nodes, child, nodes_of}
use Rattle.im_stanza.specs.Conditions.{IsPlain, condition_in, condition_name}
use Rattle.im_stanza.specs.Names.{stanza_errors_ns}
use Rattle.im_stanza.specs.Written.{attr_where, unless_empty}

-- the element of this name in the namespace of stream management
abbrev pub is_management : List ℕ → Elem → Bool
is_management name e = is_named management name e

-- `enable` (section 3): whether the client wants to resume
pub record IsEnable (e : Elem) (v : Enable) : Type 0 where
  pub named : is_management (codes "enable") e ≡ true
  pub resume : v.resume ≡ flag (attr_named (codes "resume") e)

-- the same as a function
abbrev pub enable_read : Elem → Result Enable ExtFault
enable_read e = if is_management (codes "enable") e then Ok (record { resume = flag (attr_named (codes "resume") e) }) else Err NotThis

abbrev pub enable_elem : Enable → Elem
enable_elem v = element management (codes "enable") (attr_where [] (codes "resume") (flag_text v.resume)) no_nodes

-- `enabled` (section 3): the id for a resumption, empty where there is none, and how many seconds it is kept
pub record IsEnabled (e : Elem) (v : Enabled) : Type 0 where
  pub named : is_management (codes "enabled") e ≡ true
  pub id : v.id ≡ attr_or_empty (codes "id") e
  pub resume : v.resume ≡ flag (attr_named (codes "resume") e)
  pub max : optional_number (2 ^ 32) (attr_named (codes "max") e) ≡ Some v.max

abbrev pub EnabledLacks : Elem → Field → Type 0
EnabledLacks e Max = optional_number (2 ^ 32) (attr_named (codes "max") e) ≡ None
EnabledLacks e _ = ⊥

abbrev pub enabled_elem : Enabled → Elem
enabled_elem v =
    element management (codes "enabled")
    (attr_where [] (codes "id") (unless_empty v.id) ++ attr_where [] (codes "max") (option_map decimal v.max)
    ++ attr_where [] (codes "resume") (flag_text v.resume))
    no_nodes

-- the count that an element tells (section 4): how many stanzas were handled, modulo 2^32
abbrev pub count_of : Elem → Option ℕ
count_of e = required_number (2 ^ 32) (attr_named (codes "h") e)

-- `a` (section 4)
pub record IsAck (e : Elem) (v : Ack) : Type 0 where
  pub named : is_management (codes "a") e ≡ true
  pub h : count_of e ≡ Some v.h

abbrev pub AckLacks : Elem → Field → Type 0
AckLacks e H = count_of e ≡ None
AckLacks e _ = ⊥

-- the same as a function
abbrev pub ack_with : Option ℕ → Result Ack ExtFault
ack_with None = Err (Bad H)
ack_with (Some h) = Ok (record { h = h })

abbrev pub ack_read : Elem → Result Ack ExtFault
ack_read e = if is_management (codes "a") e then ack_with (count_of e) else Err NotThis

abbrev pub ack_elem : Ack → Elem
ack_elem v = element management (codes "a") (attribute [] (codes "h") (decimal v.h) ∷ []) no_nodes

-- `resume` and `resumed` (section 5): the id of the stream that is resumed, and the count
pub record IsResumption (name : List ℕ) (e : Elem) (previd : List ℕ) (h : ℕ) : Type 0 where
  pub named : is_management name e ≡ true
  pub stream : attr_named (codes "previd") e ≡ Some previd
  pub count : count_of e ≡ Some h

abbrev pub IsResume : Elem → Resume → Type 0
IsResume e v = IsResumption (codes "resume") e v.previd v.h

abbrev pub IsResumed : Elem → Resumed → Type 0
IsResumed e v = IsResumption (codes "resumed") e v.previd v.h

-- the id is judged first
abbrev pub ResumptionLacks : Elem → Field → Type 0
ResumptionLacks e Previd = attr_named (codes "previd") e ≡ None
ResumptionLacks e H = IsSome (attr_named (codes "previd") e) × (count_of e ≡ None)
ResumptionLacks e _ = ⊥

abbrev pub resumption : List ℕ → List ℕ → ℕ → Elem
resumption name previd h = element management name (attribute [] (codes "h") (decimal h) ∷ attribute [] (codes "previd") previd ∷ []) no_nodes

abbrev pub resume_elem : Resume → Elem
resume_elem v = resumption (codes "resume") v.previd v.h

abbrev pub resumed_elem : Resumed → Elem
resumed_elem v = resumption (codes "resumed") v.previd v.h

-- the name of the condition of a `failed` (section 6): that of a stanza error
abbrev pub failed_condition : Elem → Option (List ℕ)
failed_condition e = condition_in stanza_errors_ns (nodes_of e)

-- `failed` (sections 3 and 5)
pub record IsSmFailed (e : Elem) (v : SmFailed) : Type 0 where
  pub named : is_management (codes "failed") e ≡ true
  pub condition : failed_condition e ≡ Some (condition_name v.condition)
  pub plain : IsPlain v.condition

abbrev pub SmFailedLacks : Elem → Field → Type 0
SmFailedLacks e Condition = failed_condition e ≡ None
SmFailedLacks e _ = ⊥

abbrev pub sm_failed_elem : SmFailed → Elem
sm_failed_elem v = element management (codes "failed") [] (child (element stanza_errors_ns (condition_name v.condition) [] no_nodes) no_nodes)
