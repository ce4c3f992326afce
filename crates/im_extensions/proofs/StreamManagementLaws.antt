-- Stream management: what is read is exact, and what is written is a tree and read back.
use Rattle.std.proofs.Common.{◌≡◌, ℕ, ◌^◌, Bool, true, false, List, [], ◌∷◌, ◌++◌, Option, Some, None, codes, refl, sym, ap, ◌∙◌, arith}
use Rattle.std.specs.Fmt.{decimal}
use Rattle.std.specs.Option.{option_map}
use Rattle.im_payload.proofs.FaultLemmas.{for_memory, nothing_first, nothing_lacks, one_field, same_inside, some_is_there}
use Rattle.im_payload.proofs.Numbers.{optional_fits, required_fits, written_number}
use Rattle.im_payload.specs.Faults.{IsExact, LacksNothing}
use Rattle.im_payload.specs.Names.{management}
use Rattle.im_payload.specs.Shapes.{attr_or_empty, flag, optional_number, required_number}
use Rattle.im_stanza.specs.Stanzas.{attr_named}
use Rattle.im_extensions.specs.StreamManagement.{AckLacks, EnabledLacks, IsAck, IsEnable, IsEnabled, IsResume, IsResumed, IsResumption, ResumptionLacks, ack_elem, enable_elem, enabled_elem, is_management, resume_elem, resumed_elem, resumption}
use Rattle.im_payload.specs.Writing.{flag_text}
use Rattle.im_payload.specs.declared.fault.Field.{Field}
use Rattle.im_payload.specs.declared.fault.Field.TheVariants.{H, Previd, Max}
use Rattle.im_extensions.specs.declared.stream_management.Ack.{Ack}
use Rattle.im_extensions.specs.declared.stream_management.Enable.{Enable}
use Rattle.im_extensions.specs.declared.stream_management.Enabled.{Enabled}
use Rattle.xml_trees.specs.Tidied.{tidied}
use Rattle.xml_trees.specs.Trees.{Elem, element, no_nodes}
use Rattle.im_stanza.specs.Written.{attr_where, unless_empty}

flag_again : (b : Bool) → flag (flag_text b) ≡ b
flag_again true = refl
flag_again false = refl

-- enable

abbrev enable_with : Bool → Elem
enable_with resume = element management (codes "enable") (attr_where [] (codes "resume") (flag_text resume)) no_nodes

enable_stays_with : (resume : Bool) → tidied (enable_with resume) ≡ enable_with resume
enable_stays_with true = refl
enable_stays_with false = refl

pub enable_stays : (v : Enable) → tidied (enable_elem v) ≡ enable_elem v
enable_stays v = enable_stays_with v.resume

resume_written : (resume : Bool) → attr_named (codes "resume") (enable_with resume) ≡ flag_text resume
resume_written true = refl
resume_written false = refl

pub enable_exact : IsExact (is_management (codes "enable")) (λ e. LacksNothing) IsEnable enable_elem
enable_exact = record {
  one = λ e v w a b i. record { resume = (a.resume ∙ sym b.resume) i };
  refused = λ e v fault is. for_memory _ _ fault is.named nothing_lacks;
  first = λ e. nothing_first;
  read_back = λ e v is. record { named = refl; resume = sym (ap flag (resume_written v.resume) ∙ flag_again v.resume) };
}

-- enabled

abbrev enabled_with : List ℕ → Option ℕ → Bool → Elem
enabled_with id max resume =
    element management (codes "enabled") (attr_where [] (codes "id") (unless_empty id) ++ attr_where [] (codes "max") (option_map decimal max) ++ attr_where [] (codes "resume") (flag_text resume)) no_nodes

enabled_stays_with : (id : List ℕ) (max : Option ℕ) (resume : Bool) → tidied (enabled_with id max resume) ≡ enabled_with id max resume
enabled_stays_with [] None true = refl
enabled_stays_with [] None false = refl
enabled_stays_with [] (Some n) true = refl
enabled_stays_with [] (Some n) false = refl
enabled_stays_with (c ∷ cs) None true = refl
enabled_stays_with (c ∷ cs) None false = refl
enabled_stays_with (c ∷ cs) (Some n) true = refl
enabled_stays_with (c ∷ cs) (Some n) false = refl

pub enabled_stays : (v : Enabled) → tidied (enabled_elem v) ≡ enabled_elem v
enabled_stays v = enabled_stays_with v.id v.max v.resume

-- each attribute is found as it was written
record Written (e : Elem) (i : List ℕ) (m : Option ℕ) (r : Bool) : Type 0 where
  pub id : attr_or_empty (codes "id") e ≡ i
  pub max : attr_named (codes "max") e ≡ option_map decimal m
  pub resume : attr_named (codes "resume") e ≡ flag_text r

enabled_written : (id : List ℕ) (max : Option ℕ) (resume : Bool) → Written (enabled_with id max resume) id max resume
enabled_written [] None true = record { id = refl; max = refl; resume = refl }
enabled_written [] None false = record { id = refl; max = refl; resume = refl }
enabled_written [] (Some n) true = record { id = refl; max = refl; resume = refl }
enabled_written [] (Some n) false = record { id = refl; max = refl; resume = refl }
enabled_written (c ∷ cs) None true = record { id = refl; max = refl; resume = refl }
enabled_written (c ∷ cs) None false = record { id = refl; max = refl; resume = refl }
enabled_written (c ∷ cs) (Some n) true = record { id = refl; max = refl; resume = refl }
enabled_written (c ∷ cs) (Some n) false = record { id = refl; max = refl; resume = refl }

max_again : (given : Option (List ℕ)) (max : Option ℕ) → optional_number (2 ^ 32) given ≡ Some max → optional_number (2 ^ 32) (option_map decimal max) ≡ Some max
max_again given None is = refl
max_again given (Some n) is = ap (option_map Some) (written_number (2 ^ 32) n (omega arith) (optional_fits (2 ^ 32) given n is))

enabled_again : (e : Elem) (v : Enabled) → IsEnabled e v → IsEnabled (enabled_elem v) v
enabled_again e v is =
    let written = enabled_written v.id v.max v.resume in
    record {
      named = refl;
      id = sym written.id;
      resume = sym (ap flag written.resume ∙ flag_again v.resume);
      max = ap (optional_number (2 ^ 32)) written.max ∙ max_again (attr_named (codes "max") e) v.max is.max;
    }

max_alone : (e : Elem) (f : Field) → EnabledLacks e f → f ≡ Max
max_alone e Max lacks = refl
max_alone e _ lacks = absurd lacks

enabled_right : (e : Elem) (v : Enabled) (f : Field) → IsEnabled e v → EnabledLacks e f → ⊥
enabled_right e v Max is lacks = let both = sym is.max ∙ lacks in cc both
enabled_right e v _ is lacks = lacks

pub enabled_exact : IsExact (is_management (codes "enabled")) EnabledLacks IsEnabled enabled_elem
enabled_exact = record {
  one = λ e v w a b i. record { id = (a.id ∙ sym b.id) i; resume = (a.resume ∙ sym b.resume) i; max = same_inside v.max w.max (sym a.max ∙ b.max) i };
  refused = λ e v fault is. for_memory _ _ fault is.named (λ f. enabled_right e v f is);
  first = λ e. one_field _ Max (max_alone e);
  read_back = enabled_again;
}

-- a

count_again : (given : Option (List ℕ)) (n : ℕ) → required_number (2 ^ 32) given ≡ Some n → required_number (2 ^ 32) (Some (decimal n)) ≡ Some n
count_again given n is = written_number (2 ^ 32) n (omega arith) (required_fits (2 ^ 32) given n is)

h_alone : (e : Elem) (f : Field) → AckLacks e f → f ≡ H
h_alone e H lacks = refl
h_alone e _ lacks = absurd lacks

ack_right : (e : Elem) (v : Ack) (f : Field) → IsAck e v → AckLacks e f → ⊥
ack_right e v H is lacks = let both = sym is.h ∙ lacks in cc both
ack_right e v _ is lacks = lacks

pub ack_exact : IsExact (is_management (codes "a")) AckLacks IsAck ack_elem
ack_exact = record {
  one = λ e v w a b i. record { h = same_inside v.h w.h (sym a.h ∙ b.h) i };
  refused = λ e v fault is. for_memory _ _ fault is.named (λ f. ack_right e v f is);
  first = λ e. one_field _ H (h_alone e);
  read_back = λ e v is. record { named = refl; h = count_again (attr_named (codes "h") e) v.h is.h };
}

-- resume and resumed

resumption_right : (name : List ℕ) (e : Elem) (previd : List ℕ) (h : ℕ) (f : Field) → IsResumption name e previd h → ResumptionLacks e f → ⊥
resumption_right name e previd h Previd is lacks = let both = sym is.stream ∙ lacks in cc both
resumption_right name e previd h H is lacks = let both = sym is.count ∙ lacks.1 in cc both
resumption_right name e previd h _ is lacks = lacks

resumption_first : (e : Elem) (f g : Field) → ResumptionLacks e f → ResumptionLacks e g → f ≡ g
resumption_first e Previd Previd a b = refl
resumption_first e Previd H a b = absurd (some_is_there _ b.0 a)
resumption_first e Previd _ a b = absurd b
resumption_first e H Previd a b = absurd (some_is_there _ a.0 b)
resumption_first e H H a b = refl
resumption_first e H _ a b = absurd b
resumption_first e _ _ a b = absurd a

resumption_again : (name : List ℕ) (e : Elem) (previd : List ℕ) (h : ℕ) → is_management name (resumption name previd h) ≡ true → IsResumption name e previd h → IsResumption name (resumption name previd h) previd h
resumption_again name e previd h named is = record { named = named; stream = refl; count = count_again (attr_named (codes "h") e) h is.count }

pub resume_exact : IsExact (is_management (codes "resume")) ResumptionLacks IsResume resume_elem
resume_exact = record {
  one = λ e v w a b i. record { previd = same_inside v.previd w.previd (sym a.stream ∙ b.stream) i; h = same_inside v.h w.h (sym a.count ∙ b.count) i };
  refused = λ e v fault is. for_memory _ _ fault is.named (λ f. resumption_right (codes "resume") e v.previd v.h f is);
  first = resumption_first;
  read_back = λ e v. resumption_again (codes "resume") e v.previd v.h refl;
}

pub resumed_exact : IsExact (is_management (codes "resumed")) ResumptionLacks IsResumed resumed_elem
resumed_exact = record {
  one = λ e v w a b i. record { previd = same_inside v.previd w.previd (sym a.stream ∙ b.stream) i; h = same_inside v.h w.h (sym a.count ∙ b.count) i };
  refused = λ e v fault is. for_memory _ _ fault is.named (λ f. resumption_right (codes "resumed") e v.previd v.h f is);
  first = resumption_first;
  read_back = λ e v. resumption_again (codes "resumed") e v.previd v.h refl;
}
