-- The elements of stream management are read as the grammar says.
use Rattle.std.proofs.Common.{◌≡◌, ℕ, ◌^◌, Bool, true, false, cond, List, Option, Some, None, Ok, Err, codes, refl, ap}
use Rattle.im_extensions.proofs.SmFailedLaws.{failed_named, sm_failed_exact}
use Rattle.im_extensions.proofs.StreamManagementLaws.{ack_exact, enable_exact, enabled_exact, resume_exact, resumed_exact}
use Rattle.im_extensions.specs.Readings.{enabled_read, enabled_with, failed_read, failed_with, resumption_read, resumption_with}
use Rattle.im_extensions.specs.StreamManagement.{AckLacks, EnabledLacks, IsAck, IsEnable, IsEnabled, IsResume, IsResumed, IsResumption, IsSmFailed, ResumptionLacks, SmFailedLacks, ack_read, ack_with, count_of, enable_read, failed_condition, is_management}
use Rattle.im_extensions.specs.declared.stream_management.Resume.{Resume}
use Rattle.im_extensions.specs.declared.stream_management.Resumed.{Resumed}
use Rattle.im_extensions.specs.declared.stream_management.SmFailed.{SmFailed}
use Rattle.im_payload.proofs.FaultLemmas.{for_memory, nothing_first, nothing_lacks}
use Rattle.im_payload.specs.Faults.{LacksNothing}
use Rattle.im_payload.specs.Readings.{where_this}
use Rattle.im_payload.specs.Shapes.{flag, optional_number}
use Rattle.im_payload.specs.declared.fault.ExtFault.TheVariants.{NotThis}
use Rattle.law_payloads.proofs.Judged.{Fits, answers, by_exact, there}
use Rattle.law_payloads.specs.Answers.{IsAnswer}
use Rattle.im_stanza.specs.Conditions.{condition_named}
use Rattle.im_stanza.specs.Stanzas.{attr_named}
use Rattle.im_stanza.specs.declared.conditions.Condition.{Condition}
use Rattle.xml_trees.specs.Readers.{is_named}
use Rattle.xml_trees.specs.Trees.{Elem}

-- ---- enable and enabled

enable_fits : (e : Elem) (b : Bool) → is_management (codes "enable") e ≡ b → Fits b LacksNothing (IsEnable e) (cond b (Ok (record { resume = flag (attr_named (codes "resume") e) })) (Err NotThis))
enable_fits e false named = refl
enable_fits e true named = record { named = named; resume = refl }

pub enable_answers : (e : Elem) → IsAnswer (enable_read e) (is_management (codes "enable") e) LacksNothing (IsEnable e)
enable_answers e = by_exact enable_exact e (enable_read e) (enable_fits e (is_management (codes "enable") e) refl)

enabled_fits : (e : Elem) (b : Bool) (max : Option (Option ℕ)) → is_management (codes "enabled") e ≡ b → optional_number (2 ^ 32) (attr_named (codes "max") e) ≡ max
    → Fits b (EnabledLacks e) (IsEnabled e) (where_this b (enabled_with e max))
enabled_fits e false max named is = refl
enabled_fits e true None named is = (refl, is)
enabled_fits e true (Some max) named is = record { named = named; id = refl; resume = refl; max = is }

pub enabled_answers : (e : Elem) → IsAnswer (enabled_read e) (is_management (codes "enabled") e) (EnabledLacks e) (IsEnabled e)
enabled_answers e = by_exact enabled_exact e (enabled_read e) (enabled_fits e (is_management (codes "enabled") e) (optional_number (2 ^ 32) (attr_named (codes "max") e)) refl refl)

-- ---- bare elements, whose name is all that is read

bare_fits : {V : Type 0} (ns name : List ℕ) (v : V) (e : Elem) (b : Bool) → is_named ns name e ≡ b → Fits b LacksNothing (λ (w : V). is_named ns name e ≡ true) (cond b (Ok v) (Err NotThis))
bare_fits ns name v e false named = refl
bare_fits ns name v e true named = named

pub bare_answers : {V : Type 0} (ns name : List ℕ) (v : V) → ((w x : V) → w ≡ x) → (e : Elem)
    → IsAnswer (cond (is_named ns name e) (Ok v) (Err NotThis)) (is_named ns name e) LacksNothing (λ (w : V). is_named ns name e ≡ true)
bare_answers {V} ns name v one e =
    answers (is_named ns name e) LacksNothing (λ (w : V). is_named ns name e ≡ true) (λ w x is also. one w x) (λ w fault is. for_memory _ _ fault is nothing_lacks) nothing_first
    (cond (is_named ns name e) (Ok v) (Err NotThis)) (bare_fits ns name v e (is_named ns name e) refl)

-- ---- a

ack_fits : (e : Elem) (b : Bool) (h : Option ℕ) → is_management (codes "a") e ≡ b → count_of e ≡ h → Fits b (AckLacks e) (IsAck e) (cond b (ack_with h) (Err NotThis))
ack_fits e false h named is = refl
ack_fits e true None named is = (refl, is)
ack_fits e true (Some h) named is = record { named = named; h = is }

pub ack_answers : (e : Elem) → IsAnswer (ack_read e) (is_management (codes "a") e) (AckLacks e) (IsAck e)
ack_answers e = by_exact ack_exact e (ack_read e) (ack_fits e (is_management (codes "a") e) (count_of e) refl refl)

-- ---- resume and resumed

resumption_fits : (name : List ℕ) (e : Elem) (b : Bool) (previd : Option (List ℕ)) (h : Option ℕ) → is_management name e ≡ b → attr_named (codes "previd") e ≡ previd → count_of e ≡ h
    → Fits b (ResumptionLacks e) (λ (v : List ℕ × ℕ). IsResumption name e v.0 v.1) (where_this b (resumption_with previd h))
resumption_fits name e false previd h named stream count = refl
resumption_fits name e true None h named stream count = (refl, stream)
resumption_fits name e true (Some previd) None named stream count = (refl, (there (attr_named (codes "previd") e) previd stream, count))
resumption_fits name e true (Some previd) (Some h) named stream count = record { named = named; stream = stream; count = count }

pub resume_answers : (e : Elem)
    → IsAnswer (resumption_read (codes "resume") e) (is_management (codes "resume") e) (ResumptionLacks e) (λ (v : List ℕ × ℕ). IsResume e (record { previd = v.0; h = v.1 }))
resume_answers e =
    answers (is_management (codes "resume") e) (ResumptionLacks e) (λ (v : List ℕ × ℕ). IsResume e (record { previd = v.0; h = v.1 }))
    (λ v w a b. ap (λ (r : Resume). (r.previd, r.h)) (resume_exact.one e (record { previd = v.0; h = v.1 }) (record { previd = w.0; h = w.1 }) a b))
    (λ v. resume_exact.refused e (record { previd = v.0; h = v.1 })) (resume_exact.first e) (resumption_read (codes "resume") e)
    (resumption_fits (codes "resume") e (is_management (codes "resume") e) (attr_named (codes "previd") e) (count_of e) refl refl refl)

pub resumed_answers : (e : Elem)
    → IsAnswer (resumption_read (codes "resumed") e) (is_management (codes "resumed") e) (ResumptionLacks e) (λ (v : List ℕ × ℕ). IsResumed e (record { previd = v.0; h = v.1 }))
resumed_answers e =
    answers (is_management (codes "resumed") e) (ResumptionLacks e) (λ (v : List ℕ × ℕ). IsResumed e (record { previd = v.0; h = v.1 }))
    (λ v w a b. ap (λ (r : Resumed). (r.previd, r.h)) (resumed_exact.one e (record { previd = v.0; h = v.1 }) (record { previd = w.0; h = w.1 }) a b))
    (λ v. resumed_exact.refused e (record { previd = v.0; h = v.1 })) (resumed_exact.first e) (resumption_read (codes "resumed") e)
    (resumption_fits (codes "resumed") e (is_management (codes "resumed") e) (attr_named (codes "previd") e) (count_of e) refl refl refl)

-- ---- failed

failed_fits : (e : Elem) (b : Bool) (name : Option (List ℕ)) → is_management (codes "failed") e ≡ b → failed_condition e ≡ name
    → Fits b (SmFailedLacks e) (λ (v : Condition). IsSmFailed e (record { condition = v })) (where_this b (failed_with name))
failed_fits e false name named is = refl
failed_fits e true None named is = (refl, is)
failed_fits e true (Some name) named is = failed_named e name (condition_named name) named is refl

pub failed_answers : (e : Elem) → IsAnswer (failed_read e) (is_management (codes "failed") e) (SmFailedLacks e) (λ (v : Condition). IsSmFailed e (record { condition = v }))
failed_answers e =
    answers (is_management (codes "failed") e) (SmFailedLacks e) (λ (v : Condition). IsSmFailed e (record { condition = v }))
    (λ v w a b. ap (λ (f : SmFailed). f.condition) (sm_failed_exact.one e (record { condition = v }) (record { condition = w }) a b))
    (λ v. sm_failed_exact.refused e (record { condition = v })) (sm_failed_exact.first e) (failed_read e)
    (failed_fits e (is_management (codes "failed") e) (failed_condition e) refl refl)
