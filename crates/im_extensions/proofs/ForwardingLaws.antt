-- Forwarded messages: what is read is exact, and what is written is a tree and read back.
use Rattle.std.proofs.Common.{◌≡◌, ℕ, ◌≤◌, List, [], ◌∷◌, Option, Some, None, is_some, unwrap_or, Result, Ok, Err, refl, sym, ap, ◌∙◌, subst, min, codes, arith}
use Rattle.std.specs.Result.{result_ok}
use Rattle.im_payload.proofs.CheckLemmas.{right_refused, right_value, same_value}
use Rattle.im_stamp.proofs.StampJudged.{judged_ok}
use Rattle.im_stamp.proofs.StampLaws.{written_read}
use Rattle.im_payload.specs.Bare.{bare}
use Rattle.im_payload.specs.Checks.{IsExactBy, first_wrong}
use Rattle.im_extensions.specs.Forwarding.{Forwards, IsForwarded, WritesForwarded, delay_moment, forward_checks, forwarded_checks, forwarded_elem, is_forwarded, message_in, message_read, only_message, the_forwarded}
use Rattle.im_payload.specs.Names.{delays, forwarding}
use Rattle.im_payload.specs.Moments.{IsStampOf, moment_in}
use Rattle.im_stamp.specs.StampReading.{moment_of}
use Rattle.im_stamp.specs.Stamps.{IsWritten}
use Rattle.im_payload.specs.declared.fault.Field.TheVariants as field
use Rattle.im_extensions.specs.declared.forwarding.Forwarded.{Forwarded}
use Rattle.xml_trees.proofs.TidyLaws.{tidied_IsTree, tidied_nodes_stay, tidied_stays}
use Rattle.xml_trees.proofs.TidyReads.{child_of_IsTree, nodes_of_tree}
use Rattle.xml_trees.specs.Readers.{child_of}
use Rattle.xml_trees.specs.Tidied.{tidied}
use Rattle.xml_trees.specs.Trees.{AreTidy, Elem, IsTree}
use Rattle.im_stanza.proofs.ReadingLaws.{message_law}
use Rattle.im_stanza.specs.Names.{client_ns}
use Rattle.im_stanza.specs.Readings.{stanza_of}
use Rattle.im_stanza.specs.Views.{MessageView}
use Rattle.im_stanza.specs.Written.{message_elem}
use Rattle.im_stanza.specs.declared.stanzas.Stanza.{Stanza}
use Rattle.im_stanza.specs.declared.stanzas.Stanza.TheVariants.{Message, Presence, Iq}
use Rattle.im_stanza.specs.declared.fault.StanzaFault.{StanzaFault}

-- ---- moments

-- a stamp that is read is of no moment past the last
read_low : {E : Type 0} (r : Result ℕ E) (ms : ℕ) → result_ok r ≡ Some ms → r ≡ Ok ms
read_low (Ok n) ms is = ap Ok (same_value n ms is)
read_low (Err f) ms is = absurd (let p = is in cc)

pub moment_low : (given : Option (List ℕ)) (ms : ℕ) → moment_in given ≡ Some ms → ms ≤ 253402207200000
moment_low None ms is = absurd (let p = is in cc)
moment_low (Some text) ms is = let found = (judged_ok text ms).0 (read_low (moment_of text) ms is) in omega (arith, found.3)

-- the stamp that is written for such a moment is read as that moment
pub stamp_again : (ms : ℕ) (text : List ℕ) → ms ≤ 253402207200000 → IsStampOf ms text → moment_in (Some text) ≡ Some ms
stamp_again ms text low is =
    let least : min ms 253402207200000 ≡ ms = omega (arith, low) in
    ap result_ok (written_read ms text low (subst (λ n. IsWritten n text) least is))

-- ---- the message

read_message : (r : Result Stanza StanzaFault) (m : MessageView) → only_message r ≡ Some m → r ≡ Ok (Message m)
read_message (Ok (Message n)) m is = ap (λ x. Ok (Message x)) (same_value n m is)
read_message (Ok (Presence p)) m is = absurd (let q = is in cc)
read_message (Ok (Iq q)) m is = absurd (let p = is in cc)
read_message (Err fault) m is = absurd (let p = is in cc)

payload_tidy : (given : Option Elem) (m : MessageView) → ((c : Elem) → given ≡ Some c → IsTree c) → message_read given ≡ Some m → AreTidy m.payload
payload_tidy None m trees is = absurd (let p = is in cc)
payload_tidy (Some c) m trees is = let law = (message_law c m).0 (read_message (stanza_of c) m is) in subst AreTidy (sym law.payload) (nodes_of_tree c (trees c refl))

-- ---- what is forwarded

forwarded_elem_stays : (stamp : List ℕ) (message : Elem) → tidied (forwarded_elem stamp (tidied message)) ≡ forwarded_elem stamp (tidied message)
forwarded_elem_stays stamp message = λ i. forwarded_elem stamp (tidied_stays (tidied message) (tidied_IsTree message) i)

pub written_stays : (v : Forwarded) (e : Elem) → WritesForwarded v e → tidied e ≡ e
written_stays v e w = ap tidied w.shape ∙ forwarded_elem_stays w.stamp (message_elem v.message) ∙ sym w.shape

pub written_tree : (v : Forwarded) (e tree : Elem) → WritesForwarded v e → tree ≡ tidied e → WritesForwarded v tree
written_tree v e tree w is = subst (WritesForwarded v) (sym (is ∙ written_stays v e w)) w

delay_low : (absent : Option ℕ) (delay : Option Elem) (ms : ℕ) → ((n : ℕ) → absent ≡ Some n → n ≤ 253402207200000) → delay_moment absent delay ≡ Some ms → ms ≤ 253402207200000
delay_low absent None ms low is = low ms is
delay_low absent (Some delay) ms low is = moment_low _ ms is

pub forwards_again : (absent : Option ℕ) (e written : Elem) (v : Forwarded) → ((n : ℕ) → absent ≡ Some n → n ≤ 253402207200000) → IsTree e → Forwards absent e v → WritesForwarded v written → Forwards absent written v
forwards_again absent e written v low tree is w =
    let tidy = payload_tidy (child_of client_ns (codes "message") e) v.message (λ c there. child_of_IsTree client_ns (codes "message") e tree c there) is.message in
    let again = stamp_again v.stamp w.stamp (delay_low absent (child_of delays (codes "delay") e) v.stamp low is.stamp) w.spelled in
    let read = ap only_message w.read ∙ ap (λ nodes. Some (record v.message { payload = nodes })) (tidied_nodes_stay v.message.payload tidy) in
    subst (λ t. Forwards absent t v) (sym w.shape) (record { stamp = again; message = read })

-- the same of a payload's child `forwarded`
pub inside_again : (absent : Option ℕ) (e written : Elem) (v : Forwarded) → ((n : ℕ) → absent ≡ Some n → n ≤ 253402207200000) → IsTree e → Forwards absent (the_forwarded e) v → WritesForwarded v written → Forwards absent written v
inside_again absent e written v low tree is w = at_child (child_of forwarding (codes "forwarded") e) (λ f there. child_of_IsTree forwarding (codes "forwarded") e tree f there) is
  where
    at_child : (given : Option Elem) → ((f : Elem) → given ≡ Some f → IsTree f) → Forwards absent (unwrap_or given (bare forwarding (codes "forwarded"))) v → Forwards absent written v
    at_child None trees is = absurd (let p = is.message in cc)
    at_child (Some f) trees is = forwards_again absent f written v low (trees f refl) is w

pub forwards_one : (absent : Option ℕ) (e : Elem) (v w : Forwarded) → Forwards absent e v → Forwards absent e w → v ≡ w
forwards_one absent e v w a b i = record { stamp = same_value v.stamp w.stamp (sym a.stamp ∙ b.stamp) i; message = same_value v.message w.message (sym a.message ∙ b.message) i }

pub forwards_right : (absent : Option ℕ) (e : Elem) (v : Forwarded) → Forwards absent e v → first_wrong (forward_checks absent e) ≡ None
forwards_right absent e v is = right_value _ v.stamp field.Stamp ((is_some (message_in e), field.Stanza) ∷ []) is.stamp (right_value _ v.message field.Stanza [] is.message refl)

pub forwarded_exact : IsExactBy is_forwarded forwarded_checks IsForwarded WritesForwarded
forwarded_exact = record {
  one = λ e v w a b. forwards_one None e v w a.inside b.inside;
  refused = λ e v fault is. right_refused (is_forwarded e) (forwarded_checks e) fault is.named (forwards_right None e v is.inside);
  read_back = λ e written v tree is w. record { named = ap is_forwarded w.shape; inside = forwards_again None e written v (λ n none. absurd (let p = none in cc)) tree is.inside w };
}
