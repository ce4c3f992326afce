-- Messages that are forwarded are read as the grammar says, and what is written is read as it was.
use Rattle.std.proofs.Common.{◌≡◌, ℕ, ◌≤◌, Bool, true, false, List, [], ◌∷◌, Option, Some, None, is_some, Result, Ok, Err, codes, refl, sym, ap, ◌∙◌, subst, min, arith}
use Rattle.im_extensions.proofs.CarbonLaws.{carbon_exact}
use Rattle.im_extensions.proofs.ForwardingLaws.{forwarded_exact, forwards_one, forwards_right, stamp_again}
use Rattle.im_extensions.specs.Carbons.{IsCarbon, WritesCarbon, carbon_checks, carbon_elem, is_carbon, is_sent}
use Rattle.im_extensions.specs.ForwardReadings.{carbon_read, carbon_with, forward_read, forward_with, forwarded_read}
use Rattle.im_extensions.specs.Forwarding.{Forwards, IsForwarded, WritesForwarded, forward_checks, forwarded_checks, is_forwarded, message_in, moment_of_delay, only_message, the_forwarded}
use Rattle.im_extensions.specs.declared.carbons.Carbon.{Carbon}
use Rattle.im_extensions.specs.declared.forwarding.Forwarded.{Forwarded}
use Rattle.im_mam.proofs.ResultLaws.{result_exact}
use Rattle.im_mam.specs.ArchiveAnswers.{IsMamResult, WritesMamResult, is_result, result_checks, result_elem}
use Rattle.im_mam.specs.Readings.{result_read, result_with}
use Rattle.im_mam.specs.declared.archive_answers.MamResult.{MamResult}
use Rattle.im_payload.proofs.CheckLemmas.{right_refused}
use Rattle.im_payload.proofs.FaultLemmas.{same_inside}
use Rattle.im_payload.specs.Checks.{IsFirstWrong, first_wrong}
use Rattle.im_payload.specs.Moments.{IsStampOf, moment_in}
use Rattle.im_payload.specs.Readings.{or_bad, where_this}
use Rattle.im_payload.specs.Shapes.{attr_or_empty}
use Rattle.im_payload.specs.declared.fault.ExtFault.{ExtFault}
use Rattle.im_payload.specs.declared.fault.ExtFault.TheVariants.{NotThis, Bad, NoMemory}
use Rattle.im_payload.specs.declared.fault.Field.TheVariants as field
use Rattle.law_payloads.proofs.Judged.{Fits, answers, by_checks}
use Rattle.law_payloads.specs.Answers.{IsAnswer}
use Rattle.law_payloads.specs.AsRead.{carbon_as_read, forwarded_as_read, last_moment, result_as_read}
use Rattle.im_stamp.specs.Stamps.{IsWritten}
use Rattle.im_stanza.specs.Stanzas.{attr_named}
use Rattle.im_stanza.specs.Views.{MessageView}
use Rattle.xml_trees.proofs.TidyLaws.{tidied_nodes_stay}
use Rattle.xml_trees.specs.Trees.{AreTidy, Elem}

-- ---- what is forwarded in an element

forward_fits : (absent : Option ℕ) (e : Elem) (stamp : Option ℕ) (message : Option MessageView) → moment_of_delay absent e ≡ stamp → message_in e ≡ message
    → Fits true (IsFirstWrong (forward_checks absent e)) (Forwards absent e) (forward_with stamp (or_bad field.Stanza message))
forward_fits absent e None message at is = (refl, λ i. first_wrong ((is_some (at i), field.Stamp) ∷ (is_some (message_in e), field.Stanza) ∷ []))
forward_fits absent e (Some stamp) None at is = (refl, λ i. first_wrong ((is_some (at i), field.Stamp) ∷ (is_some (is i), field.Stanza) ∷ []))
forward_fits absent e (Some stamp) (Some message) at is = record { stamp = at; message = is }

inside_fits : (absent : Option ℕ) (e : Elem) → Fits true (IsFirstWrong (forward_checks absent e)) (Forwards absent e) (forward_read absent e)
inside_fits absent e = forward_fits absent e (moment_of_delay absent e) (message_in e) refl refl

pub inside_answers : (absent : Option ℕ) (e : Elem) → IsAnswer (forward_read absent e) true (IsFirstWrong (forward_checks absent e)) (Forwards absent e)
inside_answers absent e =
    answers true (IsFirstWrong (forward_checks absent e)) (Forwards absent e) (forwards_one absent e)
    (λ v fault is. right_refused true (forward_checks absent e) fault refl (forwards_right absent e v is)) (λ f g a b. same_inside f g (sym a ∙ b))
    (forward_read absent e) (inside_fits absent e)

-- ---- `forwarded`

forwarded_fits : (e : Elem) (b : Bool) (r : Result Forwarded ExtFault) → is_forwarded e ≡ b → Fits true (IsFirstWrong (forward_checks None e)) (Forwards None e) r
    → Fits b (IsFirstWrong (forwarded_checks e)) (IsForwarded e) (where_this b r)
forwarded_fits e false r named fits = refl
forwarded_fits e true (Ok v) named fits = record { named = named; inside = fits }
forwarded_fits e true (Err NotThis) named fits = fits
forwarded_fits e true (Err (Bad f)) named fits = fits
forwarded_fits e true (Err NoMemory) named fits = fits

pub forwarded_answers : (e : Elem) → IsAnswer (forwarded_read e) (is_forwarded e) (IsFirstWrong (forwarded_checks e)) (IsForwarded e)
forwarded_answers e = by_checks forwarded_exact e (forwarded_read e) (forwarded_fits e (is_forwarded e) (forward_read None e) refl (inside_fits None e))

-- ---- carbons

carbon_fits : (e : Elem) (b : Bool) (r : Result Forwarded ExtFault) → is_carbon e ≡ b → Fits true (IsFirstWrong (carbon_checks e)) (Forwards (Some 0) (the_forwarded e)) r
    → Fits b (IsFirstWrong (carbon_checks e)) (IsCarbon e) (where_this b (carbon_with (is_sent e) r))
carbon_fits e false r named fits = refl
carbon_fits e true (Ok v) named fits = record { named = named; sent = refl; inside = fits }
carbon_fits e true (Err NotThis) named fits = fits
carbon_fits e true (Err (Bad f)) named fits = fits
carbon_fits e true (Err NoMemory) named fits = fits

pub carbon_answers : (e : Elem) → IsAnswer (carbon_read e) (is_carbon e) (IsFirstWrong (carbon_checks e)) (IsCarbon e)
carbon_answers e = by_checks carbon_exact e (carbon_read e) (carbon_fits e (is_carbon e) (forward_read (Some 0) (the_forwarded e)) refl (inside_fits (Some 0) (the_forwarded e)))

-- ---- what an archive answers

result_fits : (e : Elem) (b : Bool) (id : Option (List ℕ)) (r : Result Forwarded ExtFault) → is_result e ≡ b → attr_named (codes "id") e ≡ id
    → Fits true (IsFirstWrong (forward_checks None (the_forwarded e))) (Forwards None (the_forwarded e)) r
    → Fits b (IsFirstWrong (result_checks e)) (IsMamResult e) (where_this b (result_with (attr_or_empty (codes "queryid") e) id r))
result_fits e false id r named is fits = refl
result_fits e true None r named is fits = (refl, λ i. first_wrong ((is_some (is i), field.Id) ∷ forward_checks None (the_forwarded e)))
result_fits e true (Some id) (Ok v) named is fits = record { named = named; queryid = refl; id = is; inside = fits }
result_fits e true (Some id) (Err NotThis) named is fits = fits
result_fits e true (Some id) (Err (Bad f)) named is fits = (refl, (λ i. first_wrong ((is_some (is i), field.Id) ∷ forward_checks None (the_forwarded e))) ∙ fits.1)
result_fits e true (Some id) (Err NoMemory) named is fits = fits

pub result_answers : (e : Elem) → IsAnswer (result_read e) (is_result e) (IsFirstWrong (result_checks e)) (IsMamResult e)
result_answers e = by_checks result_exact e (result_read e) (result_fits e (is_result e) (attr_named (codes "id") e) (forward_read None (the_forwarded e)) refl refl (inside_fits None (the_forwarded e)))

-- ---- what is written

stamp_read : (ms : ℕ) (text : List ℕ) → IsStampOf ms text → moment_in (Some text) ≡ Some (min ms last_moment)
stamp_read ms text spelled =
    let low : min ms last_moment ≤ last_moment = omega arith in
    let least : min ms last_moment ≡ min (min ms last_moment) last_moment = omega arith in
    stamp_again (min ms last_moment) text low (subst (λ n. IsWritten n text) least spelled)

forward_written : (absent : Option ℕ) (v : Forwarded) (e : Elem) → WritesForwarded v e → forward_read absent e ≡ Ok (forwarded_as_read v)
forward_written absent v e w =
    ap (forward_read absent) w.shape
    ∙ (λ i. forward_with (stamp_read v.stamp w.stamp w.spelled i) (or_bad field.Stanza (only_message (w.read i))))

pub forwarded_written : (v : Forwarded) (e : Elem) → WritesForwarded v e → forwarded_read e ≡ Ok (forwarded_as_read v)
forwarded_written v e w = rw (ap is_forwarded w.shape) (forward_written None v e w)

carbon_again : (sent : Bool) (f : Elem) (v : Forwarded) → is_forwarded f ≡ true → forward_read (Some 0) f ≡ Ok v → carbon_read (carbon_elem sent f) ≡ Ok (record { sent = sent; forwarded = v })
carbon_again true f v named is = rw named (ap (carbon_with true) is)
carbon_again false f v named is = rw named (ap (carbon_with false) is)

pub carbon_written : (v : Carbon) (e : Elem) → WritesCarbon v e → carbon_read e ≡ Ok (carbon_as_read v)
carbon_written v e w =
    ap carbon_read w.shape
    ∙ carbon_again v.sent w.forwarded (forwarded_as_read v.forwarded) (ap is_forwarded w.forwarded_is.shape) (forward_written (Some 0) v.forwarded w.forwarded w.forwarded_is)

result_again : (queryid id : List ℕ) (f : Elem) (v : Forwarded) → is_forwarded f ≡ true → forward_read None f ≡ Ok v
    → result_read (result_elem queryid id f) ≡ Ok (record { queryid = queryid; id = id; forwarded = v })
result_again [] id f v named is = rw named (ap (result_with [] (Some id)) is)
result_again (c ∷ cs) id f v named is = rw named (ap (result_with (c ∷ cs) (Some id)) is)

pub result_written : (v : MamResult) (e : Elem) → WritesMamResult v e → result_read e ≡ Ok (result_as_read v)
result_written v e w =
    ap result_read w.shape
    ∙ result_again v.queryid v.id w.forwarded (forwarded_as_read v.forwarded) (ap is_forwarded w.forwarded_is.shape) (forward_written None v.forwarded w.forwarded w.forwarded_is)

pub forwarded_stays : (v : Forwarded) → v.stamp ≤ last_moment → AreTidy v.message.payload → forwarded_as_read v ≡ v
forwarded_stays v low tidy =
    let least : min v.stamp last_moment ≡ v.stamp = omega (arith, low) in
    λ i. record { stamp = least i; message = record v.message { payload = tidied_nodes_stay v.message.payload tidy i } }
