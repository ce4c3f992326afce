-- A forwarded message is read as it was written, with its moment, or the last that has a stamp.
use Rattle.std.proofs.Common.{◌≡◌, ℕ, ◌≤◌, ◌/◌, ◌%◌, min, Bool, true, false, Option, Some, Ok, sym, ap, subst, ◌∙◌, arith}
use Rattle.im_extensions.proofs.ForwardingLaws.{stamp_again}
use Rattle.im_extensions.specs.Carbons.{carbon_elem}
use Rattle.im_extensions.specs.ForwardReadings.{carbon_read, carbon_with, forward_read, forward_with}
use Rattle.im_extensions.specs.Forwarding.{forwarded_elem, only_message}
use Rattle.im_payload.specs.Moments.{IsStampOf, moment_in}
use Rattle.im_payload.specs.Readings.{or_bad}
use Rattle.im_payload.specs.declared.fault.Field.TheVariants as field
use Rattle.law_payloads.specs.AsRead.{last_moment}
use Rattle.im_stamp.proofs.Dates.{stamp_at_is_written}
use Rattle.im_stamp.specs.Dates.{date_of, stamp_at, stamp_on}
use Rattle.im_stamp.specs.Stamps.{IsWritten}
use Rattle.im_stanza.specs.Views.{MessageView}
use Rattle.im_stanza.specs.Written.{IsNormal, message_elem}
use Rattle.sim_5_devices.proofs.Stanzas.{message_read}

pub moment_read : (ms : ℕ) → moment_in (Some (stamp_at ms)) ≡ Some (min ms last_moment)
moment_read ms =
    let low : min ms last_moment ≤ last_moment = omega arith in
    let least : min (min ms last_moment) last_moment ≡ min ms last_moment = omega arith in
    let same : stamp_at (min ms last_moment) ≡ stamp_at ms = ap (λ n. stamp_on (date_of (n / 86400000)) (n % 86400000)) least in
    let written : IsStampOf (min ms last_moment) (stamp_at (min ms last_moment)) =
    subst (λ n. IsWritten n (stamp_at (min ms last_moment))) (sym least) (stamp_at_is_written (min ms last_moment) low) in
    ap (λ t. moment_in (Some t)) (sym same) ∙ stamp_again (min ms last_moment) (stamp_at (min ms last_moment)) low written

module _ (ms : ℕ) (m : MessageView) (from : IsNormal m.from) (to : IsNormal m.to) where
  pub forward_again : (absent : Option ℕ) → forward_read absent (forwarded_elem (stamp_at ms) (message_elem m)) ≡ Ok (record { stamp = min ms last_moment; message = m })
  forward_again absent = λ i. forward_with (moment_read ms i) (or_bad field.Stanza (only_message (message_read m from to i)))

  pub carbon_again : (sent : Bool) → carbon_read (carbon_elem sent (forwarded_elem (stamp_at ms) (message_elem m))) ≡ Ok (record { sent = sent; forwarded = record { stamp = min ms last_moment; message = m } })
  carbon_again true = ap (carbon_with true) (forward_again (Some 0))
  carbon_again false = ap (carbon_with false) (forward_again (Some 0))
