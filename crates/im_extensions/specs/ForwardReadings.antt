-- What the readers of forwarded messages answer, as functions of the element.
use Rattle.std.specs.Prelude.{ℕ, Bool, Option, Some, None, Result, Ok, Err}
use Rattle.im_extensions.specs.Carbons.{is_carbon, is_sent}
use Rattle.im_extensions.specs.Forwarding.{is_forwarded, message_in, moment_of_delay, the_forwarded}
use Rattle.im_extensions.specs.declared.carbons.Carbon.{Carbon}
use Rattle.im_extensions.specs.declared.forwarding.Forwarded.{Forwarded}
use Rattle.im_payload.specs.Readings.{or_bad, where_this}
use Rattle.im_payload.specs.declared.fault.ExtFault.{ExtFault}
use Rattle.im_payload.specs.declared.fault.ExtFault.TheVariants.{Bad}
use Rattle.im_payload.specs.declared.fault.Field.TheVariants as field
use Rattle.im_stanza.specs.Views.{MessageView}
use Rattle.xml_trees.specs.Trees.{Elem}

-- the delay is judged before the message
abbrev pub forward_with : Option ℕ → Result MessageView ExtFault → Result Forwarded ExtFault
forward_with None message = Err (Bad field.Stamp)
forward_with (Some stamp) (Err fault) = Err fault
forward_with (Some stamp) (Ok message) = Ok (record { stamp = stamp; message = message })

-- what is forwarded in an element; `absent` is the moment where there is no delay
abbrev pub forward_read : Option ℕ → Elem → Result Forwarded ExtFault
forward_read absent e = forward_with (moment_of_delay absent e) (or_bad field.Stanza (message_in e))

abbrev pub forwarded_read : Elem → Result Forwarded ExtFault
forwarded_read e = where_this (is_forwarded e) (forward_read None e)

-- carbons
abbrev pub carbon_with : Bool → Result Forwarded ExtFault → Result Carbon ExtFault
carbon_with sent (Err fault) = Err fault
carbon_with sent (Ok forwarded) = Ok (record { sent = sent; forwarded = forwarded })

abbrev pub carbon_read : Elem → Result Carbon ExtFault
carbon_read e = where_this (is_carbon e) (carbon_with (is_sent e) (forward_read (Some 0) (the_forwarded e)))
