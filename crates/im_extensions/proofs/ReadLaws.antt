-- What readers answer as functions, by the relations of elements and values.
use Rattle.std.proofs.Common.{◌≡◌, ◌↔◌, ℕ, Bool, true, false, if◌then◌else◌, Option, Some, None, Result, Ok, Err, codes, refl, sym, ap, subst}
use Rattle.im_extensions.proofs.RequestLaws.{two_names}
use Rattle.im_extensions.specs.Requests.{IsCarbonsSwitch, switch_name, switch_read}
use Rattle.im_extensions.specs.StreamManagement.{IsAck, IsEnable, ack_read, ack_with, count_of, enable_read, is_management}
use Rattle.im_extensions.specs.declared.requests.CarbonsSwitch.{CarbonsSwitch}
use Rattle.im_extensions.specs.declared.stream_management.Ack.{Ack}
use Rattle.im_extensions.specs.declared.stream_management.Enable.{Enable}
use Rattle.im_payload.specs.Names.{carbons}
use Rattle.im_payload.specs.Shapes.{flag}
use Rattle.im_payload.specs.declared.fault.ExtFault.{ExtFault}
use Rattle.im_payload.specs.declared.fault.ExtFault.TheVariants.{NotThis}
use Rattle.im_stanza.specs.Stanzas.{attr_named}
use Rattle.xml_trees.specs.Readers.{is_named}
use Rattle.xml_trees.specs.Trees.{Elem}

where_ok : {V : Type 0} (b : Bool) (r : Result V ExtFault) (v : V) → (if b then r else Err NotThis) ≡ Ok v → (b ≡ true) × (r ≡ Ok v)
where_ok true r v is = (refl, is)
where_ok false r v is = absurd (let p = is in cc)

enable_from : (e : Elem) (v : Enable) → enable_read e ≡ Ok v → IsEnable e v
enable_from e v is =
    let w = where_ok (is_management (codes "enable") e) (Ok (record { resume = flag (attr_named (codes "resume") e) })) v is in
    let same : record { resume = flag (attr_named (codes "resume") e) } ≡ v = let p = w.1 in cc in
    record { named = w.0; resume = ap (λ (x : Enable). x.resume) (sym same) }

enable_to : (e : Elem) (v : Enable) → IsEnable e v → enable_read e ≡ Ok v
enable_to e v is = rw is.named (λ i. Ok (record { resume = sym is.resume i }))

pub enable_law : (e : Elem) (v : Enable) → (enable_read e ≡ Ok v) ↔ IsEnable e v
enable_law e v = (enable_from e v, enable_to e v)

ack_ok : (o : Option ℕ) (v : Ack) → ack_with o ≡ Ok v → o ≡ Some v.h
ack_ok None v is = absurd (let p = is in cc)
ack_ok (Some h) v is = let same : record { h = h } ≡ v = cc in ap (λ (x : Ack). Some x.h) same

ack_from : (e : Elem) (v : Ack) → ack_read e ≡ Ok v → IsAck e v
ack_from e v is = let w = where_ok (is_management (codes "a") e) (ack_with (count_of e)) v is in record { named = w.0; h = ack_ok (count_of e) v w.1 }

ack_to : (e : Elem) (v : Ack) → IsAck e v → ack_read e ≡ Ok v
ack_to e v is = rw is.named (ap ack_with is.h)

pub ack_law : (e : Elem) (v : Ack) → (ack_read e ≡ Ok v) ↔ IsAck e v
ack_law e v = (ack_from e v, ack_to e v)

abbrev switch_of : (on off : Bool) → Result CarbonsSwitch ExtFault
switch_of on off = if on then Ok (record { on = true }) else (if off then Ok (record { on = false }) else Err NotThis)

switch_from : (e : Elem) (v : CarbonsSwitch) (on off : Bool) → is_named carbons (codes "enable") e ≡ on → is_named carbons (codes "disable") e ≡ off → switch_of on off ≡ Ok v → IsCarbonsSwitch e v
switch_from e v true off is_on is_off is = let same : record { on = true } ≡ v = let p = is in cc in subst (IsCarbonsSwitch e) same is_on
switch_from e v false true is_on is_off is = let same : record { on = false } ≡ v = let p = is in cc in subst (IsCarbonsSwitch e) same is_off
switch_from e v false false is_on is_off is = absurd (let p = is in cc)

neither : (e : Elem) (on : Bool) → is_named carbons (codes "enable") e ≡ on → is_named carbons (codes "disable") e ≡ true → on ≡ false
neither e true is_on is_off = absurd (two_names e is_on is_off)
neither e false is_on is_off = refl

switch_to : (e : Elem) (on : Bool) → is_named carbons (switch_name on) e ≡ true → switch_read e ≡ Ok (record { on = on })
switch_to e true is = rw is refl
switch_to e false is = let no = neither e (is_named carbons (codes "enable") e) refl is in rw (no, is) refl

pub switch_law : (e : Elem) (v : CarbonsSwitch) → (switch_read e ≡ Ok v) ↔ IsCarbonsSwitch e v
switch_law e v = (switch_from e v (is_named carbons (codes "enable") e) (is_named carbons (codes "disable") e) refl refl, switch_to e v.on)
