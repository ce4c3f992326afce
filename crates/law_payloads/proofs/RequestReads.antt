-- Requests and resource binding are read as the grammar says, and what is written is read as it was.
use Rattle.std.proofs.Common.{◌≡◌, ◌||◌, ℕ, Bool, true, false, cond, List, [], ◌∷◌, Option, Some, None, IfSome, Result, Ok, Err, codes, refl, sym, ap, ◌∙◌, subst, append-nil, option_map}
use Rattle.std.specs.Str.{IsUtf8}
use Rattle.im_extensions.proofs.BindLaws.{bind_request_exact, bind_result_exact}
use Rattle.im_extensions.proofs.RequestLaws.{carbons_switch_exact}
use Rattle.im_extensions.specs.Bind.{BindResultLacks, IsBindRequest, IsBindResult, IsNoAddress, bind_request_elem, bind_result_elem, is_bind}
use Rattle.im_extensions.specs.Readings.{bind_request_read, bind_result_read, bound_with}
use Rattle.im_extensions.specs.Requests.{IsCarbonsSwitch, carbons_switch_elem, is_switch, switch_read}
use Rattle.im_extensions.specs.declared.bind.BindRequest.{BindRequest}
use Rattle.im_extensions.specs.declared.bind.BindResult.{BindResult}
use Rattle.im_extensions.specs.declared.requests.CarbonsSwitch.{CarbonsSwitch}
use Rattle.im_jid.proofs.NormalAgain.{normal_again}
use Rattle.im_jid.specs.Normal.{normal}
use Rattle.im_jid.specs.declared.fault.JidFault.{JidFault}
use Rattle.im_payload.specs.Faults.{LacksNothing}
use Rattle.im_payload.specs.Names.{binding, carbons}
use Rattle.im_payload.specs.Readings.{where_this}
use Rattle.im_payload.specs.Shapes.{child_text, child_text_or_empty}
use Rattle.im_payload.specs.declared.fault.ExtFault.TheVariants.{NotThis}
use Rattle.law_payloads.proofs.Judged.{Fits, answers, by_exact}
use Rattle.law_payloads.specs.Answers.{IsAnswer}
use Rattle.xml_trees.specs.Readers.{is_named}
use Rattle.xml_trees.specs.Trees.{Elem}

-- ---- the switch of carbons

switch_fits : (e : Elem) (on off : Bool) → is_named carbons (codes "enable") e ≡ on → is_named carbons (codes "disable") e ≡ off
    → Fits (on || off) LacksNothing (IsCarbonsSwitch e) (cond on (Ok (record { on = true })) (cond off (Ok (record { on = false })) (Err NotThis)))
switch_fits e true off is_on is_off = is_on
switch_fits e false true is_on is_off = is_off
switch_fits e false false is_on is_off = refl

pub switch_answers : (e : Elem) → IsAnswer (switch_read e) (is_switch e) LacksNothing (IsCarbonsSwitch e)
switch_answers e = by_exact carbons_switch_exact e (switch_read e) (switch_fits e (is_named carbons (codes "enable") e) (is_named carbons (codes "disable") e) refl refl)

switch_again : (on : Bool) → switch_read (carbons_switch_elem (record { on = on })) ≡ Ok (record { on = on })
switch_again true = refl
switch_again false = refl

pub switch_written : (v : CarbonsSwitch) → switch_read (carbons_switch_elem v) ≡ Ok v
switch_written v = switch_again v.on

-- ---- `bind` of a client

request_fits : (e : Elem) (b : Bool) → is_bind e ≡ b → Fits b LacksNothing (IsBindRequest e) (where_this b (Ok (record { resource = child_text_or_empty binding (codes "resource") e })))
request_fits e false named = refl
request_fits e true named = record { named = named; resource = refl }

pub request_answers : (e : Elem) → IsAnswer (bind_request_read e) (is_bind e) LacksNothing (IsBindRequest e)
request_answers e = by_exact bind_request_exact e (bind_request_read e) (request_fits e (is_bind e) refl)

request_again : (resource : List ℕ) → bind_request_read (bind_request_elem (record { resource = resource })) ≡ Ok (record { resource = resource })
request_again [] = refl
request_again (c ∷ cs) = ap (λ (t : List ℕ). Ok (record { resource = t })) (append-nil (c ∷ cs))

pub request_written : (v : BindRequest) → bind_request_read (bind_request_elem v) ≡ Ok v
request_written v = request_again v.resource

-- ---- `bind` of a server

address_fits : (e : Elem) (spelled : List ℕ) (r : Result (List ℕ) JidFault) → is_bind e ≡ true → child_text binding (codes "jid") e ≡ Some spelled → IsUtf8 spelled → normal spelled ≡ r
    → Fits true (BindResultLacks e) (λ (jid : List ℕ). IsBindResult e (record { jid = jid })) (bound_with (Some r))
address_fits e spelled (Err why) named is utf8 at = (refl, subst IsNoAddress (sym is) (why, at))
address_fits e spelled (Ok jid) named is utf8 at = record { named = named; spelled = spelled; there = is; jid = at; stays = normal_again spelled jid utf8 at }

result_fits : (e : Elem) (b : Bool) (given : Option (List ℕ)) → is_bind e ≡ b → child_text binding (codes "jid") e ≡ given → IfSome given IsUtf8
    → Fits b (BindResultLacks e) (λ (jid : List ℕ). IsBindResult e (record { jid = jid })) (where_this b (bound_with (option_map normal given)))
result_fits e false given named is utf8 = refl
result_fits e true None named is utf8 = (refl, subst IsNoAddress (sym is) tt)
result_fits e true (Some spelled) named is utf8 = address_fits e spelled (normal spelled) named is utf8 refl

pub result_answers : (e : Elem) → IfSome (child_text binding (codes "jid") e) IsUtf8
    → IsAnswer (bind_result_read e) (is_bind e) (BindResultLacks e) (λ (jid : List ℕ). IsBindResult e (record { jid = jid }))
result_answers e utf8 =
    answers (is_bind e) (BindResultLacks e) (λ (jid : List ℕ). IsBindResult e (record { jid = jid }))
    (λ v w a b. ap (λ (r : BindResult). r.jid) (bind_result_exact.one e (record { jid = v }) (record { jid = w }) a b))
    (λ v. bind_result_exact.refused e (record { jid = v })) (bind_result_exact.first e) (bind_result_read e)
    (result_fits e (is_bind e) (child_text binding (codes "jid") e) refl refl utf8)

jid_again : (jid : List ℕ) → child_text binding (codes "jid") (bind_result_elem (record { jid = jid })) ≡ Some jid
jid_again [] = refl
jid_again (c ∷ cs) = ap Some (append-nil (c ∷ cs))

pub result_written : (v : BindResult) → normal v.jid ≡ Ok v.jid → bind_result_read (bind_result_elem v) ≡ Ok v.jid
result_written v stays = ap (λ (given : Option (List ℕ)). bound_with (option_map normal given)) (jid_again v.jid) ∙ ap (λ (r : Result (List ℕ) JidFault). bound_with (Some r)) stays
