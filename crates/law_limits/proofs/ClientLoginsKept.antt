-- The rows of a login keep to the bounds.
use Rattle.std.proofs.Common.{◌≡◌, ℕ, ◌≤◌, ◌&&◌, Bool, true, false, List, [], take, length, codes, Option, Some, None, IfSome, Result, Ok, Err, refl, arith, if◌then◌else◌, length-take}
use Rattle.std.proofs.lemmas.Bool.{and_parts}
use Rattle.std.specs.List.{list_all}
use Rattle.std.specs.Prelude.{nat_lt}
use Rattle.law_limits.proofs.Messages.{drawn_bytes, drawn_short, first_short, reply_short}
use Rattle.law_limits.proofs.TurnsKept.{ends_within, goes_within, put_within, puts_within}
use Rattle.law_limits.specs.Answerable.{IsAnswerable}
use Rattle.law_limits.specs.Within.{IsClientStepWithin, IsLoginWithin, IsNonceWithin, IsPhaseWithin}
use Rattle.cl_login.specs.LoginRows as rows
use Rattle.cl_login.specs.Puts.{Row}
use Rattle.cl_login.specs.declared.account.ClientAccount.{ClientAccount}
use Rattle.cl_login.specs.declared.answers.Next.{Next}
use Rattle.cl_login.specs.declared.answers.Next.TheVariants as next
use Rattle.cl_login.specs.declared.login_state.LoginState.{LoginState}
use Rattle.cl_login.specs.declared.login_state.LoginState.TheVariants as state
use Rattle.cl_handlers.specs.Clients.{ClientStep}
use Rattle.cl_handlers.specs.LoginSteps.{follows, goes_on, header_row, login_row, other_element}
use Rattle.cl_handlers.specs.Speech.{in_items, uttered_where}
use Rattle.cl_handlers.specs.ClientSteps.{puts}
use Rattle.cl_handlers.specs.declared.phase.Phase.{Phase}
use Rattle.cl_handlers.specs.declared.phase.Phase.TheVariants as phase
use Rattle.im_login.specs.Features.{features_read}
use Rattle.im_login.specs.declared.features.Features.{Features}
use Rattle.xml_framer.specs.Limits.{server_limits}
use Rattle.im_payload.specs.declared.fault.ExtFault.{ExtFault}
use Rattle.law_limits.proofs.Fitted as fitted
use Rattle.law_limits.specs.Bounds.{IsTextWithin, most_id, most_part}
use Rattle.im_login.specs.Readings.{carrier_read}
use Rattle.auth_scram.specs.Exchange.{ClientView, ReplyView, adds_to, base64_of, begun_client, check_of, client_auth, client_final_without_proof, client_first_message, is_count_taken, is_plain, is_printable_ascii, replied, reply_to, then_judge}
use Rattle.auth_scram.specs.Messages.{ServerFirstView, server_first_of}
use Rattle.auth_scram.specs.declared.fault.ScramFault.{ScramFault}
use Rattle.auth_scram.specs.declared.fault.ScramFault.TheVariants.{BadName, Iterations}
use Rattle.auth_primitives.specs.Hashes.{client_key, salted_password, stored_key}
use Rattle.xml_trees.specs.Trees.{Elem}
use Rattle.xml_writer.specs.Items.{ItemOut}
use Rattle.law_xml.specs.Puts.{OutFits}

-- ---- what comes of an item

abbrev pub IsNextWithin : Next → Type 0
IsNextWithin (next.Goes s) = IsLoginWithin s
IsNextWithin next.LoggedIn = Unit {0}
IsNextWithin (next.Ends why) = Unit {0}

pub record IsRowWithin (row : Row) : Type 0 where
  pub put : IfSome row.put (OutFits server_limits)
  pub goes : IsNextWithin row.next

row_either : (c : Bool) (x y : Row) → IsRowWithin x → IsRowWithin y → IsRowWithin (if c then x else y)
row_either true x y here there = here
row_either false x y here there = there

other_within : (e : Elem) → IsRowWithin (rows.other_row e)
other_within e = record { put = tt; goes = tt }

-- ---- the first features

plain_name : (name password : List ℕ) → (is_plain name && is_plain password) ≡ true → list_all is_printable_ascii name ≡ true
plain_name name password h = (and_parts (nat_lt 0 (length name)) (list_all is_printable_ascii name) (and_parts (is_plain name) (is_plain password) h).0).1

begun_within : (name password nonce : List ℕ) → length name ≤ most_part → IsNonceWithin nonce → IsRowWithin (rows.begun (begun_client name password nonce))
begun_within name password nonce short within = by_case (is_plain name && is_plain password) refl
  where
    by_case : (c : Bool) → (is_plain name && is_plain password) ≡ c
        → IsRowWithin (rows.begun (if c then Ok (record { password = password; nonce = nonce; message = client_first_message name nonce; expected = None }) else Err BadName))
    by_case true is = let m = first_short name nonce (plain_name name password is) short within.bytes within.short in record { put = fitted.auth (client_first_message name nonce) m.bytes m.short; goes = tt }
    by_case false is = record { put = tt; goes = tt }

offered_within : (a : ClientAccount) (nonce : List ℕ) (e : Elem) (read : Result Features ExtFault) → length a.name ≤ most_part → IsNonceWithin nonce → IsRowWithin (rows.offered a nonce e read)
offered_within a nonce e (Ok features) short within = row_either features.scram_sha_256 _ _ (begun_within a.name a.password nonce short within) (record { put = tt; goes = tt })
offered_within a nonce e (Err why) short within = other_within e

-- ---- the challenge

replied_either : (exchange : ClientView) (c : Bool) (x y : Result ReplyView ScramFault) → IsRowWithin (rows.replied exchange x) → IsRowWithin (rows.replied exchange y) → IsRowWithin (rows.replied exchange (if c then x else y))
replied_either exchange true x y here there = here
replied_either exchange false x y here there = there

replied_within : (exchange : ClientView) (payload : List ℕ) (r : Result ServerFirstView ScramFault) → server_first_of payload ≡ r → length payload ≤ most_id
    → IsRowWithin (rows.replied exchange (then_judge (λ m. reply_to exchange payload m.nonce m.salt m.count) r))
replied_within exchange payload (Ok m) is short =
    let salted = salted_password exchange.password m.salt m.count in
    let auth = client_auth exchange payload m.nonce in
    let message = reply_short payload m salted auth (stored_key (client_key salted)) is short in
    replied_either exchange (adds_to exchange.nonce m.nonce) _ _
    (replied_either exchange (is_count_taken m.count) (Ok (replied (client_final_without_proof m.nonce) salted auth)) (Err (Iterations m.count))
    (record { put = fitted.response (replied (client_final_without_proof m.nonce) salted auth).message message.bytes message.short; goes = tt }) (record { put = tt; goes = tt }))
    (record { put = tt; goes = tt })
replied_within exchange payload (Err why) is short = record { put = tt; goes = tt }

challenged_within : (exchange : ClientView) (e : Elem) (read : Result (List ℕ) ExtFault) → ((payload : List ℕ) → read ≡ Ok payload → length payload ≤ most_id) → IsRowWithin (rows.challenged exchange e read)
challenged_within exchange e (Ok payload) short = replied_within exchange payload (server_first_of payload) refl (short payload refl)
challenged_within exchange e (Err why) short = other_within e

-- ---- the success

checked_within : (domain : List ℕ) (r : Result (Unit {0}) ScramFault) → IsTextWithin most_part domain → IsRowWithin (rows.checked domain r)
checked_within domain (Ok x) h = record { put = fitted.header domain h; goes = tt }
checked_within domain (Err why) h = record { put = tt; goes = tt }

succeeded_within : (domain : List ℕ) (exchange : ClientView) (e : Elem) (read : Result (List ℕ) ExtFault) → IsTextWithin most_part domain → IsRowWithin (rows.succeeded domain exchange e read)
succeeded_within domain exchange e (Ok payload) h = checked_within domain (check_of exchange payload) h
succeeded_within domain exchange e (Err why) h = other_within e

-- ---- each state

element_within : (a : ClientAccount) (s : LoginState) (e : Elem) → IsTextWithin most_part a.domain → length a.name ≤ most_part → IsLoginWithin s → IsAnswerable e → IsRowWithin (rows.element_row a s e)
element_within a (state.Header1 nonce) e domain name at h = other_within e
element_within a (state.Features1 nonce) e domain name at h = offered_within a nonce e (features_read e) name at
element_within a (state.Authing exchange) e domain name at h = challenged_within exchange e (carrier_read (codes "challenge") e) h.challenge
element_within a (state.Responding exchange) e domain name at h = succeeded_within a.domain exchange e (carrier_read (codes "success") e) domain
element_within a state.Header2 e domain name at h = other_within e

headed_within : (s : LoginState) → IsLoginWithin s → IsRowWithin (rows.header_row s)
headed_within (state.Header1 nonce) at = record { put = tt; goes = at }
headed_within (state.Features1 nonce) at = record { put = tt; goes = tt }
headed_within (state.Authing exchange) at = record { put = tt; goes = tt }
headed_within (state.Responding exchange) at = record { put = tt; goes = tt }
headed_within state.Header2 at = record { put = tt; goes = tt }

begins_within : (domain entropy : List ℕ) → IsTextWithin most_part domain → IsRowWithin (rows.begin_row domain entropy)
unfolding base64_of
begins_within domain entropy h =
    let drawn = take 18 entropy in
    record { put = fitted.header domain h; goes = record { bytes = drawn_bytes drawn; short = drawn_short drawn (omega (arith, length-take 18 entropy)) } }

-- ---- turns

where_within : (t : ClientStep ItemOut ItemOut) (o : Option ItemOut) → IsClientStepWithin t → IfSome o (OutFits server_limits) → IsClientStepWithin (puts t (uttered_where in_items o))
where_within t None h fit = puts_within t [] h tt
where_within t (Some item) h fit = put_within t item h fit

went_within : (t : ClientStep ItemOut ItemOut) (n : Next) → IsClientStepWithin t → IsNextWithin n → IsClientStepWithin (goes_on t n)
went_within t (next.Goes s) h at = goes_within t (phase.Login s) h at
went_within t next.LoggedIn h at = goes_within t phase.Features2 h tt
went_within t (next.Ends why) h at = ends_within t _ h

pub followed_within : (t : ClientStep ItemOut ItemOut) (row : Row) → IsClientStepWithin t → IsRowWithin row → IsClientStepWithin (follows in_items t row)
followed_within t row h within = went_within (puts t (uttered_where in_items row.put)) row.next (where_within t row.put h within.put) within.goes

pub dialed_within : (t : ClientStep ItemOut ItemOut) (entropy : List ℕ) → IsClientStepWithin t → IsClientStepWithin (follows in_items t (rows.begin_row t.client.account.login.domain entropy))
dialed_within t entropy h = followed_within t _ h (begins_within t.client.account.login.domain entropy h.client.account.domain)

pub header_within : (t : ClientStep ItemOut ItemOut) (p : Phase) → IsClientStepWithin t → IsPhaseWithin p → IsClientStepWithin (header_row in_items t p)
header_within t phase.Apart h at = h
header_within t (phase.Login s) h at = followed_within t (rows.header_row s) h (headed_within s at)
header_within t phase.Online h at = h
header_within t phase.Features2 h at = ends_within t _ h
header_within t phase.Resuming h at = ends_within t _ h
header_within t phase.Binding h at = ends_within t _ h
header_within t phase.Enabling h at = ends_within t _ h

pub login_within : (t : ClientStep ItemOut ItemOut) (s : LoginState) (e : Elem) → IsClientStepWithin t → IsLoginWithin s → IsAnswerable e → IsClientStepWithin (login_row in_items t s e)
login_within t s e h at answerable =
    let a = h.client.account in
    followed_within t _ h (element_within t.client.account.login s e a.domain a.name at answerable)

pub other_element_within : (t : ClientStep ItemOut ItemOut) (e : Elem) → IsClientStepWithin t → IsClientStepWithin (other_element t e)
other_element_within t e h = ends_within t _ h
