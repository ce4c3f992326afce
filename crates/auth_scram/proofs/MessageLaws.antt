-- What reading answers, in the grammar's words.
use Rattle.std.proofs.Common.{◌≡◌, ℕ, ◌-◌, ◌⊎◌, ◌↔◌, Bool, true, false, List, length, min, codes, Option, Some, None, Result, Ok, Err, refl, sym, ap, ◌∙◌, inl, inr, subst}
use Rattle.std.specs.Option.{option_and_then, option_map}
use Rattle.base64.specs.Engines.{standard}
use Rattle.base64.specs.GeneralPurpose.{encode_of}
use Rattle.auth_scram.specs.Grammar.{InClientFinal, InClientFirst, InServerFinal, InServerFirst, IsClientFinal, IsClientFirst, IsServerFinal, IsServerFirst}
use Rattle.auth_scram.specs.Messages.{ClientFinalParts, ClientFinalView, FirstParts, ServerFirstParts, ServerFirstView, before_proof, client_final_of, client_final_parts, client_first_of, first_of, first_parts, judged_client_final, judged_first, judged_server_final, judged_server_first, server_final_of, server_final_parts, server_first_of, server_first_parts, verifier_read}
use Rattle.auth_scram.specs.Positions.{LeavesAt, malformed}
use Rattle.auth_scram.specs.Values.{base64_bytes, hash_of, most_told, name_of, value_of}
use Rattle.auth_scram.specs.declared.binding_flag.BindingFlag.{BindingFlag}
use Rattle.auth_scram.specs.declared.client_first.ClientFirst.{ClientFirst}
use Rattle.auth_scram.specs.declared.fault.ScramFault.{ScramFault}
use Rattle.auth_scram.specs.declared.fault.ScramFault.TheVariants.{Authzid, Malformed, Plus}
use Rattle.auth_scram.proofs.Base64.{bytes_again}
use Rattle.auth_scram.proofs.Headers.{Headed, IsFirst, first_from, first_reads, first_to}
use Rattle.auth_scram.proofs.LeavingPositions.{position, position_read}
use Rattle.auth_scram.proofs.NameRuns.{name_is}
use Rattle.auth_scram.proofs.OtherMessages.{Bound, FinalSaid, Says, ServerRest, before_is, client_final_reads, final_from, final_to, server_final_from, server_final_reads, server_final_to, server_first_reads, server_from, server_to}
use Rattle.auth_scram.proofs.Runs.{result_cases}
use Rattle.auth_scram.proofs.Sequences.{After}
use Rattle.base_lemmas.proofs.Conditions.{chosen}

position_is : (a b : ℕ) → Malformed a ≡ Malformed b → a ≡ b
position_is a b h = cc h

-- ---- the client's first message

abbrev first_record : BindingFlag → FirstParts → ClientFirst
first_record flag parts = record { flag = flag; name = name_of parts.name; nonce = parts.nonce; bare = parts.bare }

first_ok : (flag : Option BindingFlag) (parts : FirstParts) (c : ClientFirst) → first_of flag parts ≡ Ok c
    → (f : BindingFlag) × (flag ≡ Some f) × (parts.authorizes ≡ false) × (c ≡ first_record f parts)
first_ok None parts c h = cc h
first_ok (Some f) parts c h =
    elim (chosen parts.authorizes (Err Authzid) (Ok (first_record f parts)) (Ok c) h) [
      | inl p ↦ cc p.1
      | inr q ↦ (f, refl, q.0, cc q.1)
    ]

first_err : (flag : Option BindingFlag) (parts : FirstParts) (e : ScramFault) → first_of flag parts ≡ Err e
    → ((flag ≡ None) × (e ≡ Plus)) ⊎ ((f : BindingFlag) × (flag ≡ Some f) × (parts.authorizes ≡ true) × (e ≡ Authzid))
first_err None parts e h = inl (refl, cc h)
first_err (Some f) parts e h =
    elim (chosen parts.authorizes (Err Authzid) (Ok (first_record f parts)) (Err e) h) [
      | inl p ↦ inr (f, refl, p.0, cc p.1)
      | inr q ↦ cc q.1
    ]

judged_ok : (bytes : List ℕ) (r : Result FirstParts (List ℕ)) (parts : FirstParts) → r ≡ Ok parts → judged_first bytes r ≡ first_of parts.flag parts
judged_ok bytes r parts h = rw h refl

judged_err : (bytes : List ℕ) (r : Result FirstParts (List ℕ)) (rest : List ℕ) → r ≡ Err rest → judged_first bytes r ≡ Err (malformed bytes rest)
judged_err bytes r rest h = rw h refl

-- what was read, and what it says
first_said : (bytes : List ℕ) (parts : FirstParts) → first_parts bytes ≡ Ok parts → IsFirst parts bytes
first_said bytes parts h = first_to parts bytes (first_reads.found bytes parts h)

pub first_found : (bytes : List ℕ) (c : ClientFirst) → client_first_of bytes ≡ Ok c → IsClientFirst (Some c.flag) false c.name c.nonce c.bare bytes
first_found bytes c h =
    elim (result_cases (first_parts bytes)) [
      | inl ok ↦
          let parts = ok.0 in
          let told = first_ok parts.flag parts c (sym (judged_ok bytes (first_parts bytes) parts ok.1) ∙ h) in
          let is = first_said bytes parts ok.1 in
          rw (told.3, name_is is.name parts.name is.named, ← told.1, ← told.2) is.message
      | inr err ↦ cc (sym (judged_err bytes (first_parts bytes) err.0 err.1) ∙ h)
    ]

first_told : (flag : Option BindingFlag) (authorizes : Bool) (name nonce bare bytes : List ℕ) → IsClientFirst flag authorizes name nonce bare bytes
    → (parts : FirstParts) × (client_first_of bytes ≡ first_of flag parts) × (parts.authorizes ≡ authorizes) × (name_of parts.name ≡ name) × (parts.nonce ≡ nonce) × (parts.bare ≡ bare)
first_told flag authorizes name nonce bare bytes is =
    let from = first_from flag authorizes name nonce bare bytes is in
    let parts : FirstParts = record { flag = flag; authorizes = authorizes; name = from.0; nonce = nonce; bare = bare } in
    (parts, judged_ok bytes (first_parts bytes) parts (first_reads.only parts bytes from.2), refl, name_is name from.0 from.1, refl, refl)

pub first_only : (flag : BindingFlag) (name nonce bare bytes : List ℕ) → IsClientFirst (Some flag) false name nonce bare bytes
    → client_first_of bytes ≡ Ok (record { flag = flag; name = name; nonce = nonce; bare = bare })
first_only flag name nonce bare bytes is =
    let told = first_told (Some flag) false name nonce bare bytes is in
    told.1 ∙ rw (told.2, told.3, told.4, told.5) refl

pub first_plus : (bytes : List ℕ)
    → (client_first_of bytes ≡ Err Plus) ↔ ((authorizes : Bool) × (name : List ℕ) × (nonce : List ℕ) × (bare : List ℕ) × IsClientFirst None authorizes name nonce bare bytes)
first_plus bytes = (
  λ h. elim (result_cases (first_parts bytes)) [
    | inl ok ↦
        let parts = ok.0 in
        let is = first_said bytes parts ok.1 in
        elim (first_err parts.flag parts Plus (sym (judged_ok bytes (first_parts bytes) parts ok.1) ∙ h)) [
          | inl p ↦ (parts.authorizes, is.name, parts.nonce, parts.bare, rw (← p.0) is.message)
          | inr q ↦ cc q.3
        ]
    | inr err ↦ cc (sym (judged_err bytes (first_parts bytes) err.0 err.1) ∙ h)
  ],
  λ w. (first_told None w.0 w.1 w.2 w.3 bytes w.4).1,
)

pub first_authzid : (bytes : List ℕ)
    → (client_first_of bytes ≡ Err Authzid) ↔ ((flag : BindingFlag) × (name : List ℕ) × (nonce : List ℕ) × (bare : List ℕ) × IsClientFirst (Some flag) true name nonce bare bytes)
first_authzid bytes = (
  λ h. elim (result_cases (first_parts bytes)) [
    | inl ok ↦
        let parts = ok.0 in
        let is = first_said bytes parts ok.1 in
        elim (first_err parts.flag parts Authzid (sym (judged_ok bytes (first_parts bytes) parts ok.1) ∙ h)) [
          | inl p ↦ cc p.1
          | inr q ↦ (q.0, is.name, parts.nonce, parts.bare, rw (← q.1, ← q.2) is.message)
        ]
    | inr err ↦ cc (sym (judged_err bytes (first_parts bytes) err.0 err.1) ∙ h)
  ],
  λ w. (let told = first_told (Some w.0) true w.1 w.2 w.3 bytes w.4 in told.1 ∙ rw told.2 refl),
)

in_first : (parts : FirstParts) (bytes : List ℕ) → Headed parts bytes → InClientFirst bytes
in_first parts bytes w = let is = first_to parts bytes w in (parts.flag, parts.authorizes, is.name, parts.nonce, parts.bare, is.message)

of_first : (bytes : List ℕ) → InClientFirst bytes → (parts : FirstParts) × Headed parts bytes
of_first bytes w =
    let from = first_from w.0 w.1 w.2 w.3 w.4 bytes w.5 in
    (record { flag = w.0; authorizes = w.1; name = from.0; nonce = w.3; bare = w.4 }, from.2)

pub first_position : (bytes : List ℕ) (at : ℕ) → (client_first_of bytes ≡ Err (Malformed at)) ↔ LeavesAt InClientFirst bytes at
first_position bytes at = (
  λ h. elim (result_cases (first_parts bytes)) [
    | inl ok ↦
        let parts = ok.0 in
        elim (first_err parts.flag parts (Malformed at) (sym (judged_ok bytes (first_parts bytes) parts ok.1) ∙ h)) [
          | inl p ↦ cc p.1
          | inr q ↦ cc q.3
        ]
    | inr err ↦
        let same : Err (malformed bytes err.0) ≡ Err (Malformed at) = sym (judged_err bytes (first_parts bytes) err.0 err.1) ∙ h in
        let n = position_is (length bytes - length err.0) at cc in
        subst (LeavesAt InClientFirst bytes) n (position first_parts Headed first_reads InClientFirst in_first of_first bytes err.0 err.1)
  ],
  λ leaves. (let read = position_read first_parts Headed first_reads InClientFirst in_first of_first bytes at leaves in
      judged_err bytes (first_parts bytes) read.0 read.1 ∙ ap (λ (n : ℕ). let r : Result ClientFirst ScramFault = Err (Malformed n) in r) read.2),
)

-- ---- the server's first message

abbrev server_view : ServerFirstParts → ServerFirstView
server_view parts = record { nonce = parts.nonce; salt = base64_bytes parts.salt; count = min (value_of parts.count) most_told }

server_ok : (bytes : List ℕ) (r : Result ServerFirstParts (List ℕ)) (parts : ServerFirstParts) → r ≡ Ok parts → judged_server_first bytes r ≡ Ok (server_view parts)
server_ok bytes r parts h = rw h refl

server_err : (bytes : List ℕ) (r : Result ServerFirstParts (List ℕ)) (rest : List ℕ) → r ≡ Err rest → judged_server_first bytes r ≡ Err (malformed bytes rest)
server_err bytes r rest h = rw h refl

abbrev ServerSaid : ServerFirstParts → List ℕ → Type 0
ServerSaid = After (codes "r=") ServerRest

pub server_first_found : (bytes : List ℕ) (m : ServerFirstView) → server_first_of bytes ≡ Ok m
    → (count : ℕ) × IsServerFirst m.nonce m.salt count bytes × (m.count ≡ min count most_told)
server_first_found bytes m h =
    elim (result_cases (server_first_parts bytes)) [
      | inl ok ↦
          let parts = ok.0 in
          let same : Ok (server_view parts) ≡ Ok m = sym (server_ok bytes (server_first_parts bytes) parts ok.1) ∙ h in
          let view : server_view parts ≡ m = cc in
          let is = server_to parts bytes (server_first_reads.found bytes parts ok.1) in
          let salt : base64_bytes parts.salt ≡ is.salt = bytes_again parts.salt is.salt is.salted is.based in
          rw (← view) (value_of parts.count, rw salt is.message, refl)
      | inr err ↦ cc (sym (server_err bytes (server_first_parts bytes) err.0 err.1) ∙ h)
    ]

pub server_first_only : (nonce salt : List ℕ) (count : ℕ) (bytes : List ℕ) → IsServerFirst nonce salt count bytes
    → server_first_of bytes ≡ Ok (record { nonce = nonce; salt = salt; count = min count most_told })
server_first_only nonce salt count bytes is =
    let parts : ServerFirstParts = record { nonce = nonce; salt = encode_of standard salt; count = is.digits } in
    let again : base64_bytes (encode_of standard salt) ≡ salt = bytes_again (encode_of standard salt) salt is.salted refl in
    let value : value_of is.digits ≡ count = sym is.counted.1 in
    server_ok bytes (server_first_parts bytes) parts (server_first_reads.only parts bytes (server_from nonce salt count bytes is)) ∙ rw (again, value) refl

in_server : (parts : ServerFirstParts) (bytes : List ℕ) → ServerSaid parts bytes → InServerFirst bytes
in_server parts bytes w = let is = server_to parts bytes w in (parts.nonce, is.salt, value_of parts.count, is.message)

of_server : (bytes : List ℕ) → InServerFirst bytes → (parts : ServerFirstParts) × ServerSaid parts bytes
of_server bytes w = (record { nonce = w.0; salt = encode_of standard w.1; count = w.3.digits }, server_from w.0 w.1 w.2 bytes w.3)

pub server_first_position : (bytes : List ℕ) (at : ℕ) → (server_first_of bytes ≡ Err (Malformed at)) ↔ LeavesAt InServerFirst bytes at
server_first_position bytes at = (
  λ h. elim (result_cases (server_first_parts bytes)) [
    | inl ok ↦ cc (sym (server_ok bytes (server_first_parts bytes) ok.0 ok.1) ∙ h)
    | inr err ↦
        let same : Err (malformed bytes err.0) ≡ Err (Malformed at) = sym (server_err bytes (server_first_parts bytes) err.0 err.1) ∙ h in
        let n = position_is (length bytes - length err.0) at cc in
        subst (LeavesAt InServerFirst bytes) n (position server_first_parts ServerSaid server_first_reads InServerFirst in_server of_server bytes err.0 err.1)
  ],
  λ leaves. (let read = position_read server_first_parts ServerSaid server_first_reads InServerFirst in_server of_server bytes at leaves in
      server_err bytes (server_first_parts bytes) read.0 read.1 ∙ ap (λ (n : ℕ). let r : Result ServerFirstView ScramFault = Err (Malformed n) in r) read.2),
)

-- ---- the client's final message

abbrev final_view : List ℕ → ClientFinalParts → ClientFinalView
final_view bytes parts = record { without_proof = before_proof bytes parts.proof; nonce = parts.nonce; proof = hash_of (base64_bytes parts.proof) }

abbrev final_answer : List ℕ → List ℕ → List ℕ → Result ClientFinalView ScramFault
final_answer front nonce proof = Ok (record { without_proof = front; nonce = nonce; proof = hash_of proof })

final_ok : (bytes : List ℕ) (r : Result ClientFinalParts (List ℕ)) (parts : ClientFinalParts) → r ≡ Ok parts → judged_client_final bytes r ≡ Ok (final_view bytes parts)
final_ok bytes r parts h = rw h refl

final_err : (bytes : List ℕ) (r : Result ClientFinalParts (List ℕ)) (rest : List ℕ) → r ≡ Err rest → judged_client_final bytes r ≡ Err (malformed bytes rest)
final_err bytes r rest h = rw h refl

module _ (flag : BindingFlag) where
  abbrev ClientSaid : ClientFinalParts → List ℕ → Type 0
  ClientSaid = After (codes "c=") (Bound flag)

  pub client_final_found : (bytes : List ℕ) (m : ClientFinalView) → client_final_of flag bytes ≡ Ok m
      → (proof : List ℕ) × IsClientFinal flag m.without_proof m.nonce proof bytes × (m.proof ≡ hash_of proof)
  client_final_found bytes m h =
      elim (result_cases (client_final_parts flag bytes)) [
        | inl ok ↦
            let parts = ok.0 in
            let same : Ok (final_view bytes parts) ≡ Ok m = sym (final_ok bytes (client_final_parts flag bytes) parts ok.1) ∙ h in
            let view : final_view bytes parts ≡ m = cc in
            let is = final_to flag parts bytes ((client_final_reads flag).found bytes parts ok.1) in
            let proof : base64_bytes parts.proof ≡ is.proof = bytes_again parts.proof is.proof is.is_bytes is.based in
            rw (← view) (is.proof, is.message, ap hash_of proof)
        | inr err ↦ cc (sym (final_err bytes (client_final_parts flag bytes) err.0 err.1) ∙ h)
      ]

  pub client_final_only : (without_proof nonce proof bytes : List ℕ) → IsClientFinal flag without_proof nonce proof bytes
      → client_final_of flag bytes ≡ Ok (record { without_proof = without_proof; nonce = nonce; proof = hash_of proof })
  client_final_only without_proof nonce proof bytes is =
      let text = encode_of standard proof in
      let parts : ClientFinalParts = record { nonce = nonce; proof = text } in
      let again : base64_bytes text ≡ proof = bytes_again text proof is.proved refl in
      let front : before_proof bytes text ≡ without_proof = before_is without_proof text bytes is.spelled in
      final_ok bytes (client_final_parts flag bytes) parts ((client_final_reads flag).only parts bytes (final_from flag without_proof nonce proof bytes is))
      ∙ views (before_proof bytes text) without_proof nonce (base64_bytes text) proof front again
    where
      views : (a b n p q : List ℕ) → a ≡ b → p ≡ q → final_answer a n p ≡ final_answer b n q
      views a b n p q e f = rw (e, f) refl

  in_final : (parts : ClientFinalParts) (bytes : List ℕ) → ClientSaid parts bytes → InClientFinal flag bytes
  in_final parts bytes w = let is = final_to flag parts bytes w in (before_proof bytes parts.proof, parts.nonce, is.proof, is.message)

  of_final : (bytes : List ℕ) → InClientFinal flag bytes → (parts : ClientFinalParts) × ClientSaid parts bytes
  of_final bytes w = (record { nonce = w.1; proof = encode_of standard w.2 }, final_from flag w.0 w.1 w.2 bytes w.3)

  pub client_final_position : (bytes : List ℕ) (at : ℕ) → (client_final_of flag bytes ≡ Err (Malformed at)) ↔ LeavesAt (InClientFinal flag) bytes at
  client_final_position bytes at = (
    λ h. elim (result_cases (client_final_parts flag bytes)) [
      | inl ok ↦ cc (sym (final_ok bytes (client_final_parts flag bytes) ok.0 ok.1) ∙ h)
      | inr err ↦
          let same : Err (malformed bytes err.0) ≡ Err (Malformed at) = sym (final_err bytes (client_final_parts flag bytes) err.0 err.1) ∙ h in
          let n = position_is (length bytes - length err.0) at cc in
          subst (LeavesAt (InClientFinal flag) bytes) n (position (client_final_parts flag) ClientSaid (client_final_reads flag) (InClientFinal flag) in_final of_final bytes err.0 err.1)
    ],
    λ leaves. (let read = position_read (client_final_parts flag) ClientSaid (client_final_reads flag) (InClientFinal flag) in_final of_final bytes at leaves in
        final_err bytes (client_final_parts flag bytes) read.0 read.1 ∙ ap (λ (n : ℕ). let r : Result ClientFinalView ScramFault = Err (Malformed n) in r) read.2),
  )

-- ---- the server's final message

told_ok : (bytes : List ℕ) (r : Result (Option (List ℕ)) (List ℕ)) (v : Option (List ℕ)) → r ≡ Ok v → judged_server_final bytes r ≡ Ok (verifier_read v)
told_ok bytes r v h = rw h refl

told_err : (bytes : List ℕ) (r : Result (Option (List ℕ)) (List ℕ)) (rest : List ℕ) → r ≡ Err rest → judged_server_final bytes r ≡ Err (malformed bytes rest)
told_err bytes r rest h = rw h refl

says_hash : (text verifier : Option (List ℕ)) → Says text verifier → verifier_read text ≡ option_and_then hash_of verifier
says_hash None None says = refl
says_hash (Some text) (Some verifier) says = ap hash_of (bytes_again text verifier says.0 says.1)
says_hash None (Some verifier) says = absurd says
says_hash (Some text) None says = absurd says

pub server_final_found : (bytes : List ℕ) (v : Option (List ℕ)) → server_final_of bytes ≡ Ok v
    → (verifier : Option (List ℕ)) × IsServerFinal verifier bytes × (v ≡ option_and_then hash_of verifier)
server_final_found bytes v h =
    elim (result_cases (server_final_parts bytes)) [
      | inl ok ↦
          let same : Ok (verifier_read ok.0) ≡ Ok v = sym (told_ok bytes (server_final_parts bytes) ok.0 ok.1) ∙ h in
          let is_v : verifier_read ok.0 ≡ v = cc in
          let is = server_final_to ok.0 bytes (server_final_reads.found bytes ok.0 ok.1) in
          (is.0, is.2, sym is_v ∙ says_hash ok.0 is.0 is.1)
      | inr err ↦ cc (sym (told_err bytes (server_final_parts bytes) err.0 err.1) ∙ h)
    ]

encoded_hash : (verifier : Option (List ℕ)) (bytes : List ℕ) → IsServerFinal verifier bytes → verifier_read (option_map (encode_of standard) verifier) ≡ option_and_then hash_of verifier
encoded_hash None bytes is = refl
encoded_hash (Some verifier) bytes is = ap hash_of (bytes_again (encode_of standard verifier) verifier is.verified refl)

pub server_final_only : (verifier : Option (List ℕ)) (bytes : List ℕ) → IsServerFinal verifier bytes → server_final_of bytes ≡ Ok (option_and_then hash_of verifier)
server_final_only verifier bytes is =
    let v = option_map (encode_of standard) verifier in
    told_ok bytes (server_final_parts bytes) v (server_final_reads.only v bytes (server_final_from verifier bytes is))
    ∙ ap (λ (x : Option (List ℕ)). let r : Result (Option (List ℕ)) ScramFault = Ok x in r) (encoded_hash verifier bytes is)

in_told : (v : Option (List ℕ)) (bytes : List ℕ) → FinalSaid v bytes → InServerFinal bytes
in_told v bytes w = let is = server_final_to v bytes w in (is.0, is.2)

of_told : (bytes : List ℕ) → InServerFinal bytes → (v : Option (List ℕ)) × FinalSaid v bytes
of_told bytes w = (option_map (encode_of standard) w.0, server_final_from w.0 bytes w.1)

pub server_final_position : (bytes : List ℕ) (at : ℕ) → (server_final_of bytes ≡ Err (Malformed at)) ↔ LeavesAt InServerFinal bytes at
server_final_position bytes at = (
  λ h. elim (result_cases (server_final_parts bytes)) [
    | inl ok ↦ cc (sym (told_ok bytes (server_final_parts bytes) ok.0 ok.1) ∙ h)
    | inr err ↦
        let same : Err (malformed bytes err.0) ≡ Err (Malformed at) = sym (told_err bytes (server_final_parts bytes) err.0 err.1) ∙ h in
        let n = position_is (length bytes - length err.0) at cc in
        subst (LeavesAt InServerFinal bytes) n (position server_final_parts FinalSaid server_final_reads InServerFinal in_told of_told bytes err.0 err.1)
  ],
  λ leaves. (let read = position_read server_final_parts FinalSaid server_final_reads InServerFinal in_told of_told bytes at leaves in
      told_err bytes (server_final_parts bytes) read.0 read.1 ∙ ap (λ (n : ℕ). let r : Result (Option (List ℕ)) ScramFault = Err (Malformed n) in r) read.2),
)
