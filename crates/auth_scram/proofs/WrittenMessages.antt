-- The messages that the two ends write are in the grammar, and so they are read.
use Rattle.std.proofs.Common.{◌≡◌, ℕ, ◌≤◌, Bool, true, false, List, [], ◌∷◌, ◌++◌, length, min, codes, Some, Result, Ok, refl, sym, ap, ◌∙◌, arith}
use Rattle.std.proofs.lemmas.Bool.{and_parts}
use Rattle.std.proofs.lemmas.List.{append-nil}
use Rattle.std.proofs.lemmas.Str.{IsUtf8-nil}
use Rattle.std.specs.Fmt.{decimal}
use Rattle.std.specs.List.{flat_map, list_all}
use Rattle.std.specs.Str.{IsUtf8}
use Rattle.base64.specs.Engines.{standard}
use Rattle.base64.specs.GeneralPurpose.{IsBytes, encode_of}
use Rattle.auth_scram.specs.Classes.{is_within}
use Rattle.auth_scram.specs.Grammar.{AreExtensions, IsBare, IsClientFinal, IsClientFirst, IsName, IsNonce, IsServerFirst, IsServerVerifier, are_some, escaped_byte, gs2_header, is_name_byte}
use Rattle.auth_scram.specs.Messages.{ServerFirstView, client_final_of, client_first_of, gs2_base64, server_final_of, server_first_of}
use Rattle.auth_scram.specs.Values.{most_told}
use Rattle.auth_scram.specs.declared.binding_flag.BindingFlag.{BindingFlag}
use Rattle.auth_scram.specs.declared.binding_flag.BindingFlag.TheVariants.{Unsupported, NotOffered}
use Rattle.auth_scram.specs.declared.fault.ScramFault.{ScramFault}
use Rattle.auth_scram.specs.declared.values.Until.{Until}
use Rattle.auth_scram.proofs.Base64.{hash_some}
use Rattle.auth_scram.proofs.Characters.{one_more}
use Rattle.auth_scram.proofs.Counts.{decimal_count}
use Rattle.auth_scram.proofs.MessageLaws.{client_final_only, first_only, server_final_only, server_first_only}
use Rattle.auth_scram.proofs.OtherMessages.{header_is}
use Rattle.auth_scram.proofs.PassedTests.{within, within_yes}

none_follow : (until : Until) → AreExtensions until []
none_follow until = ([], tt, refl)

abbrev ascii : ℕ → Bool
ascii b = is_within 0x20 0x7E b

name_bytes : (name : List ℕ) → list_all ascii name ≡ true → IsUtf8 name × (list_all is_name_byte name ≡ true)
name_bytes [] h = (IsUtf8-nil, refl)
name_bytes (b ∷ name) h =
    let parts = and_parts (ascii b) (list_all ascii name) h in
    let w = within 0x20 0x7E b parts.0 in
    let rest = name_bytes name parts.1 in
    (one_more b name (omega arith) rest.0, rw (within_yes 1 127 b (omega arith) (omega arith), rest.1) refl)

-- a name of printable ASCII
name_of_ascii : (name : List ℕ) → are_some ascii name ≡ true → IsName name (flat_map escaped_byte name)
name_of_ascii [] h = cc h
name_of_ascii (b ∷ name) h =
    let facts = name_bytes (b ∷ name) h in
    record { some = omega arith; utf8 = facts.0; bytes = facts.1; spelled = refl }

pub bare_is : (name nonce : List ℕ) → are_some ascii name ≡ true → IsNonce nonce → IsBare name nonce (codes "n=" ++ flat_map escaped_byte name ++ codes ",r=" ++ nonce)
bare_is name nonce named random =
    record {
      name_text = flat_map escaped_byte name;
      extensions = [];
      named = name_of_ascii name named;
      random = random;
      extended = none_follow _;
      spelled = sym (append-nil (codes "n=" ++ flat_map escaped_byte name ++ codes ",r=" ++ nonce));
    }

pub first_is : (flag : BindingFlag) (name nonce bare : List ℕ) → IsBare name nonce bare → IsClientFirst (Some flag) false name nonce bare (gs2_header flag ++ bare)
first_is Unsupported name nonce bare is =
    record { flag_text = codes "n"; authzid_text = []; flagged = refl; identified = refl; said = is; spelled = refl }
first_is NotOffered name nonce bare is =
    record { flag_text = codes "y"; authzid_text = []; flagged = refl; identified = refl; said = is; spelled = refl }

pub written_client_first : (flag : BindingFlag) (name nonce : List ℕ) → are_some ascii name ≡ true → IsNonce nonce
    → client_first_of (gs2_header flag ++ (codes "n=" ++ flat_map escaped_byte name ++ codes ",r=" ++ nonce))
    ≡ Ok (record { flag = flag; name = name; nonce = nonce; bare = codes "n=" ++ flat_map escaped_byte name ++ codes ",r=" ++ nonce })
written_client_first flag name nonce named random =
    let bare = codes "n=" ++ flat_map escaped_byte name ++ codes ",r=" ++ nonce in
    first_only flag name nonce bare (gs2_header flag ++ bare) (first_is flag name nonce bare (bare_is name nonce named random))

abbrev server_answer : List ℕ → List ℕ → ℕ → Result ServerFirstView ScramFault
server_answer nonce salt count = Ok (record { nonce = nonce; salt = salt; count = count })

pub server_first_is : (nonce salt : List ℕ) (count : ℕ) → IsNonce nonce → IsBytes salt → 1 ≤ count → count ≤ most_told
    → IsServerFirst nonce salt count (codes "r=" ++ nonce ++ codes ",s=" ++ encode_of standard salt ++ codes ",i=" ++ decimal count)
server_first_is nonce salt count random salted low high =
    let facts = decimal_count count low (omega arith) in
    record {
      digits = decimal count;
      extensions = [];
      random = random;
      salted = salted;
      counted = (facts.0, sym facts.1);
      extended = none_follow _;
      spelled = sym (append-nil (codes "r=" ++ nonce ++ codes ",s=" ++ encode_of standard salt ++ codes ",i=" ++ decimal count));
    }

pub written_server_first : (nonce salt : List ℕ) (count : ℕ) → IsNonce nonce → IsBytes salt → 1 ≤ count → count ≤ most_told
    → server_first_of (codes "r=" ++ nonce ++ codes ",s=" ++ encode_of standard salt ++ codes ",i=" ++ decimal count) ≡ Ok (record { nonce = nonce; salt = salt; count = count })
written_server_first nonce salt count random salted low high =
    let bytes = codes "r=" ++ nonce ++ codes ",s=" ++ encode_of standard salt ++ codes ",i=" ++ decimal count in
    let small : min count most_told ≡ count = omega arith in
    server_first_only nonce salt count bytes (server_first_is nonce salt count random salted low high) ∙ ap (λ (n : ℕ). server_answer nonce salt n) small

pub client_final_is : (flag : BindingFlag) (nonce proof : List ℕ) → IsNonce nonce → IsBytes proof
    → IsClientFinal flag (codes "c=" ++ gs2_base64 flag ++ codes ",r=" ++ nonce) nonce proof
    (codes "c=" ++ gs2_base64 flag ++ codes ",r=" ++ nonce ++ codes ",p=" ++ encode_of standard proof)
client_final_is flag nonce proof random proved =
    record {
      extensions = [];
      random = random;
      extended = none_follow _;
      front = ap (λ (x : List ℕ). codes "c=" ++ x ++ codes ",r=" ++ nonce) (header_is flag) ∙ sym (append-nil (codes "c=" ++ encode_of standard (gs2_header flag) ++ codes ",r=" ++ nonce));
      proved = proved;
      spelled = refl;
    }

pub written_client_final : (flag : BindingFlag) (nonce proof : List ℕ) → IsNonce nonce → IsBytes proof → length proof ≡ 32
    → client_final_of flag (codes "c=" ++ gs2_base64 flag ++ codes ",r=" ++ nonce ++ codes ",p=" ++ encode_of standard proof)
    ≡ Ok (record { without_proof = codes "c=" ++ gs2_base64 flag ++ codes ",r=" ++ nonce; nonce = nonce; proof = Some proof })
written_client_final flag nonce proof random proved size =
    let front = codes "c=" ++ gs2_base64 flag ++ codes ",r=" ++ nonce in
    let bytes = front ++ codes ",p=" ++ encode_of standard proof in
    client_final_only flag front nonce proof bytes (client_final_is flag nonce proof random proved) ∙ rw (hash_some proof size) refl

pub server_final_is : (verifier : List ℕ) → IsBytes verifier → IsServerVerifier verifier (codes "v=" ++ encode_of standard verifier)
server_final_is verifier fits =
    record { extensions = []; verified = fits; extended = none_follow _; spelled = sym (append-nil (codes "v=" ++ encode_of standard verifier)) }

pub written_server_final : (verifier : List ℕ) → IsBytes verifier → length verifier ≡ 32 → server_final_of (codes "v=" ++ encode_of standard verifier) ≡ Ok (Some verifier)
written_server_final verifier fits size =
    let bytes = codes "v=" ++ encode_of standard verifier in
    server_final_only (Some verifier) bytes (server_final_is verifier fits) ∙ rw (hash_some verifier size) refl
