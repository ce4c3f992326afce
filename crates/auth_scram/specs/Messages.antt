-- What reading a message answers (RFC 5802, section 7), where memory doesn't run out.
use Rattle.std.specs.Prelude.{ℕ, ◌-◌, ◌==◌, min, Bool, true, false, List, [], ◌∷◌, Option, Some, None, Result, Ok, Err, length, take, codes, if◌then◌else◌}
use Rattle.auth_scram.specs.Positions.{malformed}
use Rattle.auth_scram.specs.Parts.{Cut, ◌>>=◌, run, literal, ends_here}
use Rattle.auth_scram.specs.States.{class_goes_on, class_may_end, count_goes_on, count_may_end, name_goes_on, name_may_end, extensions_go_on, extensions_may_end}
use Rattle.auth_scram.specs.Values.{name_of, value_of, most_told, base64_bytes, hash_of}
use Rattle.auth_scram.specs.declared.classes.Class.TheVariants.{Printable, Binding}
use Rattle.auth_scram.specs.declared.classes.Count.TheVariants as count_states
use Rattle.auth_scram.specs.declared.names.Name.TheVariants as name_states
use Rattle.auth_scram.specs.declared.values.Extensions.TheVariants.{Comma, First}
use Rattle.auth_scram.specs.declared.values.Until.TheVariants.{End, Proof}
use Rattle.auth_primitives.specs.Reading.{base64_goes_on, base64_may_end}
use Rattle.auth_primitives.specs.declared.text.Base64Text.TheVariants.{Whole}
use Rattle.auth_scram.specs.declared.binding_flag.BindingFlag.{BindingFlag}
use Rattle.auth_scram.specs.declared.binding_flag.BindingFlag.TheVariants.{Unsupported, NotOffered}
use Rattle.auth_scram.specs.declared.client_first.ClientFirst.{ClientFirst}
use Rattle.auth_scram.specs.declared.fault.ScramFault.{ScramFault}
use Rattle.auth_scram.specs.declared.fault.ScramFault.TheVariants.{Plus, Authzid}

-- the parts: each with what it took, and the rest

abbrev pub nonce : List ℕ → Result Cut (List ℕ)
nonce = run class_goes_on class_may_end (record { class = Printable; some = false })

abbrev pub binding_name : List ℕ → Result Cut (List ℕ)
binding_name = run class_goes_on class_may_end (record { class = Binding; some = false })

abbrev pub saslname : List ℕ → Result Cut (List ℕ)
saslname = run name_goes_on name_may_end name_states.Start

abbrev pub base64 : List ℕ → Result Cut (List ℕ)
base64 = run base64_goes_on base64_may_end Whole

abbrev pub count : List ℕ → Result Cut (List ℕ)
count = run count_goes_on count_may_end count_states.Start

-- any number of extensions, to the end of the message
abbrev pub extensions : List ℕ → Result Cut (List ℕ)
extensions = run extensions_go_on extensions_may_end (Comma End)

-- any number of extensions, and `,p=`
abbrev pub up_to_proof : List ℕ → Result Cut (List ℕ)
up_to_proof = run extensions_go_on extensions_may_end (Comma Proof)

-- a value, and any number of extensions
abbrev pub value_and_extensions : List ℕ → Result Cut (List ℕ)
value_and_extensions = run extensions_go_on extensions_may_end (First End)

-- `p=` and the name of a channel binding: no flag
unfoldable pub binding : List ℕ → Result (Option BindingFlag × List ℕ) (List ℕ)
binding bytes = do
  rest ← literal (codes "=") bytes
  name ← binding_name rest
  Ok (None, name.1)

abbrev pub binding_flag : List ℕ → Result (Option BindingFlag × List ℕ) (List ℕ)
binding_flag [] = Err []
binding_flag (b ∷ bytes) =
    if b == 110 then Ok (Some Unsupported, bytes)
    else (if b == 121 then Ok (Some NotOffered, bytes)
    else (if b == 112 then binding bytes
    else Err (b ∷ bytes)))

unfoldable pub identity : List ℕ → Result (Bool × List ℕ) (List ℕ)
identity bytes = do
  rest ← literal (codes "=") bytes
  name ← saslname rest
  Ok (true, name.1)

-- whether an authorization identity stands here
abbrev pub authzid : List ℕ → Result (Bool × List ℕ) (List ℕ)
authzid [] = Ok (false, [])
authzid (b ∷ bytes) = if b == 97 then identity bytes else Ok (false, b ∷ bytes)

-- the client's first message: the name as it is spelled
pub record FirstParts : Type 0 where
  pub flag : Option BindingFlag
  pub authorizes : Bool
  pub name : List ℕ
  pub nonce : List ℕ
  pub bare : List ℕ

-- client-first-message-bare: the name as it is spelled, and the nonce
unfoldable pub bare_texts : List ℕ → Result (List ℕ × List ℕ) (List ℕ)
bare_texts bare = do
  spelled ← literal (codes "n=") bare
  name ← saslname spelled
  random ← literal (codes ",r=") name.1
  nonce ← nonce random
  extensions ← extensions nonce.1
  end ← ends_here extensions.1
  Ok (name.0, nonce.0)

unfoldable pub bare_parts : Option BindingFlag → Bool → List ℕ → Result FirstParts (List ℕ)
bare_parts flag authorizes bare = do
  texts ← bare_texts bare
  Ok (record { flag = flag; authorizes = authorizes; name = texts.0; nonce = texts.1; bare = bare })

unfoldable pub first_parts : List ℕ → Result FirstParts (List ℕ)
first_parts bytes = do
  flag ← binding_flag bytes
  identity ← literal (codes ",") flag.1
  authzid ← authzid identity
  bare ← literal (codes ",") authzid.1
  bare_parts flag.0 authzid.0 bare

abbrev pub first_of : Option BindingFlag → FirstParts → Result ClientFirst ScramFault
first_of None parts = Err Plus
first_of (Some flag) parts =
    if parts.authorizes then Err Authzid
    else Ok (record { flag = flag; name = name_of parts.name; nonce = parts.nonce; bare = parts.bare })

abbrev pub judged_first : List ℕ → Result FirstParts (List ℕ) → Result ClientFirst ScramFault
judged_first bytes (Ok parts) = first_of parts.flag parts
judged_first bytes (Err rest) = Err (malformed bytes rest)

-- the grammar first, then the flag `p`, then an authorization identity
abbrev pub client_first_of : List ℕ → Result ClientFirst ScramFault
client_first_of bytes = judged_first bytes (first_parts bytes)

-- the server's first message
pub record ServerFirstView : Type 0 where
  pub nonce : List ℕ
  pub salt : List ℕ
  pub count : ℕ

-- its texts: the salt's base64 and the count's digits
pub record ServerFirstParts : Type 0 where
  pub nonce : List ℕ
  pub salt : List ℕ
  pub count : List ℕ

unfoldable pub server_first_parts : List ℕ → Result ServerFirstParts (List ℕ)
server_first_parts bytes = do
  random ← literal (codes "r=") bytes
  nonce ← nonce random
  salted ← literal (codes ",s=") nonce.1
  salt ← base64 salted
  counted ← literal (codes ",i=") salt.1
  count ← count counted
  extensions ← extensions count.1
  end ← ends_here extensions.1
  Ok (record { nonce = nonce.0; salt = salt.0; count = count.0 })

abbrev pub judged_server_first : List ℕ → Result ServerFirstParts (List ℕ) → Result ServerFirstView ScramFault
judged_server_first bytes (Ok parts) =
    Ok (record { nonce = parts.nonce; salt = base64_bytes parts.salt; count = min (value_of parts.count) most_told })
judged_server_first bytes (Err rest) = Err (malformed bytes rest)

abbrev pub server_first_of : List ℕ → Result ServerFirstView ScramFault
server_first_of bytes = judged_server_first bytes (server_first_parts bytes)

-- the client's final message
pub record ClientFinalView : Type 0 where
  pub without_proof : List ℕ
  pub nonce : List ℕ
  pub proof : Option (List ℕ)

-- its texts: the nonce, and the proof's base64
pub record ClientFinalParts : Type 0 where
  pub nonce : List ℕ
  pub proof : List ℕ

-- the base64 of the GS2 headers `n,,` and `y,,`
abbrev pub gs2_base64 : BindingFlag → List ℕ
gs2_base64 Unsupported = codes "biws"
gs2_base64 NotOffered = codes "eSws"

unfoldable pub client_final_parts : BindingFlag → List ℕ → Result ClientFinalParts (List ℕ)
client_final_parts flag bytes = do
  headed ← literal (codes "c=") bytes
  bound ← literal (gs2_base64 flag) headed
  random ← literal (codes ",r=") bound
  nonce ← nonce random
  extensions ← up_to_proof nonce.1
  proof ← base64 extensions.1
  end ← ends_here proof.1
  Ok (record { nonce = nonce.0; proof = proof.0 })

-- all in front of `,p=` and the proof
abbrev pub before_proof : List ℕ → List ℕ → List ℕ
before_proof bytes proof = take (length bytes - length proof - 3) bytes

abbrev pub judged_client_final : List ℕ → Result ClientFinalParts (List ℕ) → Result ClientFinalView ScramFault
judged_client_final bytes (Ok parts) =
    Ok (record {
      without_proof = before_proof bytes parts.proof;
      nonce = parts.nonce;
      proof = hash_of (base64_bytes parts.proof);
    })
judged_client_final bytes (Err rest) = Err (malformed bytes rest)

abbrev pub client_final_of : BindingFlag → List ℕ → Result ClientFinalView ScramFault
client_final_of flag bytes = judged_client_final bytes (client_final_parts flag bytes)

-- the server's final message: the base64 of a verifier, or none where it tells an error

unfoldable pub verifier_part : List ℕ → Result (Option (List ℕ)) (List ℕ)
verifier_part bytes = do
  verified ← literal (codes "=") bytes
  verifier ← base64 verified
  extensions ← extensions verifier.1
  end ← ends_here extensions.1
  Ok (Some verifier.0)

unfoldable pub error_part : List ℕ → Result (Option (List ℕ)) (List ℕ)
error_part bytes = do
  told ← literal (codes "=") bytes
  error ← value_and_extensions told
  end ← ends_here error.1
  Ok None

abbrev pub server_final_parts : List ℕ → Result (Option (List ℕ)) (List ℕ)
server_final_parts [] = Err []
server_final_parts (b ∷ bytes) =
    if b == 118 then verifier_part bytes
    else (if b == 101 then error_part bytes
    else Err (b ∷ bytes))

abbrev pub verifier_read : Option (List ℕ) → Option (List ℕ)
verifier_read None = None
verifier_read (Some text) = hash_of (base64_bytes text)

abbrev pub judged_server_final : List ℕ → Result (Option (List ℕ)) (List ℕ) → Result (Option (List ℕ)) ScramFault
judged_server_final bytes (Ok verifier) = Ok (verifier_read verifier)
judged_server_final bytes (Err rest) = Err (malformed bytes rest)

abbrev pub server_final_of : List ℕ → Result (Option (List ℕ)) ScramFault
server_final_of bytes = judged_server_final bytes (server_final_parts bytes)
