-- The definitions at worked messages, by evaluation: the example of RFC 7677, section 3, and departures.
use Rattle.std.proofs.Common.{◌≡◌, ℕ, [], ◌∷◌, List, Some, Ok, Err, refl}
use Rattle.std.specs.Prelude.{codes}
use Rattle.base64.specs.Decode.{groups_error, groups_bytes, scan_steps}
use Rattle.auth_scram.specs.Messages.{bare_parts, bare_texts, client_final_of, client_final_parts, client_first_of, first_parts, server_final_of, server_first_of, server_first_parts, verifier_part}
use Rattle.auth_scram.specs.Values.{base64_bytes}
use Rattle.auth_scram.specs.declared.binding_flag.BindingFlag.TheVariants.{Unsupported, NotOffered}
use Rattle.auth_scram.specs.declared.fault.ScramFault.TheVariants.{Malformed}

first_message : client_first_of (codes "n,,n=user,r=rOprNGfwEbeRWgbNEkqO") ≡
    Ok (record { flag = Unsupported; name = codes "user"; nonce = codes "rOprNGfwEbeRWgbNEkqO"; bare = codes "n=user,r=rOprNGfwEbeRWgbNEkqO" })
unfolding first_parts bare_parts bare_texts
first_message = refl

-- W22ZaJ0SNY7soEsUEjb6gQ== as RFC 4648 decodes it
abbrev salt : List ℕ
salt = 91 ∷ 109 ∷ 153 ∷ 104 ∷ 157 ∷ 18 ∷ 53 ∷ 142 ∷ 236 ∷ 160 ∷ 75 ∷ 20 ∷ 18 ∷ 54 ∷ 250 ∷ 129 ∷ []

servers_first_message : server_first_of (codes "r=rOprNGfwEbeRWgbNEkqO%hvYDpWUa2RaTCAfuxFIlj)hNlF$k0,s=W22ZaJ0SNY7soEsUEjb6gQ==,i=4096") ≡
    Ok (record { nonce = codes "rOprNGfwEbeRWgbNEkqO%hvYDpWUa2RaTCAfuxFIlj)hNlF$k0"; salt = salt; count = 4096 })
unfolding server_first_parts base64_bytes groups_error groups_bytes scan_steps
servers_first_message = refl

-- dHzbZapWIk4jUhN+Ute9ytag9zjfMHgsqmmiz7AndVQ= as RFC 4648 decodes it
abbrev proof : List ℕ
proof =
    116 ∷ 124 ∷ 219 ∷ 101 ∷ 170 ∷ 86 ∷ 34 ∷ 78 ∷ 35 ∷ 82 ∷ 19 ∷ 126 ∷ 82 ∷ 215 ∷ 189 ∷ 202 ∷ 214 ∷ 160 ∷ 247 ∷ 56 ∷ 223 ∷ 48 ∷ 120 ∷ 44 ∷ 170 ∷ 105 ∷ 162 ∷ 207 ∷ 176 ∷ 39 ∷ 117 ∷ 84 ∷ []

clients_final_message : client_final_of Unsupported (codes "c=biws,r=rOprNGfwEbeRWgbNEkqO%hvYDpWUa2RaTCAfuxFIlj)hNlF$k0,p=dHzbZapWIk4jUhN+Ute9ytag9zjfMHgsqmmiz7AndVQ=") ≡
    Ok (record { without_proof = codes "c=biws,r=rOprNGfwEbeRWgbNEkqO%hvYDpWUa2RaTCAfuxFIlj)hNlF$k0"; nonce = codes "rOprNGfwEbeRWgbNEkqO%hvYDpWUa2RaTCAfuxFIlj)hNlF$k0"; proof = Some proof })
unfolding client_final_parts base64_bytes groups_error groups_bytes scan_steps
clients_final_message = refl

-- 6rriTRBi23WpRR/wtup+mMhUZUn/dB5nLTJRsjl95G4= as RFC 4648 decodes it
abbrev verifier : List ℕ
verifier =
    234 ∷ 186 ∷ 226 ∷ 77 ∷ 16 ∷ 98 ∷ 219 ∷ 117 ∷ 169 ∷ 69 ∷ 31 ∷ 240 ∷ 182 ∷ 234 ∷ 126 ∷ 152 ∷ 200 ∷ 84 ∷ 101 ∷ 73 ∷ 255 ∷ 116 ∷ 30 ∷ 103 ∷ 45 ∷ 50 ∷ 81 ∷ 178 ∷ 57 ∷ 125 ∷ 228 ∷ 110 ∷ []

servers_final_message : server_final_of (codes "v=6rriTRBi23WpRR/wtup+mMhUZUn/dB5nLTJRsjl95G4=") ≡ Ok (Some verifier)
unfolding verifier_part base64_bytes groups_error groups_bytes scan_steps
servers_final_message = refl

a_mandatory_extension : client_first_of (codes "n,,n=a,r=b,m=x") ≡ Err (Malformed 11)
unfolding first_parts bare_parts bare_texts
a_mandatory_extension = refl

a_decoded_name : client_first_of (codes "y,,n=a=2C=3D,r=b") ≡ Ok (record { flag = NotOffered; name = codes "a,="; nonce = codes "b"; bare = codes "n=a=2C=3D,r=b" })
unfolding first_parts bare_parts bare_texts
a_decoded_name = refl
