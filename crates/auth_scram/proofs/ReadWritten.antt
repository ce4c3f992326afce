-- What the ends write is read as what they meant.
use Rattle.std.proofs.Common.{◌≡◌, ℕ, true, List, [], ◌∷◌, length}
use Rattle.std.specs.Prelude.{nat_lt}
use Rattle.std.specs.List.{list_all}
use Rattle.std.proofs.lemmas.Bool.{and_parts}
use Rattle.auth_scram.specs.Exchange.{base64_of, is_plain, is_printable_ascii}
use Rattle.auth_scram.specs.Grammar.{are_some}
use Rattle.auth_scram.specs.declared.binding_flag.BindingFlag.TheVariants.{Unsupported}
use Rattle.auth_scram.proofs.ReadBack.{AreReadBack}
use Rattle.auth_scram.proofs.WrittenMessages.{written_client_final, written_client_first, written_server_final, written_server_first}

pub is_plain-some : (name : List ℕ) → is_plain name ≡ true → are_some is_printable_ascii name ≡ true
is_plain-some [] e = absurd (cc)
is_plain-some (b ∷ name) e = (and_parts (nat_lt 0 (length (b ∷ name))) (list_all is_printable_ascii (b ∷ name)) e).1

pub read_back : AreReadBack
unfolding base64_of
read_back = record {
  first = λ name nonce plain random. written_client_first Unsupported name nonce (is_plain-some name plain) random;
  server_first = λ nonce salt i random fits some most. written_server_first nonce salt i random fits some most;
  client_final = λ nonce proof random fits whole. written_client_final Unsupported nonce proof random fits whole;
  server_final = λ verifier fits whole. written_server_final verifier fits whole;
}
