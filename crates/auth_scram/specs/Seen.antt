-- What clauses see of what the readers answer, without where it lies in memory.
use Rattle.std.specs.Prelude.{◌≡◌, ℕ, Bool, List, Option, Result, Ok, Err}
use Rattle.std.specs.Borrow.{Bor}
use Rattle.auth_scram.specs.Messages.{ClientFinalParts, ClientFinalView, FirstParts, ServerFirstParts, ServerFirstView}
use Rattle.auth_scram.specs.Values.{base64_bytes}
use Rattle.auth_scram.specs.declared.binding_flag.BindingFlag.{BindingFlag}
use Rattle.auth_scram.specs.declared.client_first.FirstParts.{FirstParts as FirstTexts}
use Rattle.auth_scram.specs.declared.client_final.ClientFinal.{ClientFinal}
use Rattle.auth_scram.specs.declared.client_final.ClientFinalParts.{ClientFinalParts as FinalTexts}
use Rattle.auth_scram.specs.declared.fault.ScramFault.{ScramFault}
use Rattle.auth_scram.specs.declared.server_first.ServerFirst.{ServerFirst}
use Rattle.auth_scram.specs.declared.server_first.ServerFirstParts.{ServerFirstParts as ServerTexts}

abbrev pub flagged : Option BindingFlag × Bor (List ℕ) → Option BindingFlag × List ℕ
flagged x = (x.0, x.1.now)

abbrev pub identified : Bool × Bor (List ℕ) → Bool × List ℕ
identified x = (x.0, x.1.now)

abbrev pub first_seen : FirstTexts → FirstParts
first_seen t = record { flag = t.flag; authorizes = t.authorizes; name = t.name.now; nonce = t.nonce.now; bare = t.bare.now }

abbrev pub server_first_seen : ServerTexts → ServerFirstParts
server_first_seen t = record { nonce = t.nonce.now; salt = t.salt.now; count = t.count.now }

abbrev pub server_first_view : ServerFirst → ServerFirstView
server_first_view m = record { nonce = m.nonce.now; salt = base64_bytes m.salt.now; count = m.count }

abbrev pub client_final_seen : FinalTexts → ClientFinalParts
client_final_seen t = record { nonce = t.nonce.now; proof = t.proof.now }

abbrev pub client_final_view : ClientFinal → ClientFinalView
client_final_view m = record { without_proof = m.without_proof.now; nonce = m.nonce.now; proof = m.proof }

-- what a function returned, seen by view, is the answer
abbrev pub Refuses : {X Y : Type 0} → (X → Y) → Result X ScramFault → Result Y ScramFault → Type 0
Refuses view (Ok x) answer = answer ≡ Ok (view x)
Refuses view (Err fault) answer = answer ≡ Err fault
