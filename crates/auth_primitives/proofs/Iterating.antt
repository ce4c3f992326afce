-- The steps of Hi, and the pieces of an AuthMessage.
use Rattle.std.proofs.Common.{◌≡◌, ℕ, ◌+◌, ◌-◌, ◌∙◌, List, [], ◌∷◌, ◌++◌, refl, ap, add-one, append_assoc}
use Rattle.auth_primitives.specs.Hashes.{auth_message, hi_of, hmac_of, u_of, xor_bytes, xor_to}

pub u_of-next : (password salt u next : List ℕ) (k : ℕ) → u ≡ u_of password salt k
    → next ≡ hmac_of password u → next ≡ u_of password salt (k + 1)
unfolding u_of
u_of-next password salt u next k is step = rw add-one (step ∙ ap (hmac_of password) is)

pub xor_to-next : (password salt all next : List ℕ) (k : ℕ) → all ≡ xor_to password salt k
    → next ≡ u_of password salt (k + 1) → xor_bytes all next ≡ xor_to password salt (k + 1)
unfolding xor_to
xor_to-next password salt all next k is step =
    rw (is, step, add-one) refl

-- Hi of i iterations has taken in i - 1 beyond the first
pub hi_of-all : (password salt all : List ℕ) (i k : ℕ) → k ≡ i - 1 → all ≡ xor_to password salt k → all ≡ hi_of password salt i
unfolding hi_of
hi_of-all password salt all i k e is = rw (← e) is

pub auth_message-joined : (block bare server_first without_proof : List ℕ)
    → ((((block ++ bare) ++ 44 ∷ []) ++ server_first) ++ 44 ∷ []) ++ without_proof ≡ block ++ auth_message bare server_first without_proof
auth_message-joined block bare server_first without_proof = simp append_assoc
