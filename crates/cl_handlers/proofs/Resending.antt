-- What is put again is the bytes of what waits, and a request behind them where something does.
use Rattle.std.proofs.Common.{◌≡◌, ◌<◌, ◌++◌, ℕ, List, [], ◌∷◌, length, ap, refl, sym, ◌∙◌, arith, append_assoc, append-nil}
use Rattle.std.specs.List.{concat}
use Rattle.cl_handlers.specs.SessionRows.{resent}
use Rattle.cl_handlers.specs.Speech.{in_bytes, spread_all}
use Rattle.im_replies.specs.Management.{request_text}

pub spread_bytes : (queue : List (List ℕ)) → spread_all in_bytes queue ≡ concat queue
spread_bytes [] = refl
spread_bytes (stanza ∷ queue) = ap (λ more. stanza ++ more) (spread_bytes queue)

pub resent_nothing : (out : List ℕ) (queue : List (List ℕ)) → length queue ≡ 0 → out ≡ out ++ resent in_bytes queue
resent_nothing out [] none = sym (append-nil out)
resent_nothing out (stanza ∷ queue) none = absurd (omega arith)

resent_with : (queue : List (List ℕ)) → 0 < length queue → resent in_bytes queue ≡ concat queue ++ request_text
resent_with [] some = absurd (omega arith)
resent_with (stanza ∷ queue) some = ap (λ more. more ++ request_text) (spread_bytes (stanza ∷ queue))

pub resent_some : (out last again request : List ℕ) (queue : List (List ℕ)) → 0 < length queue → again ≡ out ++ concat queue → request ≡ request_text
    → last ≡ again ++ request → last ≡ out ++ resent in_bytes queue
resent_some out last again request queue some is_again is_request is =
    is ∙ ap (λ more. more ++ request) is_again ∙ ap (λ more. (out ++ concat queue) ++ more) is_request
    ∙ append_assoc out (concat queue) request_text ∙ ap (λ more. out ++ more) (sym (resent_with queue some))
