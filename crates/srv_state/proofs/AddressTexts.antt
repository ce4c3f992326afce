-- A full address is a bare one, a slash and a resource.
use Rattle.std.proofs.Common.{◌≡◌, ℕ, List, [], ◌∷◌, ◌++◌, ap, append_assoc, sym, ◌∙◌}
use Rattle.srv_login.specs.Accounts.{bare_text}

pub full_is : (name domain resource : List ℕ) → name ++ (64 ∷ [] ++ (domain ++ (47 ∷ [] ++ resource))) ≡ bare_text name domain ++ 47 ∷ resource
full_is name domain resource = sym (append_assoc name (64 ∷ domain) (47 ∷ resource))
