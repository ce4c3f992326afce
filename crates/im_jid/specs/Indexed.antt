-- What an address keeps beside its text.
use Rattle.std.specs.Prelude.{◌≡◌, ℕ, List, Ok}
use Rattle.im_jid.specs.Cuts.{bare_len, bare_of, domain_start}
use Rattle.im_jid.specs.Normal.{normal}

-- the text is in normal form, and its domain begins and its bare text ends there
pub record IsIndexed (text : List ℕ) (domain_at bare_end : ℕ) : Type 0 where
  pub normal_form : normal text ≡ Ok text
  pub domain : domain_at ≡ domain_start (bare_of text)
  pub bare : bare_end ≡ bare_len text
