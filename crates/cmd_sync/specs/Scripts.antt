-- Scripts: what one says, and which texts say it.
use Rattle.std.specs.Prelude.{◌≡◌, ℕ, ◌==◌, nat_le, Bool, ◌&&◌, not, List, [], ◌∷◌, ◌++◌, IsTrue, length, codes, Result, Ok, Err, is_some, is_none, is_ok}
use Rattle.std.specs.Fmt.{decimal}
use Rattle.std.specs.List.{list_all}
use Rattle.std.specs.Str.{is_utf8}
use Rattle.im_jid.specs.Cuts.{local_of, resource_of}
use Rattle.im_jid.specs.Forms.{resource_form}
use Rattle.im_jid.specs.Normal.{normal}
use Rattle.cmd_schedule.specs.Grammar.{is_text}
use Rattle.cmd_schedule.specs.Reading.{not_empty}
use Rattle.cmd_sync.specs.declared.script.Step.{Step}
use Rattle.cmd_sync.specs.declared.script.Step.TheVariants.{Say, CatchUp}
use Rattle.cmd_sync.specs.declared.script.User.{User}

-- who logs in, and what is to be done, in order. Addresses are in normal form.
pub record ScriptView : Type 0 where
  pub user : User
  pub steps : List Step

-- ---- which scripts may be

-- a bare address with a local part (RFC 7622, section 3.1)
abbrev pub is_account : List ℕ → Bool
is_account address = is_some (local_of address) && is_none (resource_of address)

-- printable ASCII, and no space
abbrev pub is_password_byte : ℕ → Bool
is_password_byte b = nat_le 33 b && nat_le b 126

-- 1 to 100 such characters
abbrev pub is_password : List ℕ → Bool
is_password text = nat_le 1 (length text) && nat_le (length text) 100 && list_all is_password_byte text

-- a resource has a normal form (RFC 7622, section 3.4)
abbrev pub is_resource : List ℕ → Bool
is_resource text = is_ok (resource_form text)

abbrev pub may_log_in : User → Bool
may_log_in user = is_account user.address && is_password user.password && is_resource user.resource

-- a message has 1 to 1,000 bytes of text; a page has 1 to 100 entries
abbrev pub may_do : Step → Bool
may_do (Say to text) = is_text text
may_do (CatchUp max) = nat_le 1 max && nat_le max 100

pub record IsScript (script : ScriptView) : Type 0 where
  pub user : IsTrue (may_log_in script.user)
  pub steps : IsTrue (list_all may_do script.steps)

-- ---- their text: each line is UTF-8, and is ended by LF

-- a field has bytes and no space
abbrev pub is_field : List ℕ → Bool
is_field field = not_empty field && list_all (λ b. not (b == 32)) field

abbrev pub is_line : List ℕ → Bool
is_line line = is_utf8 line && list_all (λ b. not (b == 10)) line

-- a field spells the address that is its normal form
pub record SpellsAddress (spelling address : List ℕ) : Type 0 where
  pub field : IsTrue (is_field spelling)
  pub form : normal spelling ≡ Ok address

-- the line says who logs in
pub record SpellsUser (user : User) (text : List ℕ) : Type 0 where
  pub address : List ℕ
  pub spelled : SpellsAddress address user.address
  pub resource : IsTrue (is_field user.resource)
  pub whole : text ≡ codes "account " ++ (address ++ 32 ∷ (user.password ++ 32 ∷ user.resource))
  pub line : IsTrue (is_line text)

-- the line says this step
abbrev pub SpellsStep : Step → List ℕ → Type 0
SpellsStep (Say to text) line = (address : List ℕ) × SpellsAddress address to × (line ≡ codes "say " ++ (address ++ 32 ∷ text))
SpellsStep (CatchUp max) line = line ≡ codes "catchup " ++ decimal max

-- the lines say these steps
abbrev pub SpellsSteps : List Step → List ℕ → Type 0
SpellsSteps [] text = text ≡ []
SpellsSteps (step ∷ steps) text =
    (line : List ℕ) × (rest : List ℕ) × SpellsStep step line × IsTrue (is_line line) × (text ≡ line ++ 10 ∷ rest) × SpellsSteps steps rest

-- the text says this script
pub record Says (text : List ℕ) (script : ScriptView) : Type 0 where
  pub right : IsScript script
  pub line : List ℕ
  pub rest : List ℕ
  pub whole : text ≡ codes "xmpp-sync 1" ++ 10 ∷ (line ++ 10 ∷ rest)
  pub user : SpellsUser script.user line
  pub steps : SpellsSteps script.steps rest
