-- Addresses that a server makes.
use Rattle.std.proofs.Common.{ℕ, List, [], Option, Some, None, IfSome, refl}
use Rattle.std.specs.Option.{option_map}
use Rattle.std.specs.Prelude.{slice_get}
use Rattle.srv_state.specs.State.{ServerState, address_shown, bare_address, full_address, name_of, session_address, shown_of}
use Rattle.sm_live.specs.Sessions.{Session, session_of}
use Rattle.srv_login.specs.declared.account.Account.{Account}
use Rattle.law_limits.proofs.Lists.{each_found, each_got}
use Rattle.law_limits.specs.Keeps.{AccountKeeps, ServerKeeps, SessionKeeps}
use Rattle.law_limits.proofs.SizesOfAddresses as texts
use Rattle.law_limits.proofs.Characters.{said_word}
use Rattle.law_limits.specs.Texts.{Said}
use Rattle.xml_writer.specs.Items.{ItemOut}

name_said : (o : Option Account) → IfSome o AccountKeeps → Said 6138 (name_of o)
name_said None h = said_word 6138 [] refl refl
name_said (Some a) h = h.name

pub bare_said : (account : ℕ) (h : ServerState ItemOut) → ServerKeeps h → Said 12282 (bare_address account h)
bare_said account h keeps = texts.bare_said (name_of (slice_get h.accounts account)) h.domain (name_said (slice_get h.accounts account) (each_got AccountKeeps h.accounts account keeps.accounts)) keeps.domain

pub full_said : (account : ℕ) (resource : List ℕ) (h : ServerState ItemOut) → ServerKeeps h → Said 6138 resource → Said 18426 (full_address account resource h)
full_said account resource h keeps said = texts.full_said (bare_address account h) resource (bare_said account h keeps) said

shown_said : (o : Option (Session ItemOut)) (h : ServerState ItemOut) → ServerKeeps h → IfSome o SessionKeeps → Said 18426 (address_shown (option_map shown_of o) h)
shown_said None h keeps found = said_word 18426 [] refl refl
shown_said (Some s) h keeps found = full_said s.shown.account s.shown.resource h keeps found.resource

pub session_said : (n : ℕ) (h : ServerState ItemOut) → ServerKeeps h → Said 18426 (session_address n h)
session_said n h keeps = shown_said (session_of n h.sessions) h keeps (each_found SessionKeeps _ h.sessions keeps.sessions)
