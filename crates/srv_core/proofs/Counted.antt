-- A stanza counts first, and then more happens.
use Rattle.std.proofs.Common.{◌≡◌, ℕ, List, [], Some, subst, sym, refl, inl, inr}
use Rattle.std.proofs.lemmas.Bool.{cases_Bool}
use Rattle.std.specs.Option.{IsSome}
use Rattle.sm_live.specs.Sessions.{info_of, session_of}
use Rattle.sm_live.specs.declared.told.SessionInfo.{SessionInfo}
use Rattle.srv_state.proofs.InfoFacts.{lives_handling, lives_told}
use Rattle.srv_state.specs.Handling.{counting}
use Rattle.srv_state.specs.State.{Step}
use Rattle.srv_state.specs.Steps.{Act, acted}
use Rattle.xml_writer.specs.Items.{ItemOut, written_item}
pub use Rattle.srv_handlers.proofs.Counted.{counts_first as counted_first}
use Rattle.srv_handlers.proofs.Countings.{lives_counted}

pub lives_on : (t : SessionInfo) (s u : Step (List ℕ)) → Some t ≡ info_of t.number s.server_state.sessions → u ≡ acted written_item (counting t []) s → IsSome (session_of t.number u.server_state.sessions)
lives_on t s u is after = subst (λ (v : Step (List ℕ)). IsSome (session_of t.number v.server_state.sessions)) (sym after) (lives_counted t s is)
