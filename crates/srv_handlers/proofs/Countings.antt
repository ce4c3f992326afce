-- A request counts as handled before what it leads to.
use Rattle.std.proofs.Common.{◌≡◌, ℕ, Bool, true, false, List, [], ◌∷◌, Some, if◌then◌else◌, refl, inl, inr}
use Rattle.std.proofs.lemmas.Bool.{cases_Bool}
use Rattle.std.specs.Option.{IsSome}
use Rattle.srv_state.proofs.InfoFacts.{lives_handling, lives_told}
use Rattle.srv_state.specs.Handling.{counting}
use Rattle.srv_state.specs.State.{Step}
use Rattle.srv_state.specs.Steps.{Act, Handle, acted}
use Rattle.sm_live.specs.Sessions.{info_of, session_of}
use Rattle.sm_live.specs.declared.told.SessionInfo.{SessionInfo}
use Rattle.xml_writer.specs.Items.{written_item}

counts_so : (counted : Bool) (n : ℕ) (more : List (Act (List ℕ))) (s : Step (List ℕ))
    → acted written_item more (acted written_item (if counted then Handle n ∷ [] else []) s) ≡ acted written_item (if counted then Handle n ∷ more else more) s
counts_so true n more s = refl
counts_so false n more s = refl

pub counts_first : (t : SessionInfo) (more : List (Act (List ℕ))) (s : Step (List ℕ))
    → acted written_item more (acted written_item (counting t []) s) ≡ acted written_item (counting t more) s
counts_first t more s = counts_so t.counted t.number more s

-- a session that is told of lives on where its stanzas count
pub lives_counted : (t : SessionInfo) (s : Step (List ℕ)) → Some t ≡ info_of t.number s.server_state.sessions → IsSome (session_of t.number (acted written_item (counting t []) s).server_state.sessions)
lives_counted t s is =
    elim (cases_Bool t.counted) [
      | inl counted ↦ rw counted (lives_handling t.number s.server_state.sessions (lives_told (session_of t.number s.server_state.sessions) t is))
      | inr uncounted ↦ rw uncounted (lives_told (session_of t.number s.server_state.sessions) t is)
    ]
