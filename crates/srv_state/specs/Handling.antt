-- Stanzas of a session are handled (XEP-0198, section 4).
use Rattle.std.specs.Prelude.{if◌then◌else◌, List, ◌∷◌}
use Rattle.sm_live.specs.declared.told.SessionInfo.{SessionInfo}
use Rattle.srv_state.specs.Steps.{Act, Handle}

-- a stanza counts first, where the session's stanzas are counted
abbrev pub counting : {A : Type 0} → SessionInfo → List (Act A) → List (Act A)
counting t more = if t.counted then Handle t.number ∷ more else more
