-- Behind an item that is no stanza the server runs on.
use Rattle.std.proofs.Common.{◌≡◌, ℕ, List, [], ◌∷◌}
use Rattle.std.specs.List.{AllByRecursion}
use Rattle.srv_state.specs.State.{ServerState}
use Rattle.srv_state.specs.Streams.{standing_at}
use Rattle.sim_3_items.specs.ItemMoves.{step_of, takes_reported}
use Rattle.sim_3_items.specs.ItemWorlds.{itself, read_of}
use Rattle.sm_live.specs.Rule.{IsRule}
use Rattle.sm_live.specs.Sessions.{Session}
use Rattle.sim_5_moves.proofs.Effects.{Owns, runs_on}
use Rattle.sim_5_moves.proofs.Walks.{Goes, stands}
use Rattle.cmd_schedule.specs.Contents.{Owned}
use Rattle.srv_core.specs.Table.{at_open}
use Rattle.sim_5_moves.proofs.Flagged.{FlaggedAs, flagged_about, flags_begin, flags_end, owns_about}
use Rattle.sim_5_moves.proofs.NonStanzaActs.{IsAbout, then_non_stanza}
use Rattle.sim_5_moves.proofs.NonStanzaRows.{open_non_stanza}
use Rattle.sim_5_moves.specs.Coming.{IsNonStanza, behind_item}
use Rattle.sim_3_items.specs.Served.{FlagsRepresent, ServerSimulates}
use Rattle.sim_1_applications.specs.Devices.{Sessions, Take}
use Rattle.xml_writer.specs.Items.{ItemOut}

pub all_any : (ss : List (Session ItemOut)) → AllByRecursion (λ s. Unit {0}) ss
all_any [] = tt
all_any (s ∷ ss) = (tt, all_any ss)

module _ (h : ServerState ItemOut) (k : ℕ) (z : ItemOut) (is : IsNonStanza z) where
  non_stanza_goes : (P : Session ItemOut → Type 0) → IsAbout P → AllByRecursion P h.sessions → Goes P (step_of h) (behind_item k z h)
  non_stanza_goes P about all = then_non_stanza P about (at_open itself k (read_of z) (standing_at k h) h) (open_non_stanza k z (standing_at k h) h is) (step_of h) (step_of h) (stands P (step_of h) all)

  pub non_stanza_runs : (keep : ℕ) (owned : List Owned) (names : List (List ℕ)) (takes : List Take) → ServerSimulates keep owned names takes h → ServerSimulates keep owned names takes (behind_item k z h).server_state
  non_stanza_runs keep owned names takes runs =
      let goes = non_stanza_goes (Owns keep owned names) (owns_about keep owned names) runs.sessions in
      runs_on keep owned names takes h (behind_item k z h).server_state goes.domain goes.accounts goes.archives goes.sessions runs

  pub non_stanza_silent : (moment : ℕ) → takes_reported moment (behind_item k z h).outs ≡ []
  non_stanza_silent moment = (non_stanza_goes (λ s. Unit {0}) (λ s t number account resource available carbons priority is. tt) (all_any h.sessions)).told moment

  pub non_stanza_flags : (account : ℕ) (resource : List ℕ) (d : Sessions) → IsRule h.sessions h.next → FlagsRepresent account resource h d → FlagsRepresent account resource (behind_item k z h).server_state d
  non_stanza_flags account resource d rule represents = λ live t found.
      let goes = non_stanza_goes (FlaggedAs account resource d) (flagged_about account resource _ _) (flags_begin account resource h d rule live represents) in
      flags_end account resource _ _ (behind_item k z h).server_state.sessions goes.sessions t found
