-- The flags of the sessions with a name, in terms of each session.
use Rattle.std.proofs.Common.{◌≡◌, ◌≢◌, ℕ, ◌==◌, ◌&&◌, Bool, true, List, [], ◌∷◌, Some, pos, sym, ◌∙◌}
use Rattle.std.specs.List.{AllByRecursion}
use Rattle.std.specs.Str.{bytes_eq}
use Rattle.srv_state.specs.State.{ServerState}
use Rattle.sm_live.specs.Rule.{IsRule}
use Rattle.sm_live.specs.Sessions.{Session, is_named, session_named, session_of}
use Rattle.sim_5_moves.proofs.RepliesFlags.{all_are_found, found_has, the_named}
use Rattle.sim_5_moves.proofs.NonStanzaActs.{IsAbout}
use Rattle.sim_3_items.specs.Served.{FlagsRepresent}
use Rattle.sim_1_applications.specs.Devices.{NoRow, Sessions}
use Rattle.sim_1_applications.specs.Events.{is_present}
use Rattle.cmd_schedule.specs.Contents.{Owned}
use Rattle.sim_5_moves.proofs.Effects.{Owns, same_owner}
use Rattle.xml_writer.specs.Items.{ItemOut}

abbrev pub Flagged : ℕ → List ℕ → Bool → Bool → Session ItemOut → Type 0
Flagged account resource available carbons s = is_named account resource s ≡ true → (s.shown.available ≡ available) × (s.shown.carbons ≡ carbons) × (s.shown.priority ≡ pos 0)

abbrev pub FlaggedAs : ℕ → List ℕ → Sessions → Session ItemOut → Type 0
FlaggedAs account resource d s = Flagged account resource (is_present d.row && d.now.available) (is_present d.row && d.now.carbons) s

pub flagged_about : (account : ℕ) (resource : List ℕ) (available carbons : Bool) → IsAbout (Flagged account resource available carbons)
flagged_about account resource available carbons s t number accounts resources availables carbonses priorities is = λ named.
    let before : is_named account resource s ≡ true = sym (λ i. (accounts i == account) && bytes_eq (resources i) resource) ∙ named in
    let f = is before in
    (availables ∙ f.0, carbonses ∙ f.1, priorities ∙ f.2)

pub owns_about : (keep : ℕ) (owned : List Owned) (names : List (List ℕ)) → IsAbout (Owns keep owned names)
owns_about keep owned names s t number accounts resources availables carbonses priorities is = same_owner keep owned names s t accounts resources is

pub flags_begin : (account : ℕ) (resource : List ℕ) (h : ServerState ItemOut) (d : Sessions) → IsRule h.sessions h.next → d.row ≢ NoRow → FlagsRepresent account resource h d → AllByRecursion (FlaggedAs account resource d) h.sessions
flags_begin account resource h d rule live represents = each h.sessions (all_are_found account resource h rule)
  where
    each : (ts : List (Session ItemOut)) → AllByRecursion (λ t. session_of t.shown.number h.sessions ≡ Some t) ts → AllByRecursion (FlaggedAs account resource d) ts
    each [] all = tt
    each (t ∷ ts) all = (λ named. represents live t (the_named account resource h rule t all.0 named), each ts all.1)

pub flags_end : (account : ℕ) (resource : List ℕ) (available carbons : Bool) (ss : List (Session ItemOut)) → AllByRecursion (Flagged account resource available carbons) ss → (t : Session ItemOut) → session_named account resource ss ≡ Some t →
    (t.shown.available ≡ available) × (t.shown.carbons ≡ carbons) × (t.shown.priority ≡ pos 0)
flags_end account resource available carbons ss all t found = let has = found_has (Flagged account resource available carbons) (is_named account resource) ss t all found in has.0 has.1
