-- What the server alone does with a session leaves what the client has of it.
use Rattle.std.proofs.Common.{◌≡◌, ℕ, Bool, true, false, List, [], ◌∷◌, ◌++◌, refl, sym, ap, ap₂, subst, ◌∙◌}
use Rattle.sim_5_devices.specs.Labels.{Binds, Counts, Ends, SessionStep, SessionSteps, session_stepped}
use Rattle.sim_3_items.specs.Served.{FlagsRepresent}
use Rattle.sim_1_applications.specs.Devices.{Named, NoRow, Present, Sessions, Unread, up_put}
use Rattle.sim_5_devices.specs.Told.{SameUps}
use Rattle.xml_writer.specs.Items.{ItemOut}

-- but for how far it has come at the server
pub record IsSteppedTo (d last : Sessions) : Type 0 where
  pub past : last.past ≡ d.past
  pub n : last.n ≡ d.n
  pub online : last.online ≡ d.online
  pub acked : last.now.acked ≡ d.now.acked
  pub up_got : last.now.up_got ≡ d.now.up_got
  pub up_rest : last.now.up_rest ≡ d.now.up_rest
  pub down_got : last.now.down_got ≡ d.now.down_got
  pub down_rest : last.now.down_rest ≡ d.now.down_rest
  pub available : last.now.available ≡ d.now.available
  pub carbons : last.now.carbons ≡ d.now.carbons
  pub row : last.row ≡ Present → d.row ≡ Present

one_session_step : (x : SessionStep) (d : Sessions) → IsSteppedTo d (session_stepped x d)
one_session_step Binds d = record { past = refl; n = refl; online = refl; acked = refl; up_got = refl; up_rest = refl; down_got = refl; down_rest = refl; available = refl; carbons = refl; row = λ (is : Unread ≡ Present). absurd (let bad : ⊥ = cc in bad) }
one_session_step Counts d = record { past = refl; n = refl; online = refl; acked = refl; up_got = refl; up_rest = refl; down_got = refl; down_rest = refl; available = refl; carbons = refl; row = λ is. is }
one_session_step Ends d = record { past = refl; n = refl; online = refl; acked = refl; up_got = refl; up_rest = refl; down_got = refl; down_rest = refl; available = refl; carbons = refl; row = λ (is : NoRow ≡ Present). absurd (let bad : ⊥ = cc in bad) }

then_stepped : (d there last : Sessions) → IsSteppedTo d there → IsSteppedTo there last → IsSteppedTo d last
then_stepped d there last x y = record {
  past = y.past ∙ x.past;
  n = y.n ∙ x.n;
  online = y.online ∙ x.online;
  acked = y.acked ∙ x.acked;
  up_got = y.up_got ∙ x.up_got;
  up_rest = y.up_rest ∙ x.up_rest;
  down_got = y.down_got ∙ x.down_got;
  down_rest = y.down_rest ∙ x.down_rest;
  available = y.available ∙ x.available;
  carbons = y.carbons ∙ x.carbons;
  row = λ is. x.row (y.row is);
}

pub stepped_to : (xs : List SessionStep) (d last : Sessions) → SessionSteps xs d last → IsSteppedTo d last
stepped_to [] d last same = subst (IsSteppedTo d) (sym same) (record { past = refl; n = refl; online = refl; acked = refl; up_got = refl; up_rest = refl; down_got = refl; down_rest = refl; available = refl; carbons = refl; row = λ is. is })
stepped_to (x ∷ xs) d last (may, more) = then_stepped d (session_stepped x d) last (one_session_step x d) (stepped_to xs (session_stepped x d) last more)

pub same_ups : (d last : Sessions) → IsSteppedTo d last → SameUps d last
same_ups d last x = record { past = x.past; n = x.n; online = x.online; acked = x.acked; put = ap₂ (λ got rest. got ++ rest) x.up_got x.up_rest }
