-- What the contracts of a client's calls say is a call of the table.
use Rattle.std.proofs.Common.{◌≡◌, ℕ, Bool, List, Option, Some, None, Ok, is_ok, ap, ap₂}
use Rattle.cl_core.specs.Feeds.{Fed, IsLostIn, IsMemoryLost}
use Rattle.cl_core.specs.UserCalls.{catch_up_answer, catches_up, say_answer, says}
use Rattle.law_client.specs.Calls.{CatchUp, Cut, Say, called, caught_up_by, cut_in, said_by}
use Rattle.cl_handlers.specs.Speech.{Speech}
use Rattle.xml_framer.specs.States.{State}

lost_in : {A X : Type 0} (speech : Speech A X) (old new : Fed A X) (o : Option State) (piece : List ℕ) → IsLostIn speech o old.turn piece new → (done : ℕ) × (new ≡ cut_in speech old o piece done)
lost_in speech old new None piece lost = absurd lost
lost_in speech old new (Some state) piece lost = (lost.done, ap₂ (λ framer turn. record { framer = framer; turn = turn }) lost.framer lost.turn)

pub lost_is_cut : {A X : Type 0} (speech : Speech A X) (old new : Fed A X) (piece : List ℕ) → IsMemoryLost speech old piece new → (done : ℕ) × (new ≡ called speech (Cut piece done) old)
lost_is_cut speech old new piece lost = lost_in speech old new old.framer piece lost

pub said_is : {A X : Type 0} (speech : Speech A X) (f : Fed A X) (to text : List ℕ) (private : Bool) (n : ℕ) → say_answer f.turn.client text ≡ Ok n → called speech (Say to text private) f ≡ record f { turn = says speech f.turn to text private }
said_is speech f to text private n taken = ap (λ answer. said_by speech f to text private (is_ok answer)) taken

pub caught_up_is : {A X : Type 0} (speech : Speech A X) (f : Fed A X) (max : ℕ) → catch_up_answer f.turn.client ≡ Ok tt → called speech (CatchUp max) f ≡ record f { turn = catches_up speech f.turn max }
caught_up_is speech f max taken = ap (λ answer. caught_up_by speech f max (is_ok answer)) taken
