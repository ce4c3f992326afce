-- A text that a client takes is no bad one, and its session takes it.
use Rattle.std.proofs.Common.{◌≡◌, ℕ, Bool, true, false, Ok, Err, if◌then◌else◌}
use Rattle.cl_core.specs.UserCalls.{say_in}
use Rattle.cl_core.specs.declared.faults.SayFault.TheVariants as say
use Rattle.cl_handlers.specs.Clients.{ClientView}
use Rattle.xml_writer.specs.Items.{ItemOut}

pub may_say : (c : ClientView ItemOut) (bad : Bool) (n : ℕ) → (if bad then Err say.BadText else say_in c c.session) ≡ Ok n → say_in c c.session ≡ Ok n
may_say c true n e = absurd (let no_way : ⊥ = cc in no_way)
may_say c false n e = e
