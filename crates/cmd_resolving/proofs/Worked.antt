-- Values worked out: what lines ask for, and a file with nothing to resolve.
use Rattle.std.proofs.Common.{◌≡◌, ℕ, List, [], ◌∷◌, Option, Some, None, codes, refl}
use Rattle.cmd_intents.specs.Files.{FileView}
use Rattle.cmd_schedule.specs.declared.schedule.Step.TheVariants.{Account, Device, Say, Catchup}
use Rattle.cmd_schedule.specs.declared.schedule.Version.TheVariants.{Two}
use Rattle.cmd_schedule.specs.declared.schedule.WireLine.{WireLine}
use Rattle.cmd_schedule.specs.declared.schedule.WireStep.TheVariants.{Common}
use Rattle.cmd_resolving.specs.Expansion.{Asked, asked, expand}

abbrev of_account : WireLine
of_account = record { number = 2; step = Common (Account (codes "ann")) }

abbrev of_device : WireLine
of_device = record { number = 3; step = Common (Device (codes "pad") (codes "ann")) }

abbrev message : ℕ → WireLine
message n = record { number = n; step = Common (Say (codes "pad") (codes "ann") (codes "hi")) }

abbrev request : ℕ → WireLine
request n = record { number = n; step = Common (Catchup (codes "pad") 5) }

abbrev file : List WireLine → List ℕ → List ℕ → FileView
file lines intents resolves = record { schedule = record { version = Two 7; lines = lines }; intents = intents; resolves = resolves }

an_intent : asked (file [] (4 ∷ []) (5 ∷ [])) (codes "desk" ∷ codes "pad" ∷ []) (message 4) ≡ Asked.NewIntent 1 (codes "ann") (codes "hi")
an_intent = refl

a_message : asked (file [] (4 ∷ []) (5 ∷ [])) (codes "desk" ∷ codes "pad" ∷ []) (message 6) ≡ Asked.Plain
a_message = refl

a_resolve_line : asked (file [] (4 ∷ []) (5 ∷ [])) (codes "desk" ∷ codes "pad" ∷ []) (request 5) ≡ Asked.Resolve (codes "pad") 1 5
a_resolve_line = refl

a_catch_up : asked (file [] (4 ∷ []) (5 ∷ [])) (codes "desk" ∷ codes "pad" ∷ []) (request 6) ≡ Asked.Plain
a_catch_up = refl

no_such_device : asked (file [] (4 ∷ []) (5 ∷ [])) (codes "desk" ∷ []) (request 5) ≡ Asked.Nothing
no_such_device = refl

nothing_to_resolve : expand (file (of_account ∷ of_device ∷ request 4 ∷ []) [] (4 ∷ [])) ≡ of_account ∷ of_device ∷ []
unfolding expand
nothing_to_resolve = refl
