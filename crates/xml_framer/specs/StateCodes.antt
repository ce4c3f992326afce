-- A code for states, by which proofs tell them apart.
use Rattle.std.specs.Prelude.{ℕ, List, Option}
use Rattle.std.specs.Coded.{Coded, code_by, coded×, coded_list, coded_option}
use Rattle.std.proofs.Common.{refl}
use Rattle.xml_names.specs.Scopes.{Scope}
use Rattle.xml_names.specs.contracts.scopes.Binding as binding
use Rattle.xml_open.specs.OpenCodes.{coded_open}
use Rattle.xml_trees.specs.Codes.{coded_bytes}
use Rattle.xml_framer.specs.States.{OpenElement, State}
use Rattle.xml_framer.specs.contracts.fault.Fault as fault
use Rattle.xml_framer.specs.contracts.limits.Limits as limits
use Rattle.xml_framer.specs.contracts.states.Lexical as lexical
use Rattle.xml_framer.specs.contracts.states.Positions as positions
use Rattle.xml_framer.specs.declared.fault.Fault.{Fault}
use Rattle.xml_framer.specs.declared.limits.Limits.{Limits}
use Rattle.xml_framer.specs.declared.states.Lexical.{Lexical}
use Rattle.xml_framer.specs.declared.states.Positions.{Positions}

-- what is counted and asked, the bytes in hand, and what is open
abbrev Numbers : Type 0
Numbers = Limits × (Positions × (Lexical × Option Fault))

abbrev InHand : Type 0
InHand = List ℕ × (List ℕ × (List ℕ × List ℕ))

abbrev Opens : Type 0
Opens = Option OpenElement × (List OpenElement × List Scope)

abbrev numbers_coded : Coded Numbers
numbers_coded = coded× limits.the_row.coded (coded× positions.the_row.coded (coded× lexical.the_row.coded (coded_option fault.the_row.coded)))

abbrev in_hand_coded : Coded InHand
in_hand_coded = coded× coded_bytes (coded× coded_bytes (coded× coded_bytes coded_bytes))

abbrev opens_coded : Coded Opens
opens_coded = coded× (coded_option coded_open) (coded× (coded_list coded_open) (coded_list (coded_list binding.the_row.coded)))

abbrev pub state_coded : Coded State
state_coded =
    code_by (Numbers × (InHand × Opens)) (coded× numbers_coded (coded× in_hand_coded opens_coded))
    (λ s. ((s.limits, (s.positions, (s.lexical, s.fault))), ((s.token, (s.pending, (s.chars, s.name))), (s.here, (s.below, s.scopes)))))
    (λ p. record { limits = p.0.0; positions = p.0.1.0; lexical = p.0.1.1.0; token = p.1.0.0; pending = p.1.0.1.0; chars = p.1.0.1.1.0; here = p.1.1.0; below = p.1.1.1.0; scopes = p.1.1.1.1; name = p.1.0.1.1.1; fault = p.0.1.1.1 })
    (λ _. refl)
