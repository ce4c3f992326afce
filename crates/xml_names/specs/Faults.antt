-- What is true of a refusal. Want of memory is none.
use Rattle.std.specs.Bool.{⊤}
use Rattle.xml_names.specs.declared.fault.StartFault.{StartFault}
use Rattle.xml_names.specs.declared.fault.StartFault.TheVariants.{Refused, NoMemory}
use Rattle.xml_names.specs.declared.fault.StartWhy.{StartWhy}

abbrev pub IfRefused : StartFault → (StartWhy → Type 0) → Type 0
IfRefused (Refused why) P = P why
IfRefused NoMemory P = ⊤
