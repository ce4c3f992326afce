-- What is true of a refusal. Want of memory is none.
use Rattle.std.specs.Bool.{⊤}
use Rattle.xml_tokens.specs.declared.fault.TagFault.{TagFault}
use Rattle.xml_tokens.specs.declared.fault.TagFault.TheVariants.{Refused, NoMemory}
use Rattle.xml_tokens.specs.declared.fault.TagWhy.{TagWhy}

abbrev pub IfRefused : TagFault → (TagWhy → Type 0) → Type 0
IfRefused (Refused why) P = P why
IfRefused NoMemory P = ⊤
