-- What a fault of the door is to the server.
use Rattle.net_traits.specs.declared.fault.OpenFault.{OpenFault}
use Rattle.net_traits.specs.declared.fault.OpenFault.TheVariants as opens
use Rattle.net_hub.specs.declared.fault.HubFault.{HubFault}
use Rattle.net_hub.specs.declared.fault.HubFault.TheVariants.{LinkFault, NoMemory}

abbrev pub of_door : OpenFault → HubFault
of_door opens.Failed = LinkFault
of_door opens.NoMemory = NoMemory
