-- What a framer admits of a stream.
use Rattle.xml_framer.specs.declared.limits.Limits.{Limits}

abbrev pub server_limits : Limits
server_limits = record { bytes = 65536; depth = 32; attributes = 64; namespace_bytes = 255 }

abbrev pub client_limits : Limits
client_limits = record { bytes = 4194304; depth = 64; attributes = 256; namespace_bytes = 255 }
