-- What a client is made of, or why none is made.
use Rattle.std.specs.Prelude.{ℕ, List, [], Option, Some, None, Result, Ok, Err, if◌then◌else◌}
use Rattle.cl_core.specs.Values.{ClientValue}
use Rattle.cl_handlers.specs.declared.account.Account.{Account}
use Rattle.cl_core.specs.declared.faults.ClientFault.{ClientFault}
use Rattle.cl_core.specs.declared.faults.ClientFault.TheVariants.{BadAccount, BadPassword, BadResource}
use Rattle.cl_handlers.specs.declared.phase.Phase.TheVariants.{Apart}
use Rattle.im_jid.specs.Cuts.{domain_of, local_of, resource_of}
use Rattle.im_jid.specs.Forms.{resource_form}
use Rattle.im_jid.specs.declared.fault.JidFault.{JidFault}
use Rattle.sm_outbox.specs.Submissions.{nothing_said}
use Rattle.auth_scram.specs.Exchange.{is_plain}

-- before the first connection
abbrev pub fresh : Account → ClientValue
fresh account = record {
  framer = None;
  client = record {
    account = account;
    log = record { entries = []; tiles = []; page = None; held = [] };
    said = nothing_said;
    epoch = 0;
    n = 0;
    pages = 0;
    session = None;
    phase = Apart;
  };
}

-- the account of a bare address with this local part
abbrev pub account_of : List ℕ → List ℕ → List ℕ → List ℕ → Account
account_of bare local password resource =
    record { bare = bare; resource = resource; login = record { name = local; domain = domain_of bare; password = password } }

abbrev pub made_with : List ℕ → List ℕ → List ℕ → Result (List ℕ) JidFault → Result ClientValue ClientFault
made_with bare local password (Ok resource) = Ok (fresh (account_of bare local password resource))
made_with bare local password (Err why) = Err BadResource

-- the address is bare and has a local part; the password is judged before the resource
abbrev pub made_by : List ℕ → Option (List ℕ) → Option (List ℕ) → List ℕ → Result (List ℕ) JidFault → Result ClientValue ClientFault
made_by address None resource password form = Err BadAccount
made_by address (Some local) (Some resource) password form = Err BadAccount
made_by address (Some local) None password form = if is_plain password then made_with address local password form else Err BadPassword

abbrev pub made : List ℕ → List ℕ → List ℕ → Result ClientValue ClientFault
made address password resource = made_by address (local_of address) (resource_of address) password (resource_form resource)
