-- What a client of items puts is mild.
use Rattle.std.proofs.Common.{ℕ, ◌≤◌, ◌&&◌, Bool, true, false, List, [], length, None, IfSome, Ok, Err, inl, inr, sym, subst, if◌then◌else◌}
use Rattle.std.specs.List.{AllByRecursion}
use Rattle.cl_core.specs.Steps.{item_step}
use Rattle.cl_core.specs.UserCalls.{catches_up, says}
use Rattle.law_limits.specs.Within.{IsPhaseWithin}
use Rattle.cl_login.specs.LoginRows as rows
use Rattle.law_client.proofs.RowsPut.{ArePut, IsBegun, IsOfOwn, Items, Step, catches_up_puts, item_puts, says_puts}
use Rattle.cl_handlers.specs.Clients.{ClientView}
use Rattle.cl_handlers.specs.Speech.{in_items}
use Rattle.cl_handlers.specs.ClientSteps.{is_apart}
use Rattle.sim_3_images.proofs.RelayableItems.{auth_relayable, relayable, submission_relayable}
use Rattle.sim_3_images.specs.Relayable.{ClientFits, IsRelayable}
use Rattle.sim_3_images.specs.CoresOwed.{ClientIsRelayable, ClientStepIsRelayable}
use Rattle.sim_3_items.specs.ItemWorlds.{read_of, silent_client_step}
use Rattle.sm_outbox.specs.Submissions.{origin_of, next_number}
use Rattle.auth_scram.specs.Exchange.{begun_client, client_first_message, is_plain}
use Rattle.auth_scram.specs.declared.fault.ScramFault.TheVariants.{BadName}
use Rattle.xml_writer.specs.Items.{ItemOut}

own : IsOfOwn IsRelayable
own = record { element = relayable; header = λ h. tt }

begun : (name password nonce : List ℕ) → length name ≤ 32 → length nonce ≤ 38 → IfSome (rows.begun (begun_client name password nonce)).put IsRelayable
begun name password nonce short few = by_case (is_plain name && is_plain password)
  where
    by_case : (c : Bool) → IfSome (rows.begun (if c then Ok (record { password = password; nonce = nonce; message = client_first_message name nonce; expected = None }) else Err BadName)).put IsRelayable
    by_case true = auth_relayable name nonce short few
    by_case false = tt

all_relayable : (apart : Bool) (more : List ItemOut) → ArePut IsRelayable apart more → AllByRecursion IsRelayable more
all_relayable apart more (inl each) = each
all_relayable apart more (inr last) = subst (AllByRecursion IsRelayable) (sym last.1) (last.2, (tt, tt))

-- ---- turns

rendered : (c : ClientView ItemOut) (u : Items) → ClientFits c → Step IsRelayable (silent_client_step c) u → ClientStepIsRelayable u
rendered c u h step = record {
  client = record { name = subst (λ a. length a.login.name ≤ 32) (sym step.account) h.relayable.name; queue = step.queue };
  put = subst (AllByRecursion IsRelayable) (sym step.put) (all_relayable (is_apart u.client.phase) step.more step.each);
}

pub client_is_relayable : ClientIsRelayable
client_is_relayable = record {
  dials_so = λ k c h. record { client = record { name = h.relayable.name; queue = h.relayable.queue }; put = (tt, tt) };
  hears = λ i c h fits. rendered c (item_step in_items (silent_client_step c) (read_of i)) h (item_puts IsRelayable own (silent_client_step c) (read_of i) (begun_within c h) h.relayable.queue);
  says_so = λ to text private c h.
      rendered c (says in_items (silent_client_step c) to text private) h
      (says_puts IsRelayable own (silent_client_step c) to text private h.relayable.queue (submission_relayable (origin_of c.account.resource c.epoch (next_number c.n)) to text private)).step;
  catches_up_so = λ most c h. rendered c (catches_up in_items (silent_client_step c) most) h (catches_up_puts IsRelayable own (silent_client_step c) most h.relayable.queue).step;
}
  where
    begun_within : (c : ClientView ItemOut) → ClientFits c → IsBegun IsRelayable c.account.login c.phase
    begun_within c h nonce at = begun c.account.login.name c.account.login.password nonce h.relayable.name (subst IsPhaseWithin at h.within.phase).short
