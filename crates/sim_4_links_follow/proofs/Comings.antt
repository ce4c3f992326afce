-- A connection comes under a new number: what is shown of a device stays.
use Rattle.std.proofs.Common.{◌≡◌, ◌≢◌, ℕ, List, None, sym, ◌∙◌}
use Rattle.std.specs.Ordering.{nat_cmp}
use Rattle.std.specs.declared.cmp.Ordering.TheVariants.{Less}
use Rattle.srv_state.specs.Moments.{fresh_conn, with_fresh}
use Rattle.srv_state.specs.State.{ServerState}
use Rattle.sim_3_items.specs.Identities.{Identity, Login}
use Rattle.sim_3_items.specs.Pipes.{PipesRepresent}
use Rattle.sim_3_items.specs.Servers.{ServerRepresents}
use Rattle.sim_3_images.proofs.Lookups.{found_beside_inserted}
use Rattle.sim_3_items.specs.ItemPipes.{ItemWire}
use Rattle.sim_2_links.specs.Views.{Table, View, with_at}
use Rattle.sim_4_links_follow.proofs.OthersElsewhere.{apart_from, unknown, with_beside}
use Rattle.sim_4_links_follow.proofs.Inserted.{sorted_inserted}
use Rattle.xml_writer.specs.Items.{ItemOut}

-- ---- an entry that comes among others in the order of their numbers

abbrev IsAbove : ℕ → ℕ → Type 0
IsAbove k j = nat_cmp k j ≡ Less

-- ---- the device

pub fresh_represents : (whom : Identity) (others : ℕ → Login) (h : ServerState ItemOut) (wires : Table ItemWire) (u : View ItemOut) (k : ℕ) (entropy : List ℕ) → PipesRepresent whom others wires u → ServerRepresents whom others h u → wires k ≡ None → ServerRepresents whom others (with_fresh k entropy h) u
fresh_represents whom others h wires u k entropy pipes represents none = record {
  served = record { domain = represents.served.domain; account = represents.served.account; found = represents.served.found; archive = represents.served.archive };
  server_state = record { sessions = represents.server_state.sessions; conns = sorted_inserted k (fresh_conn entropy) h.conns represents.server_state.conns };
  conns = λ j e there. found_beside_inserted j k (fresh_conn entropy) h.conns (λ same. apart_from u k j e (unknown whom others wires u pipes k none) there (sym same)) ∙ represents.conns j e there;
  row = represents.row;
  seated = represents.seated;
  owned = represents.owned;
  free = represents.free;
}

pub fresh_pipes : (whom : Identity) (others : ℕ → Login) (wires : Table ItemWire) (u : View ItemOut) (k : ℕ) (w : ItemWire) → PipesRepresent whom others wires u → wires k ≡ None → w.device ≢ whom.position → PipesRepresent whom others (with_at k w wires) u
fresh_pipes whom others wires u k w pipes none foreign = with_beside whom others wires u pipes k w (unknown whom others wires u pipes k none) foreign
