-- Where a word asks for a binding, the device may bind.
use Rattle.std.proofs.Common.{◌≡◌, ◌≢◌, ℕ, List, [], None, Ok, refl, sym, ap, subst}
use Rattle.srv_state.specs.State.{ServerState}
use Rattle.sim_3_items.specs.Identities.{Identity, Login}
use Rattle.sim_3_items.specs.WordItems.{up_item}
use Rattle.sim_3_items.specs.ItemMoves.{takes_reported}
use Rattle.sim_3_items.specs.ItemPipes.{ItemWire}
use Rattle.im_jid.specs.Forms.{resource_form}
use Rattle.sim_2_links.proofs.Expected.{expected_up}
use Rattle.sim_2_links.specs.Links.{LinkKept}
use Rattle.sim_2_links.specs.Views.{Table, View, on_phase, session_on}
use Rattle.sim_2_links.specs.Words.{Bind, Ready}
use Rattle.im_requests.specs.Sessions.{bind_item}
use Rattle.cmd_schedule.specs.Contents.{Owned}
use Rattle.sim_4_links_follow.proofs.HandMoves.{kept_here, open_here}
use Rattle.sim_4_links_follow.proofs.Leavings.{unseated}
use Rattle.sim_4_links_follow.specs.Taking.{IsFirst, on_item}
use Rattle.sim_5_moves.proofs.Binding.{bind_flags, bind_runs, bind_silent, bind_spares}
use Rattle.sim_5_moves.specs.Coming.{MayBind, behind_item}
use Rattle.sim_3_items.specs.Served.{FlagsRepresent, ServerSimulates}
use Rattle.sim_1_applications.specs.Devices.{Sessions, Take, new_device}
use Rattle.sim_1_applications.specs.Events.{binds}
use Rattle.sim_5_moves.specs.WordsRunWords.{IsBare, IsDeviceOf}
use Rattle.xml_writer.specs.Items.{ItemOut}

module _ (who : Identity) (logins : ℕ → Login) (h : ServerState ItemOut) (wires : Table ItemWire) (v : View ItemOut) (k : ℕ) (p : IsFirst who logins h wires v k Bind) where
  abbrev kept : LinkKept v
  kept = kept_here who logins h wires v k Bind p

  ready : p.conn.phase ≡ Ready
  ready = expected_up v k p.conn Bind p.rest kept p.is p.first

  off : session_on p.conn ≡ None
  off = ap (λ q. on_phase q p.conn.ending p.conn.gone) ready

  -- a device with its account and its resource
  module _ (owned : List Owned) (names : List (List ℕ)) (o : Owned) (of : IsDeviceOf owned names who o) where
    may_bind : MayBind owned names k who.account o h
    may_bind = record {
      position = who.position;
      there = of.there;
      named = of.account;
      some = subst (λ t. t ≢ []) of.resource p.normal.chosen;
      normal = subst (λ t. resource_form t ≡ Ok t) of.resource p.normal.resource;
      conn = _;
      open_one = open_here who logins h wires v k Bind p Ready ready;
      ready = refl;
      free = unseated who logins h v kept p.server k p.conn p.is off;
    }

    item_is : behind_item k (bind_item o.device) h ≡ on_item k (up_item who (logins k) Bind) h
    item_is = ap (λ t. behind_item k (bind_item t) h) (sym of.resource)

    pub bound_runs : (keep : ℕ) (takes : List Take) → ServerSimulates keep owned names takes h → ServerSimulates keep owned names takes (on_item k (up_item who (logins k) Bind) h).server_state
    bound_runs keep takes runs = subst (λ s. ServerSimulates keep owned names takes s.server_state) item_is (bind_runs owned names k who.account o h may_bind keep takes runs)

    pub bound_silent : (moment : ℕ) → takes_reported moment (on_item k (up_item who (logins k) Bind) h).outs ≡ []
    bound_silent moment = subst (λ s. takes_reported moment s.outs ≡ []) item_is (bind_silent owned names k who.account o h may_bind moment)

    pub bound_bare : IsBare who.account who.resource (on_item k (up_item who (logins k) Bind) h).server_state
    bound_bare = λ s found.
        let d = (new_device []).sessions in
        let represents = bind_flags owned names k who.account o h may_bind d p.server.server_state.sessions in
        let here = subst (λ step. FlagsRepresent who.account o.device step.server_state (binds d)) item_is represents in
        let own = subst (λ t. FlagsRepresent who.account t (on_item k (up_item who (logins k) Bind) h).server_state (binds d)) (sym of.resource) here in
        own (λ none. absurd (let no_way : ⊥ = cc in no_way)) s found

    pub bound_spares : (account : ℕ) (resource : List ℕ) (d : Sessions) → (who.account ≡ account → who.resource ≢ resource) → FlagsRepresent account resource h d → FlagsRepresent account resource (on_item k (up_item who (logins k) Bind) h).server_state d
    bound_spares account resource d apart represents =
        subst (λ s. FlagsRepresent account resource s.server_state d) item_is
        (bind_spares owned names k who.account o h may_bind account resource d p.server.server_state.sessions (λ same. subst (λ t. t ≢ resource) of.resource (apart same)) represents)
