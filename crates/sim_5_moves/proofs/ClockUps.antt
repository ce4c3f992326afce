-- A word goes up that is no stanza.
use Rattle.std.proofs.Common.{◌≡◌, ◌≢◌, ℕ, ◌+◌, ◌≤◌, List, [], ◌∷◌, ◌++◌, Some, length, slice_get, refl, sym, ap, subst, ◌∙◌, inl, inr, append-nil, arith}
use Rattle.std.proofs.lemmas.Bool.{cases_eq}
use Rattle.std.proofs.lemmas.Option.{same_Some}
use Rattle.sim_4_links_follow.specs.Following.{WorldFollows}
use Rattle.sim_3_images.proofs.UpMoves.{length_items_emitted}
use Rattle.sim_3_images.proofs.UserMoves.{length_where}
use Rattle.sim_3_images.specs.Relayable.{ClientFits, DownFits, ServerFits, UpFits}
use Rattle.srv_state.specs.State.{Step}
use Rattle.sim_3_images.specs.Devices.{identity_at}
use Rattle.sim_3_items.specs.Identities.{Identity, Login}
use Rattle.sim_3_items.specs.Pipes.{by_number}
use Rattle.sim_3_items.specs.WordItems.{up_item}
use Rattle.sim_3_images.specs.Stands.{ServerStateStands}
use Rattle.sim_3_images.proofs.FittingEncodings.{keep_here, takes_any}
use Rattle.sim_3_images.proofs.MoveSteps.{move_fits}
use Rattle.sim_3_images.specs.Fitting.{FitsHere}
use Rattle.sim_3_items.specs.ItemMoves.{Up, moved, served_by, served_first, served_item, step_of, takes_reported}
use Rattle.sim_3_items.specs.ItemPipes.{ItemWire, handed_up}
use Rattle.sim_3_items.specs.ItemWorlds.{ItemWorld, itself, read_of}
use Rattle.sim_2_links.specs.Views.{Table, View}
use Rattle.sim_2_links.specs.Words.{Bind, UpWord}
use Rattle.sim_5_moves.specs.Silent.{DoFlagsGo, SilentWorld}
use Rattle.cmd_schedule.specs.Contents.{Owned}
use Rattle.cmd_schedule.specs.Schedules.{WireView}
use Rattle.cmd_schedule.specs.LineLists.{IsLineList}
use Rattle.sim_4_links_follow.specs.Taking.{HasFirst, IsFirst, on_item}
use Rattle.sim_3_images.proofs.Within.{item_within}
use Rattle.sim_3_images.specs.Unbound.{IsWithin}
use Rattle.sim_3_items.specs.Served.{ServerSimulates}
use Rattle.sim_1_applications.specs.Devices.{AppWorld}
use Rattle.sim_1_applications.specs.Runs.{owned_of}
use Rattle.law_server.proofs.PieceTakes.{item_takes}
use Rattle.sim_5_moves.proofs.Fresh.{bound_fresh}
use Rattle.sim_5_moves.proofs.Goes.{apart_of, device_of, goes_up, reached}
use Rattle.sim_5_moves.proofs.Kept.{kept_flags}
use Rattle.sim_5_moves.proofs.WordKinds.{silent_does, still_silent}
use Rattle.sim_5_moves.proofs.Quietly.{quiet_device, quiet_move}
use Rattle.sim_5_moves.proofs.Wires.{at_same, emitted_same, same_twice}
use Rattle.cmd_network.specs.Positions.{changed_at}
use Rattle.sim_5_moves.proofs.Bound.{bound_bare, bound_spares}
use Rattle.sim_5_moves.proofs.WordsRunWords.{split_word, word_flags, word_runs, word_silent}
use Rattle.sim_5_moves.specs.WordsRunWords.{IsDeviceOf, IsSilent}
use Rattle.sim_4_links_follow.proofs.Headers.{item_may_go_up}
use Rattle.sim_4_links_follow.proofs.StandMoves.{move_stands}
use Rattle.sim_4_links_follow.specs.Steps.{ItemGoesUp, takes_it, takes_nothing}
use Rattle.sim_5_moves.specs.Running.{AreSmall, Bounds, DeviceSimulates, IsOwned, MoveSimulates, WorldSimulates, keep_in, names_of}
use Rattle.xml_writer.specs.Items.{ItemOut}
use Rattle.sim_5_moves.proofs.ReadStanzas.{beside_unread, none_gives, own_reads, silent_unread, unread_does}
use Rattle.sim_3_images.specs.Puts.{given_where, is_put_as_stanza, item_gives}
use Rattle.sim_3_images.specs.Reads.{item_reads, read_here}
use Rattle.cmd_world.specs.Worlds.{number_at}

module _ (schedule : WireView) (b : Bounds) (says : ℕ) (w : ItemWorld) (x : AppWorld) (right : IsLineList schedule) (small : AreSmall b) (runs : WorldSimulates schedule b says w x) (position : ℕ)
    (wire : ItemWire) (z : ItemOut) (items : List ItemOut) (there : slice_get w.wires position ≡ Some wire) (pipe : wire.up.items ≡ z ∷ items) (o : Owned) (owned : IsOwned schedule wire.device o)
    (logins : ℕ → Login) (v : View ItemOut) (has : HasFirst (identity_at schedule wire.device o) logins w.server (by_number w.wires) v (position + 1) wire z) (silent : IsSilent has.word) where
  abbrev who : Identity
  who = identity_at schedule wire.device o

  abbrev wires : Table ItemWire
  wires = by_number w.wires

  abbrev own : DeviceSimulates schedule w x wire.device o
  own = runs.simulation.devices wire.device o owned

  abbrev after : ItemWorld
  after = served_item position z w

  abbrev step : Step ItemOut
  step = on_item (position + 1) z w.server

  -- behind a word
  abbrev on_word : UpWord ItemOut → Step ItemOut
  on_word word = on_item (position + 1) (up_item who (logins (position + 1)) word) w.server

  is_after : moved (Up position) w ≡ after
  is_after = ap (λ e. served_by position e w) there ∙ ap (λ l. served_first position l w) pipe

  of : IsDeviceOf (owned_of schedule) (names_of schedule) who o
  of = device_of schedule right wire.device o owned

  -- ---- links

  goes : (i : ℕ) (p : Owned) (old : DeviceSimulates schedule w x i p) → wire.device ≡ i → ItemGoesUp (identity_at schedule i p) old.logins w old.view position wire z
  goes i p old same = goes_up schedule b small says w x runs position wire z items there pipe i p old same

  here : (i : ℕ) (p : Owned) (old : DeviceSimulates schedule w x i p) → wire.device ≡ i → WorldFollows (identity_at schedule i p) old.logins (moved (Up position) w) old.view []
  here i p old same =
      let g = goes i p old same in
      silent_does (identity_at schedule i p) (identity_at schedule i p) old.logins position w (moved (Up position) w) old.view takes_it g.has.word
      (still_silent w.server wires (position + 1) who (identity_at schedule i p) logins old.logins v old.view wire z has silent g.has) g.does

  beside : (i : ℕ) (p : Owned) → IsOwned schedule i p → (old : DeviceSimulates schedule w x i p) → (wire.device ≡ i → ⊥) → WorldFollows (identity_at schedule i p) old.logins (moved (Up position) w) old.view []
  beside i p is old apart =
      let g = goes wire.device o own refl in
      silent_does who (identity_at schedule i p) old.logins position w (moved (Up position) w) old.view takes_nothing g.has.word (still_silent w.server wires (position + 1) who who logins own.logins v own.view wire z has silent g.has)
      (g.beside (identity_at schedule i p) old.logins old.view
      (record { apart = apart_of schedule right wire.device i o p owned is apart; reached = reached schedule b small says w x runs i p old; represents = old.represents }))

  follows : (i : ℕ) (p : Owned) → IsOwned schedule i p → (old : DeviceSimulates schedule w x i p) → WorldFollows (identity_at schedule i p) old.logins (moved (Up position) w) old.view []
  follows i p is old = elim (cases_eq wire.device i) [
    | inl same ↦ here i p old same
    | inr apart ↦ beside i p is old apart
  ]

  -- ---- flags

  own_flags : DoFlagsGo who.account who.resource w.server step.server_state
  own_flags =
      subst (λ y. DoFlagsGo who.account who.resource w.server (on_item (position + 1) y w.server).server_state) has.is
      (split_word (λ word. IsFirst who logins w.server wires v (position + 1) word → DoFlagsGo who.account who.resource w.server (on_word word).server_state)
      (λ p. inr (bound_fresh who logins w.server wires v (position + 1) p (bound_bare who logins w.server wires v (position + 1) p (owned_of schedule) (names_of schedule) o of)))
      (λ word un p. inl (kept_flags who.account who.resource w.server (on_word word).server_state (λ d represents. word_flags who logins w.server wires v (position + 1) word who.account who.resource d p un represents)))
      has.word silent has.first)

  other_flags : (account : ℕ) (resource : List ℕ) → (who.account ≡ account → who.resource ≢ resource) → DoFlagsGo account resource w.server step.server_state
  other_flags account resource apart =
      subst (λ y. DoFlagsGo account resource w.server (on_item (position + 1) y w.server).server_state) has.is
      (split_word (λ word. IsFirst who logins w.server wires v (position + 1) word → DoFlagsGo account resource w.server (on_word word).server_state)
      (λ p. inl (kept_flags account resource w.server (on_word Bind).server_state (λ d represents. bound_spares who logins w.server wires v (position + 1) p (owned_of schedule) (names_of schedule) o of account resource d apart represents)))
      (λ word un p. inl (kept_flags account resource w.server (on_word word).server_state (λ d represents. word_flags who logins w.server wires v (position + 1) word account resource d p un represents)))
      has.word silent has.first)

  flags : (i : ℕ) (p : Owned) → IsOwned schedule i p → DoFlagsGo (identity_at schedule i p).account p.device w.server step.server_state
  flags i p is = elim (cases_eq wire.device i) [
    | inl same ↦
        subst (λ (q : Owned). DoFlagsGo (identity_at schedule i q).account q.device w.server step.server_state) (same_Some o p (sym owned ∙ ap (λ n. slice_get (owned_of schedule) n) same ∙ is)) own_flags
    | inr apart ↦ other_flags (identity_at schedule i p).account p.device (apart_of schedule right wire.device i o p owned is apart).name
  ]

  -- ---- the world

  many_wires : length after.wires ≡ length w.wires
  many_wires = length_items_emitted step.outs (changed_at position handed_up w.wires) ∙ length_where (Some position) handed_up w.wires

  wires_are : (q : ℕ) (other : ItemWire) → slice_get after.wires q ≡ Some other → (p : Owned) × IsOwned schedule other.device p
  wires_are q other at =
      let was = same_twice w.wires (changed_at position handed_up w.wires) after.wires (at_same handed_up (λ u. refl) position w.wires) (emitted_same step.outs (changed_at position handed_up w.wires)) q other at in
      let owner = runs.simulation.wires q was.0 was.1 in
      (owner.0, subst (λ d. IsOwned schedule d owner.0) (sym was.2) owner.1)

  server_runs : ServerSimulates (keep_in schedule) (owned_of schedule) (names_of schedule) x.takes step.server_state
  server_runs =
      subst (λ y. ServerSimulates (keep_in schedule) (owned_of schedule) (names_of schedule) x.takes (on_item (position + 1) y w.server).server_state) has.is
      (word_runs who logins w.server wires v (position + 1) (owned_of schedule) (names_of schedule) o of (keep_in schedule) x.takes runs.simulation.server has.word silent has.first)

  nothing_told : takes_reported w.moment step.outs ≡ []
  nothing_told =
      subst (λ y. takes_reported w.moment (on_item (position + 1) y w.server).outs ≡ []) has.is
      (word_silent who logins w.server wires v (position + 1) (owned_of schedule) (names_of schedule) o of w.moment has.word silent has.first)

  stands : ServerStateStands (length after.wires) after.server
  stands =
      subst (λ (a : ItemWorld). ServerStateStands (length a.wires) a.server) is_after
      (move_stands (Up position) w
      (item_may_go_up who own.logins w own.view position own.represents (reached schedule b small says w x runs wire.device o own) (λ other at. ap (λ (u : ItemWire). u.device) (same_Some other wire (sym at ∙ there)))) runs.in_bounds.stands)

  step_within : IsWithin (length w.wires) step.server_state
  step_within =
      let dialled = runs.in_bounds.dialled in
      let most = small.dials in
      item_within itself (position + 1) (read_of z) (length w.wires) (step_of w.server) (omega (arith, dialled, most)) runs.in_bounds.within

  quiet : SilentWorld schedule b w x after 0
  quiet = record {
    devices = λ i p is old. quiet_device schedule w x after i p old refl (subst (λ (a : ItemWorld). WorldFollows (identity_at schedule i p) old.logins a old.view []) is_after (follows i p is old)) (flags i p is);
    many = refl;
    dialled = subst (λ n. n ≤ b.dials) (sym many_wires) runs.in_bounds.dialled;
    wires = wires_are;
    server = server_runs;
    takes = ap (λ l. w.takes ++ l) nothing_told ∙ append-nil w.takes;
    moment = let same : w.moment ≡ w.moment + 0 = omega arith in same;
    now = (item_takes itself (position + 1) (read_of z) (step_of w.server)).1.moment ∙ runs.simulation.now;
    fits = subst FitsHere is_after (move_fits UpFits DownFits ServerFits ClientFits keep_here takes_any (Up position) w runs.in_bounds.fits tt);
    stands = stands;
    within = subst (λ n. IsWithin n step.server_state) (sym many_wires) step_within;
  }

  -- the server reads no stanza
  unheard : read_here (number_at position) (read_of z) w.server ≡ []
  unheard = ap (λ y. read_here (number_at position) (read_of y) w.server) (sym has.is) ∙ silent_unread who logins w.server wires v (position + 1) has.word has.first silent

  unread : (i : ℕ) → item_reads (Up position) w i ≡ []
  unread i = elim (cases_eq wire.device i) [
    | inl same ↦
        subst (λ j. item_reads (Up position) w j ≡ []) same
        (own_reads position w wire there (z ∷ items) pipe ∙ unheard)
    | inr apart ↦ beside_unread position w wire there (z ∷ items) pipe i (λ same. apart (sym same))
  ]

  -- so it puts none
  ungiven : (i : ℕ) → item_gives (Up position) w i ≡ []
  ungiven i = none_gives position w wire there (z ∷ items) pipe (λ whose. ap (λ l. given_where is_put_as_stanza whose l w.server (on_item (number_at position) z w.server)) unheard) i

  pub silent_runs : MoveSimulates schedule b says (Up position) w x runs
  silent_runs = quiet_move schedule b says w x runs (Up position) 0 refl (λ i d e same. same) (λ i. unread_does position w i (unread i) (ungiven i)) (subst (λ (a : ItemWorld). SilentWorld schedule b w x a 0) (sym is_after) quiet)
