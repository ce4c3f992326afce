-- The server of a world stands, its moment has been, and its open connections are those of whose end it wasn't told. So it is
-- from the start of a world on, move by move.
use Rattle.std.proofs.Common.{◌≡◌, ℕ, ◌+◌, ◌≤◌, ◌==◌, max, Bool, true, false, cond, List, [], ◌∷◌, ◌++◌, Option, Some, None, length, refl, sym, ap, subst, arith, le_refl}
use Rattle.std.proofs.lemmas.List.{length-map}
use Rattle.std.specs.Prelude.{slice_get, slice_set, take}
use Rattle.cmd_network.specs.Devices.{DeviceState}
use Rattle.cmd_network.specs.Starting.{accounts_at_start}
use Rattle.cmd_network.specs.Wires.{amount, up_end_reported}
use Rattle.cmd_network.specs.declared.wire.Wire.{Wire}
use Rattle.cmd_report.specs.Addresses.{domain}
use Rattle.cmd_schedule.specs.Contents.{accounts_of}
use Rattle.cmd_schedule.specs.Schedules.{WireView, keep_of}
use Rattle.cmd_schedule.specs.declared.schedule.Count.{Count}
use Rattle.cmd_schedule.specs.declared.schedule.WireLine.{WireLine}
use Rattle.cmd_world.proofs.Numbers.{fresh_conn_at, numbered_move}
use Rattle.cmd_world.specs.Histories.{common_steps, world_at_start}
use Rattle.cmd_world.specs.Lines.{all_stepped}
use Rattle.cmd_world.specs.Moves as moves
use Rattle.cmd_world.specs.Moves.{Move, caught_up_by, closed_by, dialed_by, down_by, forgot_by, moved, reported_up, said_by, served, served_by, step_of_piece}
use Rattle.cmd_world.specs.Standing.{IsNumbered}
use Rattle.cmd_world.specs.Worlds.{ByteWorld, number_at, server_entropy}
use Rattle.cmd_world.proofs.AllMoves.{kept_by_lines}
use Rattle.law_restart.proofs.Framed.{Shuts, numbers_inserted, numbers_removed, with_number}
use Rattle.law_restart.proofs.Stamped.{no_stamps}
use Rattle.law_restart.proofs.Stands.{Goes, goes_event, goes_first, piece_shuts}
use Rattle.law_restart.specs.Standing.{AreWithin, numbers_of}
use Rattle.law_server.proofs.PieceTakes.{bytes_take}
use Rattle.law_server.specs.Events.{Bytes, Connect, Gone, Tick, run}
use Rattle.net_pipes.specs.Pipes.{is_end_due}
use Rattle.srv_core.specs.Configs.{archives_of, at_start}
use Rattle.srv_core.specs.Events.{Whole, after_gone, begun, framer_at, whole}
use Rattle.srv_core.specs.Restarts.{at_restart, greatest}
use Rattle.srv_login.specs.declared.account.Account.{Account}
use Rattle.srv_state.specs.Moments.{fresh_conn}
use Rattle.xml_writer.specs.Items.{written_item}
use Rattle.cmd_restart_lines.proofs.OpenOnes.{AreOpen, apart_below, open_dialed, open_less, open_told}
use Rattle.cmd_restart_lines.proofs.ToldMoves.{told, told_caught_up, told_closed, told_cut, told_dialed, told_down, told_end, told_forgot, told_in, told_said, told_served}

abbrev pub Server : Type 0
Server = Whole (List ℕ)

-- the numbers of the connections that are open at a server
abbrev pub open_at : Server → List ℕ
open_at server = numbers_of server.server_state.conns

-- of the server at a moment, where so much was told
pub record Fits (accounts : List Account) (server : Server) (moment : ℕ) (ts : List Bool) : Type 0 where
  pub goes : Goes accounts server
  pub early : server.server_state.moment ≤ moment
  pub untold : AreOpen ts (open_at server)

abbrev pub WorldFits : List Account → ByteWorld → Type 0
WorldFits accounts w = Fits accounts w.server w.moment (told_in w.wires)

pub record Stands (w : ByteWorld) : Type 0 where
  pub accounts : List Account
  pub fits : WorldFits accounts w
  pub numbered : IsNumbered w

-- ---- moves

module _ (accounts : List Account) where
  -- the server is as it was, and was told no more
  same_told : (w : ByteWorld) (ts : List Bool) → ts ≡ told_in w.wires → WorldFits accounts w → Fits accounts w.server w.moment ts
  same_told w ts same fits = subst (Fits accounts w.server w.moment) (sym same) fits

  -- a device dials
  fits_dialed : (position : ℕ) (o : Option DeviceState) (w : ByteWorld) → IsNumbered w → WorldFits accounts w → WorldFits accounts (dialed_by position o w)
  fits_dialed position None w numbered fits = fits
  fits_dialed position (Some d) w numbered fits =
      let k = number_at (length w.wires) in
      let h = w.server.server_state in
      let ts = told_in w.wires in
      let many = length-map w.wires told in
      let early = fits.early in
      let untold : AreOpen (ts ++ false ∷ []) (with_number k (numbers_of h.conns)) =
      open_dialed k ts (numbers_of h.conns) (omega (arith, many)) (apart_below (length w.wires) k h.conns (omega arith) numbered.0) fits.untold in
      record {
        goes = goes_event accounts written_item (Connect k (server_entropy k) w.moment) (run w.server []) (fresh_conn_at w numbered) fits.goes;
        early = (let now : max h.moment w.moment ≤ w.moment = omega (arith, early) in now);
        untold = subst (λ (us : List Bool). AreOpen us (numbers_of (dialed_by position (Some d) w).server.server_state.conns)) (sym (told_dialed position d w))
            (subst (AreOpen (ts ++ false ∷ [])) (sym (numbers_inserted k (fresh_conn (server_entropy k)) h.conns)) untold);
      }

  -- bytes come
  fits_served : (position n : ℕ) (b : Wire) (w : ByteWorld) → slice_get w.wires position ≡ Some b → WorldFits accounts w → WorldFits accounts (served position n b w)
  fits_served position n b w there fits =
      let k = number_at position in
      let piece = take n b.up.bytes in
      let h = w.server.server_state in
      let s = begun w.moment h [] in
      let done = step_of_piece k piece w.moment w.server in
      let has = (bytes_take written_item k piece w.moment w.server []).1 in
      let moment : done.server_state.moment ≡ max h.moment w.moment = has.moment in
      let early = fits.early in
      let shuts : Shuts s done = piece_shuts accounts written_item k piece (framer_at k w.server.framers) s in
      record {
        goes = goes_event accounts written_item (Bytes k piece w.moment) (run w.server []) tt fits.goes;
        early = (let now : done.server_state.moment ≤ w.moment = omega (arith, moment, early) in now);
        untold = subst (λ (us : List Bool). AreOpen us (numbers_of done.server_state.conns)) (sym (told_served position n b w there))
            (subst (AreOpen (told_in w.wires)) (sym shuts.numbers) (open_less shuts.more (told_in w.wires) (numbers_of h.conns) fits.untold));
      }

  fits_either : (c : Bool) (v w : ByteWorld) → WorldFits accounts v → WorldFits accounts w → WorldFits accounts (cond c v w)
  fits_either true v w a b = a
  fits_either false v w a b = b

  fits_served_by : (position : ℕ) (count : Count) (o : Option Wire) (w : ByteWorld) → slice_get w.wires position ≡ o → WorldFits accounts w → WorldFits accounts (served_by position count o w)
  fits_served_by position count None w there fits = fits
  fits_served_by position count (Some b) w there fits =
      let n = amount count b.up in
      fits_either (n == 0) w (served position n b w) fits (fits_served position n b w there fits)

  -- the server is told that a connection is gone
  fits_told : (position : ℕ) (o : Option Wire) (w : ByteWorld) → WorldFits accounts w → WorldFits accounts (reported_up position o w)
  fits_told position None w fits = fits
  fits_told position (Some b) w fits =
      let k = number_at position in
      let h = w.server.server_state in
      let ts = told_in w.wires in
      let v : ByteWorld = record w { server = after_gone k w.moment w.server; wires = slice_set w.wires position (up_end_reported b) } in
      let early = fits.early in
      let gone : WorldFits accounts v = record {
        goes = goes_event accounts written_item (Gone k w.moment) (run w.server []) tt fits.goes;
        early = (let now : max h.moment w.moment ≤ w.moment = omega (arith, early) in now);
        untold = subst (λ (us : List Bool). AreOpen us (numbers_of v.server.server_state.conns)) (sym (told_end position b w.wires))
            (subst (AreOpen (slice_set ts position true)) (sym (numbers_removed k h.conns)) (open_told position k ts (numbers_of h.conns) refl fits.untold));
      } in
      fits_either (is_end_due b.up) v w gone fits

  fits_up : (position : ℕ) (count : Count) (w : ByteWorld) → WorldFits accounts w → WorldFits accounts (moved (moves.Up position count) w)
  fits_up position count w fits =
      let v = served_by position count (slice_get w.wires position) w in
      fits_told position (slice_get v.wires position) v (fits_served_by position count (slice_get w.wires position) w refl fits)

  -- time passes
  fits_tick : (milliseconds : ℕ) (w : ByteWorld) → WorldFits accounts w → WorldFits accounts (moved (moves.Tick milliseconds) w)
  fits_tick milliseconds w fits =
      let early = fits.early in
      record {
        goes = goes_event accounts written_item (Tick (w.moment + milliseconds)) (run w.server []) tt fits.goes;
        early = (let now : max w.server.server_state.moment (w.moment + milliseconds) ≤ w.moment + milliseconds = omega (arith, early) in now);
        untold = fits.untold;
      }

  fits_forgot : (position : ℕ) (o : Option DeviceState) (w : ByteWorld) → WorldFits accounts w → WorldFits accounts (forgot_by position o w)
  fits_forgot position None w fits = fits
  fits_forgot position (Some d) w fits = same_told w _ (told_forgot position (Some d) w) fits

  fits_closed : (position : ℕ) (o : Option DeviceState) (w : ByteWorld) → WorldFits accounts w → WorldFits accounts (closed_by position o w)
  fits_closed position None w fits = fits
  fits_closed position (Some d) w fits = same_told w _ (told_closed position (Some d) w) fits

  fits_said : (position line : ℕ) (to text : List ℕ) (private : Bool) (o : Option DeviceState) (w : ByteWorld) → WorldFits accounts w → WorldFits accounts (said_by position line to text private o w)
  fits_said position line to text private None w fits = fits
  fits_said position line to text private (Some d) w fits = same_told w _ (told_said position line to text private (Some d) w) fits

  fits_caught_up : (position line most : ℕ) (o : Option DeviceState) (w : ByteWorld) → WorldFits accounts w → WorldFits accounts (caught_up_by position line most o w)
  fits_caught_up position line most None w fits = fits
  fits_caught_up position line most (Some d) w fits = same_told w _ (told_caught_up position line most (Some d) w) fits

  fits_down_to : (position : ℕ) (count : Count) (b : Wire) (o : Option DeviceState) (w : ByteWorld) → told_in (moves.down_to position count b o w).wires ≡ told_in w.wires → WorldFits accounts w → WorldFits accounts (moves.down_to position count b o w)
  fits_down_to position count b None w same fits = fits
  fits_down_to position count b (Some d) w same fits = same_told w _ same fits

  fits_down : (position : ℕ) (count : Count) (o : Option Wire) (w : ByteWorld) → slice_get w.wires position ≡ o → WorldFits accounts w → WorldFits accounts (down_by position count o w)
  fits_down position count None w there fits = fits
  fits_down position count (Some b) w there fits = fits_down_to position count b (slice_get w.devices b.device) w (told_down position count (Some b) w there) fits

  fits_move : (m : Move) (w : ByteWorld) → IsNumbered w → WorldFits accounts w → WorldFits accounts (moved m w)
  fits_move (moves.Dial position) w numbered fits = fits_dialed position (slice_get w.devices position) w numbered fits
  fits_move (moves.Forget position) w numbered fits = fits_forgot position (slice_get w.devices position) w fits
  fits_move (moves.Close position) w numbered fits = fits_closed position (slice_get w.devices position) w fits
  fits_move (moves.Say position line to text private) w numbered fits = fits_said position line to text private (slice_get w.devices position) w fits
  fits_move (moves.CatchUp position line most) w numbered fits = fits_caught_up position line most (slice_get w.devices position) w fits
  fits_move (moves.Tick milliseconds) w numbered fits = fits_tick milliseconds w fits
  fits_move (moves.Up position count) w numbered fits = fits_up position count w fits
  fits_move (moves.Down position count) w numbered fits = fits_down position count (slice_get w.wires position) w refl fits
  fits_move (moves.Cut position up down) w numbered fits = same_told w _ (told_cut position up down w) fits

pub stands_move : (m : Move) (w : ByteWorld) → Stands w → Stands (moved m w)
stands_move m w stands = record { accounts = stands.accounts; fits = fits_move stands.accounts m w stands.numbered stands.fits; numbered = numbered_move m w stands.numbered }

-- ---- the start

none_given : (of : List ℕ) (keep : ℕ) (accounts : List Account) → AreWithin (archives_of of keep accounts)
none_given of keep [] = tt
none_given of keep (a ∷ accounts) = ((let low : 0 ≤ 4294967295 = omega arith in low), none_given of keep accounts)

-- a server that is started with blank archives is one at its start
blank_start : (of : List ℕ) (keep : ℕ) (accounts : List Account) → at_restart {A = List ℕ} of accounts (archives_of of keep accounts) 1 0 ≡ at_start of accounts keep
blank_start of keep accounts =
    ap (λ (stamps : List ℕ). whole (record { domain = of; accounts = accounts; archives = archives_of of keep accounts; sessions = []; next = 1; conns = []; moment = greatest 0 stamps }) []) (no_stamps of keep accounts)

pub stands_at_start : (schedule : WireView) → Stands (world_at_start schedule)
stands_at_start schedule =
    let accounts = accounts_at_start (accounts_of (common_steps schedule)) in
    let keep = keep_of schedule.version in
    record {
      accounts = accounts;
      fits = record {
        goes = subst (Goes accounts) (blank_start domain keep accounts) (goes_first domain accounts (archives_of domain keep accounts) 1 0 (none_given domain keep accounts) (omega arith));
        early = le_refl 0;
        untold = tt;
      };
      numbered = (tt, tt);
    }

pub stands_behind : (schedule : WireView) (lines : List WireLine) → Stands (all_stepped lines (world_at_start schedule))
stands_behind schedule lines = kept_by_lines Stands stands_move lines (world_at_start schedule) (stands_at_start schedule)
