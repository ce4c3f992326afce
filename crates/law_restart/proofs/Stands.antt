-- Servers stand, over any events from a start on.
use Rattle.std.proofs.Common.{◌≡◌, ◌≤◌, ℕ, zero, suc, ◌==◌, max, Bool, true, false, not, cond, List, [], ◌∷◌, Option, Some, None, drop, length, take, refl, sym, ap, subst, ◌∙◌, le_trans, le_refl}
use Rattle.std.proofs.Math.Nat.{le-max_left}
use Rattle.std.proofs.Math.Seq.{drop-append_seam}
use Rattle.std.specs.List.{AllByRecursion, slice_get}
use Rattle.std.specs.Map.{remove_entry}
use Rattle.std.specs.Prelude.{IfSome}
use Rattle.base_lemmas.proofs.Lists.{AllByRecursion-weaker}
use Rattle.law_restart.proofs.Alone.{all_alone}
use Rattle.law_restart.proofs.Framed.{Shuts, fault_shuts, items_shut, less_shut, less_shut_without, numbers_dropped, numbers_inserted, numbers_removed, numbers_set, parked_some, shuts_both, shuts_nothing, with_number, without_number}
use Rattle.law_restart.proofs.Stamped.{IsStamped, stamped_first, stamped_later, stamped_taken}
use Rattle.law_restart.specs.Standing.{AreWithin, IsStanding, WasParkedBy, numbers_of}
use Rattle.law_restart.specs.Stopping.{at_first_again}
use Rattle.law_server.proofs.PieceTakes.{bytes_take, item_takes, items_take}
use Rattle.law_server.proofs.SeatedActs.{Stands, stands_fault, stands_item}
use Rattle.law_server.proofs.Seats.{all_mapped, holds_fresh, holds_gone, holds_some}
use Rattle.law_server.proofs.SoundEvents.{sound_at_moment, sound_connect, sound_gone}
use Rattle.law_server.specs.Events.{Bytes, Connect, Event, Gone, Run, Stop, Tick, after_event, after_events, stopped_in}
use Rattle.law_server.specs.Happenings.{MayFollow, MayHappen}
use Rattle.law_server.specs.Sound.{IsSound}
use Rattle.law_server.specs.Taken.{HasTaken, Taken}
use Rattle.mam_archive.specs.declared.archive.TheConstants.{GREATEST_NUMBER}
use Rattle.sm_live.specs.Sessions.{Session, is_expired, lost, parked, session_at, with_session, without}
use Rattle.srv_core.specs.Events.{Framers, Whole, after_bytes, after_connect, at_piece, begun, dropped, fed, framer_at, news, turn_of, whole}
use Rattle.srv_core.specs.Restarts.{at_restart}
use Rattle.srv_core.specs.Table.{after_item, after_items}
use Rattle.srv_login.specs.declared.account.Account.{Account}
use Rattle.srv_state.specs.Moments.{at_moment, fresh_conn, gone_at}
use Rattle.srv_state.specs.State.{Kept, Out, ServerState, Step, archive_at, conn_at, is_number}
use Rattle.xml_framer.specs.Limits.{server_limits}
use Rattle.xml_framer.specs.States as framing
use Rattle.xml_framer.specs.States.{from_start}
use Rattle.xml_framer.specs.declared.items.Item.{Item}
use Rattle.xml_writer.specs.Items.{ItemOut}

-- ---- sessions on logins: of what was drawn, and of passwords that were proved, nothing is asked

abbrev pub AnyBytes : ℕ → List ℕ → Type 0
AnyBytes k entropy = Unit {0}

abbrev pub AnyLogin : ℕ → ℕ → Type 0
AnyLogin k account = Unit {0}

abbrev pub AreSeated : {A : Type 0} → List Account → ServerState A → Type 0
AreSeated accounts h = Stands AnyBytes AnyLogin accounts h

-- what each event keeps
pub record Goes {A : Type 0} (accounts : List Account) (w : Whole A) : Type 0 where
  pub sound : IsSound w.server_state
  pub same : w.server_state.accounts ≡ accounts
  pub seated : AreSeated accounts w.server_state
  pub parked : AllByRecursion (WasParkedBy w.server_state.moment) w.server_state.sessions
  pub stamped : (account : ℕ) → IsStamped w.server_state.moment (archive_at account w.server_state)
  pub framed : numbers_of w.framers ≡ numbers_of w.server_state.conns

pub stands_so : {A : Type 0} (accounts : List Account) (w : Whole A) → Goes accounts w → IsStanding w
stands_so accounts w goes = record {
  sound = goes.sound;
  alone = all_alone w.server_state.sessions goes.seated.single;
  seated = goes.seated.seated;
  parked = goes.parked;
  stamped = goes.stamped;
  framed = goes.framed;
}

module _ {A : Type 0} (accounts : List Account) where
  -- ---- a moment passes, and a connection comes

  goes_moment : (now : ℕ) (w : Whole A) → Goes accounts w → Goes accounts (whole (at_moment now w.server_state) w.framers)
  goes_moment now w goes =
      let h = w.server_state in
      let later : h.moment ≤ max h.moment now = le-max_left h.moment now in
      record {
        sound = sound_at_moment now h goes.sound;
        same = goes.same;
        seated = holds_some AnyBytes AnyLogin accounts ⊥ 0 (λ s. not (is_expired (max h.moment now) s)) h.sessions h.conns goes.seated;
        parked = parked_some (λ s. not (is_expired (max h.moment now) s)) (max h.moment now) h.sessions
            (AllByRecursion-weaker (WasParkedBy h.moment) (WasParkedBy (max h.moment now)) (λ s was. le_trans was later) h.sessions goes.parked);
        stamped = λ account. stamped_later h.moment (max h.moment now) (archive_at account h) later (goes.stamped account);
        framed = goes.framed;
      }

  goes_comes : (k : ℕ) (entropy : List ℕ) (now : ℕ) (w : Whole A) → conn_at k w.server_state ≡ None → Goes accounts w → Goes accounts (after_connect k entropy now w)
  goes_comes k entropy now w none goes =
      let h = at_moment now w.server_state in
      let moved = goes_moment now w goes in
      record {
        sound = sound_connect k entropy now w goes.sound;
        same = goes.same;
        seated = holds_fresh AnyBytes AnyLogin accounts ⊥ 0 k (fresh_conn entropy) h.sessions h.conns none tt tt moved.seated;
        parked = moved.parked;
        stamped = moved.stamped;
        framed = numbers_inserted k (from_start server_limits) w.framers ∙ ap (with_number k) goes.framed ∙ sym (numbers_inserted k (fresh_conn entropy) h.conns);
      }

  -- ---- a connection goes

  parked_either : (n : ℕ) (b : Bool) (x y : List (Session A)) → AllByRecursion (WasParkedBy n) x → AllByRecursion (WasParkedBy n) y → AllByRecursion (WasParkedBy n) (cond b x y)
  parked_either n true x y a b = a
  parked_either n false x y a b = b

  parked_now : (n : ℕ) (b : Bool) (s : Session A) → WasParkedBy n s → WasParkedBy n (cond b (parked n s) s)
  parked_now n true s is = le_refl n
  parked_now n false s is = is

  parked_lost : (n : ℕ) (o : Option (Session A)) (ss : List (Session A)) → AllByRecursion (WasParkedBy n) ss → AllByRecursion (WasParkedBy n) (lost n o ss)
  parked_lost n None ss all = all
  parked_lost n (Some t) ss all =
      parked_either n t.shown.resumable (with_session t.shown.number (parked n) ss) (without t.shown.number ss)
      (all_mapped (WasParkedBy n) (WasParkedBy n) (λ (s : Session A). cond (s.shown.number == t.shown.number) (parked n s) s) (λ s is. parked_now n (s.shown.number == t.shown.number) s is) ss all)
      (parked_some (λ s. not (s.shown.number == t.shown.number)) n ss all)

  goes_gone : (k : ℕ) (h : ServerState A) (framers left : Framers) → numbers_of left ≡ without_number k (numbers_of framers) → Goes accounts (whole h framers) → Goes accounts (whole (gone_at k h) left)
  goes_gone k h framers left without goes = record {
    sound = sound_gone k h goes.sound;
    same = goes.same;
    seated = holds_gone AnyBytes AnyLogin accounts ⊥ 0 k h.moment h.sessions h.conns goes.seated;
    parked = parked_lost h.moment (session_at k h.sessions) h.sessions goes.parked;
    stamped = goes.stamped;
    framed = without ∙ ap (without_number k) goes.framed ∙ sym (numbers_removed k h.conns);
  }

  -- ---- bytes come

  module _ (say : ItemOut → A) (k : ℕ) where
    seated_items : (items : List Item) (s : Step A) → IsSound s.server_state → s.server_state.accounts ≡ accounts → AreSeated accounts s.server_state → AreSeated accounts (after_items say k items s).server_state
    seated_items [] s sound same seated = seated
    seated_items (i ∷ items) s sound same seated =
        let takes = (item_takes say k i s).1 in
        seated_items items (after_item say k i s) (takes.sound sound) (takes.accounts ∙ same) (stands_item AnyBytes AnyLogin accounts say k i s sound.numbers same (λ account proves. tt) seated)

    seated_piece : (piece : List ℕ) (o : Option framing.State) (s : Step A) → IsSound s.server_state → s.server_state.accounts ≡ accounts → AreSeated accounts s.server_state → AreSeated accounts (at_piece say k piece o s).server_state
    seated_piece piece None s sound same seated = seated
    seated_piece piece (Some f) s sound same seated =
        let t = turn_of piece f in
        let takes = (items_take say k t.items s).1 in
        stands_fault AnyBytes AnyLogin accounts say k t.state.fault (after_items say k t.items s) (takes.sound sound).numbers (takes.accounts ∙ same) (seated_items t.items s sound same seated)

    pub piece_shuts : (piece : List ℕ) (o : Option framing.State) (s : Step A) → Shuts s (at_piece say k piece o s)
    piece_shuts piece None s = shuts_nothing s
    piece_shuts piece (Some f) s =
        let t = turn_of piece f in
        let done = after_items say k t.items s in
        shuts_both s done (at_piece say k piece (Some f) s) (items_shut say k t.items s) (fault_shuts say k t.state.fault done)

    news_are : (s u : Step A) (shuts : Shuts s u) → news s.outs u.outs ≡ shuts.more
    news_are s u shuts = ap (drop (length s.outs)) shuts.added ∙ drop-append_seam s.outs shuts.more

    -- framers are those that are left of these
    left_framed : (s u : Step A) (shuts : Shuts s u) (framers : Framers) → numbers_of (dropped (news s.outs u.outs) framers) ≡ less_shut shuts.more (numbers_of framers)
    left_framed s u shuts framers = numbers_dropped (news s.outs u.outs) framers ∙ ap (λ (outs : List (Out A)). less_shut outs (numbers_of framers)) (news_are s u shuts)

    goes_step : (s u : Step A) (framers left : Framers) (takes : List Taken) (has : HasTaken takes s u) (shuts : Shuts s u) → AreSeated accounts u.server_state → numbers_of left ≡ less_shut shuts.more (numbers_of framers)
        → Goes accounts (whole s.server_state framers) → Goes accounts (whole u.server_state left)
    goes_step s u framers left takes has shuts seated without goes = record {
      sound = has.sound goes.sound;
      same = has.accounts ∙ goes.same;
      seated = seated;
      parked = subst (λ (n : ℕ). AllByRecursion (WasParkedBy n) u.server_state.sessions) (sym has.moment) (shuts.parked s.server_state.moment goes.parked);
      stamped = stamped_taken takes s u has goes.stamped;
      framed = without ∙ ap (less_shut shuts.more) goes.framed ∙ sym shuts.numbers;
    }

    numbers_fed : (piece : List ℕ) (o : Option framing.State) (framers : Framers) → numbers_of (fed k piece o framers) ≡ numbers_of framers
    numbers_fed piece None framers = refl
    numbers_fed piece (Some f) framers = numbers_set k (turn_of piece f).state framers

    goes_brings : (piece : List ℕ) (now : ℕ) (r : Run A) → Goes accounts r.server → Goes accounts (after_event say (Bytes k piece now) r).server
    goes_brings piece now r goes =
        let s = begun now r.server.server_state r.outs in
        let o = framer_at k r.server.framers in
        let u = after_bytes say k piece now r.server r.outs in
        let all = bytes_take say k piece now r.server r.outs in
        let shuts = piece_shuts piece o s in
        let moved = goes_moment now r.server goes in
        let framers = fed k piece o r.server.framers in
        goes_step s u r.server.framers (dropped (news r.outs u.outs) framers) all.0 all.1 shuts (seated_piece piece o s moved.sound moved.same moved.seated)
        (left_framed s u shuts framers ∙ ap (less_shut shuts.more) (numbers_fed piece o r.server.framers)) moved

    goes_stop : (piece : List ℕ) (count now : ℕ) (o : Option framing.State) (r : Run A) → Goes accounts r.server → Goes accounts (stopped_in say k piece count now o r).server
    goes_stop piece count now None r goes = goes
    goes_stop piece count now (Some f) r goes =
        let s = begun now r.server.server_state r.outs in
        let items = take count (turn_of piece f).items in
        let u = after_items say k items s in
        let all = items_take say k items s in
        let shuts = items_shut say k items s in
        let moved = goes_moment now r.server goes in
        let framers = dropped (news r.outs u.outs) r.server.framers in
        let left = dropped (news r.outs u.outs) (remove_entry (is_number k) r.server.framers) in
        let done = goes_step s u r.server.framers framers all.0 all.1 shuts (seated_items items s moved.sound moved.same moved.seated) (left_framed s u shuts r.server.framers) moved in
        let without : numbers_of left ≡ without_number k (numbers_of framers) =
        left_framed s u shuts (remove_entry (is_number k) r.server.framers) ∙ ap (less_shut shuts.more) (numbers_removed k r.server.framers) ∙ less_shut_without k shuts.more (numbers_of r.server.framers)
        ∙ ap (without_number k) (sym (left_framed s u shuts r.server.framers)) in
        goes_gone k u.server_state framers left without done

  -- ---- any event

  pub goes_event : (say : ItemOut → A) (e : Event) (r : Run A) → MayHappen e r → Goes accounts r.server → Goes accounts (after_event say e r).server
  goes_event say (Connect k entropy now) r may goes = goes_comes k entropy now r.server may goes
  goes_event say (Bytes k piece now) r may goes = goes_brings say k piece now r goes
  goes_event say (Stop k piece count now) r may goes = goes_stop say k piece count now (framer_at k r.server.framers) r goes
  goes_event say (Gone k now) r may goes =
      goes_gone k (at_moment now r.server.server_state) r.server.framers (remove_entry (is_number k) r.server.framers) (numbers_removed k r.server.framers) (goes_moment now r.server goes)
  goes_event say (Tick now) r may goes = goes_moment now r.server goes

  goes_events : (say : ItemOut → A) (events : List Event) (r : Run A) → MayFollow say events r → Goes accounts r.server → Goes accounts (after_events say events r).server
  goes_events say [] r may goes = goes
  goes_events say (e ∷ events) r may goes = goes_events say events (after_event say e r) may.1 (goes_event say e r may.0 goes)

-- ---- a start

within_at : (archives : List Kept) (account : ℕ) → AreWithin archives → IfSome (slice_get archives account) (λ (kept : Kept). kept.last ≤ GREATEST_NUMBER)
within_at [] account within = tt
within_at (a ∷ archives) zero within = within.0
within_at (a ∷ archives) (suc account) within = within_at archives account within.1

pub goes_first : {A : Type 0} (domain : List ℕ) (accounts : List Account) (archives : List Kept) (session now : ℕ) → AreWithin archives → 1 ≤ session → Goes accounts (at_restart {A = A} domain accounts archives session now)
goes_first domain accounts archives session now within low = record {
  sound = record { numbers = low; accounts = record { sessions = tt; logins = tt }; archives = λ account. within_at archives account within };
  same = refl;
  seated = record { single = λ j. tt; seated = tt; drawn = tt; logins = tt; empty = λ b. absurd b };
  parked = tt;
  stamped = stamped_first now archives;
  framed = refl;
}

pub stands : {A : Type 0} (say : ItemOut → A) (domain : List ℕ) (accounts : List Account) (archives : List Kept) (session now : ℕ) (events : List Event) → AreWithin archives → 1 ≤ session → MayFollow say events (at_first_again domain accounts archives session now)
    → IsStanding (after_events say events (at_first_again domain accounts archives session now)).server
stands say domain accounts archives session now events within low may =
    stands_so accounts (after_events say events (at_first_again domain accounts archives session now)).server
    (goes_events accounts say events (at_first_again domain accounts archives session now) may (goes_first domain accounts archives session now within low))
