-- The client reads that a session was bound for it, and begins an epoch.
use Rattle.std.proofs.Common.{◌≡◌, ℕ, ◌+◌, Bool, true, false, if◌then◌else◌, List, [], ◌∷◌, ◌++◌, refl, sym, ap, ◌∙◌, subst, ◌⊎◌, inl, inr, Option, None, Some}
use Rattle.std.proofs.lemmas.Bool.{cases_eq}
use Rattle.sim_2_links.proofs.Entries.{same_number, at_same, at_other, Entry, New, Old, entry, was, altered, has_is, is_has}
use Rattle.sim_2_links.proofs.Tables.{left_down_whole}
use Rattle.sim_2_links.proofs.CutLinks.{not_true, some_one, there_cut}
use Rattle.sim_2_links.proofs.Hands.{no_entry, piped_down}
use Rattle.sim_2_links.proofs.Asking.{steps, steps_at}
use Rattle.sim_2_links.proofs.ReadResumed.{phase_session}
use Rattle.sim_2_links.proofs.Detached.{carries_at}
use Rattle.sim_2_links.proofs.StepParts.{none_carried, RowsAfter}
use Rattle.sim_2_links.specs.Words.{Enable, DownWord, Bound, InBind, InEnable}
use Rattle.sim_2_links.specs.Wires.{down_whole, left_down}
use Rattle.sim_2_links.specs.Stages.{Stage, AsksResume, Resumes, AsksBind, Binds, AsksEnable, Runs, client_of, down_of, Ending, Stands, Errs, Closes, tail_of, Conn, IsAt}
use Rattle.sim_2_links.specs.Views.{Table, with_at, alter, has, Session, Row, View, on_phase, session_on, carries}
use Rattle.sim_2_links.specs.SessionMoves.{IsReadBound}
use Rattle.sim_2_links.specs.Links.{ArePiped, IsAsked, FitsOwn, is_yet, ConnKept, IsIdle, IsPlaced, SessionKept, LinkKept}

no_tail : {A C : Type 0} (end : Ending) (m : ℕ) (rest : List (DownWord A)) → tail_of end ≡ Bound m ∷ rest → C
no_tail Stands m rest e = absurd (let no_way : ⊥ = cc in no_way)
no_tail (Errs x) m rest e = absurd (let no_way : ⊥ = cc in no_way)
no_tail Closes m rest e = absurd (let no_way : ⊥ = cc in no_way)

pub at_bound : {A : Type 0} (s : Stage A) (end : Ending) (m : ℕ) (rest : List (DownWord A)) → client_of s ≡ InBind → down_of s ++ tail_of end ≡ Bound m ∷ rest → s ≡ Binds m
at_bound (Binds q) end m rest e f = let one : q ≡ m = cc in ap (λ x. Binds x) one
at_bound AsksBind end m rest e f = no_tail end m rest f
at_bound (AsksResume q h) end m rest e f = absurd (let no_way : ⊥ = cc in no_way)
at_bound (Resumes q h downs) end m rest e f = absurd (let no_way : ⊥ = cc in no_way)
at_bound (Runs q ups downs) end m rest e f = absurd (let no_way : ⊥ = cc in no_way)
at_bound _ end m rest e f = absurd (let no_way : ⊥ = cc in no_way)

abbrev pub named_if : {A : Type 0} → Bool → ℕ → Session A → Session A
named_if b e s = record s { epoch = if b then Some e else s.epoch }

named_kept : {A : Type 0} (b : Bool) (e : ℕ) (s : Session A) → SessionKept s → SessionKept (named_if b e s)
named_kept false e s kept = kept
named_kept true e s kept = record {
  up = kept.up;
  down = kept.down;
  begun = kept.begun;
  read = kept.read;
  epoch = λ c. (e, refl);
  unread = kept.unread;
  unheard = kept.unheard;
}

named_epoch : {A : Type 0} (b : Bool) (e old : ℕ) (s : Session A) → s.epoch ≡ Some old → (n : ℕ) × ((named_if b e s).epoch ≡ Some n)
named_epoch false e old s is = (old, is)
named_epoch true e old s is = (e, refl)

named_asked : {A : Type 0} (m e : ℕ) (sessions : Table (Session A)) (s : Stage A) → IsAsked sessions s → IsAsked (alter (λ q t. named_if (has (Some m) q) e t) sessions) s
named_asked m e sessions (AsksResume q h) (s, is, read, stated) = (named_if (has (Some m) q) e s, altered (λ q t. named_if (has (Some m) q) e t) sessions q s is, read, stated)
named_asked m e sessions (AsksEnable q) (s, n, is, epoch) =
    let now = named_epoch (has (Some m) q) e n s epoch in
    (named_if (has (Some m) q) e s, now.0, altered (λ q t. named_if (has (Some m) q) e t) sessions q s is, now.1)
named_asked m e sessions _ a = tt

pub read_bound_keeps : {A : Type 0} (k m : ℕ) (v next : View A) → IsReadBound k m v next → LinkKept v → LinkKept next
read_bound_keeps {A = A} k number v next m kept = subst LinkKept (sym m.gives) (record {
  there = λ n here. there_cut v kept k this n here;
  conns = λ n d found. conn n d (entry k this v.conns n d found);
  row = λ r found. row r (kept.row r found);
  own = λ o found. no_entry o (sym fits.0 ∙ found);
  sessions = λ q s found. let w = was f v.sessions q s found in subst SessionKept w.2 (named_kept (has (Some number) q) (v.epoch + 1) w.0 (kept.sessions q w.0 w.1));
  goes_down = λ n d q here found carried. absurd (silent n d q here carried (entry k this v.conns n d found));
  idle_up = λ q s found counted.
      let w = was f v.sessions q s found in
      let before : w.0.counted ≡ true = ap (λ (x : Session A). x.counted) w.2 ∙ counted in
      elim (kept.idle_up q w.0 w.1 before) [ inl quiet ↦ inl (subst (λ (x : Session A). IsIdle x.up) w.2 quiet) | inr x ↦ inr x ];
  idle_down = λ q s found counted.
      let w = was f v.sessions q s found in
      let before : w.0.counted ≡ true = ap (λ (x : Session A). x.counted) w.2 ∙ counted in
      elim (kept.idle_down q w.0 w.1 before) [ inl quiet ↦ inl (subst (λ (x : Session A). IsIdle x.down) w.2 quiet) | inr x ↦ absurd (none_carried v k m.conn m.here m.is (λ p e. no_entry p (sym (carries_at (Binds number) m.conn before_at) ∙ e)) q x) ];
  late = λ n d q found away on carried. absurd (silent carried.0 carried.1 q carried.2 carried.4 (entry k this v.conns carried.0 carried.1 carried.3));
})
  where
    this : Conn A
    this = steps m.conn InEnable (Enable ∷ []) m.rest

    f : ℕ → Session A → Session A
    f = λ q s. named_if (has (Some number) q) (v.epoch + 1) s

    old : ConnKept v k m.conn
    old = kept.conns k m.conn m.is

    works : has v.here k ≡ true
    works = is_has v.here k m.here

    is_binds : old.stage ≡ Binds number
    is_binds = at_bound old.stage m.conn.ending number (down_whole (left_down m.rest m.conn.wires)) (sym old.at.client ∙ m.client) (sym old.at.down ∙ left_down_whole (Bound number) m.rest m.conn.wires m.first)

    before_at : IsAt (Binds number) m.conn
    before_at = subst (λ x. IsAt x m.conn) is_binds old.at

    at : IsAt (AsksEnable number) (steps m.conn InEnable (Enable ∷ []) m.rest)
    at = steps_at (Binds number) (AsksEnable number) m.conn (Bound number) m.rest InEnable (Enable ∷ []) before_at (old.piped.unfooted works) m.first refl refl refl refl (λ e. absurd e)

    fits : FitsOwn v.own v.epoch v.sessions (Binds number)
    fits = subst (λ x. FitsOwn v.own v.epoch v.sessions x) is_binds (old.fits works)

    session : Session A
    session = fits.1.0

    silent : (n : ℕ) (d : Conn A) (q : ℕ) → v.here ≡ Some n → carries d ≡ Some q → Entry k this v.conns n d → ⊥
    silent n d q here carried (New same is) = no_entry q (sym (carries_at (AsksEnable number) this at) ∙ subst (λ x. carries x ≡ Some q) (sym is) carried)
    silent n d q here carried (Old ne there) = ne (some_one v.here k n m.here here)

    conn : (n : ℕ) (d : Conn A) → Entry k this v.conns n d → ConnKept (record v { conns = with_at k this v.conns; epoch = v.epoch + 1; sessions = alter f v.sessions }) n d
    conn n d (New same is) =
        let here : ConnKept (record v { conns = with_at k this v.conns; epoch = v.epoch + 1; sessions = alter f v.sessions }) k this = record {
          piped = subst (λ b. ArePiped b this) (sym works) (piped_down m.conn m.rest InEnable (Enable ∷ []) (subst (λ b. ArePiped b m.conn) works old.piped));
          stage = AsksEnable number;
          at = at;
          asked = (f number session, v.epoch + 1, altered f v.sessions number session fits.1.1, rw same_number refl);
          fits = λ e. (fits.0, (f number session, altered f v.sessions number session fits.1.1, rw same_number refl));
          attached = old.attached;
          uncounted = λ r found on e. old.uncounted r found on (ap is_yet is_binds);
          counting = λ r found on p e. no_entry p e;
        } in
        subst (λ x. ConnKept (record v { conns = with_at k this v.conns; epoch = v.epoch + 1; sessions = alter f v.sessions }) x d) same (subst (λ x. ConnKept (record v { conns = with_at k this v.conns; epoch = v.epoch + 1; sessions = alter f v.sessions }) k x) is here)
    conn n d (Old ne there) =
        let before = kept.conns n d there in
        record {
          piped = before.piped;
          stage = before.stage;
          at = before.at;
          asked = named_asked number (v.epoch + 1) v.sessions before.stage before.asked;
          fits = λ e. absurd (ne (some_one v.here k n m.here (has_is v.here n e)));
          attached = before.attached;
          uncounted = before.uncounted;
          counting = before.counting;
        }

    placed : (r : Row A) (s : Session A) → v.sessions r.number ≡ Some s → (o : Option ℕ) → IsPlaced v.conns r s o → IsPlaced (with_at k this v.conns) r (f r.number s) o
    placed r s is None (counted, quiet) = (counted, quiet)
    placed r s is (Some n) (d, found, held, goes) = by (cases_eq k n)
      where
        by : (k ≡ n) ⊎ (k ≡ n → ⊥) → IsPlaced (with_at k this v.conns) r (f r.number s) (Some n)
        by (inl same) =
            let one : d ≡ m.conn = some_one (v.conns k) d m.conn (subst (λ x. v.conns x ≡ Some d) (sym same) found) m.is in
            let held_this : session_on m.conn ≡ Some r.number = subst (λ x. session_on x ≡ Some r.number) one held in
            let mine : number ≡ r.number = phase_session number r.number m.conn.ending m.conn.gone (ap (λ x. on_phase x m.conn.ending m.conn.gone) (sym before_at.phase) ∙ held_this) in
            let same_session : session ≡ s = some_one (v.sessions r.number) session s (subst (λ x. v.sessions x ≡ Some session) mine fits.1.1) is in
            (this, subst (λ x. with_at k this v.conns x ≡ Some this) same (at_same k this v.conns), held_this, λ e. absurd (not_true (sym (ap (λ (x : Session A). x.counted) same_session) ∙ fits.1.3) e))
        by (inr ne) = (d, at_other k this v.conns n ne ∙ found, held, λ e. let g = goes e in record { way = g.way; is_open = g.is_open; counts = g.counts })

    row : RowsAfter k this v f
    row r before = record {
      session = f r.number before.session;
      is = altered f v.sessions r.number before.session before.is;
      counted = before.counted;
      handled = before.handled;
      acked = before.acked;
      queue = before.queue;
      placed = placed r before.session before.is r.on before.placed;
    }
