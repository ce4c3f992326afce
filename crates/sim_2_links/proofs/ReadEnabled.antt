-- The client reads that the server counts its session, and has it.
use Rattle.std.proofs.Common.{◌≡◌, ℕ, zero, suc, Bool, true, false, ◌&&◌, if◌then◌else◌, List, [], ◌∷◌, ◌++◌, length, drop, map, refl, sym, ap, ◌∙◌, subst, arith, ◌⊎◌, inl, inr, Option, None, Some}
use Rattle.std.proofs.lemmas.Bool.{cases_eq}
use Rattle.std.proofs.lemmas.List.{append-nil, length-append}
use Rattle.sm_acks.specs.Delivery.{Direction, Reached}
use Rattle.sm_acks.proofs.Directions.{kept_reached}
use Rattle.sim_2_links.proofs.Entries.{same_number, at_same, at_other, Entry, New, Old, entry, was, altered, has_is, is_has}
use Rattle.sim_2_links.proofs.Tables.{send_up_whole, send_up_whole_down, left_down_whole, left_down_whole_up}
use Rattle.sim_2_links.proofs.CutLinks.{not_true, some_one, some_same, there_cut}
use Rattle.sim_2_links.proofs.Hands.{piped_down, flow_up}
use Rattle.sim_2_links.proofs.Heard.{same_up, down_words_up}
use Rattle.sim_2_links.proofs.Detached.{carries_at}
use Rattle.sim_2_links.proofs.StepParts.{carried_before, RowsAfter, OwnAfter, GoesUpAs, GoesDownAfter, StaysBare}
use Rattle.sim_2_links.specs.Words.{Traffic, up_stanzas, down_stanzas, DownWord, Enabled, Down, InEnable, InOnline}
use Rattle.sim_2_links.specs.Wires.{is_flowing, up_whole, down_whole, send_up, left_down}
use Rattle.sim_2_links.specs.Stages.{Stage, AsksResume, Resumes, AsksEnable, Enables, Runs, client_of, phase_of, up_of, down_of, Ending, Stands, Errs, Closes, tail_of, foot_of, Conn, IsAt}
use Rattle.sim_2_links.specs.Views.{Table, with_at, alter, has, Session, Row, Own, View, session_on, carries, sends}
use Rattle.sim_2_links.specs.SessionMoves.{IsReadEnabled}
use Rattle.sim_2_links.specs.Links.{carried_of, UpCounts, DownCounts, ArePiped, IsAsked, FitsOwn, ConnKept, GoesUp, GoesDown, IsIdle, IsPlaced, OwnKept, SessionKept, IsCarried, LinkKept}

pub record EnabledFirst {A : Type 0} (s : Stage A) (m : ℕ) (tail rest : List (DownWord A)) : Type 0 where
  pub downs : List (Traffic A)
  pub is : s ≡ Enables m downs
  pub left : map Down downs ++ tail ≡ rest

no_tail : {A C : Type 0} (end : Ending) (m : ℕ) (rest : List (DownWord A)) → tail_of end ≡ Enabled m ∷ rest → C
no_tail Stands m rest e = absurd (let no_way : ⊥ = cc in no_way)
no_tail (Errs x) m rest e = absurd (let no_way : ⊥ = cc in no_way)
no_tail Closes m rest e = absurd (let no_way : ⊥ = cc in no_way)

pub reads_enabled : {A : Type 0} (s : Stage A) (end : Ending) (m : ℕ) (rest : List (DownWord A)) → client_of s ≡ InEnable → down_of s ++ tail_of end ≡ Enabled m ∷ rest → EnabledFirst s m (tail_of end) rest
reads_enabled (Enables q downs) end m rest e f =
    let one : q ≡ m = cc in
    let left : map Down downs ++ tail_of end ≡ rest = cc in
    record { downs = downs; is = ap (λ x. Enables x downs) one; left = left }
reads_enabled (AsksEnable q) end m rest e f = no_tail end m rest f
reads_enabled (AsksResume q h) end m rest e f = absurd (let no_way : ⊥ = cc in no_way)
reads_enabled (Resumes q h downs) end m rest e f = absurd (let no_way : ⊥ = cc in no_way)
reads_enabled (Runs q ups downs) end m rest e f = absurd (let no_way : ⊥ = cc in no_way)
reads_enabled _ end m rest e f = absurd (let no_way : ⊥ = cc in no_way)

abbrev pub known_if : {A : Type 0} → Bool → Session A → Session A
known_if b s = record s { read = if b then true else s.read }

known_kept : {A : Type 0} (b : Bool) (s : Session A) → (b ≡ true → s.counted ≡ true) → SessionKept s → SessionKept (known_if b s)
known_kept false s counted kept = kept
known_kept true s counted kept = record {
  up = kept.up;
  down = kept.down;
  begun = kept.begun;
  read = λ e. counted refl;
  epoch = kept.epoch;
  unread = λ e. absurd (let no_way : ⊥ = cc in no_way);
  unheard = λ e. absurd (let no_way : ⊥ = cc in no_way);
}

still_read : {A : Type 0} (b : Bool) (s : Session A) → s.read ≡ true → (known_if b s).read ≡ true
still_read false s e = e
still_read true s e = refl

known_asked : {A : Type 0} (m : ℕ) (sessions : Table (Session A)) (s : Stage A) → IsAsked sessions s → IsAsked (alter (λ q t. known_if (has (Some m) q) t) sessions) s
known_asked m sessions (AsksResume q h) (s, is, read, stated) = (known_if (has (Some m) q) s, altered (λ q t. known_if (has (Some m) q) t) sessions q s is, still_read (has (Some m) q) s read, stated)
known_asked m sessions (AsksEnable q) (s, e, is, epoch) = (known_if (has (Some m) q) s, e, altered (λ q t. known_if (has (Some m) q) t) sessions q s is, epoch)
known_asked m sessions _ a = tt

drop_none : {B : Type 0} (n : ℕ) (xs : List B) → xs ≡ [] → drop n xs ≡ []
drop_none n xs e = subst (λ l. drop n l ≡ []) (sym e) (nothing n)
  where
    nothing : {C : Type 0} (n : ℕ) → drop {A = C} n [] ≡ []
    nothing zero = refl
    nothing (suc n) = refl

nothing_acked : {A : Type 0} (d : Direction A) → Reached d → d.put ≡ [] → d.acked ≡ 0
nothing_acked d reached none =
    let k = kept_reached d reached in
    let low = k.acked in
    let all = ap length k.front.1 in
    let a = length-append (d.got ++ d.way) k.front.0 in
    let b = length-append d.got d.way in
    let z : length d.put ≡ 0 = ap length none in
    omega arith

pub read_enabled_keeps : {A : Type 0} (k m : ℕ) (v next : View A) → IsReadEnabled k m v next → LinkKept v → LinkKept next
read_enabled_keeps {A = A} k number v next m kept = subst LinkKept (sym m.gives) (record {
  there = λ n here. there_cut v kept k this n here;
  conns = λ n d found. conn n d (entry k this v.conns n d found);
  row = λ r found. row r (kept.row r found);
  own = λ o e. subst (λ x. OwnKept v.epoch (alter f v.sessions) x) (let out : new ≡ o = cc in out) own_kept;
  sessions = λ q s found. let w = was f v.sessions q s found in subst SessionKept w.2 (known_kept (has (Some number) q) w.0 (λ e. subst (λ (x : Session A). x.counted ≡ true) (mine q w.0 e w.1) fits.1.3) (kept.sessions q w.0 w.1));
  goes_down = λ n d q here found carried. down n d q here carried (entry k this v.conns n d found);
  idle_up = λ q s found counted.
      let w = was f v.sessions q s found in
      let before : w.0.counted ≡ true = ap (λ (x : Session A). x.counted) w.2 ∙ counted in
      elim (kept.idle_up q w.0 w.1 before) [ inl quiet ↦ inl (subst (λ (x : Session A). IsIdle x.up) w.2 quiet) | inr x ↦ inr x ];
  idle_down = λ q s found counted.
      let w = was f v.sessions q s found in
      let before : w.0.counted ≡ true = ap (λ (x : Session A). x.counted) w.2 ∙ counted in
      elim (kept.idle_down q w.0 w.1 before) [ inl quiet ↦ inl (subst (λ (x : Session A). IsIdle x.down) w.2 quiet) | inr x ↦ inr (carried_on q x) ];
  late = λ n d q found away on carried. late n d q away on (back q carried) (entry k this v.conns n d found);
})
  where
    this : Conn A
    this = record m.conn { client = InOnline number; wires = send_up [] (left_down m.rest m.conn.wires) }

    new : Own A
    new = record { number = number; acked = 0; handled = 0; queue = [] }

    f : ℕ → Session A → Session A
    f = λ q s. known_if (has (Some number) q) s

    old : ConnKept v k m.conn
    old = kept.conns k m.conn m.is

    works : has v.here k ≡ true
    works = is_has v.here k m.here

    r : EnabledFirst old.stage number (tail_of m.conn.ending) (down_whole (left_down m.rest m.conn.wires))
    r = reads_enabled old.stage m.conn.ending number (down_whole (left_down m.rest m.conn.wires)) (sym old.at.client ∙ m.client) (sym old.at.down ∙ left_down_whole (Enabled number) m.rest m.conn.wires m.first)

    unfooted : m.conn.footed ≡ false
    unfooted = old.piped.unfooted works

    fits : FitsOwn v.own v.epoch v.sessions (Enables number r.downs)
    fits = subst (λ x. FitsOwn v.own v.epoch v.sessions x) r.is (old.fits works)

    session : Session A
    session = fits.1.0

    session_kept : SessionKept fits.1.0
    session_kept = kept.sessions number fits.1.0 fits.1.1

    mine : (q : ℕ) (t : Session A) → has (Some number) q ≡ true → v.sessions q ≡ Some t → fits.1.0 ≡ t
    mine q t e found = some_one (v.sessions q) fits.1.0 t (subst (λ x. v.sessions x ≡ Some fits.1.0) (some_same number q (has_is (Some number) q e)) fits.1.1) found

    nothing_up : up_whole m.conn.wires ≡ []
    nothing_up = old.at.up ∙ ap (λ x. up_of x ++ foot_of m.conn.footed) r.is ∙ ap foot_of unfooted

    at : IsAt (Runs number [] r.downs) this
    at = record {
      client = refl;
      phase = old.at.phase ∙ ap phase_of r.is;
      up = send_up_whole [] (left_down m.rest m.conn.wires) ∙ append-nil (up_whole (left_down m.rest m.conn.wires)) ∙ left_down_whole_up m.rest m.conn.wires ∙ nothing_up ∙ ap foot_of (sym unfooted);
      down = send_up_whole_down [] (left_down m.rest m.conn.wires) ∙ sym r.left;
    }

    carries_old : carries m.conn ≡ Some number
    carries_old = carries_at old.stage m.conn old.at ∙ ap carried_of r.is

    own_kept : OwnAfter v f new
    own_kept = record {
      session = f number session;
      is = altered f v.sessions number session fits.1.1;
      read = rw same_number refl;
      of_epoch = fits.1.2;
      handled = sym (ap length (session_kept.unheard fits.1.4));
      acked = sym (nothing_acked session.up session_kept.up (session_kept.unread fits.1.4));
      queue = sym (drop_none session.up.acked session.up.put (session_kept.unread fits.1.4));
    }

    conn : (n : ℕ) (d : Conn A) → Entry k this v.conns n d → ConnKept (record v { conns = with_at k this v.conns; own = Some new; sessions = alter f v.sessions }) n d
    conn n d (New same is) =
        let here : ConnKept (record v { conns = with_at k this v.conns; own = Some new; sessions = alter f v.sessions }) k this = record {
          piped = subst (λ b. ArePiped b this) (sym works) (piped_down m.conn m.rest (InOnline number) [] (subst (λ b. ArePiped b m.conn) works old.piped));
          stage = Runs number [] r.downs;
          at = at;
          asked = tt;
          fits = λ e. (new, refl, refl);
          attached = old.attached;
          uncounted = λ x g on e. absurd (not_true refl e);
          counting = λ x g on p e. old.counting x g on p (ap carried_of r.is ∙ e);
        } in
        subst (λ x. ConnKept (record v { conns = with_at k this v.conns; own = Some new; sessions = alter f v.sessions }) x d) same (subst (λ x. ConnKept (record v { conns = with_at k this v.conns; own = Some new; sessions = alter f v.sessions }) k x) is here)
    conn n d (Old ne there) =
        let before = kept.conns n d there in
        record {
          piped = before.piped;
          stage = before.stage;
          at = before.at;
          asked = known_asked number v.sessions before.stage before.asked;
          fits = λ e. absurd (ne (some_one v.here k n m.here (has_is v.here n e)));
          attached = before.attached;
          uncounted = before.uncounted;
          counting = before.counting;
        }

    goes_up : GoesUpAs m.conn this
    goes_up s g = record {
      way = g.way ∙ ap up_stanzas (sym (same_up m.rest m.conn.wires));
      is_open = g.is_open ∙ ap (λ x. is_flowing m.conn.wires && sends x) m.client ∙ ap (λ b. b && true) (sym (flow_up [] m.rest m.conn.wires));
      counts = subst (λ ws. UpCounts s.down.acked s.down.stated ws) (sym (same_up m.rest m.conn.wires)) g.counts;
    }

    placed : (x : Row A) (s : Session A) (o : Option ℕ) → IsPlaced v.conns x s o → IsPlaced (with_at k this v.conns) x (f x.number s) o
    placed x s None a = a
    placed x s (Some n) (d, found, held, goes) = by (cases_eq k n)
      where
        by : (k ≡ n) ⊎ (k ≡ n → ⊥) → IsPlaced (with_at k this v.conns) x (f x.number s) (Some n)
        by (inl same) =
            let one : d ≡ m.conn = some_one (v.conns k) d m.conn (subst (λ y. v.conns y ≡ Some d) (sym same) found) m.is in (
              this,
              subst (λ y. with_at k this v.conns y ≡ Some this) same (at_same k this v.conns),
              subst (λ y. session_on y ≡ Some x.number) one held,
              λ e. let g = goes_up s (subst (λ y. GoesUp y s) one (goes e)) in record { way = g.way; is_open = g.is_open; counts = g.counts },
            )
        by (inr ne) = (d, at_other k this v.conns n ne ∙ found, held, λ e. let g = goes e in record { way = g.way; is_open = g.is_open; counts = g.counts })

    row : RowsAfter k this v f
    row x before = record {
      session = f x.number before.session;
      is = altered f v.sessions x.number before.session before.is;
      counted = before.counted;
      handled = before.handled;
      acked = before.acked;
      queue = before.queue;
      placed = placed x before.session x.on before.placed;
    }

    goes_down : (s : Session A) → GoesDown m.conn s → GoesDown this (f number s)
    goes_down s g = record {
      counted = g.counted;
      way = g.way ∙ ap down_stanzas m.first ∙ ap down_stanzas (sym (down_words_up [] m.rest m.conn.wires));
      is_open = g.is_open ∙ sym (flow_up [] m.rest m.conn.wires);
      counts = subst (λ ws. DownCounts s.up.acked s.up.stated ws) (sym (down_words_up [] m.rest m.conn.wires)) (subst (λ ws. DownCounts s.up.acked s.up.stated ws) m.first g.counts);
    }

    down : GoesDownAfter k this v f
    down n d q here carried (New same is) =
        let one : number ≡ q = some_same number q (subst (λ x. carries x ≡ Some q) (sym is) carried) in
        let before = kept.goes_down k m.conn number m.here m.is carries_old in
        let after : (t : Session A) × (alter f v.sessions number ≡ Some t) × GoesDown d t = (f number before.0, altered f v.sessions number before.0 before.1, subst (λ x. GoesDown x (f number before.0)) is (goes_down before.0 before.2)) in
        subst (λ x. (t : Session A) × (alter f v.sessions x ≡ Some t) × GoesDown d t) one after
    down n d q here carried (Old ne there) = absurd (ne (some_one v.here k n m.here here))

    carried_on : (q : ℕ) → IsCarried v q → IsCarried (record v { conns = with_at k this v.conns; own = Some new; sessions = alter f v.sessions }) q
    carried_on q (n, d, here, found, carried) =
        let one : d ≡ m.conn = some_one (v.conns k) d m.conn (subst (λ x. v.conns x ≡ Some d) (sym (some_one v.here k n m.here here)) found) m.is in
        (k, this, m.here, at_same k this v.conns, sym carries_old ∙ subst (λ x. carries x ≡ Some q) one carried)

    back : (q : ℕ) → IsCarried (record v { conns = with_at k this v.conns; own = Some new; sessions = alter f v.sessions }) q → IsCarried v q
    back q (n, d, here, found, carried) = carried_before k this v q (λ e at. (k, m.conn, m.here, m.is, carries_old ∙ at)) n d here carried (entry k this v.conns n d found)

    late : StaysBare k this v
    late n d q away on carried (New same is) = absurd (not_true away (subst (λ x. has v.here x ≡ true) same works))
    late n d q away on carried (Old ne there) = kept.late n d q there away on carried
