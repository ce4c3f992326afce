-- The server hears of the end of a connection.
use Rattle.std.proofs.Common.{◌≡◌, ℕ, true, ◌&&◌, refl, sym, ap, ◌∙◌, subst, ◌⊎◌, inl, inr, None, Some}
use Rattle.std.proofs.lemmas.Bool.{cases_eq}
use Rattle.sim_2_links.proofs.Entries.{at_same, at_other, Entry, New, Old, entry}
use Rattle.sim_2_links.proofs.CutLinks.{not_true, some_one, there_cut, off_row}
use Rattle.sim_2_links.proofs.Hands.{no_entry}
use Rattle.sim_2_links.proofs.StepParts.{on_no_other, on_nowhere, GoesDownStill}
use Rattle.sim_2_links.specs.Words.{up_stanzas, Phase, Start, Sasl, Challenge, Restart, Ready, AtSession}
use Rattle.sim_2_links.specs.Stages.{Ending, Stands, Errs, Closes, Conn}
use Rattle.sim_2_links.specs.Views.{with_at, Row, View, on_phase, session_on, carries, sends}
use Rattle.sim_2_links.specs.SessionMoves.{IsParked}
use Rattle.sim_2_links.specs.Links.{ConnKept, GoesUp, GoesDown, IsPlaced, RowKept, IsCarried, LinkKept}

pub gone_off : (ph : Phase) (end : Ending) → on_phase ph end true ≡ None
gone_off Start end = refl
gone_off Sasl end = refl
gone_off Challenge end = refl
gone_off Restart end = refl
gone_off Ready end = refl
gone_off (AtSession p) Stands = refl
gone_off (AtSession p) (Errs x) = refl
gone_off (AtSession p) Closes = refl

pub told_gone_off : {A C : Type 0} (c : Conn A) (q : ℕ) → session_on (record c { gone = true }) ≡ Some q → C
told_gone_off c q e = no_entry q (sym (gone_off c.phase c.ending) ∙ e)

pub parked_keeps : {A : Type 0} (k : ℕ) (v next : View A) → IsParked k v next → LinkKept v → LinkKept next
parked_keeps {A = A} k v next m kept = subst LinkKept (sym m.gives) (record {
  there = λ n here. there_cut v kept k this n here;
  conns = λ n d found. conn n d (entry k this v.conns n d found);
  row = λ r e. subst (λ x. RowKept (with_at k this v.conns) v.sessions x) (let out : new ≡ r = cc in out) row_kept;
  own = kept.own;
  sessions = kept.sessions;
  goes_down = λ n d q here found carried. down n d q here carried (entry k this v.conns n d found);
  idle_up = λ q t found counted. elim (kept.idle_up q t found counted) [
    | inl quiet ↦ inl quiet
    | inr x ↦ inr (new, refl, ap (λ (r : Row A). r.number) (some_one v.row m.row x.0 m.is_row x.1) ∙ x.2)
  ];
  idle_down = λ q t found counted. elim (kept.idle_down q t found counted) [ inl quiet ↦ inl quiet | inr x ↦ inr (carried_on q x) ];
  late = λ n d q found away on carried. absurd (on_nowhere k this v (told_gone_off m.conn) (on_no_other v k m.row kept m.is_row m.on) n d q on (entry k this v.conns n d found));
})
  where
    this : Conn A
    this = record m.conn { gone = true }

    new : Row A
    new = record m.row { on = None }

    old : ConnKept v k m.conn
    old = kept.conns k m.conn m.is

    row : RowKept v.conns v.sessions m.row
    row = kept.row m.row m.is_row

    goes : GoesUp m.conn row.session
    goes =
        let placed : IsPlaced v.conns m.row row.session (Some k) = subst (λ o. IsPlaced v.conns m.row row.session o) m.on row.placed in
        subst (λ x. GoesUp x row.session) (some_one (v.conns k) placed.0 m.conn placed.1 m.is) (placed.3 (sym row.counted ∙ m.counted))

    row_kept : RowKept (with_at k this v.conns) v.sessions new
    row_kept = record {
      session = row.session;
      is = row.is;
      counted = row.counted;
      handled = row.handled;
      acked = row.acked;
      queue = row.queue;
      placed = (m.counted, record { way = goes.way ∙ ap up_stanzas m.empty; is_open = goes.is_open ∙ ap (λ x. x && sends m.conn.client) m.ended });
    }

    conn : (n : ℕ) (d : Conn A) → Entry k this v.conns n d → ConnKept (record v { conns = with_at k this v.conns; row = Some new }) n d
    conn n d (New same is) =
        let here : ConnKept (record v { conns = with_at k this v.conns; row = Some new }) k this = record {
          piped = record {
            flowing = λ e. absurd (not_true m.ended e);
            unfooted = old.piped.unfooted;
            fair = old.piped.fair;
            left = old.piped.left;
            ended = old.piped.ended;
            gone = λ e. m.empty;
          };
          stage = old.stage;
          at = record { client = old.at.client; phase = old.at.phase; up = old.at.up; down = old.at.down };
          asked = old.asked;
          fits = old.fits;
          attached = λ q e. told_gone_off m.conn q e;
          uncounted = λ r f on e. off_row k new r f refl on;
          counting = λ r f on p e. off_row k new r f refl on;
        } in
        subst (λ x. ConnKept (record v { conns = with_at k this v.conns; row = Some new }) x d) same (subst (λ x. ConnKept (record v { conns = with_at k this v.conns; row = Some new }) k x) is here)
    conn n d (Old ne there) =
        let before = kept.conns n d there in
        record { piped = before.piped; stage = before.stage; at = before.at; asked = before.asked; fits = before.fits; attached = λ q e. absurd (on_no_other v k m.row kept m.is_row m.on n d q ne there e); uncounted = λ r f on e. off_row n new r f refl on; counting = λ r f on p e. off_row n new r f refl on }

    down : GoesDownStill k this v
    down n d q here carried (New same is) =
        let before = kept.goes_down k m.conn q (here ∙ ap Some (sym same)) m.is (subst (λ x. carries x ≡ Some q) (sym is) carried) in
        let after : GoesDown this before.0 = record { counted = before.2.counted; way = before.2.way; is_open = before.2.is_open; counts = before.2.counts } in
        (before.0, before.1, subst (λ x. GoesDown x before.0) is after)
    down n d q here carried (Old ne there) = kept.goes_down n d q here there carried

    carried_on : (q : ℕ) → IsCarried v q → IsCarried (record v { conns = with_at k this v.conns; row = Some new }) q
    carried_on q (n, d, here, found, carried) = by (cases_eq k n)
      where
        by : (k ≡ n) ⊎ (k ≡ n → ⊥) → IsCarried (record v { conns = with_at k this v.conns; row = Some new }) q
        by (inl same) =
            let one : d ≡ m.conn = some_one (v.conns k) d m.conn (subst (λ x. v.conns x ≡ Some d) (sym same) found) m.is in
            let carried_k : carries m.conn ≡ Some q = subst (λ x. carries x ≡ Some q) one carried in
            (k, this, here ∙ ap Some (sym same), at_same k this v.conns, carried_k)
        by (inr ne) = (n, d, here, at_other k this v.conns n ne ∙ found, carried)
