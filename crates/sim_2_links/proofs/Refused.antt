-- No moves lead where wrong ends would come.
use Rattle.std.proofs.Common.{◌≡◌, ℕ, true, false, [], ◌∷◌, length, refl, sym, ap, ◌∙◌, subst, Some, nat_eq}
use Rattle.sm_acks.specs.Delivery.{Direction, beginning}
use Rattle.sim_2_links.proofs.Entries.{same_number}
use Rattle.sim_2_links.proofs.CutLinks.{not_true, some_one, some_same}
use Rattle.sim_2_links.proofs.ReadResumed.{Reads, reads}
use Rattle.sim_2_links.proofs.Promised.{server_end}
use Rattle.sim_2_links.proofs.Served.{on_row}
use Rattle.sim_2_links.specs.Words.{St, Req, Up, Resumed, InOnline, InResume}
use Rattle.sim_2_links.specs.Wires.{Flow}
use Rattle.sim_2_links.specs.Stages.{Resumes, tail_of, Stands}
use Rattle.sim_2_links.specs.Views.{Session, Row}
use Rattle.sim_2_links.specs.Links.{FitsOwn, ConnKept, LinkKept}
use Rattle.sim_2_links.specs.Wrong.{with_one, known, sends_all_again, states_acknowledged, resumes_late, binds_beside}

apart : (m n : ℕ) → nat_eq m n ≡ false → m ≡ n → ⊥
apart m n e same = not_true e (subst (λ x. nat_eq m x ≡ true) same (same_number m))

pub all_again_refused : LinkKept sends_all_again → ⊥
all_again_refused kept =
    let o = on_row sends_all_again 2 (with_one (InOnline 1) (Flow (Up (St 10) ∷ Up (St 11) ∷ Up Req ∷ []) [])) (record { number = 1; on = Some 2; counted = true; acked = 0; handled = 1; queue = [] }) refl refl refl refl kept in
    let up : Direction ℕ = record { put = 10 ∷ 11 ∷ []; acked = 1; got = 10 ∷ []; way = 11 ∷ []; is_open = true; stated = 1 ∷ [] } in
    let same : known up (record beginning { stated = 0 ∷ [] }) ≡ o.0 = some_one (sends_all_again.sessions 1) (known up (record beginning { stated = 0 ∷ [] })) o.0 refl o.1.is in
    apart 1 2 refl (ap (λ (x : Session ℕ). length x.up.way) same ∙ ap length o.1.goes.way)

pub acknowledged_refused : LinkKept states_acknowledged → ⊥
acknowledged_refused kept =
    let old : ConnKept states_acknowledged 2 (with_one (InResume 1) (Flow [] (Resumed 1 0 ∷ []))) = kept.conns 2 (with_one (InResume 1) (Flow [] (Resumed 1 0 ∷ []))) refl in
    let r : Reads old.stage 1 0 (tail_of Stands) [] = reads old.stage Stands 1 0 [] (sym old.at.down) in
    let fits : FitsOwn states_acknowledged.own states_acknowledged.epoch states_acknowledged.sessions (Resumes 1 0 r.downs) = subst (λ s. FitsOwn states_acknowledged.own states_acknowledged.epoch states_acknowledged.sessions s) r.is (old.fits refl) in
    let up : Direction ℕ = record { put = 10 ∷ 11 ∷ []; acked = 0; got = 10 ∷ []; way = []; is_open = false; stated = 0 ∷ [] } in
    apart 0 1 refl (fits.1 (known up (record beginning { stated = 0 ∷ [] })) refl).0

pub late_refused : LinkKept resumes_late → ⊥
late_refused kept =
    let e = server_end resumes_late (record { number = 1; on = Some 2; counted = true; acked = 0; handled = 0; queue = 20 ∷ [] }) kept refl in
    let down : Direction ℕ = record { put = 20 ∷ []; acked = 1; got = 20 ∷ []; way = []; is_open = false; stated = 0 ∷ 1 ∷ [] } in
    let same : known (record beginning { is_open = false; stated = 0 ∷ [] }) down ≡ e.0 = some_one (resumes_late.sessions 1) (known (record beginning { is_open = false; stated = 0 ∷ [] }) down) e.0 refl e.1 in
    apart 0 1 refl (e.2.acked ∙ sym (ap (λ (x : Session ℕ). x.down.acked) same))

pub beside_refused : LinkKept binds_beside → ⊥
beside_refused kept =
    let a = (kept.conns 1 (with_one (InOnline 1) (Flow [] [])) refl).attached 1 refl in
    apart 2 1 refl (ap (λ (x : Row ℕ). x.number) (some_same (record { number = 2; on = Some 2; counted = false; acked = 0; handled = 0; queue = [] }) a.0 a.1) ∙ a.2)
