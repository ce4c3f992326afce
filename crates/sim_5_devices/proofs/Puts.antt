-- A stanza more is put in the session; or a stanza of the server is handled.
use Rattle.std.proofs.Common.{◌≡◌, ℕ, ◌≤◌, false, List, [], ◌∷◌, ◌++◌, Option, Some, None, map, length, take, drop, refl, sym, ap, subst, ◌∙◌, arith, append_assoc, append-nil, length-append}
use Rattle.std.proofs.lemmas.List.{drop-append-le, map-append, take-append-le}
use Rattle.cl_handlers.specs.Clients.{ClientView}
use Rattle.sim_3_items.specs.Meant.{requested}
use Rattle.sm_outbox.specs.Sessions.{SessionView, with_waiting}
use Rattle.sm_outbox.specs.Waiting.{counted_in, queued}
use Rattle.cmd_report.specs.declared.report.SaidMark.{SaidMark}
use Rattle.cmd_report.specs.declared.report.SaidMark.TheVariants.{Acknowledged, Waiting}
use Rattle.sim_3_items.specs.Submitted.{SubmissionsRepresent, is_message, outstanding}
use Rattle.sim_1_applications.proofs.Numbered.{messages_append}
use Rattle.sim_1_applications.specs.Devices.{Sessions, up_put}
use Rattle.sim_1_applications.specs.Events.{moved_down, put_all, put_up, queries}
use Rattle.sim_1_applications.specs.Stanzas.{Down, Query, Request, Up, messages}
use Rattle.sim_1_applications.specs.Reported.{said_line}
use Rattle.sim_5_devices.proofs.Lines.{lines, lines_as}
use Rattle.sim_5_devices.proofs.Shown.{Stands, past_lines, settled_of, shown, stands}
use Rattle.sim_5_devices.specs.Told.{IsAcked, SameSaid, queued_where}
use Rattle.xml_writer.specs.Items.{ItemOut}

-- ---- the stanzas of a session with one more

module _ (d : Sessions) (z : Up) (n : ℕ) where
  abbrev pub next_one : Sessions
  next_one = put_up z (record d { n = n })

  all_put : up_put next_one.now ≡ up_put d.now ++ z ∷ []
  all_put = sym (append_assoc d.now.up_got d.now.up_rest (z ∷ []))

  module _ (acked : IsAcked d) where
    low : d.now.acked ≤ length (up_put d.now)
    low = let both = length-append d.now.up_got d.now.up_rest in omega (arith, acked, both)

    pub more_waits : outstanding next_one ≡ outstanding d ++ z ∷ []
    more_waits = ap (drop d.now.acked) all_put ∙ drop-append-le d.now.acked (up_put d.now) (z ∷ []) low

    pub same_settled : settled_of next_one ≡ settled_of d
    same_settled = ap (λ zs. past_lines d ++ lines_as Acknowledged zs) (ap (take d.now.acked) all_put ∙ take-append-le d.now.acked (up_put d.now) (z ∷ []) low)

    pub more_lines : (mark : SaidMark) → lines_as mark (outstanding next_one) ≡ lines_as mark (outstanding d) ++ lines_as mark (z ∷ [])
    more_lines mark = ap (lines_as mark) more_waits ∙ ap (map (said_line mark)) (messages_append (outstanding d) (z ∷ [])) ∙ map-append (said_line mark) (messages (outstanding d)) (messages (z ∷ []))

    pub more_kinds : map is_message (outstanding next_one) ≡ map is_message (outstanding d) ++ is_message z ∷ []
    more_kinds = ap (map is_message) more_waits ∙ map-append is_message (outstanding d) (z ∷ [])

-- ---- it is put

module _ (c e : ClientView ItemOut) (d : Sessions) (s u : SessionView ItemOut) (z : Up) (n : ℕ) where
  pub put_stands : Stands c d s → IsAcked d → e.epoch ≡ c.epoch → e.n ≡ n → lines e.said.settled ≡ lines c.said.settled → lines e.said.waiting ≡ lines c.said.waiting ++ lines_as Waiting (z ∷ [])
      → u.waiting.submissions ≡ s.waiting.submissions ++ is_message z ∷ [] → Stands e (next_one d z n) u
  put_stands st acked epoch number settled waiting kinds = record {
    epoch = epoch ∙ st.epoch;
    n = number;
    online = st.online;
    settled = settled ∙ st.settled ∙ sym (same_settled d z n acked);
    waiting = waiting ∙ ap (λ ls. ls ++ lines_as Waiting (z ∷ [])) st.waiting ∙ sym (more_lines d z n acked Waiting);
    kinds = kinds ∙ ap (λ ks. ks ++ is_message z ∷ []) st.kinds ∙ sym (more_kinds d z n acked);
  }

-- ---- what is no submission

module _ (c e : ClientView ItemOut) (d : Sessions) (s : SessionView ItemOut) where
  pub request_told : (z : ItemOut) (r : Request) → SubmissionsRepresent c d → IsAcked d → SameSaid c e → c.session ≡ Some s → e.session ≡ Some (with_waiting s (queued s.waiting z false)) → SubmissionsRepresent e (put_up (Query r) d)
  request_told z r represents acked same is put =
      shown e (put_up (Query r) d) u put
      (put_stands c e d s u (Query r) d.n (stands c d s is represents) acked same.epoch (same.n ∙ (stands c d s is represents).n) (ap (λ said. lines said.settled) same.said) (ap (λ said. lines said.waiting) same.said ∙ sym (append-nil (lines c.said.waiting))) refl)
    where
      u : SessionView ItemOut
      u = with_waiting s (queued s.waiting z false)

  pub handled_told : (y : Down) (rest : List Down) → SubmissionsRepresent c d → SameSaid c e → c.session ≡ Some s → e.session ≡ Some (with_waiting s (counted_in s.waiting)) → SubmissionsRepresent e (moved_down y rest d)
  handled_told y rest represents same is handled =
      shown e (moved_down y rest d) (with_waiting s (counted_in s.waiting)) handled (record {
        epoch = same.epoch ∙ (stands c d s is represents).epoch;
        n = same.n ∙ (stands c d s is represents).n;
        online = (stands c d s is represents).online;
        settled = ap (λ said. lines said.settled) same.said ∙ (stands c d s is represents).settled;
        waiting = ap (λ said. lines said.waiting) same.said ∙ (stands c d s is represents).waiting;
        kinds = (stands c d s is represents).kinds;
      })

-- nothing more is put
nothing_put : (d : Sessions) → put_all [] d ≡ d
nothing_put d = ap (λ zs. record d { now = record d.now { up_rest = zs } }) (append-nil d.now.up_rest)

pub reaction_told : (c e : ClientView ItemOut) (d : Sessions) (s : SessionView ItemOut) (y : Down) (rest : List Down) (o : Option Request) → SubmissionsRepresent c d → IsAcked d → SameSaid c e → c.session ≡ Some s
    → e.session ≡ Some (with_waiting s (queued_where o (counted_in s.waiting))) → SubmissionsRepresent e (put_all (queries o) (moved_down y rest d))
reaction_told c e d s y rest None represents acked same is now = subst (SubmissionsRepresent e) (sym (nothing_put (moved_down y rest d))) (handled_told c e d s y rest represents same is now)
reaction_told c e d s y rest (Some r) represents acked same is now =
    request_told between e (moved_down y rest d) handled (requested r) r
    (handled_told c between d s y rest represents (record { epoch = refl; n = refl; said = refl }) is refl) acked (record { epoch = same.epoch; n = same.n; said = same.said }) refl now
  where
    handled : SessionView ItemOut
    handled = with_waiting s (counted_in s.waiting)

    between : ClientView ItemOut
    between = record c { session = Some handled }
