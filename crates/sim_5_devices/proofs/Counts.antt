-- The server tells how many of the session's stanzas it has handled.
use Rattle.std.proofs.Common.{◌≡◌, ℕ, ◌+◌, ◌-◌, ◌≤◌, false, List, ◌++◌, map, length, take, drop, refl, sym, ap, ap₂, ◌∙◌, arith, append_assoc}
use Rattle.std.proofs.Math.Seq.{drop-append_seam, take-add, take-append_seam}
use Rattle.std.proofs.lemmas.Bool.Decides.{nat_tests}
use Rattle.std.proofs.lemmas.List.{drop-drop, drop-map, map-append, take-append-drop, take-map}
use Rattle.std.specs.Prelude.{nat_lt}
use Rattle.sm_acks.proofs.Senders.{ahead_exact}
use Rattle.sm_acks.specs.Counters.{ahead}
use Rattle.cl_handlers.specs.AckRows.{ack_row, acknowledges}
use Rattle.cl_handlers.specs.Clients.{ClientStep}
use Rattle.cl_handlers.specs.SessionRows.{attaches, resumed_row}
use Rattle.cl_handlers.specs.Speech.{in_items}
use Rattle.cmd_network.specs.DeviceLines as device
use Rattle.sm_outbox.specs.Sessions.{SessionView, with_waiting}
use Rattle.sm_outbox.specs.Submissions.{in_state}
use Rattle.sm_outbox.specs.Waiting.{acked, count_true, is_too_high, submissions_to}
use Rattle.sm_outbox.specs.declared.said.SaidState.TheVariants as state
use Rattle.cmd_report.specs.declared.report.SaidMark.TheVariants.{Acknowledged, Waiting}
use Rattle.sim_3_items.specs.Submitted.{SubmissionsRepresent, is_message, outstanding}
use Rattle.sim_1_applications.proofs.Numbered.{messages_append}
use Rattle.sim_1_applications.specs.Devices.{Sessions, up_put}
use Rattle.sim_1_applications.specs.Events.{acknowledged}
use Rattle.sim_1_applications.specs.Stanzas.{Up, messages}
use Rattle.sim_1_applications.specs.Reported.{said_line}
use Rattle.sim_5_devices.proofs.Lines.{as_many, lines, lines_as, lines_in, marked, marked_lines}
use Rattle.sim_5_devices.proofs.Shown.{Stands, past_lines, settled_of, shown, stands}
use Rattle.sim_5_devices.specs.Told.{IsCounted, SameLog}
use Rattle.xml_writer.specs.Items.{ItemOut}

module _ (t : ClientStep ItemOut ItemOut) (d : Sessions) (s : SessionView ItemOut) (n h : ℕ) (counted : IsCounted t.client d s n h) where
  st : Stands t.client d s
  st = stands t.client d s counted.session counted.represents

  near : n - d.now.acked ≤ 10000
  near = let high = counted.high in let few = counted.few in omega (arith, high, few)

  is_ahead : ahead h s.waiting.acked ≡ n - d.now.acked
  is_ahead = ap₂ ahead counted.count counted.acked ∙ ahead_exact n d.now.acked counted.low near

  sum : d.now.acked + (n - d.now.acked) ≡ n
  sum = let low = counted.low in omega (arith, low)

  abbrev first_ones : List Up
  first_ones = take (n - d.now.acked) (outstanding d)

  abbrev others : List Up
  others = drop (n - d.now.acked) (outstanding d)

  are_others : others ≡ outstanding (acknowledged n d)
  are_others = drop-drop (n - d.now.acked) d.now.acked (up_put d.now) ∙ ap (λ k. drop k (up_put d.now)) sum

  parts : messages (outstanding d) ≡ messages first_ones ++ messages others
  parts = ap messages (sym (take-append-drop (n - d.now.acked) (outstanding d))) ∙ messages_append first_ones others

  -- as many submissions as are among them
  so_many : submissions_to s.waiting h ≡ length (messages first_ones)
  so_many =
      ap₂ (λ k kinds. count_true (take k kinds)) is_ahead st.kinds ∙ ap count_true (take-map is_message (n - d.now.acked) (outstanding d)) ∙ as_many first_ones

  all_lines : lines t.client.said.waiting ≡ map (said_line Waiting) (messages first_ones ++ messages others)
  all_lines = st.waiting ∙ ap (map (said_line Waiting)) parts

  taken_lines : lines (take (submissions_to s.waiting h) t.client.said.waiting) ≡ lines_as Waiting first_ones
  taken_lines =
      sym (take-map device.said_line (submissions_to s.waiting h) t.client.said.waiting)
      ∙ ap₂ take so_many all_lines
      ∙ take-map (said_line Waiting) (length (messages first_ones)) (messages first_ones ++ messages others)
      ∙ ap (map (said_line Waiting)) (take-append_seam (messages first_ones) (messages others))

  left_lines : lines (drop (submissions_to s.waiting h) t.client.said.waiting) ≡ lines_as Waiting others
  left_lines =
      sym (drop-map device.said_line (submissions_to s.waiting h) t.client.said.waiting)
      ∙ ap₂ drop so_many all_lines
      ∙ drop-map (said_line Waiting) (length (messages first_ones)) (messages first_ones ++ messages others)
      ∙ ap (map (said_line Waiting)) (drop-append_seam (messages first_ones) (messages others))

  acknowledged_lines : lines (map (in_state state.Acknowledged) (take (submissions_to s.waiting h) t.client.said.waiting)) ≡ lines_as Acknowledged first_ones
  acknowledged_lines =
      lines_in state.Acknowledged (take (submissions_to s.waiting h) t.client.said.waiting) ∙ ap (map (marked Acknowledged)) taken_lines
      ∙ marked_lines Waiting Acknowledged (messages first_ones)

  -- all that is acknowledged now
  more_settled : settled_of d ++ lines_as Acknowledged first_ones ≡ settled_of (acknowledged n d)
  more_settled =
      append_assoc (past_lines d) (lines_as Acknowledged (take d.now.acked (up_put d.now))) (lines_as Acknowledged first_ones)
      ∙ ap (λ ls. past_lines d ++ ls)
      (sym (map-append (said_line Acknowledged) (messages (take d.now.acked (up_put d.now))) (messages first_ones))
      ∙ ap (map (said_line Acknowledged)) (sym (messages_append (take d.now.acked (up_put d.now)) first_ones))
      ∙ ap (lines_as Acknowledged) (sym (take-add d.now.acked (n - d.now.acked) (up_put d.now)) ∙ ap (λ k. take k (up_put d.now)) sum))

  acked_stands : Stands (acknowledges in_items t s h).client (acknowledged n d) (with_waiting s (acked s.waiting h))
  acked_stands = record {
    epoch = st.epoch;
    n = st.n;
    online = st.online;
    settled =
        map-append device.said_line t.client.said.settled (map (in_state state.Acknowledged) (take (submissions_to s.waiting h) t.client.said.waiting))
        ∙ ap₂ (λ xs ys. xs ++ ys) st.settled acknowledged_lines ∙ more_settled;
    waiting = left_lines ∙ ap (lines_as Waiting) are_others;
    kinds = ap₂ drop is_ahead st.kinds ∙ drop-map is_message (n - d.now.acked) (outstanding d) ∙ ap (map is_message) are_others;
  }

  pub acked_told : SubmissionsRepresent (acknowledges in_items t s h).client (acknowledged n d)
  acked_told = shown (acknowledges in_items t s h).client (acknowledged n d) (with_waiting s (acked s.waiting h)) refl acked_stands

  pub attached_told : SubmissionsRepresent (attaches in_items (acknowledges in_items t s h)).client (acknowledged n d)
  attached_told = record { epoch = acked_told.epoch; n = acked_told.n; online = acked_told.online; said = acked_told.said; waiting = acked_told.waiting }

  -- and it is none above what was put
  not_high : is_too_high s.waiting h ≡ false
  not_high = ap (nat_lt (length s.waiting.queue)) is_ahead ∙ (let high = counted.high in let e : nat_lt (length s.waiting.queue) (n - d.now.acked) ≡ false = grind (arith, nat_tests) in e)

  same_log : SameLog t.client (acknowledges in_items t s h).client
  same_log = record { account = refl; epoch = refl; log = refl; pages = refl }

  same_attached : SameLog t.client (attaches in_items (acknowledges in_items t s h)).client
  same_attached = record { account = refl; epoch = refl; log = refl; pages = refl }

  pub row_told : SubmissionsRepresent (ack_row in_items t s h).client (acknowledged n d)
  row_told = rw not_high acked_told

  pub resumed_told : SubmissionsRepresent (resumed_row in_items t s h).client (acknowledged n d)
  resumed_told = rw not_high attached_told

  pub rows_same : SameLog t.client (ack_row in_items t s h).client × SameLog t.client (resumed_row in_items t s h).client
  rows_same = (rw not_high same_log, rw not_high same_attached)
