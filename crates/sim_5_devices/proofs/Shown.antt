-- The lines of a report part by part: those before the session's acknowledged stanzas and of these, and those that wait.
use Rattle.std.proofs.Common.{◌≡◌, true, List, [], ◌++◌, Some, None, map, take, is_some, sym, ap, ap₂, subst, ◌∙◌, append_assoc}
use Rattle.std.proofs.lemmas.List.{append_cancel_right, map-append}
use Rattle.std.specs.List.{flat_map}
use Rattle.cl_handlers.specs.Clients.{ClientView}
use Rattle.cmd_network.specs.DeviceLines as device
use Rattle.sm_outbox.specs.Sessions.{SessionView}
use Rattle.cmd_report.specs.declared.report.SaidLine.{SaidLine}
use Rattle.cmd_report.specs.declared.report.SaidMark.TheVariants.{Acknowledged, Undecided, Waiting}
use Rattle.sim_3_items.specs.Submitted.{IsWaiting, SubmissionsRepresent, is_message, outstanding}
use Rattle.sim_1_applications.specs.Devices.{Sessions, epoch_of, up_put}
use Rattle.sim_1_applications.specs.Reported.{mark_of, said_in, said_of}
use Rattle.sim_5_devices.proofs.Lines.{lines, lines_as, two_parts}
use Rattle.xml_writer.specs.Items.{ItemOut}

abbrev pub past_lines : Sessions → List SaidLine
past_lines d = flat_map (said_in Undecided) d.past

abbrev pub settled_of : Sessions → List SaidLine
settled_of d = past_lines d ++ lines_as Acknowledged (take d.now.acked (up_put d.now))

pub report_parts : (d : Sessions) → said_of d ≡ settled_of d ++ lines_as (mark_of d.online) (outstanding d)
report_parts d =
    ap (λ ls. past_lines d ++ ls) (two_parts d.now.acked (mark_of d.online) (up_put d.now))
    ∙ sym (append_assoc (past_lines d) (lines_as Acknowledged (take d.now.acked (up_put d.now))) (lines_as (mark_of d.online) (outstanding d)))

-- ---- a client that has its session

pub record Stands (c : ClientView ItemOut) (d : Sessions) (s : SessionView ItemOut) : Type 0 where
  pub epoch : c.epoch ≡ epoch_of d
  pub n : c.n ≡ d.n
  pub online : d.online ≡ true
  pub settled : lines c.said.settled ≡ settled_of d
  pub waiting : lines c.said.waiting ≡ lines_as Waiting (outstanding d)
  pub kinds : s.waiting.submissions ≡ map is_message (outstanding d)

module _ (c : ClientView ItemOut) (d : Sessions) (s : SessionView ItemOut) (is : c.session ≡ Some s) where
  pub stands : SubmissionsRepresent c d → Stands c d s
  stands represents = record {
    epoch = represents.epoch;
    n = represents.n;
    online = online;
    settled = append_cancel_right (lines c.said.settled) (settled_of d) (lines c.said.waiting) whole;
    waiting = both.0;
    kinds = both.1;
  }
    where
      both : IsWaiting (Some s) c.said d
      both = subst (λ o. IsWaiting o c.said d) is represents.waiting

      online : d.online ≡ true
      online = represents.online ∙ ap is_some is

      whole : lines c.said.settled ++ lines c.said.waiting ≡ settled_of d ++ lines c.said.waiting
      whole =
          sym (map-append device.said_line c.said.settled c.said.waiting) ∙ represents.said ∙ report_parts d
          ∙ ap (λ b. settled_of d ++ lines_as (mark_of b) (outstanding d)) online
          ∙ ap (λ ls. settled_of d ++ ls) (sym both.0)

  pub shown : Stands c d s → SubmissionsRepresent c d
  shown st = record {
    epoch = st.epoch;
    n = st.n;
    online = st.online ∙ sym (ap is_some is);
    said =
        map-append device.said_line c.said.settled c.said.waiting ∙ ap₂ (λ xs ys. xs ++ ys) st.settled st.waiting
        ∙ ap (λ b. settled_of d ++ lines_as (mark_of b) (outstanding d)) (sym st.online) ∙ sym (report_parts d);
    waiting = subst (λ o. IsWaiting o c.said d) (sym is) (st.waiting, st.kinds);
  }

-- ---- one that hasn't

pub nothing_waiting : (c : ClientView ItemOut) (d : Sessions) → c.session ≡ None → SubmissionsRepresent c d → c.said.waiting ≡ []
nothing_waiting c d is represents = subst (λ o. IsWaiting o c.said d) is represents.waiting
