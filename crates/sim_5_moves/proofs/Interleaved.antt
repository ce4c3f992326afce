-- What the server handles of a session, and what it gives, amid drifts, leaves what the client has of it, and its flags.
use Rattle.std.proofs.Common.{◌≡◌, ℕ, ◌≤◌, ◌||◌, Bool, true, false, List, [], ◌∷◌, ◌++◌, length, map, take, refl, sym, ap, subst, ◌∙◌, append_assoc, inl, inr}
use Rattle.std.proofs.Math.Seq.{take-append_seam}
use Rattle.sim_5_moves.proofs.ClientsStepped.{same_ups, stepped_to}
use Rattle.sim_5_devices.proofs.LabelsInTimeEnds.{reply_ends}
use Rattle.sim_5_devices.specs.Pages.{EndsFor}
use Rattle.sim_3_items.specs.Labels.{Takes, gives_all}
use Rattle.sim_3_items.specs.Downs.{down_stanza}
use Rattle.sim_3_items.specs.Items.{stanzas_read}
use Rattle.sim_3_items.specs.Ups.{up_stanza}
use Rattle.sim_2_links.specs.Events.{Seen}
use Rattle.sim_2_links.specs.Paging.{many, one_if}
use Rattle.sim_2_events.specs.Lists.{IsDevice}
use Rattle.sim_5_devices.specs.InTime.{is_end, is_query}
use Rattle.sim_5_devices.specs.Labels.{DoesInterleaved, IsTaken, SessionStep, SessionSteps}
use Rattle.sim_1_applications.specs.Devices.{Present, Sessions}
use Rattle.sim_1_applications.specs.Events.{Around, flagged, is_presence, is_carbons, put_down, reply}
use Rattle.sim_1_applications.specs.Stanzas.{Down, Up}
use Rattle.sim_5_moves.specs.Handled.{IsHeardOf}
use Rattle.sim_5_devices.specs.Told.{SameUps}
use Rattle.xml_writer.specs.Items.{ItemOut}

pub record IsAfter (d last : Sessions) : Type 0 where
  pub ups : SameUps d last
  pub row : last.row ≡ Present → d.row ≡ Present
  pub available : last.now.available ≡ d.now.available
  pub carbons : last.now.carbons ≡ d.now.carbons

after_then : (d there last : Sessions) → IsAfter d there → IsAfter there last → IsAfter d last
after_then d there last a b = record {
  ups = record {
    past = b.ups.past ∙ a.ups.past;
    n = b.ups.n ∙ a.ups.n;
    online = b.ups.online ∙ a.ups.online;
    acked = b.ups.acked ∙ a.ups.acked;
    put = b.ups.put ∙ a.ups.put;
  };
  row = λ is. a.row (b.row is);
  available = b.available ∙ a.available;
  carbons = b.carbons ∙ a.carbons;
}

of_session_steps : (xs : List SessionStep) (d last : Sessions) → SessionSteps xs d last → IsAfter d last
of_session_steps xs d last session_steps = let x = stepped_to xs d last session_steps in record { ups = same_ups d last x; row = x.row; available = x.available; carbons = x.carbons }

of_given : (zs : List Down) (d next : Sessions) → next ≡ put_down zs d → IsAfter d next
of_given zs d next is =
    subst (IsAfter d) (sym is) (record { ups = record { past = refl; n = refl; online = refl; acked = refl; put = refl }; row = λ e. e; available = refl; carbons = refl })

of_taken : (y : Up) (d next : Sessions) → IsTaken y d next → IsAfter d next
of_taken y d next taken =
    subst (IsAfter d) (sym taken.is) (record {
      ups = record {
        past = refl;
        n = refl;
        online = refl;
        acked = refl;
        put = append_assoc d.now.up_got (y ∷ []) taken.rest ∙ ap (λ l. d.now.up_got ++ l) (sym taken.first);
      };
      row = λ e. e;
      available = refl;
      carbons = refl;
    })

pub gives_after : (zs : List ItemOut) (d last : Sessions) → DoesInterleaved stanzas_read (gives_all zs) d last → IsAfter d last
gives_after [] d last interleaved = of_session_steps interleaved.0 d last interleaved.1
gives_after (z ∷ zs) d last interleaved =
    after_then d interleaved.1 last (of_session_steps interleaved.0 d interleaved.1 interleaved.2)
    (after_then interleaved.1 interleaved.3.0 last (of_given (down_stanza z ∷ []) interleaved.1 interleaved.3.0 interleaved.3.1.1) (gives_after zs interleaved.3.0 last interleaved.3.2))

pub takes_after : (z : ItemOut) (zs : List ItemOut) (d last : Sessions) → DoesInterleaved stanzas_read (Takes z ∷ gives_all zs) d last → IsAfter d last
takes_after z zs d last interleaved =
    after_then d interleaved.1 last (of_session_steps interleaved.0 d interleaved.1 interleaved.2)
    (after_then interleaved.1 interleaved.3.0 last (of_taken (up_stanza z) interleaved.1 interleaved.3.0 interleaved.3.1) (gives_after zs interleaved.3.0 last interleaved.3.2))

-- ---- flags that the stanza alters

module _ (y : Up) where
  pub flagged_device : (v : Seen ItemOut) (d : Sessions) → IsDevice stanzas_read v d → IsDevice stanzas_read v (flagged y d)
  flagged_device v d is = record {
    epoch = is.epoch;
    now = λ q t at of. let s = is.now q t at of in record { stage = s.stage; heard = s.heard; up_put = s.up_put; up_got = s.up_got; acked = s.acked; down_put = s.down_put; down_got = s.down_got };
    past = is.past;
    below = is.below;
    once = is.once;
    unread = is.unread;
    newest = is.newest;
    row = is.row;
    online = is.online;
  }

  pub flagged_after : (d last : Sessions) → IsAfter d last → IsAfter (flagged y d) (flagged y last)
  flagged_after d last b = record {
    ups = record { past = b.ups.past; n = b.ups.n; online = b.ups.online; acked = b.ups.acked; put = b.ups.put };
    row = b.row;
    available = ap (λ e. is_presence y || e) b.available;
    carbons = ap (λ e. is_carbons y || e) b.carbons;
  }

  pub flagged_ups : (d last : Sessions) → SameUps d last → SameUps d (flagged y last)
  flagged_ups d last same = record { past = same.past; n = same.n; online = same.online; acked = same.acked; put = same.put }

-- ---- the ends of pages that are given

-- of a reply, or a front of it
pub ends_for : (a : Around) (z : ItemOut) (zs : List ItemOut) (rest : List Down) → reply a (up_stanza z) ≡ map down_stanza zs ++ rest → EndsFor z zs
ends_for a z zs rest same =
    subst (λ ds. many is_end ds ≤ one_if (is_query (up_stanza z))) (ap (take (length (map down_stanza zs))) same ∙ take-append_seam (map down_stanza zs) rest)
    (reply_ends a (length (map down_stanza zs)) (up_stanza z))

pub heard_ends : (b : Bool) (n : ℕ) (ds : List Down) (last : Sessions) → IsHeardOf b n ds last → many is_end ds ≡ 0
heard_ends true n ds last (inl same) = ap (many is_end) same
heard_ends true n ds last (inr full) = ap (many is_end) full.0
heard_ends false n ds last none = ap (many is_end) none
