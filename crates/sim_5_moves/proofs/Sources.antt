-- The stanzas by which no message is taken: a message to nobody, and all that are no messages.
use Rattle.std.proofs.Common.{◌≡◌, ℕ, false, List, [], ◌∷◌, ◌++◌, map, refl, sym, ap, subst, ◌∙◌, append-nil, arith, if◌then◌else◌}
use Rattle.std.proofs.lemmas.Bool.{eq-eqb, ne_eqb}
use Rattle.std.specs.List.{AllByRecursion}
use Rattle.srv_state.specs.State.{Step}
use Rattle.base_io.specs.Names.{is_among}
use Rattle.sim_5_moves.specs.Around.{IsAsked}
use Rattle.sim_3_items.specs.Downs.{down_stanza}
use Rattle.sim_3_items.specs.Meant.{IsRequest}
use Rattle.sim_3_items.specs.Ups.{up_stanza}
use Rattle.sim_3_items.specs.ItemMoves.{takes_reported}
use Rattle.sm_live.specs.Sessions.{Session, is_named}
use Rattle.sim_5_moves.proofs.MessagesFlags.{flags_stay}
use Rattle.sim_5_moves.proofs.Outcomes.{reads as sent_reads, runs_after, told_after}
use Rattle.sim_5_moves.proofs.Rows.{same_sends}
use Rattle.sim_5_moves.specs.Hearing.{heard_in, only_at, taken_now}
use Rattle.sim_5_moves.specs.Submits.{IsSessionAt, Submits}
use Rattle.sim_5_moves.proofs.Building.{sent_built}
use Rattle.sim_5_moves.proofs.Effects.{still_runs, tells_nothing}
use Rattle.sim_5_moves.proofs.RepliesFlags.{other_flags, own_flags}
use Rattle.sim_5_moves.proofs.Replying.{others_get_nothing, replied_is}
use Rattle.sim_5_moves.specs.Replied.{IsReplied, IsReplyCase}
use Rattle.cmd_schedule.specs.Contents.{Owned}
use Rattle.sim_5_moves.proofs.ServersComing.{Coming, accounts_are, acts, around_is, built_up, elem, few, mine, named_so, old, own, rule, server_state, speaker, speaker_is, step, step_is}
use Rattle.sim_5_moves.proofs.Placed.{from_beginning}
use Rattle.sim_5_moves.proofs.ServersReplies.{IsReply, next_is, next_rest}
use Rattle.sim_5_moves.proofs.Submitted.{submits}
use Rattle.sim_5_moves.specs.Placed.{ArePlaced, IsPlaced}
use Rattle.sim_3_items.specs.Built.{IsDown, IsUpAs}
use Rattle.sim_3_items.specs.Served.{FlagsRepresent, ServerSimulates, take_reported}
use Rattle.sim_1_applications.specs.Devices.{Present, Sessions, Take, last_of}
use Rattle.sim_1_applications.specs.Events.{Around, around, flagged, reply, taking}
use Rattle.sim_1_applications.specs.Stanzas.{Message, Query, Request, Submission, Up, requests}
use Rattle.sim_1_applications.specs.Pages.{IsGiven}
use Rattle.sim_1_applications.specs.Runs.{owned_of}
use Rattle.sim_4_links_follow.specs.Given.{sends_to}
use Rattle.sim_3_images.proofs.RuleKept.{found_is}
use Rattle.cmd_world.proofs.Declares.{some_kept}
use Rattle.sim_5_moves.specs.Running.{history_for, keep_in, names_of}
use Rattle.xml_writer.specs.Items.{ItemOut}

none_read : (zs : List ItemOut) → map down_stanza zs ≡ [] → zs ≡ []
none_read [] is = refl
none_read (z ∷ zs) is = absurd (let no_way : ⊥ = cc in no_way)

-- ---- a message to nobody

module _ (c : Coming) (m : Submission) (reads : up_stanza c.z ≡ Message m) (nobody : is_among m.to (names_of c.schedule) ≡ false) where
  abbrev x : Submits (keep_in c.schedule) (owned_of c.schedule) (names_of c.schedule) c.x.takes (server_state c) (mine c) c.o (speaker c) m (elem c)
  x = submits c m reads

  abbrev a : Around
  a = around c.x (old c).device

  abbrev new : List Take
  new = taken_now (names_of c.schedule) (server_state c) (mine c) c.o m

  new_none : new ≡ []
  new_none = ap (λ b. if b then record { device = mine c; account = c.o.account; said = m; moment = (server_state c).moment } ∷ [] else []) nobody

  all_same : c.x.takes ++ new ≡ c.x.takes
  all_same = ap (λ l. c.x.takes ++ l) new_none ∙ append-nil c.x.takes

  told_none : takes_reported c.w.moment (step c).outs ≡ []
  told_none =
      ap (λ n. takes_reported n (step c).outs) (sym c.runs.simulation.now) ∙ ap (λ (s : Step ItemOut). takes_reported (server_state c).moment s.outs) (step_is c) ∙ told_after x ∙ ap (map (take_reported (owned_of c.schedule))) new_none

  -- what goes to a device's session
  goes : (j : ℕ) (p : Owned) (u : Session ItemOut) → IsSessionAt (owned_of c.schedule) (names_of c.schedule) (server_state c) j p u → map down_stanza (sends_to u.shown.number (acts c)) ≡ only_at u.shown.number (speaker c).shown.number (reply a (Message m))
  goes j p u at =
      (sent_reads x a j p u at (accounts_are c)).read
      ∙ ap (λ l. only_at u.shown.number (speaker c).shown.number (reply a (Message m)) ++ heard_in (c.x.takes ++ l) l j p u) new_none
      ∙ append-nil (only_at u.shown.number (speaker c).shown.number (reply a (Message m)))

  kept_so : (account : ℕ) (resource : List ℕ) (d : Sessions) → FlagsRepresent account resource (server_state c) d → FlagsRepresent account resource (step c).server_state d
  kept_so account resource d represents = subst (λ (s : Step ItemOut). FlagsRepresent account resource s.server_state d) (sym (step_is c)) (flags_stay x account resource d represents)

  pub nobody_reply : IsReply c (Message m)
  nobody_reply = record {
    reads = reads;
    none = ap (λ b. if b then record { device = mine c; account = (old c).device.account; said = m; moment = c.x.clock } ∷ [] else []) (ap (is_among m.to) (accounts_are c) ∙ nobody);
    server =
        subst (λ takes. ServerSimulates (keep_in c.schedule) (owned_of c.schedule) (names_of c.schedule) takes (step c).server_state) all_same
        (subst (λ (s : Step ItemOut). ServerSimulates (keep_in c.schedule) (owned_of c.schedule) (names_of c.schedule) (c.x.takes ++ new) s.server_state) (sym (step_is c)) (runs_after x));
    told = told_none;
    sent =
        goes (mine c) c.o (speaker c) (speaker_is c)
        ∙ ap (λ b. if b then reply a (Message m) else []) (eq-eqb (speaker c).shown.number (speaker c).shown.number refl);
    others = λ j p u at other.
        none_read (sends_to u.shown.number (acts c)) (goes j p u at ∙ ap (λ b. if b then reply a (Message m) else []) (ne_eqb u.shown.number (speaker c).shown.number (λ same. other (sym same))));
    built = subst (λ takes. AllByRecursion (IsDown c.o (history_for c.schedule takes c.o)) (sends_to (speaker c).shown.number (acts c))) all_same (sent_reads x a (mine c) c.o (speaker c) (speaker_is c) (accounts_are c)).built;
    flags = λ d present represents. kept_so (own c).account c.o.device d represents;
    spares = λ account resource apart d represents. kept_so account resource d represents;
  }

-- ---- stanzas that are no messages

module _ (c : Coming) (y : Up) (reads : up_stanza c.z ≡ y) (none : taking c.x.accounts c.x.clock (mine c) (old c).device.account (y ∷ []) ≡ []) (is_replied : IsReplied (last_of c.x.takes c.o.account) y) where
  case : IsReplyCase (keep_in c.schedule) (owned_of c.schedule) (names_of c.schedule) c.x.takes (server_state c) c.o (speaker c) y (elem c)
  case = record {
    runs = c.runs.simulation.server;
    some = some_kept c.schedule.version c.right.keeps;
    few = (let below = few c in omega (arith, below));
    session = record { there = (speaker_is c).lives; account = (speaker_is c).account; resource = (speaker_is c).resource; address = (old c).represents.normal.full };
    built = subst (IsUpAs c.o y) c.session.stanza.whole (subst (λ u. IsUpAs c.o u c.z) reads (built_up c));
    replied = is_replied;
  }

  same_name : ((speaker c).shown.account ≡ (own c).account) × ((speaker c).shown.resource ≡ c.o.device)
  same_name = named_so c (mine c) c.o (speaker c) (found_is (is_named (own c).account c.o.device) (server_state c).sessions (speaker c) c.session.named)

  flags_so : (d : Sessions) → d.row ≡ Present → FlagsRepresent (own c).account c.o.device (server_state c) d → FlagsRepresent (own c).account c.o.device (step c).server_state (flagged y d)
  flags_so d present represents =
      let as_speaker : FlagsRepresent (speaker c).shown.account (speaker c).shown.resource (server_state c) d =
      subst (λ n. FlagsRepresent n (speaker c).shown.resource (server_state c) d) (sym same_name.0) (subst (λ l. FlagsRepresent (own c).account l (server_state c) d) (sym same_name.1) represents) in
      let after_it = own_flags (keep_in c.schedule) (owned_of c.schedule) (names_of c.schedule) c.x.takes (server_state c) c.o (speaker c) y (elem c) case (rule c) d present as_speaker in
      subst (λ n. FlagsRepresent n c.o.device (step c).server_state (flagged y d)) same_name.0
      (subst (λ l. FlagsRepresent (speaker c).shown.account l (step c).server_state (flagged y d)) same_name.1
      (subst (λ (s : Step ItemOut). FlagsRepresent (speaker c).shown.account (speaker c).shown.resource s.server_state (flagged y d)) (sym (step_is c)) after_it))

  pub served_reply : IsReply c y
  served_reply = record {
    reads = reads;
    none = none;
    server = subst (λ (s : Step ItemOut). ServerSimulates (keep_in c.schedule) (owned_of c.schedule) (names_of c.schedule) c.x.takes s.server_state) (sym (step_is c)) (still_runs (keep_in c.schedule) (owned_of c.schedule) (names_of c.schedule) c.x.takes (server_state c) c.o (speaker c) y (elem c) case);
    told = ap (λ (s : Step ItemOut). takes_reported c.w.moment s.outs) (step_is c) ∙ tells_nothing (keep_in c.schedule) (owned_of c.schedule) (names_of c.schedule) c.x.takes (server_state c) c.o (speaker c) y (elem c) case c.w.moment;
    sent =
        ap (map down_stanza) (same_sends (speaker c).shown.number (acts c)) ∙ replied_is (keep_in c.schedule) (owned_of c.schedule) (names_of c.schedule) c.x.takes (server_state c) c.o (speaker c) y (elem c) case
        ∙ ap (λ e. reply e y) (sym (around_is c));
    others = λ j p u at other. same_sends u.shown.number (acts c) ∙ others_get_nothing (keep_in c.schedule) (owned_of c.schedule) (names_of c.schedule) c.x.takes (server_state c) c.o (speaker c) y (elem c) u.shown.number case other;
    built = subst (AllByRecursion (IsDown c.o (history_for c.schedule c.x.takes c.o))) (sym (same_sends (speaker c).shown.number (acts c))) (sent_built (keep_in c.schedule) (owned_of c.schedule) (names_of c.schedule) c.x.takes (server_state c) c.o (speaker c) y (elem c) case);
    flags = flags_so;
    spares = λ account resource apart d represents.
        subst (λ (s : Step ItemOut). FlagsRepresent account resource s.server_state d) (sym (step_is c)) (other_flags (keep_in c.schedule) (owned_of c.schedule) (names_of c.schedule) c.x.takes (server_state c) c.o (speaker c) y (elem c) case (rule c) account resource d apart represents);
  }

-- ---- requests

-- the request is the next one of the device's session
pub is_asked : (c : Coming) (r : Request) → up_stanza c.z ≡ Query r → IsAsked (last_of c.x.takes c.o.account) r
is_asked c r reads =
    let d = (old c).device in
    let request : IsRequest r = (subst (λ u. IsUpAs c.o u c.z) reads (built_up c)).1 in
    let all : ArePlaced (last_of c.x.takes d.account) d =
    from_beginning (keep_in c.schedule) (some_kept c.schedule.version c.right.keeps) (names_of c.schedule) (map (λ (p : Owned). p.account) (owned_of c.schedule)) c.runs.in_bounds.led.events c.x c.runs.in_bounds.led.reaches (mine c) d (old c).there in
    let one : IsPlaced (last_of c.x.takes d.account) r = (subst (λ zs. AllByRecursion (IsPlaced (last_of c.x.takes d.account)) (requests zs)) (next_is c ∙ ap (λ u. u ∷ next_rest c) reads) all).0 in
    record { number_fits = request.number_fits; position = subst (λ account. IsGiven (last_of c.x.takes account) r.after) (old c).account one.0; few = one.1 }
