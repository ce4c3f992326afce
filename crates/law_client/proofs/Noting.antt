-- Each part of a row is in what is noted down.
use Rattle.std.proofs.Common.{◌≡◌, ℕ, ◌≤◌, false, List, [], ◌∷◌, ◌++◌, Option, Some, length, nat_lt, arith, refl, sym, ap, subst, ◌∙◌, append-nil, append_assoc}
use Rattle.std.proofs.lemmas.Bool.Decides.{nat_tests}
use Rattle.std.specs.Option.{option_map}
use Rattle.sm_acks.specs.Counters.{ahead}
use Rattle.law_client.proofs.Parts.{IsLaw, Part, acks, bound, drops_binding, drops_left, enabled, goes_free, goes_with, goes_without, handled, logs, numbers, opens, outs, states, submits, waits}
use Rattle.law_client.specs.Noted.{Ends, IsDue, IsNoted, Lead, after_note, ends_of}
use Rattle.cl_handlers.specs.Clients.{ClientStep}
use Rattle.cl_handlers.specs.Speech as speech
use Rattle.cl_handlers.specs.Speech.{Note, in_items}
use Rattle.sm_outbox.specs.Sessions.{SessionView}
use Rattle.sm_outbox.specs.Submissions.{next_number}
use Rattle.sm_outbox.specs.Waiting.{Waiting, is_too_high}
use Rattle.im_requests.specs.Sessions.{available_item, carbons_item}
use Rattle.xml_writer.specs.Items.{ItemOut}

abbrev T : Type 0
T = ClientStep ItemOut ItemOut

abbrev shown : T → Option (Ends ItemOut)
shown t = option_map ends_of t.client.session

-- ---- one after the other

lead_on : {A : Type 0} (ns ms : List (Note A)) (a b c : Option (Ends A)) → Lead ns a b → Lead ms b c → Lead (ns ++ ms) a c
lead_on [] ms a b c first rest = subst (λ o. Lead ms o c) first rest
lead_on (n ∷ ns) ms a b c first rest = (first.0, lead_on ns ms (after_note n a) b c first.1 rest)

noted_on : (t u v : T) → IsNoted t u → IsNoted u v → IsNoted t v
noted_on t u v first rest = record {
  more = first.more ++ rest.more;
  notes = rest.notes ∙ ap (λ ns. ns ++ rest.more) first.notes ∙ append_assoc t.out.notes first.more rest.more;
  lead = lead_on first.more rest.more (shown t) (shown u) (shown v) first.lead rest.lead;
}

-- ---- the parts

nothing_noted : (t u : T) → u.out.notes ≡ t.out.notes → u.client.session ≡ t.client.session → IsNoted t u
nothing_noted t u notes session = record { more = []; notes = notes ∙ sym (append-nil t.out.notes); lead = ap (option_map ends_of) session }

one_noted : (t u : T) (note : Note ItemOut) (o : Option (SessionView ItemOut)) → t.client.session ≡ o → u.out.notes ≡ t.out.notes ++ note ∷ [] → IsDue note (option_map ends_of o) → shown u ≡ after_note note (option_map ends_of o) → IsNoted t u
one_noted t u note o is notes due after =
    let same : option_map ends_of o ≡ shown t = ap (option_map ends_of) (sym is) in
    record {
      more = note ∷ [];
      notes = notes;
      lead = (subst (IsDue note) same due, after ∙ ap (after_note note) same);
    }

-- no count that is taken is further ahead than stanzas wait
within : (w : Waiting ItemOut) (h : ℕ) → is_too_high w h ≡ false → ahead h w.acked ≤ length w.queue
within w h low = below (length w.queue) (ahead h w.acked) low
  where
    below : (q a : ℕ) → nat_lt q a ≡ false → a ≤ q
    below q a low = grind (arith, nat_tests)

noted_by : (t u : T) → Part in_items t u → IsNoted t u
noted_by t u (outs is same) = nothing_noted t u same (ap (λ c. c.session) is)
noted_by t u (states s at is) = subst (IsNoted t) (sym is) (one_noted t _ (speech.Stated s.waiting.handled) (Some s) at refl refl (ap (option_map ends_of) at))
noted_by t u (goes_free p needs binds is) = subst (IsNoted t) (sym is) (nothing_noted t _ refl refl)
noted_by t u (goes_with p binds some is) = subst (IsNoted t) (sym is) (nothing_noted t _ refl refl)
noted_by t u (goes_without p needs none is) = subst (IsNoted t) (sym is) (nothing_noted t _ refl refl)
noted_by t u (bound at is) = subst (IsNoted t) (sym is) (one_noted t _ (speech.Epoch (next_number t.client.epoch)) t.client.session refl refl tt refl)
noted_by t u (enabled previd at is) =
    subst (IsNoted t) (sym is)
    (record {
      more = speech.Counted ∷ speech.Put carbons_item ∷ speech.Put available_item ∷ [];
      notes = append_assoc (t.out.notes ++ speech.Counted ∷ []) (speech.Put carbons_item ∷ []) (speech.Put available_item ∷ []) ∙ append_assoc t.out.notes (speech.Counted ∷ []) (speech.Put carbons_item ∷ speech.Put available_item ∷ []);
      lead = (tt, (tt, (tt, refl)));
    })
noted_by t u (drops_left is) = subst (IsNoted t) (sym is) (one_noted t _ speech.Ended t.client.session refl refl tt refl)
noted_by t u (drops_binding is) = subst (IsNoted t) (sym is) (one_noted t _ speech.Ended t.client.session refl refl tt refl)
noted_by t u (waits s stanza at position is) = subst (IsNoted t) (sym is) (one_noted t _ (speech.Put stanza) (Some s) at refl tt refl)
noted_by t u (submits s said at position is) = subst (IsNoted t) (sym is) (one_noted t _ (speech.Put _) (Some s) at refl tt refl)
noted_by t u (acks s h at low is) = subst (IsNoted t) (sym is) (one_noted t _ (speech.Acknowledged (ahead h s.waiting.acked)) (Some s) at refl (within s.waiting h low) refl)
noted_by t u (handled s e at is) = subst (IsNoted t) (sym is) (one_noted t _ (speech.Handled e) (Some s) at refl tt refl)
noted_by t u (logs log part is) = subst (IsNoted t) (sym is) (nothing_noted t _ refl refl)
noted_by t u (opens s queryid max at is) = subst (IsNoted t) (sym is) (nothing_noted t _ refl refl)
noted_by t u (numbers number is) = subst (IsNoted t) (sym is) (nothing_noted t _ refl refl)

pub noting_law : IsLaw in_items IsNoted
noting_law = record { stays = λ t. nothing_noted t t refl refl; joins = noted_on; parts = noted_by }
