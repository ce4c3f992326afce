-- A server that serves several connections, and one event more.
use Rattle.std.proofs.Common.{zero, suc, inl, inr, ◌≡◌, ℕ, ◌+◌, ◌<◌, ◌≤◌, ◌⊎◌, ⊎_elim, List, [], ◌∷◌, ◌++◌, length, length-append, Result, Ok, Err, OnOk, OnErr, append-nil, ap, refl, subst, sym, ◌∙◌, arith}
use Rattle.std.specs.Prelude.{IsTrue, None, ◌^◌}
use Rattle.std.proofs.lemmas.Grind.{flat_map-append}
use Rattle.std.proofs.lemmas.List.{length-map, map-append}
use mathlib.Core.Option.{some, some-injective, some-ne-none}
use lib.ListN.{get_elem?}
use Rattle.srv_state.specs.Seen.{outs_of}
use Rattle.srv_state.specs.State.{Out, conn_at}
use Rattle.srv_state.specs.declared.output.Output.{Output}
use Rattle.net_traits.specs.Halves.{OutgoingView}
use Rattle.cmd_journal.specs.AccountsFiles.{AccountsView, IsAccountsFile}
use Rattle.cmd_journal.specs.Journals.{Connect, EventView, Gone, Piece, are_bytes, begun_last, is_connection, is_moment, may_happen}
use Rattle.cmd_journal.specs.declared.event.Event.{Event}
use Rattle.cmd_journal.specs.declared.event.TheConstants.{LAST_CONNECTION}
use Rattle.net_owner.proofs.HeldHalves.{first_same}
use Rattle.net_owner.specs.Halves.{AreFirst}
use Rattle.net_hub.proofs.MoreEvents.{are_more, drawn_more, fresh_last, is_connection_of, last_more, may_connect, may_give, may_leave, some_bytes, told_more}
use Rattle.net_hub.proofs.NotBegun.{nothing_put}
use Rattle.net_hub.specs.Records.{AddsHalf, IsKeptBy, entropy_of, last_begun, run_of_file, views_of}
use Rattle.cmd_rerun.proofs.EventRuns as runs
use Rattle.cmd_rerun.proofs.Numbers.{start_fresh}
use Rattle.cmd_rerun.specs.Reruns.{IsFresh, Run, after_event, run_at_start, run_of}
use Rattle.net_hub.proofs.AllSent.{same_sent}
use Rattle.net_hub.specs.Puts.{bytes_put, put_for}
use Rattle.net_hub.specs.Sendings.{HasSent, HaveSent, numbers_of}
use Rattle.net_hub.specs.declared.sender.Sender.{Sender}
use Rattle.srv_core.specs.Events.{IsAfterBytes, Whole, after_connect, after_gone, framer_at}
use Rattle.cmd_rerun.proofs.Adding.{connects, from_start, happens_both, leaves, leaves_quietly, nothing_happens, piece_happens}
use Rattle.cmd_rerun.specs.Happening.{happens, moment_of}
use Rattle.xml_writer.specs.Items.{written_item}

-- what a list that is longer by one has at a place
at_end : {A : Type 0} (l : List A) (a b : A) (j : ℕ) → get_elem? (l ++ a ∷ []) j ≡ some b → (get_elem? l j ≡ some b) ⊎ ((j ≡ length l) × (a ≡ b))
at_end [] a b zero e = inr (refl, some-injective a b e)
at_end [] a b (suc j) e = absurd (some-ne-none b (sym e))
at_end (x ∷ xs) a b zero e = inl e
at_end (x ∷ xs) a b (suc j) e = ⊎_elim (λ t. inl t) (λ t. inr (ap suc t.0, t.1)) (at_end xs a b j e)

-- a connection that begins puts out nothing
connects_quietly : (k moment : ℕ) (entropy : List ℕ) (w : Whole (List ℕ)) → (happens (Connect k moment entropy ∷ []) w).outs ≡ []
unfolding happens
connects_quietly k moment entropy w = refl

-- what a piece leads to
pub piece_is : (k : ℕ) (bytes : List ℕ) (now : ℕ) (old new : Whole (List ℕ)) (none outs : List Output) → none ≡ []
    → IsAfterBytes written_item k bytes now old (outs_of none) new (outs_of outs) → run_of new outs ≡ happens (Piece k now bytes ∷ []) old
piece_is k bytes now old new none outs empty is =
    runs.piece_is k bytes now old new none outs is ∙ ap (λ (os : List Output). after_event (Piece k now bytes) (run_of old os)) empty
    ∙ piece_happens (Piece k now bytes) old

put_both : (k : ℕ) (a b : List (Out (List ℕ))) → put_for k (a ++ b) ≡ put_for k a ++ put_for k b
put_both k a b = flat_map-append (bytes_put k) a b

pub many : {O : Type 0} (told : O → OutgoingView) (senders : List (Sender O)) → length (numbers_of told senders) ≡ length senders
many told senders = length-map senders (λ (s : Sender _). (told s.half).number)

as_many : {O : Type 0} (told : O → OutgoingView) (new old : List (Sender O)) → numbers_of told new ≡ numbers_of told old → length new ≡ length old
as_many told new old same = sym (many told new) ∙ ap length same ∙ many told old

-- a half that stands behind the others
pub numbers_more : {O : Type 0} (told : O → OutgoingView) (half : O) (old new : List (Sender O)) → AddsHalf told half old new → numbers_of told new ≡ numbers_of told old ++ (told half).number ∷ []
numbers_more told half old new adds =
    ap (numbers_of told) adds.added ∙ map-append (λ (s : Sender _). (told s.half).number) old (adds.sender ∷ [])
    ∙ ap (λ h. numbers_of told old ++ (told h).number ∷ []) adds.half_is

pub halves_after : {O E : Type 0} (told : O → OutgoingView) (half : O) (r : Result (Unit {0}) E) (old new : List (Sender O)) → OnOk r (AddsHalf told half old new) → OnErr r (new ≡ old)
    → AreFirst (numbers_of told old) (numbers_of told new)
halves_after told half (Ok x) old new adds same = ((told half).number ∷ [], numbers_more told half old new adds)
halves_after told half (Err e) old new adds same = first_same (numbers_of told old) (numbers_of told new) (ap (numbers_of told) same)

abbrev both : Whole (List ℕ) → List (Out (List ℕ)) → Run
both server outs = record { server = server; outs = outs }

-- the run of one event more
run_more : (file : AccountsView) (events : List EventView) (e : EventView) (w : Whole (List ℕ)) → w ≡ (run_of_file file events).server
    → run_of_file file (events ++ e ∷ []) ≡ both (happens (e ∷ []) w).server ((run_of_file file events).outs ++ (happens (e ∷ []) w).outs)
run_more file events e w is =
    happens_both events (e ∷ []) (run_at_start file).server
    ∙ ap (λ (v : Whole (List ℕ)). both (happens (e ∷ []) v).server ((run_of_file file events).outs ++ (happens (e ∷ []) v).outs)) (sym is)

-- a connection that comes is fresh
pub fresh : {O : Type 0} (told : O → OutgoingView) (moments drawn : List ℕ) (file : AccountsView) (es : List EventView) (server : Whole (List ℕ)) (senders : List (Sender O)) (k now : ℕ) (entropy : List ℕ)
    → IsKeptBy told moments drawn file es server senders → k ≡ length senders + 1 → k ≤ LAST_CONNECTION → IsTrue (is_moment now) → length entropy ≡ 24 → IsTrue (are_bytes entropy)
    → (conn_at k server.server_state ≡ None) × (framer_at k server.framers ≡ None)
fresh told moments drawn file es server senders k now entropy kept position most time many bytes =
    let e = Connect k now entropy in
    let may = may_connect (last_begun 0 es) k now entropy (omega (arith, kept.last, position)) most time many bytes in
    let all = are_more 0 es e kept.are may in
    subst (IsFresh e) (sym (kept.made ∙ ap (λ (u : Run). u.server) (from_start es file))) (fresh_last es e (run_at_start file) (start_fresh file (es ++ e ∷ []) all))

module _ {O : Type 0} (told : O → OutgoingView) (moments drawn : List ℕ) (file : AccountsView) (es : List EventView) (server : Whole (List ℕ)) (senders : List (Sender O))
    (kept : IsKeptBy told moments drawn file es server senders) where
  -- one event more, of which these senders have sent what is put
  more : (e : EventView) (new : Whole (List ℕ)) (now_senders : List (Sender O)) → IsTrue (may_happen (last_begun 0 es) e)
      → begun_last (last_begun 0 es) e ≡ length now_senders → length now_senders ≤ LAST_CONNECTION → new ≡ (happens (e ∷ []) server).server
      → HaveSent told (λ k. put_for k (run_of_file file es).outs ++ put_for k (happens (e ∷ []) server).outs) now_senders
      → IsKeptBy told (moments ++ moment_of e ∷ []) (drawn ++ entropy_of e) file (es ++ e ∷ []) new now_senders
  more e new now_senders may last small is sent =
      let run = run_more file es e server kept.made in record {
        right = kept.right;
        few = kept.few;
        are = are_more 0 es e kept.are may;
        moments_are = told_more moments es e kept.moments_are;
        entropies = drawn_more drawn es e kept.entropies;
        last = last_more 0 es e ∙ last;
        small = small;
        made = is ∙ sym (ap (λ (r : Run). r.server) run);
        sent = same_sent told (λ k. put_for k (run_of_file file es).outs ++ put_for k (happens (e ∷ []) server).outs) (λ k. put_for k (run_of_file file (es ++ e ∷ [])).outs) now_senders
            (λ k. ap (λ (r : Run). put_for k r.outs) run ∙ put_both k (run_of_file file es).outs (happens (e ∷ []) server).outs) sent;
      }

  -- a connection begins
  pub kept_connect : (k now : ℕ) (entropy : List ℕ) (new : Whole (List ℕ)) (now_senders : List (Sender O)) (s : Sender O) → k ≡ length senders + 1 → k ≤ LAST_CONNECTION → IsTrue (is_moment now)
      → length entropy ≡ 24 → IsTrue (are_bytes entropy) → new ≡ after_connect k entropy now server
      → now_senders ≡ senders ++ s ∷ [] → HasSent [] s.broken (told s.half) → IsKeptBy told (moments ++ now ∷ []) (drawn ++ entropy) file (es ++ Connect k now entropy ∷ []) new now_senders
  kept_connect k now entropy new now_senders s position most time many bytes is grown none =
      let wide : length now_senders ≡ length senders + 1 = ap length grown ∙ length-append senders (s ∷ []) in
      more (Connect k now entropy) new now_senders (may_connect (last_begun 0 es) k now entropy (omega (arith, kept.last, position)) most time many bytes)
      (position ∙ sym wide) (omega (arith, wide, position, most)) (is ∙ sym (connects k now entropy server))
      (same_sent told (λ j. put_for j (run_of_file file es).outs) (λ j. put_for j (run_of_file file es).outs ++ put_for j (happens (Connect k now entropy ∷ []) server).outs) now_senders
      (λ j. ap (λ (o : List (Out (List ℕ))). put_for j (run_of_file file es).outs ++ put_for j o) (connects_quietly k now entropy server) ∙ append-nil (put_for j (run_of_file file es).outs))
      all)
    where
      all : HaveSent told (λ j. put_for j (run_of_file file es).outs) now_senders
      all i r there = ⊎_elim (λ (e : get_elem? senders i ≡ some r). kept.sent i r e)
          (λ (e : (i ≡ length senders) × (s ≡ r)).
          subst (λ (x : Sender O). HasSent (put_for (i + 1) (run_of_file file es).outs) x.broken (told x.half)) e.1
          (subst (λ l. HasSent l s.broken (told s.half)) (sym (nothing_put file es (i + 1) kept.are (omega (arith, kept.last, e.0)))) none))
          (at_end senders s r i (sym (ap (λ l. get_elem? l i) grown) ∙ there))

  -- a number of a connection that began
  begun_number : (k : ℕ) → 1 ≤ k → k ≤ length senders → IsTrue (is_connection k)
  begun_number k least most = is_connection_of k least (omega (arith, most, kept.small))

  -- no bytes were drawn besides
  as_drawn : {ms : List ℕ} {events : List EventView} {new : Whole (List ℕ)} {now_senders : List (Sender O)} → IsKeptBy told ms (drawn ++ []) file events new now_senders → IsKeptBy told ms drawn file events new now_senders
  as_drawn {ms} {events} {new} {now_senders} is = subst (λ ds. IsKeptBy told ms ds file events new now_senders) (append-nil drawn) is

  -- a piece came, and what it leads to was sent
  pub kept_piece : (k now : ℕ) (bytes : List ℕ) (new : Whole (List ℕ)) (outs : List Output) (now_senders : List (Sender O)) → 1 ≤ k → k ≤ length senders → IsTrue (is_moment now) → 0 < length bytes → IsTrue (are_bytes bytes)
      → run_of new outs ≡ happens (Piece k now bytes ∷ []) server → numbers_of told now_senders ≡ numbers_of told senders
      → ((before : ℕ → List ℕ) → HaveSent told before senders → HaveSent told (λ j. before j ++ put_for j (outs_of outs)) now_senders)
      → IsKeptBy told (moments ++ now ∷ []) drawn file (es ++ Piece k now bytes ∷ []) new now_senders
  kept_piece k now bytes new outs now_senders least most time any are run same sends =
      let wide : length now_senders ≡ length senders = as_many told now_senders senders same in
      as_drawn (more (Piece k now bytes) new now_senders (may_give (last_begun 0 es) k now bytes (begun_number k least most) time (some_bytes bytes any) are)
      (kept.last ∙ sym wide) (omega (arith, wide, kept.small)) (ap (λ (r : Run). r.server) run)
      (same_sent told (λ j. put_for j (run_of_file file es).outs ++ put_for j (outs_of outs)) (λ j. put_for j (run_of_file file es).outs ++ put_for j (happens (Piece k now bytes ∷ []) server).outs) now_senders
      (λ j. ap (λ (r : Run). put_for j (run_of_file file es).outs ++ put_for j r.outs) (sym run))
      (sends (λ j. put_for j (run_of_file file es).outs) kept.sent)))

  -- a connection is gone
  pub kept_gone : (k now : ℕ) (new : Whole (List ℕ)) (now_senders : List (Sender O)) → 1 ≤ k → k ≤ length senders → IsTrue (is_moment now) → new ≡ after_gone k now server
      → numbers_of told now_senders ≡ numbers_of told senders → ((before : ℕ → List ℕ) → HaveSent told before senders → HaveSent told before now_senders)
      → IsKeptBy told (moments ++ now ∷ []) drawn file (es ++ Gone k now ∷ []) new now_senders
  kept_gone k now new now_senders least most time is same sends =
      let wide : length now_senders ≡ length senders = as_many told now_senders senders same in
      as_drawn (more (Gone k now) new now_senders (may_leave (last_begun 0 es) k now (begun_number k least most) time)
      (kept.last ∙ sym wide) (omega (arith, wide, kept.small)) (is ∙ sym (leaves k now server))
      (same_sent told (λ j. put_for j (run_of_file file es).outs) (λ j. put_for j (run_of_file file es).outs ++ put_for j (happens (Gone k now ∷ []) server).outs) now_senders
      (λ j. ap (λ (o : List (Out (List ℕ))). put_for j (run_of_file file es).outs ++ put_for j o) (leaves_quietly k now server) ∙ append-nil (put_for j (run_of_file file es).outs))
      (sends (λ j. put_for j (run_of_file file es).outs) kept.sent)))

-- at first
kept_empty : {O : Type 0} (told : O → OutgoingView) (file : AccountsView) → IsAccountsFile file → length file.accounts < 2 ^ 32
    → IsKeptBy told [] [] file [] (run_at_start file).server []
kept_empty told file right few = record {
  right = right;
  few = few;
  are = tt;
  moments_are = refl;
  entropies = refl;
  last = refl;
  small = omega arith;
  made = sym (nothing_happens (run_at_start file).server);
  sent = λ i s at. absurd (some-ne-none s (sym at));
}

pub kept_none : {O : Type 0} (told : O → OutgoingView) (file : AccountsView) (events : List Event) (server : Whole (List ℕ)) (senders : List (Sender O))
    → IsAccountsFile file → length file.accounts < 2 ^ 32 → events ≡ [] → senders ≡ [] → server ≡ (run_at_start file).server → IsKeptBy told [] [] file (views_of events) server senders
kept_none told file events server senders right few no_events no_senders is =
    subst (λ (y : List Event × Whole (List ℕ) × List (Sender _)). IsKeptBy told [] [] file (views_of y.0) y.1 y.2) (λ n. (sym no_events n, sym is n, sym no_senders n)) (kept_empty told file right few)
