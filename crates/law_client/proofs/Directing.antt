-- What rows do to a session are moves of its directions.
use Rattle.std.proofs.Common.{◌≡◌, ℕ, ◌+◌, ◌%◌, ◌^◌, ◌≤◌, Bool, true, false, List, [], ◌∷◌, ◌++◌, length, if◌then◌else◌, arith, refl, sym, ap, subst, ◌∙◌}
use Rattle.std.proofs.lemmas.List.{drop-append-le, length_push}
use Rattle.sm_acks.specs.Delivery.{Acknowledge, Direction, Handle, Moves, Put, Reached, Resume, beginning}
use Rattle.cl_core.specs.PageRows.{requests}
use Rattle.cl_core.specs.Steps.{handles}
use Rattle.law_client.specs.Directed.{IsDirected, IsResumed}
use Rattle.cl_handlers.specs.AckRows.{ack_row, acknowledges, counts_too_high}
use Rattle.cl_handlers.specs.Clients.{ClientStep}
use Rattle.cl_handlers.specs.SessionRows.{attaches, begins, resent, resumed_row}
use Rattle.cl_handlers.specs.Speech.{Speech}
use Rattle.cl_handlers.specs.ClientSteps.{put_in}
use Rattle.sm_outbox.proofs.Directions.{acknowledges as acknowledged_end, resumption}
use Rattle.sm_outbox.specs.Directions.{Receives, Sends}
use Rattle.sm_outbox.specs.Sessions.{SessionView}
use Rattle.sm_outbox.specs.Waiting.{Waiting, counted_in, is_too_high, queued, too_high}
use Rattle.im_requests.specs.Sessions.{available_item, carbons_item}
use Rattle.xml_trees.specs.Trees.{Elem}
use Rattle.sm_acks.proofs.Senders.{counted_more as wraps}

-- ---- the ends

sends_more : {A : Type 0} (w : Waiting A) (stanza : A) (kind : Bool) (d next : Direction A) → Sends w d → Moves (Put stanza) d next → Sends (queued w stanza kind) next
sends_more w stanza kind d next s is =
    subst (Sends (queued w stanza kind)) (sym is)
    (record {
      count = s.count;
      within = let size = length_push d.put stanza in let low = s.within in omega arith;
      queue = ap (λ q. q ++ stanza ∷ []) s.queue ∙ sym (drop-append-le d.acked d.put (stanza ∷ []) s.within);
    })

receives_more : {A : Type 0} (w : Waiting A) (d next : Direction A) → Receives w d → Moves Handle d next → Receives (counted_in w) next
receives_more {A = A} w d next r (a, rest, way, is) =
    let size : length next.got ≡ length d.got + 1 = ap (λ (e : Direction A). length e.got) is ∙ length_push d.got a in
    record { count = ap (λ n. (n + 1) % 2 ^ 32) r.count ∙ wraps (length d.got) ∙ ap (λ n. n % 2 ^ 32) (sym size) }

-- ---- rows

pub begun_directed : {A X : Type 0} (speech : Speech A X) (t : ClientStep A X) (previd : List ℕ) (first second : Direction A) → Moves (Put (speech.say carbons_item)) beginning first → Moves (Put (speech.say available_item)) first second
    → IsDirected (begins speech t previd).client second beginning
begun_directed {A = A} speech t previd first second one two =
    let start : Waiting A = record { acked = 0; handled = 0; queue = []; submissions = [] } in
    let empty : Sends start beginning = record { count = refl; within = omega arith; queue = refl } in
    let once : Sends (queued start (speech.say carbons_item) false) first = sends_more start (speech.say carbons_item) false beginning first empty one in
    record {
      session = _;
      stands = refl;
      sends = sends_more (queued start (speech.say carbons_item) false) (speech.say available_item) false first second once two;
      receives = record { count = refl };
    }

pub put_directed : {A X : Type 0} (speech : Speech A X) (t : ClientStep A X) (s : SessionView A) (stanza : A) (kind : Bool) (sent got next : Direction A) → Sends s.waiting sent → Receives s.waiting got → Moves (Put stanza) sent next
    → IsDirected (put_in speech t s stanza kind).client next got
put_directed speech t s stanza kind sent got next sends receives move =
    record { session = _; stands = refl; sends = sends_more s.waiting stanza kind sent next sends move; receives = record { count = receives.count } }

pub requested_directed : {A X : Type 0} (speech : Speech A X) (t : ClientStep A X) (s : SessionView A) (stanza : A) (kind : Bool) (sent got next : Direction A) → Sends s.waiting sent → Receives s.waiting got → Moves (Put stanza) sent next
    → IsDirected (requests speech t s stanza kind).client next got
requested_directed speech t s stanza kind sent got next sends receives move =
    record { session = _; stands = refl; sends = sends_more s.waiting stanza kind sent next sends move; receives = record { count = receives.count } }

pub handled_directed : {A X : Type 0} (speech : Speech A X) (t : ClientStep A X) (s : SessionView A) (e : Elem) (sent got next : Direction A) → Sends s.waiting sent → Receives s.waiting got → Moves Handle got next
    → IsDirected (handles speech t s e).client sent next
handled_directed speech t s e sent got next sends receives move =
    record { session = _; stands = refl; sends = record { count = sends.count; within = sends.within; queue = sends.queue }; receives = receives_more s.waiting got next receives move }

otherwise : {A X : Type 0} (b : Bool) (x y : ClientStep A X) → b ≡ false → (if b then x else y) ≡ y
otherwise true x y low = absurd (cc low)
otherwise false x y low = refl

pub acknowledged_directed : {A X : Type 0} (speech : Speech A X) (t : ClientStep A X) (s : SessionView A) (h n : ℕ) (sent got next : Direction A) → length s.waiting.queue ≤ 10000 → Reached sent → Sends s.waiting sent → Receives s.waiting got
    → Moves (Acknowledge n) sent next → h ≡ n % 2 ^ 32 → IsDirected (ack_row speech t s h).client next got
acknowledged_directed {A = A} {X = X} speech t s h n sent got next few reached sends receives move is =
    let taken = acknowledged_end h n s.waiting sent next few reached sends move is in
    subst (λ (u : ClientStep A X). IsDirected u.client next got) (sym (otherwise (is_too_high s.waiting h) (counts_too_high speech t (too_high s.waiting h)) (acknowledges speech t s h) taken.0))
    (record { session = _; stands = refl; sends = taken.2; receives = record { count = receives.count } })

pub resumed_directed : {A X : Type 0} (speech : Speech A X) (t : ClientStep A X) (s : SessionView A) (h : ℕ) (sent got next : Direction A) → length s.waiting.queue ≤ 10000 → Reached sent → Sends s.waiting sent → Receives s.waiting got
    → Moves Resume sent next → h ≡ length sent.got % 2 ^ 32 → IsResumed speech t (resumed_row speech t s h) next got
resumed_directed {A = A} {X = X} speech t s h sent got next few reached sends receives move is =
    let taken = resumption h s.waiting sent next few reached sends move is in
    subst (λ (u : ClientStep A X). IsResumed speech t u next got) (sym (otherwise (is_too_high s.waiting h) (counts_too_high speech t (too_high s.waiting h)) (attaches speech (acknowledges speech t s h)) taken.0))
    (record {
      directed = record { session = _; stands = refl; sends = taken.2; receives = record { count = receives.count } };
      again = ap (λ queue. t.out.put ++ resent speech queue) taken.1;
    })
