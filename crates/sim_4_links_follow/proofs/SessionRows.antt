-- The rows of a session on the acknowledgement of stanzas (XEP-0198, sections 3 and 4): a request, `enable`, and a
-- count.
use Rattle.std.proofs.Common.{◌≡◌, ℕ, ◌-◌, ◌≤◌, ◌<◌, ◌^◌, Bool, true, false, List, [], ◌∷◌, Some, Ok, length, drop, nat_lt, cond, codes, if◌then◌else◌, refl, sym, ap, subst, ◌∙◌, arith}
use Rattle.std.proofs.lemmas.Bool.Decides.{nat_tests}
use Rattle.std.proofs.lemmas.List.{length-drop}
use Rattle.std.proofs.lemmas.List.Elements.{All-drop, All-nil}
use Rattle.std.proofs.Math.Nat.{mod-lt}
use Rattle.std.specs.Option.{option_map}
use Rattle.sm_acks.proofs.Senders.{ahead_exact}
use Rattle.sm_acks.specs.Counters.{ahead}
use Rattle.sm_acks.specs.declared.end.TheConstants.{MOST_UNACKNOWLEDGED}
use Rattle.srv_state.specs.State.{Put, ServerState, with_sessions}
use Rattle.srv_state.specs.Steps.{Say, acted}
use Rattle.srv_state.specs.Steps.{Enable as ActEnable}
use Rattle.srv_state.specs.declared.word.Word.TheVariants as word
use Rattle.sm_resumption.specs.declared.answers.TheConstants.{RESUMABLE_SECONDS}
use Rattle.sim_3_items.specs.Counted.{IsForClient}
use Rattle.sim_3_items.specs.Identities.{Identity, Login}
use Rattle.sim_3_items.specs.Servers.{IsRow, ServerRepresents}
use Rattle.sim_3_items.specs.WordItems.{told_count, up_item}
use Rattle.im_extensions.specs.StreamManagement.{ack_elem, enable_elem}
use Rattle.sim_3_items.specs.ItemMoves.{step_of}
use Rattle.sim_3_items.specs.ItemPipes.{ItemWire}
use Rattle.sim_3_items.specs.ItemWorlds.{itself}
use Rattle.sim_2_links.proofs.Expected.{expected_up}
use Rattle.sim_2_links.proofs.Promised.{up_count_within}
use Rattle.sim_2_links.specs.LinkMoves.{acked_if, stated_if}
use Rattle.sim_2_links.specs.Machine.{TakesCount, TakesEnable, TakesRequest}
use Rattle.sim_2_links.specs.Promises.{HasThere, IsWithin}
use Rattle.sim_2_links.specs.Views.{Row, Table, View, alter, has, with_at}
use Rattle.sim_2_links.specs.Views as links
use Rattle.sim_2_links.specs.Wires.{is_flowing}
use Rattle.sim_2_links.specs.Words.{Ack, Down, DownWord, Enable, Enabled, Req, Up, UpWord}
use Rattle.sm_live.specs.Sessions.{Session, ack_answer, acknowledged, asks, enables, is_too_high, session_of, with_session}
use Rattle.im_payload.specs.Bare.{bare}
use Rattle.im_payload.specs.Names.{management}
use Rattle.im_replies.specs.Management.{ack_item, resumable_item}
use Rattle.sim_4_links_follow.proofs.HandMoves.{kept_here}
use Rattle.sim_4_links_follow.proofs.ReadWords.{ack_word, enable_word, request_word}
use Rattle.sim_4_links_follow.proofs.Sessions.{counts_so, few, few_wait, live, numbered, session_row, taken, taken_client, taken_pipes}
use Rattle.sim_4_links_follow.specs.Taking.{IsFirst, IsOfManagement, IsTaken, StepFollows, on_item}
use Rattle.srv_handlers.specs.Managements.{acknowledging, refusing}
use Rattle.im_stanza.specs.declared.conditions.Condition.TheVariants.{UnexpectedRequest}
use Rattle.sim_4_links_follow.proofs.Emitted.{puts_at}
use Rattle.sim_4_links_follow.proofs.Found.{Keeps}
use Rattle.sim_4_links_follow.proofs.Servings.{Known, known_altered, known_same, row_represents, session_represents}
use Rattle.xml_writer.specs.Items.{ItemOut}

-- ---- sessions that are changed so

pub enables_keeps : Keeps (enables {A = ItemOut} true)
enables_keeps = record { number = λ s. refl; account = λ s. refl; resource = λ s. refl; conn = λ s. refl }

pub acknowledged_keeps : (n : ℕ) → Keeps (acknowledged {A = ItemOut} n)
acknowledged_keeps n = record { number = λ s. refl; account = λ s. refl; resource = λ s. refl; conn = λ s. refl }

pub asks_keeps : (on : Bool) → Keeps (asks {A = ItemOut} on)
asks_keeps on = record { number = λ s. refl; account = λ s. refl; resource = λ s. refl; conn = λ s. refl }

enabled_row : (r : Row ItemOut) (s : Session ItemOut) → IsRow r s → IsRow (record r { counted = true }) (enables true s)
enabled_row r s is = record {
  number = is.number;
  conn = is.conn;
  counted = refl;
  resumable = refl;
  acked = is.acked;
  handled = is.handled;
  waiting = is.waiting;
  quiet = λ e. absurd (let no_way : ⊥ = cc in no_way);
  for_client = is.for_client;
}

pub asked_row : (on : Bool) (r : Row ItemOut) (s : Session ItemOut) → IsRow r s → IsRow r (asks on s)
asked_row on r s is = record {
  number = is.number;
  conn = is.conn;
  counted = is.counted;
  resumable = is.resumable;
  acked = is.acked;
  handled = is.handled;
  waiting = is.waiting;
  quiet = is.quiet;
  for_client = is.for_client;
}

-- a count that names a place in the queue
pub near : (r : Row ItemOut) (n : ℕ) → IsWithin r.acked r.queue n → length r.queue ≤ 10000 → ahead (told_count n) (told_count r.acked) ≡ n - r.acked
near r n within few = let low = within.low in let high = within.high in ahead_exact n r.acked low (omega arith)

acknowledged_row : (r : Row ItemOut) (n : ℕ) → IsWithin r.acked r.queue n → length r.queue ≤ 10000 → (s : Session ItemOut) → IsRow r s
    → IsRow (record r { acked = n; queue = drop (n - r.acked) r.queue }) (acknowledged (told_count n) s)
acknowledged_row r n within few s is = record {
  number = is.number;
  conn = is.conn;
  counted = is.counted;
  resumable = is.resumable;
  acked = refl;
  handled = is.handled;
  waiting = ap (λ a. drop (ahead (told_count n) a) s.waiting) is.acked ∙ ap (λ m. drop m s.waiting) (near r n within few) ∙ ap (drop (n - r.acked)) is.waiting;
  quiet = is.quiet;
  for_client = All-drop IsForClient (n - r.acked) r.queue is.for_client;
}

pub fewer : (n most : ℕ) (zs : List ItemOut) → length zs ≤ most → length (drop n zs) ≤ most
fewer n most zs few = let size = length-drop n zs in omega arith

pub not_high : (q a : ℕ) → a ≤ q → nat_lt q a ≡ false
not_high q a within = grind (arith, nat_tests)

within_answer : (r : Row ItemOut) (n : ℕ) → IsWithin r.acked r.queue n → length r.queue ≤ 10000 → (s : Session ItemOut) → IsRow r s → ack_answer (told_count n) s ≡ Ok (ahead (told_count n) s.acked)
within_answer r n within few s is =
    let exact : ahead (told_count n) s.acked ≡ n - r.acked = ap (ahead (told_count n)) is.acked ∙ near r n within few in
    let size : length s.waiting ≡ length r.queue = ap length is.waiting in
    let low = within.low in
    let high = within.high in
    let not : is_too_high (told_count n) s ≡ false = not_high (length s.waiting) (ahead (told_count n) s.acked) (omega arith) in
    rw not refl

-- the sessions of the links, where one is counted from now on
abbrev enabled_one : ℕ → Bool → ℕ → links.Session ItemOut → links.Session ItemOut
enabled_one n flows q s = record s {
  counted = if has (Some n) q then true else s.counted;
  up = record s.up { is_open = if has (Some n) q then flows else s.up.is_open };
  down = record s.down { is_open = if has (Some n) q then flows else s.down.is_open };
}

abbrev enabled_sessions : ℕ → Bool → View ItemOut → Table (links.Session ItemOut)
enabled_sessions n flows v = alter (enabled_one n flows) v.sessions

known_enabled : (n : ℕ) (flows : Bool) (v : View ItemOut) → Known (enabled_sessions n flows v) v
known_enabled n flows v = known_altered (enabled_one n flows) v

-- ---- the rows

module _ (who : Identity) (logins : ℕ → Login) (h : ServerState ItemOut) (wires : Table ItemWire) (v : View ItemOut) (k : ℕ) where
  -- a request is answered by the count
  module _ (p : IsFirst who logins h wires v k (Up Req)) (there : HasThere v k p.conn.phase true) where
    pub request_step : on_item k (up_item who (logins k) (Up Req)) h ≡ record { server_state = h; outs = puts_at k (ack_item (told_count there.0.handled) ∷ []) }
    request_step =
        let s = (live who logins h wires v k (Up Req) p true there).session in
        let c = counts_so who logins h wires v k (Up Req) p true there in
        session_row who logins h wires v k (Up Req) p true there (bare management (codes "r")) word.Request request_word
        ∙ ap (λ b. acted itself (cond b (Say k (ack_item s.handled) ∷ []) (refusing itself k UnexpectedRequest)) (step_of h)) c
        ∙ ap (λ n. record { server_state = h; outs = Put k (ack_item n) ∷ [] }) (live who logins h wires v k (Up Req) p true there).row.handled

    request_follows : IsTaken who logins h wires v k p.wire (Up Req)
    request_follows =
        let row : Row ItemOut = there.0 in
        let puts : List (DownWord ItemOut) = Down (Ack row.handled) ∷ [] in
        let sessions : Table (links.Session ItemOut) = alter (λ q s. stated_if (has (Some row.number) q) s) v.sessions in
        let next : View ItemOut = record v { conns = with_at k (taken who logins h wires v k (Up Req) p p.conn.phase puts) v.conns; sessions = sessions } in
        subst (λ t. StepFollows who logins wires v k p.wire t []) (sym request_step) (record {
          moves = TakesRequest k ∷ [];
          next = next;
          leads = (next, record { conn = p.conn; is = p.is; rest = p.rest; first = p.first; row = row; is_row = there.1; on = there.3; counted = there.4; gives = refl }, refl);
          does = refl;
          server = row_represents who logins h v p.server k p.conn p.is (taken who logins h wires v k (Up Req) p p.conn.phase puts) v.row sessions (known_altered (λ q s. stated_if (has (Some row.number) q) s) v) refl p.server.row;
          pipes = taken_pipes who logins h wires v k (Up Req) p p.conn.phase puts (ack_item (told_count row.handled) ∷ []) next (λ j. refl) refl (All-nil IsForClient);
          client = taken_client who logins h wires v k (Up Req) p p.conn.phase puts next refl refl refl refl;
        })

  -- stanzas are counted from now on
  module _ (p : IsFirst who logins h wires v k Enable) (there : HasThere v k p.conn.phase false) where
    abbrev pub enabled_server_state : ServerState ItemOut
    enabled_server_state = with_sessions (with_session there.0.number (enables true) h.sessions) h

    pub enable_step : on_item k (up_item who (logins k) Enable) h ≡ record { server_state = enabled_server_state; outs = puts_at k (resumable_item there.0.number RESUMABLE_SECONDS ∷ []) }
    enable_step =
        let s = (live who logins h wires v k Enable p false there).session in
        let c = counts_so who logins h wires v k Enable p false there in
        session_row who logins h wires v k Enable p false there (enable_elem (record { resume = true })) (word.Enable true) enable_word
        ∙ ap (λ b. acted itself (cond b (refusing itself k UnexpectedRequest) (ActEnable s.shown.number true ∷ Say k (resumable_item s.shown.number RESUMABLE_SECONDS) ∷ [])) (step_of h)) c
        ∙ ap (λ n. record { server_state = with_sessions (with_session n (enables true) h.sessions) h; outs = Put k (resumable_item n RESUMABLE_SECONDS) ∷ [] }) (live who logins h wires v k Enable p false there).row.number

    enable_follows : IsTaken who logins h wires v k p.wire Enable
    enable_follows =
        let row : Row ItemOut = there.0 in
        let puts : List (DownWord ItemOut) = Enabled row.number ∷ [] in
        let d = taken who logins h wires v k Enable p p.conn.phase puts in
        let after : Row ItemOut = record row { counted = true } in
        let sessions : Table (links.Session ItemOut) = enabled_sessions row.number (is_flowing p.conn.wires) v in
        let next : View ItemOut = record v { conns = with_at k d v.conns; row = Some after; sessions = sessions } in
        subst (λ t. StepFollows who logins wires v k p.wire t []) (sym enable_step) (record {
          moves = TakesEnable k ∷ [];
          next = next;
          leads = (next, record { conn = p.conn; is = p.is; rest = p.rest; first = p.first; row = row; is_row = there.1; on = there.3; uncounted = there.4; gives = refl }, refl);
          does = refl;
          server =
              row_represents who logins enabled_server_state (record v { row = Some after; sessions = sessions })
              (session_represents who logins h v row after (enables true) sessions (known_enabled row.number (is_flowing p.conn.wires) v) p.server there.1 enables_keeps (enabled_row row) (few_wait who logins h wires v k Enable p false there))
              k p.conn p.is d (Some after) sessions (known_same (record v { row = Some after; sessions = sessions })) refl
              (session_represents who logins h v row after (enables true) sessions (known_enabled row.number (is_flowing p.conn.wires) v) p.server there.1 enables_keeps (enabled_row row) (few_wait who logins h wires v k Enable p false there)).row;
          pipes = taken_pipes who logins h wires v k Enable p p.conn.phase puts (resumable_item row.number RESUMABLE_SECONDS ∷ []) next (λ j. refl) refl (All-nil IsForClient);
          client = taken_client who logins h wires v k Enable p p.conn.phase puts next refl refl refl refl;
        })

  -- a count acknowledges
  module _ (n : ℕ) (p : IsFirst who logins h wires v k (Up (Ack n))) (there : HasThere v k p.conn.phase true) where
    within : IsWithin there.0.acked there.0.queue n
    within = up_count_within v k n p.conn there.0 p.rest (kept_here who logins h wires v k (Up (Ack n)) p) p.is there.1 there.3 there.4 p.first

    low : told_count n < 2 ^ 32
    low = mod-lt n (omega arith)

    abbrev pub acked_server_state : ServerState ItemOut
    acked_server_state = with_sessions (with_session there.0.number (acknowledged (told_count n)) h.sessions) h

    abbrev pub asked_server_state : ServerState ItemOut
    asked_server_state = with_sessions (with_session there.0.number (asks false) acked_server_state.sessions) acked_server_state

    pub count_step : on_item k (up_item who (logins k) (Up (Ack n))) h ≡ record { server_state = asked_server_state; outs = [] }
    count_step =
        let here = live who logins h wires v k (Up (Ack n)) p true there in
        let s = here.session in
        session_row who logins h wires v k (Up (Ack n)) p true there (ack_elem (record { h = told_count n })) (word.Ack (told_count n)) (ack_word (told_count n) low)
        ∙ ap (λ b. acted itself (cond b (acknowledging itself k s.shown.number (told_count n) (option_map (ack_answer (told_count n)) (session_of s.shown.number h.sessions))) (refusing itself k UnexpectedRequest)) (step_of h)) (counts_so who logins h wires v k (Up (Ack n)) p true there)
        ∙ ap (λ o. acted itself (acknowledging itself k s.shown.number (told_count n) (option_map (ack_answer (told_count n)) o)) (step_of h)) (numbered who logins h wires v k (Up (Ack n)) p true there)
        ∙ ap (λ a. acted itself (acknowledging itself k s.shown.number (told_count n) (Some a)) (step_of h)) (within_answer there.0 n within (few who logins h wires v k (Up (Ack n)) p true there) s here.row)
        ∙ ap (λ m. record { server_state = with_sessions (with_session m (asks false) (with_session m (acknowledged (told_count n)) h.sessions)) h; outs = [] }) here.row.number

    count_follows : IsTaken who logins h wires v k p.wire (Up (Ack n))
    count_follows =
        let row : Row ItemOut = there.0 in
        let d = taken who logins h wires v k (Up (Ack n)) p p.conn.phase [] in
        let after : Row ItemOut = record row { acked = n; queue = drop (n - row.acked) row.queue } in
        let sessions : Table (links.Session ItemOut) = alter (λ q s. acked_if (has (Some row.number) q) n s) v.sessions in
        let next : View ItemOut = record v { conns = with_at k d v.conns; row = Some after; sessions = sessions } in
        let queue_few = few who logins h wires v k (Up (Ack n)) p true there in
        let acked : ServerRepresents who logins acked_server_state (record v { row = Some after; sessions = sessions }) =
        session_represents who logins h v row after (acknowledged (told_count n)) sessions (known_altered (λ q s. acked_if (has (Some row.number) q) n s) v) p.server there.1 (acknowledged_keeps (told_count n)) (acknowledged_row row n within queue_few)
        (λ s is. fewer (ahead (told_count n) s.acked) MOST_UNACKNOWLEDGED s.waiting (few_wait who logins h wires v k (Up (Ack n)) p true there s is)) in
        let few_left : length after.queue ≤ MOST_UNACKNOWLEDGED = fewer (n - row.acked) MOST_UNACKNOWLEDGED row.queue queue_few in
        let asked : ServerRepresents who logins asked_server_state (record v { row = Some after; sessions = sessions }) =
        session_represents who logins acked_server_state (record v { row = Some after; sessions = sessions }) after after (asks false) sessions (known_same (record v { row = Some after; sessions = sessions })) acked refl (asks_keeps false) (asked_row false after)
        (λ s is. subst (λ q. length q ≤ MOST_UNACKNOWLEDGED) (sym is.waiting) few_left) in
        subst (λ t. StepFollows who logins wires v k p.wire t []) (sym count_step) (record {
          moves = TakesCount k n ∷ [];
          next = next;
          leads = (next, record { conn = p.conn; is = p.is; rest = p.rest; first = p.first; row = row; is_row = there.1; on = there.3; counted = there.4; gives = refl }, refl);
          does = refl;
          server = row_represents who logins asked_server_state (record v { row = Some after; sessions = sessions }) asked k p.conn p.is d (Some after) sessions (known_same (record v { row = Some after; sessions = sessions })) refl asked.row;
          pipes = taken_pipes who logins h wires v k (Up (Ack n)) p p.conn.phase [] [] next (λ j. refl) refl (All-nil IsForClient);
          client = taken_client who logins h wires v k (Up (Ack n)) p p.conn.phase [] next refl refl refl refl;
        })

-- ---- all three

pub management_follows : (who : Identity) (logins : ℕ → Login) (h : ServerState ItemOut) (wires : Table ItemWire) (v : View ItemOut) (k : ℕ) (word : UpWord ItemOut) (p : IsFirst who logins h wires v k word)
    → IsOfManagement word → IsTaken who logins h wires v k p.wire word
management_follows who logins h wires v k Enable p is = enable_follows who logins h wires v k p (expected_up v k p.conn Enable p.rest (kept_here who logins h wires v k Enable p) p.is p.first)
management_follows who logins h wires v k (Up Req) p is = request_follows who logins h wires v k p (expected_up v k p.conn (Up Req) p.rest (kept_here who logins h wires v k (Up Req) p) p.is p.first)
management_follows who logins h wires v k (Up (Ack n)) p is = count_follows who logins h wires v k n p (expected_up v k p.conn (Up (Ack n)) p.rest (kept_here who logins h wires v k (Up (Ack n)) p) p.is p.first)
management_follows who logins h wires v k _ p is = absurd is
