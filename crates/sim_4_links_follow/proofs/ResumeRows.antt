-- The row on a resumption (XEP-0198, section 5) of a session that lives and is parked, with a count that names a
-- place in its queue.
use Rattle.std.proofs.Common.{◌≡◌, ℕ, ◌-◌, ◌<◌, ◌≤◌, ◌^◌, Bool, true, false, List, [], ◌∷◌, ◌++◌, Option, Some, None, length, drop, refl, sym, ap, subst, ◌∙◌, arith}
use Rattle.std.proofs.lemmas.List.{append-nil, append_assoc}
use Rattle.std.proofs.lemmas.List.Elements.{All-drop}
use Rattle.sm_acks.specs.Counters.{ahead}
use Rattle.srv_state.specs.State.{Out, Put, ServerState, Step, with_sessions}
use Rattle.srv_state.specs.Steps.{Act, acted}
use Rattle.sim_3_items.specs.Counted.{IsForClient}
use Rattle.sim_3_items.specs.Identities.{Identity, Login}
use Rattle.sim_3_items.specs.Servers.{IsRow, IsRowRepresented}
use Rattle.sim_3_items.specs.WordItems.{told_count}
use Rattle.sim_3_items.specs.ItemPipes.{ItemWire}
use Rattle.sim_3_items.specs.ItemWorlds.{itself}
use Rattle.sim_2_links.proofs.Numbers.{reached_rises}
use Rattle.sim_2_links.specs.Promises.{IsWithin}
use Rattle.sim_2_links.specs.Views.{Row, Table, View}
use Rattle.sim_2_links.specs.Words.{ResumeAt}
use Rattle.sm_live.specs.Sessions.{Session, asks, is_named, is_numbered, is_resumed_by, is_too_high, resumes, session_named, session_of, session_resumed, with_session}
use Rattle.sm_resumption.specs.Previds.{previd_of}
use Rattle.im_replies.specs.Management.{request_item}
use Rattle.sim_4_links_follow.proofs.Pushed.{numbers_below}
use Rattle.sim_3_images.proofs.RuleKept.{found_is, found_some, numbered_here, one_named}
use Rattle.sim_4_links_follow.proofs.ResumeReads.{IsResumed, resumed_is}
use Rattle.sim_4_links_follow.proofs.SessionRows.{near, not_high}
use Rattle.sim_4_links_follow.proofs.StrangeRows.{Asked, asked_here}
use Rattle.sim_4_links_follow.specs.Taking.{IsFirst}
use Rattle.srv_handlers.specs.Resumptions.{asking, saying}
use Rattle.sim_4_links_follow.proofs.Emitted.{puts_at}
use Rattle.xml_writer.specs.Items.{ItemOut}

-- ---- what is put

pub said : (k : ℕ) (items : List ItemOut) (more : List (Act ItemOut)) (h : ServerState ItemOut) (outs : List (Out ItemOut)) → acted itself (saying k items more) (record { server_state = h; outs = outs }) ≡ acted itself more (record { server_state = h; outs = outs ++ puts_at k items })
said k [] more h outs = ap (λ o. acted itself more (record { server_state = h; outs = o })) (sym (append-nil outs))
said k (a ∷ items) more h outs =
    said k items more h (outs ++ Put k a ∷ []) ∙ ap (λ o. acted itself more (record { server_state = h; outs = o })) (append_assoc outs (Put k a ∷ []) (puts_at k items))

-- where as many stanzas wait, a request goes out behind them
abbrev pub asked_where : ℕ → ℕ → Bool → ServerState ItemOut → List (Out ItemOut) → Step ItemOut
asked_where k m true h outs = record { server_state = with_sessions (with_session m (asks true) h.sessions) h; outs = outs ++ Put k request_item ∷ [] }
asked_where k m false h outs = record { server_state = h; outs = outs }

pub asked_so : (k m : ℕ) (due : Bool) (h : ServerState ItemOut) (outs : List (Out ItemOut)) → acted itself (asking itself k m due) (record { server_state = h; outs = outs }) ≡ asked_where k m due h outs
asked_so k m true h outs = refl
asked_so k m false h outs = refl

-- ---- the session

pub resumed_row : (r : Row ItemOut) (n k : ℕ) → IsWithin r.acked r.queue n → length r.queue ≤ 10000 → (s : Session ItemOut) → IsRow r s
    → IsRow (record r { on = Some k; acked = n; queue = drop (n - r.acked) r.queue }) (resumes (told_count n) k s)
resumed_row r n k within few s is = record {
  number = is.number;
  conn = refl;
  counted = is.counted;
  resumable = is.resumable;
  acked = refl;
  handled = is.handled;
  waiting = ap (λ a. drop (ahead (told_count n) a) s.waiting) is.acked ∙ ap (λ m. drop m s.waiting) (near r n within few) ∙ ap (drop (n - r.acked)) is.waiting;
  quiet = is.quiet;
  for_client = All-drop IsForClient (n - r.acked) r.queue is.for_client;
}

pub within_so : (r : Row ItemOut) (n : ℕ) → IsWithin r.acked r.queue n → length r.queue ≤ 10000 → (s : Session ItemOut) → IsRow r s → is_too_high (told_count n) s ≡ false
within_so r n within few s is =
    let exact : ahead (told_count n) s.acked ≡ n - r.acked = ap (ahead (told_count n)) is.acked ∙ near r n within few in
    let size : length s.waiting ≡ length r.queue = ap length is.waiting in
    let low = within.low in
    let high = within.high in
    not_high (length s.waiting) (ahead (told_count n) s.acked) (omega arith)

-- the session that a resumption names is the device's
pub record IsOwnSession (who : Identity) (h : ServerState ItemOut) (v : View ItemOut) (q : ℕ) (s : Session ItemOut) : Type 0 where
  pub number : s.shown.number ≡ q
  pub named : session_named who.account who.resource h.sessions ≡ Some s
  pub row : Row ItemOut
  pub is_row : v.row ≡ Some row
  pub live : IsRow row s
  pub counted : row.counted ≡ true

module _ (who : Identity) (logins : ℕ → Login) (h : ServerState ItemOut) (wires : Table ItemWire) (v : View ItemOut) (k q n : ℕ) (p : IsFirst who logins h wires v k (ResumeAt q n)) (s : Session ItemOut) (found : session_resumed (previd_of q) who.account h.sessions ≡ Some s) where
  pub old : Asked v q n
  old = asked_here who logins h wires v k q n p

  q_low : q < 2 ^ 64
  q_low = let a = (reached_rises v p.reached).given q old.session old.there in let b = p.server.free in let c = p.server.server_state.sessions.fits in omega arith

  pub numbered : session_of s.shown.number h.sessions ≡ Some s
  numbered = numbered_here (is_resumed_by (previd_of q) who.account) h.next 1 h.sessions s p.server.server_state.sessions.ascending found

  s_low : s.shown.number < 2 ^ 64
  s_low = let a = numbers_below h.next 1 s.shown.number h.sessions s p.server.server_state.sessions.ascending numbered in let c = p.server.server_state.sessions.fits in omega arith

  its : IsResumed q who.account s
  its = resumed_is q who.account s q_low s_low (found_is (is_resumed_by (previd_of q) who.account) h.sessions s found)

  of_q : session_of q h.sessions ≡ Some s
  of_q = subst (λ m. session_of m h.sessions ≡ Some s) its.number numbered

  by_name : session_named who.account who.resource h.sessions ≡ Some s
  by_name =
      let named = p.server.owned q old.session s old.there of_q in
      let some = found_some (is_numbered q) (is_named who.account who.resource) h.sessions s of_q named in
      some.1 ∙ ap Some (sym (one_named who.account who.resource h.next h.sessions some.0 s p.server.server_state.sessions some.1 numbered named))

  pub own_session : IsOwnSession who h v q s
  own_session = go v.row refl (subst (IsRowRepresented v.row) by_name p.server.row)
    where
      go : (o : Option (Row ItemOut)) → v.row ≡ o → IsRowRepresented o (Some s) → IsOwnSession who h v q s
      go None is shown = absurd shown
      go (Some r) is shown = record { number = its.number; named = by_name; row = r; is_row = is; live = shown; counted = sym shown.resumable ∙ its.resumable }
