-- Over any events, sessions stay on connections on which their account's password was proved.
use Rattle.std.proofs.Common.{◌≡◌, ◌⊎◌, ℕ, true, false, List, [], ◌∷◌, ◌++◌, Option, Some, None, take, drop, append-nil, append_assoc, max, not, refl, sym, ap, subst, ◌∙◌, inl, inr}
use Rattle.std.proofs.lemmas.Bool.{cases_Bool, false≢true}
use Rattle.std.proofs.lemmas.List.{take-append-drop}
use Rattle.std.specs.List.{AllByRecursion}
use Rattle.law_server.proofs.LiveRows.{found_has}
use Rattle.law_server.proofs.PieceTakes.{bytes_take, item_takes, items_take}
use Rattle.law_server.proofs.SeatedActs.{Proves, Stands, any_of, drawn_more, logins_more, stands_fault, stands_item, stands_more}
use Rattle.law_server.proofs.Seats.{IsBackedBy, IsSeated, StandsOn, at_entry, conn_is, holds_fresh, holds_gone, holds_some, none_there, number_same}
use Rattle.law_server.proofs.SoundEvents.{sound_at_moment, sound_at_start, sound_connect, sound_gone, sound_gone_now}
use Rattle.law_server.specs.Events.{Bytes, Connect, Event, Gone, Run, Stop, Tick, after_event, after_events, stopped_in}
use Rattle.law_server.specs.Happenings.{IsBringing, MayFollow, MayHappen, all_taken, comes, some_taken}
use Rattle.law_server.specs.Proved.{BringsProof, HasProved, IsProof, at_first}
use Rattle.law_server.specs.Sound.{IsSound}
use Rattle.sm_live.specs.Sessions.{Session, is_at, is_expired, session_at}
use Rattle.srv_core.specs.Events.{after_bytes, at_piece, begun, framer_at, turn_of}
use Rattle.srv_core.specs.Table.{after_item, after_items}
use Rattle.srv_login.specs.declared.account.Account.{Account}
use Rattle.srv_state.specs.Moments.{at_moment, fresh_conn, gone_at}
use Rattle.srv_state.specs.State.{ServerState, Step, conn_at, is_number}
use Rattle.srv_state.specs.declared.connection.Connection.{Connection}
use Rattle.srv_state.specs.declared.connection.Phase.TheVariants as phase
use Rattle.xml_framer.specs.States as framing
use Rattle.xml_framer.specs.States.{Turn}
use Rattle.xml_framer.specs.declared.items.Item.{Item}
use Rattle.xml_writer.specs.Items.{ItemOut}

-- ---- items

-- one of these is a proof, where those before it have taken effect
record IsShown {A : Type 0} (C : ℕ → List ℕ → Type 0) (accounts : List Account) (say : ItemOut → A) (k : ℕ) (items : List Item) (s : Step A) (account : ℕ) : Type 0 where
  entropy : List ℕ
  drawn : C k entropy
  front : List Item
  i : Item
  rest : List Item
  are : items ≡ front ++ i ∷ rest
  proof : IsProof accounts entropy k account i (after_items say k front s).server_state

shown_now : {A : Type 0} (C : ℕ → List ℕ → Type 0) (accounts : List Account) (say : ItemOut → A) (k : ℕ) (i : Item) (items : List Item) (s : Step A) (account : ℕ) → Proves C accounts k i s.server_state account → IsShown C accounts say k (i ∷ items) s account
shown_now C accounts say k i items s account proves = record { entropy = proves.0; drawn = proves.1; front = []; i = i; rest = items; are = refl; proof = proves.2 }

shown_later : {A : Type 0} (C : ℕ → List ℕ → Type 0) (accounts : List Account) (say : ItemOut → A) (k : ℕ) (i : Item) (items : List Item) (s : Step A) (account : ℕ) → IsShown C accounts say k items (after_item say k i s) account → IsShown C accounts say k (i ∷ items) s account
shown_later C accounts say k i items s account shown =
    record { entropy = shown.entropy; drawn = shown.drawn; front = i ∷ shown.front; i = shown.i; rest = shown.rest; are = ap (λ (is : List Item). i ∷ is) shown.are; proof = shown.proof }

shown_more : {A : Type 0} (C : ℕ → List ℕ → Type 0) (accounts : List Account) (say : ItemOut → A) (k : ℕ) (items more : List Item) (s : Step A) (account : ℕ) → IsShown C accounts say k items s account → IsShown C accounts say k (items ++ more) s account
shown_more C accounts say k items more s account shown =
    record {
      entropy = shown.entropy;
      drawn = shown.drawn;
      front = shown.front;
      i = shown.i;
      rest = shown.rest ++ more;
      are = ap (λ (is : List Item). is ++ more) shown.are ∙ append_assoc shown.front (shown.i ∷ shown.rest) more;
      proof = shown.proof;
    }

-- it was proved before, or is by this item
abbrev NowOr : {A : Type 0} → (ℕ → ℕ → Type 0) → (ℕ → List ℕ → Type 0) → List Account → ℕ → Item → ServerState A → ℕ → ℕ → Type 0
NowOr P C accounts k i h j account = P j account ⊎ ((j ≡ k) × Proves C accounts k i h account)

module _ {A : Type 0} (C : ℕ → List ℕ → Type 0) (accounts : List Account) (say : ItemOut → A) (k : ℕ) where
  more_proved : (P R : ℕ → ℕ → Type 0) → ((j account : ℕ) → P j account → R j account) → (h : ServerState A) → Stands C P accounts h → Stands C R accounts h
  more_proved P R f h stands =
      stands_more C C P R accounts h stands.drawn
      (logins_more C C P R accounts (λ j. Unit {0}) (λ j entropy any is. is) (λ j account any is. f j account is) h.conns (any_of h.conns) stands.logins) stands

  stands_items : (items : List Item) (s : Step A) (P R : ℕ → ℕ → Type 0) → ((j account : ℕ) → P j account → R j account) → ((account : ℕ) → IsShown C accounts say k items s account → R k account)
      → IsSound s.server_state → s.server_state.accounts ≡ accounts → Stands C P accounts s.server_state → Stands C R accounts (after_items say k items s).server_state
  stands_items [] s P R f shown sound same stands = more_proved P R f s.server_state stands
  stands_items (i ∷ items) s P R f shown sound same stands =
      let takes = (item_takes say k i s).1 in
      stands_items items (after_item say k i s) (NowOr P C accounts k i s.server_state) R either (λ account later. shown account (shown_later C accounts say k i items s account later)) (takes.sound sound) (takes.accounts ∙ same)
      (stands_item C (NowOr P C accounts k i s.server_state) accounts say k i s sound.numbers same (λ account proves. inr (refl, proves)) (more_proved P (NowOr P C accounts k i s.server_state) (λ j account is. inl is) s.server_state stands))
    where
      either : (j account : ℕ) → NowOr P C accounts k i s.server_state j account → R j account
      either j account (inl was) = f j account was
      either j account (inr is) = subst (λ (x : ℕ). R x account) (sym is.0) (shown account (shown_now C accounts say k i items s account is.1))

-- ---- what came before

-- the connection came last with these bytes drawn for it
record Came (events : List Event) (k : ℕ) (entropy : List ℕ) : Type 0 where
  before : List Event
  moment : ℕ
  since : List Event
  are : events ≡ before ++ Connect k entropy moment ∷ since
  last : AllByRecursion (λ (e : Event). comes k e ≡ false) since

all_more : {T : Type 0} (P : T → Type 0) (ts : List T) (t : T) → AllByRecursion P ts → P t → AllByRecursion P (ts ++ t ∷ [])
all_more P [] t all is = (is, tt)
all_more P (x ∷ ts) t all is = (all.0, all_more P ts t all.1 is)

came_more : (events : List Event) (k : ℕ) (entropy : List ℕ) (e : Event) → comes k e ≡ false → Came events k entropy → Came (events ++ e ∷ []) k entropy
came_more events k entropy e other came = record {
  before = came.before;
  moment = came.moment;
  since = came.since ++ e ∷ [];
  are = ap (λ (es : List Event). es ++ e ∷ []) came.are ∙ append_assoc came.before (Connect k entropy came.moment ∷ came.since) (e ∷ []);
  last = all_more (λ (x : Event). comes k x ≡ false) came.since e came.last other;
}

-- what is so behind these events
record Follows {A : Type 0} (say : ItemOut → A) (accounts : List Account) (start : Run A) (events : List Event) (r : Run A) : Type 0 where
  is : r ≡ after_events say events start
  sound : IsSound r.server.server_state
  same : r.server.server_state.accounts ≡ accounts
  stands : Stands (Came events) (HasProved say accounts start events) accounts r.server.server_state

module _ {A : Type 0} (say : ItemOut → A) (accounts : List Account) (start : Run A) where
  proved_more : (events : List Event) (k account : ℕ) (e : Event) → comes k e ≡ false → HasProved say accounts start events k account → HasProved say accounts start (events ++ e ∷ []) k account
  proved_more events k account e other proved =
      let joins = append_assoc proved.between (proved.event ∷ proved.later) (e ∷ []) in
      record {
        before = proved.before;
        entropy = proved.entropy;
        came = proved.came;
        between = proved.between;
        piece = proved.piece;
        now = proved.now;
        event = proved.event;
        brings = proved.brings;
        later = proved.later ++ e ∷ [];
        are =
            ap (λ (es : List Event). es ++ e ∷ []) proved.are
            ∙ append_assoc proved.before (Connect k proved.entropy proved.came ∷ (proved.between ++ proved.event ∷ proved.later)) (e ∷ [])
            ∙ ap (λ (es : List Event). proved.before ++ Connect k proved.entropy proved.came ∷ es) joins;
        last = subst (AllByRecursion (λ (x : Event). comes k x ≡ false)) joins (all_more (λ (x : Event). comes k x ≡ false) (proved.between ++ proved.event ∷ proved.later) e proved.last other);
        brought = proved.brought;
      }

  proved_now : (events : List Event) (r : Run A) (k account : ℕ) (piece : List ℕ) (now : ℕ) (e : Event) → r ≡ after_events say events start → IsBringing k piece now e → comes k e ≡ false
      → (f : framing.State) → framer_at k r.server.framers ≡ Some f → IsShown (Came events) accounts say k (turn_of piece f).items (begun now r.server.server_state r.outs) account → HasProved say accounts start (events ++ e ∷ []) k account
  proved_now events r k account piece now e is brings other f framed shown =
      let came = shown.drawn in
      let there : r ≡ after_events say (came.before ++ Connect k shown.entropy came.moment ∷ came.since) start = is ∙ ap (λ (es : List Event). after_events say es start) came.are in
      let here : BringsProof say accounts shown.entropy k account piece now r = record { framer = f; framed = framed; front = shown.front; i = shown.i; rest = shown.rest; items = shown.are; proof = shown.proof } in
      record {
        before = came.before;
        entropy = shown.entropy;
        came = came.moment;
        between = came.since;
        piece = piece;
        now = now;
        event = e;
        brings = brings;
        later = [];
        are = ap (λ (es : List Event). es ++ e ∷ []) came.are ∙ append_assoc came.before (Connect k shown.entropy came.moment ∷ came.since) (e ∷ []);
        last = all_more (λ (x : Event). comes k x ≡ false) came.since e came.last other;
        brought = subst (λ (x : Run A). BringsProof say accounts shown.entropy k account piece now x) there here;
      }

  events_join : (a b : List Event) (r : Run A) → after_events say (a ++ b) r ≡ after_events say b (after_events say a r)
  events_join [] b r = refl
  events_join (e ∷ a) b r = events_join a b (after_event say e r)

  led : (events : List Event) (r : Run A) (e : Event) → r ≡ after_events say events start → after_event say e r ≡ after_events say (events ++ e ∷ []) start
  led events r e is = ap (after_event say e) is ∙ sym (events_join events (e ∷ []) start)

  -- an event after which no connection came
  stands_on : (events : List Event) (e : Event) → ((k : ℕ) → comes k e ≡ false) → (R : ℕ → ℕ → Type 0) → ((j account : ℕ) → R j account → HasProved say accounts start (events ++ e ∷ []) j account) → (h : ServerState A)
      → Stands (Came events) R accounts h → Stands (Came (events ++ e ∷ [])) (HasProved say accounts start (events ++ e ∷ [])) accounts h
  stands_on events e other R f h stands =
      let more = λ (j : ℕ) (entropy : List ℕ) (any : Unit {0}) (came : Came events j entropy). came_more events j entropy e (other j) came in
      stands_more (Came events) (Came (events ++ e ∷ [])) R (HasProved say accounts start (events ++ e ∷ [])) accounts h
      (drawn_more (Came events) (Came (events ++ e ∷ [])) (λ j. Unit {0}) more h.conns (any_of h.conns) stands.drawn)
      (logins_more (Came events) (Came (events ++ e ∷ [])) R (HasProved say accounts start (events ++ e ∷ [])) accounts (λ j. Unit {0}) more (λ j account any is. f j account is) h.conns (any_of h.conns) stands.logins) stands

  stands_moment : (C : ℕ → List ℕ → Type 0) (P : ℕ → ℕ → Type 0) (now : ℕ) (h : ServerState A) → Stands C P accounts h → Stands C P accounts (at_moment now h)
  stands_moment C P now h stands = holds_some C P accounts ⊥ 0 (λ s. not (is_expired (max h.moment now) s)) h.sessions h.conns stands

  -- ---- a connection comes

  came_apart : (j k : ℕ) → is_number k j ≡ false → is_number j k ≡ false
  came_apart j k apart =
      elim (cases_Bool (is_number j k)) [
        | inl same ↦ (let here : j ≡ k = number_same j k same in absurd (false≢true (sym apart ∙ subst (λ (x : ℕ). is_number x j ≡ true) here (subst (λ (x : ℕ). is_number j x ≡ true) (sym here) same))))
        | inr other ↦ other
      ]

  follows_comes : (events : List Event) (r : Run A) (k : ℕ) (entropy : List ℕ) (now : ℕ) → conn_at k r.server.server_state ≡ None → Follows say accounts start events r → Follows say accounts start (events ++ Connect k entropy now ∷ []) (after_event say (Connect k entropy now) r)
  follows_comes events r k entropy now none follows =
      let e = Connect k entropy now in
      let h = at_moment now r.server.server_state in
      let moved = stands_moment (Came events) (HasProved say accounts start events) now r.server.server_state follows.stands in
      let those = none_there k r.server.server_state.conns none in
      let more = λ (j : ℕ) (drawn : List ℕ) (other : is_number k j ≡ false) (came : Came events j drawn). came_more events j drawn e (came_apart j k other) came in
      let proved = λ (j account : ℕ) (other : is_number k j ≡ false) (is : HasProved say accounts start events j account). proved_more events j account e (came_apart j k other) is in
      let wider =
      stands_more (Came events) (Came (events ++ e ∷ [])) (HasProved say accounts start events) (HasProved say accounts start (events ++ e ∷ [])) accounts h
      (drawn_more (Came events) (Came (events ++ e ∷ [])) (λ j. is_number k j ≡ false) more r.server.server_state.conns those moved.drawn)
      (logins_more (Came events) (Came (events ++ e ∷ [])) (HasProved say accounts start events) (HasProved say accounts start (events ++ e ∷ [])) accounts (λ j. is_number k j ≡ false) more proved r.server.server_state.conns those moved.logins) moved in
      record {
        is = led events r e follows.is;
        sound = sound_connect k entropy now r.server follows.sound;
        same = follows.same;
        stands = holds_fresh (Came (events ++ e ∷ [])) (HasProved say accounts start (events ++ e ∷ [])) accounts ⊥ 0 k (fresh_conn entropy) h.sessions r.server.server_state.conns none
            (record { before = events; moment = now; since = []; are = refl; last = tt }) tt wider;
      }

  -- ---- bytes come

  module _ (events : List Event) (r : Run A) (follows : Follows say accounts start events r) (k : ℕ) (piece : List ℕ) (now : ℕ) (e : Event) (brings : IsBringing k piece now e) (other : (j : ℕ) → comes j e ≡ false) where
    began : Stands (Came events) (HasProved say accounts start events) accounts (begun now r.server.server_state r.outs).server_state
    began = stands_moment (Came events) (HasProved say accounts start events) now r.server.server_state follows.stands

    still_proved : (j account : ℕ) → HasProved say accounts start events j account → HasProved say accounts start (events ++ e ∷ []) j account
    still_proved j account proved = proved_more events j account e (other j) proved

    -- some first items of what the bytes give
    stands_front : (f : framing.State) → framer_at k r.server.framers ≡ Some f → (items more : List Item) → items ++ more ≡ (turn_of piece f).items
        → Stands (Came events) (HasProved say accounts start (events ++ e ∷ [])) accounts (after_items say k items (begun now r.server.server_state r.outs)).server_state
    stands_front f framed items more are =
        stands_items (Came events) accounts say k items (begun now r.server.server_state r.outs) (HasProved say accounts start events) (HasProved say accounts start (events ++ e ∷ [])) still_proved
        (λ account shown. proved_now events r k account piece now e follows.is brings (other k) f framed
        (subst (λ (all : List Item). IsShown (Came events) accounts say k all (begun now r.server.server_state r.outs) account) are (shown_more (Came events) accounts say k items more (begun now r.server.server_state r.outs) account shown)))
        (sound_at_moment now r.server.server_state follows.sound) follows.same began

    stands_piece : (o : Option framing.State) → framer_at k r.server.framers ≡ o → Stands (Came events) (HasProved say accounts start (events ++ e ∷ [])) accounts (at_piece say k piece o (begun now r.server.server_state r.outs)).server_state
    stands_piece None framed = more_proved (Came events) accounts say k (HasProved say accounts start events) (HasProved say accounts start (events ++ e ∷ [])) still_proved (begun now r.server.server_state r.outs).server_state began
    stands_piece (Some f) framed =
        let t = turn_of piece f in
        let takes = (items_take say k t.items (begun now r.server.server_state r.outs)).1 in
        stands_fault (Came events) (HasProved say accounts start (events ++ e ∷ [])) accounts say k t.state.fault (after_items say k t.items (begun now r.server.server_state r.outs))
        ((takes.sound (sound_at_moment now r.server.server_state follows.sound)).numbers) (takes.accounts ∙ follows.same) (stands_front f framed t.items [] (append-nil t.items))

    follows_brings : e ≡ Bytes k piece now → Follows say accounts start (events ++ e ∷ []) (after_event say (Bytes k piece now) r)
    follows_brings is_so =
        let takes = (bytes_take say k piece now r.server r.outs).1 in
        record {
          is = ap (λ (x : Event). after_event say x r) (sym is_so) ∙ led events r e follows.is;
          sound = takes.sound (sound_at_moment now r.server.server_state follows.sound);
          same = takes.accounts ∙ follows.same;
          stands = stands_on events e other (HasProved say accounts start (events ++ e ∷ [])) (λ j account is. is) (after_bytes say k piece now r.server r.outs).server_state (stands_piece (framer_at k r.server.framers) refl);
        }

    stop_follows : (count : ℕ) (o : Option framing.State) → framer_at k r.server.framers ≡ o → after_event say e r ≡ stopped_in say k piece count now o r → Follows say accounts start (events ++ e ∷ []) (stopped_in say k piece count now o r)
    stop_follows count None framed is_so = record {
      is = sym is_so ∙ led events r e follows.is;
      sound = follows.sound;
      same = follows.same;
      stands = stands_on events e other (HasProved say accounts start events) still_proved r.server.server_state follows.stands;
    }
    stop_follows count (Some f) framed is_so =
        let items = take count (turn_of piece f).items in
        let s = after_items say k items (begun now r.server.server_state r.outs) in
        let takes = (items_take say k items (begun now r.server.server_state r.outs)).1 in
        record {
          is = sym is_so ∙ led events r e follows.is;
          sound = sound_gone k s.server_state (takes.sound (sound_at_moment now r.server.server_state follows.sound));
          same = takes.accounts ∙ follows.same;
          stands = stands_on events e other (HasProved say accounts start (events ++ e ∷ [])) (λ j account is. is) (gone_at k s.server_state)
              (holds_gone (Came events) (HasProved say accounts start (events ++ e ∷ [])) accounts ⊥ 0 k s.server_state.moment s.server_state.sessions s.server_state.conns
              (stands_front f framed items (drop count (turn_of piece f).items) (take-append-drop count (turn_of piece f).items)));
        }

  -- ---- any event

  follows_one : (events : List Event) (r : Run A) (e : Event) → MayHappen e r → Follows say accounts start events r → Follows say accounts start (events ++ e ∷ []) (after_event say e r)
  follows_one events r (Connect k entropy now) may follows = follows_comes events r k entropy now may follows
  follows_one events r (Bytes k piece now) may follows = follows_brings events r follows k piece now (Bytes k piece now) (all_taken refl) (λ j. refl) refl
  follows_one events r (Stop k piece count now) may follows =
      stop_follows events r follows k piece now (Stop k piece count now) (some_taken count refl) (λ j. refl) count (framer_at k r.server.framers) refl refl
  follows_one events r (Gone k now) may follows =
      let e = Gone k now in
      let h = at_moment now r.server.server_state in
      let moved = stands_moment (Came events) (HasProved say accounts start events) now r.server.server_state follows.stands in
      record {
        is = led events r e follows.is;
        sound = sound_gone_now k now r.server follows.sound;
        same = follows.same;
        stands = stands_on events e (λ j. refl) (HasProved say accounts start events) (λ j account is. proved_more events j account e refl is) (gone_at k h)
            (holds_gone (Came events) (HasProved say accounts start events) accounts ⊥ 0 k h.moment h.sessions h.conns moved);
      }
  follows_one events r (Tick now) may follows =
      let e = Tick now in
      record {
        is = led events r e follows.is;
        sound = sound_at_moment now r.server.server_state follows.sound;
        same = follows.same;
        stands = stands_on events e (λ j. refl) (HasProved say accounts start events) (λ j account is. proved_more events j account e refl is) (at_moment now r.server.server_state)
            (stands_moment (Came events) (HasProved say accounts start events) now r.server.server_state follows.stands);
      }

  follows_all : (past events : List Event) (r : Run A) → MayFollow say events r → Follows say accounts start past r → Follows say accounts start (past ++ events) (after_events say events r)
  follows_all past [] r may follows = subst (λ (es : List Event). Follows say accounts start es r) (sym (append-nil past)) follows
  follows_all past (e ∷ events) r may follows =
      subst (λ (es : List Event). Follows say accounts start es (after_events say events (after_event say e r))) (append_assoc past (e ∷ []) events)
      (follows_all (past ++ e ∷ []) events (after_event say e r) may.1 (follows_one past r e may.0 follows))

-- ---- the law

module _ {A : Type 0} (say : ItemOut → A) (domain : List ℕ) (accounts : List Account) (keep : ℕ) (events : List Event) (may : MayFollow say events (at_first domain accounts keep)) where
  from_start : Follows say accounts (at_first domain accounts keep) events (after_events say events (at_first domain accounts keep))
  from_start = follows_all say accounts (at_first domain accounts keep) [] events (at_first domain accounts keep) may (record {
    is = refl;
    sound = sound_at_start domain accounts keep;
    same = refl;
    stands = record { single = λ j. tt; seated = tt; drawn = tt; logins = tt; empty = λ b. absurd b };
  })

  pub sound_after : IsSound (after_events say events (at_first domain accounts keep)).server.server_state
  sound_after = from_start.sound

  login_proved : (k : ℕ) (c : Connection) → conn_at k (after_events say events (at_first domain accounts keep)).server.server_state ≡ Some c
      → IsBackedBy (Came events) (HasProved say accounts (at_first domain accounts keep) events) accounts k c.phase
  login_proved k c opened = at_entry (StandsOn (Came events) (HasProved say accounts (at_first domain accounts keep) events) accounts) k c (after_events say events (at_first domain accounts keep)).server.server_state.conns from_start.stands.logins opened

  pub restart_proved : (k account : ℕ) (c : Connection) → conn_at k (after_events say events (at_first domain accounts keep)).server.server_state ≡ Some c → c.phase ≡ phase.Restart account → HasProved say accounts (at_first domain accounts keep) events k account
  restart_proved k account c opened is = subst (IsBackedBy (Came events) (HasProved say accounts (at_first domain accounts keep) events) accounts k) is (login_proved k c opened)

  pub ready_proved : (k account : ℕ) (c : Connection) → conn_at k (after_events say events (at_first domain accounts keep)).server.server_state ≡ Some c → c.phase ≡ phase.Ready account → HasProved say accounts (at_first domain accounts keep) events k account
  ready_proved k account c opened is = subst (IsBackedBy (Came events) (HasProved say accounts (at_first domain accounts keep) events) accounts k) is (login_proved k c opened)

  pub session_proved : (k : ℕ) (t : Session A) → session_at k (after_events say events (at_first domain accounts keep)).server.server_state.sessions ≡ Some t → HasProved say accounts (at_first domain accounts keep) events k t.shown.account
  session_proved k t found =
      let h = (after_events say events (at_first domain accounts keep)).server.server_state in
      let seat = found_has (IsSeated h.conns) (is_at k) h.sessions t from_start.stands.seated found in
      let ready = seat.1 k (conn_is k t.shown.conn seat.0) in
      ready_proved k t.shown.account ready.0 ready.1 ready.2
