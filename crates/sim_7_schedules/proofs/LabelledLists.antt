-- The lists of each session grow by the labels of its epoch.
use Rattle.std.proofs.Common.{◌≡◌, ◌≢◌, ◌⊎◌, ℕ, ◌+◌, ◌≤◌, ◌<◌, ◌==◌, Bool, true, false, cond, List, [], ◌∷◌, ◌++◌, Option, None, Some, nat_eq, refl, sym, ap, ◌∙◌, subst, append_assoc, append-nil, arith, inl, inr}
use Rattle.std.proofs.lemmas.Bool.{cases_Bool, eq-eqb, eqb-true}
use Rattle.std.proofs.lemmas.Option.{none-some, same_Some}
use Rattle.std.specs.Option.{option_map}
use Rattle.sim_1_applications.specs.Devices.{Sessions}
use Rattle.sim_2_events.specs.Lists.{IsDevice, IsOnline}
use Rattle.sim_2_links.proofs.Entries.{other_number}
use Rattle.sim_2_events.proofs.Acts.{move_leads}
use Rattle.sim_5_devices.proofs.Along.{link_more}
use Rattle.sim_2_links.specs.Events.{Bound, Counted, Dropped, Ended, Handled, Heard, IsSeenAs, Known, Learned, LinkEvent, May, Named, Said, Seen, SeenSession, Served, after, new_session, own_number, row_number, seen}
use Rattle.sim_2_links.specs.Machine.{AsksToBind, AsksToResume, Cuts, Demands, Detaches, Dials, EndsRow, Foots, Forgets, Hears, HearsEarly, Keeps, LetsGo, LinkMove, LinkMoves, LinkReached, LinkReaches, Parks, Puts, Queues, ReadsBound, ReadsCount, ReadsEnabled, ReadsFailed, ReadsHand, ReadsRequest, ReadsResumed, ReadsStanza, Requests, Serves, Shuts, TakesBind, TakesCount, TakesEnable, TakesFoot, TakesHand, TakesHighResume, TakesLateResume, TakesRequest, TakesResume, TakesStanza, TakesStrangeResume}
use Rattle.sim_2_links.specs.Telling.{Tells, of_own, of_row}
use Rattle.sim_2_links.specs.Views.{Own, Row, Table, View, changed, with_at}
use Rattle.sim_3_items.specs.Items.{stanzas_read}
use Rattle.sim_3_items.specs.Labels.{Drops, Enters, Gives, Label, Learns, Names, Reads, Says, Takes, label_of, labels_of}
use Rattle.xml_writer.specs.Items.{ItemOut}

abbrev pub S : Type 0
S = SeenSession ItemOut

abbrev E : Type 0
E = LinkEvent ItemOut

abbrev pub D : Type 0
D = Label ItemOut

-- what a session was, or nothing yet
abbrev pub was : Option S → S
was None = new_session
was (Some t) = t

-- ---- the stanzas of a kind of labels, in an epoch

abbrev pub said_by : D → List ItemOut
said_by (Says z) = z ∷ []
said_by _ = []

abbrev pub taken_by : D → List ItemOut
taken_by (Takes z) = z ∷ []
taken_by _ = []

abbrev pub given_by : D → List ItemOut
given_by (Gives z) = z ∷ []
given_by _ = []

abbrev pub read_by : D → List ItemOut
read_by (Reads z) = z ∷ []
read_by _ = []

abbrev pub in_epoch : (D → List ItemOut) → ℕ → List D → ℕ → List ItemOut
in_epoch pick now [] e = []
in_epoch pick now (Names ∷ ds) e = in_epoch pick (now + 1) ds e
in_epoch pick now (d ∷ ds) e = cond (now == e) (pick d) [] ++ in_epoch pick now ds e

abbrev pub epoch_after : ℕ → List D → ℕ
epoch_after now [] = now
epoch_after now (Names ∷ ds) = epoch_after (now + 1) ds
epoch_after now (d ∷ ds) = epoch_after now ds

one_joined : (pick : D → List ItemOut) (now : ℕ) (x : List ItemOut) (a b : List D) (e : ℕ) → in_epoch pick now (a ++ b) e ≡ in_epoch pick now a e ++ in_epoch pick (epoch_after now a) b e
    → cond (now == e) x [] ++ in_epoch pick now (a ++ b) e ≡ (cond (now == e) x [] ++ in_epoch pick now a e) ++ in_epoch pick (epoch_after now a) b e
one_joined pick now x a b e rest = ap (λ l. cond (now == e) x [] ++ l) rest ∙ sym (append_assoc (cond (now == e) x []) (in_epoch pick now a e) (in_epoch pick (epoch_after now a) b e))

in_epoch_joined : (pick : D → List ItemOut) (now : ℕ) (a b : List D) (e : ℕ) → in_epoch pick now (a ++ b) e ≡ in_epoch pick now a e ++ in_epoch pick (epoch_after now a) b e
in_epoch_joined pick now [] b e = refl
in_epoch_joined pick now (Names ∷ a) b e = in_epoch_joined pick (now + 1) a b e
in_epoch_joined pick now (Says z ∷ a) b e = one_joined pick now (pick (Says z)) a b e (in_epoch_joined pick now a b e)
in_epoch_joined pick now (Takes z ∷ a) b e = one_joined pick now (pick (Takes z)) a b e (in_epoch_joined pick now a b e)
in_epoch_joined pick now (Gives z ∷ a) b e = one_joined pick now (pick (Gives z)) a b e (in_epoch_joined pick now a b e)
in_epoch_joined pick now (Reads z ∷ a) b e = one_joined pick now (pick (Reads z)) a b e (in_epoch_joined pick now a b e)
in_epoch_joined pick now (Enters ∷ a) b e = one_joined pick now (pick Enters) a b e (in_epoch_joined pick now a b e)
in_epoch_joined pick now (Learns ∷ a) b e = one_joined pick now (pick Learns) a b e (in_epoch_joined pick now a b e)
in_epoch_joined pick now (Drops ∷ a) b e = one_joined pick now (pick Drops) a b e (in_epoch_joined pick now a b e)

-- ---- one event

-- a session that has the epoch, or gets it later
abbrev IsFor : ℕ → Option S → ℕ → Type 0
IsFor e None n = n < e
IsFor e (Some t) n = (t.epoch ≡ Some e) ⊎ ((t.epoch ≡ None) × (n < e))

pub record Grows (now : ℕ) (ds : List D) (e : ℕ) (t u : S) : Type 0 where
  pub up_put : u.up_put ≡ t.up_put ++ in_epoch said_by now ds e
  pub up_got : u.up_got ≡ t.up_got ++ in_epoch taken_by now ds e
  pub down_put : u.down_put ≡ t.down_put ++ in_epoch given_by now ds e
  pub down_got : u.down_got ≡ t.down_got ++ in_epoch read_by now ds e

-- which labels an event has
abbrev IsBare : List D → Type 0
IsBare ds = (ds ≡ []) ⊎ ((ds ≡ Enters ∷ []) ⊎ ((ds ≡ Learns ∷ []) ⊎ (ds ≡ Drops ∷ [])))

abbrev IsLike : Option E → List D → Type 0
IsLike None ds = IsBare ds
IsLike (Some (Bound m)) ds = IsBare ds
IsLike (Some (Named m)) ds = ds ≡ Names ∷ []
IsLike (Some (Counted p)) ds = IsBare ds
IsLike (Some (Known p)) ds = IsBare ds
IsLike (Some (Ended p)) ds = IsBare ds
IsLike (Some (Dropped p)) ds = IsBare ds
IsLike (Some (Said p z)) ds = ds ≡ Says z ∷ []
IsLike (Some (Handled p z)) ds = ds ≡ Takes z ∷ []
IsLike (Some (Served p z)) ds = ds ≡ Gives z ∷ []
IsLike (Some (Heard p z)) ds = ds ≡ Reads z ∷ []
IsLike (Some (Learned p n)) ds = IsBare ds

nothing_of : (b : Bool) → cond {A = List ItemOut} b [] [] ++ [] ≡ []
nothing_of true = refl
nothing_of false = refl

-- where the epoch is another one nothing is of it
none_of : (b : Bool) (l : List ItemOut) → b ≡ false → cond b l [] ++ [] ≡ []
none_of b l off = ap (λ c. cond c l [] ++ []) off

all_of : (b : Bool) (l : List ItemOut) → b ≡ true → cond b l [] ++ [] ≡ l
all_of b l on = ap (λ c. cond c l [] ++ []) on ∙ append-nil l

bare_epoch : (now : ℕ) (ds : List D) → IsBare ds → epoch_after now ds ≡ now
bare_epoch now ds (inl is) = ap (epoch_after now) is
bare_epoch now ds (inr (inl is)) = ap (epoch_after now) is
bare_epoch now ds (inr (inr (inl is))) = ap (epoch_after now) is
bare_epoch now ds (inr (inr (inr is))) = ap (epoch_after now) is

-- a label without a stanza
abbrev HasNone : (D → List ItemOut) → Type 0
HasNone pick = (pick Enters ≡ []) × (pick Learns ≡ []) × (pick Drops ≡ [])

bare_none : (pick : D → List ItemOut) → HasNone pick → (now : ℕ) (ds : List D) (e : ℕ) → IsBare ds → in_epoch pick now ds e ≡ []
bare_none pick none now ds e (inl is) = ap (λ l. in_epoch pick now l e) is
bare_none pick none now ds e (inr (inl is)) = ap (λ l. in_epoch pick now l e) is ∙ ap (λ l. cond (now == e) l [] ++ []) none.0 ∙ nothing_of (now == e)
bare_none pick none now ds e (inr (inr (inl is))) = ap (λ l. in_epoch pick now l e) is ∙ ap (λ l. cond (now == e) l [] ++ []) none.1 ∙ nothing_of (now == e)
bare_none pick none now ds e (inr (inr (inr is))) = ap (λ l. in_epoch pick now l e) is ∙ ap (λ l. cond (now == e) l [] ++ []) none.2 ∙ nothing_of (now == e)

-- the same lists, and no stanza
same_grows : (now : ℕ) (ds : List D) (e : ℕ) (t u : S) → IsBare ds → u.up_put ≡ t.up_put → u.up_got ≡ t.up_got → u.down_put ≡ t.down_put → u.down_got ≡ t.down_got → Grows now ds e t u
same_grows now ds e t u bare a b c d = record {
  up_put = a ∙ sym (append-nil t.up_put) ∙ ap (λ l. t.up_put ++ l) (sym (bare_none said_by (refl, refl, refl) now ds e bare));
  up_got = b ∙ sym (append-nil t.up_got) ∙ ap (λ l. t.up_got ++ l) (sym (bare_none taken_by (refl, refl, refl) now ds e bare));
  down_put = c ∙ sym (append-nil t.down_put) ∙ ap (λ l. t.down_put ++ l) (sym (bare_none given_by (refl, refl, refl) now ds e bare));
  down_got = d ∙ sym (append-nil t.down_got) ∙ ap (λ l. t.down_got ++ l) (sym (bare_none read_by (refl, refl, refl) now ds e bare));
}

-- ---- what an event makes of a session

-- before it the session is for the epoch too, and its lists grow by its labels
abbrev Comes : ℕ → ℕ → List D → ℕ → Option S → Option S → Type 0
Comes now later ds e o n = IsFor e n later → IsFor e o now × Grows now ds e (was o) (was n)

unseen_comes : (now : ℕ) (ds : List D) (e : ℕ) (o : Option S) → IsBare ds → Comes now now ds e o o
unseen_comes now ds e o bare for = (for, same_grows now ds e (was o) (was o) bare refl refl refl refl)

-- the epoch and the lists stay
changed_comes : (now : ℕ) (ds : List D) (e : ℕ) (f : S → S) (o : Option S) → IsBare ds → ((t : S) → (f t).epoch ≡ t.epoch) → ((t : S) → ((f t).up_put ≡ t.up_put) × ((f t).up_got ≡ t.up_got) × ((f t).down_put ≡ t.down_put) × ((f t).down_got ≡ t.down_got))
    → Comes now now ds e o (changed f o)
changed_comes now ds e f None bare epochs lists for = (for, same_grows now ds e new_session new_session bare refl refl refl refl)
changed_comes now ds e f (Some t) bare epochs lists (inl is) = let l = lists t in (inl (sym (epochs t) ∙ is), same_grows now ds e t (f t) bare l.0 l.1 l.2 l.3)
changed_comes now ds e f (Some t) bare epochs lists (inr none) = let l = lists t in (inr (sym (epochs t) ∙ none.0, none.1), same_grows now ds e t (f t) bare l.0 l.1 l.2 l.3)

-- a session that is bound
bound_comes : (now : ℕ) (ds : List D) (e m q : ℕ) (t : Table S) → IsBare ds → ((p : ℕ) (u : S) → t p ≡ Some u → p + 1 ≤ m) → Comes now now ds e (t q) (with_at m new_session t q)
bound_comes now ds e m q t bare above = by (t q) refl
  where
    fresh : (b : Bool) → Comes now now ds e None (cond b (Some new_session) None)
    fresh true (inl is) = absurd (none-some e is)
    fresh true (inr none) = (none.1, same_grows now ds e new_session new_session bare refl refl refl refl)
    fresh false for = (for, same_grows now ds e new_session new_session bare refl refl refl refl)

    by : (o : Option S) → t q ≡ o → Comes now now ds e (t q) (with_at m new_session t q)
    by None at = subst (λ o. Comes now now ds e o (cond (nat_eq m q) (Some new_session) o)) (sym at) (fresh (nat_eq m q))
    by (Some u) at =
        let low = above q u at in
        let apart : m ≢ q = λ same. (let no_way : ⊥ = omega (arith, same, low) in no_way) in
        subst (λ (b : Bool). Comes now now ds e (t q) (cond b (Some new_session) (t q))) (sym (other_number m q apart)) (unseen_comes now ds e (t q) bare)

-- one whose client reads so
named_comes : (now e m q : ℕ) (o : Option S) → (m ≡ q → (t : S) → o ≡ Some t → t.epoch ≡ None) → Comes now (now + 1) (Names ∷ []) e o (changed (λ (t : S). record t { epoch = cond (nat_eq m q) (Some (now + 1)) t.epoch }) o)
named_comes now e m q None fresh for = (omega (arith, for), record { up_put = refl; up_got = refl; down_put = refl; down_got = refl })
named_comes now e m q (Some t) fresh for = by (nat_eq m q) refl for
  where
    same : (n : Option ℕ) → Grows now (Names ∷ []) e t (record t { epoch = n })
    same n = record { up_put = sym (append-nil t.up_put); up_got = sym (append-nil t.up_got); down_put = sym (append-nil t.down_put); down_got = sym (append-nil t.down_got) }

    by : (b : Bool) → nat_eq m q ≡ b → ((cond b (Some (now + 1)) t.epoch ≡ Some e) ⊎ ((cond b (Some (now + 1)) t.epoch ≡ None) × (now + 1 < e)))
        → ((t.epoch ≡ Some e) ⊎ ((t.epoch ≡ None) × (now < e))) × Grows now (Names ∷ []) e t (record t { epoch = cond (nat_eq m q) (Some (now + 1)) t.epoch })
    by true is (inl got) = (let n : now + 1 ≡ e = same_Some (now + 1) e got in (inr (fresh (eqb-true m q is) t refl, omega (arith, n)), same (cond (nat_eq m q) (Some (now + 1)) t.epoch)))
    by true is (inr none) = absurd (none-some (now + 1) (sym none.0))
    by false is (inl got) = (inl got, same (cond (nat_eq m q) (Some (now + 1)) t.epoch))
    by false is (inr none) = (inr (none.0, omega (arith, none)), same (cond (nat_eq m q) (Some (now + 1)) t.epoch))

-- a stanza more in a list of the session of the present epoch, which is under this number
abbrev IsPresent : ℕ → ℕ → Table S → Type 0
IsPresent now p t = (u : S) × (t p ≡ Some u) × (u.epoch ≡ Some now)

-- of another session, or another epoch, nothing is of the label
apart_of : (now e p q : ℕ) (t : Table S) (o : Option S) → t q ≡ o → IsPresent now p t → ((a b k : ℕ) (u w : S) → t a ≡ Some u → t b ≡ Some w → u.epoch ≡ Some k → w.epoch ≡ Some k → a ≡ b) → nat_eq p q ≡ false → IsFor e o now → (now == e) ≡ false
apart_of now e p q t o at present once other for = elim (cases_Bool (now == e)) [ inl same ↦ absurd (no o at for (eqb-true now e same)) | inr off ↦ off ]
  where
    no : (o : Option S) → t q ≡ o → IsFor e o now → now ≡ e → ⊥
    no None at low same = (let bad : ⊥ = omega (arith, low, same) in bad)
    no (Some u) at (inl is) same =
        let one : p ≡ q = once p q now present.0 u present.1 at present.2 (is ∙ ap Some (sym same)) in
        let on : nat_eq p q ≡ true = eq-eqb p q one in let bad : ⊥ = cc in bad
    no (Some u) at (inr none) same = (let low = none.1 in let bad : ⊥ = omega (arith, low, same) in bad)

-- and of this session the epoch is this one
present_of : (now e p q : ℕ) (t : Table S) (u : S) → t q ≡ Some u → IsPresent now p t → nat_eq p q ≡ true → IsFor e (Some u) now → (now == e) ≡ true
present_of now e p q t u at present same for =
    let is : u.epoch ≡ Some now = ap (λ (x : S). x.epoch) (same_Some u present.0 (sym at ∙ ap t (sym (eqb-true p q same)) ∙ present.1)) ∙ present.2 in
    elim for [ inl has_it ↦ eq-eqb now e (same_Some now e (sym is ∙ has_it)) | inr none ↦ absurd (none-some now (sym none.0 ∙ is)) ]

module _ (now e p q : ℕ) (t : Table S) (present : IsPresent now p t) (once : (a b k : ℕ) (u w : S) → t a ≡ Some u → t b ≡ Some w → u.epoch ≡ Some k → w.epoch ≡ Some k → a ≡ b) where
  -- what enters a list is of the epoch, or it is another session
  entered : (u : S) → t q ≡ Some u → IsFor e (Some u) now → (l : List ItemOut) (z : ItemOut) → cond (nat_eq p q) (l ++ z ∷ []) l ≡ l ++ (cond (now == e) (z ∷ []) [] ++ [])
  entered u at for l z = by (nat_eq p q) refl
    where
      by : (b : Bool) → nat_eq p q ≡ b → cond b (l ++ z ∷ []) l ≡ l ++ (cond (now == e) (z ∷ []) [] ++ [])
      by true same = ap (λ m. l ++ m) (sym (all_of (now == e) (z ∷ []) (present_of now e p q t u at present same for)))
      by false other = sym (append-nil l) ∙ ap (λ m. l ++ m) (sym (none_of (now == e) (z ∷ []) (apart_of now e p q t (Some u) at present once other for)))

  still : (l : List ItemOut) → l ≡ l ++ (cond (now == e) [] [] ++ [])
  still l = sym (append-nil l) ∙ ap (λ m. l ++ m) (sym (nothing_of (now == e)))

  -- nothing is there yet
  none_yet : now < e → (z : ItemOut) → [] ≡ cond (now == e) (z ∷ []) [] ++ []
  none_yet low z =
      sym (none_of (now == e) (z ∷ []) (elim (cases_Bool (now == e)) [ inl same ↦ absurd (let is : now ≡ e = eqb-true now e same in let bad : ⊥ = omega (arith, low, is) in bad) | inr off ↦ off ]))

  said_comes : (z : ItemOut) (o : Option S) → t q ≡ o → Comes now now (Says z ∷ []) e o (changed (λ (u : S). record u { up_put = cond (nat_eq p q) (u.up_put ++ z ∷ []) u.up_put }) o)
  said_comes z None at for = (for, record { up_put = none_yet for z; up_got = still []; down_put = still []; down_got = still [] })
  said_comes z (Some u) at for = (for, record { up_put = entered u at for u.up_put z; up_got = still u.up_got; down_put = still u.down_put; down_got = still u.down_got })

  handled_comes : (z : ItemOut) (o : Option S) → t q ≡ o → Comes now now (Takes z ∷ []) e o (changed (λ (u : S). record u { up_got = cond (nat_eq p q) (u.up_got ++ z ∷ []) u.up_got }) o)
  handled_comes z None at for = (for, record { up_put = still []; up_got = none_yet for z; down_put = still []; down_got = still [] })
  handled_comes z (Some u) at for = (for, record { up_put = still u.up_put; up_got = entered u at for u.up_got z; down_put = still u.down_put; down_got = still u.down_got })

  served_comes : (z : ItemOut) (o : Option S) → t q ≡ o → Comes now now (Gives z ∷ []) e o (changed (λ (u : S). record u { down_put = cond (nat_eq p q) (u.down_put ++ z ∷ []) u.down_put }) o)
  served_comes z None at for = (for, record { up_put = still []; up_got = still []; down_put = none_yet for z; down_got = still [] })
  served_comes z (Some u) at for = (for, record { up_put = still u.up_put; up_got = still u.up_got; down_put = entered u at for u.down_put z; down_got = still u.down_got })

  heard_comes : (z : ItemOut) (o : Option S) → t q ≡ o → Comes now now (Reads z ∷ []) e o (changed (λ (u : S). record u { down_got = cond (nat_eq p q) (u.down_got ++ z ∷ []) u.down_got }) o)
  heard_comes z None at for = (for, record { up_put = still []; up_got = still []; down_put = still []; down_got = none_yet for z })
  heard_comes z (Some u) at for = (for, record { up_put = still u.up_put; up_got = still u.up_got; down_put = still u.down_put; down_got = entered u at for u.down_got z })

-- ---- what an event makes of all sessions

abbrev AllCome : Seen ItemOut → Seen ItemOut → List D → Type 0
AllCome v u ds = ((q e : ℕ) → Comes v.epoch u.epoch ds e (v.sessions q) (u.sessions q)) × (epoch_after v.epoch ds ≡ u.epoch)

module _ (v : Seen ItemOut) (d : Sessions) (is : IsDevice stanzas_read v d) where
  -- the client's session is of the present epoch
  present_own : (p : ℕ) → v.own ≡ Some p → IsPresent v.epoch p v.sessions
  present_own p own = let on : IsOnline v d.online (Some p) = subst (λ o. IsOnline v d.online o) own is.online in on.1

  event_comes : (event : E) (ds : List D) → May event v → IsLike (Some event) ds → AllCome v (after event v) ds
  event_comes (Bound m) ds may bare = (λ q e. bound_comes v.epoch ds e m q v.sessions bare may.1, bare_epoch v.epoch ds bare)
  event_comes (Named m) ds (own, (t, at, fresh, uncounted), rises) like =
      subst (λ l. AllCome v (after (Named m) v) l) (sym like)
      (λ q e. named_comes v.epoch e m q (v.sessions q) (λ same u found. ap (λ (x : S). x.epoch) (same_Some u t (sym found ∙ ap v.sessions (sym same) ∙ at)) ∙ fresh), refl)
  event_comes (Counted p) ds may bare =
      (λ q e. changed_comes v.epoch ds e (λ t. record t { counted = cond (nat_eq p q) true t.counted }) (v.sessions q) bare (λ t. refl) (λ t. (refl, refl, refl, refl)), bare_epoch v.epoch ds bare)
  event_comes (Known p) ds may bare =
      (λ q e. changed_comes v.epoch ds e (λ t. record t { known = cond (nat_eq p q) true t.known }) (v.sessions q) bare (λ t. refl) (λ t. (refl, refl, refl, refl)), bare_epoch v.epoch ds bare)
  event_comes (Ended p) ds may bare = (λ q e. unseen_comes v.epoch ds e (v.sessions q) bare, bare_epoch v.epoch ds bare)
  event_comes (Dropped p) ds may bare = (λ q e. unseen_comes v.epoch ds e (v.sessions q) bare, bare_epoch v.epoch ds bare)
  event_comes (Learned p n) ds may bare =
      (λ q e. changed_comes v.epoch ds e (λ t. record t { acked = cond (nat_eq p q) n t.acked }) (v.sessions q) bare (λ t. refl) (λ t. (refl, refl, refl, refl)), bare_epoch v.epoch ds bare)
  event_comes (Said p z) ds own like = subst (λ l. AllCome v (after (Said p z) v) l) (sym like) (λ q e. said_comes v.epoch e p q v.sessions (present_own p own) is.once z (v.sessions q) refl, refl)
  event_comes (Handled p z) ds (live, (t, rest, at, counted, present, split)) like =
      subst (λ l. AllCome v (after (Handled p z) v) l) (sym like) (λ q e. handled_comes v.epoch e p q v.sessions (t, at, present) is.once z (v.sessions q) refl, refl)
  event_comes (Served p z) ds (live, (t, at, counted, present)) like =
      subst (λ l. AllCome v (after (Served p z) v) l) (sym like) (λ q e. served_comes v.epoch e p q v.sessions (t, at, present) is.once z (v.sessions q) refl, refl)
  event_comes (Heard p z) ds (own, (t, rest, at, split)) like =
      subst (λ l. AllCome v (after (Heard p z) v) l) (sym like) (λ q e. heard_comes v.epoch e p q v.sessions (present_own p own) is.once z (v.sessions q) refl, refl)

  seen_comes : (event : Option E) (u : Seen ItemOut) (ds : List D) → IsSeenAs event v u → IsLike event ds → AllCome v u ds
  seen_comes None u ds same bare = subst (λ x. AllCome v x ds) (sym same) (λ q e. unseen_comes v.epoch ds e (v.sessions q) bare, bare_epoch v.epoch ds bare)
  seen_comes (Some event) u ds (may, same) like = subst (λ x. AllCome v x ds) (sym same) (event_comes event ds may like)

-- ---- the labels of moves

module _ (v : View ItemOut) where
  abbrev Like : Option E → List D → Type 0
  Like event ds = IsLike event ds

  nothing : (event : Option E) → event ≡ None → Like event []
  nothing event is = subst (λ x. Like x []) (sym is) (inl refl)

  of_the_row : (tell : ℕ → E) (row : Row ItemOut) (ds : List D) (event : Option E) → v.row ≡ Some row → event ≡ of_row tell v → IsLike (Some (tell row.number)) ds → Like event ds
  of_the_row tell row ds event is_row is like = subst (λ x. Like x ds) (sym (is ∙ ap (λ o. option_map tell (row_number o)) is_row)) like

  of_the_own : (tell : ℕ → E) (own : Own ItemOut) (ds : List D) (event : Option E) → v.own ≡ Some own → event ≡ of_own tell v → IsLike (Some (tell own.number)) ds → Like event ds
  of_the_own tell own ds event is_own is like = subst (λ x. Like x ds) (sym (is ∙ ap (λ o. option_map tell (own_number o)) is_own)) like

  dropped : (event : Option E) → event ≡ of_own Dropped v → Like event (Drops ∷ [])
  dropped event is = subst (λ x. Like x (Drops ∷ [])) (sym is) (by (own_number v.own))
    where
      by : (o : Option ℕ) → IsLike (option_map Dropped o) (Drops ∷ [])
      by None = inr (inr (inr refl))
      by (Some p) = inr (inr (inr refl))

  labelled : (move : LinkMove ItemOut) (next : View ItemOut) (event : Option E) → LinkMoves move v next → Tells move v event → Like event (label_of move)
  labelled (Cuts k i j) next event by is = nothing event is
  labelled (Dials k) next event by is = nothing event is
  labelled (LetsGo k) next event by is = nothing event is
  labelled (Foots k) next event by is = nothing event is
  labelled Forgets next event by is = dropped event is
  labelled (Puts k z) next event by is = of_the_own (λ p. Said p z) by.own (Says z ∷ []) event by.is_own is refl
  labelled (Queues z) next event by is = of_the_own (λ p. Said p z) by.own (Says z ∷ []) event by.is_own is refl
  labelled (Requests k) next event by is = nothing event is
  labelled (ReadsHand k) next event by is = nothing event is
  labelled (AsksToResume k) next event by is = nothing event is
  labelled (AsksToBind k) next event by is = nothing event is
  labelled (ReadsFailed k) next event by is = dropped event is
  labelled (ReadsResumed k) next event by is = of_the_own (λ p. Learned p is.0) by.own (Learns ∷ []) event by.is_own is.1 (inr (inr (inl refl)))
  labelled (ReadsBound k m) next event by is = subst (λ x. Like x (Names ∷ [])) (sym is) refl
  labelled (ReadsEnabled k m) next event by is = subst (λ x. Like x (Enters ∷ [])) (sym is) (inr (inl refl))
  labelled (ReadsStanza k z) next event by is = of_the_own (λ p. Heard p z) by.own (Reads z ∷ []) event by.is_own is refl
  labelled (ReadsRequest k) next event by is = nothing event is
  labelled (ReadsCount k h) next event by is = of_the_own (λ p. Learned p h) by.own (Learns ∷ []) event by.is_own is (inr (inr (inl refl)))
  labelled (TakesHand k) next event by is = nothing event is
  labelled (TakesResume k) next event by is = nothing event is
  labelled (TakesLateResume k) next event by is = nothing event is
  labelled (TakesStrangeResume k) next event by is = nothing event is
  labelled (TakesHighResume k) next event by is = of_the_row Ended by.row [] event by.is_row is (inl refl)
  labelled (TakesBind k m) next event by is = subst (λ x. Like x []) (sym is) (inl refl)
  labelled (TakesEnable k) next event by is = of_the_row Counted by.row [] event by.is_row is (inl refl)
  labelled (TakesStanza k z) next event by is = of_the_row (λ p. Handled p z) by.row (Takes z ∷ []) event by.is_row is refl
  labelled (TakesRequest k) next event by is = nothing event is
  labelled (TakesCount k h) next event by is = nothing event is
  labelled (TakesFoot k) next event by is = nothing event is
  labelled (Parks k) next event by is = nothing event is
  labelled (Hears k) next event by is = nothing event is
  labelled (HearsEarly k) next event by is = of_the_row Ended by.row [] event by.is_row is (inl refl)
  labelled (Detaches k ending) next event by is = nothing event is
  labelled (Shuts k ending) next event by is = of_the_row Ended by.row [] event by.is_row is (inl refl)
  labelled EndsRow next event by is = of_the_row Ended by.row [] event by.is_row is (inl refl)
  labelled (Serves k z) next event by is = of_the_row (λ p. Served p z) by.row (Gives z ∷ []) event by.is_row is refl
  labelled (Keeps z) next event by is = of_the_row (λ p. Served p z) by.row (Gives z ∷ []) event by.is_row is refl
  labelled (Demands k) next event by is = nothing event is

-- ---- along moves

both_grow : (now later : ℕ) (a b : List D) (e : ℕ) (t u w : S) → epoch_after now a ≡ later → Grows now a e t u → Grows later b e u w → Grows now (a ++ b) e t w
both_grow now later a b e t u w is one two = record {
  up_put = two.up_put ∙ ap (λ l. l ++ in_epoch said_by later b e) one.up_put ∙ joined said_by t.up_put;
  up_got = two.up_got ∙ ap (λ l. l ++ in_epoch taken_by later b e) one.up_got ∙ joined taken_by t.up_got;
  down_put = two.down_put ∙ ap (λ l. l ++ in_epoch given_by later b e) one.down_put ∙ joined given_by t.down_put;
  down_got = two.down_got ∙ ap (λ l. l ++ in_epoch read_by later b e) one.down_got ∙ joined read_by t.down_got;
}
  where
    joined : (pick : D → List ItemOut) (l : List ItemOut) → (l ++ in_epoch pick now a e) ++ in_epoch pick later b e ≡ l ++ in_epoch pick now (a ++ b) e
    joined pick l =
        append_assoc l (in_epoch pick now a e) (in_epoch pick later b e) ∙ ap (λ n. l ++ (in_epoch pick now a e ++ in_epoch pick n b e)) (sym is) ∙ ap (λ m. l ++ m) (sym (in_epoch_joined pick now a b e))

no_move : (now e : ℕ) (t : S) → Grows now [] e t t
no_move now e t = record { up_put = sym (append-nil t.up_put); up_got = sym (append-nil t.up_got); down_put = sym (append-nil t.down_put); down_got = sym (append-nil t.down_got) }

moves_come : (moves : List (LinkMove ItemOut)) (v last : View ItemOut) (d : Sessions) → LinkReached v → LinkReaches moves v last → IsDevice stanzas_read (seen v) d → (q e : ℕ) → Comes v.epoch last.epoch (labels_of moves) e ((seen v).sessions q) ((seen last).sessions q)
moves_come [] v last d reached same is q e for =
    let all : Comes v.epoch last.epoch [] e ((seen v).sessions q) ((seen last).sessions q) =
    subst (λ (u : View ItemOut). Comes v.epoch u.epoch [] e ((seen v).sessions q) ((seen u).sessions q)) (sym same) (λ now_for. (now_for, no_move v.epoch e (was ((seen v).sessions q)))) in
    all for
moves_come (move ∷ moves) v last d reached (next, by, along) is q e for =
    let l = move_leads stanzas_read move v next d reached by is in
    let one = seen_comes (seen v) d is l.0 (seen next) (label_of move) l.2 (labelled v move next l.0 by l.1) in
    let rest = moves_come moves next last l.3.0 (link_more v next move reached by) along l.3.2 q e for in
    let here = one.0 q e rest.0 in
    (here.0, both_grow v.epoch next.epoch (label_of move) (labels_of moves) e (was ((seen v).sessions q)) (was ((seen next).sessions q)) (was ((seen last).sessions q)) one.1 here.1 rest.1)

-- What each session that has an epoch got by moves of the links is told by the labels that are of this epoch.
pub lists_grow : (moves : List (LinkMove ItemOut)) (v last : View ItemOut) (d : Sessions) → LinkReached v → LinkReaches moves v last → IsDevice stanzas_read (seen v) d → (q e : ℕ) (t : S) → (seen last).sessions q ≡ Some t → t.epoch ≡ Some e →
    Grows v.epoch (labels_of moves) e (was ((seen v).sessions q)) t
lists_grow moves v last d reached leads is q e t there epoch =
    let all = moves_come moves v last d reached leads is q e (subst (λ o. IsFor e o last.epoch) (sym there) (inl epoch)) in
    subst (λ o. Grows v.epoch (labels_of moves) e (was ((seen v).sessions q)) (was o)) there all.1
