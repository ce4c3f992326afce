-- The labels of a device whose pages are in time are in time.
use Rattle.std.proofs.Common.{◌≡◌, ◌≤◌, ◌+◌, ℕ, Bool, true, false, List, [], ◌∷◌, ◌++◌, Option, Some, None, Ok, Err, drop, length, map, refl, sym, ap, ◌∙◌, subst, if◌then◌else◌, append_assoc, arith}
use Rattle.std.proofs.lemmas.Bool.Decides.{nat_tests}
use Rattle.std.proofs.lemmas.List.{length-drop}
use Rattle.std.specs.Prelude.{nat_le}
use Rattle.cl_core.specs.UserCalls.{is_bad_text, outbox_bound, say_answer, say_in}
use Rattle.cl_core.specs.declared.faults.SayFault.TheVariants as say
use Rattle.sim_5_devices.proofs.Kept.{begins_empty, plain_read}
use Rattle.sim_5_devices.specs.Pages.{EndsFor, IsPaged}
use Rattle.sim_3_items.specs.Clients.{ClientRepresents, IsOwnRepresented}
use Rattle.sim_3_items.specs.Labels.{Enters, Reads, Says, Takes, gives_all, says_all}
use Rattle.sim_3_items.specs.Identities.{Identity, Login}
use Rattle.sim_3_items.specs.Downs.{down_stanza}
use Rattle.sim_3_items.specs.Items.{stanzas_read}
use Rattle.sim_3_items.specs.Ups.{up_stanza}
use Rattle.sim_3_items.specs.ItemWorlds.{ItemDevice}
use Rattle.sim_3_items.proofs.SaidTexts.{may_say}
use Rattle.sim_2_links.proofs.Many.{many_append}
use Rattle.sim_2_links.proofs.Reached.{link_kept}
use Rattle.sim_2_links.specs.Events.{seen}
use Rattle.sim_2_links.specs.Machine.{LinkReached}
use Rattle.sim_2_links.specs.Paging.{many, one_if}
use Rattle.sim_2_links.specs.Views.{Own, View}
use Rattle.sim_2_events.specs.Lists.{IsDevice}
use Rattle.sim_5_devices.proofs.Put.{own_session, queue_length}
use Rattle.sim_5_devices.specs.InTime.{AreInTime, MayEnd, MayGive, MaySay, is_end, is_query, read_by, taken_by}
use Rattle.sm_outbox.specs.Sessions.{SessionView}
use Rattle.sm_outbox.specs.Submissions.{next_number}
use Rattle.im_requests.specs.Sessions.{available_item, carbons_item}
use Rattle.sim_1_applications.specs.Devices.{Counted, Device, Session, Sessions, up_put}
use Rattle.sim_1_applications.specs.Events as events
use Rattle.sim_1_applications.specs.Kept.{SessionsKept}
use Rattle.sim_1_applications.specs.Stanzas.{Accepted, Bounced, Carbons, Down, Fin, Live, Message, NotFound, Presence, Query, Request, Res, Up}
use Rattle.xml_writer.specs.Items.{ItemOut}

-- ---- the server

give_where : (z : Down) (s : Session) → (is_end z ≡ true → MayEnd s) → MayGive z s
give_where (Fin q complete last count) s may = may refl
give_where (NotFound q) s may = may refl
give_where Accepted s may = tt
give_where (Bounced e n) s may = tt
give_where (Live n) s may = tt
give_where (Res q n) s may = tt

-- no more ends are given than are due
given_in_time : (zs : List ItemOut) (s : Session) → many is_end (s.down_got ++ s.down_rest) + many is_end (map down_stanza zs) ≤ many is_query s.up_got → AreInTime (gives_all zs) s
given_in_time [] s due = tt
given_in_time (z ∷ zs) s due = (
  give_where (down_stanza z) s (λ ends. let one = ap one_if ends in omega arith),
  given_in_time zs (record s { down_rest = s.down_rest ++ down_stanza z ∷ [] })
      (let a = many_append is_end s.down_got s.down_rest in
      let b = many_append is_end s.down_rest (down_stanza z ∷ []) in
      let c = many_append is_end s.down_got (s.down_rest ++ down_stanza z ∷ []) in
      omega arith),
)

pub takes_in_time : (d : Device) (z : ItemOut) (zs : List ItemOut) → IsPaged d → EndsFor z zs → AreInTime (Takes z ∷ gives_all zs) d.sessions.now
takes_in_time d z zs paged few =
    given_in_time zs (taken_by (up_stanza z) d.sessions.now)
    (let old = paged.given in let got = many_append is_query d.sessions.now.up_got (up_stanza z ∷ []) in omega arith)

-- messages, whatever was put before
pub gives_in_time : (s : Session) (zs : List ItemOut) → many is_end (map down_stanza zs) ≡ 0 → AreInTime (gives_all zs) s
gives_in_time s [] none = tt
gives_in_time s (z ∷ zs) none = (
  give_where (down_stanza z) s (λ ends. absurd (let one = ap one_if ends in omega arith)),
  gives_in_time (record s { down_rest = s.down_rest ++ down_stanza z ∷ [] }) zs (omega arith),
)

-- ---- the client

say_where : (z : Up) (s : Session) → is_query z ≡ true → many is_query (up_put s) ≤ many is_end s.down_got → MaySay z s
say_where (Query r) s asks ended = ended
say_where Carbons s asks ended = absurd (let no_way : ⊥ = cc in no_way)
say_where Presence s asks ended = absurd (let no_way : ⊥ = cc in no_way)
say_where (Message m) s asks ended = absurd (let no_way : ⊥ = cc in no_way)

say_room : (z : Up) (s : Session) → is_query z ≡ false → length (drop s.acked (up_put s)) + 1 ≤ 1000 → MaySay z s
say_room (Query r) s other room = absurd (let no_way : ⊥ = cc in no_way)
say_room Carbons s other room = room
say_room Presence s other room = room
say_room (Message m) s other room = room

pub says_in_time : (s : Session) (z : ItemOut) → is_query (up_stanza z) ≡ false → length (drop s.acked (up_put s)) + 1 ≤ 1000 → AreInTime (Says z ∷ []) s
says_in_time s z other room = (say_room (up_stanza z) s other room, tt)

pub asks_in_time : (d : Device) (z : ItemOut) → IsPaged d → d.sessions.online ≡ true → d.reading.page ≡ None → is_query (up_stanza z) ≡ true → AreInTime (Says z ∷ []) d.sessions.now
asks_in_time d z paged online none asks = (say_where (up_stanza z) d.sessions.now asks (paged.ended online none), tt)

-- what it puts as it reads a stanza
one_asked : (zs : List ItemOut) (r : Request) (s : Session) → map up_stanza zs ≡ Query r ∷ [] → many is_query (up_put s) ≤ many is_end s.down_got → AreInTime (says_all zs) s
one_asked [] r s is ended = tt
one_asked (z ∷ []) r s is ended = let same : up_stanza z ≡ Query r = cc in (say_where (up_stanza z) s (ap is_query same) ended, tt)
one_asked (z ∷ y ∷ zs) r s is ended = absurd (let no_way : ⊥ = cc in no_way)

none_said : (zs : List ItemOut) (s : Session) → map up_stanza zs ≡ [] → AreInTime (says_all zs) s
none_said [] s is = tt
none_said (z ∷ zs) s is = absurd (let no_way : ⊥ = cc in no_way)

pub reads_in_time : (a : events.Around) (d : Device) (z : ItemOut) (zs : List ItemOut) → IsPaged d → map up_stanza zs ≡ events.queries (events.reads a (down_stanza z) d.reading).request → AreInTime (Reads z ∷ says_all zs) d.sessions.now
reads_in_time a d z zs paged is = by (is_end (down_stanza z)) refl (events.reads a (down_stanza z) d.reading).request refl
  where
    following : Session
    following = read_by (down_stanza z) d.sessions.now

    by : (b : Bool) → is_end (down_stanza z) ≡ b → (o : Option Request) → (events.reads a (down_stanza z) d.reading).request ≡ o → AreInTime (says_all zs) following
    by b end None none = none_said zs following (is ∙ ap events.queries none)
    by true end (Some r) asks =
        one_asked zs r following (is ∙ ap events.queries asks) (
        let s = d.sessions.now in
        let old = paged.asked in
        let one = ap one_if end in
        let got = many_append is_end s.down_got (down_stanza z ∷ []) in
        let before = many_append is_query s.up_got s.up_rest in
        omega arith
        )
    by false other (Some r) asks = let none = plain_read a (down_stanza z) d.reading other in absurd (let both : Some r ≡ None = sym asks ∙ none.request in let no_way : ⊥ = cc in no_way)

-- ---- the user submits

pub room_to_say : (who : Identity) (logins : ℕ → Login) (c : ItemDevice) (v : View ItemOut) (d : Sessions) (text : List ℕ) (n : ℕ) → LinkReached v → ClientRepresents who logins c v → IsDevice stanzas_read (seen v) d → say_answer c.client text ≡ Ok n
    → length (drop d.now.acked (up_put d.now)) + 1 ≤ 1000
room_to_say who logins c v d text n reached represents device answer = by v.own c.client.session refl represents.own (may_say c.client (is_bad_text text) n answer)
  where
    less : (b : Bool) → (if b then Err say.OutboxFull else Ok (next_number c.client.n)) ≡ Ok n → b ≡ false
    less true e = absurd (let no_way : ⊥ = cc in no_way)
    less false e = refl

    small : (m : ℕ) → nat_le 1000 m ≡ false → m + 1 ≤ 1000
    small m few = grind (arith, nat_tests)

    by : (o : Option (Own ItemOut)) (s : Option (SessionView ItemOut)) → v.own ≡ o → IsOwnRepresented o s → say_in c.client s ≡ Ok n → length (drop d.now.acked (up_put d.now)) + 1 ≤ 1000
    by o None own shown may = absurd (let no_way : ⊥ = cc in no_way)
    by None (Some s) own shown may = absurd shown
    by (Some o) (Some s) own shown may =
        let kept = link_kept v reached in
        let mine = own_session v d kept device o own in
        let few = small (length s.waiting.queue) (less (nat_le outbox_bound (length s.waiting.queue)) may) in
        let same = ap length shown.queue ∙ queue_length v d kept device o mine.0 mine.2 mine.3 in
        subst (λ m. m + 1 ≤ 1000) same few

-- ---- a session begins

pub enters_in_time : (d : Device) → SessionsKept d.sessions → d.sessions.now.stage ≡ Counted → AreInTime (Enters ∷ Says carbons_item ∷ Says available_item ∷ []) d.sessions.now
enters_in_time d sessions stage =
    let s = d.sessions.now in
    let none = begins_empty d sessions stage in (
      at_most s.acked (up_put s) (ap length none),
      (at_most_one s.acked (s.up_got ++ (s.up_rest ++ Carbons ∷ [])) (ap length (sym (append_assoc s.up_got s.up_rest (Carbons ∷ [])) ∙ ap (λ l. l ++ Carbons ∷ []) none)), tt),
    )
  where
    at_most : (acked : ℕ) (l : List Up) → length l ≡ 0 → length (drop acked l) + 1 ≤ 1000
    at_most acked l is = let e = length-drop acked l in omega arith

    at_most_one : (acked : ℕ) (l : List Up) → length l ≡ 1 → length (drop acked l) + 1 ≤ 1000
    at_most_one acked l is = let e = length-drop acked l in omega arith
