-- The client can take each word that comes.
use Rattle.std.proofs.Common.{◌≡◌, ℕ, ◌+◌, ◌-◌, List, [], ◌∷◌, length, drop, refl, sym, ap, ◌∙◌, subst, inl, inr, Option, None, Some}
use Rattle.sim_2_links.proofs.Entries.{at_same}
use Rattle.sim_2_links.proofs.Tables.{cut_stops, cut_down_words}
use Rattle.sim_2_links.proofs.CutLinks.{cut_conn}
use Rattle.sim_2_links.proofs.Heard.{down_words_up}
use Rattle.sim_2_links.proofs.ReadResumed.{resent_if}
use Rattle.sim_2_links.proofs.ReadBound.{named_if}
use Rattle.sim_2_links.proofs.ReadEnabled.{known_if}
use Rattle.sim_2_links.proofs.Expected.{expected_down}
use Rattle.sim_2_links.specs.Words.{Traffic, St, Req, Ack, UpWord, Hdr, Auth, Resp, ResumeAt, Bind, Enable, Up, DownWord, Head, Feat, Chal, Succ, Failed, Resumed, Bound, Enabled, Down, Err, End, Client, InFeatures1, InAuth, InResponse, InHeader2, InFeatures2, InResume, InBind, InEnable, InOnline, down_stanzas}
use Rattle.sim_2_links.specs.Wires.{is_flowing, up_words, down_words, send_up, left_down}
use Rattle.sim_2_links.specs.Stages.{Goes, client_hand, Conn, IsEarly}
use Rattle.sim_2_links.specs.Views.{with_at, alter, has, Own, View}
use Rattle.sim_2_links.specs.LinkMoves.{ways_cut, read_if, told_if, heard_if}
use Rattle.sim_2_links.specs.SessionMoves.{again}
use Rattle.sim_2_links.specs.Links.{LinkKept}
use Rattle.sim_2_links.specs.Machine.{LinkMove, Cuts, LetsGo, ReadsHand, AsksToResume, AsksToBind, ReadsFailed, ReadsResumed, ReadsBound, ReadsEnabled, ReadsStanza, ReadsRequest, ReadsCount, LinkMoves}
use Rattle.sim_2_links.specs.Promises.{IsExpectedDown, IsRead}

by_move : {A : Type 0} (move : LinkMove A) (v next : View A) (k : ℕ) (conn : Conn A) (rest : List (DownWord A)) → LinkMoves move v next → next.conns k ≡ Some conn → down_words conn.wires ≡ rest → IsRead v k rest
by_move move v next k conn rest by is taken = record { moves = move ∷ []; next = next; reaches = (next, by, refl); conn = conn; is = is; taken = inl taken }

by_hand : {A : Type 0} (v : View A) (k : ℕ) (c : Conn A) (w : DownWord A) (rest : List (DownWord A)) (client : Client) (puts : List (UpWord A)) → v.here ≡ Some k → v.conns k ≡ Some c → down_words c.wires ≡ w ∷ rest → IsEarly c.client → client_hand None c.client w ≡ Goes client puts → IsRead v k rest
by_hand v k c w rest client puts here is first early hand =
    let this : Conn _ = record c { client = client; wires = send_up puts (left_down rest c.wires) } in
    by_move (ReadsHand k) v (record v { conns = with_at k this v.conns }) k this rest (record { conn = c; here = here; is = is; word = w; rest = rest; first = first; early = early; client = client; puts = puts; hand = hand; gives = refl })
    (at_same k this v.conns) (down_words_up puts rest c.wires)

features_read : {A : Type 0} (v : View A) (k : ℕ) (c : Conn A) (rest : List (DownWord A)) → v.here ≡ Some k → v.conns k ≡ Some c → down_words c.wires ≡ Feat ∷ rest → c.client ≡ InFeatures2 → IsRead v k rest
features_read {A = A} v k c rest here is first client = by v.own refl
  where
    by : (o : Option (Own A)) → v.own ≡ o → IsRead v k rest
    by None none =
        let this : Conn A = record c { client = InBind; wires = send_up (Bind ∷ []) (left_down rest c.wires) } in
        by_move (AsksToBind k) v (record v { conns = with_at k this v.conns }) k this rest (record { conn = c; here = here; is = is; rest = rest; first = first; client = client; none = none; gives = refl })
        (at_same k this v.conns) (down_words_up (Bind ∷ []) rest c.wires)
    by (Some o) own =
        let this : Conn A = record c { client = InResume o.number; wires = send_up (ResumeAt o.number o.handled ∷ []) (left_down rest c.wires) } in
        by_move (AsksToResume k) v (record v { conns = with_at k this v.conns; sessions = alter (λ q s. told_if (has (Some o.number) q) s) v.sessions }) k this rest
        (record { conn = c; here = here; is = is; rest = rest; first = first; client = client; own = o; is_own = own; gives = refl })
        (at_same k this v.conns) (down_words_up (ResumeAt o.number o.handled ∷ []) rest c.wires)

traffic_read : {A : Type 0} (v : View A) (k : ℕ) (c : Conn A) (t : Traffic A) (rest : List (DownWord A)) (o : Own A) → v.here ≡ Some k → v.conns k ≡ Some c → down_words c.wires ≡ Down t ∷ rest → v.own ≡ Some o → c.client ≡ InOnline o.number → IsRead v k rest
traffic_read {A = A} v k c (St z) rest o here is first own client =
    let this : Conn A = record c { wires = send_up [] (left_down rest c.wires) } in
    by_move (ReadsStanza k z) v (record v { conns = with_at k this v.conns; own = Some (record o { handled = o.handled + 1 }); sessions = alter (λ q s. read_if (has (Some o.number) q) z (down_stanzas rest) s) v.sessions }) k this rest
    (record { conn = c; here = here; is = is; rest = rest; first = first; own = o; is_own = own; client = client; gives = refl }) (at_same k this v.conns) (down_words_up [] rest c.wires)
traffic_read {A = A} v k c Req rest o here is first own client =
    let this : Conn A = record c { wires = send_up (Up (Ack o.handled) ∷ []) (left_down rest c.wires) } in
    by_move (ReadsRequest k) v (record v { conns = with_at k this v.conns; sessions = alter (λ q s. told_if (has (Some o.number) q) s) v.sessions }) k this rest
    (record { conn = c; here = here; is = is; rest = rest; first = first; own = o; is_own = own; client = client; gives = refl }) (at_same k this v.conns) (down_words_up (Up (Ack o.handled) ∷ []) rest c.wires)
traffic_read {A = A} v k c (Ack h) rest o here is first own client =
    let this : Conn A = record c { wires = send_up [] (left_down rest c.wires) } in
    by_move (ReadsCount k h) v (record v { conns = with_at k this v.conns; own = Some (record o { acked = h; queue = drop (h - o.acked) o.queue }); sessions = alter (λ q s. heard_if (has (Some o.number) q) h s) v.sessions }) k this rest
    (record { conn = c; here = here; is = is; rest = rest; first = first; own = o; is_own = own; client = client; gives = refl }) (at_same k this v.conns) (down_words_up [] rest c.wires)

-- at an error the client leaves: all on its way down is lost
left_at : {A : Type 0} (v : View A) (k : ℕ) (c : Conn A) (rest : List (DownWord A)) → v.here ≡ Some k → v.conns k ≡ Some c → IsRead v k rest
left_at {A = A} v k c rest here is =
    let mid : View A = record v { conns = with_at k (cut_conn (length (up_words c.wires)) 0 c) v.conns; sessions = alter (ways_cut (has v.here k) c (length (up_words c.wires)) 0) v.sessions } in
    record {
      moves = Cuts k (length (up_words c.wires)) 0 ∷ LetsGo k ∷ [];
      next = record mid { here = None };
      reaches = (
        mid,
        record { conn = c; is = is; gives = refl },
        (
          record mid { here = None },
          record {
            conn = cut_conn (length (up_words c.wires)) 0 c;
            here = here;
            is = at_same k (cut_conn (length (up_words c.wires)) 0 c) v.conns;
            ended = cut_stops (length (up_words c.wires)) 0 c.wires;
            empty = cut_down_words (length (up_words c.wires)) 0 c.wires;
            gives = refl;
          },
          refl,
        ),
      );
      conn = cut_conn (length (up_words c.wires)) 0 c;
      is = at_same k (cut_conn (length (up_words c.wires)) 0 c) v.conns;
      taken = inr refl;
    }

pub down_read : {A : Type 0} (v : View A) (k : ℕ) (c : Conn A) (w : DownWord A) (rest : List (DownWord A)) → LinkKept v → v.here ≡ Some k → v.conns k ≡ Some c → down_words c.wires ≡ w ∷ rest → IsRead v k rest
down_read {A = A} v k c w rest kept here is first = by w first (expected_down v k c w rest kept here is first)
  where
    by : (w : DownWord A) → down_words c.wires ≡ w ∷ rest → IsExpectedDown v c.client w → IsRead v k rest
    by Head f (inl e) = by_hand v k c Head rest InFeatures1 [] here is f (subst IsEarly (sym e) tt) (ap (λ x. client_hand None x Head) e)
    by Head f (inr e) = by_hand v k c Head rest InFeatures2 [] here is f (subst IsEarly (sym e) tt) (ap (λ x. client_hand None x Head) e)
    by Feat f (inl e) = by_hand v k c Feat rest InAuth (Auth ∷ []) here is f (subst IsEarly (sym e) tt) (ap (λ x. client_hand None x Feat) e)
    by Feat f (inr e) = features_read v k c rest here is f e
    by Chal f e = by_hand v k c Chal rest InResponse (Resp ∷ []) here is f (subst IsEarly (sym e) tt) (ap (λ x. client_hand None x Chal) e)
    by Succ f e = by_hand v k c Succ rest InHeader2 (Hdr ∷ []) here is f (subst IsEarly (sym e) tt) (ap (λ x. client_hand None x Succ) e)
    by Failed f (o, own, client) =
        let this : Conn A = record c { client = InBind; wires = send_up (Bind ∷ []) (left_down rest c.wires) } in
        by_move (ReadsFailed k) v (record v { conns = with_at k this v.conns; own = None }) k this rest (record { conn = c; here = here; is = is; rest = rest; first = f; p = o.number; client = client; gives = refl })
        (at_same k this v.conns) (down_words_up (Bind ∷ []) rest c.wires)
    by (Resumed p h) f (o, own, same, client) =
        let puts : List (UpWord A) = again (drop (h - o.acked) o.queue) in
        let this : Conn A = record c { client = InOnline o.number; wires = send_up (again (drop (h - o.acked) o.queue)) (left_down rest c.wires) } in
        by_move (ReadsResumed k) v (record v { conns = with_at k this v.conns; own = Some (record o { acked = h; queue = drop (h - o.acked) o.queue }); sessions = alter (λ q s. resent_if (has (Some o.number) q) (is_flowing c.wires) s) v.sessions }) k this rest
        (record { conn = c; here = here; is = is; own = o; is_own = own; client = client ∙ ap InResume (sym same); h = h; rest = rest; first = f ∙ ap (λ (n : ℕ). Resumed n h ∷ rest) (sym same); gives = refl })
        (at_same k this v.conns) (down_words_up puts rest c.wires)
    by (Bound m) f (none, client) =
        let this : Conn A = record c { client = InEnable; wires = send_up (Enable ∷ []) (left_down rest c.wires) } in
        by_move (ReadsBound k m) v (record v { conns = with_at k this v.conns; epoch = v.epoch + 1; sessions = alter (λ q s. named_if (has (Some m) q) (v.epoch + 1) s) v.sessions }) k this rest
        (record { conn = c; here = here; is = is; rest = rest; first = f; client = client; gives = refl }) (at_same k this v.conns) (down_words_up (Enable ∷ []) rest c.wires)
    by (Enabled m) f (none, client) =
        let this : Conn A = record c { client = InOnline m; wires = send_up [] (left_down rest c.wires) } in
        by_move (ReadsEnabled k m) v (record v { conns = with_at k this v.conns; own = Some (record { number = m; acked = 0; handled = 0; queue = [] }); sessions = alter (λ q s. known_if (has (Some m) q) s) v.sessions }) k this rest
        (record { conn = c; here = here; is = is; rest = rest; first = f; client = client; gives = refl }) (at_same k this v.conns) (down_words_up [] rest c.wires)
    by (Down t) f (o, own, client) = traffic_read v k c t rest o here is f own client
    by (Err cause) f e = left_at v k c rest here is
    by End f e = absurd e
